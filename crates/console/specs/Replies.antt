-- Replies as lines of text.
--     after_blank n                  a blank and the number in decimal
--     reply_text text links reply    the words of a reply, where text gives the bytes of a cost; the links are a route's
--     reply_line text links reply    the bytes of a reply: its words and a line feed
--     Writes bytes before r after    r answers the writing of bytes to the front of a buffer, which held `before` and holds `after` then
use Rattle.std.specs.Prelude.{◌≡◌, ℕ, List, [], ◌∷◌, ◌++◌, length, drop, Some, Ok, codes, decimal, MatchBool, Result, nat_lt}
use Rattle.std.specs.List.{flat_map}
use Rattle.network.specs.declared.refusal.Refusal.{Refusal}
use Rattle.network.specs.Refusals.{number, refusal_in}
use Rattle.console.specs.declared.reply.Reply.{Reply}
use Rattle.console.specs.declared.reply.Reply.TheVariants.{Done, Refused, Cost, Route}

abbrev pub after_blank : ℕ → List ℕ
after_blank n = codes " " ++ decimal n

abbrev pub reply_text : {C : Type 0} → (C → List ℕ) → List ℕ → Reply C → List ℕ
reply_text text links Done = codes "ok"
reply_text text links (Refused refusal) = codes "refused " ++ decimal (number refusal)
reply_text text links (Cost cost) = codes "cost " ++ text cost
reply_text text links (Route n cost shared) =
    codes "route " ++ decimal n ++ codes " cost " ++ text cost ++ codes " links " ++ decimal (length links) ++ codes " shared " ++ decimal shared ++ codes " via" ++ flat_map after_blank links

abbrev pub reply_line : {C : Type 0} → (C → List ℕ) → List ℕ → Reply C → List ℕ
reply_line text links reply = reply_text text links reply ++ (10 ∷ [])

-- refusal 19 where the buffer is too short, and then it stays; else the number of bytes, and what lies behind them stays
abbrev pub Writes : List ℕ → List ℕ → Result ℕ Refusal → List ℕ → Type 0
Writes bytes before r after =
    MatchBool (nat_lt (length before) (length bytes))
    ((refusal_in r ≡ Some 19) × (after ≡ before))
    ((r ≡ Ok (length bytes)) × (after ≡ bytes ++ drop (length bytes) before))
