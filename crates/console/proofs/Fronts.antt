-- Bytes written to the front of a buffer. Assumes nothing.
use Rattle.std.proofs.Common.{◌≡◌, ℕ, ◌+◌, ◌^◌, ◌<◌, ◌≤◌, Bool, List, [], ◌∷◌, ◌++◌, length, take, drop, Some, Ok, codes, decimal, MatchBool, Result, sym, refl, ap, ◌∙◌, subst, ap₂, append_assoc, arith, length-append}
use Rattle.std.proofs.lemmas.List.{take_at, take-append-drop}
use Rattle.std.proofs.lemmas.Bool.{le-ltb}
use Rattle.network.specs.declared.refusal.Refusal.{Refusal}
use Rattle.network.specs.Refusals.{refusal_in}
use Rattle.text.specs.Put.{Put}
use Rattle.text.proofs.Puts.{put_front}
use Rattle.measure.proofs.Decimals.{length_long}
use Rattle.console.specs.declared.reply.Reply.{Reply}
use Rattle.console.specs.declared.reply.Reply.TheVariants.{Done, Refused, Cost, Route}
use Rattle.std.specs.List.{flat_map}
use Rattle.console.specs.Replies.{after_blank, reply_line, Writes}
use Rattle.console.specs.Heads.{head, listed, whole}

-- the bytes at the front, taken out again
pub front_taken : (bytes rest whole : List ℕ) (n : ℕ) → n ≡ length bytes → whole ≡ bytes ++ rest → take n whole ≡ bytes
front_taken bytes rest whole n long is = ap (take n) is ∙ take_at bytes rest n (sym long)

-- a word and a number end soon
pub number_near : (word : List ℕ) (n : ℕ) {before after : List ℕ} {at end : ℕ} → n < 2 ^ 64 → Put (word ++ decimal n) before at after end → end ≤ at + (length word + 20)
number_near word n {before} {after} {at} {end} small put = omega (arith, length-append word (decimal n), length_long n small, put.ends)

pub written_whole : (bytes before after : List ℕ) (n : ℕ) → Put bytes before 0 after n → Writes bytes before (Ok n) after
written_whole bytes before after n put =
    let end : n ≡ length bytes = omega (arith, put.ends) in
    subst (λ (b : Bool). MatchBool b ((refusal_in (Ok n) ≡ Some 19) × (after ≡ before))
    ((◌≡◌ {A = Result ℕ Refusal} (Ok n) (Ok (length bytes))) × (after ≡ bytes ++ drop (length bytes) before)))
    (sym (le-ltb (length before) (length bytes) (omega (arith, put.fits))))
    (ap (λ (x : ℕ). Ok x) end, put_front put ∙ ap (λ (x : ℕ). bytes ++ drop x before) end)

regrouped : (a b c d e f g h i j z : List ℕ)
    → ((a ++ b) ++ ((c ++ d) ++ ((e ++ f) ++ ((g ++ h) ++ i)))) ++ (j ++ z) ≡ (a ++ b ++ c ++ d ++ e ++ f ++ g ++ h ++ i ++ j) ++ z
regrouped a b c d e f g h i j z = simp append_assoc

-- the parts of a reply are its line
pub reply_parts : {C : Type 0} (text : C → List ℕ) (links : List ℕ) (reply : Reply C) → whole (head text (length links) reply) (listed links reply) ≡ reply_line text links reply
reply_parts text links Done = refl
reply_parts text links (Refused refusal) = simp append_assoc
reply_parts text links (Cost cost) = simp append_assoc
reply_parts text links (Route n cost shared) =
    regrouped (codes "route ") (decimal n) (codes " cost ") (text cost) (codes " links ") (decimal (length links)) (codes " shared ") (decimal shared) (codes " via")
    (flat_map after_blank links) (10 ∷ [])

-- what is written from the parts of a reply is its line
pub line_written : {C : Type 0} (text : C → List ℕ) (links : List ℕ) (reply : Reply C) (front named before : List ℕ) (r : Result ℕ Refusal) (after : List ℕ)
    → front ≡ head text (length links) reply → named ≡ listed links reply → Writes (whole front named) before r after → Writes (reply_line text links reply) before r after
line_written text links reply front named before r after same same' written =
    subst (λ (x : List ℕ). Writes x before r after) (ap₂ whole same same' ∙ reply_parts text links reply) written
