-- A reply in the parts that are written one after another.
--     head text links reply    what stands in a reply before the links, where there are so many of them
--     listed links reply       the links that a reply lists: those of a route, else none
--     whole front links        what stands before the links, the links each after a blank, and a line feed
use Rattle.std.specs.Prelude.{ℕ, List, [], ◌∷◌, ◌++◌, codes, decimal}
use Rattle.std.specs.List.{flat_map}
use Rattle.network.specs.Refusals.{number}
use Rattle.console.specs.declared.reply.Reply.{Reply}
use Rattle.console.specs.declared.reply.Reply.TheVariants.{Done, Refused, Cost, Route}
use Rattle.console.specs.Replies.{after_blank}

abbrev pub head : {C : Type 0} → (C → List ℕ) → ℕ → Reply C → List ℕ
head text links Done = codes "ok"
head text links (Refused refusal) = codes "refused " ++ decimal (number refusal)
head text links (Cost cost) = codes "cost " ++ text cost
head text links (Route n cost shared) =
    (codes "route " ++ decimal n) ++ ((codes " cost " ++ text cost) ++ ((codes " links " ++ decimal links) ++ ((codes " shared " ++ decimal shared) ++ codes " via")))

abbrev pub listed : {C : Type 0} → List ℕ → Reply C → List ℕ
listed links Done = []
listed links (Refused refusal) = []
listed links (Cost cost) = []
listed links (Route n cost shared) = links

abbrev pub whole : (front links : List ℕ) → List ℕ
whole front links = front ++ (flat_map after_blank links ++ (10 ∷ []))
