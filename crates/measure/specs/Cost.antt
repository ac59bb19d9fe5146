-- What a list of links costs under a measure.
--     onward m plan n a bs    the rank after the links bs, where n is the rank after link a before them
--     cost m plan route       from the start over the first link, the turn, the second link and so on to the last link
use Rattle.std.specs.Prelude.{ℕ, List, [], ◌∷◌}
use Rattle.network.specs.Plan.{Plan, link}
use Rattle.network.specs.Roads.{turn}
use Rattle.measure.specs.Ranks.{Ranks}

-- the rank after the turn of a pair, and then its second link
abbrev pub step : Ranks → Plan → (n a b : ℕ) → ℕ
step m plan n a b =
    m.over_link (m.over_turn n (turn plan.turns a b).class (turn plan.turns a b).extra) (link plan.links b)

unfoldable pub onward : Ranks → Plan → (n a : ℕ) → List ℕ → ℕ
onward m plan n a [] = n
onward m plan n a (b ∷ bs) = onward m plan (step m plan n a b) b bs

abbrev pub cost : Ranks → Plan → List ℕ → ℕ
cost m plan [] = m.start
cost m plan (a ∷ bs) = onward m plan (m.over_link m.start (link plan.links a)) a bs
