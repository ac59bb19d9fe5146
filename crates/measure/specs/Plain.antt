-- Plain sums over a list of links, without a stop, and when costs are such sums.
--     plain_metres plan route    the lengths of the links and the extras of the turns between neighbours
--     plain_turns plan route     how many of the turns between neighbours are turns left, right or back
--     NoStop                     on a lawful plan no cost of at most 1,024 links comes to a stop
use Rattle.std.specs.Prelude.{◌≡◌, ℕ, ◌+◌, ◌*◌, ◌/◌, ◌%◌, ◌≤◌, cond, List, [], ◌∷◌, length}
use Rattle.network.specs.Plan.{Plan, Lawful, link}
use Rattle.network.specs.Roads.{turn}
use Rattle.measure.specs.Cost.{cost}
use Rattle.measure.specs.Metres.{metres}
use Rattle.measure.specs.TurnsFirst.{turns_first, is_turn, one_turn}

-- the metres of the links bs that come after link a, with the turns before them
unfoldable pub metres_after : Plan → (a : ℕ) → List ℕ → ℕ
metres_after plan a [] = 0
metres_after plan a (b ∷ bs) = (turn plan.turns a b).extra + (link plan.links b).length + metres_after plan b bs

abbrev pub plain_metres : Plan → List ℕ → ℕ
plain_metres plan [] = 0
plain_metres plan (a ∷ bs) = (link plan.links a).length + metres_after plan a bs

-- the turns before the links bs that come after link a
unfoldable pub turns_after : Plan → (a : ℕ) → List ℕ → ℕ
turns_after plan a [] = 0
turns_after plan a (b ∷ bs) = cond (is_turn (turn plan.turns a b).class) 1 0 + turns_after plan b bs

abbrev pub plain_turns : Plan → List ℕ → ℕ
plain_turns plan [] = 0
plain_turns plan (a ∷ bs) = turns_after plan a bs

pub record Unstopped (plan : Plan) (route : List ℕ) : Type 0 where
  pub metres_plain : cost metres plan route ≡ plain_metres plan route
  pub metres_most : plain_metres plan route ≤ 2047000000
  pub turns_most : plain_turns plan route ≤ 1023
  pub turns_first_plain : cost turns_first plan route ≡ plain_turns plan route * one_turn + plain_metres plan route
  pub turns_told : cost turns_first plan route / one_turn ≡ plain_turns plan route
  pub metres_told : cost turns_first plan route % one_turn ≡ plain_metres plan route

abbrev pub NoStop : Type 0
NoStop = (plan : Plan) (route : List ℕ) → Lawful plan → length route ≤ 1024 → Unstopped plan route
