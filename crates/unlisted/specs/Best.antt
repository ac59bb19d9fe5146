-- The best route so far: what it costs and how many links it has; its links stand in the line, and then zeros.
--     bound best              what it costs, if there is one
--     price rank best         its rank, if there is one
--     Held m roads P line rank count   the line holds a route that P picks, and then zeros, and its cost is told
--     Better rank m roads P best best' line'   the new best is a route that P picks and that is cheaper than the old one
--     Improves rank m roads P best line best' line'   the best is what it was, or a better one that P picks; and none that P picks
--                             is cheaper
--     Itself roads from to p taken w   w is p and a simple route, and p is not taken
--     Completion roads from to p forbidden w   w is p with a completion of it
--     Either P Q              what P picks or Q picks
use Rattle.std.specs.Prelude.{◌≡◌, ℕ, ◌≤◌, Bool, true, false, ◌⊎◌, List, ◌++◌, length, take, Option, MatchOption}
use Rattle.std.specs.Option.{option_map}
use Rattle.network.specs.Roads.{Roads}
use Rattle.measure.specs.Ranks.{Ranks}
use Rattle.measure.specs.Cost.{cost}
use Rattle.routing.specs.declared.found.Found.{Found}
use Rattle.routing.specs.Route.{Simple}
use Rattle.routing.specs.Places.{Holds}
use Rattle.completion.specs.Onward.{too_dear}
use Rattle.completion.specs.Completion.{Completes}

abbrev pub bound : {C : Type 0} → Option (Found C) → Option C
bound best = option_map (λ found. found.cost) best

abbrev pub price : {C : Type 0} → (C → ℕ) → Option (Found C) → Option ℕ
price rank best = option_map rank (bound best)

pub record Held (m : Ranks) (roads : Roads) (P : List ℕ → Type 0) (line : List ℕ) (rank count : ℕ) : Type 0 where
  pub holds : Holds line (take count line)
  pub within : count ≤ length line
  pub picked : P (take count line)
  pub priced : rank ≡ cost m roads.plan (take count line)

abbrev pub Better : {C : Type 0} → (C → ℕ) → Ranks → Roads → (List ℕ → Type 0) → Option (Found C) → Option (Found C) → List ℕ → Type 0
Better rank m roads P best best' line' =
    MatchOption best' ⊥ (λ found. Held m roads P line' (rank found.cost) found.count × (too_dear (price rank best) (rank found.cost) ≡ false))

pub record Improves {C : Type 0} (rank : C → ℕ) (m : Ranks) (roads : Roads) (P : List ℕ → Type 0) (best : Option (Found C)) (line : List ℕ) (best' : Option (Found C)) (line' : List ℕ) : Type 0 where
  pub beaten : (w : List ℕ) → P w → too_dear (price rank best') (cost m roads.plan w) ≡ true
  pub kept : ((best' ≡ best) × (line' ≡ line)) ⊎ Better rank m roads P best best' line'

abbrev pub Itself : Roads → (from to : ℕ) → List ℕ → Bool → List ℕ → Type 0
Itself roads from to p taken w = (w ≡ p) × Simple roads from to w × (taken ≡ false)

abbrev pub Completion : Roads → (from to : ℕ) → List ℕ → List Bool → List ℕ → Type 0
Completion roads from to p forbidden w = (ws : List ℕ) × (w ≡ p ++ ws) × Completes roads from to p forbidden ws

abbrev pub Either : (P Q : List ℕ → Type 0) → List ℕ → Type 0
Either P Q w = P w ⊎ Q w
