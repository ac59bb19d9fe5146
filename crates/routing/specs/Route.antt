-- Simple routes. That links are all different, and how many two routes share, is in network's Shared.
--     Joined roads a bs       each link of bs may come straight after the one before it, the first after a
--     Simple roads from to r  r is a simple route between the two nodes
--     Avoiding roads from to gone r   r is a simple route without the link
--     Least m roads P n       n is the least cost of the routes that P picks
use Rattle.std.specs.Prelude.{◌≡◌, ℕ, ◌≤◌, List, [], ◌∷◌}
use Rattle.std.specs.List.{ContainsAt as Has, AllByRecursion}
use Rattle.network.specs.Plan.{link}
use Rattle.network.specs.Shared.{Once}
use Rattle.network.specs.Roads.{Roads, Passable, Joins}
use Rattle.measure.specs.Ranks.{Ranks}
use Rattle.measure.specs.Cost.{cost}

abbrev pub Joined : Roads → ℕ → List ℕ → Type 0
Joined roads a [] = Unit {0}
Joined roads a (b ∷ bs) = Joins roads a b × Joined roads b bs

-- the last of a and then bs
abbrev pub last_of : ℕ → List ℕ → ℕ
last_of a [] = a
last_of a (b ∷ bs) = last_of b bs

-- one or more different passable links; the first starts at `from`, the last ends at `to`, each may come after the one before it
abbrev pub Simple : Roads → (from to : ℕ) → List ℕ → Type 0
Simple roads from to [] = ⊥
Simple roads from to (a ∷ bs) =
    ((link roads.plan.links a).start ≡ from) × ((link roads.plan.links (last_of a bs)).end ≡ to)
    × Joined roads a bs × AllByRecursion (Passable roads) (a ∷ bs) × Once (a ∷ bs)

-- a simple route that does not have the link
abbrev pub Avoiding : Roads → (from to gone : ℕ) → List ℕ → Type 0
Avoiding roads from to gone r = Simple roads from to r × (Has r gone → ⊥)

abbrev pub Least : Ranks → Roads → (List ℕ → Type 0) → ℕ → Type 0
Least m roads P n = ((r : List ℕ) × P r × (cost m roads.plan r ≡ n)) × ((r : List ℕ) → P r → n ≤ cost m roads.plan r)
