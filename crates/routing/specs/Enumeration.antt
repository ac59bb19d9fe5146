-- Finding the simple routes: each link that may come next is tried after each beginning.
--     passable roads n                Passable as a test
--     joins roads a b                 Joins as a test
--     numbers n                       the numbers from n down to 1
--     passable_links roads            the numbers of the passable links
--     without b links                 the links other than b
--     beginnings roads k links next   the lists of at most k different links out of `links` of which the first passes `next`
--                                     and each other one joins the one before it
--     ends_at roads to r              r has a last link, and this ends at the node
--     all_simple roads from to        the simple routes between the two nodes
--     Exact                           all_simple has the simple routes, and no other list
use Rattle.std.specs.Prelude.{ℕ, zero, suc, Bool, false, not, ◌&&◌, List, [], ◌∷◌, map, length, filter, ◌==◌}
use Rattle.std.specs.List.{ContainsAt as Has, flat_map}
use Rattle.network.specs.Plan.{link, laid}
use Rattle.network.specs.Roads.{Roads, closed, turn, barred}
use Rattle.routing.specs.Route.{last_of, Simple}

abbrev pub passable : Roads → ℕ → Bool
passable roads n = laid roads.plan.links n && not (closed roads n)

abbrev pub joins : Roads → ℕ → ℕ → Bool
joins roads a b =
    ((link roads.plan.links a).end == (link roads.plan.links b).start)
    && not ((turn roads.plan.turns a b).class == barred)

unfoldable pub numbers : ℕ → List ℕ
numbers zero = []
numbers (suc n) = suc n ∷ numbers n

abbrev pub passable_links : Roads → List ℕ
passable_links roads = filter (passable roads) (numbers (length roads.plan.links))

abbrev pub without : ℕ → List ℕ → List ℕ
without b links = filter (λ c. not (c == b)) links

unfoldable pub beginnings : Roads → ℕ → List ℕ → (ℕ → Bool) → List (List ℕ)
beginnings roads zero links next = [] ∷ []
beginnings roads (suc k) links next =
    [] ∷ flat_map (λ b. map (λ bs. b ∷ bs) (beginnings roads k (without b links) (joins roads b))) (filter next links)

abbrev pub starts_at : Roads → ℕ → ℕ → Bool
starts_at roads from a = (link roads.plan.links a).start == from

abbrev pub ends_at : Roads → ℕ → List ℕ → Bool
ends_at roads to [] = false
ends_at roads to (a ∷ bs) = (link roads.plan.links (last_of a bs)).end == to

unfoldable pub all_simple : Roads → (from to : ℕ) → List (List ℕ)
all_simple roads from to =
    filter (ends_at roads to)
    (beginnings roads (length (passable_links roads)) (passable_links roads) (starts_at roads from))

abbrev pub Exact : Type 0
Exact =
    (roads : Roads) (from to : ℕ) (r : List ℕ)
    → (Simple roads from to r → Has (all_simple roads from to) r) × (Has (all_simple roads from to) r → Simple roads from to r)
