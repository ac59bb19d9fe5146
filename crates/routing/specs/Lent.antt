-- Roads as the code lends them, and the test of a route that it makes link by link.
--     lent roads                        the roads that roads of the code stand for
--     steps_test roads to a seen bs     after link a, and other links seen before it, the links bs go on as a route to the node does
--     route_test roads from to links    the links are a simple route between the two nodes
use Rattle.std.specs.Prelude.{ℕ, Bool, false, not, ◌&&◌, List, [], ◌∷◌, ◌++◌, ◌==◌}
use Rattle.network.specs.Plan.{link}
use Rattle.network.specs.Laid.{plan}
use Rattle.network.specs.Marks.{marks}
use Rattle.network.specs.Roads.{Roads}
use Rattle.network.specs.Shared.{stands_in}
use Rattle.routing.specs.declared.roads.Roads as code
use Rattle.routing.specs.Enumeration.{passable, joins, starts_at}

abbrev pub lent : code.Roads → Roads
lent roads = record { plan = plan roads.network.now; marks = marks roads.closed.now }

unfoldable pub steps_test : Roads → (to a : ℕ) → (seen bs : List ℕ) → Bool
steps_test roads to a seen [] = (link roads.plan.links a).end == to
steps_test roads to a seen (b ∷ bs) =
    passable roads b && (not (stands_in b seen) && (joins roads a b && steps_test roads to b (seen ++ (b ∷ [])) bs))

abbrev pub route_test : Roads → (from to : ℕ) → List ℕ → Bool
route_test roads from to [] = false
route_test roads from to (a ∷ bs) = passable roads a && (starts_at roads from a && steps_test roads to a (a ∷ []) bs)
