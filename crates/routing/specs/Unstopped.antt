-- No simple route meets the stop of a measure.
--     RoutesUnstopped     on a lawful plan of at most 1,024 links a simple route has at most 1,024 links, and its cost under
--                         metres and under turns-first is the plain sum
use Rattle.std.specs.Prelude.{ℕ, ◌≤◌, List, length}
use Rattle.network.specs.Plan.{Lawful}
use Rattle.network.specs.Roads.{Roads}
use Rattle.measure.specs.Plain.{Unstopped}
use Rattle.routing.specs.Route.{Simple}

abbrev pub RoutesUnstopped : Type 0
RoutesUnstopped =
    (roads : Roads) (from to : ℕ) (r : List ℕ) → Lawful roads.plan → length roads.plan.links ≤ 1024 → Simple roads from to r
    → (length r ≤ 1024) × Unstopped roads.plan r
