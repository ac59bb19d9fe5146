-- Places of a book that hold a route.
--     Holds places r                  the links of r stand in the places, and then zeros
--     ReadsRoute roads from to places n   what is read of places: the number of links of the simple route that they hold, or that
--                                     they hold none
use Rattle.std.specs.Prelude.{◌≡◌, ℕ, ◌-◌, List, ◌++◌, length, take, replicate, Option, MatchOption}
use Rattle.network.specs.Roads.{Roads}
use Rattle.routing.specs.Route.{Simple}

abbrev pub Holds : (places r : List ℕ) → Type 0
Holds places r = places ≡ r ++ replicate (length places - length r) 0

abbrev pub ReadsRoute : Roads → (from to : ℕ) → List ℕ → Option ℕ → Type 0
ReadsRoute roads from to places answer =
    MatchOption answer
    ((r : List ℕ) → Simple roads from to r → Holds places r → ⊥)
    (λ n. Simple roads from to (take n places) × Holds places (take n places))
