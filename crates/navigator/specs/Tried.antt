-- What a search without a book tells.
--     LeastTold rank m plan marks from to r     r is the least cost of a simple route over the links that are not marked closed, or
--                                               it tells by 16 that there is none
use Rattle.std.specs.Prelude.{◌≡◌, ℕ, Bool, List, Result, MatchResult}
use Rattle.network.specs.declared.refusal.Refusal.{Refusal}
use Rattle.network.specs.Plan.{Plan}
use Rattle.network.specs.Roads.{Roads}
use Rattle.network.specs.Refusals.{number}
use Rattle.measure.specs.Ranks.{Ranks}
use Rattle.routing.specs.Route.{Simple, Least}

abbrev pub with_marks : Plan → List Bool → Roads
with_marks plan marks = record { plan = plan; marks = marks }

abbrev pub LeastTold : {C : Type 0} → (C → ℕ) → Ranks → Plan → List Bool → (from to : ℕ) → Result C Refusal → Type 0
LeastTold rank m plan marks from to r =
    MatchResult r
    (λ cost. Least m (with_marks plan marks) (Simple (with_marks plan marks) from to) (rank cost))
    (λ refusal. (number refusal ≡ 16) × ((route : List ℕ) → Simple (with_marks plan marks) from to route → ⊥))
