-- What is read of a place, place by place. Assumes nothing.
use Rattle.std.proofs.Common.{◌≡◌, ℕ, true, false, List, take, is_some, Some, None, Option, sym}
use Rattle.std.proofs.lemmas.Bool.{false≢true}
use Rattle.network.specs.Roads.{Roads}
use Rattle.routing.specs.Route.{Simple}
use Rattle.routing.specs.Places.{Holds, ReadsRoute}

module _ (roads : Roads) (from to : ℕ) where
  pub route_read : (places : List ℕ) (o : Option ℕ) → ReadsRoute roads from to places o → is_some o ≡ true
      → (r : List ℕ) × Simple roads from to r × Holds places r
  route_read places None h e = absurd (false≢true e)
  route_read places (Some n) h e = (take n places, h.0, h.1)

  pub none_read : (places : List ℕ) (o : Option ℕ) → ReadsRoute roads from to places o → is_some o ≡ false
      → (r : List ℕ) → Simple roads from to r → Holds places r → ⊥
  none_read places None h e = h
  none_read places (Some n) h e = absurd (false≢true (sym e))
