-- That links begin as a route does is held by a beginning as a proposition; here it is taken out. Assumes nothing.
use Rattle.std.proofs.Common.{ℕ, List, [], ◌∷◌}
use Rattle.std.proofs.Props.{props}
use Rattle.std.proofs.Math.Logic.{∥∥₁_elim}
use Rattle.std.specs.List.{AllByRecursion-prop}
use Rattle.network.specs.Roads.{Roads, Passable}
use Rattle.network.specs.Shared.{Once}
use Rattle.routing.specs.Route.{Joined}
use Rattle.completion.specs.Completion.{Begins}

once_prop : (ns : List ℕ) → IsProp (Once ns)
once_prop [] = hlevel props
once_prop (n ∷ ns) = hlevel (props, once_prop ns)

joined_prop : (roads : Roads) (a : ℕ) (bs : List ℕ) → IsProp (Joined roads a bs)
joined_prop roads a [] = hlevel props
joined_prop roads a (b ∷ bs) = hlevel (props, joined_prop roads b bs)

passable_prop : (roads : Roads) (n : ℕ) → IsProp (Passable roads n)
passable_prop roads n = hlevel props

begins_prop : (roads : Roads) (from : ℕ) (p : List ℕ) → IsProp (Begins roads from p)
begins_prop roads from [] = hlevel props
begins_prop roads from (a ∷ bs) = hlevel (props, joined_prop roads a bs, AllByRecursion-prop (Passable roads) (passable_prop roads) (a ∷ bs), once_prop (a ∷ bs))

pub begins_held : (roads : Roads) (from : ℕ) (p : List ℕ) → ∥ Begins roads from p ∥₁ → Begins roads from p
begins_held roads from p held = ∥∥₁_elim held (begins_prop roads from p) (λ b. b)
