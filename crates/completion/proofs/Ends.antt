-- The end of a beginning. Assumes nothing.
use Rattle.std.proofs.Common.{◌≡◌, ℕ, ◌-◌, List, [], ◌∷◌, length, Some, sym, refl, ap, ◌∙◌, subst, arith}
use Rattle.std.proofs.lemmas.Option.{same_Some, none-some}
use Rattle.std.specs.Option.{unwrap_or}
use Rattle.std.specs.List.{slice_get}
use Rattle.std.specs.List.{AllByRecursion}
use Rattle.network.specs.Plan.{link, Laid}
use Rattle.network.specs.Roads.{Roads, Passable}
use Rattle.routing.specs.Route.{last_of}
use Rattle.completion.specs.Completion.{Begins, end_of}

last_got : (bs : List ℕ) (a : ℕ) → slice_get (a ∷ bs) (length bs) ≡ Some (last_of a bs)
last_got [] a = refl
last_got (b ∷ bs) a = last_got bs b

last_some : (bs : List ℕ) (a : ℕ) → slice_get (a ∷ bs) (length (a ∷ bs) - 1) ≡ Some (last_of a bs)
last_some bs a = (let e : length (a ∷ bs) - 1 ≡ length bs = omega arith in ap (λ k. slice_get (a ∷ bs) k) e) ∙ last_got bs a

-- the last link, or 0 where there is none
pub last_is : (p : List ℕ) → unwrap_or (slice_get p (length p - 1)) 0 ≡ last_of 0 p
last_is [] = refl
last_is (a ∷ bs) = ap (λ o. unwrap_or o 0) (last_some bs a)

last_laid : (roads : Roads) (qs : List ℕ) (a : ℕ) → AllByRecursion (Passable roads) (a ∷ qs) → Laid roads.plan.links (last_of a qs)
last_laid roads [] a h = h.0.0
last_laid roads (b ∷ qs) a h = last_laid roads qs b h.1

-- the node at which the last link ends
pub ends_with : (roads : Roads) (from : ℕ) (p : List ℕ) (n : ℕ) → Begins roads from p → Some n ≡ slice_get p (length p - 1)
    → Laid roads.plan.links n × ((link roads.plan.links n).end ≡ end_of roads from p)
ends_with roads from [] n b e = absurd (none-some n (sym e))
ends_with roads from (a ∷ qs) n b e =
    let is : n ≡ last_of a qs = same_Some n (last_of a qs) (e ∙ last_some qs a) in
    (subst (λ (x : ℕ). Laid roads.plan.links x) (sym is) (last_laid roads qs a b.2), ap (λ x. (link roads.plan.links x).end) is)
