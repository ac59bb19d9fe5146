-- What the first links of a route cost, one link more. Assumes nothing.
use Rattle.std.proofs.Common.{◌≡◌, ℕ, zero, suc, ◌+◌, ◌<◌, ◌≤◌, List, [], ◌∷◌, ◌++◌, map, length, get_or, take, set, sym, refl, ap, ◌∙◌, ⊎_elim, arith}
use Rattle.std.proofs.ByRecursion.{All-take}
use Rattle.std.proofs.lemmas.List.{get_or-set_same, get_or-set_other, take_more, map-set, length-map}
use Rattle.std.proofs.lemmas.Bool.{cases_eq}
use Rattle.network.specs.Plan.{Plan}
use Rattle.measure.specs.Ranks.{Ranks}
use Rattle.measure.specs.Cost.{cost, onward, step}
use Rattle.routing.specs.Route.{last_of}
use Rattle.completion.specs.Onward.{step_from}
use Rattle.completion.proofs.Splits.{last_append, onward_append}
use Rattle.unlisted.proofs.Agreeing.{Links}

step_after : (m : Ranks) (plan : Plan) (c a b : ℕ) → 1 ≤ a → step_from m plan c a b ≡ step m plan c a b
step_after m plan c zero b h = absurd (omega arith)
step_after m plan c (suc a) b h = refl

last_link : (a : ℕ) (qs : List ℕ) → Links (a ∷ qs) → 1 ≤ last_of a qs
last_link a [] h = h.0
last_link a (b ∷ qs) h = last_link b qs h.1

last_push : (p : List ℕ) (x : ℕ) → last_of 0 (p ++ (x ∷ [])) ≡ x
last_push [] x = refl
last_push (a ∷ qs) x = last_append qs a x []

cost_push : (m : Ranks) (plan : Plan) (p : List ℕ) (x : ℕ) → Links p → cost m plan (p ++ (x ∷ [])) ≡ step_from m plan (cost m plan p) (last_of 0 p) x
unfolding onward
cost_push m plan [] x h = refl
cost_push m plan (a ∷ qs) x h =
    onward_append m plan qs _ a (x ∷ []) ∙ sym (step_after m plan _ (last_of a qs) x (last_link a qs h))

module _ (m : Ranks) (plan : Plan) (links : List ℕ) (i : ℕ) (inside : i < length links) where
  pub last_more : last_of 0 (take (i + 1) links) ≡ get_or links i 0
  last_more = ap (last_of 0) (take_more links i 0 inside) ∙ last_push (take i links) (get_or links i 0)

  pub cost_more : Links links → cost m plan (take (i + 1) links) ≡ step_from m plan (cost m plan (take i links)) (last_of 0 (take i links)) (get_or links i 0)
  cost_more h = ap (cost m plan) (take_more links i 0 inside) ∙ cost_push m plan (take i links) (get_or links i 0) (All-take (λ a. 1 ≤ a) i links h)

-- the costs of the first i links, and of fewer, stand in the table
abbrev pub PricedTo : {C : Type 0} → (C → ℕ) → Ranks → Plan → List ℕ → List C → ℕ → Type 0
PricedTo rank m plan r costs i = (k : ℕ) → k ≤ i → get_or (m.start ∷ map rank costs) k 0 ≡ cost m plan (take k r)

pub priced_none : {C : Type 0} (rank : C → ℕ) (m : Ranks) (plan : Plan) (r : List ℕ) (costs : List C) → PricedTo rank m plan r costs 0
priced_none rank m plan r costs zero h = refl
priced_none rank m plan r costs (suc k) h = absurd (omega arith)

pub priced_more : {C : Type 0} (rank : C → ℕ) (m : Ranks) (plan : Plan) (r : List ℕ) (costs : List C) (i : ℕ) (c : C) → i < length costs
    → PricedTo rank m plan r costs i → rank c ≡ cost m plan (take (i + 1) r) → PricedTo rank m plan r (set costs i c) (i + 1)
priced_more rank m plan r costs i c inside so_far is zero h = so_far zero (omega arith)
priced_more rank m plan r costs i c inside so_far is (suc k) h =
    ap (λ (x : List ℕ). get_or x k 0) (map-set rank costs i c)
    ∙ ⊎_elim
    (λ (e : k ≡ i). ap (λ (x : ℕ). get_or (set (map rank costs) i (rank c)) x 0) e
    ∙ get_or-set_same (map rank costs) i (rank c) 0 (omega (arith, length-map costs rank)) ∙ is
    ∙ ap (λ (x : ℕ). cost m plan (take x r)) (let s : i + 1 ≡ suc k = omega arith in s))
    (λ (ne : k ≡ i → ⊥). get_or-set_other (map rank costs) i k (rank c) 0 ne ∙ so_far (suc k) (omega arith))
    (cases_eq k i)
