-- Each unlisted route leaves the listed ones somewhere, and one that leaves them is unlisted. Assumes nothing.
use Rattle.std.proofs.Common.{◌≡◌, ℕ, zero, suc, ◌<◌, ◌≤◌, Bool, true, false, ◌&&◌, ◌||◌, eqb, leb, List, get_or, sym, refl, ap, ◌∙◌, subst, ap₂, ⊎_elim, arith}
use Rattle.std.proofs.lemmas.Bool.{cases_eq, cases_lt, cases_Bool, both_ways, eqb-true, eq-eqb, leb-true, le-leb, lt-leb, and_parts, and_from, or_cases, or_left, or_right}
use Rattle.unlisted.specs.Leaving.{Question, agree, one_goes_on, goes_on, Leaves}
use Rattle.unlisted.proofs.Agreeing.{Links, agree_back, agree_through, same_route}

module _ (routes : ℕ → List ℕ) where
  pub goes_from : (n : ℕ) (r : List ℕ) (k b i : ℕ) → i < n → k ≤ agree (routes i) r → get_or (routes i) k 0 ≡ b → one_goes_on routes n r k b ≡ true
  unfolding one_goes_on
  goes_from zero r k b i h l e = absurd (omega arith)
  goes_from (suc n) r k b i h l e =
      ⊎_elim
      (λ (s : i ≡ n). or_right (one_goes_on routes n r k b) _
      (let P : ℕ → Type 0 = λ x. (leb k (agree (routes x) r) && eqb (get_or (routes x) k 0) b) ≡ true in
      subst P s (and_from (leb k (agree (routes i) r)) _ (le-leb k (agree (routes i) r) l) (eq-eqb (get_or (routes i) k 0) b e))))
      (λ (ne : i ≡ n → ⊥). or_left (one_goes_on routes n r k b) _ (goes_from n r k b i (omega arith) l e))
      (cases_eq i n)

  pub goes_some : (n : ℕ) (r : List ℕ) (k b : ℕ) → one_goes_on routes n r k b ≡ true → (i : ℕ) × (i < n) × (k ≤ agree (routes i) r) × (get_or (routes i) k 0 ≡ b)
  unfolding one_goes_on
  goes_some zero r k b t = absurd (both_ways false refl t)
  goes_some (suc n) r k b t =
      ⊎_elim
      (λ u. let s = goes_some n r k b u in (s.0, omega (arith, s.1), s.2, s.3))
      (λ u. let p = and_parts (leb k (agree (routes n) r)) (eqb (get_or (routes n) k 0) b) u in
      (n, omega arith, leb-true k (agree (routes n) r) p.0, eqb-true (get_or (routes n) k 0) b p.1))
      (or_cases (one_goes_on routes n r k b) (leb k (agree (routes n) r) && eqb (get_or (routes n) k 0) b) t)

  leb_same : (k a b : ℕ) → (k ≤ a → k ≤ b) → (k ≤ b → k ≤ a) → leb k a ≡ leb k b
  leb_same k a b to back =
      ⊎_elim
      (λ (h : a < k). lt-leb k a h ∙ sym (lt-leb k b (⊎_elim (λ (l : b < k). l) (λ (l : k ≤ b). let m = back l in absurd (omega arith)) (cases_lt b k))))
      (λ (h : k ≤ a). le-leb k a h ∙ sym (le-leb k b (to h)))
      (cases_lt a k)

  pub goes_same : (n : ℕ) (r s : List ℕ) (k b : ℕ) → k ≤ agree r s → one_goes_on routes n r k b ≡ one_goes_on routes n s k b
  unfolding one_goes_on
  goes_same zero r s k b h = refl
  goes_same (suc n) r s k b h =
      ap₂ (λ (x y : Bool). x || (y && eqb (get_or (routes n) k 0) b)) (goes_same n r s k b h)
      (leb_same k (agree (routes n) r) (agree (routes n) s) (λ l. agree_through (routes n) r s k l h) (λ l. agree_through (routes n) s r k l (agree_back r s k h)))

greatest : (f : ℕ → ℕ) (n : ℕ) → 0 < n → (i : ℕ) × (i < n) × ((j : ℕ) → j < n → f j ≤ f i)
greatest f zero h = absurd (omega arith)
greatest f (suc zero) h = (0, omega arith, λ j l. let e : j ≡ 0 = omega arith in omega (arith, ap f e))
greatest f (suc (suc n)) h =
    let best = greatest f (suc n) (omega arith) in
    let i = best.0 in
    ⊎_elim
    (λ (l : f i < f (suc n)). (suc n, omega arith, λ j m. upto j (suc n) m (omega arith) (λ s. omega (arith, best.2 j s))))
    (λ (l : f (suc n) ≤ f i). (i, omega (arith, best.1), λ j m. upto j i m l (λ s. best.2 j s)))
    (cases_lt (f i) (f (suc n)))
  where
    upto : (j i : ℕ) → j < suc (suc n) → f (suc n) ≤ f i → (j < suc n → f j ≤ f i) → f j ≤ f i
    upto j i m last below =
        ⊎_elim (λ (s : j < suc n). below s) (λ (s : suc n ≤ j). let e : j ≡ suc n = omega arith in omega (arith, ap f e)) (cases_lt j (suc n))

-- a route that is none of the listed ones leaves them along one with which it has the longest front in common
pub unlisted_leaves : (q : Question) (w : List ℕ) → 0 < q.listed → ((i : ℕ) → i < q.listed → Links (q.routes i)) → Links w
    → ((i : ℕ) → i < q.listed → q.routes i ≡ w → ⊥) → (i k : ℕ) × (i < q.listed) × Leaves q (q.routes i) k w
unlisted_leaves q w some links lw un =
    let best = greatest (λ i. agree (q.routes i) w) q.listed some in
    let j = best.0 in
    let r = q.routes j in
    let k = agree r w in (
      j,
      k,
      best.1,
      (
        omega arith,
        ⊎_elim
            (λ t. let one = goes_some q.routes q.listed r k (get_or w k 0) t in
            let i = one.0 in
            let long = agree_through (q.routes i) r w k one.2 (omega arith) in
            let most = best.2 i one.1 in
            let at : agree (q.routes i) w ≡ k = omega arith in
            absurd (un i one.1 (same_route (q.routes i) w (links i one.1) lw
            (ap (λ (x : ℕ). get_or (q.routes i) x 0) at ∙ one.3 ∙ ap (λ (x : ℕ). get_or w x 0) (sym at)))))
            (λ f. f)
            (cases_Bool (goes_on q r k (get_or w k 0))),
      ),
    )

pub leaves_unlisted : (q : Question) (r w : List ℕ) (k : ℕ) → Leaves q r k w → (i : ℕ) → i < q.listed → q.routes i ≡ w → ⊥
leaves_unlisted q r w k l i h e =
    both_ways (goes_on q r k (get_or w k 0)) l.1
    (goes_from q.routes q.listed r k (get_or w k 0) i h
    (let P : List ℕ → Type 0 = λ x. k ≤ agree x r in subst P (sym e) (agree_back r w k l.0))
    (ap (λ (x : List ℕ). get_or x k 0) e))

-- where two routes agree, one leaves them along either
pub leaves_either : (q : Question) (r s w : List ℕ) (k : ℕ) → k ≤ agree s r → Leaves q r k w → Leaves q s k w
leaves_either q r s w k h l =
    (agree_through s r w k h l.0, goes_same q.routes q.listed s r k (get_or w k 0) h ∙ l.1)
