-- The front that two routes have in common. Assumes nothing.
use Rattle.std.proofs.Common.{◌≡◌, ℕ, zero, suc, ◌+◌, ◌<◌, ◌≤◌, Bool, true, false, cond, not, ◌&&◌, eqb, List, [], ◌∷◌, length, get_or, take, sym, refl, zip, ap, ◌∙◌, ap₂, ⊎_elim, arith}
use Rattle.std.specs.List.{common_prefix_len, prefix_len, before_first, AllByRecursion}
use Rattle.std.proofs.ByRecursion.{All-get_or}
use Rattle.std.proofs.lemmas.List.{get_or_past, take_all, take_more_same}
use Rattle.std.proofs.lemmas.List.Sums.{common_prefix_len-le, take_while-cons}
use Rattle.std.proofs.lemmas.Bool.{cases_eq, cases_lt, eqb-true, eq-eqb, eqb-false}
use Rattle.unlisted.specs.Leaving.{agree}

pub agree_within : (r s : List ℕ) → (agree r s ≤ length r) × (agree r s ≤ length s)
unfolding agree
agree_within r s = common_prefix_len-le eqb r s

heads : (a b n k : ℕ) (t : Bool) → eqb a b ≡ t → suc k ≤ cond t (1 + n) 0 → (a ≡ b) × (k ≤ n)
heads a b n k true e h = (eqb-true a b e, omega arith)
heads a b n k false e h = absurd (omega arith)

agree_take : (r s : List ℕ) (k : ℕ) → k ≤ agree r s → take k r ≡ take k s
unfolding agree
agree_take r s zero h = refl
agree_take [] s (suc k) h = absurd (omega arith)
agree_take (a ∷ r) [] (suc k) h = absurd (omega arith)
agree_take (a ∷ r) (b ∷ s) (suc k) h =
    let both = heads a b (common_prefix_len eqb r s) k (eqb a b) refl h in
    let tails = agree_take r s k both.1 in
    let first = both.0 in cc

-- routes that agree for k links have the same first k links
pub same_front : (r s : List ℕ) (k : ℕ) → k ≤ agree r s → (take k r ≡ take k s) × (k ≤ length r) × (k ≤ length s)
same_front r s k h = let in_both = agree_within r s in (agree_take r s k h, omega arith, omega arith)

pub agree_from_front : (r s : List ℕ) (k : ℕ) → take k r ≡ take k s → k ≤ length r → k ≤ length s → k ≤ agree r s
unfolding agree
agree_from_front r s zero e h l = omega arith
agree_from_front [] s (suc k) e h l = absurd (omega arith)
agree_from_front (a ∷ r) [] (suc k) e h l = absurd (omega arith)
agree_from_front (a ∷ r) (b ∷ s) (suc k) e h l =
    let first : a ≡ b = cc in
    let tails : take k r ≡ take k s = cc in
    let more = agree_from_front r s k tails (omega arith) (omega arith) in
    let whole : cond (eqb a b) (1 + common_prefix_len eqb r s) 0 ≡ 1 + common_prefix_len eqb r s = ap (λ (t : Bool). cond t (1 + common_prefix_len eqb r s) 0) (eq-eqb a b first) in
    omega arith

pub agree_back : (r s : List ℕ) (k : ℕ) → k ≤ agree r s → k ≤ agree s r
agree_back r s k h = let f = same_front r s k h in agree_from_front s r k (sym f.0) f.2 f.1

pub agree_through : (r s w : List ℕ) (k : ℕ) → k ≤ agree r s → k ≤ agree s w → k ≤ agree r w
agree_through r s w k h l =
    let f = same_front r s k h in
    let e = same_front s w k l in
    agree_from_front r w k (f.0 ∙ e.0) f.1 e.2

abbrev pub Links : List ℕ → Type 0
Links r = AllByRecursion (λ a. 1 ≤ a) r

pub route_over : (r : List ℕ) (k : ℕ) → Links r → get_or r k 0 ≡ 0 → length r ≤ k
route_over r k links z = ⊎_elim (λ (h : k < length r). let one = All-get_or (λ a. 1 ≤ a) r k 0 h links in absurd (omega arith)) (λ h. h) (cases_lt k (length r))

pub within_route : (r : List ℕ) (k : ℕ) → (get_or r k 0 ≡ 0 → ⊥) → k < length r
within_route r k some = ⊎_elim (λ h. h) (λ h. absurd (some (get_or_past r k 0 h))) (cases_lt k (length r))

pub agree_more : (r s : List ℕ) (k : ℕ) → k ≤ agree r s → (get_or r k 0 ≡ 0 → ⊥) → get_or r k 0 ≡ get_or s k 0 → k + 1 ≤ agree r s
agree_more r s k h some same =
    let in_r = within_route r k some in
    let in_s = within_route s k (λ e. some (same ∙ e)) in
    agree_from_front r s (k + 1) (take_more_same r s k 0 in_r in_s (same_front r s k h).0 same) (omega arith) (omega arith)

-- two routes that go on alike where their common front ends are the same
pub same_route : (r s : List ℕ) → Links r → Links s → get_or r (agree r s) 0 ≡ get_or s (agree r s) 0 → r ≡ s
same_route r s lr ls e =
    ⊎_elim
    (λ (z : get_or r (agree r s) 0 ≡ 0). ended z)
    (λ (nz : get_or r (agree r s) 0 ≡ 0 → ⊥). let more = agree_more r s (agree r s) (omega arith) nz e in absurd (omega arith))
    (cases_eq (get_or r (agree r s) 0) 0)
  where
    ended : get_or r (agree r s) 0 ≡ 0 → r ≡ s
    ended z =
        let k = agree r s in
        let f = same_front r s k (omega arith) in
        let all_r : length r ≤ k = route_over r k lr z in
        let all_s : length s ≤ k = route_over s k ls (sym e ∙ z) in
        sym (take_all k r all_r) ∙ f.0 ∙ take_all k s all_s

-- places that hold the same links at the front
abbrev pub same_links : List ℕ → List ℕ → ℕ
same_links xs ys = prefix_len (λ (both : ℕ × ℕ). not (eqb both.0 0) && eqb both.0 both.1) (zip xs ys)

abbrev before_zero : List ℕ → List ℕ
before_zero ps = before_first (λ (p : ℕ). eqb p 0) ps

agree_none : (r : List ℕ) → common_prefix_len eqb r [] ≡ 0
agree_none [] = refl
agree_none (a ∷ r) = refl

-- one place more on both sides
place_more : (x y n : ℕ) (r s : List ℕ) (a b t : Bool) → eqb x 0 ≡ a → eqb y 0 ≡ b → eqb x y ≡ t → n ≡ common_prefix_len eqb r s
    → cond (not a && t) (1 + n) 0 ≡ common_prefix_len eqb (cond (not a) (x ∷ r) []) (cond (not b) (y ∷ s) [])
place_more x y n r s true b t e f g h = refl
place_more x y n r s false true true e f g h = absurd (eqb-false x 0 e (eqb-true x y g ∙ eqb-true y 0 f))
place_more x y n r s false true false e f g h = refl
place_more x y n r s false false t e f g h = ap₂ (λ (b : Bool) (k : ℕ). cond b (1 + k) 0) (sym g) h

pub places_agree : (xs ys : List ℕ) → same_links xs ys ≡ agree (before_zero xs) (before_zero ys)
unfolding agree
places_agree [] ys = refl
places_agree (x ∷ xs) [] = sym (agree_none (before_zero (x ∷ xs)))
places_agree (x ∷ xs) (y ∷ ys) =
    let some : ℕ → Bool = λ p. not (eqb p 0) in
    place_more x y (same_links xs ys) (before_zero xs) (before_zero ys) (eqb x 0) (eqb y 0) (eqb x y) refl refl refl (places_agree xs ys)
    ∙ sym (ap₂ (λ (r s : List ℕ). common_prefix_len eqb r s) (take_while-cons some x xs) (take_while-cons some y ys))
