-- How many links the sets of two lists share. Assumes nothing.
use Rattle.std.proofs.Common.{◌≡◌, ℕ, zero, suc, ◌+◌, ◌<◌, ◌≤◌, Bool, true, false, cond, eqb, List, [], ◌∷◌, length, get_or, set, replicate, fold, refl, ap, ◌∙◌, subst, arith}
use Rattle.std.specs.List.{ContainsAt as Has, AllByRecursion}
use Rattle.std.proofs.lemmas.List.{length-replicate}
use Rattle.std.proofs.ByRecursion.{all-has}
use Rattle.std.proofs.lemmas.Bool.{both_ways, ne_eqb, or_from}
use Rattle.network.specs.Marks.{added, marks_of, both}
use Rattle.network.specs.Shared.{Once, shared, LinkNumber, SharedIsCounted}
use Rattle.network.proofs.Marked.{length_marked, added_has, marks_of_has}

both_none : (k : ℕ) (ns : List Bool) → both (replicate k false) ns ≡ 0
unfolding both
both_none zero ns = refl
both_none (suc k) [] = refl
both_none (suc k) (n ∷ ns) = omega (arith, both_none k ns)

both_set : (ms ns : List Bool) (y : ℕ) → y < length ms → get_or ms y false ≡ false
    → both (set ms y true) ns ≡ cond (get_or ns y false) 1 0 + both ms ns
unfolding both
both_set [] ns y h e = absurd (omega arith)
both_set (m ∷ ms) [] zero h e = refl
both_set (m ∷ ms) [] (suc y) h e = refl
both_set (true ∷ ms) (n ∷ ns) zero h e = absurd (both_ways true e refl)
both_set (false ∷ ms) (n ∷ ns) zero h e = omega arith
both_set (m ∷ ms) (n ∷ ns) (suc y) h e = omega (arith, both_set ms ns y (omega arith) e)

-- one more link: it is shared if the other marks have it
both_added : (ms ns : List Bool) (x : ℕ) → 1 ≤ x → x ≤ length ms → get_or (false ∷ ms) x false ≡ false
    → both (added ms x) ns ≡ cond (get_or (false ∷ ns) x false) 1 0 + both ms ns
both_added ms ns zero h l e = absurd (omega arith)
both_added ms ns (suc x) h l e = both_set ms ns x (omega arith) e

-- none of the links has a mark
abbrev New : List Bool → List ℕ → Type 0
New ms r = (n : ℕ) → Has r n → get_or (false ∷ ms) n false ≡ false

new_after : (ms : List Bool) (a : ℕ) (r : List ℕ) → length ms ≡ 1024 → (Has r a → ⊥) → AllByRecursion LinkNumber r → New ms (a ∷ r) → New (added ms a) r
new_after ms a r long once links new n has =
    let link = all-has LinkNumber r n links has in
    let apart : n ≡ a → ⊥ = λ e. once (subst (λ (x : ℕ). Has r x) e has) in
    added_has ms a n link.0 (omega (arith, link.1))
    ∙ or_from (eqb n a) (get_or (false ∷ ms) n false) (ne_eqb n a apart) (new n (suc has.0, omega (arith, has.1), has.2))

both_all_added : (ms : List Bool) (r s : List ℕ) → length ms ≡ 1024 → Once r → AllByRecursion LinkNumber r → New ms r
    → both (fold added ms r) (marks_of s) ≡ both ms (marks_of s) + shared r s
both_all_added ms [] s long once links new = omega arith
both_all_added ms (a ∷ r) s long once links new =
    let first = both_added ms (marks_of s) a links.0.0 (omega (arith, links.0.1)) (new a (0, omega arith, λ d. refl)) in
    let told = ap {B = ℕ} (λ (b : Bool). cond b 1 0) (marks_of_has s a links.0.0 links.0.1) in
    let rest = both_all_added (added ms a) r s (length_marked ms a true ∙ long) once.1 links.1
    (new_after ms a r long once.0 links.1 new) in
    omega (arith, first, told, rest)

none_marked : (k : ℕ) (r : List ℕ) → New (replicate k false) r
none_marked k r n has = none k n
  where
    none : (k n : ℕ) → get_or (false ∷ replicate k false) n false ≡ false
    none k zero = refl
    none zero (suc n) = refl
    none (suc k) (suc zero) = refl
    none (suc k) (suc (suc n)) = none k (suc n)

pub shared_is_counted : SharedIsCounted
unfolding marks_of
shared_is_counted r s once links =
    both_all_added (replicate 1024 false) r s (length-replicate 1024 false) once links (none_marked 1024 r)
    ∙ ap (λ (n : ℕ). n + shared r s) (both_none 1024 (marks_of s)) ∙ let e : 0 + shared r s ≡ shared r s = omega arith in e
