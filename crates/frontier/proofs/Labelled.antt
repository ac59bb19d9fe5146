-- The labels that the costs of a slice are: link n has its cost at place n - 1.
use Rattle.std.proofs.Common.{◌≡◌, ℕ, zero, suc, ◌-◌, ◌<◌, ◌≢◌, List, map, length, get_or, set, sym, refl, ap, ◌∙◌, arith}
use Rattle.std.proofs.lemmas.List.{get_or-set_same, get_or-set_other, get_or-map, map-set, length-map}
use Rattle.frontier.specs.Tournament.{label}

label_place : (ls : List ℕ) (n : ℕ) → 0 < n → label ls n ≡ get_or ls (n - 1) 0
label_place ls zero h = absurd (omega arith)
label_place ls (suc n) h = let e : n ≡ suc n - 1 = omega arith in ap (λ k. get_or ls k 0) e

label_set_other : (ls : List ℕ) (n v k : ℕ) → 0 < n → k ≢ n → label (set ls (n - 1) v) k ≡ label ls k
label_set_other ls n v zero h d = refl
label_set_other ls n v (suc k) h d = let e : k ≢ n - 1 = λ q. d (omega arith) in get_or-set_other ls (n - 1) k v 0 e

module _ {C : Type 0} (rank : C → ℕ) (costs : List C) where
  -- A cost that was read at a link's place has the rank that is the link's label.
  pub label_read : (n : ℕ) (x : C) → 0 < n → n - 1 < length costs → x ≡ get_or costs (n - 1) x → label (map rank costs) n ≡ rank x
  label_read n x low within is =
      label_place (map rank costs) n low ∙ get_or-map rank costs (n - 1) x 0 within ∙ ap rank (sym is)

  -- A cost that is written at a link's place is the link's label.
  pub label_written : (n : ℕ) (x : C) → 0 < n → n - 1 < length costs → label (map rank (set costs (n - 1) x)) n ≡ rank x
  label_written n x low within =
      let room : n - 1 < length (map rank costs) = simp length-map within in
      ap (λ ls. label ls n) (map-set rank costs (n - 1) x)
      ∙ label_place (set (map rank costs) (n - 1) (rank x)) n low
      ∙ get_or-set_same (map rank costs) (n - 1) (rank x) 0 room

  -- Each other link keeps its label.
  pub label_kept : (n k : ℕ) (x : C) → 0 < n → k ≢ n → label (map rank (set costs (n - 1) x)) k ≡ label (map rank costs) k
  label_kept n k x low d =
      ap (λ ls. label ls k) (map-set rank costs (n - 1) x) ∙ label_set_other (map rank costs) n (rank x) k low d

  -- The label that a cost is which was read at a link's place.
  pub label_at : (n k : ℕ) (x : C) → 0 < n → k ≡ n → n - 1 < length costs → x ≡ get_or costs (k - 1) x → rank x ≡ label (map rank costs) n
  label_at n k x low same within is = sym (label_read n x low within (is ∙ ap (λ i. get_or costs (i - 1) x) same))
