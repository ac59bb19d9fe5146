-- The index of turn entries, kept when an entry comes after the others or is changed. Assumes nothing.
use Rattle.std.proofs.Common.{◌≡◌, ℕ, zero, suc, ◌+◌, ◌<◌, ◌≤◌, true, false, eqb, List, [], ◌∷◌, ◌++◌, length, get_or, set, replicate, sym, refl, ap, ◌∙◌, subst, ap₂, ⊎_elim, arith}
use Rattle.std.proofs.lemmas.List.{get_or_append_left, get_or_push, get_or-set_same, get_or-set_other, length_push}
use Rattle.std.proofs.lemmas.Bool.{cases_eq, cases_lt, cases_order, eq-eqb, ne_eqb, eqb-true, and_left, and_right}
use Rattle.network.specs.declared.turn.Turn.{Turn}
use Rattle.network.specs.Plan.{no_turn, same_pair}
use Rattle.network.specs.Changing.{changed_at}
use Rattle.network.proofs.Changes.{pair_kept}
use Rattle.network.specs.Index.{entry, has_in, HeadsWithin, HeadsHave, HeadsLast, NextsWithin, NextsHave, NextsLast}

-- the laws of the index, as the ghost fields of the table have them
abbrev pub Indexed : List Turn → (heads nexts : List ℕ) → Type 0
Indexed ts heads nexts =
    HeadsWithin ts heads × (HeadsHave ts heads × (HeadsLast ts heads × (NextsWithin ts nexts × (NextsHave ts nexts × (NextsLast ts nexts × Unit {0})))))

in_push : (ts : List Turn) (t : Turn) (j into : ℕ) → j ≤ length ts → has_in (ts ++ t ∷ []) j into ≡ has_in ts j into
in_push ts t j into h = ap (λ (u : Turn). eqb u.into into) (get_or_append_left (no_turn ∷ ts) (t ∷ []) no_turn j (omega arith))

entry_push : (ts : List Turn) (t : Turn) (j : ℕ) → j ≤ length ts → entry (ts ++ t ∷ []) j ≡ entry ts j
entry_push ts t j h = get_or_append_left (no_turn ∷ ts) (t ∷ []) no_turn j (omega arith)

entry_last : (ts : List Turn) (t : Turn) (k : ℕ) → k ≡ length ts + 1 → entry (ts ++ t ∷ []) k ≡ t
entry_last ts t k e = get_or_push (no_turn ∷ ts) t no_turn k (omega arith)

module _ (ts : List Turn) (t : Turn) (heads nexts : List ℕ) (long : length heads ≡ 1025) (longer : length nexts ≡ 2049)
    (room : length ts < 2048) (small : t.into ≤ 1024) (laws : Indexed ts heads nexts) where
  abbrev n : ℕ
  n = length ts + 1

  abbrev all : List Turn
  all = ts ++ t ∷ []

  abbrev heads' : List ℕ
  heads' = set heads t.into n

  abbrev nexts' : List ℕ
  nexts' = set nexts n (get_or heads t.into 0)

  size : length (ts ++ t ∷ []) ≡ n
  size = length_push ts t

  head_here : (i : ℕ) → i ≡ t.into → get_or heads' i 0 ≡ n
  head_here i e = ap (λ (x : ℕ). get_or heads' x 0) e ∙ get_or-set_same heads t.into n 0 (omega arith)

  head_other : (i : ℕ) → (i ≡ t.into → ⊥) → get_or heads' i 0 ≡ get_or heads i 0
  head_other i ne = get_or-set_other heads t.into i n 0 ne

  next_here : (k : ℕ) → k ≡ n → get_or nexts' k 0 ≡ get_or heads t.into 0
  next_here k e = ap (λ (x : ℕ). get_or nexts' x 0) e ∙ get_or-set_same nexts n (get_or heads t.into 0) 0 (omega arith)

  next_other : (k : ℕ) → k < n → get_or nexts' k 0 ≡ get_or nexts k 0
  next_other k l = get_or-set_other nexts n k (get_or heads t.into 0) 0 (λ e. omega arith)

  heads_within : HeadsWithin all heads'
  heads_within i h =
      ⊎_elim (λ e. omega (arith, head_here i e, size)) (λ ne. omega (arith, head_other i ne, laws.0 i h, size)) (cases_eq i t.into)

  heads_have : HeadsHave all heads'
  heads_have i h =
      ⊎_elim
      (λ e. ap (λ (k : ℕ). has_in all k i) (head_here i e) ∙ eq-eqb _ _ (ap (λ (u : Turn). u.into) (entry_last ts t n refl) ∙ sym e))
      (λ ne. ap (λ (k : ℕ). has_in all k i) (head_other i ne) ∙ in_push ts t (get_or heads i 0) i (laws.0 i h.0)
      ∙ laws.1.0 i (h.0, omega (arith, h.1, head_other i ne)))
      (cases_eq i t.into)

  heads_last : HeadsLast all heads'
  heads_last i j h =
      ⊎_elim
      (λ e. absurd (omega (arith, h.1, h.2, head_here i e, size)))
      (λ ne. ⊎_elim
      (λ l. in_push ts t j i (omega arith) ∙ laws.1.1.0 i j (h.0, omega (arith, h.1, head_other i ne), omega arith))
      (λ l. ne_eqb _ _ (λ q. ne (sym (ap (λ (u : Turn). u.into) (sym (entry_last ts t j (omega (arith, h.2, size)))) ∙ q))))
      (cases_lt j n))
      (cases_eq i t.into)

  nexts_within : NextsWithin all nexts'
  nexts_within k h =
      ⊎_elim (λ l. omega (arith, next_other k l, laws.1.1.1.0 k (h.0, omega arith)))
      (λ l. let e : k ≡ n = omega (arith, h.1, size) in omega (arith, next_here k e, laws.0 t.into small))
      (cases_lt k n)

  nexts_have : NextsHave all nexts'
  nexts_have k h =
      ⊎_elim
      (λ l. let below = laws.1.1.1.0 k (h.0, omega arith) in
      ap₂ (λ (x : ℕ) (u : Turn). has_in all x u.into) (next_other k l) (entry_push ts t k (omega arith))
      ∙ in_push ts t (get_or nexts k 0) (entry ts k).into (omega arith)
      ∙ laws.1.1.1.1.0 k (h.0, omega arith, omega (arith, h.2, next_other k l)))
      (λ l. let e : k ≡ n = omega (arith, h.1, size) in
      ap₂ (λ (x : ℕ) (u : Turn). has_in all x u.into) (next_here k e) (entry_last ts t k e)
      ∙ in_push ts t (get_or heads t.into 0) t.into (laws.0 t.into small)
      ∙ laws.1.0 t.into (small, omega (arith, h.2, next_here k e)))
      (cases_lt k n)

  nexts_last : NextsLast all nexts'
  nexts_last k j h =
      ⊎_elim
      (λ l. ap (λ (u : Turn). has_in all j u.into) (entry_push ts t k (omega arith)) ∙ in_push ts t j (entry ts k).into (omega (arith, h.2))
      ∙ laws.1.1.1.1.1.0 k j (omega arith, omega (arith, h.1, next_other k l), h.2))
      (λ l. let e : k ≡ n = omega (arith, h.0, size) in
      ap (λ (u : Turn). has_in all j u.into) (entry_last ts t k e) ∙ in_push ts t j t.into (omega (arith, h.2))
      ∙ laws.1.1.0 t.into j (small, omega (arith, h.1, next_here k e), omega (arith, h.2)))
      (cases_lt k n)

  pub indexed_push : (new : List Turn) → new ≡ all → Indexed new heads' nexts'
  indexed_push new e =
      subst (λ (x : List Turn). Indexed x heads' nexts') (sym e)
      (heads_within, (heads_have, (heads_last, (nexts_within, (nexts_have, (nexts_last, tt))))))

-- the index depends on nothing but the links in
pub indexed_same : (ts us : List Turn) (heads nexts : List ℕ) → length us ≡ length ts → ((j : ℕ) → (entry us j).into ≡ (entry ts j).into)
    → Indexed ts heads nexts → Indexed us heads nexts
indexed_same ts us heads nexts size same laws = (
  (λ i h. omega (arith, laws.0 i h)),
  (
    (λ i h. kept (get_or heads i 0) i ∙ laws.1.0 i h),
    (
      (λ i j h. kept j i ∙ laws.1.1.0 i j (h.0, h.1, omega (arith, h.2))),
      (
        (λ k h. laws.1.1.1.0 k (h.0, omega (arith, h.1))),
        (
          (λ k h. kept (get_or nexts k 0) (entry us k).into ∙ ap (λ (x : ℕ). has_in ts (get_or nexts k 0) x) (same k)
              ∙ laws.1.1.1.1.0 k (h.0, omega (arith, h.1), h.2)),
          (
            (λ k j h. kept j (entry us k).into ∙ ap (λ (x : ℕ). has_in ts j x) (same k)
                ∙ laws.1.1.1.1.1.0 k j (omega (arith, h.0), h.1, h.2)),
            tt,
          ),
        ),
      ),
    ),
  ),
)
  where
    kept : (j into : ℕ) → has_in us j into ≡ has_in ts j into
    kept j into = ap (λ (x : ℕ). eqb x into) (same j)

getD_zeros : (m i : ℕ) → ◌≡◌ {A = ℕ} (get_or (replicate m 0) i 0) 0
getD_zeros zero i = refl
getD_zeros (suc m) zero = refl
getD_zeros (suc m) (suc i) = getD_zeros m i

pub indexed_none : (ts : List Turn) (m l : ℕ) → ts ≡ [] → Indexed ts (replicate m 0) (replicate l 0)
indexed_none ts m l e =
    subst (λ (x : List Turn). Indexed x (replicate m 0) (replicate l 0)) (sym e) (
      (λ i h. omega (arith, getD_zeros m i)),
      (
        (λ i h. absurd (omega (arith, h.1, getD_zeros m i))),
        (
          (λ i j h. absurd (omega (arith, h.1, h.2))),
          (
            (λ k h. absurd (omega (arith, h.0, h.1))),
            ((λ k h. absurd (omega (arith, h.0, h.1))), ((λ k j h. absurd (omega (arith, h.0, h.2))), tt)),
          ),
        ),
      ),
    )

pub same_ins : (ts : List Turn) (place class extra : ℕ) → place < length ts → (j : ℕ) → (entry (changed_at ts place class extra) j).into ≡ (entry ts j).into
same_ins ts place class extra inside zero = refl
same_ins ts place class extra inside (suc j) = (pair_kept ts place class extra inside j).0

-- an entry has the pair where it has the link in and the link out
pub pair_by_in : (ts : List Turn) (j into out : ℕ) → has_in ts j into ≡ false → same_pair (entry ts j) into out ≡ false
pair_by_in ts j into out e = and_left (eqb (entry ts j).into into) (eqb (entry ts j).out out) e

-- one step back along the entries with a link in
pub step_back : (ts : List Turn) (nexts : List ℕ) (into out k : ℕ) → NextsWithin ts nexts → NextsHave ts nexts → NextsLast ts nexts
    → 1 ≤ k → k ≤ length ts → has_in ts k into ≡ true → ((entry ts k).out ≡ out → ⊥)
    → ((j : ℕ) → k < j → j ≤ length ts → same_pair (entry ts j) into out ≡ false)
    → (get_or nexts k 0 ≤ length ts) × (0 < get_or nexts k 0 → has_in ts (get_or nexts k 0) into ≡ true)
    × ((j : ℕ) → get_or nexts k 0 < j → j ≤ length ts → same_pair (entry ts j) into out ≡ false)
step_back ts nexts into out k within have last low high has other later =
    let is : (entry ts k).into ≡ into = eqb-true (entry ts k).into into has in (
      omega (arith, within k (low, high)),
      (λ some. ap (λ (x : ℕ). has_in ts (get_or nexts k 0) x) (sym is) ∙ have k (low, high, some)),
      (λ j m h. ⊎_elim
          (λ e. subst (λ (x : ℕ). same_pair (entry ts x) into out ≡ false) (sym e) (and_right (eqb (entry ts k).into into) (eqb (entry ts k).out out) (ne_eqb _ _ other)))
          (⊎_elim
          (λ l. pair_by_in ts j into out (ap (λ (x : ℕ). has_in ts j x) (sym is) ∙ last k j (high, m, l)))
          (λ l. later j l h))
          (cases_order j k)),
    )
