-- Marks by the numbers of links. Assumes nothing.
use Rattle.std.proofs.Common.{◌≡◌, ℕ, zero, suc, ◌+◌, ◌*◌, ◌<◌, ◌≤◌, Bool, true, false, ◌||◌, eqb, List, [], ◌∷◌, length, get_or, take, set, replicate, fold, sym, refl, ap, ◌∙◌, ⊎_elim, arith}
use Rattle.std.proofs.lemmas.List.{get_or_past, set_past, length-set, get_or-set_same, get_or-set_other, get_or-replicate, length-replicate}
use Rattle.std.proofs.lemmas.List.Sums.{fold_more}
use Rattle.std.proofs.lemmas.Bool.{cases_lt, cases_eq, eq-eqb, ne_eqb}
use Rattle.std.proofs.Math.Bool.{or-false}
use Rattle.network.specs.declared.linkset.LinkSet.{LinkSet}
use Rattle.network.specs.Marks.{marks, marked, added, marks_of}
use Rattle.network.specs.Shared.{stands_in}
use Rattle.network.proofs.Words.{length_words}

pub length_marks : (s : LinkSet) → length (marks s) ≡ 1024
unfolding marks
length_marks s = length_words s.words ∙ ap (λ (n : ℕ). 64 * n) s.long

-- a number that is no link's has no mark, and none is given to it
module _ (ms : List Bool) where
  abbrev Outside : ℕ → Type 0
  Outside n = 1 ≤ n → n ≤ length ms → ⊥

  past : (n : ℕ) → Outside (suc n) → length ms ≤ n
  past n out = ⊎_elim (λ (h : n < length ms). absurd (out (omega arith) (omega arith))) (λ h. h) (cases_lt n (length ms))

  pub no_mark : (n : ℕ) → Outside n → get_or (false ∷ ms) n false ≡ false
  no_mark zero out = refl
  no_mark (suc n) out = get_or_past ms n false (past n out)

  pub not_marked : (n : ℕ) (b : Bool) → Outside n → marked ms n b ≡ ms
  not_marked zero b out = refl
  not_marked (suc n) b out = set_past ms n b (past n out)

pub length_marked : (ms : List Bool) (n : ℕ) (b : Bool) → length (marked ms n b) ≡ length ms
length_marked ms zero b = refl
length_marked ms (suc n) b = length-set ms n b

-- one more link of a list
pub marks_of_more : (ns : List ℕ) (i : ℕ) → i < length ns
    → marks_of (take (i + 1) ns) ≡ marked (marks_of (take i ns)) (get_or ns i 0) true
unfolding marks_of
marks_of_more ns i h = fold_more added (replicate 1024 false) ns i 0 h

pub added_has : (ms : List Bool) (x n : ℕ) → 1 ≤ n → n ≤ length ms
    → get_or (false ∷ added ms x) n false ≡ (eqb n x || get_or (false ∷ ms) n false)
added_has ms x zero h l = absurd (omega arith)
added_has ms zero (suc n) h l = sym (ap (λ (b : Bool). b || get_or ms n false) (ne_eqb (suc n) 0 (λ e. omega arith)))
added_has ms (suc x) (suc n) h l = ⊎_elim same other (cases_eq n x)
  where
    same : n ≡ x → get_or (set ms x true) n false ≡ (eqb (suc n) (suc x) || get_or ms n false)
    same e =
        ap (λ (i : ℕ). get_or (set ms x true) i false) e ∙ get_or-set_same ms x true false (omega arith)
        ∙ sym (ap (λ (b : Bool). b || get_or ms n false) (eq-eqb (suc n) (suc x) (omega arith)))

    other : (n ≡ x → ⊥) → get_or (set ms x true) n false ≡ (eqb (suc n) (suc x) || get_or ms n false)
    other ne =
        get_or-set_other ms x n true false ne
        ∙ sym (ap (λ (b : Bool). b || get_or ms n false) (ne_eqb (suc n) (suc x) (λ e. ne (omega arith))))

or_swap : (a b m : Bool) → (a || (b || m)) ≡ (b || a || m)
or_swap true true m = refl
or_swap true false m = refl
or_swap false true m = refl
or_swap false false m = refl

all_added_has : (ms : List Bool) (ns : List ℕ) (n : ℕ) → 1 ≤ n → n ≤ length ms
    → get_or (false ∷ fold added ms ns) n false ≡ (stands_in n ns || get_or (false ∷ ms) n false)
all_added_has ms [] n h l = refl
all_added_has ms (x ∷ ns) n h l =
    all_added_has (added ms x) ns n h (omega (arith, length_marked ms x true))
    ∙ ap (λ (b : Bool). stands_in n ns || b) (added_has ms x n h l)
    ∙ or_swap (stands_in n ns) (eqb n x) (get_or (false ∷ ms) n false)

-- the marks of a list tell which links stand in it
pub marks_of_has : (ns : List ℕ) (n : ℕ) → 1 ≤ n → n ≤ 1024 → get_or (false ∷ marks_of ns) n false ≡ stands_in n ns
unfolding marks_of
marks_of_has ns zero h l = absurd (omega arith)
marks_of_has ns (suc n) h l =
    all_added_has (replicate 1024 false) ns (suc n) h (omega (arith, length-replicate 1024 false))
    ∙ ap (λ (b : Bool). stands_in (suc n) ns || b) (get_or-replicate 1024 n false false (omega arith))
    ∙ or-false (stands_in (suc n) ns)
