-- A text cut at its first blank.
use Rattle.std.proofs.Common.{◌≡◌, ℕ, suc, ◌<◌, eqb, List, [], ◌∷◌, ◌++◌, length, get_or, Some, None, Option, sym, refl, ap, ◌∙◌, subst, inl, inr, arith}
use Rattle.std.proofs.lemmas.Bool.{ne_eqb, eqb-true, cases_Bool, cond-true, cond-false}
use Rattle.text.specs.Parts.{◌⊛◌, ◌and_then◌}
use Rattle.text.specs.Cuts.{behind, cut_at}
use Rattle.console.specs.Cuts.{cut}

pub some_same : {A : Type 0} {x y : A} → Some x ≡ Some y → x ≡ y
some_same e = cc

pub never : {A B : Type 0} {x : A} → None ≡ Some x → B
never e = let no_way : ◌≡◌ {A = ℕ} 0 1 = cc in absurd (omega arith)

-- what is made of parts that may be missing has all of them
pub part : {A B : Type 0} (f : A → B) (o : Option A) (z : B) → (Some f ⊛ o) ≡ Some z → (a : A) × (o ≡ Some a) × (f a ≡ z)
part f None z e = never e
part f (Some a) z e = (a, refl, some_same e)

pub two_parts : {A B C : Type 0} (f : A → B → C) (o : Option A) (p : Option B) (z : C) → (Some f ⊛ o ⊛ p) ≡ Some z
    → (a : A) × (b : B) × (o ≡ Some a) × (p ≡ Some b) × (f a b ≡ z)
two_parts f None p z e = never e
two_parts f (Some a) None z e = never e
two_parts f (Some a) (Some b) z e = (a, b, refl, refl, some_same e)

pub three_parts : {A B C D : Type 0} (f : A → B → C → D) (o : Option A) (p : Option B) (q : Option C) (z : D) → (Some f ⊛ o ⊛ p ⊛ q) ≡ Some z
    → (a : A) × (b : B) × (c : C) × (o ≡ Some a) × (p ≡ Some b) × (q ≡ Some c) × (f a b c ≡ z)
three_parts f None p q z e = never e
three_parts f (Some a) None q z e = never e
three_parts f (Some a) (Some b) None z e = never e
three_parts f (Some a) (Some b) (Some c) z e = (a, b, c, refl, refl, refl, some_same e)

pub then_parts : {A B : Type 0} (o : Option A) (f : A → Option B) (z : B) → (o and_then f) ≡ Some z → (x : A) × (o ≡ Some x) × (f x ≡ Some z)
then_parts None f z e = never e
then_parts (Some x) f z e = (x, refl, e)

-- what is cut stood before and after a blank
pub cut_says : (text : List ℕ) (p : List ℕ × List ℕ) → cut text ≡ Some p → text ≡ p.0 ++ (32 ∷ p.1)
unfolding cut_at
cut_says [] p e = never e
cut_says (b ∷ text) p e =
    elim (cases_Bool (eqb b 32)) [
      | inl blank ↦
          let is : Some ([], text) ≡ Some p = sym (cond-true (eqb b 32) (Some ([], text)) (Some (behind b) ⊛ cut text) blank) ∙ e in
          let same : ([], text) ≡ p = some_same is in
          subst (λ (q : List ℕ × List ℕ). b ∷ text ≡ q.0 ++ (32 ∷ q.1)) same (ap (λ (x : ℕ). x ∷ text) (eqb-true b 32 blank))
      | inr other ↦
          let is : (Some (behind b) ⊛ cut text) ≡ Some p = sym (cond-false (eqb b 32) (Some ([], text)) (Some (behind b) ⊛ cut text) other) ∙ e in
          let more = part (behind b) (cut text) p is in
          let rest = cut_says text more.0 more.1 in
          subst (λ (q : List ℕ × List ℕ). b ∷ text ≡ q.0 ++ (32 ∷ q.1)) more.2 (ap (λ (t : List ℕ). b ∷ t) rest)
    ]

-- a text is cut at the first of its blanks
pub cut_read : (word rest : List ℕ) → ((k : ℕ) → k < length word → get_or word k 0 ≡ 32 → ⊥) → cut (word ++ (32 ∷ rest)) ≡ Some (word, rest)
unfolding cut_at
cut_read [] rest none = refl
cut_read (b ∷ word) rest none =
    rw (ne_eqb b 32 (none 0 (omega arith)))
    (ap (λ (o : Option (List ℕ × List ℕ)). Some (behind b) ⊛ o) (cut_read word rest (λ k h. none (suc k) (omega arith))))
