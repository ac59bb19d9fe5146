-- Numbers of at most 9 digits, and the words that write them.
use Rattle.std.proofs.Common.{◌≡◌, ℕ, ◌^◌, ◌<◌, ◌≤◌, true, false, not, eqb, ltb, leb, List, length, get_or, Some, None, decimal, sym, ap, ◌∙◌, subst, inl, inr, arith, rules}
use Rattle.std.proofs.lemmas.Fmt.{decimal-digits_value, decimal_nonempty, first_decimal, length-decimal-le, digits_decimal, digits_value-decimal}
use Rattle.std.proofs.lemmas.Str.Parse.{IsNumeralModel, IsDigitsTest, FoldsDigits, numerals_by_fold, not_in_digits, digits_value_short}
use Rattle.std.proofs.lemmas.Bool.{cases_Bool, cases_lt, and_parts, and_cases, and_from, and_left, and_right, eqb-false, ltb-false, leb-true, le-leb, le-ltb, ne_eqb, not-true, not_from_false, cond-true, cond-false}
use Rattle.text.specs.Numbers.{all_digits, padded, numeral, value_after, value, number_of}

tells : IsDigitsTest (λ ds. all_digits ds ≡ true)
unfolding all_digits
tells = search rules

folds : FoldsDigits value_after
unfolding value_after
folds = search rules

pub own : IsNumeralModel (λ ds. all_digits ds ≡ true) (value_after 0)
own = numerals_by_fold _ tells value_after folds

-- a word that is not padded has no 0 in front, unless it is 0
lone_zero : (word : List ℕ) → 1 ≤ length word → padded word ≡ false → get_or word 0 0 ≡ 48 → length word ≡ 1
lone_zero word some none zero_first =
    elim (and_cases (eqb (get_or word 0 0) 48) (ltb 1 (length word)) none) [
      | inl e ↦ absurd (eqb-false (get_or word 0 0) 48 e zero_first)
      | inr e ↦ omega (arith, ltb-false 1 (length word) e)
    ]

-- what is read as a number is its decimal
pub number_says : (word : List ℕ) (n : ℕ) → number_of word ≡ Some n → (n < 10 ^ 9) × (word ≡ decimal n)
unfolding number_of
number_says word n e =
    elim (cases_Bool (numeral word)) [
      | inl yes' ↦
          let some = and_parts (leb 1 (length word)) _ yes' in
          let few = and_parts (leb (length word) 9) _ some.1 in
          let clean = and_parts (not (padded word)) (all_digits word) few.1 in
          let long = leb-true 1 (length word) some.0 in
          let small = digits_value_short own word 9 clean.1 (leb-true (length word) 9 few.0) in
          let is : Some (value word) ≡ Some n = sym (cond-true (numeral word) (Some (value word)) None yes') ∙ e in
          let same : value word ≡ n = cc in
          let lead = lone_zero word long (not-true (padded word) clean.0) in
          (subst (λ (m : ℕ). m < 10 ^ 9) same small, sym (decimal-digits_value own word clean.1 (omega arith) lead (omega arith)) ∙ ap decimal same)
      | inr no' ↦
          let is : None ≡ Some n = sym (cond-false (numeral word) (Some (value word)) None no') ∙ e in
          let never : ◌≡◌ {A = ℕ} 0 1 = cc in
          absurd (omega arith)
    ]

not_padded : (n : ℕ) → n < 10 ^ 9 → padded (decimal n) ≡ false
not_padded n small =
    elim (cases_lt 0 n) [
      | inl some ↦ and_left (eqb (get_or (decimal n) 0 0) 48) _ (ne_eqb (get_or (decimal n) 0 0) 48 (let first = first_decimal n some (omega arith) in λ e. omega arith))
      | inr none ↦ and_right _ (ltb 1 (length (decimal n))) (le-ltb 1 (length (decimal n)) (length-decimal-le 1 n (omega arith) (omega arith) (omega arith)))
    ]

-- the decimal of a number is read as the number
pub number_read : (n : ℕ) → n < 10 ^ 9 → number_of (decimal n) ≡ Some n
unfolding number_of
number_read n small =
    let some = le-leb 1 (length (decimal n)) (decimal_nonempty n (omega arith)) in
    let few = le-leb (length (decimal n)) 9 (length-decimal-le 9 n (omega arith) small (omega arith)) in
    let clean = not_from_false (padded (decimal n)) (not_padded n small) in
    let digits = digits_decimal own n (omega arith) in
    let all = and_from (leb 1 (length (decimal n))) _ some
    (and_from (leb (length (decimal n)) 9) _ few
    (and_from (not (padded (decimal n))) (all_digits (decimal n)) clean digits)) in
    cond-true (numeral (decimal n)) (Some (value (decimal n))) None all ∙ ap (λ (m : ℕ). Some m) (digits_value-decimal own n (omega arith))

-- no digit is a blank
pub no_blank : (n : ℕ) → n < 10 ^ 9 → (k : ℕ) → k < length (decimal n) → get_or (decimal n) k 0 ≡ 32 → ⊥
no_blank n small = not_in_digits own (decimal n) 32 (digits_decimal own n (omega arith)) (λ in_range. omega arith)
