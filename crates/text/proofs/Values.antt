-- The number that a word's digits write, read digit by digit.
--     read_after n word      the number that the word writes behind n, or nothing where some byte is no digit
use Rattle.std.proofs.Common.{◌≡◌, ℕ, ◌+◌, ◌-◌, ◌*◌, ◌^◌, ◌<◌, ◌≤◌, true, false, cond, leb, inl, inr, List, length, get_or, drop, Some, None, Option, refl, ◌∙◌, add-one, arith}
use native.Mathlib.Nat.{pow-le-pow_right, pow-succ'}
use Rattle.std.proofs.lemmas.List.{at_drop_more, at_drop_all}
use Rattle.std.specs.Char.{IsDigitOf, NotDecimalDigitIn}
use Rattle.std.proofs.lemmas.Bool.{and_from, and_left, and_right, cases_lt, le-leb, lt-leb}
use Rattle.text.specs.Numbers.{digit, all_digits, value_after}

abbrev pub read_after : ℕ → List ℕ → Option ℕ
read_after n word = cond (all_digits word) (Some (value_after n word)) None

-- what a character tells of its digit, of the byte that it is
pub digit_told : (b d : ℕ) → IsDigitOf b d → d < 10 → (digit b ≡ true) × (d ≡ b - 48)
digit_told b d (inl t) small = (and_from (leb 48 b) (leb b 57) (le-leb 48 b (omega arith)) (le-leb b 57 (omega arith)), omega arith)
digit_told b d (inr (inl t)) small = absurd (omega arith)
digit_told b d (inr (inr t)) small = absurd (omega arith)

pub no_digit_told : (b : ℕ) → NotDecimalDigitIn 10 b → digit b ≡ false
no_digit_told b told =
    elim (cases_lt b 48) [
      | inl below ↦ and_left (leb 48 b) (leb b 57) (lt-leb 48 b below)
      | inr from ↦ and_right (leb 48 b) (leb b 57) (lt-leb b 57 (elim (cases_lt 57 b) [ inl above ↦ above | inr within ↦ absurd (omega (arith, told from within)) ]))
    ]

-- a digit is read
pub read_digit : (n : ℕ) (word : List ℕ) (i : ℕ) → i < length word → digit (get_or word i 0) ≡ true
    → read_after n (drop i word) ≡ read_after (n * 10 + (get_or word i 0 - 48)) (drop (i + 1) word)
unfolding all_digits value_after
read_digit n word i inside here = at_drop_more (read_after n) word i 0 inside ∙ rw here refl

-- a byte that is no digit ends the reading
pub read_other : (n : ℕ) (word : List ℕ) (i : ℕ) → i < length word → digit (get_or word i 0) ≡ false
    → read_after n (drop i word) ≡ None
unfolding all_digits
read_other n word i inside here = at_drop_more (read_after n) word i 0 inside ∙ rw here refl

-- nothing is left
pub read_all : (n : ℕ) (word : List ℕ) (i : ℕ) → length word ≤ i → read_after n (drop i word) ≡ Some n
unfolding all_digits value_after
read_all n word i past = at_drop_all (read_after n) word i past

-- a number of i digits, fewer than 9
pub below_by_digits : (n i : ℕ) → n < 10 ^ i → i < 9 → n < 100000000
below_by_digits n i few short = omega (arith, pow-le-pow_right {n = 10} (omega arith) {i = i} {j = 8} (omega arith))

-- one digit more
pub more_digits : (n d i : ℕ) → n < 10 ^ i → d < 10 → n * 10 + d < 10 ^ (i + 1)
more_digits n d i few small = rw (add-one, pow-succ') (omega arith)
