-- Words side by side, and the marks that their bits are. Assumes nothing.
use Rattle.std.proofs.Common.{◌≡◌, ℕ, zero, suc, ◌+◌, ◌-◌, ◌*◌, ◌/◌, ◌%◌, ◌^◌, ◌<◌, ◌≤◌, Bool, true, false, eqb, List, [], ◌∷◌, ◌++◌, length, get_or, set, sym, refl, ap, ◌∙◌, ap₂, arith}
use lib.Bits.{bit_and, bit_or}
use Rattle.std.proofs.lemmas.Nat.{one_shl}
use Rattle.std.specs.List.{sum_by, zip}
use Rattle.std.proofs.lemmas.List.{get_or_append_left, get_or-append_right, set-append_left, set-append_right, length-append}
use Rattle.std.proofs.lemmas.List.Sums.{sum_by-cons}
use Rattle.network.specs.Marks.{bits, all_bits, marked, both}
use Rattle.network.proofs.Bits.{length_bits, bit_at, bits_with, bits_without}

mark_at : (ws : List ℕ) (q j : ℕ) (d : Bool) → q < length ws → j < 64
    → get_or (all_bits ws) (64 * q + j) d ≡ eqb (get_or ws q 0 / 2 ^ j % 2) 1
mark_at [] q j d l h = absurd (omega arith)
mark_at (w ∷ ws) zero j d l h =
    let at : 64 * 0 + j ≡ j = omega arith in
    ap (λ (i : ℕ). get_or (bits 64 w ++ all_bits ws) i d) at
    ∙ get_or_append_left (bits 64 w) (all_bits ws) d j (omega (arith, length_bits 64 w)) ∙ bit_at 64 w j d h
mark_at (w ∷ ws) (suc q) j d l h =
    let at : 64 * suc q + j - 64 ≡ 64 * q + j = omega arith in
    get_or-append_right (bits 64 w) (all_bits ws) 64 (64 * suc q + j) d (length_bits 64 w) (omega arith)
    ∙ ap (λ (i : ℕ). get_or (all_bits ws) i d) at ∙ mark_at ws q j d (omega arith) h

-- one bit of one word is one mark
mark_set : (ws : List ℕ) (q j w : ℕ) (b : Bool) → q < length ws → j < 64 → bits 64 w ≡ set (bits 64 (get_or ws q 0)) j b
    → all_bits (set ws q w) ≡ set (all_bits ws) (64 * q + j) b
mark_set [] q j w b l h e = absurd (omega arith)
mark_set (v ∷ ws) zero j w b l h e =
    let at : j ≡ 64 * 0 + j = omega arith in
    ap (λ (x : List Bool). x ++ all_bits ws) e
    ∙ sym (set-append_left (bits 64 v) (all_bits ws) j b (omega (arith, length_bits 64 v)))
    ∙ ap (λ (i : ℕ). set (bits 64 v ++ all_bits ws) i b) at
mark_set (v ∷ ws) (suc q) j w b l h e =
    let at : 64 * q + j ≡ 64 * suc q + j - 64 = omega arith in
    ap (λ (x : List Bool). bits 64 v ++ x)
    (mark_set ws q j w b (omega arith) h e ∙ ap (λ (i : ℕ). set (all_bits ws) i b) at)
    ∙ sym (set-append_right (bits 64 v) (all_bits ws) 64 (64 * suc q + j) b (length_bits 64 v) (omega arith))

module _ (ws : List ℕ) (n : ℕ) where
  abbrev word : ℕ
  word = get_or ws ((n - 1) / 64) 0

  abbrev bit : ℕ
  bit = (n - 1) % 64

  at_link : 1 ≤ n → suc (64 * ((n - 1) / 64) + bit) ≡ n
  at_link h = omega arith

  pub words_have : 1 ≤ n → n ≤ 64 * length ws → get_or (false ∷ all_bits ws) n false ≡ eqb (word / 2 ^ bit % 2) 1
  words_have h l =
      ap (λ (i : ℕ). get_or (false ∷ all_bits ws) i false) (sym (at_link h))
      ∙ mark_at ws ((n - 1) / 64) bit false (omega arith) (omega arith)

  words_marked : (w : ℕ) (b : Bool) → 1 ≤ n → n ≤ 64 * length ws → bits 64 w ≡ set (bits 64 word) bit b
      → all_bits (set ws ((n - 1) / 64) w) ≡ marked (all_bits ws) n b
  words_marked w b h l e =
      mark_set ws ((n - 1) / 64) bit w b (omega arith) (omega arith) e
      ∙ ap (λ (i : ℕ). marked (all_bits ws) i b) (at_link h)

  pub words_with : 1 ≤ n → n ≤ 64 * length ws
      → all_bits (set ws ((n - 1) / 64) (bit_or word ((1 * 2 ^ bit) % 2 ^ 64))) ≡ marked (all_bits ws) n true
  words_with h l =
      words_marked (bit_or word ((1 * 2 ^ bit) % 2 ^ 64)) true h l
      (ap (λ (x : ℕ). bits 64 (bit_or word x)) (one_shl bit 64 (omega arith)) ∙ bits_with 64 word bit)

  pub words_without : 1 ≤ n → n ≤ 64 * length ws
      → all_bits (set ws ((n - 1) / 64) (bit_and word (2 ^ 64 - 1 - (1 * 2 ^ bit) % 2 ^ 64))) ≡ marked (all_bits ws) n false
  words_without h l =
      words_marked (bit_and word (2 ^ 64 - 1 - (1 * 2 ^ bit) % 2 ^ 64)) false h l
      (ap (λ (x : ℕ). bits 64 (bit_and word (2 ^ 64 - 1 - x))) (one_shl bit 64 (omega arith))
      ∙ bits_without 64 64 word bit (omega arith) (omega arith))

pub length_words : (ws : List ℕ) → length (all_bits ws) ≡ 64 * length ws
length_words [] = refl
length_words (w ∷ ws) =
    length-append (bits 64 w) (all_bits ws) ∙ ap₂ (λ (x y : ℕ). x + y) (length_bits 64 w) (length_words ws)
    ∙ let e : 64 + 64 * length ws ≡ 64 * suc (length ws) = omega arith in e

both_append : (ms ns us vs : List Bool) → length ms ≡ length ns → both (ms ++ us) (ns ++ vs) ≡ both ms ns + both us vs
unfolding both
both_append [] [] us vs e = omega arith
both_append [] (n ∷ ns) us vs e = absurd (omega arith)
both_append (m ∷ ms) [] us vs e = absurd (omega arith)
both_append (m ∷ ms) (n ∷ ns) us vs e = omega (arith, both_append ms ns us vs (omega arith))

pub both_few : (ms ns : List Bool) → both ms ns ≤ length ms
unfolding both
both_few [] ns = omega arith
both_few (m ∷ ms) [] = omega arith
both_few (true ∷ ms) (true ∷ ns) = omega (arith, both_few ms ns)
both_few (true ∷ ms) (false ∷ ns) = omega (arith, both_few ms ns)
both_few (false ∷ ms) (n ∷ ns) = omega (arith, both_few ms ns)

-- how many bits two words share
abbrev pub in_both : ℕ × ℕ → ℕ
in_both p = both (bits 64 p.0) (bits 64 p.1)

pub both_words : (xs ys : List ℕ) → length xs ≡ length ys → both (all_bits xs) (all_bits ys) ≡ sum_by in_both (zip xs ys)
unfolding both
both_words [] ys e = refl
both_words (x ∷ xs) [] e = absurd (omega arith)
both_words (x ∷ xs) (y ∷ ys) e =
    both_append (bits 64 x) (bits 64 y) (all_bits xs) (all_bits ys) (length_bits 64 x ∙ sym (length_bits 64 y))
    ∙ ap (λ (n : ℕ). both (bits 64 x) (bits 64 y) + n) (both_words xs ys (omega arith))
    ∙ sym (sum_by-cons in_both (x, y) (zip xs ys))
