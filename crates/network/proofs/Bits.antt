-- The bits of a word. Assumes nothing.
use Rattle.std.proofs.Common.{◌≡◌, ℕ, zero, suc, ◌+◌, ◌-◌, ◌/◌, ◌%◌, ◌^◌, ◌<◌, ◌≤◌, Bool, true, false, cond, ◌&&◌, eqb, List, ◌∷◌, length, get_or, set, sym, refl, ap, ◌∙◌, ap₂, pow-suc, one-add, arith}
use lib.Bits.{bit_and, bit_or, and_shr, and_mod, or_shr, or_mod, or_zero_r, and_zero_r}
use lib.Count.{ones, ones_in, ones_step}
use Rattle.std.proofs.lemmas.Nat.{pow_pos, pow_below, shr-shr}
use Rattle.network.specs.Marks.{bits, both}

pub length_bits : (k w : ℕ) → length (bits k w) ≡ k
unfolding bits
length_bits zero w = refl
length_bits (suc k) w = ap suc (length_bits k (w / 2))

pub bit_at : (k w j : ℕ) (d : Bool) → j < k → get_or (bits k w) j d ≡ eqb (w / 2 ^ j % 2) 1
unfolding bits
bit_at zero w j d h = absurd (omega arith)
bit_at (suc k) w zero d h = let e : w ≡ w / 1 = omega arith in ap (λ (x : ℕ). eqb (x % 2) 1) e
bit_at (suc k) w (suc j) d h =
    bit_at k (w / 2) j d (omega arith)
    ∙ ap (λ (x : ℕ). eqb (x % 2) 1) (shr-shr w 1 j ∙ ap (λ (x : ℕ). w / 2 ^ x) (one-add j))

digit_or_one : (u : ℕ) → u < 2 → bit_or u 1 ≡ 1
digit_or_one zero h = refl
digit_or_one (suc zero) h = refl
digit_or_one (suc (suc u)) h = absurd (omega arith)

digit_and_one : (u : ℕ) → u < 2 → bit_and u 1 ≡ u
digit_and_one zero h = refl
digit_and_one (suc zero) h = refl
digit_and_one (suc (suc u)) h = absurd (omega arith)

bits_or : (k w v : ℕ) → bits (suc k) (bit_or w v) ≡ eqb (bit_or (w % 2) (v % 2)) 1 ∷ bits k (bit_or (w / 2) (v / 2))
unfolding bits
bits_or k w v = ap₂ (λ (x y : ℕ). eqb x 1 ∷ bits k y) (or_mod w v 1) (or_shr w v 1)

bits_and : (k w v : ℕ) → bits (suc k) (bit_and w v) ≡ eqb (bit_and (w % 2) (v % 2)) 1 ∷ bits k (bit_and (w / 2) (v / 2))
unfolding bits
bits_and k w v = ap₂ (λ (x y : ℕ). eqb x 1 ∷ bits k y) (and_mod w v 1) (and_shr w v 1)

-- a word or one bit
pub bits_with : (k w j : ℕ) → bits k (bit_or w (2 ^ j)) ≡ set (bits k w) j true
unfolding bits
bits_with zero w j = refl
bits_with (suc k) w zero =
    bits_or k w 1
    ∙ ap₂ (λ (x y : ℕ). eqb x 1 ∷ bits k y) (digit_or_one (w % 2) (omega arith)) (or_zero_r (w / 2))
bits_with (suc k) w (suc j) =
    let even : 2 ^ suc j % 2 ≡ 0 = omega (arith, pow-suc 2 j) in
    let half : 2 ^ suc j / 2 ≡ 2 ^ j = omega (arith, pow-suc 2 j) in
    bits_or k w (2 ^ suc j)
    ∙ ap₂ (λ (x y : ℕ). eqb (bit_or (w % 2) x) 1 ∷ bits k (bit_or (w / 2) y)) even half
    ∙ ap₂ (λ (x : ℕ) (l : List Bool). eqb x 1 ∷ l) (or_zero_r (w % 2)) (bits_with k (w / 2) j)

-- a word and n ones
bits_low : (n k w : ℕ) → k ≤ n → bits k (bit_and w (2 ^ n - 1)) ≡ bits k w
unfolding bits
bits_low n zero w h = refl
bits_low zero (suc k) w h = absurd (omega arith)
bits_low (suc n) (suc k) w h =
    let odd : (2 ^ suc n - 1) % 2 ≡ 1 = omega (arith, pow-suc 2 n, pow_pos n) in
    let half : (2 ^ suc n - 1) / 2 ≡ 2 ^ n - 1 = omega (arith, pow-suc 2 n, pow_pos n) in
    bits_and k w (2 ^ suc n - 1)
    ∙ ap₂ (λ (x y : ℕ). eqb (bit_and (w % 2) x) 1 ∷ bits k (bit_and (w / 2) y)) odd half
    ∙ ap₂ (λ (x : ℕ) (l : List Bool). eqb x 1 ∷ l) (digit_and_one (w % 2) (omega arith)) (bits_low n k (w / 2) (omega arith))

-- a word and n ones but for one bit
pub bits_without : (n k w j : ℕ) → k ≤ n → j < n → bits k (bit_and w (2 ^ n - 1 - 2 ^ j)) ≡ set (bits k w) j false
unfolding bits
bits_without n zero w j h l = refl
bits_without zero (suc k) w j h l = absurd (omega arith)
bits_without (suc n) (suc k) w zero h l =
    let even : (2 ^ suc n - 1 - 1) % 2 ≡ 0 = omega (arith, pow-suc 2 n, pow_pos n) in
    let half : (2 ^ suc n - 1 - 1) / 2 ≡ 2 ^ n - 1 = omega (arith, pow-suc 2 n, pow_pos n) in
    bits_and k w (2 ^ suc n - 1 - 1)
    ∙ ap₂ (λ (x y : ℕ). eqb (bit_and (w % 2) x) 1 ∷ bits k (bit_and (w / 2) y)) even half
    ∙ ap₂ (λ (x : ℕ) (l : List Bool). eqb x 1 ∷ l) (and_zero_r (w % 2)) (bits_low n k (w / 2) (omega arith))
bits_without (suc n) (suc k) w (suc j) h l =
    let below : 2 ^ j < 2 ^ n = pow_below j n (omega arith) in
    let odd : (2 ^ suc n - 1 - 2 ^ suc j) % 2 ≡ 1 = omega (arith, pow-suc 2 n, pow-suc 2 j) in
    let half : (2 ^ suc n - 1 - 2 ^ suc j) / 2 ≡ 2 ^ n - 1 - 2 ^ j = omega (arith, pow-suc 2 n, pow-suc 2 j) in
    bits_and k w (2 ^ suc n - 1 - 2 ^ suc j)
    ∙ ap₂ (λ (x y : ℕ). eqb (bit_and (w % 2) x) 1 ∷ bits k (bit_and (w / 2) y)) odd half
    ∙ ap₂ (λ (x : ℕ) (l : List Bool). eqb x 1 ∷ l) (digit_and_one (w % 2) (omega arith))
    (bits_without n k (w / 2) j (omega arith) (omega arith))

both_digits : (x y : ℕ) → x < 2 → y < 2 → cond (eqb x 1 && eqb y 1) 1 0 ≡ bit_and x y
both_digits zero y h l = refl
both_digits (suc zero) zero h l = refl
both_digits (suc zero) (suc zero) h l = refl
both_digits (suc zero) (suc (suc y)) h l = absurd (omega arith)
both_digits (suc (suc x)) y h l = absurd (omega arith)

pub both_bits : (k u v : ℕ) → u < 2 ^ k → both (bits k u) (bits k v) ≡ ones (bit_and u v)
unfolding both bits ones ones_in
both_bits zero u v h = let e : 0 ≡ u = omega arith in ap (λ (x : ℕ). ones (bit_and x v)) e
both_bits (suc k) u v h =
    ap₂ (λ (x y : ℕ). x + y)
    (both_digits (u % 2) (v % 2) (omega arith) (omega arith) ∙ sym (and_mod u v 1))
    (both_bits k (u / 2) (v / 2) (omega (arith, pow-suc 2 k)) ∙ ap ones (sym (and_shr u v 1)))
    ∙ sym (ones_step (bit_and u v))
