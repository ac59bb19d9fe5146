-- The lengths of decimals. Assumes nothing.
use Rattle.std.proofs.Common.{ℕ, ◌^◌, ◌<◌, ◌≤◌, length, decimal, arith, length-append}
use Rattle.std.proofs.lemmas.Fmt.{length-decimal-le}
use Rattle.measure.specs.Texts.{metres_text}

-- a number of 32 bits has at most ten digits
pub length_word : (n : ℕ) → n < 2 ^ 32 → length (decimal n) ≤ 10
length_word n h = length-decimal-le 10 n (omega arith) (omega arith) (omega arith)

-- a number of 64 bits has at most twenty digits
pub length_long : (n : ℕ) → n < 2 ^ 64 → length (decimal n) ≤ 20
length_long n h = length-decimal-le 20 n (omega arith) (omega arith) h

-- so many metres take at most twelve bytes
pub length_metres : (n : ℕ) → n < 2 ^ 32 → length (metres_text n) ≤ 12
length_metres n h = simp length-append (omega (arith, length_word n h))
