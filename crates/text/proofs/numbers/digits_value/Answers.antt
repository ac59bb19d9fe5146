-- Each digit is read behind those before it; nine of them fit.
use Rattle.std.proofs.Common.{◌≡◌, ℕ, ◌+◌, ◌*◌, ◌<◌, false, get_or, drop, sym, ap, ◌∙◌, arith}
use Rattle.std.specs.Char.{IsDigitOf, NotDecimalDigitIn}
use Rattle.text.specs.Numbers.{digit}
use Rattle.text.proofs.Values.{read_after, read_digit, read_other, read_all, digit_told, no_digit_told, below_by_digits, more_digits}
use Rattle.text.proofs.numbers.digits_value.Goals as goal

pub overflow_mul-n : goal.overflow_mul-n
overflow_mul-n c = omega (arith, below_by_digits c.loop-byte.n c.loop-byte.byte-index c.loop-byte.invariant.1 (omega arith))

pub returns-in_err-n : goal.returns-in_err-n
returns-in_err-n c =
    let told : NotDecimalDigitIn 10 c.from.result = c.in_err-n.ensures.cases in
    let other : digit (get_or c.args.word.now c.loop-byte.byte-index 0) ≡ false = no_digit_told _ (rw c.from.ensures at told) in
    rw c.from_residual.ensures (sym (read_other c.loop-byte.n c.args.word.now c.loop-byte.byte-index (omega arith) other) ∙ c.loop-byte.invariant.0)

pub overflow_add-n : goal.overflow_add-n
overflow_add-n c =
    let small : c.in_ok-n.field-0 < 10 = omega (arith, c.in_ok-n.ensures.value) in
    omega (arith, below_by_digits c.loop-byte.n c.loop-byte.byte-index c.loop-byte.invariant.1 (omega arith))

pub loop-byte-preserved : goal.loop-byte-preserved
loop-byte-preserved c =
    let word = c.args.word.now in
    let i = c.loop-byte.byte-index in
    let n = c.loop-byte.n in
    let d = c.in_ok-n.field-0 in
    let small : d < 10 = omega (arith, c.in_ok-n.ensures.value) in
    let cases : IsDigitOf c.from.result d = c.in_ok-n.ensures.cases in
    let told = digit_told (get_or word i 0) d (rw c.from.ensures at cases) small in (
      ap (λ (x : ℕ). read_after (n * 10 + x) (drop (i + 1) word)) told.1 ∙ sym (read_digit n word i (omega arith) told.0) ∙ c.loop-byte.invariant.0,
      more_digits n d i c.loop-byte.invariant.1 (omega arith),
    )

pub returns : goal.returns
returns c =
    sym (read_all c.loop-byte.n c.args.word.now c.loop-byte.byte-index (omega arith)) ∙ c.loop-byte.invariant.0
