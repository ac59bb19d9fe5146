use Rattle.std.proofs.Common.{◌≡◌, ℕ, ◌+◌, ◌/◌, ◌^◌, ◌<◌, ◌≤◌, length, decimal, ap, ◌∙◌, arith, rules, length-append}
use Rattle.std.proofs.lemmas.Fmt.{decimal_digit, decimal_step}
use Rattle.text.proofs.Puts.{put_next}
use Rattle.text.proofs.writing.+put_decimal.Goals as goal

length_step : (n : ℕ) → 10 ≤ n → n < 2 ^ 64 → length (decimal n) ≡ length (decimal (n / 10)) + 1
length_step n h small = ap length (decimal_step n h small) ∙ length-append (decimal (n / 10)) _

pub put_word-requires : goal.put_word-requires
put_word-requires t c = omega (arith, ap length (decimal_digit c.args.n c.if-n-lt10.true))

pub returns-then-n-lt10 : goal.returns-then-n-lt10
returns-then-n-lt10 t c = rw (decimal_digit c.args.n c.if-n-lt10.true) c.put_word.ensures

pub put_decimal-end-requires : goal.put_decimal-end-requires
put_decimal-end-requires t c = (search rules, omega (arith, length_step c.args.n c.if-n-lt10.false (omega arith)))

pub put_word-requires-2 : goal.put_word-requires-2
put_word-requires-2 t c = omega (arith, length_step c.args.n c.if-n-lt10.false (omega arith))

pub returns : goal.returns
returns t c =
    rw (decimal_step c.args.n c.if-n-lt10.false (omega arith)) (put_next c.put_decimal-end.ensures c.put_word-2.ensures)
