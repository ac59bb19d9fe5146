use Rattle.std.proofs.Common.{◌≡◌, ◌^◌, ◌<◌, drop}
use Rattle.text.proofs.Values.{read_after}
use Rattle.text.proofs.numbers.digits_value.Given as goal

-- what is left, read behind n, gives what the word gives; n has as many digits as were read
abbrev pub invariant-loop-byte : goal.invariant-loop-byte
invariant-loop-byte l = (read_after l.n (drop l.byte-index l.word) ≡ read_after 0 l.word) × (l.n < 10 ^ l.byte-index)
