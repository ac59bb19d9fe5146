use Rattle.std.proofs.Common.{arith}
use Rattle.unlisted.proofs.reading.fronts.Goals as goal

pub returns : goal.returns
returns c = record { room = omega (arith, c.loop-other.invariant.0, c.args.routes.few); each = λ i h. c.loop-other.invariant.1 i (omega arith) }
