use Rattle.std.proofs.Common.{sym, arith}
use Rattle.network.proofs.Bits.{both_bits}
use Rattle.network.proofs.linksets.shared_bits.Goals as goal

pub returns : goal.returns
returns c = sym (both_bits 64 c.args.x c.args.y (omega arith))
