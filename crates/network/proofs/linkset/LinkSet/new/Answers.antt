use Rattle.std.proofs.Common.{refl}
use Rattle.network.specs.Marks.{bits, marks}
use Rattle.network.proofs.linkset.LinkSet.new.Goals as goal

pub returns : goal.returns
unfolding bits marks
returns c = refl
