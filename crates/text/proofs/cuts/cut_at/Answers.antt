use Rattle.std.proofs.Common.{rules}
use Rattle.std.proofs.lemmas.List.{take_rest}
use Rattle.text.proofs.Cut.{cut_here, cut_nowhere}
use Rattle.text.proofs.cuts.cut_at.Goals as goal

pub returns-in_err-i : goal.returns-in_err-i
returns-in_err-i c = rw c.from_residual.ensures (cut_nowhere c.args.byte c.args.text.now (search rules))

pub returns : goal.returns
returns c =
    rw (cut_here c.args.byte c.args.text.now c.in_ok-i.i (search rules) (search rules) (search rules), take_rest)
