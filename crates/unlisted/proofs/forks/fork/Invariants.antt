use Rattle.unlisted.specs.Listed.{question}
use Rattle.unlisted.specs.Along.{nexts}
use Rattle.unlisted.proofs.Forking.{TakenIn}
use Rattle.unlisted.proofs.forks.fork.Given as goal

abbrev pub invariant-loop-number : goal.invariant-loop-number
invariant-loop-number g l = TakenIn (question l.routes.listing).routes l.number l.along.links.now l.count (nexts l.fork)
