use Rattle.unlisted.specs.Along.{NewFrom}
use Rattle.unlisted.proofs.forks.new_from.Given as goal

abbrev pub invariant-loop-front : goal.invariant-loop-front
invariant-loop-front l = NewFrom l.fronts l.front-index l.low
