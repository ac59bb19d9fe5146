use Rattle.unlisted.proofs.Outset.{BackTo}
use Rattle.unlisted.proofs.cheapest.clear.Given as goal

abbrev pub invariant-loop-cost : goal.invariant-loop-cost
invariant-loop-cost g l = BackTo g.M.Measure.rank (g.M.Measure.ranks l.measure).start l.costs l.cost-index
