use Rattle.std.proofs.Common.{length, arith}
use Rattle.unlisted.proofs.Outset.{back_more, back_all}
use Rattle.unlisted.proofs.cheapest.clear.Goals as goal

pub loop-cost-init : goal.loop-cost-init
loop-cost-init g c = λ k h. absurd (omega arith)

pub loop-cost-preserved : goal.loop-cost-preserved
loop-cost-preserved g c =
    back_more g.M.Measure.rank (g.M.Measure.ranks c.args.measure.now).start c.loop-cost.costs c.loop-cost.cost-index c.start.result (omega arith) c.loop-cost.invariant c.start.ensures

pub returns : goal.returns
returns g c =
    back_all g.M.Measure.rank (g.M.Measure.ranks c.args.measure.now).start c.loop-cost.costs (length c.args.costs.now) c.loop-cost.auto.costs (λ k h. c.loop-cost.invariant k (omega arith))
