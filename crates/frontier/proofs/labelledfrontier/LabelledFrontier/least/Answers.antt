use Rattle.std.proofs.Common.{map}
use Rattle.frontier.proofs.labelledfrontier.LabelledFrontier.least.Goals as goal

pub returns : goal.returns
returns g c = c.least.ensures (map g.M.Measure.rank c.args.self.now.labels.costs.now) c.args.self.now.sound
