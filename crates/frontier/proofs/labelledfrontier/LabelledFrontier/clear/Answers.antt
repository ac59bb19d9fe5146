use Rattle.std.proofs.Common.{map, sym, ◌∙◌}
use Rattle.frontier.proofs.Frontiers.{none_found}
use Rattle.frontier.proofs.labelledfrontier.LabelledFrontier.clear.Goals as goal

pub invariant_of-self : goal.invariant_of-self
invariant_of-self g c = record { sound = c.new-self.ensures.sound _ }

pub returns-else-is_some-clause-none : goal.returns-else-is_some-clause-none
returns-else-is_some-clause-none g c =
    none_found (map g.M.Measure.rank c.args.self.now.labels.costs.now) c.args.self.now.nodes c.least.result (sym c.is_some.ensures ∙ c.if-is_some.false) c.least.ensures
