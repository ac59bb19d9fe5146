use Rattle.std.proofs.Common.{ℕ, ◌+◌, ◌-◌, length}
use Rattle.network.specs.Laid.{plan}
use Rattle.completion.specs.Onward.{setting, graph}
use Rattle.completion.specs.View.{tally, Growing}
use Rattle.completion.proofs.growing.grow.Given as goal

abbrev pub invariant-loop-link : goal.invariant-loop-link
invariant-loop-link g l =
    (s : ℕ) × Growing g.M.Measure.rank (graph (g.M.Measure.ranks l.quest.measure.now) (setting g.M.Measure.rank l.quest)) s
    (length (plan l.quest.network.now).links + 1) (g.M.Measure.rank l.quest.cost) l.search.frontier.labels.costs.now l.search.tree l.search.frontier.nodes

abbrev pub decreases-loop-link : goal.decreases-loop-link
decreases-loop-link g l = 1024 - tally l.search.tree
