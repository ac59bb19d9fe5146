use Rattle.std.proofs.Common.{◌≡◌, ◌+◌}
use Rattle.completion.specs.Growth.{Latest}
use Rattle.completion.specs.Onward.{setting, graph}
use Rattle.completion.specs.View.{view, Growing, Stands}
use Rattle.completion.proofs.relaxing.relax_from.Given as goal

abbrev pub invariant-loop-place : goal.invariant-loop-place
invariant-loop-place g l =
    (l.search.tree.settled ≡ l.initial.search.tree.settled)
    × Stands g.M.Measure.rank (setting g.M.Measure.rank l.quest) l.search.frontier.labels.costs.now l.search.tree l.stand
    × Growing g.M.Measure.rank (graph (g.M.Measure.ranks l.quest.measure.now) (setting g.M.Measure.rank l.quest)) l.stand.number (l.place + 1) (g.M.Measure.rank l.quest.cost) l.search.frontier.labels.costs.now l.search.tree l.search.frontier.nodes
    × Latest l.stand.number (view g.M.Measure.rank (g.M.Measure.rank l.quest.cost) l.search.frontier.labels.costs.now l.search.tree)
