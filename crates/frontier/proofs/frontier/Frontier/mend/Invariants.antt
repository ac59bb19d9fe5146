use Rattle.std.proofs.Common.{◌≡◌, ℕ, ◌<◌, ◌≤◌, map}
use Rattle.frontier.specs.Tournament.{held, Mending}
use Rattle.frontier.proofs.frontier.Frontier.mend.Given as goal

abbrev pub invariant-loop-node : goal.invariant-loop-node
invariant-loop-node g l =
    (l.node < 1024)
    × Mending (map g.M.Measure.rank l.labels) l.self l.node
    × ((k : ℕ) → 1024 ≤ k → held l.self k ≡ held l.initial.self k)

abbrev pub decreases-loop-node : goal.decreases-loop-node
decreases-loop-node g l = l.node
