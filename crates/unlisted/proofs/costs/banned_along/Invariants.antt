use Rattle.std.proofs.Common.{take}
use Rattle.network.specs.Marks.{marks}
use Rattle.routing.specs.Lent.{lent}
use Rattle.completion.specs.Completion.{Bans}
use Rattle.unlisted.proofs.costs.banned_along.Given as goal

abbrev pub invariant-loop-link : goal.invariant-loop-link
invariant-loop-link l = Bans (lent l.roads) (take l.link-index l.links) (marks l.banned)
