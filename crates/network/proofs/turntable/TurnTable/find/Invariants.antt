use Rattle.std.proofs.Common.{◌≡◌, ℕ, ◌<◌, ◌≤◌, true, false, length}
use Rattle.network.specs.Plan.{same_pair}
use Rattle.network.specs.Index.{entry, has_in}
use Rattle.network.proofs.turntable.TurnTable.find.Given as goal

abbrev pub invariant-loop-number : goal.invariant-loop-number
invariant-loop-number l =
    (l.number ≤ length l.self.entries.items)
    × (0 < l.number → has_in l.self.entries.items l.number l.into ≡ true)
    × ((j : ℕ) → l.number < j → j ≤ length l.self.entries.items → same_pair (entry l.self.entries.items j) l.into l.out ≡ false)

abbrev pub decreases-loop-number : goal.decreases-loop-number
decreases-loop-number l = l.number
