use Rattle.std.proofs.Common.{◌≡◌, ◌+◌, ◌≤◌, length}
use Rattle.network.specs.Laid.{drafted}
use Rattle.text.specs.Lines.{lines}
use Rattle.town.specs.Town.{lay_from, town}
use Rattle.town.proofs.town.lay_town.Given as goal

-- what is left, laid on what is drafted, gives what the text gives; no more lines than bytes were read
abbrev pub invariant-loop-first : goal.invariant-loop-first
invariant-loop-first l =
    (lay_from (drafted l.draft) (l.line + 1) (lines l.left) ≡ town l.initial.left)
    × (l.line + length l.left ≤ length l.initial.left)

abbrev pub decreases-loop-first : goal.decreases-loop-first
decreases-loop-first l = length l.left
