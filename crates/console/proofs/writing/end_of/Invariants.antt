use Rattle.std.proofs.Common.{◌≡◌, ◌+◌, ◌≤◌, length, take}
use Rattle.std.specs.List.{flat_map}
use Rattle.console.specs.Replies.{after_blank}
use Rattle.console.proofs.writing.end_of.Given as goal

abbrev pub invariant-loop-link : goal.invariant-loop-link
invariant-loop-link l =
    (l.end ≡ l.initial.end + length (flat_map after_blank (take l.link-index l.links)))
    × (l.end ≤ l.limit)
    × (length l.digits ≡ 40)
