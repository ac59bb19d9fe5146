use Rattle.std.proofs.Common.{◌≡◌, ◌<◌, ◌≤◌, length, get_or}
use Rattle.completion.specs.View.{depth_of, before_of, Traced}
use Rattle.completion.proofs.way.write_way.Given as goal

abbrev pub invariant-loop-place : goal.invariant-loop-place
invariant-loop-place l =
    (0 < l.place → (0 < l.number) × (l.number ≤ 1024) × (depth_of l.tree l.number ≡ l.place))
    × (l.place ≡ length l.way → l.number ≡ l.fn.link.number)
    × (l.place < length l.way → (l.number ≡ before_of l.tree (get_or l.way l.place 0)) × Traced l.tree l.fn.link.number (length l.way) l.place l.way)
