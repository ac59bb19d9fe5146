use Rattle.std.proofs.Common.{◌≡◌, ◌+◌, ◌-◌, ◌*◌, length}
use Rattle.network.specs.Plan.{empty}
use Rattle.network.specs.Laid.{drafted}
use Rattle.image.specs.Image.{records_in, lay_all}
use Rattle.image.proofs.reading.lay_records.Given as goal

abbrev pub invariant-loop-i : goal.invariant-loop-i
invariant-loop-i l = record {
  room : length l.left ≡ 9 * (l.contents.links + l.contents.turns - l.i);
  laid : lay_all l.i (drafted l.draft) (records_in l.i l.contents.links (l.contents.links + l.contents.turns - l.i) l.left)
      ≡ lay_all 0 empty (records_in 0 l.contents.links (l.contents.links + l.contents.turns) l.initial.left);
}
