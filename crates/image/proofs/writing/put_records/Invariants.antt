use Rattle.std.proofs.Common.{◌≡◌, ◌+◌, ◌*◌, take}
use Rattle.std.specs.List.{flat_map}
use Rattle.text.specs.Put.{Put}
use Rattle.image.proofs.writing.put_records.Given as goal

abbrev pub invariant-loop-item : goal.invariant-loop-item
invariant-loop-item g l = record {
  place : l.at ≡ l.from + 9 * l.item-index;
  put : Put (flat_map g.T.Recorded.bytes (take l.item-index l.items)) l.initial.buffer l.from l.buffer l.at;
}
