use Rattle.std.proofs.Common.{◌≡◌, take}
use Rattle.network.specs.Marks.{marks, marks_of}
use Rattle.network.proofs.linkset.LinkSet.of_places.Given as goal

abbrev pub invariant-loop-place : goal.invariant-loop-place
invariant-loop-place l = marks l.links ≡ marks_of (take l.place-index l.places)
