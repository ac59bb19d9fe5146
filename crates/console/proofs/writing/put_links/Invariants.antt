use Rattle.std.proofs.Common.{take}
use Rattle.std.specs.List.{flat_map}
use Rattle.text.specs.Put.{Put}
use Rattle.console.specs.Replies.{after_blank}
use Rattle.console.proofs.writing.put_links.Given as goal

abbrev pub invariant-loop-link : goal.invariant-loop-link
invariant-loop-link l = Put (flat_map after_blank (take l.link-index l.links)) l.initial.buffer l.initial.at l.buffer l.at
