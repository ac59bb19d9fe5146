use Rattle.std.proofs.Common.{ℕ, Bool, true, List, sym, ap, ◌∙◌, ap₂, arith}
use Rattle.std.proofs.lemmas.List.{take_all}
use Rattle.network.specs.Marks.{marked, marks_of}
use Rattle.network.proofs.Marked.{marks_of_more}
use Rattle.network.proofs.linkset.LinkSet.of_places.Goals as goal

pub loop-place-init : goal.loop-place-init
unfolding marks_of
loop-place-init c = c.new-links.ensures

pub loop-place-preserved : goal.loop-place-preserved
loop-place-preserved c =
    c.add.ensures ∙ ap₂ (λ (ms : List Bool) (n : ℕ). marked ms n true) c.loop-place.invariant c.from.ensures
    ∙ sym (marks_of_more c.args.places.now c.loop-place.place-index (omega arith))

pub returns : goal.returns
returns c =
    c.loop-place.invariant ∙ ap marks_of (take_all c.loop-place.place-index c.args.places.now (omega arith))
