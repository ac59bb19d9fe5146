use Rattle.std.proofs.Common.{◌≡◌, ℕ, ◌-◌, ◌<◌, length, get_or, length-set, sym, ap, ◌∙◌, subst, arith}
use Rattle.std.proofs.lemmas.List.{get_or-set_same}
use Rattle.completion.specs.declared.tree.Step.{Step}
use Rattle.completion.specs.Steps.{no_step}
use Rattle.completion.specs.View.{before_of, depth_of, Traced}
use Rattle.completion.proofs.Views.{step_read}
use Rattle.completion.proofs.Traces.{traced_step}
use Rattle.completion.proofs.way.write_way.Goals as goal

pub loop-place-preserved : goal.loop-place-preserved
loop-place-preserved c =
    let inv = c.loop-place.invariant in
    let tree = c.args.tree.now in
    let way = c.loop-place.way in
    let number = c.loop-place.number in
    let place = c.loop-place.place in
    let here = inv.0 (omega arith) in
    let before : (get_or tree.steps (c.from.result - 1) no_step).before ≡ before_of tree number =
    ap (λ (x : Step). x.before) (step_read tree number (c.from.result - 1) here.0 (omega (arith, c.from.ensures))) in
    let inside : place - 1 < length way = omega (arith, c.loop-place.auto.way, c.loop-place.auto.place) in (
      λ h. let next = c.requires.threaded number (omega (arith, here.2)) in (
        omega (arith, before, next.0),
        omega (arith, before, next.1),
        ap (λ n. depth_of tree n) before ∙ omega (arith, here.2, next.2),
      ),
      λ e. absurd (omega (arith, inside, length-set way (place - 1) number)),
      λ h. (
        before ∙ ap (λ n. before_of tree n) (sym (get_or-set_same way (place - 1) number 0 inside)),
        traced_step tree c.args.link.number place number way (omega arith) (omega arith) inv.1 inv.2,
      ),
    )

pub returns : goal.returns
returns c =
    let none : c.loop-place.place ≡ 0 = omega (arith, c.loop-place-test.false) in
    subst (λ (k : ℕ). Traced c.args.tree.now c.args.link.number (length c.loop-place.way) k c.loop-place.way) none
    (c.loop-place.invariant.2 (omega (arith, c.requires.labelled, c.requires.room, c.loop-place.auto.way))).1
