-- Each line is laid on the plan of those before it, or ends the reading.
use Rattle.std.proofs.Common.{◌≡◌, Some, None, Err, ◌+◌, sym, ap, ◌∙◌, arith, rules}
use Rattle.network.specs.Laid.{drafted}
use Rattle.network.specs.Plan.{Plan}
use Rattle.network.specs.Refusals.{number}
use Rattle.text.specs.Lines.{lines}
use Rattle.town.specs.Town.{line_refusal, lay_from}
use Rattle.town.proofs.Outcomes.{laid_at_end, refused_at_first, on_from_first}
use Rattle.town.proofs.town.lay_town.Goals as goal

pub returns-in_err-map_err : goal.returns-in_err-map_err
returns-in_err-map_err c =
    let plan = drafted c.loop-first.draft in
    let n = c.loop-first.line + 1 in
    let first = c.in-Some.first.now in
    let fault = c.in_err-map_err.field-0.0 in
    let is : c.from_residual.result ≡ Err fault = search rules in
    let line : fault.line ≡ n = search rules in
    let told : Some (number fault.refusal) ≡ line_refusal plan first = search rules in
    rw (is, line)
    (refused_at_first plan n first (lines c.in-Some.rest.now) (number fault.refusal) told
    ∙ ap (lay_from plan n) (sym c.in-Some.ensures.0)
    ∙ c.loop-first.invariant.0)

pub loop-first-preserved : goal.loop-first-preserved
loop-first-preserved c =
    let plan = drafted c.loop-first.draft in
    let n = c.loop-first.line + 1 in
    let rest = lines c.in-Some.rest.now in
    let passed : None ≡ line_refusal plan c.in-Some.first.now = search rules in (
      ap (λ (p : Plan). lay_from p (n + 1) rest) c.lay_line.ensures.after
          ∙ on_from_first plan n c.in-Some.first.now rest passed
          ∙ ap (lay_from plan n) (sym c.in-Some.ensures.0)
          ∙ c.loop-first.invariant.0,
      omega (arith, c.in-Some.ensures.1),
    )

pub returns : goal.returns
returns c =
    laid_at_end (drafted c.loop-first.draft) (c.loop-first.line + 1) c.loop-first.left.now c.in_default.ensures
    ∙ c.loop-first.invariant.0
