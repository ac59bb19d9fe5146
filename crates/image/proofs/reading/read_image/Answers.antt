use Rattle.std.proofs.Common.{◌≡◌, Err, Result, sym, ap, ◌∙◌, subst}
use Rattle.std.proofs.lemmas.Result.{err_from_is_err_and}
use Rattle.image.specs.declared.fault.ReadFault.{ReadFault}
use Rattle.image.specs.declared.fault.ReadFault.TheVariants.{ContentsWrong}
use Rattle.image.specs.declared.contents.Contents.{Contents}
use Rattle.network.specs.Laid.{drafted}
use Rattle.image.specs.Reads.{Reads}
use Rattle.image.proofs.Answering.{contents_refused, image_read, image_refused, bodies_are}
use Rattle.image.proofs.reading.read_image.Goals as goal

err_same : {e f : ReadFault} → ◌≡◌ {A = Result Contents ReadFault} (Err e) (Err f) → e ≡ f
err_same h = cc

pub returns-in_err-ok_or : goal.returns-in_err-ok_or
returns-in_err-ok_or c =
    let bs = c.args.bytes.now in
    let before = drafted c.args.draft.now in
    let none = c.in_err-ok_or.ensures.ok_part in
    let p = err_from_is_err_and c.from_residual.result c.from_residual.ensures.1 in
    let same : c.in_err-ok_or.field-0.0 ≡ ContentsWrong = err_same (rw none at c.in_err-ok_or.ensures.value) in
    let is : c.from_residual.result ≡ Err ContentsWrong = p.1 ∙ ap Err (p.2 ∙ same) in
    subst (λ (r : Result (Unit {0}) ReadFault). Reads bs before r before) (sym is)
    (contents_refused bs before (rw none at c.read_contents.ensures))

pub returns-in_err-draft : goal.returns-in_err-draft
returns-in_err-draft c =
    let bs = c.args.bytes.now in
    let before = drafted c.args.draft.now in
    let k = c.in_ok-ok_or.field-0 in
    let s = rw c.in_ok-ok_or.ensures.ok_part at c.read_contents.ensures in
    let p = err_from_is_err_and c.from_residual-in_err-draft.result c.from_residual-in_err-draft.ensures.1 in
    let is : c.from_residual-in_err-draft.result ≡ Err c.in_err-draft.field-0.0 = p.1 ∙ ap Err p.2 in
    subst (λ (r : Result (Unit {0}) ReadFault). Reads bs before r before) (sym is)
    (image_refused bs before s.0 c.in_err-draft.field-0.0
    (c.in_err-draft.ensures ∙ bodies_are bs before k.links k.turns k.records.now s.1 s.2 s.3))

pub returns : goal.returns
returns c =
    let bs = c.args.bytes.now in
    let before = drafted c.args.draft.now in
    let k = c.in_ok-ok_or.field-0 in
    let s = rw c.in_ok-ok_or.ensures.ok_part at c.read_contents.ensures in
    image_read bs before s.4 s.0 c.in_ok-draft.field-0
    (c.in_ok-draft.ensures ∙ bodies_are bs before k.links k.turns k.records.now s.1 s.2 s.3)
