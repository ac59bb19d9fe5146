use Rattle.std.proofs.Common.{◌≡◌, ℕ, ◌+◌, ◌-◌, length, Err, sym, ap, ◌∙◌, arith, length-drop}
use Rattle.std.proofs.lemmas.Result.{err_from_is_err_and}
use Rattle.network.specs.Laid.{drafted}
use Rattle.image.specs.Image.{records_in, lay_all}
use Rattle.image.specs.Steps.{reading_of}
use Rattle.image.proofs.Readings.{record_next, was_refused, was_laid}
use Rattle.image.proofs.reading.lay_records.Goals as goal

pub returns-in_err-or : goal.returns-in_err-or
returns-in_err-or c =
    let i = c.loop-i.i in
    let k = c.args.contents in
    let bs = c.loop-i.left.now in
    let q = drafted c.loop-i.draft in
    let next = record_next i k.links (k.links + k.turns - i) bs q c.lay.result (omega arith) (rw c.read_record-record.ensures.0 at c.lay.ensures.answer) in
    let refused = was_refused c.lay.result _ _ c.in_err-or.ensures in
    let p = err_from_is_err_and c.from_residual.result c.from_residual.ensures.1 in
    ap reading_of (p.1 ∙ ap Err (p.2 ∙ refused.1)) ∙ sym (rw refused.0 at next) ∙ c.loop-i.invariant.laid

pub loop-i-preserved : goal.loop-i-preserved
loop-i-preserved c =
    let i = c.loop-i.i in
    let k = c.args.contents in
    let n = k.links + k.turns - i in
    let bs = c.loop-i.left.now in
    let q = drafted c.loop-i.draft in
    let next = record_next i k.links n bs q c.lay.result (omega arith) (rw c.read_record-record.ensures.0 at c.lay.ensures.answer) in
    let laid = was_laid c.lay.result _ _ c.in_ok-or.ensures in
    let rest = c.read_record-record.ensures.1 in
    let plan = rw c.read_record-record.ensures.0 at c.lay.ensures.after in
    let fewer : k.links + k.turns - (i + 1) ≡ n - 1 = omega arith in
    record {
      room = ap length rest ∙ length-drop 9 bs ∙ omega (arith, c.loop-i.invariant.room);
      laid = rw (plan, rest, fewer) (sym (rw laid at next) ∙ c.loop-i.invariant.laid);
    }

pub returns : goal.returns
unfolding records_in lay_all
returns c =
    let k = c.args.contents in
    let none : k.links + k.turns - c.loop-i.i ≡ 0 = omega arith in
    ap (λ (m : ℕ). lay_all c.loop-i.i (drafted c.loop-i.draft) (records_in c.loop-i.i k.links m c.loop-i.left.now)) (sym none)
    ∙ c.loop-i.invariant.laid
