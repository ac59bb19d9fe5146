use Rattle.text.proofs.Puts.{put_same, put_next}
use Rattle.console.proofs.Fronts.{front_taken}
use Rattle.console.proofs.writing.put_cost.Goals as goal

pub returns-clause-put : goal.returns-clause-put
returns-clause-put g c =
    let told = c.show-count.ensures in
    let bytes = front_taken (g.M.Shown.text (g.M.Measure.rank c.args.cost)) _ _ c.show-count.result told.count told.bytes in
    put_next c.put_word-at.ensures (put_same bytes c.put_word.ensures)
