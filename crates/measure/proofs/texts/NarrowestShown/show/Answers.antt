use Rattle.text.proofs.Puts.{put_next, put_front}
use Rattle.measure.proofs.texts.NarrowestShown.show.Goals as goal

pub returns-clause-bytes : goal.returns-clause-bytes
returns-clause-bytes c = put_front (rw c.from.ensures at (put_next c.put_word-end.ensures c.put_decimal.ensures))
