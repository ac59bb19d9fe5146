use Rattle.text.proofs.Puts.{put_next, put_front}
use Rattle.measure.proofs.texts.TurnsFirstShown.show.Goals as goal

pub returns-clause-bytes : goal.returns-clause-bytes
returns-clause-bytes c =
    put_front (put_next c.put_decimal-at.ensures (put_next c.put_word-end.ensures c.put_metres.ensures))
