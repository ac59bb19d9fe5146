use Rattle.text.proofs.Puts.{put_next}
use Rattle.measure.proofs.writing.put_metres.Goals as goal

pub returns : goal.returns
returns c = put_next c.put_decimal-end.ensures c.put_word.ensures
