use Rattle.text.proofs.Puts.{put_next}
use Rattle.console.proofs.writing.put_number.Goals as goal

pub returns : goal.returns
returns c = put_next c.put_word-at.ensures c.put_decimal.ensures
