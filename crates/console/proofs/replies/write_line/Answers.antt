use Rattle.text.proofs.Puts.{put_next}
use Rattle.console.specs.Heads.{whole}
use Rattle.console.proofs.Fronts.{written_whole}
use Rattle.console.proofs.replies.write_line.Goals as goal

pub returns : goal.returns
returns c =
    written_whole (whole c.args.front.now c.args.links.now) c.args.buffer.now _ _
    (put_next c.put_word-at.ensures (put_next c.put_links-end.ensures c.put_word.ensures))
