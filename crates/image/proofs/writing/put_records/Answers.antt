use Rattle.std.proofs.Common.{arith}
use Rattle.text.proofs.Puts.{put_same, put_more}
use Rattle.image.proofs.writing.put_records.Goals as goal

pub loop-item-preserved : goal.loop-item-preserved
loop-item-preserved g c = record {
  place = omega (arith, c.put_word-at.ensures.ends, c.loop-item.invariant.place);
  put = put_more g.T.Recorded.bytes c.args.items.now c.loop-item.item-index c.item-item.result (omega arith) c.item-item.is
      c.loop-item.invariant.put (put_same c.record.ensures c.put_word-at.ensures);
}
