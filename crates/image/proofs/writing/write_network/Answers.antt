use Rattle.std.proofs.Common.{length, sym, ap, arith}
use Rattle.network.specs.Laid.{plan}
use Rattle.network.proofs.Laws.{lawful, links_few, turns_few}
use Rattle.text.proofs.Puts.{put_same, put_next}
use Rattle.image.proofs.Written.{encode_parts}
use Rattle.image.proofs.Writings.{refused_short, image_written}
use Rattle.image.proofs.writing.write_network.Goals as goal

pub returns-then-buffer-size : goal.returns-then-buffer-size
returns-then-buffer-size c =
    refused_short (plan c.args.network.now) c.args.buffer.now
    (omega (arith, ap length c.links-links.ensures, ap length c.turns-turns.ensures))

pub returns : goal.returns
returns c =
    let net = c.args.network.now in
    let parts = put_next c.put_contents-at.ensures (put_next c.put_records-at.ensures.put c.put_records.ensures.put) in
    let whole = rw (c.links-links.ensures, c.turns-turns.ensures) at parts in
    image_written (plan net) c.args.buffer.now (links_few net) (turns_few net) (lawful net) _ _
    (put_same (sym (encode_parts (plan net))) whole)
