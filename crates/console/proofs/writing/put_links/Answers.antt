use Rattle.std.proofs.Common.{length, decimal, ap, arith}
use Rattle.std.proofs.lemmas.List.Folds.{length-flat_map-take}
use Rattle.text.proofs.Puts.{put_more}
use Rattle.console.specs.Replies.{after_blank}
use Rattle.console.proofs.writing.put_links.Goals as goal

pub put_number-at-requires : goal.put_number-at-requires
put_number-at-requires c =
    let digits = ap (λ n. length (decimal n)) c.from.ensures in
    omega (arith, length-flat_map-take after_blank c.args.links.now c.loop-link.link-index 0 (omega arith), c.loop-link.invariant.ends, digits)

pub loop-link-preserved : goal.loop-link-preserved
loop-link-preserved c =
    put_more after_blank c.args.links.now c.loop-link.link-index 0 (omega arith) c.from.ensures c.loop-link.invariant c.put_number-at.ensures
