use Rattle.std.proofs.Common.{length, decimal, ap, ◌∙◌, arith}
use Rattle.std.proofs.lemmas.List.Folds.{length-flat_map-take}
use Rattle.console.specs.Replies.{after_blank}
use Rattle.console.proofs.writing.end_of.Goals as goal

pub returns-then-end-limit : goal.returns-then-end-limit
returns-then-end-limit c =
    let digits = c.write_decimal.ensures.count ∙ ap (λ n. length (decimal n)) c.from.ensures in
    omega (arith, length-flat_map-take after_blank c.args.links.now c.loop-link.link-index 0 (omega arith), c.loop-link.invariant.0, digits)
