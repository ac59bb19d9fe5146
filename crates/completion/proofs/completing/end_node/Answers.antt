use Rattle.std.proofs.Common.{ap, ◌∙◌}
use Rattle.network.specs.declared.link.Link.{Link}
use Rattle.routing.specs.Lent.{lent}
use Rattle.completion.proofs.Ends.{ends_with}
use Rattle.completion.proofs.Facts.{begins_held}
use Rattle.completion.proofs.completing.end_node.Goals as goal

pub link-requires : goal.link-requires
link-requires g c =
    let b = c.args.departure.now in
    let roads = lent b.trip.roads in
    (ends_with roads b.trip.from b.beginning.links.now c.in-Some.last.now (begins_held roads b.trip.from b.beginning.links.now b.begins) c.in-Some.ensures.value).0

pub returns-in-Some : goal.returns-in-Some
returns-in-Some g c =
    let b = c.args.departure.now in
    let roads = lent b.trip.roads in
    ap (λ (l : Link). l.end) c.link.ensures
    ∙ (ends_with roads b.trip.from b.beginning.links.now c.in-Some.last.now (begins_held roads b.trip.from b.beginning.links.now b.begins) c.in-Some.ensures.value).1
