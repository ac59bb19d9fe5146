use Rattle.std.proofs.Common.{ℕ, ◌+◌, length, sym, refl, ap, ◌∙◌, subst, arith}
use Rattle.std.specs.Option.{option_map}
use Rattle.network.specs.Marks.{marks}
use Rattle.network.proofs.Laws.{links_few}
use Rattle.routing.specs.Lent.{lent}
use Rattle.completion.specs.Growth.{Inv, NoneSought}
use Rattle.completion.specs.Onward.{Setting, graph, too_dear}
use Rattle.completion.specs.Completion.{outset, Completed}
use Rattle.completion.specs.View.{view, tally, EndsBest}
use Rattle.completion.proofs.Graphs.{graph_size}
use Rattle.completion.proofs.Cheapest.{dear_from, none_below, depth_view, room_for, all_threaded, cheapest, same_setting}
use Rattle.completion.proofs.Facts.{begins_held}
use Rattle.completion.proofs.completing.complete.Goals as goal

pub returns-then-is_dear : goal.returns-then-is_dear
returns-then-is_dear g c =
    let rank = g.M.Measure.rank in
    let m = g.M.Measure.ranks c.args.departure.now.measure.now in
    let bound = option_map rank c.args.bound in
    let p = c.args.departure.now.beginning.links.now in (
      dear_from m (g.M.Measure.lawful c.args.departure.now.measure.now) (lent c.args.departure.now.trip.roads) c.args.departure.now.trip.from c.args.departure.now.trip.to p
          (marks c.args.departure.now.beginning.banned.now) (marks c.args.departure.now.beginning.forbidden.now) bound c.args.departure.now.bans (begins_held (lent c.args.departure.now.trip.roads) c.args.departure.now.trip.from c.args.departure.now.beginning.links.now c.args.departure.now.begins)
          (ap (λ (x : ℕ). too_dear bound x) (sym c.args.departure.now.priced) ∙ sym c.is_dear.ensures ∙ c.if-is_dear.true),
      refl,
    )

pub returns-in_err-number : goal.returns-in_err-number
returns-in_err-number g c =
    let rank = g.M.Measure.rank in
    let m = g.M.Measure.ranks c.args.departure.now.measure.now in
    let bound = option_map rank c.args.bound in
    let roads = lent c.args.departure.now.trip.roads in
    let p = c.args.departure.now.beginning.links.now in
    let banned = marks c.args.departure.now.beginning.banned.now in
    let forbidden = marks c.args.departure.now.beginning.forbidden.now in
    let same = same_setting m roads c.args.departure.now.trip.from c.args.departure.now.trip.to p banned forbidden bound c.end_node.result c.last_link.result (rank c.args.departure.now.beginning.cost)
    c.end_node.ensures c.last_link.ensures c.args.departure.now.priced in
    subst (λ r. Completed rank m roads c.args.departure.now.trip.from c.args.departure.now.trip.to p forbidden c.args.bound c.args.line.now r c.args.line.now) (sym c.from_residual.ensures) (
      none_below m (g.M.Measure.lawful c.args.departure.now.measure.now) roads c.args.departure.now.trip.from c.args.departure.now.trip.to p banned forbidden bound c.args.departure.now.bans (begins_held (lent c.args.departure.now.trip.roads) c.args.departure.now.trip.from c.args.departure.now.beginning.links.now c.args.departure.now.begins)
          (subst (λ (x : Setting). NoneSought (graph m x)) same c.in_err-number.ensures.ends),
      refl,
    )

pub write_route-count-requires : goal.write_route-count-requires
write_route-count-requires g c =
    let rank = g.M.Measure.rank in
    let m = g.M.Measure.ranks c.args.departure.now.measure.now in
    let lawful = g.M.Measure.lawful c.args.departure.now.measure.now in
    let bound = option_map rank c.args.bound in
    let roads = lent c.args.departure.now.trip.roads in
    let from = c.args.departure.now.trip.from in
    let to = c.args.departure.now.trip.to in
    let p = c.args.departure.now.beginning.links.now in
    let banned = marks c.args.departure.now.beginning.banned.now in
    let forbidden = marks c.args.departure.now.beginning.forbidden.now in
    let begin = rank c.args.departure.now.beginning.cost in
    let labels = c.grow.new.search.frontier.labels.costs.now in
    let tree = c.grow.new.search.tree in
    let st = view rank begin labels tree in
    let few = links_few c.args.departure.now.trip.roads.network.now in
    let same = same_setting m roads from to p banned forbidden bound c.end_node.result c.last_link.result begin c.end_node.ensures c.last_link.ensures c.args.departure.now.priced in
    let t = c.in_ok-number.number.number in
    let grown = c.in_ok-number.ensures in
    let best = subst (λ (x : Setting). EndsBest (graph m x) st t) same grown.ends in
    let inv = subst (λ (x : Setting). Inv (graph m x) grown.inv.0 (length roads.plan.links + 1) (tally tree) st) same grown.inv.1 in
    let size = graph_size m (outset m roads from to p banned forbidden bound) in
    let deep = depth_view m lawful roads from to p banned forbidden bound c.args.departure.now.bans (begins_held (lent c.args.departure.now.trip.roads) c.args.departure.now.trip.from c.args.departure.now.beginning.links.now c.args.departure.now.begins) rank begin labels tree grown.inv.0 _ (tally tree) inv t best few in
    record {
      labelled = omega (arith, deep, best.some);
      room = omega (arith, room_for m lawful roads from to p banned forbidden bound c.args.departure.now.bans (begins_held (lent c.args.departure.now.trip.roads) c.args.departure.now.trip.from c.args.departure.now.beginning.links.now c.args.departure.now.begins) rank begin labels tree grown.inv.0 _ (tally tree) inv t best few);
      threaded = all_threaded m lawful roads from to p banned forbidden bound c.args.departure.now.bans (begins_held (lent c.args.departure.now.trip.roads) c.args.departure.now.trip.from c.args.departure.now.beginning.links.now c.args.departure.now.begins) rank begin labels tree grown.inv.0 _ (tally tree) inv t best few;
    }

pub returns : goal.returns
returns g c =
    let rank = g.M.Measure.rank in
    let m = g.M.Measure.ranks c.args.departure.now.measure.now in
    let lawful = g.M.Measure.lawful c.args.departure.now.measure.now in
    let bound = option_map rank c.args.bound in
    let roads = lent c.args.departure.now.trip.roads in
    let from = c.args.departure.now.trip.from in
    let to = c.args.departure.now.trip.to in
    let p = c.args.departure.now.beginning.links.now in
    let banned = marks c.args.departure.now.beginning.banned.now in
    let forbidden = marks c.args.departure.now.beginning.forbidden.now in
    let begin = rank c.args.departure.now.beginning.cost in
    let labels = c.grow.new.search.frontier.labels.costs.now in
    let tree = c.grow.new.search.tree in
    let st = view rank begin labels tree in
    let few = links_few c.args.departure.now.trip.roads.network.now in
    let same = same_setting m roads from to p banned forbidden bound c.end_node.result c.last_link.result begin c.end_node.ensures c.last_link.ensures c.args.departure.now.priced in
    let t = c.in_ok-number.number.number in
    let grown = c.in_ok-number.ensures in
    let best = subst (λ (x : Setting). EndsBest (graph m x) st t) same grown.ends in
    let inv = subst (λ (x : Setting). Inv (graph m x) grown.inv.0 (length roads.plan.links + 1) (tally tree) st) same grown.inv.1 in
    let size = graph_size m (outset m roads from to p banned forbidden bound) in
    cheapest m lawful roads from to p banned forbidden bound c.args.departure.now.bans (begins_held (lent c.args.departure.now.trip.roads) c.args.departure.now.trip.from c.args.departure.now.beginning.links.now c.args.departure.now.begins) rank begin labels tree grown.inv.0 _ (tally tree) inv t best few
    c.args.line.now c.write_route-count.new.line c.write_route-count.result c.label.result c.write_route-count.auto.line
    (omega (arith, best.low, best.high, size, few, c.grow.new.search.frontier.labels.room)) c.label.ensures c.write_route-count.ensures
