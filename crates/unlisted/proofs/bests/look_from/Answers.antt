use Rattle.std.proofs.Common.{◌≡◌, rules}
use Rattle.network.specs.Marks.{marks}
use Rattle.routing.specs.Lent.{lent}
use Rattle.unlisted.specs.Best.{bound, Itself, Completion}
use Rattle.unlisted.proofs.Improving.{improves_both, completed}
use Rattle.unlisted.proofs.bests.look_from.Goals as goal

pub returns : goal.returns
returns g c =
    let rank = g.M.Measure.rank in
    let m = g.M.Measure.ranks c.args.departure.now.measure.now in
    let trip = c.args.departure.now.trip in
    let roads = lent trip.roads in
    let p = c.args.departure.now.beginning.links.now in
    let forbidden = marks c.args.departure.now.beginning.forbidden.now in
    let best = c.consider-best.result in
    let line = c.consider-best.new.line in
    let limit : c.map-bound.result ≡ bound best = search rules in
    let whole =
    improves_both rank m roads (Itself roads trip.from trip.to p c.args.taken) (Completion roads trip.from trip.to p forbidden)
    c.args.best best _ c.args.line.now line c.complete.new.line c.consider-best.ensures
    (completed rank m roads trip.from trip.to p best line forbidden c.map-bound.result c.complete.result c.complete.new.line limit c.complete.ensures) in
    rw c.or.ensures whole
