use Rattle.network.specs.Marks.{marks}
use Rattle.routing.specs.Lent.{lent}
use Rattle.unlisted.proofs.Outset.{none_has, completed_finds}
use Rattle.unlisted.proofs.cheapest.cheapest_route.Goals as goal

pub returns : goal.returns
returns g c =
    completed_finds g.M.Measure.rank (g.M.Measure.ranks c.args.measure.now) (lent c.args.trip.roads) c.args.trip.from c.args.trip.to
    (marks c.new-none.result) (none_has (marks c.new-none.result) c.new-none.ensures) c.args.line.now c.complete.result c.complete.new.line c.complete.ensures
