use Rattle.std.proofs.Common.{arith}
use Rattle.routing.specs.Lent.{lent}
use Rattle.routing.specs.Route.{Simple}
use Rattle.routing.specs.Book.{Unlisted}
use Rattle.unlisted.specs.Leaving.{Left}
use Rattle.unlisted.specs.Listed.{question}
use Rattle.unlisted.proofs.Improving.{finds_as}
use Rattle.unlisted.proofs.Searching.{left_unlisted, unlisted_left}
use Rattle.unlisted.proofs.cheapest.find_unlisted.Goals as goal

pub returns-then-routes-eq0 : goal.returns-then-routes-eq0
returns-then-routes-eq0 g c =
    let listing = c.args.routes.listing in
    let roads = lent listing.trip.roads in
    finds_as g.M.Measure.rank (g.M.Measure.ranks c.args.measure.now) roads
    (Simple roads listing.trip.from listing.trip.to) (Unlisted roads listing.trip.from listing.trip.to listing.book.now listing.listed)
    (λ w s. (s, λ i h _. omega (arith, c.if-routes-eq0.true))) (λ w u. u.0) c.cheapest_route.new.line c.cheapest_route.result c.cheapest_route.ensures

pub returns-else-routes-eq0 : goal.returns-else-routes-eq0
returns-else-routes-eq0 g c =
    let listing = c.args.routes.listing in
    let roads = lent listing.trip.roads in
    finds_as g.M.Measure.rank (g.M.Measure.ranks c.args.measure.now) roads
    (Left (question listing) listing.listed) (Unlisted roads listing.trip.from listing.trip.to listing.book.now listing.listed)
    (left_unlisted listing) (unlisted_left c.args.routes (omega (arith, c.if-routes-eq0.false)))
    c.look_along_all.new.line c.look_along_all.result c.look_along_all.ensures
