use Rattle.std.proofs.Common.{take, ◌∙◌, arith}
use Rattle.std.proofs.lemmas.List.{length-take-le}
use Rattle.network.specs.Marks.{marks}
use Rattle.network.proofs.Laws.{links_few}
use Rattle.routing.specs.Lent.{lent}
use Rattle.unlisted.specs.Leaving.{LeftAt}
use Rattle.unlisted.specs.Listed.{question}
use Rattle.unlisted.specs.Best.{Itself, Completion, Either}
use Rattle.unlisted.proofs.Books.{front_begins, carried_simple, carried_short}
use Rattle.unlisted.proofs.Candidates.{candidate_left, left_candidate}
use Rattle.unlisted.proofs.Improving.{improves_as}
use Rattle.unlisted.proofs.search.look_after.Goals as goal

pub invariant_of-departure : goal.invariant_of-departure
invariant_of-departure g c =
    let listing = c.args.routes.listing in
    let r = c.args.along.links.now in
    let k = c.args.count in
    let ready = c.requires.ready in record {
      begins = ∣ front_begins (lent listing.trip.roads) listing.trip.from listing.trip.to r k (carried_simple c.args.routes c.args.along.number ready.number r ready.links) ∣₁;
      priced = c.price_of.ensures ∙ ready.costs.each k c.requires.count;
      bans = c.requires.bans;
    }

pub look_from-requires : goal.look_from-requires
look_from-requires g c =
    let r = c.args.along.links.now in
    let k = c.args.count in
    let short = carried_short c.args.routes.listing.book.now c.args.along.number r c.requires.ready.links in
    omega (arith, length-take-le k r c.requires.count)

pub returns : goal.returns
returns g c =
    let q = question c.args.routes.listing in
    let few = links_few c.args.routes.listing.trip.roads.network.now in
    let r = c.args.along.links.now in
    let k = c.args.count in
    let ends = c.fork-fork.result.ends in
    let forbidden = marks c.fork-fork.result.links in
    improves_as g.M.Measure.rank (g.M.Measure.ranks c.args.measure.now) q.roads
    (Either (Itself q.roads q.from q.to (take k r) ends) (Completion q.roads q.from q.to (take k r) forbidden)) (LeftAt q r k)
    (candidate_left q few r k c.requires.count ends forbidden c.fork-fork.ensures) (left_candidate q few r k c.requires.count ends forbidden c.fork-fork.ensures)
    c.args.best c.look_from.result c.args.line.now c.look_from.new.line c.look_from.ensures
