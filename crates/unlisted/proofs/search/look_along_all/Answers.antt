use Rattle.std.proofs.Common.{◌≡◌, ℕ, List, sym, subst, arith}
use Rattle.std.proofs.ByRecursion.{All-weaker}
use Rattle.network.specs.Plan.{Laid}
use Rattle.network.specs.Laid.{plan}
use Rattle.network.specs.Roads.{Passable}
use Rattle.routing.specs.Lent.{lent}
use Rattle.routing.specs.Book.{Finds}
use Rattle.unlisted.specs.Leaving.{Left}
use Rattle.unlisted.specs.Listed.{question}
use Rattle.unlisted.specs.Along.{Fronts}
use Rattle.unlisted.proofs.Books.{simple_passable, carried_simple, carried_short}
use Rattle.unlisted.proofs.search.look_along_all.Goals as goal

pub loop-number-init : goal.loop-number-init
loop-number-init g c = λ w l. absurd (omega (arith, l.2))

pub price_along-requires : goal.price_along-requires
price_along-requires g c =
    let listing = c.args.routes.listing in
    let links = c.links-links.result.now in
    let simple = carried_simple c.args.routes c.loop-number.number c.loop-number-test.true links c.links-links.ensures in
    let short = carried_short listing.book.now c.loop-number.number links c.links-links.ensures in record {
      room = omega (arith, c.requires);
      laid = All-weaker (Passable (lent listing.trip.roads)) (Laid (plan listing.trip.roads.network.now).links) (λ a p. p.0) links (simple_passable (lent listing.trip.roads) listing.trip.from listing.trip.to links simple);
    }

pub look_along-best-requires : goal.look_along-best-requires
look_along-best-requires g c =
    let q = question c.args.routes.listing in
    let F : List ℕ → Type 0 = λ x. Fronts q x c.fronts-fronts.result in record {
      ready = record {
        number = c.loop-number-test.true;
        links = c.links-links.ensures;
        fronts = subst F (sym c.links-links.ensures) c.fronts-fronts.ensures;
        costs = c.price_along.ensures;
      };
      finds = c.loop-number.invariant;
    }

pub returns : goal.returns
returns g c =
    let all : c.loop-number.number ≡ c.args.routes.listing.listed = omega (arith, c.loop-number.auto.number-end, c.loop-number-test.false) in
    let F : ℕ → Type 0 = λ n. Finds g.M.Measure.rank (g.M.Measure.ranks c.args.measure.now) (lent c.args.routes.listing.trip.roads) (Left (question c.args.routes.listing) n) c.loop-number.line c.loop-number.best in
    subst F all c.loop-number.invariant
