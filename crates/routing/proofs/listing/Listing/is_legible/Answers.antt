use Rattle.std.proofs.Common.{ℕ, List, not, ap, ◌∙◌, subst, arith, below_more}
use Rattle.routing.specs.Lent.{lent}
use Rattle.routing.specs.Places.{ReadsRoute}
use Rattle.routing.proofs.Listings.{route_read, none_read}
use Rattle.routing.proofs.listing.Listing.is_legible.Goals as goal

pub returns-then-is_none-clause-no : goal.returns-then-is_none-clause-no
returns-then-is_none-clause-no c _ legible =
    let trip = c.args.self.trip in
    let read = legible c.loop-number.number c.loop-number-test.true in
    none_read (lent trip.roads) trip.from trip.to _ c.route_in.result
    (subst (λ (ps : List ℕ). ReadsRoute (lent trip.roads) trip.from trip.to ps c.route_in.result) c.places.ensures c.route_in.ensures)
    c.if-is_none.ensures read.0 read.1 read.2

pub loop-number-preserved : goal.loop-number-preserved
loop-number-preserved c =
    let trip = c.args.self.trip in
    below_more _ _ c.loop-number.invariant
    (route_read (lent trip.roads) trip.from trip.to _ c.route_in.result
    (subst (λ (ps : List ℕ). ReadsRoute (lent trip.roads) trip.from trip.to ps c.route_in.result) c.places.ensures c.route_in.ensures)
    (c.is_none.ensures ∙ ap not c.if-is_none.false))

pub returns-clause-yes : goal.returns-clause-yes
returns-clause-yes c _ i below = c.loop-number.invariant i (omega arith)
