use Rattle.std.proofs.Common.{ℕ, List, get_or, ap, ◌∙◌}
use Rattle.routing.specs.Lent.{lent}
use Rattle.unlisted.proofs.Books.{route_read, legible}
use Rattle.unlisted.proofs.reading.next_link.Goals as goal

pub returns : goal.returns
returns c =
    let listing = c.args.routes.listing in
    c.number_at.ensures
    ∙ ap (λ (ps : List ℕ). get_or ps c.args.place 0) c.places.ensures
    ∙ route_read (lent listing.trip.roads) listing.trip.from listing.trip.to listing.book.now listing.listed (legible c.args.routes) c.args.number c.requires c.args.place
