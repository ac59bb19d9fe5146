use Rattle.routing.specs.Lent.{lent}
use Rattle.routing.specs.Book.{Legible}
use Rattle.routing.proofs.listing.Listing.is_legible.Given as goal

abbrev pub invariant-loop-number : goal.invariant-loop-number
invariant-loop-number l = Legible (lent l.self.trip.roads) l.self.trip.from l.self.trip.to l.self.book.now l.number
