-- Listed routes as the code has them.
--     question listing    the question that a listing of the code stands for
use Rattle.routing.specs.declared.listing.Listing.{Listing}
use Rattle.routing.specs.Lent.{lent}
use Rattle.routing.specs.Book.{route}
use Rattle.unlisted.specs.Leaving.{Question}

abbrev pub question : Listing → Question
question listing = record {
  roads = lent listing.trip.roads;
  from = listing.trip.from;
  to = listing.trip.to;
  routes = route listing.book.now;
  listed = listing.listed;
}
