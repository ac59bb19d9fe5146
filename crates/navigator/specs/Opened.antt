-- A question that was found open.
--     Opened question r         r tells the open question: its nodes, and how many routes are listed
--     ListedIn s book listing   the listing is of the state's open question, over the state's roads, in the book
--     OpenedIn s book r         r tells the listed routes of the open question
use Rattle.std.specs.Prelude.{◌≡◌, ℕ, List, IsOkAnd, Result}
use Rattle.network.specs.declared.refusal.Refusal.{Refusal}
use Rattle.routing.specs.declared.listing.Listing.{Listing}
use Rattle.routing.specs.Lent.{lent}
use Rattle.unlisted.specs.declared.legible.ListedRoutes.{ListedRoutes}
use Rattle.navigator.specs.declared.question.Question.{Question}
use Rattle.navigator.specs.declared.question.Question.TheVariants.{Open}
use Rattle.navigator.specs.declared.question.Asked.{Asked}
use Rattle.navigator.specs.State.{State}

abbrev pub Opened : Question → Result Asked Refusal → Type 0
Opened question r = IsOkAnd r (λ a. question ≡ Open a.from a.to a.listed)

pub record ListedIn (s : State) (lent_book : List ℕ) (listing : Listing) : Type 0 where
  pub asked : s.question ≡ Open listing.trip.from listing.trip.to listing.listed
  pub roads : lent listing.trip.roads ≡ s.roads
  pub book : listing.book.now ≡ lent_book

abbrev pub OpenedIn : State → List ℕ → Result ListedRoutes Refusal → Type 0
OpenedIn s book r = IsOkAnd r (λ routes. ListedIn s book routes.listing)
