use Rattle.std.proofs.Common.{◌∙◌, ap₂}
use Rattle.routing.specs.Book.{place, route}
use Rattle.unlisted.proofs.Agreeing.{same_links, places_agree}
use Rattle.unlisted.proofs.reading.agreement.Goals as goal

pub returns : goal.returns
unfolding route
returns c =
    let book = c.args.listing.book.now in
    c.same_links.ensures ∙ ap₂ same_links c.places.ensures c.places-2.ensures ∙ places_agree (place book c.args.a) (place book c.args.b)
