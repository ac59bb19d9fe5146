use Rattle.std.proofs.Common.{ℕ, ◌≤◌, not, List, length, take, ap, ◌∙◌, arith}
use Rattle.std.specs.List.{position_or_len}
use Rattle.std.proofs.lemmas.List.{length-take-le}
use Rattle.std.proofs.lemmas.List.Sums.{prefix_len-le-length}
use Rattle.routing.specs.Book.{route}
use Rattle.routing.proofs.Decides.{is_zero}
use Rattle.routing.proofs.listing.Listing.links.Goals as goal

pub slice_bounds-result-end : goal.slice_bounds-result-end
slice_bounds-result-end c =
    let places = c.places-places.result.now in
    let within : c.before_zeros.result ≤ length places = omega (arith, c.before_zeros.ensures, prefix_len-le-length (λ p. not (is_zero p)) places) in
    omega (arith, length-take-le c.before_zeros.result places within)

pub returns : goal.returns
unfolding route
returns c =
    ap (λ (k : ℕ). take k c.places-places.result.now) c.before_zeros.ensures
    ∙ ap (λ (ps : List ℕ). take (position_or_len is_zero ps) ps) c.places-places.ensures
