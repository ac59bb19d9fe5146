use Rattle.std.proofs.Common.{◌≡◌, ℕ, Bool, not, ◌&&◌, List, take, drop, Option, sym, ap, ◌∙◌, subst, ap₂, arith}
use Rattle.std.specs.Bool.{then_some}
use Rattle.std.specs.List.{list_all}
use Rattle.std.proofs.lemmas.List.Sums.{prefix_len-le-length}
use Rattle.routing.specs.Lent.{lent, route_test}
use Rattle.routing.specs.Places.{ReadsRoute}
use Rattle.routing.proofs.Decides.{is_zero, reads}
use Rattle.routing.proofs.roads.Trip.route_in.Goals.{then-is_blank, else-is_blank}
use Rattle.routing.proofs.roads.Trip.route_in.Goals as goal

pub split_at-requires : goal.split_at-requires
split_at-requires c = omega (arith, c.before_zeros-count.ensures, prefix_len-le-length (λ p. not (is_zero p)) c.args.places.now)

pub returns : goal.returns
returns c =
    let roads = lent c.args.self.roads in
    let from = c.args.self.from in
    let to = c.args.self.to in
    let places = c.args.places.now in
    let links = c.split_at.result.0.now in
    let rest = c.split_at.result.1.now in
    let count = c.before_zeros-count.ensures in
    let both = c.if-is_blank.then_some in
    let value : both ≡ (list_all is_zero rest && route_test roads from to links) =
    elim c.if-is_blank.branch [
      | then-is_blank w ↦
          w.then_some-is ∙ w.is_route.ensures ∙ sym (ap (λ (b : Bool). b && route_test roads from to links) (sym c.is_blank.ensures ∙ w.if-is_blank.true))
      | else-is_blank w ↦
          w.then_some-is
          ∙ w.if-is_blank.false
          ∙ sym (ap (λ (b : Bool). b && route_test roads from to links) (sym c.is_blank.ensures ∙ w.if-is_blank.false))
    ] in
    subst (λ (o : Option ℕ). ReadsRoute roads from to places o) (sym (c.then_some.ensures ∙ ap (then_some both) count))
    (reads roads from to places both
    (value ∙ ap₂ (λ (front back : List ℕ). list_all is_zero back && route_test roads from to front)
    (c.split_at.ensures.front ∙ ap (λ (k : ℕ). take k places) count) (c.split_at.ensures.back ∙ ap (λ (k : ℕ). drop k places) count)))
