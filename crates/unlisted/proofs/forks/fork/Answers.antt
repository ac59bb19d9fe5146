use Rattle.std.proofs.Common.{◌≡◌, ℕ, ◌+◌, ◌<◌, ◌≤◌, Bool, false, List, ◌∷◌, sym, ap, ◌∙◌, subst, arith}
use Rattle.std.proofs.lemmas.List.{get_or-take, length-take-le}
use Rattle.routing.specs.Book.{route}
use Rattle.unlisted.specs.declared.along.Fork.{Fork}
use Rattle.unlisted.specs.Leaving.{agree, one_goes_on}
use Rattle.unlisted.specs.Along.{nexts}
use Rattle.unlisted.proofs.Forking.{TakenIn, taken_none, taken_skip, taken_more, length_nexts}
use Rattle.unlisted.proofs.forks.fork.Goals.{then-front-count, else-front-count}
use Rattle.unlisted.proofs.forks.fork.Goals as goal

pub loop-number-init : goal.loop-number-init
loop-number-init g c =
    taken_none (route c.args.routes.listing.book.now) c.args.along.links.now c.args.count _ (ap (λ (x : List Bool). false ∷ x) c.new.ensures)

pub loop-number-preserved : goal.loop-number-preserved
loop-number-preserved g c =
    let routes = route c.args.routes.listing.book.now in
    let r = c.args.along.links.now in
    let k = c.args.count in
    let i = c.loop-number.number in
    let fork = nexts c.loop-number.fork in
    let all = length-take-le c.args.routes.listing.listed c.args.along.fronts.now c.requires.room in
    let below : i < c.args.routes.listing.listed = omega arith in
    let front = get_or-take c.args.routes.listing.listed c.args.along.fronts.now i 0 below ∙ c.requires.each i below in
    let P : Fork → Type 0 = λ x. TakenIn routes (i + 1) r k (nexts x) in
    elim c.if-front-count.branch [
      | then-front-count w ↦
          let long : k ≤ agree (routes i) r = omega (arith, w.if-front-count.true, front) in
          subst P (sym w.fork-is) (taken_more routes r k fork i c.loop-number.invariant (length_nexts c.loop-number.fork) long w.next_link.result w.next_link.ensures _ w.put.ensures)
      | else-front-count w ↦
          let short : agree (routes i) r < k = omega (arith, w.if-front-count.false, front) in
          subst P (sym w.fork-is) (taken_skip routes r k fork i c.loop-number.invariant short)
    ]

pub returns : goal.returns
returns g c b h =
    let all = length-take-le c.args.routes.listing.listed c.args.along.fronts.now c.requires.room in
    let end : c.loop-number.number ≡ c.args.routes.listing.listed = omega (arith, c.loop-number.auto.number-end) in
    c.loop-number.invariant b h ∙ ap (λ (n : ℕ). one_goes_on (route c.args.routes.listing.book.now) n c.args.along.links.now c.args.count b) end
