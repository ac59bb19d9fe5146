use Rattle.std.proofs.Common.{◌≡◌, ℕ, List, length, Err, Option, Result, ap, ◌∙◌, subst, arith, rules}
use Rattle.std.proofs.lemmas.Result.{err_from_is_err_and}
use Rattle.std.specs.Option.{ok_or}
use Rattle.network.specs.declared.refusal.Refusal.{Refusal}
use Rattle.network.specs.declared.refusal.Refusal.TheVariants.{NoFurtherRoute}
use Rattle.network.specs.Roads.{Roads}
use Rattle.network.proofs.Laws.{links_few}
use Rattle.routing.specs.Book as books
use Rattle.routing.specs.declared.found.Found.{Found}
use Rattle.unlisted.proofs.Books.{legible}
use Rattle.navigator.specs.State.{state}
use Rattle.navigator.specs.Searches.{next_rows}
use Rattle.navigator.proofs.Rows.{went_on, next_room}
use Rattle.navigator.proofs.Nexts.{next_none_left, next_hands_out}
use Rattle.navigator.proofs.map.Map.next.Goals as goal

pub returns-in_err-found-clause-call : goal.returns-in_err-found-clause-call
returns-in_err-found-clause-call g c =
    let p = went_on (next_rows (state c.args.self.now.town) c.args.book.now (length c.args.table.now)) _ c.in_ok-routes.ensures in
    let l = c.in_ok-routes.routes.listing in
    let R : Roads → List ℕ → Option (Found g.row.M-Cost.Denot) → Type 0 = λ roads book o. books.Finds g.M.Measure.rank (g.M.Measure.ranks c.args.self.now.measure) roads
    (books.Unlisted roads l.trip.from l.trip.to book l.listed) c.cheapest_unlisted.new.line o in
    let s = state c.args.self.now.town in
    let none = subst (R s.roads c.args.book.now) c.in_err-found.ensures.ok_part
    (subst (λ (book : List ℕ). R s.roads book c.cheapest_unlisted.result) p.1.book
    (subst (λ (roads : Roads). R roads l.book.now c.cheapest_unlisted.result) p.1.roads c.cheapest_unlisted.ensures.finds)) in
    let told : ◌≡◌ {A = Result (Found g.row.M-Cost.Denot) Refusal} (Err c.in_err-found.field-0.0) (Err NoFurtherRoute) =
    c.in_err-found.ensures.value ∙ ap (λ (o : Option (Found g.row.M-Cost.Denot)). ok_or o NoFurtherRoute) c.in_err-found.ensures.ok_part in
    let is : c.in_err-found.field-0.0 ≡ NoFurtherRoute = cc in
    let r = err_from_is_err_and c.from_residual-in_err-found.result c.from_residual-in_err-found.ensures.1 in
    rw (r.1, r.2, is) (next_none_left _ _ _ _ _ _ _ _ p.1.asked none p.0)

pub returns-clause-call : goal.returns-clause-call
returns-clause-call g c =
    let p = went_on (next_rows (state c.args.self.now.town) c.args.book.now (length c.args.table.now)) _ c.in_ok-routes.ensures in
    let l = c.in_ok-routes.routes.listing in
    let room = next_room (state c.args.self.now.town).roads _ _ _ _ _ _ p.1.asked p.0 in
    let long : length c.cheapest_unlisted.new.line ≡ 1024 = search rules in
    let R : Roads → List ℕ → Option (Found g.row.M-Cost.Denot) → Type 0 = λ roads book o. books.Finds g.M.Measure.rank (g.M.Measure.ranks c.args.self.now.measure) roads
    (books.Unlisted roads l.trip.from l.trip.to book l.listed) c.cheapest_unlisted.new.line o in
    let s = state c.args.self.now.town in
    let found = subst (R s.roads c.args.book.now) c.in_ok-found.ensures.ok_part
    (subst (λ (book : List ℕ). R s.roads book c.cheapest_unlisted.result) p.1.book
    (subst (λ (roads : Roads). R roads l.book.now c.cheapest_unlisted.result) p.1.roads c.cheapest_unlisted.ensures.finds)) in
    let L : Roads → List ℕ → Type 0 = λ roads book. books.Legible roads l.trip.from l.trip.to book l.listed in
    let all = subst (L s.roads) p.1.book (subst (λ (roads : Roads). L roads l.book.now) p.1.roads (legible c.in_ok-routes.routes)) in
    next_hands_out _ _ _ _ _ _ _ c.cheapest_unlisted.new.line _ _ long found _ p.1.asked _ _
    c.list_route.ensures c.shared_with_first-shared.ensures (links_few c.args.self.now.town.network)
    (omega (arith, room.0, room.1)) all p.0
