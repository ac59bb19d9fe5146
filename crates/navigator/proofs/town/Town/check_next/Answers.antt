use Rattle.std.proofs.Common.{◌≡◌, ℕ, Some, None, Option, refl, sym, subst, arith}
use Rattle.network.specs.Roads.{Roads}
use Rattle.routing.specs.Book as books
use Rattle.navigator.proofs.Rows.{spoilt, legible}
use Rattle.navigator.proofs.town.Town.check_next.Goals as goal

pub returns-then-not-is_legible : goal.returns-then-not-is_legible
returns-then-not-is_legible c =
    let asked = c.in_ok-asked.asked in
    let L : Roads → Type 0 = λ roads. books.Legible roads asked.from asked.to c.args.book.now asked.listed in
    spoilt _ _ _ _ _ _ (λ n. ◌≡◌ {A = Option ℕ} (Some 15) (Some n)) _ (omega arith) (omega arith) (omega arith) _ c.in_ok-asked.ensures
    (λ all. c.is_legible.ensures.no c.if-not-is_legible.true (subst L (sym c.roads.ensures) all)) refl

pub invariant_of-result : goal.invariant_of-result
invariant_of-result c = record { few = omega arith; legible = ∣ c.is_legible.ensures.yes c.if-not-is_legible.false ∣₁ }

pub returns : goal.returns
returns c =
    let asked = c.in_ok-asked.asked in
    let L : Roads → Type 0 = λ roads. books.Legible roads asked.from asked.to c.args.book.now asked.listed in
    legible _ _ _ _ _ _ (λ n. ◌≡◌ {A = Option ℕ} None (Some n)) _ (omega arith) (omega arith) (omega arith) _ c.in_ok-asked.ensures
    (subst L c.roads.ensures (c.is_legible.ensures.yes c.if-not-is_legible.false)) (record { asked = c.in_ok-asked.ensures; roads = c.roads.ensures; book = refl })
