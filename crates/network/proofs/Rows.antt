-- Rows of refusals: which one answers, and what a call leaves then. Assumes nothing.
use Rattle.std.proofs.Common.{◌≡◌, ℕ, Bool, true, false, cond, List, [], ◌∷◌, ◌++◌, Some, None, Err, Option, Result, sym, refl, ap, ◌∙◌, arith}
use Rattle.std.specs.List.{AllByRecursion}
use Rattle.network.specs.declared.refusal.Refusal.{Refusal}
use Rattle.network.specs.Refusals.{number, refusal_in, Row, first_refusal}
use Rattle.network.specs.Laying.{unless}

pub none_is_not_some : {A : Type 0} (x : A) → None ≡ Some x → ⊥
none_is_not_some x e = let z : ◌≡◌ {A = ℕ} 0 1 = cc in omega arith

-- no row refuses: the first does not, and no later one does
pub passed_row : (r : Row) (rows : List Row) → first_refusal (r ∷ rows) ≡ None → (r.applies ≡ false) × (first_refusal rows ≡ None)
passed_row r rows = by r.applies
  where
    by : (b : Bool) → cond b (Some r.told) (first_refusal rows) ≡ None → (b ≡ false) × (first_refusal rows ≡ None)
    by true e = absurd (none_is_not_some r.told (sym e))
    by false e = (refl, e)

cond_refused : (b : Bool) (n m : ℕ) (o o' : Option ℕ) → (o ≡ Some n → o' ≡ Some n) → cond b (Some m) o ≡ Some n → cond b (Some m) o' ≡ Some n
cond_refused true n m o o' rest e = e
cond_refused false n m o o' rest e = rest e

-- a row of the first list refuses: the rows after them do not matter
pub refused_before : (rows more : List Row) (n : ℕ) → first_refusal rows ≡ Some n → first_refusal (rows ++ more) ≡ Some n
refused_before [] more n e = absurd (none_is_not_some n e)
refused_before (r ∷ rows) more n e =
    cond_refused r.applies n r.told (first_refusal rows) (first_refusal (rows ++ more)) (refused_before rows more n) e

-- no row of the first list refuses: the others decide
pub passed_before : (rows more : List Row) → first_refusal rows ≡ None → first_refusal (rows ++ more) ≡ first_refusal more
passed_before [] more e = refl
passed_before (r ∷ rows) more e =
    let p = passed_row r rows e in
    ap (λ (b : Bool). cond b (Some r.told) (first_refusal (rows ++ more))) p.0 ∙ passed_before rows more p.1

-- a refusal that `?` hands on
pub handed_on : {A : Type 0} (answer : Result A Refusal) (x y : Refusal) (o : Option ℕ)
    → answer ≡ Err x → x ≡ y → o ≡ Some (number y) → refusal_in answer ≡ o
handed_on answer x y o a e told = ap refusal_in a ∙ ap (λ (z : Refusal). Some (number z)) e ∙ sym told

pub stays : {S : Type 0} (o : Option ℕ) (n : ℕ) (before after : S) → o ≡ Some n → before ≡ unless o before after
stays o n before after e = sym (ap (λ (x : Option ℕ). unless x before after) e)

-- no row refuses: none of either list does
pub passed_both : (rows more : List Row) → first_refusal (rows ++ more) ≡ None → (first_refusal rows ≡ None) × (first_refusal more ≡ None)
passed_both [] more e = (refl, e)
passed_both (r ∷ rows) more e =
    let p = passed_row r (rows ++ more) e in
    let q = passed_both rows more p.1 in
    (ap (λ (b : Bool). cond b (Some r.told) (first_refusal rows)) p.0 ∙ q.0, q.1)

-- rows of which none applies
pub none_applies : (rows : List Row) → AllByRecursion (λ r. r.applies ≡ false) rows → first_refusal rows ≡ None
none_applies [] all = refl
none_applies (r ∷ rows) all = ap (λ (b : Bool). cond b (Some r.told) (first_refusal rows)) all.0 ∙ none_applies rows all.1
