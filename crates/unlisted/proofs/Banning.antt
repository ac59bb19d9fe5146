-- The closed links and those of a beginning, one link more or fewer. Assumes nothing.
use Rattle.std.proofs.Common.{◌≡◌, ℕ, zero, suc, ◌+◌, ◌-◌, ◌<◌, ◌≤◌, Bool, true, false, ◌||◌, eqb, List, [], ◌∷◌, ◌++◌, length, get_or, take, drop, sym, refl, ap, ◌∙◌, subst, ap₂, ⊎_elim, arith}
use Rattle.std.proofs.ByRecursion.{All-get_or}
use Rattle.std.proofs.lemmas.List.{get_or-set_same, get_or-set_other, take_more, take-append-drop}
use Rattle.std.proofs.lemmas.Bool.{cases_eq, cases_Bool, ne_eqb}
use Rattle.network.specs.Plan.{Laid}
use Rattle.network.specs.Marks.{marked}
use Rattle.network.specs.Roads.{Roads, Passable, closed}
use Rattle.network.specs.Shared.{Once, stands_in}
use Rattle.network.proofs.Marked.{added_has}
use Rattle.routing.specs.Route.{Simple}
use Rattle.routing.proofs.Conditions.{stands_in_true}
use Rattle.completion.specs.Completion.{Bans}
use Rattle.completion.specs.Onward.{has}
use Rattle.completion.proofs.Splits.{once_parts}
use Rattle.unlisted.proofs.Books.{simple_passable}

pub or_none : (b : Bool) → (b || false) ≡ b
or_none true = refl
or_none false = refl

or_last : (a b c : Bool) → (c || (a || b)) ≡ (a || (b || c))
or_last true b true = refl
or_last true b false = refl
or_last false true true = refl
or_last false true false = refl
or_last false false true = refl
or_last false false false = refl

or_group : (a b c : Bool) → (a || (b || c)) ≡ (a || b || c)
or_group true b c = refl
or_group false b c = refl

stands_push : (n x : ℕ) (xs : List ℕ) → stands_in n (xs ++ (x ∷ [])) ≡ (stands_in n xs || eqb n x)
stands_push n x [] = or_none (eqb n x)
stands_push n x (y ∷ xs) = ap (λ (b : Bool). eqb n y || b) (stands_push n x xs) ∙ or_group (eqb n y) (stands_in n xs) (eqb n x)

stands_more : (n : ℕ) (links : List ℕ) (i : ℕ) → i < length links → stands_in n (take (i + 1) links) ≡ (stands_in n (take i links) || eqb n (get_or links i 0))
stands_more n links i h = ap (stands_in n) (take_more links i 0 h) ∙ stands_push n (get_or links i 0) (take i links)

pub bans_none : (roads : Roads) → Bans roads [] roads.marks
bans_none roads n l = sym (or_none (closed roads n))

module _ (roads : Roads) (few : length roads.plan.links ≤ 1024) (links : List ℕ) (i : ℕ) (inside : i < length links) (ms : List Bool) (long : length ms ≡ 1024) where
  pub bans_more : Bans roads (take i links) ms → Bans roads (take (i + 1) links) (marked ms (get_or links i 0) true)
  bans_more bans n l =
      let x = get_or links i 0 in
      added_has ms x n l.0 (omega (arith, l.1))
      ∙ ap (λ (b : Bool). eqb n x || b) (bans n l)
      ∙ or_last (closed roads n) (stands_in n (take i links)) (eqb n x)
      ∙ ap (λ (b : Bool). closed roads n || b) (sym (stands_more n links i inside))

  -- the last link of a route's beginning is not closed, and does not stand in it before
  pub bans_less : Bans roads (take (i + 1) links) ms → closed roads (get_or links i 0) ≡ false → Once (take (i + 1) links) → Bans roads (take i links) (marked ms (get_or links i 0) false)
  bans_less bans free once n l =
      ⊎_elim
      (λ (e : n ≡ x). let P : ℕ → Type 0 = λ y. has (marked ms x false) y ≡ (closed roads y || stands_in y (take i links)) in
      subst P (sym e) (gone x refl (let P : ℕ → Type 0 = λ y. Laid roads.plan.links y in subst P e l) ∙ sym (ap₂ (λ (a b : Bool). a || b) free new)))
      (λ (ne : n ≡ x → ⊥). other n x ne
      ∙ bans n l
      ∙ ap (λ (b : Bool). closed roads n || b) (stands_more n links i inside ∙ ap (λ (b : Bool). stands_in n (take i links) || b) (ne_eqb n x ne) ∙ or_none (stands_in n (take i links))))
      (cases_eq n x)
    where
      x : ℕ
      x = get_or links i 0

      gone : (y : ℕ) → y ≡ get_or links i 0 → Laid roads.plan.links y → has (marked ms y false) y ≡ false
      gone zero e l = refl
      gone (suc y) e l = get_or-set_same ms y false false (omega (arith, l.1))

      other : (n y : ℕ) → (n ≡ y → ⊥) → has (marked ms y false) n ≡ has ms n
      other n zero ne = refl
      other zero (suc y) ne = refl
      other (suc n) (suc y) ne = get_or-set_other ms y n false false (λ e. ne (ap suc e))

      new : stands_in (get_or links i 0) (take i links) ≡ false
      new =
          let apart = once_parts (take i links) (get_or links i 0 ∷ []) (let P : List ℕ → Type 0 = λ s. Once s in subst P (take_more links i 0 inside) once) in
          ⊎_elim
          (λ t. absurd (apart.2.0 (stands_in_true (get_or links i 0) (take i links) t)))
          (λ f. f)
          (cases_Bool (stands_in (get_or links i 0) (take i links)))

-- one link fewer of a simple route's beginning
pub bans_back : (roads : Roads) (from to : ℕ) → length roads.plan.links ≤ 1024 → (links : List ℕ) → Simple roads from to links → (k : ℕ) → 0 < k → k ≤ length links
    → (ms : List Bool) → length ms ≡ 1024 → Bans roads (take k links) ms → Bans roads (take (k - 1) links) (marked ms (get_or links (k - 1) 0) false)
bans_back roads from to few links s k some h ms long bans =
    let i = k - 1 in
    let here : i + 1 ≡ k = omega arith in
    let inside : i < length links = omega arith in
    let B : ℕ → Type 0 = λ x. Bans roads (take x links) ms in
    bans_less roads few links i inside ms long (subst B (sym here) bans) (All-get_or (Passable roads) links i 0 inside (simple_passable roads from to links s)).1 (once_take links (once links s) (i + 1))
  where
    once : (w : List ℕ) → Simple roads from to w → Once w
    once [] s = absurd s
    once (a ∷ bs) s = s.4

    once_take : (w : List ℕ) → Once w → (n : ℕ) → Once (take n w)
    once_take w o n = (once_parts (take n w) (drop n w) (let P : List ℕ → Type 0 = λ x. Once x in subst P (sym (take-append-drop n w)) o)).0
