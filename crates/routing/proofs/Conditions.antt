-- The conditions of a route, and the tests of them. Assumes nothing.
use Rattle.std.proofs.Common.{◌≡◌, ℕ, true, not, eqb, leb, List, [], ◌∷◌, length, sym, subst, ⊎_elim}
use Rattle.std.specs.List.{ContainsAt as Has}
use Rattle.std.proofs.lemmas.Bool.{and_parts, and_from, or_cases, or_left, or_right, not-true, not_from_false, leb-true, le-leb, eqb-true, eq-eqb, eqb-false, ne_eqb, false≢true}
use Rattle.network.specs.Plan.{link, laid}
use Rattle.network.specs.Roads.{Roads, closed, turn, barred, Passable, Joins}
use Rattle.network.specs.Shared.{stands_in}
use Rattle.routing.specs.Enumeration.{passable, joins}
use Rattle.routing.proofs.Members.{has_first, has_later, has_none, has_cases}

module _ (roads : Roads) where
  pub passable_true : (n : ℕ) → passable roads n ≡ true → Passable roads n
  passable_true n t =
      let parts = and_parts (laid roads.plan.links n) (not (closed roads n)) t in
      let within = and_parts (leb 1 n) (leb n (length roads.plan.links)) parts.0 in
      ((leb-true 1 n within.0, leb-true n (length roads.plan.links) within.1), not-true (closed roads n) parts.1)

  pub passable_is : (n : ℕ) → Passable roads n → passable roads n ≡ true
  passable_is n p =
      and_from (laid roads.plan.links n) (not (closed roads n))
      (and_from (leb 1 n) (leb n (length roads.plan.links)) (le-leb 1 n p.0.0) (le-leb n (length roads.plan.links) p.0.1))
      (not_from_false (closed roads n) p.1)

  pub joins_true : (a b : ℕ) → joins roads a b ≡ true → Joins roads a b
  joins_true a b t =
      let end = (link roads.plan.links a).end in
      let start = (link roads.plan.links b).start in
      let class = (turn roads.plan.turns a b).class in
      let parts = and_parts (eqb end start) (not (eqb class barred)) t in
      (eqb-true end start parts.0, eqb-false class barred (not-true (eqb class barred) parts.1))

  pub joins_is : (a b : ℕ) → Joins roads a b → joins roads a b ≡ true
  joins_is a b j =
      let end = (link roads.plan.links a).end in
      let start = (link roads.plan.links b).start in
      let class = (turn roads.plan.turns a b).class in
      and_from (eqb end start) (not (eqb class barred)) (eq-eqb end start j.0) (not_from_false (eqb class barred) (ne_eqb class barred j.1))

pub stands_in_true : (a : ℕ) (bs : List ℕ) → stands_in a bs ≡ true → Has bs a
stands_in_true a [] t = absurd (false≢true t)
stands_in_true a (b ∷ bs) t =
    ⊎_elim (λ e. subst (Has (b ∷ bs)) (sym (eqb-true a b e)) (has_first bs b))
    (λ e. has_later bs b a (stands_in_true a bs e)) (or_cases (eqb a b) (stands_in a bs) t)

pub stands_in_is : (a : ℕ) (bs : List ℕ) → Has bs a → stands_in a bs ≡ true
stands_in_is a [] h = absurd (has_none a h)
stands_in_is a (b ∷ bs) h =
    ⊎_elim (λ e. or_left (eqb a b) (stands_in a bs) (eq-eqb a b (sym e)))
    (λ g. or_right (eqb a b) (stands_in a bs) (stands_in_is a bs g)) (has_cases bs b a h)
