-- Links shared with what the places of route 1 hold. Assumes nothing.
use Rattle.std.proofs.Common.{◌≡◌, ℕ, zero, suc, ◌+◌, ◌-◌, ◌≤◌, Bool, cond, ◌||◌, eqb, List, [], ◌∷◌, ◌++◌, length, replicate, sym, refl, ap, ◌∙◌, ap₂, arith}
use Rattle.std.proofs.ByRecursion.{All-weaker}
use Rattle.std.proofs.lemmas.Bool.{ne_eqb, or_from}
use Rattle.network.specs.Marks.{both, marks_of}
use Rattle.network.specs.Shared.{stands_in, shared, LinkNumber}
use Rattle.network.specs.Roads.{Roads, Passable}
use Rattle.network.proofs.Shares.{shared_is_counted}
use Rattle.routing.specs.Route.{Simple}
use Rattle.routing.specs.Places.{Holds}
use Rattle.routing.specs.Book.{place}
use Rattle.navigator.specs.Listing.{route_at}
use Rattle.navigator.proofs.Places.{Counted, read_back}

not_among_zeros : (a : ℕ) (f : List ℕ) (n : ℕ) → 1 ≤ a → stands_in a (f ++ replicate n 0) ≡ stands_in a f
not_among_zeros a [] zero low = refl
not_among_zeros a [] (suc n) low =
    or_from (eqb a 0) (stands_in a (replicate n 0)) (ne_eqb a 0 (λ e. omega arith)) (not_among_zeros a [] n low)
not_among_zeros a (b ∷ f) n low = ap (λ (t : Bool). eqb a b || t) (not_among_zeros a f n low)

shared_before_zeros : (r f : List ℕ) (n : ℕ) → Counted r → shared r (f ++ replicate n 0) ≡ shared r f
shared_before_zeros [] f n c = refl
shared_before_zeros (a ∷ r) f n c =
    ap₂ (λ (t : Bool) (k : ℕ). cond t 1 0 + k) (not_among_zeros a f n c.0) (shared_before_zeros r f n c.1)

-- zeros after the links of route 1 are shared with no route
pub shared_with_place : (book r first : List ℕ) → Counted r → Counted first → Holds (place book 0) first
    → shared r (place book 0) ≡ shared r (route_at book 0)
shared_with_place book r first c d h =
    ap (shared r) h ∙ shared_before_zeros r first (length (place book 0) - length first) c
    ∙ ap (shared r) (sym (read_back book 0 first h d))

pub simple_shared : (roads : Roads) (from to : ℕ) (r s : List ℕ) → length roads.plan.links ≤ 1024 → Simple roads from to r
    → both (marks_of r) (marks_of s) ≡ shared r s
simple_shared roads from to [] s few h = absurd h
simple_shared roads from to (a ∷ r) s few h =
    shared_is_counted (a ∷ r) s h.4
    (All-weaker (Passable roads) LinkNumber (λ n p. (p.0.0, omega (arith, p.0.1))) (a ∷ r) h.3)
