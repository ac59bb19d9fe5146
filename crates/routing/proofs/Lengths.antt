-- How many links a simple route can have. Assumes nothing.
use Rattle.std.proofs.Common.{◌≡◌, ℕ, zero, suc, ◌≤◌, List, [], ◌∷◌, length, sym, refl, ap, arith}
use Rattle.std.specs.List.{ContainsAt as Has, AllByRecursion}
use Rattle.std.proofs.ByRecursion.{All-weaker, all-has}
use Rattle.network.specs.Shared.{Once}
use Rattle.network.specs.Roads.{Roads, Passable}
use Rattle.measure.proofs.Sums.{no_stop}
use Rattle.routing.specs.Route.{Simple}
use Rattle.routing.specs.Enumeration.{numbers, without}
use Rattle.routing.specs.Unstopped.{RoutesUnstopped}
use Rattle.routing.proofs.Members.{all_from_has}
use Rattle.routing.proofs.Exactness.{has_numbers, has_without, without_shorter}

-- different links out of some links are no more than these
pub once_fits : (r links : List ℕ) → Once r → AllByRecursion (Has links) r → length r ≤ length links
once_fits [] links once all = omega arith
once_fits (b ∷ bs) links once all =
    let rest : AllByRecursion (Has (without b links)) bs =
    all_from_has (Has (without b links)) bs
    (λ c h. has_without b links c (all-has (Has links) bs c all.1 h) (λ e. once.0 (rw (sym e) h))) in
    let fewer = once_fits bs (without b links) once.1 rest in
    let shorter = without_shorter b links all.0 in
    omega arith

length_numbers : (n : ℕ) → length (numbers n) ≡ n
unfolding numbers
length_numbers zero = refl
length_numbers (suc n) = ap suc (length_numbers n)

pub simple_length : (roads : Roads) (from to : ℕ) (r : List ℕ) → Simple roads from to r → length r ≤ length roads.plan.links
simple_length roads from to [] s = absurd s
simple_length roads from to (a ∷ bs) s =
    let n = length roads.plan.links in
    let in_numbers : AllByRecursion (Has (numbers n)) (a ∷ bs) =
    All-weaker (Passable roads) (Has (numbers n)) (λ m p. has_numbers n m p.0.0 p.0.1) (a ∷ bs) s.3 in
    let fits = once_fits (a ∷ bs) (numbers n) s.4 in_numbers in
    omega (arith, length_numbers n)

pub routes_unstopped : RoutesUnstopped
routes_unstopped roads from to r laws few s =
    let short : length r ≤ 1024 = omega (arith, simple_length roads from to r s) in
    (short, no_stop roads.plan r laws short)
