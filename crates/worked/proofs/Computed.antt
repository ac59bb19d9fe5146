-- A figure of which a test comes out true stands. Assumes nothing.
--     listed rs r     r is one of rs, as a test
--     pairwise p xs   Pairwise as a test
--     some_pass p xs  an element passes p
--     Computes f      what the checker computes of a figure
use Rattle.std.proofs.Common.{◌≡◌, ℕ, ◌≤◌, Bool, true, false, not, ◌&&◌, ◌||◌, eqb, leb, List, [], ◌∷◌, filter, subst, ⊎_elim}
use Rattle.std.specs.List.{ContainsAt as Has, AllByRecursion, list_all}
use Rattle.std.specs.Str.{bytes_eq}
use Rattle.std.proofs.ByRecursion.{all-has}
use Rattle.std.proofs.lemmas.Slice.Eq.{bytes_eq-Decides}
use Rattle.std.proofs.lemmas.Bool.{and_parts, or_cases, not-true, not_from_false, both_ways, cases_Bool, leb-true, eqb-true, false≢true}
use Rattle.network.specs.Roads.{Roads}
use Rattle.measure.specs.Ranks.{Ranks}
use Rattle.measure.specs.Cost.{cost}
use Rattle.routing.specs.Route.{Avoiding, Least}
use Rattle.network.specs.Shared.{stands_in}
use Rattle.routing.specs.Enumeration.{all_simple}
use Rattle.routing.proofs.Members.{has_first, has_later, has_kept, kept_has}
use Rattle.routing.proofs.Conditions.{stands_in_true, stands_in_is}
use Rattle.routing.proofs.Exactness.{exact}
use Rattle.worked.specs.Figures.{Row, Figure, image, routes, shared_with_first, least_without, Pairwise, routes_in, RowStands, ComesBefore, Stands}

abbrev pub listed : List (List ℕ) → List ℕ → Bool
listed [] r = false
listed (s ∷ rs) r = bytes_eq s r || listed rs r

abbrev pub pairwise : {X : Type 0} → (X → X → Bool) → List X → Bool
pairwise p [] = true
pairwise p (x ∷ xs) = list_all (p x) xs && pairwise p xs

abbrev pub some_pass : {X : Type 0} → (X → Bool) → List X → Bool
some_pass p [] = false
some_pass p (x ∷ xs) = p x || some_pass p xs

pub listed_true : (rs : List (List ℕ)) (r : List ℕ) → listed rs r ≡ true → Has rs r
listed_true [] r t = absurd (false≢true t)
listed_true (s ∷ rs) r t =
    ⊎_elim (λ e. subst (Has (s ∷ rs)) ((bytes_eq-Decides s r).0 e) (has_first rs s))
    (λ e. has_later rs s r (listed_true rs r e)) (or_cases (bytes_eq s r) (listed rs r) t)

pub all_pass_true : {X : Type 0} (p : X → Bool) (P : X → Type 0) → ((x : X) → p x ≡ true → P x)
    → (xs : List X) → list_all p xs ≡ true → AllByRecursion P xs
all_pass_true p P h [] t = tt
all_pass_true p P h (x ∷ xs) t =
    let parts = and_parts (p x) (list_all p xs) t in
    (h x parts.0, all_pass_true p P h xs parts.1)

pub pairwise_true : {X : Type 0} (p : X → X → Bool) (R : X → X → Type 0) → ((x y : X) → p x y ≡ true → R x y)
    → (xs : List X) → pairwise p xs ≡ true → Pairwise R xs
pairwise_true p R h [] t = tt
pairwise_true p R h (x ∷ xs) t =
    let parts = and_parts (list_all (p x) xs) (pairwise p xs) t in
    (all_pass_true (p x) (R x) (h x) xs parts.0, pairwise_true p R h xs parts.1)

pub some_pass_true : {X : Type 0} (p : X → Bool) (xs : List X) → some_pass p xs ≡ true → (x : X) × Has xs x × (p x ≡ true)
some_pass_true p [] t = absurd (false≢true t)
some_pass_true p (x ∷ xs) t =
    ⊎_elim (λ e. (x, has_first xs x, e))
    (λ e. let later = some_pass_true p xs e in (later.0, has_later xs x later.0 later.1, later.2))
    (or_cases (p x) (some_pass p xs) t)

abbrev pub row_right : Ranks → Roads → (from to : ℕ) → Row → Bool
row_right m roads from to row =
    listed (all_simple roads from to) row.route && eqb (cost m roads.plan row.route) row.told

abbrev pub comes_before : Row → Row → Bool
comes_before a b = leb a.told b.told && not (bytes_eq a.route b.route)

abbrev pub table_right : Ranks → Roads → (from to : ℕ) → List Row → Bool
table_right m roads from to table =
    list_all (row_right m roads from to) table
    && (pairwise comes_before table && list_all (listed (routes_in table)) (all_simple roads from to))

abbrev pub all_avoiding : Roads → (from to gone : ℕ) → List (List ℕ)
all_avoiding roads from to gone = filter (λ r. not (stands_in gone r)) (all_simple roads from to)

abbrev pub least_right : Ranks → Roads → (from to gone least : ℕ) → Bool
least_right m roads from to gone least =
    some_pass (λ r. eqb (cost m roads.plan r) least) (all_avoiding roads from to gone)
    && list_all (λ r. leb least (cost m roads.plan r)) (all_avoiding roads from to gone)

abbrev pub Computes : Figure → Type 0
Computes (image plan bytes) = Stands (image plan bytes)
Computes (routes m roads from to table) = table_right m roads from to table ≡ true
Computes (shared_with_first table counts) = Stands (shared_with_first table counts)
Computes (least_without m roads from to gone least) = least_right m roads from to gone least ≡ true

row_stands : (m : Ranks) (roads : Roads) (from to : ℕ) (row : Row) → row_right m roads from to row ≡ true → RowStands m roads from to row
row_stands m roads from to row t =
    let price = cost m roads.plan row.route in
    let parts = and_parts (listed (all_simple roads from to) row.route) (eqb price row.told) t in
    ((exact roads from to row.route).1 (listed_true (all_simple roads from to) row.route parts.0), eqb-true price row.told parts.1)

comes_before_true : (a b : Row) → comes_before a b ≡ true → ComesBefore a b
comes_before_true a b t =
    let parts = and_parts (leb a.told b.told) (not (bytes_eq a.route b.route)) t in (
      leb-true a.told b.told parts.0,
      λ e. both_ways (bytes_eq a.route b.route) (not-true (bytes_eq a.route b.route) parts.1) ((bytes_eq-Decides a.route b.route).1 e),
    )

pub table_stands : (m : Ranks) (roads : Roads) (from to : ℕ) (table : List Row)
    → table_right m roads from to table ≡ true → Stands (routes m roads from to table)
table_stands m roads from to table t =
    let whole = list_all (listed (routes_in table)) (all_simple roads from to) in
    let first = and_parts (list_all (row_right m roads from to) table) (pairwise comes_before table && whole) t in
    let rest = and_parts (pairwise comes_before table) whole first.1 in (
      all_pass_true (row_right m roads from to) (RowStands m roads from to) (row_stands m roads from to) table first.0,
      pairwise_true comes_before ComesBefore comes_before_true table rest.0,
      λ r s. all-has (Has (routes_in table)) (all_simple roads from to) r
          (all_pass_true (listed (routes_in table)) (Has (routes_in table)) (listed_true (routes_in table)) (all_simple roads from to) rest.1)
          ((exact roads from to r).0 s),
    )

pub avoiding_has : (roads : Roads) (from to gone : ℕ) (r : List ℕ) → Avoiding roads from to gone r → Has (all_avoiding roads from to gone) r
avoiding_has roads from to gone r a =
    has_kept (λ r. not (stands_in gone r)) (all_simple roads from to) r ((exact roads from to r).0 a.0)
    (not_from_false (stands_in gone r)
    (⊎_elim (λ t. absurd (a.1 (stands_in_true gone r t))) (λ f. f) (cases_Bool (stands_in gone r))))

pub has_avoiding : (roads : Roads) (from to gone : ℕ) (r : List ℕ) → Has (all_avoiding roads from to gone) r → Avoiding roads from to gone r
has_avoiding roads from to gone r h =
    let kept = kept_has (λ r. not (stands_in gone r)) (all_simple roads from to) r h in
    ((exact roads from to r).1 kept.0, λ g. both_ways (stands_in gone r) (not-true (stands_in gone r) kept.1) (stands_in_is gone r g))

pub least_stands : (m : Ranks) (roads : Roads) (from to gone least : ℕ)
    → least_right m roads from to gone least ≡ true → Least m roads (Avoiding roads from to gone) least
least_stands m roads from to gone least t =
    let price : List ℕ → ℕ = λ r. cost m roads.plan r in
    let left = all_avoiding roads from to gone in
    let parts = and_parts (some_pass (λ r. eqb (price r) least) left) (list_all (λ r. leb least (price r)) left) t in
    let one = some_pass_true (λ r. eqb (price r) least) left parts.0 in (
      (one.0, has_avoiding roads from to gone one.0 one.1, eqb-true (price one.0) least one.2),
      λ r a. all-has (λ r. least ≤ price r) left r
          (all_pass_true (λ r. leb least (price r)) (λ r. least ≤ price r) (λ r e. leb-true least (price r) e) left parts.1)
          (avoiding_has roads from to gone r a),
    )

pub stands : (f : Figure) → Computes f → Stands f
stands (image plan bytes) h = h
stands (routes m roads from to table) h = table_stands m roads from to table h
stands (shared_with_first table counts) h = h
stands (least_without m roads from to gone least) h = least_stands m roads from to gone least h
