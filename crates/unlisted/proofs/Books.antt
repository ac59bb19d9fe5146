-- The routes that a legible book lists. Assumes nothing.
use Rattle.std.proofs.Common.{◌≡◌, ℕ, ◌-◌, ◌*◌, ◌<◌, ◌≤◌, true, List, [], ◌∷◌, ◌++◌, length, get_or, take, drop, replicate, sym, refl, ap, ◌∙◌, subst, ⊎_elim, arith}
use Rattle.std.specs.List.{position_or_len, AllByRecursion}
use Rattle.std.proofs.ByRecursion.{All-weaker}
use Rattle.std.proofs.lemmas.List.{length-take, get_or_past, get_or_append_left, get_or-append_right, get_or-replicate, length-replicate, take-append-drop}
use Rattle.std.proofs.lemmas.Bool.{cases_lt}
use Rattle.std.proofs.Math.Logic.{∥∥₁_elim}
use Rattle.std.proofs.Props.{props}
use Rattle.network.specs.Roads.{Roads, Passable}
use Rattle.routing.specs.Route.{Simple}
use Rattle.routing.specs.Places.{Holds}
use Rattle.routing.specs.Lent.{lent, route_test}
use Rattle.routing.specs.Book.{place, route, Legible, Unlisted}
use Rattle.routing.proofs.Decides.{is_zero, held, test_simple, simple_passes}
use Rattle.completion.specs.Completion.{Begins}
use Rattle.completion.proofs.Completions.{simple_begins}
use Rattle.unlisted.specs.declared.legible.ListedRoutes.{ListedRoutes}
use Rattle.unlisted.proofs.Agreeing.{Links}

pub simple_passable : (roads : Roads) (from to : ℕ) (w : List ℕ) → Simple roads from to w → AllByRecursion (Passable roads) w
simple_passable roads from to [] s = absurd s
simple_passable roads from to (a ∷ bs) s = s.3

pub simple_links : (roads : Roads) (from to : ℕ) (r : List ℕ) → Simple roads from to r → Links r
simple_links roads from to r s =
    All-weaker (Passable roads) (λ b. 1 ≤ b) (λ b p. p.0.0) r (simple_passable roads from to r s)

-- a simple route that places hold is the one that is listed there
pub route_held : (roads : Roads) (from to : ℕ) (book : List ℕ) (i : ℕ) (r : List ℕ) → Simple roads from to r → Holds (place book i) r → route book i ≡ r
unfolding route
route_held roads from to book i r s h = (held roads from to (place book i) r s h).1

zeros_read : (n i : ℕ) → ◌≡◌ {A = ℕ} (get_or (replicate n 0) i 0) 0
zeros_read n i = ⊎_elim (λ (h : i < n). get_or-replicate n i 0 0 h) (λ (h : n ≤ i). get_or_past (replicate n 0) i 0 (let e : length (replicate {A = ℕ} n 0) ≡ n = length-replicate n 0 in omega arith)) (cases_lt i n)

pub padded_read : (r : List ℕ) (n k : ℕ) → get_or (r ++ replicate n 0) k 0 ≡ get_or r k 0
padded_read r n k =
    ⊎_elim
    (λ (l : k < length r). get_or_append_left r (replicate n 0) 0 k l)
    (λ (l : length r ≤ k). get_or-append_right r (replicate n 0) (length r) k 0 refl l ∙ zeros_read n (k - length r) ∙ sym (get_or_past r k 0 l))
    (cases_lt k (length r))

held_read : (places r : List ℕ) (k : ℕ) → Holds places r → get_or places k 0 ≡ get_or r k 0
held_read places r k h = ap (λ (x : List ℕ). get_or x k 0) h ∙ padded_read r (length places - length r) k

module _ (roads : Roads) (from to : ℕ) (book : List ℕ) (n : ℕ) (legible : Legible roads from to book n) (i : ℕ) (h : i < n) where
  pub route_simple : Simple roads from to (route book i)
  route_simple =
      let l = legible i h in
      let P : List ℕ → Type 0 = λ r. Simple roads from to r in
      subst P (sym (route_held roads from to book i l.0 l.1 l.2)) l.1

  pub route_holds : Holds (place book i) (route book i)
  route_holds =
      let l = legible i h in
      let P : List ℕ → Type 0 = λ r. Holds (place book i) r in
      subst P (sym (route_held roads from to book i l.0 l.1 l.2)) l.2

  pub route_read : (k : ℕ) → get_or (place book i) k 0 ≡ get_or (route book i) k 0
  route_read k = held_read (place book i) (route book i) k route_holds

-- each of the listed routes is what its places hold up to the first zero
pub legible : (routes : ListedRoutes) → Legible (lent routes.listing.trip.roads) routes.listing.trip.from routes.listing.trip.to routes.listing.book.now routes.listing.listed
legible routes i h =
    let listing = routes.listing in
    let roads = lent listing.trip.roads in
    let from = listing.trip.from in
    let to = listing.trip.to in
    let book = listing.book.now in
    let n = listing.listed in
    let test : route_test roads from to (route book i) ≡ true =
    ∥∥₁_elim routes.legible (hlevel props) (λ all. simple_passes roads to from (route book i) (route_simple roads from to book n all i h)) in
    let holds : Holds (place book i) (route book i) = ∥∥₁_elim routes.legible (hlevel props) (λ all. route_holds roads from to book n all i h) in
    (route book i, test_simple roads to from (route book i) test, holds)

pub listed_simple : (routes : ListedRoutes) (i : ℕ) → i < routes.listing.listed
    → Simple (lent routes.listing.trip.roads) routes.listing.trip.from routes.listing.trip.to (route routes.listing.book.now i)
listed_simple routes i h =
    let trip = routes.listing.trip in
    route_simple (lent trip.roads) trip.from trip.to routes.listing.book.now routes.listing.listed (legible routes) i h

pub listed_links : (routes : ListedRoutes) (i : ℕ) → i < routes.listing.listed → Links (route routes.listing.book.now i)
listed_links routes i h =
    let trip = routes.listing.trip in
    simple_links (lent trip.roads) trip.from trip.to (route routes.listing.book.now i) (listed_simple routes i h)

pub route_short : (book : List ℕ) (i : ℕ) → length (route book i) ≤ 1024
unfolding route
route_short book i =
    let places = place book i in
    omega (arith, length-take (position_or_len is_zero places) places, length-take 1024 (drop (1024 * i) book))

-- a simple route is unlisted where it is none of the listed ones
pub unlisted_differs : (roads : Roads) (from to : ℕ) (book : List ℕ) (n : ℕ) → Legible roads from to book n → (w : List ℕ)
    → Unlisted roads from to book n w → (i : ℕ) → i < n → route book i ≡ w → ⊥
unlisted_differs roads from to book n legible w u i h e =
    u.1 i h (let P : List ℕ → Type 0 = λ r. Holds (place book i) r in subst P e (route_holds roads from to book n legible i h))

pub differs_unlisted : (roads : Roads) (from to : ℕ) (book : List ℕ) (n : ℕ) (w : List ℕ)
    → Simple roads from to w → ((i : ℕ) → i < n → route book i ≡ w → ⊥) → Unlisted roads from to book n w
differs_unlisted roads from to book n w s d = (s, λ i h held. d i h (route_held roads from to book i w s held))

pub front_begins : (roads : Roads) (from to : ℕ) (r : List ℕ) (k : ℕ) → Simple roads from to r → Begins roads from (take k r)
front_begins roads from to r k s =
    simple_begins roads from to (take k r) (drop k r) (let P : List ℕ → Type 0 = λ x. Simple roads from to x in subst P (sym (take-append-drop k r)) s)

-- the links that are carried along a route are its links
pub carried_simple : (routes : ListedRoutes) (i : ℕ) → i < routes.listing.listed → (r : List ℕ) → r ≡ route routes.listing.book.now i
    → Simple (lent routes.listing.trip.roads) routes.listing.trip.from routes.listing.trip.to r
carried_simple routes i h r e =
    let trip = routes.listing.trip in
    let P : List ℕ → Type 0 = λ x. Simple (lent trip.roads) trip.from trip.to x in subst P (sym e) (listed_simple routes i h)

pub carried_short : (book : List ℕ) (i : ℕ) (r : List ℕ) → r ≡ route book i → length r ≤ 1024
carried_short book i r e = omega (arith, ap length e, route_short book i)
