-- Which routes the search has looked at, beginning by beginning. Assumes nothing.
use Rattle.std.proofs.Common.{◌≡◌, ℕ, ◌+◌, ◌<◌, ◌≤◌, List, length, get_or, Option, ap, subst, inl, inr, ⊎_elim, arith}
use Rattle.std.proofs.lemmas.Bool.{cases_lt, cases_eq}
use Rattle.measure.specs.Ranks.{Ranks}
use Rattle.routing.specs.declared.found.Found.{Found}
use Rattle.routing.specs.Book.{route, Unlisted, Finds}
use Rattle.routing.specs.declared.listing.Listing.{Listing}
use Rattle.unlisted.specs.Leaving.{Question, agree, LeftAt, Left, LeftLate}
use Rattle.unlisted.specs.declared.legible.ListedRoutes.{ListedRoutes}
use Rattle.unlisted.specs.Listed.{question}
use Rattle.unlisted.specs.Along.{Fronts, NewFrom}
use Rattle.unlisted.specs.Best.{Either, Improves}
use Rattle.unlisted.proofs.Agreeing.{agree_within}
use Rattle.unlisted.proofs.Leaving.{unlisted_leaves, leaves_unlisted, leaves_either}
use Rattle.unlisted.proofs.Improving.{improves_finds, finds_as}
use Rattle.unlisted.proofs.Books.{legible, route_short, listed_links, simple_links, unlisted_differs, differs_unlisted}

module _ (q : Question) (j : ℕ) where
  -- before the first beginning along a route, which is the route itself
  pub late_none : (k : ℕ) → length (q.routes j) < k → (w : List ℕ) → LeftLate q j k w → Left q j w
  late_none k h w (inl l) = l
  late_none k h w (inr l) = absurd (omega (arith, l.1, l.2.1.0, agree_within (q.routes j) w))

  -- one link fewer
  pub late_more : (k n : ℕ) → k + 1 ≡ n → (w : List ℕ) → Either (LeftLate q j n) (LeftAt q (q.routes j) k) w → LeftLate q j k w
  late_more k n e w (inl (inl l)) = inl l
  late_more k n e w (inl (inr l)) = inr (l.0, omega (arith, l.1), l.2)
  late_more k n e w (inr l) = inr (k, omega arith, l)

  pub late_less : (k n : ℕ) → k + 1 ≡ n → (w : List ℕ) → LeftLate q j k w → Either (LeftLate q j n) (LeftAt q (q.routes j) k) w
  late_less k n e w (inl l) = inl (inl l)
  late_less k n e w (inr l) =
      ⊎_elim
      (λ (s : l.0 ≡ k). inr (let P : ℕ → Type 0 = λ x. LeftAt q (q.routes j) x w in subst P s l.2))
      (λ (ne : l.0 ≡ k → ⊥). inl (inr (l.0, omega (arith, l.1), l.2)))
      (cases_eq l.0 k)

  -- after the last beginning, below which earlier routes have the same ones
  pub late_all : (k : ℕ) (w : List ℕ) → LeftLate q j k w → Left q (j + 1) w
  late_all k w (inl l) = (l.0, l.1, omega (arith, l.2), l.3)
  late_all k w (inr l) = (j, l.0, omega arith, l.2)

  pub all_late : (r : List ℕ) (fronts : List ℕ) (low k : ℕ) → r ≡ q.routes j → j < q.listed → Fronts q r fronts → NewFrom fronts j low → k ≤ low → (w : List ℕ) → Left q (j + 1) w → LeftLate q j k w
  all_late r fronts low k is inside f new h w l =
      ⊎_elim
      (λ (e : l.0 ≡ j). let at : LeftAt q (q.routes j) l.1 w = let P : ℕ → Type 0 = λ x. LeftAt q (q.routes x) l.1 w in subst P e l.3 in
      ⊎_elim
      (λ (s : l.1 < k). let one = new.shared l.1 (omega arith) in
      let i = one.0 in
      let front : l.1 ≤ agree (q.routes i) (q.routes j) =
      omega (arith, one.2, f.each i (omega (arith, one.1)), ap (agree (q.routes i)) is) in
      inl (i, l.1, one.1, (at.0, leaves_either q (q.routes j) (q.routes i) w l.1 front at.1)))
      (λ (s : k ≤ l.1). inr (l.1, s, at))
      (cases_lt l.1 k))
      (λ (ne : l.0 ≡ j → ⊥). inl (l.0, l.1, omega (arith, l.2), l.3))
      (cases_eq l.0 j)

-- the best route so far, in the same steps
module _ {C : Type 0} (rank : C → ℕ) (m : Ranks) (q : Question) (j : ℕ) (r : List ℕ) (is : r ≡ q.routes j) where
  pub finds_outset : (line : List ℕ) (best : Option (Found C)) → Finds rank m q.roads (Left q j) line best → Finds rank m q.roads (LeftLate q j (length r + 1)) line best
  finds_outset line best f =
      finds_as rank m q.roads (Left q j) (LeftLate q j (length r + 1)) (λ w l. inl l) (late_none q j (length r + 1) (omega (arith, ap length is))) line best f

  pub finds_step : (k n : ℕ) → k + 1 ≡ n → (best best' : Option (Found C)) (line line' : List ℕ) → Finds rank m q.roads (LeftLate q j n) line best
      → Improves rank m q.roads (LeftAt q r k) best line best' line' → Finds rank m q.roads (LeftLate q j k) line' best'
  finds_step k n e best best' line line' f i =
      let at : Improves rank m q.roads (LeftAt q (q.routes j) k) best line best' line' =
      let P : List ℕ → Type 0 = λ x. Improves rank m q.roads (LeftAt q x k) best line best' line' in subst P is i in
      finds_as rank m q.roads (Either (LeftLate q j n) (LeftAt q (q.routes j) k)) (LeftLate q j k) (late_more q j k n e) (late_less q j k n e) line' best'
      (improves_finds rank m q.roads (LeftLate q j n) (LeftAt q (q.routes j) k) best best' line line' f at)

  pub finds_end : (fronts : List ℕ) (low k : ℕ) → j < q.listed → Fronts q r fronts → NewFrom fronts j low → k ≤ low → (line : List ℕ) (best : Option (Found C))
      → Finds rank m q.roads (LeftLate q j k) line best → Finds rank m q.roads (Left q (j + 1)) line best
  finds_end fronts low k inside fs new h line best f =
      finds_as rank m q.roads (LeftLate q j k) (Left q (j + 1)) (late_all q j k) (all_late q j r fronts low k is inside fs new h) line best f

-- a front that two listed routes have in common is short
pub fronts_short : (listing : Listing) (r fronts : List ℕ) → Fronts (question listing) r fronts → (i : ℕ) → i < listing.listed → get_or fronts i 0 ≤ 1024
fronts_short listing r fronts f i h =
    omega (arith, f.each i h, agree_within (route listing.book.now i) r, route_short listing.book.now i)

-- along all listed routes, if there is one, the routes that leave them are the unlisted ones
pub left_unlisted : (listing : Listing) (w : List ℕ)
    → Left (question listing) listing.listed w → Unlisted (question listing).roads (question listing).from (question listing).to listing.book.now listing.listed w
left_unlisted listing w l =
    let q = question listing in
    differs_unlisted q.roads q.from q.to listing.book.now listing.listed w l.3.0 (leaves_unlisted q (q.routes l.0) w l.1 l.3.1)

pub unlisted_left : (routes : ListedRoutes) → 0 < routes.listing.listed → (w : List ℕ)
    → Unlisted (question routes.listing).roads (question routes.listing).from (question routes.listing).to routes.listing.book.now routes.listing.listed w
    → Left (question routes.listing) routes.listing.listed w
unlisted_left routes some w u =
    let q = question routes.listing in
    let l = unlisted_leaves q w some (listed_links routes) (simple_links q.roads q.from q.to w u.0) (unlisted_differs q.roads q.from q.to routes.listing.book.now q.listed (legible routes) w u) in
    (l.0, l.1, l.2, (u.0, l.3))
