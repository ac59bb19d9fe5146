-- What the places of a book hold. Assumes nothing.
--     Counted r           none of the links of r is 0
--     Stand book routes   the routes, the latest first, stand in the book's places from 0 on
use Rattle.std.proofs.Common.{◌≡◌, ℕ, zero, suc, ◌+◌, ◌-◌, ◌*◌, ◌<◌, ◌≤◌, ◌⊎◌, List, [], ◌∷◌, ◌++◌, length, take, drop, replicate, sym, refl, ap, ◌∙◌, subst, inl, inr, arith}
use Rattle.std.specs.List.{ContainsAt as Has, AllByRecursion}
use Rattle.std.proofs.lemmas.List.{length-append, length-replicate, length-take-le, drop-take, take-take, take_at, drop_at}
use Rattle.std.proofs.ByRecursion.{All-weaker}
use Rattle.std.proofs.lemmas.Bool.{cases_eq}
use Rattle.network.specs.Roads.{Roads, Passable}
use Rattle.routing.specs.Route.{Simple}
use Rattle.routing.specs.Places.{Holds}
use Rattle.routing.specs.Book.{place}
use Rattle.routing.proofs.Members.{has_first, has_later, has_none, has_cases}
use Rattle.navigator.specs.Listing.{filled, with_route, before_zero, route_at}

abbrev pub Counted : List ℕ → Type 0
Counted r = AllByRecursion (λ a. 1 ≤ a) r

pub simple_counted : (roads : Roads) (from to : ℕ) (r : List ℕ) → Simple roads from to r → Counted r
simple_counted roads from to [] h = absurd h
simple_counted roads from to (a ∷ r) h = All-weaker (Passable roads) (λ a. 1 ≤ a) (λ a p. p.0.0) (a ∷ r) h.3

before_zeros : (n : ℕ) → before_zero (replicate n 0) ≡ []
before_zeros zero = refl
before_zeros (suc n) = refl

pub without_zeros : (r : List ℕ) (n : ℕ) → Counted r → before_zero (r ++ replicate n 0) ≡ r
without_zeros [] n c = before_zeros n
without_zeros (zero ∷ r) n c = absurd (omega arith)
without_zeros (suc a ∷ r) n c = ap (λ (l : List ℕ). suc a ∷ l) (without_zeros r n c.1)

pub read_back : (book : List ℕ) (i : ℕ) (r : List ℕ) → Holds (place book i) r → Counted r → route_at book i ≡ r
read_back book i r h c = ap before_zero h ∙ without_zeros r (length (place book i) - length r) c

one_route : (book : List ℕ) (i : ℕ) (r s : List ℕ) → Holds (place book i) r → Counted r → Holds (place book i) s → Counted s → r ≡ s
one_route book i r s h c k d = sym (read_back book i r h c) ∙ read_back book i s k d

pub length_filled : (r : List ℕ) → length r ≤ 1024 → length (filled r) ≡ 1024
length_filled r fits =
    length-append r (replicate (1024 - length r) 0)
    ∙ let e : length r + length (replicate (1024 - length r) 0) ≡ 1024 = omega (arith, length-replicate {A = ℕ} (1024 - length r) 0) in e

-- a route that was written, and what stands before it
module _ (book : List ℕ) (i : ℕ) (r : List ℕ) (fits : length r ≤ 1024) (room : 1024 * i ≤ length book) where
  front : length (take (1024 * i) book) ≡ 1024 * i
  front = length-take-le (1024 * i) book room

  pub place_written : place (with_route book i r) i ≡ filled r
  place_written =
      ap (take 1024) (drop_at (take (1024 * i) book) (filled r ++ drop (1024 * (i + 1)) book) (1024 * i) front)
      ∙ take_at (filled r) (drop (1024 * (i + 1)) book) 1024 (length_filled r fits)

  pub written_holds : Holds (place (with_route book i r) i) r
  written_holds =
      place_written
      ∙ ap (λ (n : ℕ). r ++ replicate (n - length r) 0) (sym (length_filled r fits) ∙ ap length (sym place_written))

  pub written_before : take (1024 * i) (with_route book i r) ≡ take (1024 * i) book
  written_before = take_at (take (1024 * i) book) (filled r ++ drop (1024 * (i + 1)) book) (1024 * i) front

in_front : (book : List ℕ) (i k : ℕ) → i < k → take 1024 (drop (1024 * i) (take (1024 * k) book)) ≡ place book i
in_front book i k l =
    let e : 1024 * k ≡ 1024 * i + (1024 * k - 1024 * i) = omega arith in
    ap (λ (n : ℕ). take 1024 (drop (1024 * i) (take n book))) e
    ∙ ap (take 1024) (drop-take (1024 * i) (1024 * k - 1024 * i) book)
    ∙ take-take 1024 (1024 * k - 1024 * i) (drop (1024 * i) book) (omega arith)

pub place_stays : (book book' : List ℕ) (i k : ℕ) → i < k → take (1024 * k) book' ≡ take (1024 * k) book → place book' i ≡ place book i
place_stays book book' i k l e =
    sym (in_front book' i k l) ∙ ap (λ (f : List ℕ). take 1024 (drop (1024 * i) f)) e ∙ in_front book i k l

abbrev pub Stand : List ℕ → List (List ℕ) → Type 0
Stand book [] = Unit {0}
Stand book (r ∷ before) = Holds (place book (length before)) r × Stand book before

pub stand_still : (book book' : List ℕ) (k : ℕ) (rs : List (List ℕ)) → length rs ≤ k → take (1024 * k) book' ≡ take (1024 * k) book
    → Stand book rs → Stand book' rs
stand_still book book' k [] l e st = tt
stand_still book book' k (r ∷ rs) l e st = (
  subst (λ (p : List ℕ). Holds p r) (sym (place_stays book book' (length rs) k l e)) st.0,
  stand_still book book' k rs (omega arith) e st.1,
)

-- a route that was handed out stands at some place, and what stands at a place was handed out
pub place_of : (book : List ℕ) (rs : List (List ℕ)) (r : List ℕ) → Stand book rs → Has rs r
    → (i : ℕ) × (i < length rs) × Holds (place book i) r
place_of book [] r st h = absurd (has_none r h)
place_of book (x ∷ rs) r st h = by_first (has_cases rs x r h) (place_of book rs r st.1)
  where
    by_first : (x ≡ r) ⊎ Has rs r → (Has rs r → (i : ℕ) × (i < length rs) × Holds (place book i) r)
        → (i : ℕ) × (i < suc (length rs)) × Holds (place book i) r
    by_first (inl e) ih = (length rs, omega arith, subst (Holds (place book (length rs))) e st.0)
    by_first (inr l) ih = let p = ih l in (p.0, omega (arith, p.1), p.2)

pub handed_at : (book : List ℕ) (rs : List (List ℕ)) (r : List ℕ) (i : ℕ) → Stand book rs → AllByRecursion Counted rs → Counted r → i < length rs
    → Holds (place book i) r → Has rs r
handed_at book [] r i st cs c l h = absurd (omega arith)
handed_at book (x ∷ rs) r i st cs c l h = by_place (cases_eq i (length rs)) (handed_at book rs r i st.1 cs.1 c)
  where
    by_place : (i ≡ length rs) ⊎ (i ≡ length rs → ⊥) → (i < length rs → Holds (place book i) r → Has rs r) → Has (x ∷ rs) r
    by_place (inl e) ih =
        let here : Holds (place book (length rs)) r = subst (λ (k : ℕ). Holds (place book k) r) e h in
        subst (Has (x ∷ rs)) (one_route book (length rs) x r st.0 cs.0 here c) (has_first rs x)
    by_place (inr n) ih = has_later rs x r (ih (omega (arith, n)) h)
