-- The ways out of a next. Assumes nothing.
use Rattle.std.proofs.Common.{◌≡◌, ℕ, zero, suc, ◌+◌, ◌-◌, ◌*◌, ◌≤◌, true, ◌⊎◌, List, ◌++◌, length, take, drop, replicate, sym, refl, ap, ◌∙◌, subst, inl, inr, arith}
use Rattle.std.proofs.lemmas.List.{length-take-le}
use Rattle.std.proofs.lemmas.Bool.{false≢true}
use Rattle.network.specs.Roads.{Roads}
use Rattle.network.specs.Marks.{both, marks_of}
use Rattle.network.specs.Shared.{shared}
use Rattle.measure.specs.Ranks.{Ranks}
use Rattle.measure.specs.Cost.{cost}
use Rattle.routing.specs.Route.{Simple}
use Rattle.routing.specs.Places.{Holds}
use Rattle.routing.specs.Book as books
use Rattle.routing.specs.Book.{place, FoundIn, Cleared}
use Rattle.navigator.specs.declared.question.Question.{Question}
use Rattle.navigator.specs.declared.question.Question.TheVariants.{Open}
use Rattle.navigator.specs.State.{State}
use Rattle.navigator.specs.Checks.{Passed}
use Rattle.navigator.specs.Answers.{Answer, refused, route}
use Rattle.navigator.specs.Listing.{filled, with_route, route_at}
use Rattle.navigator.specs.Searches.{next_rows, Next, HandsOut, NoneLeft, TableAfter, worked}
use Rattle.navigator.proofs.Rows.{all_passed}
use Rattle.navigator.proofs.Places.{simple_counted, written_holds, written_before, place_stays}
use Rattle.navigator.proofs.Shares.{shared_with_place, simple_shared}

pub table_cleared : {C : Type 0} (rank : C → ℕ) (m : Ranks) (answer : Answer) (table table' : List C) → worked answer ≡ true → Cleared rank m table table'
    → TableAfter rank m answer table table'
table_cleared rank m answer table table' e c = record { searched = λ _. c; refused_before = λ f. absurd (false≢true (sym f ∙ e)) }

module _ (m : Ranks) (roads : Roads) (from to n : ℕ) (book : List ℕ) (costs : ℕ) where
  abbrev at : Question → State
  at q = record { roads = roads; question = q }

  abbrev Goes_on : Answer → State → List ℕ → Question → Type 0
  Goes_on answer s' book' q = Passed (next_rows (at q) book costs) → Next m (at q) book costs answer s' book'

  -- past the rows, by what the open question asks
  past : (answer : Answer) (s' : State) (book' : List ℕ)
      → NoneLeft (at (Open from to n)) book answer s' book' ⊎ HandsOut m (at (Open from to n)) book answer s' book'
      → Goes_on answer s' book' (Open from to n)
  past answer s' book' outcome passed =
      all_passed (next_rows (at (Open from to n)) book costs)
      (λ k. (answer ≡ refused k) × (s' ≡ at (Open from to n)) × (book' ≡ book)) _ passed outcome

  pub next_none_left : (q : Question) → q ≡ Open from to n → ((r : List ℕ) → books.Unlisted roads from to book n r → ⊥)
      → Passed (next_rows (at q) book costs) → Next m (at q) book costs (refused 16) (at q) book
  next_none_left q is none =
      subst (λ (q : Question). Goes_on (refused 16) (at q) book q) (sym is)
      (past (refused 16) (at (Open from to n)) book (inl (record { none = none; answers = refl; state_stays = refl; book_stays = refl })))

  module _ (line : List ℕ) (rank count : ℕ) (long : length line ≡ 1024)
      (found : FoundIn m roads (books.Unlisted roads from to book n) line rank count) where
    abbrev r : List ℕ
    r = take count line

    counted : length r ≡ count
    counted = length-take-le count line found.within

    fits : length r ≤ 1024
    fits = omega (arith, counted, found.within)

    line_filled : line ≡ filled r
    line_filled = found.holds ∙ ap (λ (k : ℕ). r ++ replicate (k - length r) 0) long

    simple : Simple roads from to r
    simple = found.cheapest.0.0

    -- what route 1's places hold after the route was listed
    first_holds : (i : ℕ) → i ≡ n → 1024 * n ≤ length book → books.Legible roads from to book n
        → (f : List ℕ) × Simple roads from to f × Holds (place (with_route book n r) 0) f
    first_holds zero e room legible =
        (r, simple, subst (λ (k : ℕ). Holds (place (with_route book n r) k) r) (sym e) (written_holds book n r fits room))
    first_holds (suc i) e room legible =
        let f = legible 0 (omega arith) in (
          f.0,
          f.1,
          subst (λ (p : List ℕ). Holds p f.0) (sym (place_stays book (with_route book n r) 0 n (omega arith) (written_before book n r fits room))) f.2,
        )

    pub next_hands_out : (q : Question) → q ≡ Open from to n → (book' : List ℕ) (common : ℕ)
        → book' ≡ take (1024 * n) book ++ (line ++ drop (1024 * (n + 1)) book)
        → common ≡ both (marks_of r) (marks_of (take 1024 book'))
        → length roads.plan.links ≤ 1024 → 1024 * n ≤ length book → books.Legible roads from to book n
        → Passed (next_rows (at q) book costs) → Next m (at q) book costs (route rank count common) (at (Open from to (n + 1))) book'
    next_hands_out q is book' common writes shares few room legible =
        let written : book' ≡ with_route book n r =
        writes ∙ ap (λ (l : List ℕ). take (1024 * n) book ++ (l ++ drop (1024 * (n + 1)) book)) line_filled in
        let first = first_holds n refl room legible in
        let here : Holds (place book' 0) first.0 = subst (λ (b : List ℕ). Holds (place b 0) first.0) (sym written) first.2 in
        let told : common ≡ shared r (route_at book' 0) =
        shares ∙ simple_shared roads from to r (take 1024 book') few simple
        ∙ shared_with_place book' r first.0 (simple_counted roads from to r simple) (simple_counted roads from to first.0 first.1) here in
        subst (Goes_on (route rank count common) (at (Open from to (n + 1))) book') (sym is)
        (past (route rank count common) (at (Open from to (n + 1))) book'
        (inr (record {
          r = r;
          fits = fits;
          cheapest = found.cheapest;
          answers = answered rank (cost m roads.plan r) count (length r) common (shared r (route_at book' 0)) found.priced (sym counted) told;
          lists = refl;
          writes = written;
        })))
      where
        answered : (a a' b b' c c' : ℕ) → a ≡ a' → b ≡ b' → c ≡ c' → route a b c ≡ route a' b' c'
        answered a a' b b' c c' e f g = cc
