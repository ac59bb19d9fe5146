-- What next and trial answer, and what they leave, for every input. A prime marks what a call leaves: s is the state before it
-- and s' after it, and so for the lent book. Of the lent table they heed how many costs it has.
--     next_rows s book costs            the refusals of next above 16
--     Next m s book costs answer s' book'
--     trial_rows s link costs           the refusals of trial above 16
--     Trial m s link costs answer
--     TableAfter rank m answer table table'   what a next or a trial leaves in the lent table
use Rattle.std.specs.Prelude.{◌≡◌, ℕ, ◌<◌, ◌≤◌, Bool, true, false, ◌⊎◌, List, [], ◌∷◌, length, ◌==◌}
use Rattle.network.specs.Plan.{Laid}
use Rattle.network.specs.Shared.{shared}
use Rattle.measure.specs.Ranks.{Ranks}
use Rattle.measure.specs.Cost.{cost}
use Rattle.routing.specs.Route.{Avoiding, Least}
use Rattle.routing.specs.Book as books
use Rattle.routing.specs.Book.{Cheapest, Cleared}
use Rattle.navigator.specs.declared.question.Question.TheVariants.{Shut}
use Rattle.navigator.specs.Questions.{origin, destination, listed, one_more}
use Rattle.navigator.specs.State.{State}
use Rattle.navigator.specs.Checks.{Row, row, Checked}
use Rattle.navigator.specs.Answers.{Answer, refused, done, least, route}
use Rattle.navigator.specs.Listing.{with_route, route_at}

-- each listed place of the book holds a simple route of the question
abbrev pub Legible : State → List ℕ → Type 0
Legible s book = books.Legible s.roads (origin s.question) (destination s.question) book (listed s.question)

-- a simple route of the question that no listed place holds
abbrev pub Unlisted : State → List ℕ → List ℕ → Type 0
Unlisted s book r = books.Unlisted s.roads (origin s.question) (destination s.question) book (listed s.question) r

-- a simple route of the question without the link
abbrev pub Without : State → ℕ → List ℕ → Type 0
Without s link r = Avoiding s.roads (origin s.question) (destination s.question) link r

abbrev pub next_rows : State → (book : List ℕ) (costs : ℕ) → List Row
next_rows s book costs =
    row 12 (s.question ≡ Shut)
    ∷ row 13 ((length book < 16384) ⊎ (costs < 2048))
    ∷ row 14 (16 ≤ listed s.question)
    ∷ row 15 (Legible s book → ⊥)
    ∷ []

-- a cheapest unlisted route goes to the first place that is not listed
pub record HandsOut (m : Ranks) (s : State) (book : List ℕ) (answer : Answer) (s' : State) (book' : List ℕ) : Type 0 where
  pub r : List ℕ
  pub fits : length r ≤ 1024
  pub cheapest : Cheapest m s.roads.plan (Unlisted s book) r
  pub answers : answer ≡ route (cost m s.roads.plan r) (length r) (shared r (route_at book' 0))
  pub lists : s' ≡ record { roads = s.roads; question = one_more s.question }
  pub writes : book' ≡ with_route book (listed s.question) r

pub record NoneLeft (s : State) (book : List ℕ) (answer : Answer) (s' : State) (book' : List ℕ) : Type 0 where
  pub none : (r : List ℕ) → Unlisted s book r → ⊥
  pub answers : answer ≡ refused 16
  pub state_stays : s' ≡ s
  pub book_stays : book' ≡ book

abbrev pub Next : Ranks → State → (book : List ℕ) (costs : ℕ) → Answer → State → (book' : List ℕ) → Type 0
Next m s book costs answer s' book' =
    Checked (next_rows s book costs)
    (λ n. (answer ≡ refused n) × (s' ≡ s) × (book' ≡ book))
    (NoneLeft s book answer s' book' ⊎ HandsOut m s book answer s' book')

abbrev pub trial_rows : State → (link costs : ℕ) → List Row
trial_rows s link costs =
    row 12 (s.question ≡ Shut) ∷ row 13 (costs < 2048) ∷ row 6 (Laid s.roads.plan.links link → ⊥) ∷ []

abbrev pub Trial : Ranks → State → (link costs : ℕ) → Answer → Type 0
Trial m s link costs answer =
    Checked (trial_rows s link costs)
    (λ n. answer ≡ refused n)
    (((answer ≡ refused 16) × ((r : List ℕ) → Without s link r → ⊥))
    ⊎ ((n : ℕ) × Least m s.roads (Without s link) n × (answer ≡ least n)))

-- the call got past its rows above 16
abbrev pub worked : Answer → Bool
worked (refused number) = number == 16
worked done = true
worked (least rank) = true
worked (route rank links shared) = true

-- a call that searched clears the table, and another leaves it
pub record TableAfter {C : Type 0} (rank : C → ℕ) (m : Ranks) (answer : Answer) (table table' : List C) : Type 0 where
  pub searched : worked answer ≡ true → Cleared rank m table table'
  pub refused_before : worked answer ≡ false → table' ≡ table
