-- Rows of refusals that were checked. Assumes nothing.
use Rattle.std.proofs.Common.{◌≡◌, ℕ, ◌<◌, ◌≤◌, ◌⊎◌, List, [], ◌∷◌, length, Some, None, Option, sym, refl, subst, inl, inr, arith}
use Rattle.network.specs.Roads.{Roads}
use Rattle.routing.specs.Book as books
use Rattle.navigator.specs.declared.question.Question.{Question}
use Rattle.navigator.specs.declared.question.Question.TheVariants.{Shut, Open}
use Rattle.navigator.specs.Questions.{listed}
use Rattle.navigator.specs.Checks.{Row, Checked, Passed}
use Rattle.navigator.specs.Searches.{next_rows}

-- refused by a row, or past them all
pub by_rows : (rows : List Row) {R : ℕ → Type 0} {T : Type 0} (P : Type 0) → ((n : ℕ) → R n → P) → (Passed rows → T → P) → Checked rows R T → P
by_rows [] P f g c = g tt c
by_rows (row ∷ rows) P f g (inl c) = f row.told c.1
by_rows (row ∷ rows) P f g (inr c) = by_rows rows P f (λ p t. g (c.0, p) t) c.1

pub past_rows : (rows : List Row) (R : ℕ → Type 0) (T : Type 0) → Passed rows → Checked rows R T → T
past_rows [] R T p c = c
past_rows (row ∷ rows) R T p (inl c) = absurd (p.0 c.0)
past_rows (row ∷ rows) R T p (inr c) = past_rows rows R T p.1 c.1

pub all_passed : (rows : List Row) (R : ℕ → Type 0) (T : Type 0) → Passed rows → T → Checked rows R T
all_passed [] R T p t = t
all_passed (row ∷ rows) R T p t = inr (p.0, all_passed rows R T p.1 t)

-- no row refused
pub went_on : (rows : List Row) (T : Type 0) → Checked rows (λ n. ◌≡◌ {A = Option ℕ} None (Some n)) T → Passed rows × T
went_on [] T c = (tt, c)
went_on (row ∷ rows) T (inl c) = let z : ◌≡◌ {A = ℕ} 0 1 = cc in absurd (omega arith)
went_on (row ∷ rows) T (inr c) = let p = went_on rows T c.1 in ((c.0, p.0), p.1)

pub not_shut : (q : Question) (from to n : ℕ) → q ≡ Open from to n → q ≡ Shut → ⊥
not_shut q from to n is shut = let z : ◌≡◌ {A = ℕ} 0 1 = cc in omega arith

-- the last row of next
module _ (roads : Roads) (book : List ℕ) (costs from to n : ℕ) (R : ℕ → Type 0) (T : Type 0)
    (wide : 16384 ≤ length book) (broad : 2048 ≤ costs) (room : n < 16) where
  abbrev Here : Question → Type 0
  Here q = Checked (next_rows (record { roads = roads; question = q }) book costs) R T

  before_legible : ((books.Legible roads from to book n → ⊥) × R 15) ⊎ (((books.Legible roads from to book n → ⊥) → ⊥) × T) → Here (Open from to n)
  before_legible last = inr (
    λ is. not_shut (Open from to n) from to n refl is,
    inr (
      λ short. elim short [ inl l ↦ omega arith | inr l ↦ omega arith ],
      inr (λ full. omega arith, last),
    ),
  )

  pub spoilt : (q : Question) → q ≡ Open from to n → (books.Legible roads from to book n → ⊥) → R 15 → Here q
  spoilt q is not r = subst Here (sym is) (before_legible (inl (not, r)))

  pub legible : (q : Question) → q ≡ Open from to n → books.Legible roads from to book n → T → Here q
  legible q is all t = subst Here (sym is) (before_legible (inr (λ not. not all, t)))

-- what the rows of next leave of an open question's number and of what is lent
at_least : (a b : ℕ) → (a < b → ⊥) → b ≤ a
at_least a b n = omega (arith, n)

pub next_room : (roads : Roads) (q : Question) (book : List ℕ) (costs from to n : ℕ) → q ≡ Open from to n
    → Passed (next_rows (record { roads = roads; question = q }) book costs) → (n < 16) × (16384 ≤ length book) × (2048 ≤ costs)
next_room roads q book costs from to n is passed =
    let full : 16 ≤ n → ⊥ = subst (λ (q : Question). 16 ≤ listed q → ⊥) is passed.1.1.0 in
    (omega (arith, full), at_least (length book) 16384 (λ l. passed.1.0 (inl l)), at_least costs 2048 (λ l. passed.1.0 (inr l)))
