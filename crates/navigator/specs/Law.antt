-- The law of the questions: cheapest first, none twice, and none left out.
--     Of q r               r is a simple route of the question, on the roads as they stood at its ask
--     CheapestFirst m q    the routes handed out are simple routes of the question, all different, none cheaper than the one before it,
--                          and none dearer than a simple route that was not handed out
--     Told q answer        refusal 16 tells that every simple route of the question was handed out
--     Law m first          all of this, of every run from the state first
use Rattle.std.specs.Prelude.{◌≡◌, ℕ, ◌≤◌, ◌↔◌, List, [], ◌∷◌, IsSomeAnd, Option, ◌≢◌}
use Rattle.std.specs.List.{ContainsAt as Has, AllByRecursion}
use Rattle.network.specs.Plan.{Plan}
use Rattle.measure.specs.Ranks.{Ranks}
use Rattle.measure.specs.Cost.{cost}
use Rattle.routing.specs.Route.{Simple}
use Rattle.navigator.specs.State.{State}
use Rattle.navigator.specs.Checks.{Passed}
use Rattle.navigator.specs.Answers.{Answer, refused}
use Rattle.navigator.specs.Searches.{next_rows}
use Rattle.navigator.specs.Runs.{Event, next, Started, ledger, questions, Follows, Run}

abbrev pub Of : Started → List ℕ → Type 0
Of q r = Simple q.roads q.from q.to r

-- of routes, the latest first: each differs from all before it, and none of those is dearer
abbrev pub InOrder : Ranks → Plan → List (List ℕ) → Type 0
InOrder m plan [] = Unit {0}
InOrder m plan (r ∷ before) = AllByRecursion (λ b. (r ≢ b) × (cost m plan b ≤ cost m plan r)) before × InOrder m plan before

pub record CheapestFirst (m : Ranks) (q : Started) : Type 0 where
  pub simple : AllByRecursion (Of q) q.handed
  pub in_order : InOrder m q.roads.plan q.handed
  pub others_dearer : (r : List ℕ) → Of q r → (Has q.handed r → ⊥)
      → AllByRecursion (λ h. cost m q.roads.plan h ≤ cost m q.roads.plan r) q.handed

abbrev pub Told : Option Started → Answer → Type 0
Told current answer = IsSomeAnd current (λ q. (answer ≡ refused 16) ↔ ((r : List ℕ) → Of q r → Has q.handed r))

pub record Law (m : Ranks) (first : State) : Type 0 where
  -- after each answer, of every question started so far
  pub cheapest_first : (past : List Event) (s : State) → Run m first past s
      → AllByRecursion (CheapestFirst m) (questions (ledger first.roads past))
  -- where a next passes its rows above 16
  pub told : (past : List Event) (s s' : State) (book : List ℕ) (costs : ℕ) (book' : List ℕ) (answer : Answer)
      → Run m first past s
      → Follows m first past s (next book costs book' answer) s'
      → Passed (next_rows s book costs)
      → Told (ledger first.roads past).current answer
