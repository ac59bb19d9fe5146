-- A question's book: 1,024 places for each listed route, its links and then zeros.
--     place book i                         the 1,024 places of the route listed as number i, counted from 0
--     route book i                         the links in those places, up to the first zero
--     Legible roads from to book n         each of the n listed places holds a simple route of the question
--     Unlisted roads from to book n r      r is a simple route of the question that none of the n listed places holds
--     Cheapest m plan P r                  of the routes that P picks, r costs the least
--     Finds rank m roads P line answer     the answer tells a cheapest of the routes that P picks, which the line holds, or that
--                                          P picks none
--     Cleared rank m before after          a table that was worked in: 2,048 costs at the start's rank, and the rest as it was
use Rattle.std.specs.Prelude.{◌≡◌, ℕ, ◌*◌, ◌<◌, ◌≤◌, List, map, length, take, drop, replicate, Option, MatchOption, ◌==◌}
use Rattle.std.specs.List.{before_first}
use Rattle.network.specs.Plan.{Plan}
use Rattle.network.specs.Roads.{Roads}
use Rattle.measure.specs.Ranks.{Ranks}
use Rattle.measure.specs.Cost.{cost}
use Rattle.routing.specs.Route.{Simple}
use Rattle.routing.specs.Places.{Holds}
use Rattle.routing.specs.declared.found.Found.{Found}

abbrev pub place : List ℕ → ℕ → List ℕ
place book i = take 1024 (drop (1024 * i) book)

unfoldable pub route : List ℕ → ℕ → List ℕ
route book i = before_first (λ place. place == 0) (place book i)

abbrev pub Legible : Roads → (from to : ℕ) → List ℕ → ℕ → Type 0
Legible roads from to book n =
    (i : ℕ) → i < n → (r : List ℕ) × Simple roads from to r × Holds (place book i) r

abbrev pub Unlisted : Roads → (from to : ℕ) → List ℕ → ℕ → List ℕ → Type 0
Unlisted roads from to book n r =
    Simple roads from to r × ((i : ℕ) → i < n → Holds (place book i) r → ⊥)

abbrev pub Cheapest : Ranks → Plan → (List ℕ → Type 0) → List ℕ → Type 0
Cheapest m plan P r = P r × ((other : List ℕ) → P other → cost m plan r ≤ cost m plan other)

-- the first `count` numbers of the line are a cheapest route, zeros come after them, and its cost is told
pub record FoundIn (m : Ranks) (roads : Roads) (P : List ℕ → Type 0) (line : List ℕ) (rank count : ℕ) : Type 0 where
  pub holds : Holds line (take count line)
  pub within : count ≤ length line
  pub cheapest : Cheapest m roads.plan P (take count line)
  pub priced : rank ≡ cost m roads.plan (take count line)

abbrev pub Finds : {C : Type 0} → (C → ℕ) → Ranks → Roads → (List ℕ → Type 0) → List ℕ → Option (Found C) → Type 0
Finds rank m roads P line answer =
    MatchOption answer ((r : List ℕ) → P r → ⊥) (λ found. FoundIn m roads P line (rank found.cost) found.count)

pub record Cleared {C : Type 0} (rank : C → ℕ) (m : Ranks) (before after : List C) : Type 0 where
  pub front : map rank (take 2048 after) ≡ replicate 2048 m.start
  pub rest : drop 2048 after ≡ drop 2048 before
