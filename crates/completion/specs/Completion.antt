-- Completions of a beginning.
--     Begins roads from p           p goes on from the node as a simple route does; it may be empty
--     end_of roads from p           the node at which p ends, or from which it sets out
--     Completes roads from to p forbidden ws   p and then the links ws are a simple route, and the first of ws is none of the forbidden
--     Completed ...                 the answer to the quest for a completion, and the line after it
--     outset, Bans                  the setting of the quest
use Rattle.std.specs.Prelude.{◌≡◌, ℕ, ◌≤◌, Bool, true, false, ◌||◌, List, [], ◌∷◌, ◌++◌, length, take, Option, MatchOption}
use Rattle.std.specs.Option.{option_map}
use Rattle.std.specs.List.{AllByRecursion}
use Rattle.network.specs.Plan.{link, Laid}
use Rattle.network.specs.Roads.{Roads, Passable, closed}
use Rattle.network.specs.Shared.{Once, stands_in}
use Rattle.measure.specs.Ranks.{Ranks}
use Rattle.measure.specs.Cost.{cost}
use Rattle.routing.specs.declared.found.Found.{Found}
use Rattle.routing.specs.Route.{Joined, last_of, Simple}
use Rattle.routing.specs.Places.{Holds}
use Rattle.completion.specs.Onward.{Setting, has, too_dear}

abbrev pub Begins : Roads → (from : ℕ) → List ℕ → Type 0
Begins roads from [] = Unit {0}
Begins roads from (a ∷ bs) =
    ((link roads.plan.links a).start ≡ from) × Joined roads a bs × AllByRecursion (Passable roads) (a ∷ bs) × Once (a ∷ bs)

abbrev pub end_of : Roads → (from : ℕ) → List ℕ → ℕ
end_of roads from [] = from
end_of roads from (a ∷ bs) = (link roads.plan.links (last_of a bs)).end

abbrev pub Completes : Roads → (from to : ℕ) → (p : List ℕ) → (forbidden : List Bool) → List ℕ → Type 0
Completes roads from to p forbidden [] = ⊥
Completes roads from to p forbidden (b ∷ bs) = Simple roads from to (p ++ (b ∷ bs)) × (has forbidden b ≡ false)

-- the line holds the beginning with a cheapest completion, below the bound, and then zeros
pub record CheapestCompletion (m : Ranks) (roads : Roads) (from to : ℕ) (p : List ℕ) (forbidden : List Bool) (bound : Option ℕ) (line : List ℕ) (rank count : ℕ) : Type 0 where
  pub links : List ℕ
  pub completes : Completes roads from to p forbidden links
  pub written : take count line ≡ p ++ links
  pub holds : Holds line (take count line)
  pub within : count ≤ length line
  pub priced : rank ≡ cost m roads.plan (p ++ links)
  pub below : too_dear bound rank ≡ false
  pub least : (ws : List ℕ) → Completes roads from to p forbidden ws → rank ≤ cost m roads.plan (p ++ ws)

-- a cheapest completion, or that each costs the bound or more and the line is as it was
abbrev pub Completed : {C : Type 0} → (C → ℕ) → Ranks → Roads → (from to : ℕ) → (p : List ℕ) → (forbidden : List Bool) → Option C → (line : List ℕ) → Option (Found C) → (line' : List ℕ) → Type 0
Completed rank m roads from to p forbidden bound line answer line' =
    MatchOption answer
    (((ws : List ℕ) → Completes roads from to p forbidden ws → too_dear (option_map rank bound) (cost m roads.plan (p ++ ws)) ≡ true) × (line' ≡ line))
    (λ found. CheapestCompletion m roads from to p forbidden (option_map rank bound) line' (rank found.cost) found.count)

-- where the ways go on that complete a beginning
abbrev pub outset : Ranks → Roads → (from to : ℕ) → (p : List ℕ) → (banned forbidden : List Bool) → Option ℕ → Setting
outset m roads from to p banned forbidden bound = record {
  plan = roads.plan;
  banned = banned;
  forbidden = forbidden;
  node = end_of roads from p;
  after = last_of 0 p;
  cost = cost m roads.plan p;
  to = to;
  bound = bound;
}

-- the banned links are the closed ones and those of the beginning
abbrev pub Bans : Roads → List ℕ → List Bool → Type 0
Bans roads p banned = (n : ℕ) → Laid roads.plan.links n → has banned n ≡ (closed roads n || stands_in n p)
