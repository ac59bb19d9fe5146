-- The worked figures, and what it is for one to stand.
--     730 by (2 ∷ 4 ∷ 3 ∷ [])   a row of a table of routes: the cost, and the links that cost it
--     1 turns_and 730           a cost under turns-first: turns, and metres
--     open_roads, closed_at     the sample map with no link closed, and with one
--     Figure                    a figure as the documents print it
--     Pairwise R xs             each element has R to each one after it
--     Stands f                  what the figure says of the definitions
--     figures                   the list of all of them
use Rattle.std.specs.Prelude.{◌≡◌, ℕ, ◌+◌, ◌-◌, ◌*◌, ◌≤◌, true, false, List, [], ◌∷◌, map, replicate, ◌≢◌, slice_set}
use Rattle.std.specs.List.{ContainsAt as Has, AllByRecursion}
use Rattle.network.specs.Plan.{Plan, empty}
use Rattle.network.specs.Roads.{Roads}
use Rattle.image.specs.Image.{encode, decode, holds}
use Rattle.measure.specs.Ranks.{Ranks}
use Rattle.measure.specs.Metres.{metres}
use Rattle.measure.specs.TurnsFirst.{turns_first}
use Rattle.measure.specs.Narrowest.{narrowest}
use Rattle.measure.specs.Cost.{cost}
use Rattle.routing.specs.Route.{Simple, Avoiding, Least}
use Rattle.network.specs.Shared.{shared}
use Rattle.worked.specs.Sample.{sample}

-- the cost that is told of a route
pub record Row : Type 0 where
  pub told : ℕ
  pub route : List ℕ

infix 70 ◌by◌
abbrev pub ◌by◌ : ℕ → List ℕ → Row
n by r = record { told = n; route = r }

infix 75 ◌turns_and◌
abbrev pub ◌turns_and◌ : (turns more : ℕ) → ℕ
turns turns_and more = turns * 4294967296 + more

abbrev pub open_roads : Roads
open_roads = record { plan = sample; marks = replicate 1024 false }

abbrev pub closed_at : ℕ → Roads
closed_at n = record { plan = sample; marks = slice_set (replicate 1024 false) (n - 1) true }

pub data Figure : Type 0 where
  image : (plan : Plan) (bytes : List ℕ) → Figure
  -- all simple routes between two nodes
  routes : (m : Ranks) (roads : Roads) (from to : ℕ) (table : List Row) → Figure
  -- how many links each route of a table shares with its first
  shared_with_first : (table : List Row) (counts : List ℕ) → Figure
  -- the least cost of the simple routes that do not have a link
  least_without : (m : Ranks) (roads : Roads) (from to gone least : ℕ) → Figure

abbrev pub Pairwise : {X : Type 0} → (X → X → Type 0) → List X → Type 0
Pairwise R [] = Unit {0}
Pairwise R (x ∷ xs) = AllByRecursion (R x) xs × Pairwise R xs

abbrev pub routes_in : List Row → List (List ℕ)
routes_in table = map (λ row. row.route) table

-- the row is a simple route with its cost
abbrev pub RowStands : Ranks → Roads → (from to : ℕ) → Row → Type 0
RowStands m roads from to row = Simple roads from to row.route × (cost m roads.plan row.route ≡ row.told)

-- in order of cost, and not the same route
abbrev pub ComesBefore : Row → Row → Type 0
ComesBefore a b = (a.told ≤ b.told) × (a.route ≢ b.route)

abbrev pub first_route : List Row → List ℕ
first_route [] = []
first_route (row ∷ table) = row.route

abbrev pub Stands : Figure → Type 0
-- the plan has the image, and the image holds the plan
Stands (image plan bytes) = (encode plan ≡ bytes) × (decode bytes ≡ holds plan)
-- each row stands, the rows are in order and different, and there is no other simple route
Stands (routes m roads from to table) =
    AllByRecursion (RowStands m roads from to) table × Pairwise ComesBefore table
    × ((r : List ℕ) → Simple roads from to r → Has (routes_in table) r)
Stands (shared_with_first table counts) = map (λ r. shared r (first_route table)) (routes_in table) ≡ counts
Stands (least_without m roads from to gone least) = Least m roads (Avoiding roads from to gone) least

abbrev empty_image : List ℕ
empty_image =
    0x4C ∷ 0x00 ∷ 0x00 ∷ 0x00 ∷ 0x00 ∷ 0x00 ∷ 0x00 ∷ 0x10
    ∷ 0x54 ∷ 0x00 ∷ 0x00 ∷ 0x00 ∷ 0x00 ∷ 0x00 ∷ 0x00 ∷ 0x10 ∷ []

abbrev sample_image : List ℕ
sample_image =
    0x4C ∷ 0x00 ∷ 0x00 ∷ 0x06 ∷ 0x00 ∷ 0x00 ∷ 0x00 ∷ 0x10
    ∷ 0x54 ∷ 0x00 ∷ 0x00 ∷ 0x04 ∷ 0x00 ∷ 0x00 ∷ 0x00 ∷ 0x46
    ∷ 0x00 ∷ 0x01 ∷ 0x00 ∷ 0x02 ∷ 0x00 ∷ 0x00 ∷ 0x01 ∷ 0x5E ∷ 0x02
    ∷ 0x00 ∷ 0x01 ∷ 0x00 ∷ 0x03 ∷ 0x00 ∷ 0x00 ∷ 0x00 ∷ 0xC8 ∷ 0x05
    ∷ 0x00 ∷ 0x02 ∷ 0x00 ∷ 0x04 ∷ 0x00 ∷ 0x00 ∷ 0x01 ∷ 0x90 ∷ 0x01
    ∷ 0x00 ∷ 0x03 ∷ 0x00 ∷ 0x02 ∷ 0x00 ∷ 0x00 ∷ 0x00 ∷ 0x64 ∷ 0x03
    ∷ 0x00 ∷ 0x03 ∷ 0x00 ∷ 0x04 ∷ 0x00 ∷ 0x00 ∷ 0x01 ∷ 0xC2 ∷ 0x04
    ∷ 0x00 ∷ 0x04 ∷ 0x00 ∷ 0x03 ∷ 0x00 ∷ 0x00 ∷ 0x00 ∷ 0x96 ∷ 0x02
    ∷ 0x00 ∷ 0x02 ∷ 0x00 ∷ 0x05 ∷ 0x52 ∷ 0x00 ∷ 0x00 ∷ 0x00 ∷ 0x78
    ∷ 0x00 ∷ 0x04 ∷ 0x00 ∷ 0x03 ∷ 0x4C ∷ 0x00 ∷ 0x00 ∷ 0x00 ∷ 0x1E
    ∷ 0x00 ∷ 0x05 ∷ 0x00 ∷ 0x06 ∷ 0x58 ∷ 0x00 ∷ 0x00 ∷ 0x00 ∷ 0x00
    ∷ 0x00 ∷ 0x06 ∷ 0x00 ∷ 0x05 ∷ 0x55 ∷ 0x00 ∷ 0x00 ∷ 0x00 ∷ 0xC8
    ∷ []

abbrev by_metres : List Row
by_metres =
    730 by (2 ∷ 4 ∷ 3 ∷ [])
    ∷ 750 by (1 ∷ 3 ∷ [])
    ∷ 770 by (2 ∷ 5 ∷ [])
    ∷ 1530 by (2 ∷ 4 ∷ 3 ∷ 6 ∷ 5 ∷ [])
    ∷ 1550 by (1 ∷ 3 ∷ 6 ∷ 5 ∷ [])
    ∷ []

abbrev by_turns_first : List Row
by_turns_first =
    0 turns_and 750 by (1 ∷ 3 ∷ [])
    ∷ 1 turns_and 730 by (2 ∷ 4 ∷ 3 ∷ [])
    ∷ 1 turns_and 770 by (2 ∷ 5 ∷ [])
    ∷ 1 turns_and 1550 by (1 ∷ 3 ∷ 6 ∷ 5 ∷ [])
    ∷ 2 turns_and 1530 by (2 ∷ 4 ∷ 3 ∷ 6 ∷ 5 ∷ [])
    ∷ []

abbrev by_narrowest : List Row
by_narrowest =
    2 by (1 ∷ 3 ∷ [])
    ∷ 4 by (1 ∷ 3 ∷ 6 ∷ 5 ∷ [])
    ∷ 5 by (2 ∷ 4 ∷ 3 ∷ [])
    ∷ 5 by (2 ∷ 5 ∷ [])
    ∷ 5 by (2 ∷ 4 ∷ 3 ∷ 6 ∷ 5 ∷ [])
    ∷ []

abbrev pub figures : List Figure
figures =
    image empty empty_image
    ∷ image sample sample_image
    ∷ routes metres open_roads 1 4 by_metres
    ∷ shared_with_first by_metres (3 ∷ 1 ∷ 1 ∷ 3 ∷ 1 ∷ [])
    ∷ routes turns_first open_roads 1 4 by_turns_first
    ∷ routes narrowest open_roads 1 4 by_narrowest
    ∷ routes metres open_roads 3 3 (680 by (4 ∷ 3 ∷ 6 ∷ []) ∷ [])
    ∷ least_without metres open_roads 1 4 3 770
    ∷ least_without metres open_roads 1 4 2 750
    ∷ routes metres (closed_at 5) 1 4 (730 by (2 ∷ 4 ∷ 3 ∷ []) ∷ 750 by (1 ∷ 3 ∷ []) ∷ [])
    ∷ []
