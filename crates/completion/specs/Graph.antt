-- Ways over numbered links from where a beginning stands, and what they cost. The beginning has the number 0.
--     Joined g a bs      each link of bs may come straight after the one before it, the first after a
--     Way g ws           some links, all different, that go on from the beginning
--     cost_on g c a bs   what a way that ends with a at the cost c costs after the links bs
--     cost g ws          what the beginning costs after the links ws
--     last ws            the last link
--     Arrives g ws       a way to the goal
use Rattle.std.specs.Prelude.{◌≡◌, ℕ, ◌<◌, ◌≤◌, Bool, true, List, [], ◌∷◌}
use Rattle.network.specs.Shared.{Once}
use Rattle.routing.specs.Route.{last_of}

pub record Graph : Type 0 where
  -- the links are those from 1 to this number
  pub size : ℕ
  -- what the beginning costs
  pub begin : ℕ
  -- a way may go on from the one link to the other
  pub next : ℕ → ℕ → Bool
  -- what a way that ends with a link at a cost costs after it went on to another
  pub on : (c a b : ℕ) → ℕ
  -- the link ends at the goal
  pub goal : ℕ → Bool
  -- a cost that is too dear to be sought
  pub dear : ℕ → Bool

-- no cost falls, the order of two costs is kept, and what is dearer than a cost too dear is too dear
pub record Laws (g : Graph) : Type 0 where
  pub next_in : (a b : ℕ) → g.next a b ≡ true → (0 < b) × (b ≤ g.size)
  pub on_raises : (c a b : ℕ) → c ≤ g.on c a b
  pub on_orders : (c d a b : ℕ) → c ≤ d → g.on c a b ≤ g.on d a b
  pub dear_above : (c d : ℕ) → c ≤ d → g.dear c ≡ true → g.dear d ≡ true

abbrev pub Joined : Graph → ℕ → List ℕ → Type 0
Joined g a [] = Unit {0}
Joined g a (b ∷ bs) = (g.next a b ≡ true) × Joined g b bs

abbrev pub Way : Graph → List ℕ → Type 0
Way g [] = ⊥
Way g (b ∷ bs) = Joined g 0 (b ∷ bs) × Once (b ∷ bs)

abbrev pub cost_on : Graph → (c a : ℕ) → List ℕ → ℕ
cost_on g c a [] = c
cost_on g c a (b ∷ bs) = cost_on g (g.on c a b) b bs

abbrev pub cost : Graph → List ℕ → ℕ
cost g ws = cost_on g g.begin 0 ws

abbrev pub last : List ℕ → ℕ
last ws = last_of 0 ws

abbrev pub Arrives : Graph → List ℕ → Type 0
Arrives g ws = Way g ws × (g.goal (last ws) ≡ true)
