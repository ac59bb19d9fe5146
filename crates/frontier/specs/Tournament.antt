-- The links that wait in a frontier. Link n has leaf 1023 + n, and node k has the children 2k and 2k + 1.
--     label ls n             the label of link n, where ls has the labels in the order of the links
--     winner cost a b        the cheaper of the links a and b, where 0 is no link
--     held f k               what node k of f holds
--     waits f n              link n waits in f
--     Right cost node k      node k holds the winner of its children, where node tells what each holds
--     Within f               each node holds 0 or a link
--     Sound ls f             each leaf holds its own link or 0, and each inner node the winner of its children
--     Mending ls f k         as sound, but for node k
--     NoneWaits f            no link waits in f
--     Least ls f t           t waits in f, and no link that waits has a lower label
--     Finds ls f r           r is a link with the least label of those that wait, or none where none waits
--     Changed f g n w        link n waits in g if w says so, and each other link as in f
--     Taken ls f g t         t is a link with the least label in f, and g is f without t
--     Takes ls f g r         r is what is taken out of f, if a link waits, and g is what is left
use Rattle.std.specs.Prelude.{◌≡◌, ℕ, ◌+◌, ◌*◌, ◌<◌, ◌≤◌, Bool, true, false, cond, ◌&&◌, ◌≢◌, List, ◌∷◌, Some, None, Option, ◌==◌, nat_lt, slice_index}
use Rattle.frontier.specs.declared.frontier.Frontier.{Frontier}

abbrev pub label : List ℕ → ℕ → ℕ
label ls n = slice_index (0 ∷ ls) n

unfoldable pub winner : (ℕ → ℕ) → ℕ → ℕ → ℕ
winner cost a b = cond (a == 0) b (cond (b == 0) a (cond (nat_lt (cost b) (cost a)) b a))

abbrev pub held : Frontier → ℕ → ℕ
held f k = slice_index f.nodes k

unfoldable pub waits : Frontier → ℕ → Bool
waits f n = nat_lt 0 n && held f (1023 + n) == n

abbrev pub Right : (ℕ → ℕ) → (ℕ → ℕ) → ℕ → Type 0
Right cost node k = node k ≡ winner cost (node (2 * k)) (node (2 * k + 1))

abbrev pub Within : Frontier → Type 0
Within f = (k : ℕ) → held f k ≤ 1024

pub record Sound (ls : List ℕ) (f : Frontier) : Type 0 where
  pub within : Within f
  pub leaves : (n : ℕ) → 0 < n → n ≤ 1024 → 0 < held f (1023 + n) → held f (1023 + n) ≡ n
  pub right : (k : ℕ) → 0 < k → k < 1024 → Right (label ls) (held f) k

pub record Mending (ls : List ℕ) (f : Frontier) (node : ℕ) : Type 0 where
  pub within : Within f
  pub leaves : (n : ℕ) → 0 < n → n ≤ 1024 → 0 < held f (1023 + n) → held f (1023 + n) ≡ n
  pub right : (k : ℕ) → 0 < k → k < 1024 → k ≢ node → Right (label ls) (held f) k

abbrev pub NoneWaits : Frontier → Type 0
NoneWaits f = (n : ℕ) → waits f n ≡ false

pub record Least (ls : List ℕ) (f : Frontier) (t : ℕ) : Type 0 where
  pub low : 0 < t
  pub high : t ≤ 1024
  pub waiting : waits f t ≡ true
  pub least : (n : ℕ) → waits f n ≡ true → label ls t ≤ label ls n

abbrev pub Finds : List ℕ → Frontier → Option ℕ → Type 0
Finds ls f (Some t) = Least ls f t
Finds ls f None = NoneWaits f

pub record Changed (f g : Frontier) (n : ℕ) (w : Bool) : Type 0 where
  pub here : waits g n ≡ w
  pub others : (m : ℕ) → m ≢ n → waits g m ≡ waits f m

pub record Taken (ls : List ℕ) (f g : Frontier) (t : ℕ) : Type 0 where
  pub least : Least ls f t
  pub gone : Changed f g t false

abbrev pub Takes : List ℕ → Frontier → Frontier → Option ℕ → Type 0
Takes ls f g (Some t) = Taken ls f g t
Takes ls f g None = NoneWaits f × (g ≡ f)
