-- What a search knows of each link, and what holds of it between its steps.
--     State                what is known of each link; of the beginning, 0, it is what the beginning is
--     Follows g st a b     b was reached straight after a
--     Inv g s k m st       m links are settled; the links after s were brought up to date below k, those after each other settled link all
--     Latest s st          s was settled last
--     Least st t           of the labelled links that are not settled t has the least label
--     AllSettled st        each labelled link is settled
use Rattle.std.specs.Prelude.{◌≡◌, ℕ, ◌+◌, ◌<◌, ◌≤◌, Bool, true, false, ◌≢◌, ◌⊎◌, List, [], ◌∷◌}
use Rattle.completion.specs.Graph.{Graph, Joined, cost_on, Arrives, cost}
use Rattle.routing.specs.Route.{last_of}

-- A link has a label where its depth is above 0: then `depth` links lead to it, at the cost `label`, and `before` is the last but one,
-- or 0 where it is the first.
pub record State : Type 0 where
  pub label : ℕ → ℕ
  pub depth : ℕ → ℕ
  pub before : ℕ → ℕ
  pub settled : ℕ → Bool

pub record Follows (g : Graph) (st : State) (a b : ℕ) : Type 0 where
  pub before : st.before b ≡ a
  pub settled : st.settled a ≡ true
  pub next : g.next a b ≡ true
  pub depth : st.depth b ≡ st.depth a + 1
  pub label : st.label b ≡ g.on (st.label a) a b

-- the link is labelled, at no more than the cost
abbrev pub Labelled : State → (b c : ℕ) → Type 0
Labelled st b c = (0 < st.depth b) × (st.label b ≤ c)

pub record Inv (g : Graph) (s k m : ℕ) (st : State) : Type 0 where
  pub source : st.settled 0 ≡ true
  pub begin : st.label 0 ≡ g.begin
  pub shallowest : st.depth 0 ≡ 0
  pub came : (b : ℕ) → 0 < st.depth b → (a : ℕ) × Follows g st a b
  pub cheap : (b : ℕ) → 0 < st.depth b → g.dear (st.label b) ≡ false
  pub relaxed : (a b : ℕ) → st.settled a ≡ true → (a ≡ s → b < k) → g.next a b ≡ true
      → g.dear (g.on (st.label a) a b) ≡ false → Labelled st b (g.on (st.label a) a b)
  pub settled : (a : ℕ) → st.settled a ≡ true → 0 < a → (0 < st.depth a) × (g.goal a ≡ false) × (st.depth a ≤ m)
  pub order : (a b : ℕ) → st.settled a ≡ true → 0 < st.depth b → st.settled b ≡ false → st.label a ≤ st.label b
  pub shallow : (b : ℕ) → st.depth b ≤ m + 1

pub record Latest (s : ℕ) (st : State) : Type 0 where
  pub settled : st.settled s ≡ true
  pub most : (a : ℕ) → st.settled a ≡ true → st.label a ≤ st.label s

pub record Least (st : State) (t : ℕ) : Type 0 where
  pub some : 0 < st.depth t
  pub left : st.settled t ≡ false
  pub least : (b : ℕ) → 0 < st.depth b → st.settled b ≡ false → st.label t ≤ st.label b

abbrev pub AllSettled : State → Type 0
AllSettled st = (b : ℕ) → 0 < st.depth b → st.settled b ≡ true

-- t was tried from s: there is no better way to it
abbrev pub Fine : Graph → State → (s t : ℕ) → Type 0
Fine g st s t =
    g.next s t ≡ true → st.settled t ≡ false → g.dear (g.on (st.label s) s t) ≡ false
    → Labelled st t (g.on (st.label s) s t)

-- t was tried from s: there is a better way to it, at the cost c
pub record Better (g : Graph) (st : State) (s t c : ℕ) : Type 0 where
  pub left : st.settled t ≡ false
  pub next : g.next s t ≡ true
  pub cost : c ≡ g.on (st.label s) s t
  pub cheap : g.dear c ≡ false
  pub better : 0 < st.depth t → c ≤ st.label t

-- t got a label, and nothing else changed
pub record Put (t c d b : ℕ) (st now : State) : Type 0 where
  pub label : now.label t ≡ c
  pub depth : now.depth t ≡ d
  pub before : now.before t ≡ b
  pub labels : (k : ℕ) → k ≢ t → now.label k ≡ st.label k
  pub depths : (k : ℕ) → k ≢ t → now.depth k ≡ st.depth k
  pub befores : (k : ℕ) → k ≢ t → now.before k ≡ st.before k
  pub settled : (k : ℕ) → now.settled k ≡ st.settled k

-- t was tried from s, and kept what it had or got a label
abbrev pub Kept : Graph → (s t : ℕ) → (st now : State) → Type 0
Kept g s t st now = (now ≡ st) × Fine g st s t

abbrev pub Taken : Graph → (s t : ℕ) → (st now : State) → Type 0
Taken g s t st now = (c : ℕ) × Better g st s t c × Put t c (st.depth s + 1) s st now

abbrev pub Relaxed : Graph → (s t : ℕ) → (st now : State) → Type 0
Relaxed g s t st now = Kept g s t st now ⊎ Taken g s t st now

-- t was settled, and all else kept
pub record Settled (t : ℕ) (st now : State) : Type 0 where
  pub done : now.settled t ≡ true
  pub others : (k : ℕ) → k ≢ t → now.settled k ≡ st.settled k
  pub labels : (k : ℕ) → now.label k ≡ st.label k
  pub depths : (k : ℕ) → now.depth k ≡ st.depth k
  pub befores : (k : ℕ) → now.before k ≡ st.before k

-- nothing is labelled, and only the beginning is settled
pub record Fresh (g : Graph) (st : State) : Type 0 where
  pub source : st.settled 0 ≡ true
  pub begin : st.label 0 ≡ g.begin
  pub none : (b : ℕ) → 0 < b → st.settled b ≡ false
  pub unlabelled : (b : ℕ) → st.depth b ≡ 0

-- each of the links is one deeper than the one before it
abbrev pub Deep : State → ℕ → List ℕ → Type 0
Deep st d [] = Unit {0}
Deep st d (b ∷ bs) = (st.depth b ≡ d + 1) × Deep st (d + 1) bs

-- the links after a, by `before`, to t
pub record Chain (g : Graph) (st : State) (t a : ℕ) (bs : List ℕ) : Type 0 where
  pub joined : Joined g a bs
  pub deep : Deep st (st.depth a) bs
  pub total : cost_on g (st.label a) a bs ≡ st.label t
  pub last : last_of a bs ≡ t

-- no way to the goal costs less
abbrev pub NoneCheaper : Graph → ℕ → Type 0
NoneCheaper g c = (ws : List ℕ) → Arrives g ws → c ≤ cost g ws

-- each way to the goal is too dear
abbrev pub NoneSought : Graph → Type 0
NoneSought g = (ws : List ℕ) → Arrives g ws → g.dear (cost g ws) ≡ true
