-- What the code has written down of its ways, as a state: what it has of link n stands at place n - 1.
--     step_of, depth_of, before_of  how a link was reached, by how many links, and after which
--     view rank begin labels tree   the state, where the beginning costs `begin`
--     tally tree                    how many links are settled
--     Ready rank begin labels tree nodes   the frontier has the labelled links that are not settled
--     Growing rank g s k begin labels tree nodes   it stands between two steps, as Inv says
--     Stands rank s labels tree stand   where a way stands: at a link of the tree, or at the beginning
--     state, IsReady, Grows, StandsAt   the same of a search of the code, for a quest
--     Tried, Ends                   what a try of a link finds, and what growing ends with
--     Threaded, Traced              the way to a link, by the links before
use Rattle.std.specs.Prelude.{◌≡◌, ℕ, ◌+◌, ◌-◌, ◌<◌, ◌≤◌, true, false, not, ◌&&◌, List, ◌∷◌, ◌++◌, map, length, get_or, replicate, count_by, Option, MatchOption, nat_lt, slice_index, slice_index_or}
use Rattle.network.specs.Marks.{marks}
use Rattle.frontier.specs.declared.frontier.Frontier.{Frontier}
use Rattle.frontier.specs.Tournament.{waits}
use Rattle.completion.specs.declared.tree.Step.{Step}
use Rattle.completion.specs.declared.tree.Tree.{Tree}
use Rattle.completion.specs.Steps.{no_step}
use Rattle.completion.specs.declared.quest.Quest.{Quest}
use Rattle.completion.specs.declared.quest.Stand.{Stand}
use Rattle.completion.specs.declared.search.Search.{Search}
use Rattle.measure.specs.Ranks.{Ranks}
use Rattle.completion.specs.Graph.{Graph}
use Rattle.completion.specs.Growth.{State, Inv, Fine, Better, NoneCheaper, NoneSought}
use Rattle.completion.specs.Onward.{Setting, setting, tail, stop, ways}

abbrev pub step_of : Tree → ℕ → Step
step_of tree n = slice_index_or (no_step ∷ tree.steps) n no_step

abbrev pub depth_of : Tree → ℕ → ℕ
depth_of tree n = (step_of tree n).depth

abbrev pub before_of : Tree → ℕ → ℕ
before_of tree n = (step_of tree n).before

unfoldable pub view : {C : Type 0} → (C → ℕ) → ℕ → List C → Tree → State
view rank begin labels tree = record {
  label = λ n. slice_index (begin ∷ map rank labels) n;
  depth = λ n. depth_of tree n;
  before = λ n. before_of tree n;
  settled = λ n. slice_index_or (true ∷ marks tree.settled) n false;
}

abbrev pub tally : Tree → ℕ
tally tree = count_by (λ b. b) (marks tree.settled)

pub record Ready {C : Type 0} (rank : C → ℕ) (begin : ℕ) (labels : List C) (tree : Tree) (nodes : Frontier) : Type 0 where
  pub waiting : (n : ℕ) → waits nodes n ≡ (nat_lt 0 ((view rank begin labels tree).depth n) && not ((view rank begin labels tree).settled n))

pub record Growing {C : Type 0} (rank : C → ℕ) (g : Graph) (s k begin : ℕ) (labels : List C) (tree : Tree) (nodes : Frontier) : Type 0 where
  pub inv : Inv g s k (tally tree) (view rank begin labels tree)
  pub ready : Ready rank begin labels tree nodes

-- what the code carries of where a way stands
pub record Stands {C : Type 0} (rank : C → ℕ) (s : Setting) (labels : List C) (tree : Tree) (stand : Stand C) : Type 0 where
  pub after : stand.after ≡ tail s stand.number
  pub node : stand.node ≡ stop s stand.number
  pub label : rank stand.cost ≡ (view rank s.cost labels tree).label stand.number
  pub depth : stand.depth ≡ (view rank s.cost labels tree).depth stand.number
  pub shallow : stand.depth ≤ 1024

abbrev pub state : {M C : Type 0} {r : _} → (C → ℕ) → Quest M C → Search M C r → State
state rank quest search = view rank (rank quest.cost) search.frontier.labels.costs.now search.tree

abbrev pub IsReady : {M C : Type 0} {r : _} → (C → ℕ) → Quest M C → Search M C r → Type 0
IsReady rank quest search = Ready rank (rank quest.cost) search.frontier.labels.costs.now search.tree search.frontier.nodes

abbrev pub Grows : {M C : Type 0} {r : _} → (M → Ranks) → (C → ℕ) → Quest M C → (s k : ℕ) → Search M C r → Type 0
Grows ranks rank quest s k search =
    Growing rank (ways ranks rank quest) s k (rank quest.cost) search.frontier.labels.costs.now search.tree search.frontier.nodes

abbrev pub StandsAt : {M C : Type 0} {r : _} → (C → ℕ) → Quest M C → Search M C r → Stand C → Type 0
StandsAt rank quest search stand = Stands rank (setting rank quest) search.frontier.labels.costs.now search.tree stand

abbrev pub Tried : {C : Type 0} → (C → ℕ) → Graph → State → (s t : ℕ) → Option C → Type 0
Tried rank g st s t answer = MatchOption answer (Fine g st s t) (λ c. Better g st s t (rank c))

-- t is a link with a label that ends at the goal, and no way to the goal costs less
pub record EndsBest (g : Graph) (st : State) (t : ℕ) : Type 0 where
  pub low : 0 < t
  pub high : t ≤ g.size
  pub some : 0 < st.depth t
  pub goal : g.goal t ≡ true
  pub best : NoneCheaper g (st.label t)

abbrev pub Ends : Graph → State → Option ℕ → Type 0
Ends g st answer = MatchOption answer (NoneSought g) (EndsBest g st)

-- before a link that is not the first stands one that is one less deep
abbrev pub Threaded : Tree → Type 0
Threaded tree =
    (n : ℕ) → 1 < depth_of tree n
    → (0 < before_of tree n) × (before_of tree n ≤ 1024) × (depth_of tree n ≡ depth_of tree (before_of tree n) + 1)

-- the places from k below n hold links, the last of which is t, each with the one before it
pub record Traced (tree : Tree) (t n k : ℕ) (out : List ℕ) : Type 0 where
  pub last : get_or out (n - 1) 0 ≡ t
  pub links : (j : ℕ) → k ≤ j → j + 1 < n → slice_index out j ≡ before_of tree (slice_index out (j + 1))

-- the line holds the beginning, the way to t, and then zeros
pub record Written (tree : Tree) (t : ℕ) (beginning line : List ℕ) (count : ℕ) (line' : List ℕ) : Type 0 where
  pub way : List ℕ
  pub deep : length way ≡ depth_of tree t
  pub traced : Traced tree t (length way) 0 way
  pub total : count ≡ length beginning + length way
  pub route : line' ≡ (beginning ++ way) ++ replicate (length line - count) 0
