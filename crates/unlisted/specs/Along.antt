-- Looking along a listed route.
--     nexts fork              a mark for each link that comes next in a fork, by its number; number 0 is an end
--     Forks q r k fork        the fork has how listed routes go on that agree with r for k links
--     Fronts q r fronts       for each listed route, how many links at the front of it and of r are the same
--     NewFrom fronts j low    just the beginnings of fewer than `low` links are those of one of the first j routes too
--     Priced rank m plan r costs   what the first links of r cost
--     Ready rank m q along    what is carried along a listed route is as it should be
use Rattle.std.specs.Prelude.{◌≡◌, ℕ, ◌<◌, ◌≤◌, Bool, false, List, ◌∷◌, map, length, take, slice_index, slice_index_or}
use Rattle.network.specs.Plan.{Plan}
use Rattle.network.specs.Marks.{marks}
use Rattle.measure.specs.Ranks.{Ranks}
use Rattle.measure.specs.Cost.{cost}
use Rattle.unlisted.specs.declared.along.Along.{Along}
use Rattle.unlisted.specs.declared.along.Fork.{Fork}
use Rattle.unlisted.specs.Leaving.{Question, agree, goes_on}

abbrev pub nexts : Fork → List Bool
nexts fork = fork.ends ∷ marks fork.links

abbrev pub Forks : Question → List ℕ → ℕ → Fork → Type 0
Forks q r k fork = (b : ℕ) → b ≤ 1024 → slice_index_or (nexts fork) b false ≡ goes_on q r k b

pub record Fronts (q : Question) (r : List ℕ) (fronts : List ℕ) : Type 0 where
  pub room : q.listed ≤ length fronts
  pub each : (i : ℕ) → i < q.listed → slice_index fronts i ≡ agree (q.routes i) r

pub record NewFrom (fronts : List ℕ) (j low : ℕ) : Type 0 where
  pub shared : (k : ℕ) → k < low → (i : ℕ) × (i < j) × (k ≤ slice_index fronts i)
  pub new : (i : ℕ) → i < j → slice_index fronts i < low

pub record Priced {C : Type 0} (rank : C → ℕ) (m : Ranks) (plan : Plan) (r : List ℕ) (costs : List C) : Type 0 where
  pub room : length r ≤ length costs
  pub each : (k : ℕ) → k ≤ length r → slice_index (m.start ∷ map rank costs) k ≡ cost m plan (take k r)

pub record Ready {C : Type 0} (rank : C → ℕ) (m : Ranks) (q : Question) (along : Along C) : Type 0 where
  pub number : along.number < q.listed
  pub links : along.links.now ≡ q.routes along.number
  pub fronts : Fronts q along.links.now along.fronts.now
  pub costs : Priced rank m q.roads.plan along.links.now along.costs.now
