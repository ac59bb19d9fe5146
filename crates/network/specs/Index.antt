-- The index of turn entries by their link in. Entries are numbered from 1 in the order of their table.
--     entry turns k              the entry of number k
--     has_in turns j into        the entry of number j has the link in
--     HeadsWithin .. HeadsLast   for each link, heads has the last entry with that link in, or 0 where none has it
--     NextsWithin .. NextsLast   for each entry, nexts has the last one before it with the same link in, or 0 where none has it
use Rattle.std.specs.Prelude.{◌≡◌, ℕ, ◌<◌, ◌≤◌, Bool, true, false, List, ◌∷◌, length, ◌==◌, slice_index, slice_index_or}
use Rattle.network.specs.declared.turn.Turn.{Turn}
use Rattle.network.specs.Plan.{no_turn}

abbrev pub entry : List Turn → ℕ → Turn
entry turns k = slice_index_or (no_turn ∷ turns) k no_turn

abbrev pub has_in : List Turn → (j into : ℕ) → Bool
has_in turns j into = (entry turns j).into == into

abbrev pub HeadsWithin : List Turn → List ℕ → Type 0
HeadsWithin turns heads = (i : ℕ) → i ≤ 1024 → slice_index heads i ≤ length turns

abbrev pub HeadsHave : List Turn → List ℕ → Type 0
HeadsHave turns heads = (i : ℕ) → (i ≤ 1024) × (0 < slice_index heads i) → has_in turns (slice_index heads i) i ≡ true

abbrev pub HeadsLast : List Turn → List ℕ → Type 0
HeadsLast turns heads = (i j : ℕ) → (i ≤ 1024) × (slice_index heads i < j) × (j ≤ length turns) → has_in turns j i ≡ false

abbrev pub NextsWithin : List Turn → List ℕ → Type 0
NextsWithin turns nexts = (k : ℕ) → (1 ≤ k) × (k ≤ length turns) → slice_index nexts k < k

abbrev pub NextsHave : List Turn → List ℕ → Type 0
NextsHave turns nexts =
    (k : ℕ) → (1 ≤ k) × (k ≤ length turns) × (0 < slice_index nexts k) → has_in turns (slice_index nexts k) (entry turns k).into ≡ true

abbrev pub NextsLast : List Turn → List ℕ → Type 0
NextsLast turns nexts =
    (k j : ℕ) → (k ≤ length turns) × (slice_index nexts k < j) × (j < k) → has_in turns j (entry turns k).into ≡ false
