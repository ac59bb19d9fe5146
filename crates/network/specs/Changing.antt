-- Changing the turn of a pair: which refusal answers, and what the plan is after.
--     set_turn_refusal plan into out letter extra    the refusal of the change
--     changed turns t                                the entries with t in the place of its pair's entry, or at their end
--     with_set_turn plan into out letter extra       the plan after the change was made or refused
use Rattle.std.specs.Prelude.{◌≡◌, ℕ, ◌<◌, true, false, cond, not, ◌&&◌, List, [], ◌∷◌, ◌++◌, length, get_or, Option, MatchOption, ◌==◌, slice_index_or, slice_set}
use Rattle.std.specs.Option.{unwrap_or}
use Rattle.network.specs.declared.turn.Turn.{Turn}
use Rattle.network.specs.Plan.{Plan, no_turn, same_pair, has_entry}
use Rattle.network.specs.Letters.{class_of}
use Rattle.network.specs.Refusals.{Row, row, first_refusal}
use Rattle.network.specs.Laying.{unless, pair_rows, letter_rows}

abbrev pub set_turn_rows : Plan → (into out letter extra : ℕ) → List Row
set_turn_rows plan into out letter extra =
    pair_rows plan into out
    ++ letter_rows letter extra
    ++ (row 5 (not (has_entry plan.turns into out) && length plan.turns == 2048) ∷ [])

abbrev pub set_turn_refusal : Plan → (into out letter extra : ℕ) → Option ℕ
set_turn_refusal plan into out letter extra = first_refusal (set_turn_rows plan into out letter extra)

unfoldable pub changed : List Turn → Turn → List Turn
changed [] new = new ∷ []
changed (t ∷ turns) new = cond (same_pair t new.into new.out) (new ∷ turns) (t ∷ changed turns new)

abbrev pub with_set_turn : Plan → (into out letter extra : ℕ) → Plan
with_set_turn plan into out letter extra =
    unless (set_turn_refusal plan into out letter extra) plan
    (record { links = plan.links; turns = changed plan.turns (record { into = into; out = out; class = unwrap_or (class_of letter) 0; extra = extra }) })

-- the entries with another class and extra in the entry at a place
abbrev pub changed_at : List Turn → (place class extra : ℕ) → List Turn
changed_at turns place class extra =
    slice_set turns place (record { into = (get_or turns place no_turn).into; out = (get_or turns place no_turn).out; class = class; extra = extra })

-- the place of a pair's entry, the first and only one, or that it has none
abbrev pub EntryPlace : List Turn → (into out : ℕ) → Option ℕ → Type 0
EntryPlace turns into out answer =
    MatchOption answer (has_entry turns into out ≡ false)
    (λ i. (i < length turns) × (same_pair (slice_index_or turns i no_turn) into out ≡ true)
    × ((k : ℕ) → k < i → same_pair (slice_index_or turns k no_turn) into out ≡ false))
