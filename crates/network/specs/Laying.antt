-- Laying: which refusal answers, and what is laid after.
--     link_refusal plan start end length        the refusal of a link
--     with_link plan start end length tightness   the plan after the link was laid or refused
--     turn_refusal plan into out letter extra   the refusal of a turn entry
--     with_turn plan into out letter extra      the plan after the entry was laid or refused
--     record_refusal, with_record               the same of the link or entry that a record holds
use Rattle.std.specs.Prelude.{ℕ, Bool, not, ◌||◌, List, [], ◌∷◌, ◌++◌, length, is_some, Some, None, Option, ◌==◌, nat_lt}
use Rattle.std.specs.Option.{unwrap_or}
use Rattle.network.specs.declared.link.Link.{Link}
use Rattle.network.specs.declared.turn.Turn.{Turn}
use Rattle.network.specs.declared.record.Record.{Record}
use Rattle.network.specs.declared.record.Record.TheVariants as records
use Rattle.network.specs.Plan.{Plan, link, laid, last_start, has_entry}
use Rattle.network.specs.Letters.{class_of}
use Rattle.network.specs.Refusals.{Row, row, first_refusal}

abbrev pub outside : ℕ → Bool
outside node = nat_lt node 1 || nat_lt 512 node

abbrev pub link_rows : Plan → (start end metres : ℕ) → List Row
link_rows plan start end metres =
    row 1 (length plan.links == 1024)
    ∷ row 2 (outside start || outside end)
    ∷ row 3 (nat_lt start (last_start plan.links))
    ∷ row 4 (nat_lt 1000000 metres)
    ∷ []

abbrev pub link_refusal : Plan → (start end metres : ℕ) → Option ℕ
link_refusal plan start end metres = first_refusal (link_rows plan start end metres)

-- a refusal leaves what was there
abbrev pub unless : {S : Type 0} → Option ℕ → S → S → S
unless None before after = after
unless (Some n) before after = before

abbrev pub add_link : Plan → Link → Plan
add_link plan l = record { links = plan.links ++ (l ∷ []); turns = plan.turns }

abbrev pub with_link : Plan → (start end metres tightness : ℕ) → Plan
with_link plan start end metres tightness =
    unless (link_refusal plan start end metres) plan
    (add_link plan (record { start = start; end = end; length = metres; tightness = tightness }))

-- both links are laid and meet
abbrev pub pair_rows : Plan → (into out : ℕ) → List Row
pair_rows plan into out =
    row 6 (not (laid plan.links into) || not (laid plan.links out))
    ∷ row 7 (not ((link plan.links into).end == (link plan.links out).start))
    ∷ []

-- the letter and the extra are lawful
abbrev pub letter_rows : (letter extra : ℕ) → List Row
letter_rows letter extra = row 9 (not (is_some (class_of letter))) ∷ row 10 (nat_lt 1000000 extra) ∷ []

-- there is room for one more entry
abbrev pub room_rows : Plan → List Row
room_rows plan = row 5 (length plan.turns == 2048) ∷ []

abbrev pub turn_rows : Plan → (into out letter extra : ℕ) → List Row
turn_rows plan into out letter extra =
    pair_rows plan into out
    ++ (row 8 (has_entry plan.turns into out)
    ∷ letter_rows letter extra
    ++ room_rows plan)

abbrev pub turn_refusal : Plan → (into out letter extra : ℕ) → Option ℕ
turn_refusal plan into out letter extra = first_refusal (turn_rows plan into out letter extra)

abbrev pub add_turn : Plan → Turn → Plan
add_turn plan t = record { links = plan.links; turns = plan.turns ++ (t ∷ []) }

-- the plan after an entry was added, if there was room for it
abbrev pub with_entry : Plan → (into out class extra : ℕ) → Plan
with_entry plan into out class extra =
    unless (first_refusal (room_rows plan)) plan
    (add_turn plan (record { into = into; out = out; class = class; extra = extra }))

abbrev pub with_turn : Plan → (into out letter extra : ℕ) → Plan
with_turn plan into out letter extra =
    unless (turn_refusal plan into out letter extra) plan
    (add_turn plan (record { into = into; out = out; class = unwrap_or (class_of letter) 0; extra = extra }))

abbrev pub record_refusal : Plan → Record → Option ℕ
record_refusal plan (records.Link start end metres tightness) = link_refusal plan start end metres
record_refusal plan (records.Turn into out letter extra) = turn_refusal plan into out letter extra

abbrev pub with_record : Plan → Record → Plan
with_record plan (records.Link start end metres tightness) = with_link plan start end metres tightness
with_record plan (records.Turn into out letter extra) = with_turn plan into out letter extra
