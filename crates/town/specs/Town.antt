-- Laying a town from its text, line by line, up to the first line that is refused.
--     laid plan                  all lines were laid, and the plan is what they lay
--     refused line told          the line, counted from 1, was refused, and told is the refusal's number
--     refusal_of plan says       the refusal of what a line says, if it is refused
--     plan_after plan says       the plan after what a line says
--     line_refusal plan line     the refusal of a line, if it is refused
--     with_line plan line        the plan after a line
--     unless_refused o n after   the outcome after line n, or that o refuses it
--     lay_from plan n lines      the outcome of lines on a plan, where the first line is line n
--     town text                  the outcome of a town's text
--     outcome_of answer          the outcome that an answer tells
use Rattle.std.specs.Prelude.{ℕ, ◌+◌, List, [], ◌∷◌, Some, None, Ok, Err, Option, Result}
use Rattle.network.specs.declared.draft.Draft.{Draft}
use Rattle.network.specs.declared.record.Record.{Record}
use Rattle.network.specs.declared.refusal.Refusal.{Refusal}
use Rattle.network.specs.Laid.{drafted}
use Rattle.network.specs.Laying.{record_refusal, with_record}
use Rattle.network.specs.Plan.{Plan, empty}
use Rattle.network.specs.Refusals.{number}
use Rattle.text.specs.Lines.{lines}
use Rattle.town.specs.declared.fault.TownFault.{TownFault}
use Rattle.town.specs.Line.{line_of}

pub data Outcome : Type 0 where
  laid : Plan → Outcome
  refused : (line told : ℕ) → Outcome

abbrev pub refusal_of : Plan → Result (Option Record) Refusal → Option ℕ
refusal_of plan (Ok None) = None
refusal_of plan (Ok (Some r)) = record_refusal plan r
refusal_of plan (Err refusal) = Some (number refusal)

abbrev pub plan_after : Plan → Result (Option Record) Refusal → Plan
plan_after plan (Ok None) = plan
plan_after plan (Ok (Some r)) = with_record plan r
plan_after plan (Err refusal) = plan

abbrev pub line_refusal : Plan → List ℕ → Option ℕ
line_refusal plan line = refusal_of plan (line_of line)

abbrev pub with_line : Plan → List ℕ → Plan
with_line plan line = plan_after plan (line_of line)

abbrev pub unless_refused : Option ℕ → ℕ → Outcome → Outcome
unless_refused None n after = after
unless_refused (Some told) n after = refused n told

unfoldable pub lay_from : Plan → ℕ → List (List ℕ) → Outcome
lay_from plan n [] = laid plan
lay_from plan n (line ∷ rest) = unless_refused (line_refusal plan line) n (lay_from (with_line plan line) (n + 1) rest)

abbrev pub town : List ℕ → Outcome
town text = lay_from empty 1 (lines text)

abbrev pub outcome_of : Result Draft TownFault → Outcome
outcome_of (Ok draft) = laid (drafted draft)
outcome_of (Err fault) = refused fault.line (number fault.refusal)
