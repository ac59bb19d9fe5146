-- Rows of refusals whose cases are statements.
--     Row                        a row: its number, and the case in which it refuses
--     Checked rows Refused Through   the rows are checked from the first; one whose case holds refuses by its number, and after
--                                the last the call is let through
--     Passed rows                no row refuses
use Rattle.std.specs.Prelude.{ℕ, ◌⊎◌, List, [], ◌∷◌}

pub record Row : Type 1 where
  pub told : ℕ
  pub case : Type 0

abbrev pub row : ℕ → Type 0 → Row
row told case = record { told = told; case = case }

abbrev pub Checked : List Row → (ℕ → Type 0) → Type 0 → Type 0
Checked [] Refused Through = Through
Checked (row ∷ rows) Refused Through = (row.case × Refused row.told) ⊎ ((row.case → ⊥) × Checked rows Refused Through)

abbrev pub Passed : List Row → Type 0
Passed [] = Unit {0}
Passed (row ∷ rows) = (row.case → ⊥) × Passed rows
