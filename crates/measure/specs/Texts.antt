-- The costs of the measures as texts, by their ranks.
--     metres_text n         730 m
--     turns_first_text n    1 t 730 m
--     narrowest_text n      tight 5
use Rattle.std.specs.Prelude.{ℕ, ◌/◌, ◌%◌, List, ◌++◌, codes, decimal}
use Rattle.measure.specs.TurnsFirst.{one_turn}

abbrev pub metres_text : ℕ → List ℕ
metres_text n = decimal n ++ codes " m"

abbrev pub turns_first_text : ℕ → List ℕ
turns_first_text n = decimal (n / one_turn) ++ (codes " t " ++ metres_text (n % one_turn))

abbrev pub narrowest_text : ℕ → List ℕ
narrowest_text n = codes "tight " ++ decimal n
