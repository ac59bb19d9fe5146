-- Lines of a text. Each ends with a line feed, byte 10, which the last may lack.
--     onto_first b pieces      the pieces with b put before the first, or b alone where there is none
--     lines text               the lines of a text, without their line feeds
use Rattle.std.specs.Prelude.{ℕ, cond, List, [], ◌∷◌, ◌==◌}

abbrev pub onto_first : ℕ → List (List ℕ) → List (List ℕ)
onto_first b [] = (b ∷ []) ∷ []
onto_first b (piece ∷ pieces) = (b ∷ piece) ∷ pieces

unfoldable pub lines : List ℕ → List (List ℕ)
lines [] = []
lines (b ∷ text) = cond (b == 10) ([] ∷ lines text) (onto_first b (lines text))
