-- Words of a line: its longest runs of bytes that are no blanks.
--     blank b             b is a space, a tab or a carriage return
--     pieces line         what stands before, between and after blanks, empty pieces too
--     words line          the pieces that are not empty
use Rattle.std.specs.Prelude.{ℕ, Bool, cond, ◌||◌, List, [], ◌∷◌, length, filter, ◌==◌, nat_lt}
use Rattle.text.specs.Lines.{onto_first}

abbrev pub blank : ℕ → Bool
blank b = b == 32 || (b == 9 || b == 13)

unfoldable pub pieces : List ℕ → List (List ℕ)
pieces [] = [] ∷ []
pieces (b ∷ line) = cond (blank b) ([] ∷ pieces line) (onto_first b (pieces line))

unfoldable pub words : List ℕ → List (List ℕ)
words line = filter (λ piece. nat_lt 0 (length piece)) (pieces line)
