-- The letters of turns and the classes that they stand for.
--     class_of letter    0 for S, 1 for L, 2 for R, 3 for U, 4 for X, and none for any other character
--     letter_of class    the letter of a class
use Rattle.std.specs.Prelude.{ℕ, cond, Some, None, Option, ◌==◌}

abbrev pub class_of : ℕ → Option ℕ
class_of letter =
    cond (letter == 83) (Some 0)
    (cond (letter == 76) (Some 1)
    (cond (letter == 82) (Some 2)
    (cond (letter == 85) (Some 3)
    (cond (letter == 88) (Some 4) None))))

abbrev pub letter_of : ℕ → ℕ
letter_of class =
    cond (class == 0) 83 (cond (class == 1) 76 (cond (class == 2) 82 (cond (class == 3) 85 88)))
