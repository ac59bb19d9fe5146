-- Lists of links, and how many links one shares with another.
--     Once links           all the links are different
--     stands_in a bs       a stands in bs
--     shared r s           how many links of r stand in s
--     LinkNumber n         a set can have link n
--     SharedIsCounted      the links that a list of different links shares with another are those with both marks
use Rattle.std.specs.Prelude.{◌≡◌, ℕ, ◌+◌, ◌≤◌, Bool, false, cond, ◌||◌, List, [], ◌∷◌, ◌==◌}
use Rattle.std.specs.List.{ContainsAt as Has, AllByRecursion}
use Rattle.network.specs.Marks.{marks_of, both}

abbrev pub Once : List ℕ → Type 0
Once [] = Unit {0}
Once (a ∷ bs) = (Has bs a → ⊥) × Once bs

abbrev pub stands_in : ℕ → List ℕ → Bool
stands_in a [] = false
stands_in a (b ∷ bs) = a == b || stands_in a bs

abbrev pub shared : List ℕ → List ℕ → ℕ
shared [] bs = 0
shared (a ∷ rest) bs = cond (stands_in a bs) 1 0 + shared rest bs

abbrev pub LinkNumber : ℕ → Type 0
LinkNumber n = (1 ≤ n) × (n ≤ 1024)

abbrev pub SharedIsCounted : Type 0
SharedIsCounted =
    (r s : List ℕ) → Once r → AllByRecursion LinkNumber r → both (marks_of r) (marks_of s) ≡ shared r s
