-- Numbers as words write them: 1 to 9 decimal digits, with no 0 in front of others.
--     digit b                 b is one of the bytes 48 to 57, which write 0 to 9
--     all_digits word         each byte of the word is a digit
--     padded word             a 0 stands in front of others
--     numeral word            the word writes a number: 1 to 9 digits, not padded
--     value_after n word      the number that the digits of n and then those of the word write in base ten
--     value word              the number that the digits of the word write in base ten
--     number_of word          that number where the word is a numeral, else nothing
use Rattle.std.specs.Prelude.{ℕ, ◌+◌, ◌-◌, ◌*◌, Bool, true, cond, not, ◌&&◌, List, [], ◌∷◌, length, Some, None, Option, ◌==◌, nat_le, nat_lt, slice_index}

abbrev pub digit : ℕ → Bool
digit b = nat_le 48 b && nat_le b 57

unfoldable pub all_digits : List ℕ → Bool
all_digits [] = true
all_digits (b ∷ word) = digit b && all_digits word

abbrev pub padded : List ℕ → Bool
padded word = slice_index word 0 == 48 && nat_lt 1 (length word)

abbrev pub numeral : List ℕ → Bool
numeral word = nat_le 1 (length word) && (nat_le (length word) 9 && (not (padded word) && all_digits word))

unfoldable pub value_after : ℕ → List ℕ → ℕ
value_after n [] = n
value_after n (b ∷ word) = value_after (n * 10 + (b - 48)) word

abbrev pub value : List ℕ → ℕ
value word = value_after 0 word

unfoldable pub number_of : List ℕ → Option ℕ
number_of word = cond (numeral word) (Some (value word)) None
