-- Refusals by their numbers.
--     number refusal       the number of a refusal
--     refusal_in answer    the number that an answer refuses with, if it refuses
--     first_refusal rows   the number of the first row that applies, if one does
use Rattle.std.specs.Prelude.{ℕ, Bool, cond, List, [], ◌∷◌, Some, None, Ok, Err, Option, Result}
use Rattle.network.specs.declared.refusal.Refusal.{Refusal}
use Rattle.network.specs.declared.refusal.Refusal.TheVariants.{LinksFull, NodeOutside, StartsFall, TooLong, TurnsFull, NoSuchLink, LinksApart, PairTaken, NoSuchLetter, ExtraTooLarge, QuestionOpen, NoQuestion, LentTooShort, BookFull, BookSpoilt, NoFurtherRoute, ContentsWrong, RecordNotLaid, BufferTooShort, NotACommand}

abbrev pub number : Refusal → ℕ
number LinksFull = 1
number NodeOutside = 2
number StartsFall = 3
number TooLong = 4
number TurnsFull = 5
number NoSuchLink = 6
number LinksApart = 7
number PairTaken = 8
number NoSuchLetter = 9
number ExtraTooLarge = 10
number QuestionOpen = 11
number NoQuestion = 12
number LentTooShort = 13
number BookFull = 14
number BookSpoilt = 15
number NoFurtherRoute = 16
number ContentsWrong = 17
number RecordNotLaid = 18
number BufferTooShort = 19
number NotACommand = 20

abbrev pub refusal_in : {A : Type 0} → Result A Refusal → Option ℕ
refusal_in (Ok a) = None
refusal_in (Err refusal) = Some (number refusal)

-- A row of the table of refusals: its number, and whether its case is given.
pub record Row : Type 0 where
  pub told : ℕ
  pub applies : Bool

abbrev pub row : ℕ → Bool → Row
row n b = record { told = n; applies = b }

abbrev pub first_refusal : List Row → Option ℕ
first_refusal [] = None
first_refusal (r ∷ rows) = cond r.applies (Some r.told) (first_refusal rows)
