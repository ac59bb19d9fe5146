-- The causes of refusals, in words.
--     cause_of refusal    the bytes of the words that say why
use Rattle.std.specs.Prelude.{ℕ, List, codes}
use Rattle.network.specs.declared.refusal.Refusal.{Refusal}
use Rattle.network.specs.declared.refusal.Refusal.TheVariants.{LinksFull, NodeOutside, StartsFall, TooLong, TurnsFull, NoSuchLink, LinksApart, PairTaken, NoSuchLetter, ExtraTooLarge, QuestionOpen, NoQuestion, LentTooShort, BookFull, BookSpoilt, NoFurtherRoute, ContentsWrong, RecordNotLaid, BufferTooShort, NotACommand}

abbrev pub cause_of : Refusal → List ℕ
cause_of LinksFull = codes "there are 1,024 links already"
cause_of NodeOutside = codes "a node is outside 1 to 512"
cause_of StartsFall = codes "the start is below the start of the link before"
cause_of TooLong = codes "the length is over 1,000,000"
cause_of TurnsFull = codes "there are 2,048 turn entries already"
cause_of NoSuchLink = codes "no such link is laid"
cause_of LinksApart = codes "the link in does not end where the link out starts"
cause_of PairTaken = codes "the pair has an entry already"
cause_of NoSuchLetter = codes "the letter is none of S, L, R, U and X"
cause_of ExtraTooLarge = codes "the extra is over 1,000,000"
cause_of QuestionOpen = codes "a question is open"
cause_of NoQuestion = codes "no question is open"
cause_of LentTooShort = codes "the lent book or cost table is too short"
cause_of BookFull = codes "sixteen routes are listed already"
cause_of BookSpoilt = codes "the book does not hold the routes that it listed"
cause_of NoFurtherRoute = codes "no further route"
cause_of ContentsWrong = codes "the length or the table of contents of the image is wrong"
cause_of RecordNotLaid = codes "a record of the image was not laid"
cause_of BufferTooShort = codes "the buffer is too short"
cause_of NotACommand = codes "not a command"
