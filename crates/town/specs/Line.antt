-- What a line of a town's text says, by its words.
--     at_most top o               the number that o holds, if it is at most top
--     tightness_of word           the tightness that a word writes: a number of at most 255
--     letter_of word              the letter that a word of one byte is
--     field fields n              the field of place n, counted from 0
--     link, turn                  a record by its fields
--     link_of fields              the link of exactly four fields: start, end, length, tightness
--     turn_of fields              the turn entry of exactly four fields: link in, link out, letter, extra
--     record_of keyword fields    the record of a keyword, link or turn, and the fields after it
--     comment keyword             it begins with #, byte 35
--     command o                   the record that o holds; where it holds none, the line is not a command
--     said words                  what a line of these words says: nothing, a record, or no command
--     line_of line                what a line says
use Rattle.std.specs.Prelude.{ℕ, Bool, cond, List, [], ◌∷◌, length, Some, None, Ok, Err, codes, Option, Result, ◌==◌, nat_le, slice_index, slice_index_or}
use Rattle.std.specs.Str.{bytes_eq}
use Rattle.network.specs.declared.record.Record.{Record}
use Rattle.network.specs.declared.record.Record.TheVariants as records
use Rattle.network.specs.declared.refusal.Refusal.{Refusal}
use Rattle.network.specs.declared.refusal.Refusal.TheVariants.{NotACommand}
use Rattle.text.specs.Numbers.{number_of}
use Rattle.text.specs.Parts.{◌⊛◌}
use Rattle.text.specs.Words.{words}

abbrev pub at_most : ℕ → Option ℕ → Option ℕ
at_most top None = None
at_most top (Some n) = cond (nat_le n top) (Some n) None

abbrev pub tightness_of : List ℕ → Option ℕ
tightness_of word = at_most 255 (number_of word)

abbrev pub letter_of : List ℕ → Option ℕ
letter_of word = cond (length word == 1) (Some (slice_index word 0)) None

abbrev pub field : List (List ℕ) → ℕ → List ℕ
field fields n = slice_index_or fields n []

abbrev pub link : (start end metres tightness : ℕ) → Record
link start end metres tightness = records.Link start end metres tightness

abbrev pub turn : (into out letter extra : ℕ) → Record
turn into out letter extra = records.Turn into out letter extra

abbrev pub link_of : List (List ℕ) → Option Record
link_of fields =
    cond (length fields == 4)
    (Some link ⊛ number_of (field fields 0) ⊛ number_of (field fields 1) ⊛ number_of (field fields 2) ⊛ tightness_of (field fields 3))
    None

abbrev pub turn_of : List (List ℕ) → Option Record
turn_of fields =
    cond (length fields == 4)
    (Some turn ⊛ number_of (field fields 0) ⊛ number_of (field fields 1) ⊛ letter_of (field fields 2) ⊛ number_of (field fields 3))
    None

abbrev pub record_of : List ℕ → List (List ℕ) → Option Record
record_of keyword fields =
    cond (bytes_eq keyword (codes "link")) (link_of fields)
    (cond (bytes_eq keyword (codes "turn")) (turn_of fields) None)

abbrev pub comment : List ℕ → Bool
comment keyword = slice_index keyword 0 == 35

abbrev pub command : Option Record → Result (Option Record) Refusal
command None = Err NotACommand
command (Some r) = Ok (Some r)

abbrev pub said : List (List ℕ) → Result (Option Record) Refusal
said [] = Ok None
said (keyword ∷ fields) = cond (comment keyword) (Ok None) (command (record_of keyword fields))

abbrev pub line_of : List ℕ → Result (Option Record) Refusal
line_of line = said (words line)
