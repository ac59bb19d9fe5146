-- How a line is read as a command: it is cut at its blanks.
--     cut text                what stands before the first blank, byte 32, and what stands after it; nothing where there is no blank
--     ask_of fields           the question between the two nodes that the fields write
--     lettered text           the first byte and what stands after the blank behind it
--     turn_of fields          the setting of a turn by its fields
--     on_link word link       the command of a first word and the one link after it
--     command_by word fields  the command of a first word and the fields after it
--     words_command line      the command of a line that has fields after its first word
--     command_of line         the command that a line says
use Rattle.std.specs.Prelude.{ℕ, cond, ◌&&◌, List, length, drop, Some, None, codes, Option, ◌==◌, nat_lt, slice_index}
use Rattle.std.specs.Str.{bytes_eq}
use Rattle.text.specs.Cuts.{cut_at}
use Rattle.text.specs.Numbers.{number_of}
use Rattle.text.specs.Parts.{◌⊛◌, ◌and_then◌}
use Rattle.console.specs.declared.command.Command.{Command}
use Rattle.console.specs.declared.command.Command.TheVariants.{Ask, Next, Trial, End, Close, Open, Turn}

abbrev pub cut : List ℕ → Option (List ℕ × List ℕ)
cut text = cut_at 32 text

abbrev pub ask : (from to : ℕ) → Command
ask from to = Ask from to

abbrev pub ask_of : List ℕ → Option Command
ask_of fields = cut fields and_then λ p. Some ask ⊛ number_of p.0 ⊛ number_of p.1

abbrev pub lettered : List ℕ → Option (ℕ × List ℕ)
lettered text = cond (nat_lt 1 (length text) && slice_index text 1 == 32) (Some (slice_index text 0, drop 2 text)) None

abbrev pub turn : (letter into out extra : ℕ) → Command
turn letter into out extra = Turn into out letter extra

abbrev pub turn_of : List ℕ → Option Command
turn_of fields =
    cut fields and_then λ p. cut p.1 and_then λ q. lettered q.1 and_then λ l.
    Some (turn l.0) ⊛ number_of p.0 ⊛ number_of q.0 ⊛ number_of l.1

abbrev pub on_link : List ℕ → ℕ → Option Command
on_link word link =
    cond (bytes_eq word (codes "trial")) (Some (Trial link))
    (cond (bytes_eq word (codes "close")) (Some (Close link))
    (cond (bytes_eq word (codes "open")) (Some (Open link)) None))

abbrev pub command_by : List ℕ → List ℕ → Option Command
command_by word fields =
    cond (bytes_eq word (codes "ask")) (ask_of fields)
    (cond (bytes_eq word (codes "turn")) (turn_of fields)
    (number_of fields and_then on_link word))

abbrev pub words_command : List ℕ → Option Command
words_command line = cut line and_then λ p. command_by p.0 p.1

abbrev pub command_of : List ℕ → Option Command
command_of line =
    cond (bytes_eq line (codes "next")) (Some Next)
    (cond (bytes_eq line (codes "end")) (Some End) (words_command line))
