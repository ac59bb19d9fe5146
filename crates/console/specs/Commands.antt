-- Commands as lines of text.
--     Short n                   n has at most 9 decimal digits
--     Sayable command           each number of the command has at most 9 decimal digits
--     line_of command           the bytes of the line that says a command, without its line feed; a letter is the byte of its code
--     Says line command         the line says the command
--     Understood line answer    the answer is the one command that the line says, or refuses where the line says none
use Rattle.std.specs.Prelude.{◌≡◌, ℕ, ◌^◌, ◌<◌, List, ◌∷◌, ◌++◌, Ok, Err, codes, decimal, Result}
use Rattle.network.specs.declared.refusal.Refusal.{Refusal}
use Rattle.network.specs.Refusals.{number}
use Rattle.console.specs.declared.command.Command.{Command}
use Rattle.console.specs.declared.command.Command.TheVariants.{Ask, Next, Trial, End, Close, Open, Turn}

abbrev pub Short : ℕ → Type 0
Short n = n < 10 ^ 9

abbrev pub Sayable : Command → Type 0
Sayable (Ask from to) = Short from × Short to
Sayable Next = Unit {0}
Sayable (Trial link) = Short link
Sayable End = Unit {0}
Sayable (Close link) = Short link
Sayable (Open link) = Short link
Sayable (Turn into out letter extra) = Short into × Short out × Short extra

abbrev pub line_of : Command → List ℕ
line_of (Ask from to) = codes "ask " ++ (decimal from ++ (codes " " ++ decimal to))
line_of Next = codes "next"
line_of (Trial link) = codes "trial " ++ decimal link
line_of End = codes "end"
line_of (Close link) = codes "close " ++ decimal link
line_of (Open link) = codes "open " ++ decimal link
line_of (Turn into out letter extra) =
    codes "turn " ++ (decimal into ++ (codes " " ++ (decimal out ++ (codes " " ++ (letter ∷ (codes " " ++ decimal extra))))))

abbrev pub Says : List ℕ → Command → Type 0
Says line command = Sayable command × (line ≡ line_of command)

abbrev pub Understood : List ℕ → Result Command Refusal → Type 0
Understood line (Ok command) = Says line command × ((other : Command) → Says line other → other ≡ command)
Understood line (Err refusal) = (number refusal ≡ 20) × ((command : Command) → Says line command → ⊥)
