use Rattle.std.proofs.Common.{◌≡◌, List, Some, None, Option, ok_or, refl, sym, ℕ}
use Rattle.network.specs.declared.refusal.Refusal.TheVariants.{NotACommand}
use Rattle.console.specs.declared.command.Command.{Command}
use Rattle.console.specs.Commands.{Understood}
use Rattle.console.specs.Cuts.{command_of}
use Rattle.console.proofs.Sayings.{command_says, only_command, no_command}
use Rattle.console.proofs.lines.read_command.Goals as goal

-- the command that is found, or no command
understood : (line : List ℕ) (found : Option Command) → found ≡ command_of line → Understood line (ok_or found NotACommand)
understood line None is = (refl, no_command line (sym is))
understood line (Some command) is = (command_says line command (sym is), only_command line command (sym is))

pub returns : goal.returns
returns c = rw c.ok_or.ensures.value (understood c.args.line.now c.find_command.result c.find_command.ensures)
