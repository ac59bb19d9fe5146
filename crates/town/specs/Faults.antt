-- What is said of a line that is refused.
--     fault_text fault    the line, the number of the refusal and its cause in words
use Rattle.std.specs.Prelude.{ℕ, ◌++◌, List, codes, decimal}
use Rattle.network.specs.Refusals.{number}
use Rattle.town.specs.declared.fault.TownFault.{TownFault}
use Rattle.town.specs.Causes.{cause_of}

abbrev pub fault_text : TownFault → List ℕ
fault_text fault = codes "line " ++ (decimal fault.line ++ (codes ": refused " ++ (decimal (number fault.refusal) ++ (codes ": " ++ cause_of fault.refusal))))
