-- What is said of an image that is refused.
--     fault_text fault    the number of the refusal, and the number of the record that was not laid
use Rattle.std.specs.Prelude.{ℕ, ◌++◌, List, codes, decimal}
use Rattle.network.specs.Refusals as refusals
use Rattle.network.specs.declared.refusal.Refusal.TheVariants as refused
use Rattle.image.specs.declared.fault.ReadFault.{ReadFault}
use Rattle.image.specs.declared.fault.ReadFault.TheVariants.{ContentsWrong, RecordNotLaid}

abbrev pub fault_text : ReadFault → List ℕ
fault_text ContentsWrong = decimal (refusals.number refused.ContentsWrong)
fault_text (RecordNotLaid place) = decimal (refusals.number refused.RecordNotLaid) ++ (codes " " ++ decimal place)
