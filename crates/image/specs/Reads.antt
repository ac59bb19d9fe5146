-- What reading an image answers, and what it leaves in the draft.
--     fault_told fault             the number of the refusal, and the number of the record, or 0 where none is told
--     Reads bytes before r after   r answers an image, where the draft held the plan `before` and holds `after` then
use Rattle.std.specs.Prelude.{◌≡◌, ℕ, List, Ok, Err, Result}
use Rattle.image.specs.declared.fault.ReadFault.{ReadFault}
use Rattle.image.specs.declared.fault.ReadFault.TheVariants.{ContentsWrong, RecordNotLaid}
use Rattle.network.specs.Plan.{Plan}
use Rattle.image.specs.Image.{encode, decode, Reading, holds, contents_wrong, not_laid}

abbrev pub fault_told : ReadFault → ℕ × ℕ
fault_told ContentsWrong = (17, 0)
fault_told (RecordNotLaid number) = (18, number)

abbrev pub told : Result (Unit {0}) ReadFault → Result (Unit {0}) (ℕ × ℕ)
told (Ok u) = Ok u
told (Err fault) = Err (fault_told fault)

-- an image that is read holds the plan, and is the image of it
abbrev pub Answers : Reading → List ℕ → Plan → Result (Unit {0}) ReadFault → Plan → Type 0
Answers (holds plan) bytes before r after = (told r ≡ Ok tt) × (after ≡ plan) × (encode after ≡ bytes)
Answers contents_wrong bytes before r after = (told r ≡ Err (17, 0)) × (after ≡ before)
Answers (not_laid number) bytes before r after = (told r ≡ Err (18, number)) × (after ≡ before)

abbrev pub Reads : List ℕ → Plan → Result (Unit {0}) ReadFault → Plan → Type 0
Reads bytes before r after = Answers (decode bytes) bytes before r after
