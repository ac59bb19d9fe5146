-- What writing an image answers, and what it leaves in the buffer.
--     Writes plan before r after    r answers the writing of a plan's image, where the buffer held `before` and holds `after` then
use Rattle.std.specs.Prelude.{◌≡◌, ℕ, List, length, take, Some, Ok, MatchBool, Result, nat_lt}
use Rattle.text.specs.Put.{written}
use Rattle.network.specs.declared.refusal.Refusal.{Refusal}
use Rattle.network.specs.Refusals.{refusal_in}
use Rattle.network.specs.Plan.{Plan}
use Rattle.image.specs.Image.{encode, decode, holds}

-- what is written reads back as the plan
abbrev pub Writes : Plan → List ℕ → Result ℕ Refusal → List ℕ → Type 0
Writes plan before r after =
    MatchBool (nat_lt (length before) (length (encode plan)))
    ((refusal_in r ≡ Some 19) × (after ≡ before))
    ((r ≡ Ok (length (encode plan))) × (after ≡ written 0 (encode plan) before)
    × (decode (take (length (encode plan)) after) ≡ holds plan))
