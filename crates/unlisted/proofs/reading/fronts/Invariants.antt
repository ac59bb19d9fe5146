use Rattle.std.proofs.Common.{◌≡◌, ℕ, ◌<◌, length, get_or}
use Rattle.unlisted.specs.Listed.{question}
use Rattle.unlisted.specs.Leaving.{agree}
use Rattle.unlisted.proofs.reading.fronts.Given as goal

abbrev pub invariant-loop-other : goal.invariant-loop-other
invariant-loop-other l =
    (length l.fronts ≡ 64)
    × ((k : ℕ) → k < l.other → get_or l.fronts k 0 ≡ agree ((question l.routes.listing).routes k) ((question l.routes.listing).routes l.number))
