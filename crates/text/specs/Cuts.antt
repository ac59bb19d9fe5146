-- A text cut at a byte.
--     behind b p          the two texts of p, with b put before the first
--     cut_at byte text    what stands before the first such byte, and what stands after it; nothing where there is none
use Rattle.std.specs.Prelude.{ℕ, cond, List, [], ◌∷◌, Some, None, Option, ◌==◌}
use Rattle.text.specs.Parts.{◌⊛◌}

abbrev pub behind : ℕ → List ℕ × List ℕ → List ℕ × List ℕ
behind b p = (b ∷ p.0, p.1)

unfoldable pub cut_at : ℕ → List ℕ → Option (List ℕ × List ℕ)
cut_at byte [] = None
cut_at byte (b ∷ text) = cond (b == byte) (Some ([], text)) (Some (behind b) ⊛ cut_at byte text)
