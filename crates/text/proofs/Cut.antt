-- A text cut at the first byte of a kind, by that byte's place.
use Rattle.std.proofs.Common.{◌≡◌, ◌≢◌, ℕ, zero, suc, ◌+◌, ◌<◌, List, [], ◌∷◌, length, get_or, take, drop, Some, None, Option, refl, ap, suc-add, arith}
use Rattle.std.proofs.lemmas.Bool.{eq-eqb, ne_eqb}
use Rattle.text.specs.Parts.{◌⊛◌}
use Rattle.text.specs.Cuts.{behind, cut_at}

-- i is the place of the first such byte
pub cut_here : (byte : ℕ) (text : List ℕ) (i : ℕ) → i < length text → get_or text i 0 ≡ byte → ((k : ℕ) → k < i → get_or text k 0 ≢ byte)
    → cut_at byte text ≡ Some (take i text, drop (i + 1) text)
unfolding cut_at
cut_here byte [] i inside here before = absurd (omega arith)
cut_here byte (b ∷ text) zero inside here before = rw (eq-eqb b byte here) refl
cut_here byte (b ∷ text) (suc i) inside here before =
    rw (ne_eqb b byte (before 0 (omega arith)), suc-add)
    (ap (λ (o : Option (List ℕ × List ℕ)). Some (behind b) ⊛ o) (cut_here byte text i (omega arith) here (λ k h. before (suc k) (omega arith))))

-- a text with no such byte is not cut
pub cut_nowhere : (byte : ℕ) (text : List ℕ) → ((k : ℕ) → k < length text → get_or text k 0 ≢ byte) → cut_at byte text ≡ None
unfolding cut_at
cut_nowhere byte [] none = refl
cut_nowhere byte (b ∷ text) none =
    rw (ne_eqb b byte (none 0 (omega arith)))
    (ap (λ (o : Option (List ℕ × List ℕ)). Some (behind b) ⊛ o) (cut_nowhere byte text (λ k h. none (suc k) (omega arith))))
