-- The lines of a text, from its first on.
use Rattle.std.proofs.Common.{◌≡◌, ℕ, suc, ◌<◌, eqb, List, [], ◌∷◌, length, Some, None, Option, MatchOption, refl, ap, inl, inr, arith}
use Rattle.std.proofs.lemmas.Bool.{cases_Bool}
use Rattle.text.specs.Parts.{◌⊛◌}
use Rattle.text.specs.Cuts.{behind, cut_at}
use Rattle.text.specs.Lines.{lines, onto_first}

-- the outcome of a cut, with a byte put before the text
one_before : (b n : ℕ) (text : List ℕ) (all : List (List ℕ)) (o : Option (List ℕ × List ℕ))
    → MatchOption o (all ≡ text ∷ []) (λ p. (all ≡ p.0 ∷ lines p.1) × (length p.1 < n))
    → MatchOption (Some (behind b) ⊛ o) (onto_first b all ≡ (b ∷ text) ∷ []) (λ p. (onto_first b all ≡ p.0 ∷ lines p.1) × (length p.1 < suc n))
one_before b n text all None e = ap (onto_first b) e
one_before b n text all (Some p) e = (ap (onto_first b) e.0, omega (arith, e.1))

-- the first line ends at the first line feed, or with the text
pub lines_cut : (text : List ℕ) → 0 < length text
    → MatchOption (cut_at 10 text) (lines text ≡ text ∷ []) (λ p. (lines text ≡ p.0 ∷ lines p.1) × (length p.1 < length text))
unfolding lines cut_at
lines_cut [] some = absurd (omega arith)
lines_cut (b ∷ []) some = elim (cases_Bool (eqb b 10)) [ inl e ↦ rw e (refl, omega arith) | inr e ↦ rw e refl ]
lines_cut (b ∷ c ∷ text) some =
    elim (cases_Bool (eqb b 10)) [
      | inl e ↦ rw e (refl, omega arith)
      | inr e ↦ rw e (one_before b (length (c ∷ text)) (c ∷ text) (lines (c ∷ text)) (cut_at 10 (c ∷ text)) (lines_cut (c ∷ text) (omega arith)))
    ]
