-- The outcome of lines, from the first on.
use Rattle.std.proofs.Common.{◌≡◌, ℕ, ◌+◌, List, [], ◌∷◌, Some, None, Option, sym, ap}
use Rattle.network.specs.Plan.{Plan}
use Rattle.text.specs.Lines.{lines}
use Rattle.town.specs.Town.{laid, refused, line_refusal, with_line, unless_refused, lay_from}

-- nothing is left
pub laid_at_end : (plan : Plan) (n : ℕ) (left : List ℕ) → left ≡ [] → laid plan ≡ lay_from plan n (lines left)
unfolding lay_from lines
laid_at_end plan n left none = sym (ap (λ (text : List ℕ). lay_from plan n (lines text)) none)

-- the first line is refused
pub refused_at_first : (plan : Plan) (n : ℕ) (line : List ℕ) (rest : List (List ℕ)) (told : ℕ)
    → Some told ≡ line_refusal plan line → refused n told ≡ lay_from plan n (line ∷ rest)
unfolding lay_from
refused_at_first plan n line rest told e =
    ap (λ (o : Option ℕ). unless_refused o n (lay_from (with_line plan line) (n + 1) rest)) e

-- the first line is laid
pub on_from_first : (plan : Plan) (n : ℕ) (line : List ℕ) (rest : List (List ℕ))
    → None ≡ line_refusal plan line → lay_from (with_line plan line) (n + 1) rest ≡ lay_from plan n (line ∷ rest)
unfolding lay_from
on_from_first plan n line rest e =
    ap (λ (o : Option ℕ). unless_refused o n (lay_from (with_line plan line) (n + 1) rest)) e
