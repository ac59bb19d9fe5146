-- The turn of a pair, place by place. Assumes nothing.
use Rattle.std.proofs.Common.{◌≡◌, ℕ, zero, suc, ◌<◌, Bool, true, false, cond, List, [], ◌∷◌, length, get_or, refl, ap, ◌∙◌, arith}
use Rattle.network.specs.declared.turn.Turn.{Turn}
use Rattle.network.specs.Plan.{no_turn, same_pair}
use Rattle.network.specs.Roads.{straight_on, turn}

pub turn_is_entry : (turns : List Turn) (into out place : ℕ) → place < length turns
    → ((k : ℕ) → k < place → same_pair (get_or turns k no_turn) into out ≡ false) → same_pair (get_or turns place no_turn) into out ≡ true
    → turn turns into out ≡ get_or turns place no_turn
unfolding turn
turn_is_entry [] into out place l before here = absurd (omega arith)
turn_is_entry (t ∷ turns) into out zero l before here = ap (λ (b : Bool). cond b t (turn turns into out)) here
turn_is_entry (t ∷ turns) into out (suc place) l before here =
    ap (λ (b : Bool). cond b t (turn turns into out)) (before 0 (omega arith))
    ∙ turn_is_entry turns into out place (omega arith) (λ k h. before (suc k) (omega arith)) here

pub turn_is_straight : (turns : List Turn) (into out : ℕ) → ((k : ℕ) → k < length turns → same_pair (get_or turns k no_turn) into out ≡ false)
    → turn turns into out ≡ straight_on into out
unfolding turn
turn_is_straight [] into out none = refl
turn_is_straight (t ∷ turns) into out none =
    ap (λ (b : Bool). cond b t (turn turns into out)) (none 0 (omega arith))
    ∙ turn_is_straight turns into out (λ k h. none (suc k) (omega arith))
