-- Whether a pair has an entry, place by place. Assumes nothing.
use Rattle.std.proofs.Common.{◌≡◌, ℕ, zero, suc, ◌<◌, true, false, List, [], ◌∷◌, length, get_or, refl, arith}
use Rattle.std.proofs.lemmas.Bool.{or_parts, or_from, or_left, or_right}
use Rattle.network.specs.declared.turn.Turn.{Turn}
use Rattle.network.specs.Plan.{no_turn, same_pair, has_entry}

-- no place has the pair: it has no entry
pub none_has_entry : (turns : List Turn) (into out : ℕ)
    → ((k : ℕ) → k < length turns → same_pair (get_or turns k no_turn) into out ≡ false) → has_entry turns into out ≡ false
unfolding has_entry
none_has_entry [] into out h = refl
none_has_entry (t ∷ turns) into out h =
    or_from (same_pair t into out) (has_entry turns into out) (h 0 (omega arith))
    (none_has_entry turns into out (λ k p. h (suc k) (omega arith)))

-- a place has the pair: it has an entry
pub one_has_entry : (turns : List Turn) (into out k : ℕ) → k < length turns → same_pair (get_or turns k no_turn) into out ≡ true
    → has_entry turns into out ≡ true
unfolding has_entry
one_has_entry [] into out k l e = absurd (omega arith)
one_has_entry (t ∷ turns) into out zero l e = or_left (same_pair t into out) (has_entry turns into out) e
one_has_entry (t ∷ turns) into out (suc k) l e =
    or_right (same_pair t into out) (has_entry turns into out) (one_has_entry turns into out k (omega arith) e)

-- the pair has no entry: no place has it
pub no_place_has : (turns : List Turn) (into out : ℕ) → has_entry turns into out ≡ false
    → (k : ℕ) → k < length turns → same_pair (get_or turns k no_turn) into out ≡ false
unfolding has_entry
no_place_has [] into out e k l = absurd (omega arith)
no_place_has (t ∷ turns) into out e zero l = (or_parts (same_pair t into out) (has_entry turns into out) e).0
no_place_has (t ∷ turns) into out e (suc k) l =
    no_place_has turns into out (or_parts (same_pair t into out) (has_entry turns into out) e).1 k (omega arith)
