-- The measure turns-first: fewer turns come first, and among as many turns fewer metres. A rank is the turns times
-- 4,294,967,296 and the metres; it starts at 0 and stops at 18,446,744,073,709,551,615.
--     one_turn          what one turn adds to a rank
--     is_turn class     left, right and back are turns; straight on and barred are none
--     turn_of class     what a turn of the class adds
--     turns_first       the ranks
use Rattle.std.specs.Prelude.{ℕ, ◌+◌, Bool, cond, ◌&&◌, nat_le}
use Rattle.std.proofs.Common.{arith}
use Rattle.measure.specs.Ranks.{Ranks, Lawful, added}

abbrev pub one_turn : ℕ
one_turn = 4294967296

abbrev pub most_turns_first : ℕ
most_turns_first = 18446744073709551615

abbrev pub is_turn : ℕ → Bool
is_turn class = nat_le 1 class && nat_le class 3

abbrev pub turn_of : ℕ → ℕ
turn_of class = cond (is_turn class) one_turn 0

abbrev pub turns_first : Ranks
turns_first = record {
  start = 0;
  over_link = λ n l. added most_turns_first n l.length;
  over_turn = λ n class extra. added most_turns_first n (extra + turn_of class);
}

pub turns_first_lawful : Lawful turns_first
turns_first_lawful = record {
  link_raises = λ n l. omega arith;
  turn_raises = λ n class extra. omega arith;
  link_orders = λ m n l h. omega arith;
  turn_orders = λ m n class extra h. omega arith;
}
