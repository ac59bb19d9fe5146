-- The measure metres: starts at 0, adds lengths and extras, and stops at 4,294,967,295.
use Rattle.std.specs.Prelude.{ℕ}
use Rattle.std.proofs.Common.{arith}
use Rattle.measure.specs.Ranks.{Ranks, Lawful, added}

abbrev pub most_metres : ℕ
most_metres = 4294967295

abbrev pub metres : Ranks
metres = record {
  start = 0;
  over_link = λ n l. added most_metres n l.length;
  over_turn = λ n class extra. added most_metres n extra;
}

pub metres_lawful : Lawful metres
metres_lawful = record {
  link_raises = λ n l. omega arith;
  turn_raises = λ n class extra. omega arith;
  link_orders = λ m n l h. omega arith;
  turn_orders = λ m n class extra h. omega arith;
}
