-- The measure narrowest: starts at 0, and is the tightness of the tightest link so far, at most 255; turns leave it.
use Rattle.std.specs.Prelude.{ℕ, min, max}
use Rattle.std.proofs.Common.{arith}
use Rattle.measure.specs.Ranks.{Ranks, Lawful}

abbrev pub most_tight : ℕ
most_tight = 255

abbrev pub narrowest : Ranks
narrowest = record {
  start = 0;
  over_link = λ n l. max n (min l.tightness most_tight);
  over_turn = λ n class extra. n;
}

pub narrowest_lawful : Lawful narrowest
narrowest_lawful = record {
  link_raises = λ n l. omega arith;
  turn_raises = λ n class extra. omega arith;
  link_orders = λ m n l h. omega arith;
  turn_orders = λ m n class extra h. h;
}
