-- What a measure means: ranks, whole numbers of which the lower is the cheaper.
--     Ranks       the rank at the start, and the rank after a link and after a turn, which are fixed by the rank before
--     Lawful r    going on never lowers a rank, and keeps the order of two ranks over the same link or turn
--     added       a sum that stops at a limit
use Rattle.std.specs.Prelude.{ℕ, ◌+◌, ◌≤◌, min, max}
use Rattle.network.specs.declared.link.Link.{Link}

pub record Ranks : Type 0 where
  pub start : ℕ
  pub over_link : ℕ → Link → ℕ
  pub over_turn : ℕ → (class extra : ℕ) → ℕ

pub record Lawful (r : Ranks) : Type 0 where
  pub link_raises : (n : ℕ) (l : Link) → n ≤ r.over_link n l
  pub turn_raises : (n class extra : ℕ) → n ≤ r.over_turn n class extra
  pub link_orders : (m n : ℕ) (l : Link) → m ≤ n → r.over_link m l ≤ r.over_link n l
  pub turn_orders : (m n class extra : ℕ) → m ≤ n → r.over_turn m class extra ≤ r.over_turn n class extra

-- n and so much more, at most the limit; no cost has a rank above the limit, and such a rank would stay as it is
abbrev pub added : (limit n more : ℕ) → ℕ
added limit n more = max n (min (n + more) limit)
