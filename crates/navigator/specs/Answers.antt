-- What a call answers, costs by their ranks.
--     Answer            refused by a number; done; the least cost that a trial found; a route's cost, its number of links, and how
--                       many of them it shares with route 1
--     verdict refusal   the answer of a call that tells nothing but its refusal, if it is refused
--     tried rank r      the answer that a trial's result is
--     handed rank r     the answer that a next's result is
use Rattle.std.specs.Prelude.{ℕ, Some, None, Ok, Err, Option, Result}
use Rattle.network.specs.declared.refusal.Refusal.{Refusal}
use Rattle.network.specs.Refusals.{number}

pub data Answer : Type 0 where
  refused : (number : ℕ) → Answer
  done : Answer
  least : (rank : ℕ) → Answer
  route : (rank links shared : ℕ) → Answer

abbrev pub verdict : Option ℕ → Answer
verdict None = done
verdict (Some n) = refused n

abbrev pub tried : {C : Type 0} → (C → ℕ) → Result C Refusal → Answer
tried rank (Ok cost) = least (rank cost)
tried rank (Err refusal) = refused (number refusal)

abbrev pub handed : {C : Type 0} → (C → ℕ) → Result (C × ℕ × ℕ) Refusal → Answer
handed rank (Ok answer) = route (rank answer.0) answer.1 answer.2
handed rank (Err refusal) = refused (number refusal)
