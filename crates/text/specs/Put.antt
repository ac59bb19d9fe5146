-- Bytes written into a buffer.
--     written at bytes buffer          the buffer with the bytes written from a place on
--     Put bytes before at after end    the bytes were written at a place of the buffer `before`, which is `after` then;
--                                      they end before the place `end`, and what lies around them stays
use Rattle.std.specs.Prelude.{◌≡◌, ℕ, ◌+◌, ◌≤◌, List, ◌++◌, length, take, drop}

abbrev pub written : (at : ℕ) → (bytes buffer : List ℕ) → List ℕ
written at bytes buffer = take at buffer ++ (bytes ++ drop (at + length bytes) buffer)

pub record Put (bytes before : List ℕ) (at : ℕ) (after : List ℕ) (end : ℕ) : Type 0 where
  pub ends : end ≡ at + length bytes
  pub fits : end ≤ length before
  pub holds : after ≡ written at bytes before
