-- The limits of a lawful plan, for every number of a link and every pair. Assumes nothing.
--     length_most    no link is longer than 1,000,000
--     extra_most     no turn has an extra above 1,000,000
use Rattle.std.proofs.Common.{ℕ, zero, suc, ◌≤◌, Bool, true, false, cond, List, [], ◌∷◌, get_or, arith}
use Rattle.std.specs.List.{AllByRecursion}
use Rattle.std.proofs.ByRecursion.{All-from_get_or}
use Rattle.network.specs.declared.link.Link.{Link}
use Rattle.network.specs.declared.turn.Turn.{Turn}
use Rattle.network.specs.Plan.{LinksWithin, EntriesWithin, link, no_link, no_turn, same_pair}
use Rattle.network.specs.Roads.{turn}

length_at : (links : List Link) → AllByRecursion (λ l. l.length ≤ 1000000) links → (n : ℕ) → (get_or links n no_link).length ≤ 1000000
length_at [] h n = omega arith
length_at (l ∷ links) h zero = h.0
length_at (l ∷ links) h (suc n) = length_at links h.1 n

pub length_most : (links : List Link) → LinksWithin links → (n : ℕ) → (link links n).length ≤ 1000000
length_most links h zero = omega arith
length_most links h (suc n) =
    length_at links (All-from_get_or (λ l. l.length ≤ 1000000) links no_link (λ i laid. (h i laid).2)) n

either_most : (b : Bool) (t u : Turn) → t.extra ≤ 1000000 → u.extra ≤ 1000000 → (cond b t u).extra ≤ 1000000
either_most true t u p q = p
either_most false t u p q = q

extra_of : (turns : List Turn) → AllByRecursion (λ t. t.extra ≤ 1000000) turns → (a b : ℕ) → (turn turns a b).extra ≤ 1000000
unfolding turn
extra_of [] h a b = omega arith
extra_of (t ∷ turns) h a b = either_most (same_pair t a b) t (turn turns a b) h.0 (extra_of turns h.1 a b)

pub extra_most : (turns : List Turn) → EntriesWithin turns → (a b : ℕ) → (turn turns a b).extra ≤ 1000000
extra_most turns h = extra_of turns (All-from_get_or (λ t. t.extra ≤ 1000000) turns no_turn (λ i laid. (h i laid).1))
