-- Routes in a question's book.
--     with_route book i r    the book with r, and then zeros, in the 1,024 places of number i, counted from 0, and nothing else changed
--     route_at book i        the links in those places, without the zeros after them
use Rattle.std.specs.Prelude.{ℕ, zero, suc, ◌+◌, ◌-◌, ◌*◌, List, [], ◌∷◌, ◌++◌, length, take, drop, replicate}
use Rattle.routing.specs.Book.{place}

-- the links of a route, and then zeros
abbrev pub filled : List ℕ → List ℕ
filled r = r ++ replicate (1024 - length r) 0

abbrev pub with_route : List ℕ → ℕ → List ℕ → List ℕ
with_route book i r = take (1024 * i) book ++ (filled r ++ drop (1024 * (i + 1)) book)

abbrev pub before_zero : List ℕ → List ℕ
before_zero [] = []
before_zero (zero ∷ places) = []
before_zero (suc a ∷ places) = suc a ∷ before_zero places

abbrev pub route_at : List ℕ → ℕ → List ℕ
route_at book i = before_zero (place book i)
