-- A set of links as a mark for each link: the mark at place n - 1 tells whether link n is in the set.
--     bits k w             the lowest k bits of a word, the lowest first
--     all_bits ws          the bits of words of sixty-four, word by word
--     marks s              the marks of the set s
--     marked ms n mark     the marks ms with this mark for link n; for a number that is no link's, ms itself
--     added ms n           the marks ms with link n put in
--     marks_of ns          the marks of the set of the links that stand in ns
--     both ms ns           how many links have both marks
use Rattle.std.specs.Prelude.{ℕ, zero, suc, ◌+◌, ◌/◌, ◌%◌, Bool, true, false, cond, ◌&&◌, List, [], ◌∷◌, replicate, fold, ◌==◌, slice_set}
use Rattle.std.specs.List.{flat_map}
use Rattle.network.specs.declared.linkset.LinkSet.{LinkSet}

unfoldable pub bits : (k w : ℕ) → List Bool
bits zero w = []
bits (suc k) w = (w % 2 == 1) ∷ bits k (w / 2)

abbrev pub all_bits : List ℕ → List Bool
all_bits ws = flat_map (bits 64) ws

unfoldable pub marks : LinkSet → List Bool
marks s = all_bits s.words

abbrev pub marked : List Bool → ℕ → Bool → List Bool
marked ms zero mark = ms
marked ms (suc n) mark = slice_set ms n mark

abbrev pub added : List Bool → ℕ → List Bool
added ms n = marked ms n true

unfoldable pub marks_of : List ℕ → List Bool
marks_of ns = fold added (replicate 1024 false) ns

unfoldable pub both : List Bool → List Bool → ℕ
both [] ns = 0
both (m ∷ ms) [] = 0
both (m ∷ ms) (n ∷ ns) = cond (m && n) 1 0 + both ms ns
