-- A plan: what is laid of a town. Its links are numbered from 1 as they were laid.
--     link links n                the link of number n
--     Laid links n                a link has the number n
--     LinksWithin links           nodes, lengths and tightnesses are within their limits
--     StartsRise links            the starts never fall from one link to the next
--     same_pair t into out        t is an entry of the pair
--     has_entry turns into out    the pair has an entry
--     EntriesWithin turns         classes and extras are within their limits
--     EntriesMeet links turns     the links of each entry are laid, and the first ends where the second starts
--     PairsApart turns            no pair has two entries
--     Lawful plan                 all of these laws
use Rattle.std.specs.Prelude.{◌≡◌, ℕ, ◌+◌, ◌<◌, ◌≤◌, Bool, false, ◌&&◌, ◌||◌, List, [], ◌∷◌, length, get_or, ◌==◌, nat_le, slice_index_or}
use Rattle.network.specs.declared.link.Link.{Link}
use Rattle.network.specs.declared.turn.Turn.{Turn}

pub record Plan : Type 0 where
  pub links : List Link
  pub turns : List Turn

abbrev pub empty : Plan
empty = record { links = []; turns = [] }

abbrev pub no_link : Link
no_link = record { start = 0; end = 0; length = 0; tightness = 0 }

abbrev pub no_turn : Turn
no_turn = record { into = 0; out = 0; class = 0; extra = 0 }

abbrev pub link : List Link → ℕ → Link
link links n = slice_index_or (no_link ∷ links) n no_link

abbrev pub Laid : List Link → ℕ → Type 0
Laid links n = (1 ≤ n) × (n ≤ length links)

-- Laid as a test
abbrev pub laid : List Link → ℕ → Bool
laid links n = nat_le 1 n && nat_le n (length links)

-- the start of the link that was laid last, and 0 before the first
abbrev pub last_start : List Link → ℕ
last_start links = (link links (length links)).start

abbrev pub Node : ℕ → Type 0
Node n = (1 ≤ n) × (n ≤ 512)

abbrev pub LinkWithin : Link → Type 0
LinkWithin l = Node l.start × Node l.end × (l.length ≤ 1000000) × (l.tightness ≤ 255)

abbrev pub LinksWithin : List Link → Type 0
LinksWithin links = (i : ℕ) → i < length links → LinkWithin (slice_index_or links i no_link)

abbrev pub StartsRise : List Link → Type 0
StartsRise links = (i : ℕ) → i + 1 < length links → (get_or links i no_link).start ≤ (get_or links (i + 1) no_link).start

abbrev pub same_pair : Turn → ℕ → ℕ → Bool
same_pair t into out = t.into == into && t.out == out

unfoldable pub has_entry : List Turn → ℕ → ℕ → Bool
has_entry [] into out = false
has_entry (t ∷ turns) into out = same_pair t into out || has_entry turns into out

abbrev pub EntryWithin : Turn → Type 0
EntryWithin t = (t.class ≤ 4) × (t.extra ≤ 1000000)

abbrev pub EntriesWithin : List Turn → Type 0
EntriesWithin turns = (i : ℕ) → i < length turns → EntryWithin (slice_index_or turns i no_turn)

abbrev pub Meets : List Link → Turn → Type 0
Meets links t = Laid links t.into × Laid links t.out × ((link links t.into).end ≡ (link links t.out).start)

abbrev pub EntriesMeet : List Link → List Turn → Type 0
EntriesMeet links turns = (i : ℕ) → i < length turns → Meets links (slice_index_or turns i no_turn)

abbrev pub PairsApart : List Turn → Type 0
PairsApart turns =
    (i j : ℕ) → (i < j) × (j < length turns)
    → same_pair (slice_index_or turns i no_turn) (get_or turns j no_turn).into (get_or turns j no_turn).out ≡ false

abbrev pub Lawful : Plan → Type 0
Lawful plan =
    LinksWithin plan.links × (StartsRise plan.links × (EntriesWithin plan.turns
    × (EntriesMeet plan.links plan.turns × (PairsApart plan.turns × Unit {0}))))
