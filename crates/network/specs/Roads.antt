-- Roads: a plan, and which of its links are closed.
--     closed roads n         link n has the closed mark
--     turn turns into out    the turn of a pair: its entry, or straight on with extra 0 where it has none
--     Passable roads n       link n is laid and not closed
--     LinksBelow links node count   the first `count` links, and no others, start below the node
--     Joins roads a b        b may come straight after a: a ends where b starts, and the turn is not barred
use Rattle.std.specs.Prelude.{◌≡◌, ℕ, ◌<◌, ◌≤◌, Bool, false, cond, List, [], ◌∷◌, length, get_or, ◌≢◌, slice_index_or}
use Rattle.network.specs.declared.link.Link.{Link}
use Rattle.network.specs.declared.turn.Turn.{Turn}
use Rattle.network.specs.Plan.{Plan, no_link, Laid, link, same_pair}

-- the mark at place n - 1 is that of link n
pub record Roads : Type 0 where
  pub plan : Plan
  pub marks : List Bool

abbrev pub closed : Roads → ℕ → Bool
closed roads n = slice_index_or (false ∷ roads.marks) n false

abbrev pub straight_on : (into out : ℕ) → Turn
straight_on into out = record { into = into; out = out; class = 0; extra = 0 }

unfoldable pub turn : List Turn → (into out : ℕ) → Turn
turn [] into out = straight_on into out
turn (t ∷ turns) into out = cond (same_pair t into out) t (turn turns into out)

abbrev pub barred : ℕ
barred = 4

abbrev pub Passable : Roads → ℕ → Type 0
Passable roads n = Laid roads.plan.links n × (closed roads n ≡ false)

abbrev pub Joins : Roads → ℕ → ℕ → Type 0
Joins roads a b =
    ((link roads.plan.links a).end ≡ (link roads.plan.links b).start)
    × ((turn roads.plan.turns a b).class ≢ barred)

-- as the starts never fall, these are the first links, and those that start at the node follow them
pub record LinksBelow (links : List Link) (node count : ℕ) : Type 0 where
  pub within : count ≤ length links
  pub lower : (i : ℕ) → i < count → (get_or links i no_link).start < node
  pub others : (i : ℕ) → count ≤ i → i < length links → node ≤ (get_or links i no_link).start
