-- Going on from a beginning over a plan, as a graph.
--     Setting              from where ways go on, to which node, without which links, and at which cost they are not sought any more
--     setting rank quest   the setting of a quest of the code
--     has marks n          link n has the mark
--     tail s a             the link that a way stands on at a: a itself, and for the beginning its last link, or 0 where it has none
--     stop s a             the node that a way stands at
--     blocked s a b        link b may not come next
--     open_turn plan a b   the turn from a into b is not barred; there is none where a is 0
--     turn_from turns a b  the turn from a into b, if there is one
--     step_over m c t l    the rank after a turn, if there is one, and a link
--     step_from m plan c a b   the rank after the turn from a into b, if there is one, and then b
--     graph m s            the ways of a setting, as a measure ranks them
--     ways ranks rank quest    the ways of a quest of the code
use Rattle.std.specs.Prelude.{ℕ, zero, suc, Bool, true, false, not, ◌&&◌, ◌||◌, List, ◌∷◌, length, Some, None, Option, ◌==◌, nat_lt, slice_index_or}
use Rattle.std.specs.Option.{option_map}
use Rattle.network.specs.declared.link.Link.{Link}
use Rattle.network.specs.declared.turn.Turn.{Turn}
use Rattle.network.specs.Plan.{Plan, link, laid}
use Rattle.network.specs.Laid.{plan}
use Rattle.network.specs.Marks.{marks}
use Rattle.network.specs.Roads.{turn, barred}
use Rattle.measure.specs.Ranks.{Ranks}
use Rattle.measure.specs.Cost.{step}
use Rattle.completion.specs.declared.quest.Quest.{Quest}
use Rattle.completion.specs.Graph.{Graph}

pub record Setting : Type 0 where
  pub plan : Plan
  -- no link of a way has the one mark, and the first has not the other either
  pub banned : List Bool
  pub forbidden : List Bool
  -- the node that the beginning ends at, its last link or 0, and what it costs
  pub node : ℕ
  pub after : ℕ
  pub cost : ℕ
  pub to : ℕ
  pub bound : Option ℕ

abbrev pub setting : {M C : Type 0} → (C → ℕ) → Quest M C → Setting
setting rank quest = record {
  plan = plan quest.network.now;
  banned = marks quest.banned.now;
  forbidden = marks quest.forbidden.now;
  node = quest.node;
  after = quest.after;
  cost = rank quest.cost;
  to = quest.to;
  bound = option_map rank quest.bound;
}

abbrev pub has : List Bool → ℕ → Bool
has ms n = slice_index_or (false ∷ ms) n false

abbrev pub tail : Setting → ℕ → ℕ
tail s zero = s.after
tail s (suc a) = suc a

abbrev pub stop : Setting → ℕ → ℕ
stop s zero = s.node
stop s (suc a) = (link s.plan.links (suc a)).end

abbrev pub blocked : Setting → (a b : ℕ) → Bool
blocked s zero b = has s.banned b || has s.forbidden b
blocked s (suc a) b = has s.banned b

abbrev pub open_turn : Plan → (a b : ℕ) → Bool
open_turn plan zero b = true
open_turn plan (suc a) b = not ((turn plan.turns (suc a) b).class == barred)

abbrev pub turn_from : List Turn → (a b : ℕ) → Option Turn
turn_from turns zero b = None
turn_from turns (suc a) b = Some (turn turns (suc a) b)

abbrev pub step_over : Ranks → (c : ℕ) → Option Turn → Link → ℕ
step_over m c None link = m.over_link c link
step_over m c (Some t) link = m.over_link (m.over_turn c t.class t.extra) link

abbrev pub step_from : Ranks → Plan → (c a b : ℕ) → ℕ
step_from m plan c zero b = m.over_link c (link plan.links b)
step_from m plan c (suc a) b = step m plan c (suc a) b

abbrev pub too_dear : Option ℕ → ℕ → Bool
too_dear None c = false
too_dear (Some bound) c = not (nat_lt c bound)

unfoldable pub graph : Ranks → Setting → Graph
graph m s = record {
  size = length s.plan.links;
  begin = s.cost;
  next = λ a b. laid s.plan.links b && (not (blocked s a b)
      && ((link s.plan.links b).start == stop s a && open_turn s.plan (tail s a) b));
  on = λ c a b. step_from m s.plan c (tail s a) b;
  goal = λ b. ((link s.plan.links b).end == s.to);
  dear = too_dear s.bound;
}

abbrev pub ways : {M C : Type 0} → (M → Ranks) → (C → ℕ) → Quest M C → Graph
ways ranks rank quest = graph (ranks quest.measure.now) (setting rank quest)
