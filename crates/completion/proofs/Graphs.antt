-- The ways of a setting keep the laws of graphs. Assumes nothing.
use Rattle.std.proofs.Common.{◌≡◌, ℕ, zero, suc, ◌≤◌, true, ltb, leb, length, Some, None, Option, refl, arith}
use Rattle.std.proofs.lemmas.Bool.{and_parts, leb-true, not-true, not_from_false, ltb-false, le-ltb}
use Rattle.network.specs.Plan.{Plan, link, laid, Laid}
use Rattle.network.specs.Roads.{turn}
use Rattle.measure.specs.Ranks.{Ranks, Lawful}
use Rattle.completion.specs.Graph.{Laws}
use Rattle.completion.specs.Onward.{Setting, tail, step_from, too_dear, graph}

module _ (m : Ranks) (law : Lawful m) (plan : Plan) where
  pub step_raises : (a c b : ℕ) → c ≤ step_from m plan c a b
  step_raises zero c b = law.link_raises c (link plan.links b)
  step_raises (suc a) c b =
      let t = turn plan.turns (suc a) b in
      let p = law.turn_raises c t.class t.extra in
      let q = law.link_raises (m.over_turn c t.class t.extra) (link plan.links b) in
      omega arith

  pub step_orders : (a c d b : ℕ) → c ≤ d → step_from m plan c a b ≤ step_from m plan d a b
  step_orders zero c d b h = law.link_orders c d (link plan.links b) h
  step_orders (suc a) c d b h =
      let t = turn plan.turns (suc a) b in
      law.link_orders (m.over_turn c t.class t.extra) (m.over_turn d t.class t.extra) (link plan.links b)
      (law.turn_orders c d t.class t.extra h)

pub dear_above : (bound : Option ℕ) (c d : ℕ) → c ≤ d → too_dear bound c ≡ true → too_dear bound d ≡ true
dear_above None c d h e = e
dear_above (Some n) c d h e =
    not_from_false (ltb d n) (le-ltb d n (let f = ltb-false c n (not-true (ltb c n) e) in omega arith))

pub laid_in : (plan : Plan) (b : ℕ) → laid plan.links b ≡ true → Laid plan.links b
laid_in plan b e =
    let p = and_parts (leb 1 b) (leb b (length plan.links)) e in (leb-true 1 b p.0, leb-true b (length plan.links) p.1)

pub graph_laws : (m : Ranks) → Lawful m → (s : Setting) → Laws (graph m s)
unfolding graph
graph_laws m law s = record {
  next_in = λ a b e. let p = laid_in s.plan b (and_parts (laid s.plan.links b) _ e).0 in (omega (arith, p.0), p.1);
  on_raises = λ c a b. step_raises m law s.plan (tail s a) c b;
  on_orders = λ c d a b h. step_orders m law s.plan (tail s a) c d b h;
  dear_above = λ c d h e. dear_above s.bound c d h e;
}

pub graph_size : (m : Ranks) (s : Setting) → (graph m s).size ≡ length s.plan.links
unfolding graph
graph_size m s = refl

pub graph_begin : (m : Ranks) (s : Setting) → (graph m s).begin ≡ s.cost
unfolding graph
graph_begin m s = refl
