-- The ways of a beginning's setting are its completions. Assumes nothing.
use Rattle.std.proofs.Common.{◌≡◌, ℕ, zero, suc, ◌<◌, Bool, true, false, not, ◌||◌, eqb, leb, List, [], ◌∷◌, ◌++◌, length, Option, sym, refl, ap, ◌∙◌, subst, ⊎_elim, arith}
use Rattle.std.specs.List.{ContainsAt as Has, AllByRecursion}
use Rattle.std.proofs.ByRecursion.{All-append}
use Rattle.std.proofs.lemmas.List.{append-nil}
use Rattle.std.proofs.lemmas.Bool.{and_parts, and_from, or_parts, or_from, cases_Bool, both_ways, le-leb, not-true, not_from_false, eqb-true, eq-eqb}
use Rattle.network.specs.Plan.{Plan, link, laid, Laid}
use Rattle.network.specs.Roads.{Roads, Passable, Joins, closed, turn, barred}
use Rattle.network.specs.Shared.{stands_in}
use Rattle.measure.specs.Ranks.{Ranks}
use Rattle.measure.specs.Cost.{onward, step, cost}
use Rattle.routing.specs.Route.{Joined, last_of, Simple}
use Rattle.routing.proofs.Members.{has_none}
use Rattle.routing.proofs.Conditions.{joins_true, joins_is, stands_in_true, stands_in_is}
use Rattle.completion.specs.Graph.{Graph}
use Rattle.completion.specs.Graph as ways
use Rattle.completion.specs.Onward.{Setting, has, open_turn, step_from, graph}
use Rattle.completion.specs.Completion.{Begins, end_of, Completes, outset, Bans}
use Rattle.completion.proofs.Graphs.{laid_in}
use Rattle.completion.proofs.Splits.{last_append, all_parts, once_parts, once_from, joined_parts, joined_from, onward_append, Apart}

pub laid_is : (plan : Plan) (b : ℕ) → Laid plan.links b → laid plan.links b ≡ true
laid_is plan b l = and_from (leb 1 b) (leb b (length plan.links)) (le-leb 1 b l.0) (le-leb b (length plan.links) l.1)

module _ (m : Ranks) (roads : Roads) (from to : ℕ) (p : List ℕ) (banned forbidden : List Bool) (bound : Option ℕ) (bans : Bans roads p banned) where
  abbrev s : Setting
  s = outset m roads from to p banned forbidden bound

  abbrev g : Graph
  g = graph m s

  -- a link that a way may have
  abbrev Fits : ℕ → Type 0
  Fits b = Passable roads b × (Has p b → ⊥)

  fits : (b : ℕ) → laid roads.plan.links b ≡ true → has banned b ≡ false → Fits b
  fits b l f =
      let in_b = laid_in roads.plan b l in
      let q = or_parts (closed roads b) (stands_in b p) (sym (bans b in_b) ∙ f) in
      ((in_b, q.0), λ h. both_ways (stands_in b p) q.1 (stands_in_is b p h))

  not_banned : (b : ℕ) → Fits b → has banned b ≡ false
  not_banned b f =
      bans b f.0.0
      ∙ or_from (closed roads b) (stands_in b p) f.0.1
      (⊎_elim (λ e. absurd (f.1 (stands_in_true b p e))) (λ e. e) (cases_Bool (stands_in b p)))

  -- after a link of a way
  pub next_fits : (a b : ℕ) → g.next (suc a) b ≡ true → Fits b × Joins roads (suc a) b
  unfolding graph
  next_fits a b e =
      let u = and_parts (laid roads.plan.links b) _ e in
      let v = and_parts (not (has banned b)) _ u.1 in
      let w = and_parts (eqb (link roads.plan.links b).start (link roads.plan.links (suc a)).end) _ v.1 in (
        fits b u.0 (not-true (has banned b) v.0),
        joins_true roads (suc a) b (and_from _ _ (eq-eqb _ _ (sym (eqb-true _ _ w.0))) w.1),
      )

  pub fits_next : (a b : ℕ) → Fits b → Joins roads (suc a) b → g.next (suc a) b ≡ true
  unfolding graph
  fits_next a b f j =
      let t = and_parts (eqb (link roads.plan.links (suc a)).end (link roads.plan.links b).start) _ (joins_is roads (suc a) b j) in
      and_from (laid roads.plan.links b) _ (laid_is roads.plan b f.0.0)
      (and_from (not (has banned b)) _ (not_from_false (has banned b) (not_banned b f))
      (and_from (eqb (link roads.plan.links b).start (link roads.plan.links (suc a)).end) _ (eq-eqb _ _ (sym (eqb-true _ _ t.0))) t.1))

  pub joined_fits : (bs : List ℕ) (a : ℕ) → 0 < a → ways.Joined g a bs → AllByRecursion Fits bs × Joined roads a bs
  joined_fits [] a h j = (tt, tt)
  joined_fits (b ∷ bs) zero h j = absurd (omega arith)
  joined_fits (b ∷ bs) (suc a) h j =
      let n = next_fits a b j.0 in
      let rest = joined_fits bs b (omega (arith, n.0.0.0.0)) j.1 in
      ((n.0, rest.0), (n.1, rest.1))

  pub fits_joined : (bs : List ℕ) (a : ℕ) → 0 < a → AllByRecursion Fits bs → Joined roads a bs → ways.Joined g a bs
  fits_joined [] a h f j = tt
  fits_joined (b ∷ bs) zero h f j = absurd (omega arith)
  fits_joined (b ∷ bs) (suc a) h f j = (fits_next a b f.0 j.0, fits_joined bs b (omega (arith, f.0.0.0.0)) f.1 j.1)

  -- after the beginning
  abbrev SetsOut : ℕ → Type 0
  SetsOut b = ((link roads.plan.links b).start ≡ end_of roads from p) × (open_turn roads.plan (last_of 0 p) b ≡ true)

  pub first_fits : (b : ℕ) → g.next 0 b ≡ true → Fits b × (has forbidden b ≡ false) × SetsOut b
  unfolding graph
  first_fits b e =
      let u = and_parts (laid roads.plan.links b) _ e in
      let v = and_parts (not (has banned b || has forbidden b)) _ u.1 in
      let o = or_parts (has banned b) (has forbidden b) (not-true (has banned b || has forbidden b) v.0) in
      let w = and_parts (eqb (link roads.plan.links b).start (end_of roads from p)) _ v.1 in
      (fits b u.0 o.0, o.1, (eqb-true _ _ w.0, w.1))

  pub fits_first : (b : ℕ) → Fits b → has forbidden b ≡ false → SetsOut b → g.next 0 b ≡ true
  unfolding graph
  fits_first b f allowed o =
      and_from (laid roads.plan.links b) _ (laid_is roads.plan b f.0.0)
      (and_from (not (has banned b || has forbidden b)) _ (not_from_false (has banned b || has forbidden b) (or_from (has banned b) (has forbidden b) (not_banned b f) allowed))
      (and_from (eqb (link roads.plan.links b).start (end_of roads from p)) _ (eq-eqb _ _ o.0) o.1))

  cost_joined : (bs : List ℕ) (c a : ℕ) → 0 < a → AllByRecursion Fits bs → ways.cost_on g c a bs ≡ onward m roads.plan c a bs
  unfolding graph onward
  cost_joined [] c a h f = refl
  cost_joined (b ∷ bs) c zero h f = absurd (omega arith)
  cost_joined (b ∷ bs) c (suc a) h f = cost_joined bs (step m roads.plan c (suc a) b) b (omega (arith, f.0.0.0.0)) f.1

  goal_is : (b : ℕ) → g.goal b ≡ eqb (link roads.plan.links b).end to
  unfolding graph
  goal_is b = refl

  on_first : (b : ℕ) → g.on g.begin 0 b ≡ step_from m roads.plan (cost m roads.plan p) (last_of 0 p) b
  unfolding graph
  on_first b = refl

open_turn_is : (roads : Roads) (a b : ℕ) → 0 < a → open_turn roads.plan a b ≡ not (eqb (turn roads.plan.turns a b).class barred)
open_turn_is roads zero b h = absurd (omega arith)
open_turn_is roads (suc a) b h = refl

step_from_is : (m : Ranks) (plan : Plan) (c a b : ℕ) → 0 < a → step_from m plan c a b ≡ step m plan c a b
step_from_is m plan c zero b h = absurd (omega arith)
step_from_is m plan c (suc a) b h = refl

last_positive : (roads : Roads) (qs : List ℕ) (a : ℕ) → AllByRecursion (Passable roads) (a ∷ qs) → 0 < last_of a qs
last_positive roads [] a h = omega (arith, h.0.0.0)
last_positive roads (b ∷ qs) a h = last_positive roads qs b h.1

-- A way to the goal, in the words of routes, after the empty beginning and after another.
module _ (m : Ranks) (roads : Roads) (from to : ℕ) (banned forbidden : List Bool) (bound : Option ℕ) where
  abbrev ways_of : List ℕ → Graph
  ways_of p = graph m (outset m roads from to p banned forbidden bound)

  pub way_completes : (p : List ℕ) → Bans roads p banned → Begins roads from p → (ws : List ℕ) → ways.Arrives (ways_of p) ws
      → Completes roads from to p forbidden ws × (ways.cost (ways_of p) ws ≡ cost m roads.plan (p ++ ws))
  unfolding onward
  way_completes p bans start [] w = absurd w.0
  way_completes [] bans start (b ∷ bs) w =
      let f = first_fits m roads from to [] banned forbidden bound bans b w.0.0.0 in
      let j = joined_fits m roads from to [] banned forbidden bound bans bs b (omega (arith, f.0.0.0.0)) w.0.0.1 in
      let end : (link roads.plan.links (last_of b bs)).end ≡ to = eqb-true _ _ (sym (goal_is m roads from to [] banned forbidden bound bans (last_of b bs)) ∙ w.1) in (
        ((f.2.0, end, j.1, (f.0.0, all_of bs j.0), w.0.1), f.1),
        ap (λ x. ways.cost_on (ways_of []) x b bs) (on_first m roads from to [] banned forbidden bound bans b)
            ∙ cost_joined m roads from to [] banned forbidden bound bans bs _ b (omega (arith, f.0.0.0.0)) j.0,
      )
    where
      all_of : (cs : List ℕ) → AllByRecursion (λ c. Passable roads c × (Has [] c → ⊥)) cs → AllByRecursion (Passable roads) cs
      all_of [] h = tt
      all_of (c ∷ cs) h = (h.0.0, all_of cs h.1)
  way_completes (a ∷ qs) bans start (b ∷ bs) w =
      let p = a ∷ qs in
      let f = first_fits m roads from to p banned forbidden bound bans b w.0.0.0 in
      let some : 0 < b = omega (arith, f.0.0.0.0) in
      let j = joined_fits m roads from to p banned forbidden bound bans bs b some w.0.0.1 in
      let end : (link roads.plan.links (last_of b bs)).end ≡ to = eqb-true _ _ (sym (goal_is m roads from to p banned forbidden bound bans (last_of b bs)) ∙ w.1) in
      let before = last_positive roads qs a start.2 in
      let turns : not (eqb (turn roads.plan.turns (last_of a qs) b).class barred) ≡ true = sym (open_turn_is roads (last_of a qs) b before) ∙ f.2.1 in
      let onto : Joins roads (last_of a qs) b = joins_true roads (last_of a qs) b (and_from _ _ (eq-eqb _ _ (sym f.2.0)) turns) in (
        (
          (
            start.0,
            ap (λ x. (link roads.plan.links x).end) (last_append qs a b bs) ∙ end,
            joined_from roads qs a b bs start.1 onto j.1,
            All-append (Passable roads) p (b ∷ bs) start.2 (f.0.0, open_of bs j.0),
            once_from p (b ∷ bs) start.3 w.0.1 (f.0.1, apart_of bs j.0),
          ),
          f.1,
        ),
        ap (λ x. ways.cost_on (ways_of p) x b bs) (on_first m roads from to p banned forbidden bound bans b ∙ step_from_is m roads.plan _ (last_of a qs) b before)
            ∙ cost_joined m roads from to p banned forbidden bound bans bs _ b some j.0
            ∙ sym (onward_append m roads.plan qs _ a (b ∷ bs)),
      )
    where
      open_of : (cs : List ℕ) → AllByRecursion (λ c. Passable roads c × (Has (a ∷ qs) c → ⊥)) cs → AllByRecursion (Passable roads) cs
      open_of [] h = tt
      open_of (c ∷ cs) h = (h.0.0, open_of cs h.1)

      apart_of : (cs : List ℕ) → AllByRecursion (λ c. Passable roads c × (Has (a ∷ qs) c → ⊥)) cs → Apart (a ∷ qs) cs
      apart_of [] h = tt
      apart_of (c ∷ cs) h = (h.0.1, apart_of cs h.1)

  fit_all : (p cs : List ℕ) → AllByRecursion (Passable roads) cs → Apart p cs → AllByRecursion (λ c. Passable roads c × (Has p c → ⊥)) cs
  fit_all p [] h k = tt
  fit_all p (c ∷ cs) h k = ((h.0, k.0), fit_all p cs h.1 k.1)

  no_link_before : (cs : List ℕ) → Apart [] cs
  no_link_before [] = tt
  no_link_before (c ∷ cs) = ((λ h. has_none c h), no_link_before cs)

  pub completes_way : (p : List ℕ) → Bans roads p banned → (ws : List ℕ) → Completes roads from to p forbidden ws → ways.Arrives (ways_of p) ws
  completes_way p bans [] c = absurd c
  completes_way [] bans (b ∷ bs) c =
      let fit = fit_all [] (b ∷ bs) c.0.3 (no_link_before (b ∷ bs)) in
      let some : 0 < b = omega (arith, c.0.3.0.0.0) in (
        (
          (
            fits_first m roads from to [] banned forbidden bound bans b fit.0 c.1 (c.0.0, refl),
            fits_joined m roads from to [] banned forbidden bound bans bs b some fit.1 c.0.2,
          ),
          c.0.4,
        ),
        goal_is m roads from to [] banned forbidden bound bans (last_of b bs) ∙ eq-eqb _ _ c.0.1,
      )
  completes_way (a ∷ qs) bans (b ∷ bs) c =
      let p = a ∷ qs in
      let open_links = all_parts (Passable roads) p (b ∷ bs) c.0.3 in
      let different = once_parts p (b ∷ bs) c.0.4 in
      let joined = joined_parts roads qs a b bs c.0.2 in
      let fit = fit_all p (b ∷ bs) open_links.1 different.2 in
      let some : 0 < b = omega (arith, open_links.1.0.0.0) in
      let before = last_positive roads qs a open_links.0 in
      let turns = and_parts (eqb (link roads.plan.links (last_of a qs)).end (link roads.plan.links b).start) _ (joins_is roads (last_of a qs) b joined.1) in (
        (
          (
            fits_first m roads from to p banned forbidden bound bans b fit.0 c.1 (sym joined.1.0, open_turn_is roads (last_of a qs) b before ∙ turns.1),
            fits_joined m roads from to p banned forbidden bound bans bs b some fit.1 joined.2,
          ),
          different.1,
        ),
        goal_is m roads from to p banned forbidden bound bans (last_of b bs) ∙ eq-eqb _ _ (ap (λ x. (link roads.plan.links x).end) (sym (last_append qs a b bs)) ∙ c.0.1),
      )

-- a beginning of a route is a beginning, and so is a route
pub simple_begins : (roads : Roads) (from to : ℕ) (p ws : List ℕ) → Simple roads from to (p ++ ws) → Begins roads from p
simple_begins roads from to [] ws c = tt
simple_begins roads from to (a ∷ qs) [] c =
    let open_links = all_parts (Passable roads) (a ∷ qs) [] c.3 in
    let different = once_parts (a ∷ qs) [] c.4 in
    (c.0, subst (Joined roads a) (append-nil qs) c.2, open_links.0, different.0)
simple_begins roads from to (a ∷ qs) (b ∷ bs) c =
    let open_links = all_parts (Passable roads) (a ∷ qs) (b ∷ bs) c.3 in
    let different = once_parts (a ∷ qs) (b ∷ bs) c.4 in
    (c.0, (joined_parts roads qs a b bs c.2).0, open_links.0, different.0)
