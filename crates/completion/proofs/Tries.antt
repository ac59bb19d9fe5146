-- Going on to a link, as the code tries it. Assumes nothing.
use Rattle.std.proofs.Common.{◌≡◌, ℕ, ◌<◌, ◌≤◌, true, false, not, eqb, ap, ◌∙◌, ap₂, arith}
use Rattle.std.proofs.lemmas.Bool.{and_parts, and_from, both_ways, not-true, not_from_false, eq-eqb}
use Rattle.network.specs.Plan.{link, laid, Laid}
use Rattle.measure.specs.Ranks.{Ranks}
use Rattle.completion.specs.Graph.{Graph}
use Rattle.completion.specs.Growth.{State, Fine, Better}
use Rattle.completion.specs.Onward.{Setting, tail, stop, blocked, open_turn, step_from, too_dear, graph}
use Rattle.completion.proofs.Completions.{laid_is}

module _ (m : Ranks) (s : Setting) (st : State) (a t : ℕ) where
  abbrev g : Graph
  g = graph m s

  pub fine_blocked : blocked s a t ≡ true → Fine g st a t
  unfolding graph
  fine_blocked e n d c =
      let u = and_parts (laid s.plan.links t) _ n in
      absurd (both_ways (blocked s a t) (not-true (blocked s a t) (and_parts (not (blocked s a t)) _ u.1).0) e)

  pub fine_settled : st.settled t ≡ true → Fine g st a t
  fine_settled e n d c = absurd (both_ways (st.settled t) d e)

  pub fine_barred : open_turn s.plan (tail s a) t ≡ false → Fine g st a t
  unfolding graph
  fine_barred e n d c =
      let u = and_parts (laid s.plan.links t) _ n in
      let v = and_parts (not (blocked s a t)) _ u.1 in
      absurd (both_ways (open_turn s.plan (tail s a) t) e (and_parts (eqb (link s.plan.links t).start (stop s a)) _ v.1).1)

  -- what the way costs after it went on
  pub on_is : (after c c' : ℕ) → after ≡ tail s a → c ≡ st.label a → c' ≡ step_from m s.plan c after t → c' ≡ g.on (st.label a) a t
  unfolding graph
  on_is after c c' e f h = h ∙ ap₂ (λ (x y : ℕ). step_from m s.plan x y t) f e

  pub fine_dear : (c : ℕ) → c ≡ g.on (st.label a) a t → too_dear s.bound c ≡ true → Fine g st a t
  unfolding graph
  fine_dear c e f n d cheap = absurd (both_ways (too_dear s.bound c) (ap (λ x. too_dear s.bound x) e ∙ cheap) f)

  pub fine_known : (c : ℕ) → c ≡ g.on (st.label a) a t → 0 < st.depth t → st.label t ≤ c → Fine g st a t
  fine_known c e some low n d cheap = (some, omega arith)

  pub better : (c : ℕ) → Laid s.plan.links t → (link s.plan.links t).start ≡ stop s a → blocked s a t ≡ false → open_turn s.plan (tail s a) t ≡ true
      → st.settled t ≡ false → c ≡ g.on (st.label a) a t → too_dear s.bound c ≡ false → (0 < st.depth t → c ≤ st.label t) → Better g st a t c
  unfolding graph
  better c l start no_block turns left e cheap low = record {
    left = left;
    next = and_from (laid s.plan.links t) _ (laid_is s.plan t l)
        (and_from (not (blocked s a t)) _ (not_from_false (blocked s a t) no_block)
        (and_from (eqb (link s.plan.links t).start (stop s a)) _ (eq-eqb _ _ start) turns));
    cost = e;
    cheap = cheap;
    better = low;
  }
