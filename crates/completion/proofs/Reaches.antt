-- The links that start at a node are those between two places. Assumes nothing.
use Rattle.std.proofs.Common.{◌≡◌, ℕ, zero, suc, ◌+◌, ◌-◌, ◌<◌, ◌≤◌, true, not, eqb, ◌≢◌, List, length, get_or, count_by, sym, ap, ◌∙◌, subst, ⊎_elim, arith}
use Rattle.std.proofs.lemmas.Bool.{and_parts, eqb-true, both_ways}
use Rattle.network.specs.declared.link.Link.{Link}
use Rattle.network.specs.declared.linkset.LinkSet.{LinkSet}
use Rattle.network.specs.Marks.{marks}
use Rattle.network.specs.Plan.{link, laid, Laid, no_link}
use Rattle.network.specs.Roads.{LinksBelow}
use Rattle.measure.specs.Ranks.{Ranks}
use Rattle.completion.specs.declared.quest.Stand.{Stand}
use Rattle.frontier.specs.declared.frontier.Frontier.{Frontier}
use Rattle.completion.specs.declared.tree.Tree.{Tree}
use Rattle.completion.specs.Graph.{Graph, Laws}
use Rattle.completion.specs.Growth.{State, Inv, Latest, Relaxed}
use Rattle.completion.specs.Onward.{Setting, stop, blocked, graph}
use Rattle.completion.specs.View.{view, tally, Ready, Growing, Stands}
use Rattle.completion.proofs.Graphs.{laid_in}
use Rattle.completion.proofs.Ways.{relaxed_more, relaxed_skip}

pub link_at : (links : List Link) (n : ℕ) → 0 < n → link links n ≡ get_or links (n - 1) no_link
link_at links zero h = absurd (omega arith)
link_at links (suc n) h = let e : n ≡ suc n - 1 = omega arith in ap (λ k. get_or links k no_link) e

-- the node that a link ends at, read from the links as they are lent
pub end_read : (links as_lent : List Link) (n k : ℕ) → 0 < n → k ≡ n - 1 → as_lent ≡ links → (link links n).end ≡ (get_or as_lent k no_link).end
end_read links as_lent n k some is same =
    ap (λ (l : Link). l.end) (link_at links n some ∙ ap (λ x. get_or links x no_link) (sym is) ∙ ap (λ (ls : List Link). get_or ls k no_link) (sym same))

-- the link at a place between the two starts at the node
pub between : (links : List Link) (node first end place n : ℕ) → LinksBelow links node first → LinksBelow links (node + 1) end
    → first ≤ place → place < end → n ≡ place + 1 → Laid links n × ((link links n).start ≡ node)
between links node first end place n f e low high is =
    let inside : place < length links = omega (arith, e.within) in
    let over = f.others place low inside in
    let under = e.lower place high in
    let at = link_at links n (omega arith) in
    let here : n - 1 ≡ place = omega arith in
    ((omega arith, omega arith), ap (λ (l : Link). l.start) (at ∙ ap (λ k. get_or links k no_link) here) ∙ omega arith)

module _ (m : Ranks) (s : Setting) where
  abbrev g : Graph
  g = graph m s

  next_start : (a t : ℕ) → g.next a t ≡ true → Laid s.plan.links t × ((link s.plan.links t).start ≡ stop s a)
  unfolding graph
  next_start a t e =
      let u = and_parts (laid s.plan.links t) _ e in
      let v = and_parts (not (blocked s a t)) _ u.1 in
      (laid_in s.plan t u.0, eqb-true _ _ (and_parts (eqb (link s.plan.links t).start (stop s a)) _ v.1).0)

  place_start : (a t : ℕ) → g.next a t ≡ true → (0 < t) × (t - 1 < length s.plan.links) × ((get_or s.plan.links (t - 1) no_link).start ≡ stop s a)
  place_start a t e =
      let n = next_start a t e in
      let some : 0 < t = omega (arith, n.0.0) in
      (some, omega (arith, n.0.0, n.0.1), ap (λ (l : Link). l.start) (sym (link_at s.plan.links t some)) ∙ n.1)

  none_below : (a node first : ℕ) → node ≡ stop s a → LinksBelow s.plan.links node first → (t : ℕ) → t < first + 1 → g.next a t ≡ true → ⊥
  none_below a node first e f t h n =
      let p = place_start a t n in
      omega (arith, p.0, p.2, f.lower (t - 1) (omega (arith, p.0)), e)

  none_above : (a node end : ℕ) → node ≡ stop s a → LinksBelow s.plan.links (node + 1) end → (t : ℕ) → end + 1 ≤ t → g.next a t ≡ true → ⊥
  none_above a node end e f t h n =
      let p = place_start a t n in
      omega (arith, p.0, p.2, f.others (t - 1) (omega (arith, p.0)) p.1, e)

  module _ {C : Type 0} (rank : C → ℕ) (begin a : ℕ) (labels : List C) (tree : Tree) (nodes : Frontier) where
    -- before the first of them
    pub growing_first : (node first : ℕ) → node ≡ stop s a → LinksBelow s.plan.links node first → Growing rank g a 1 begin labels tree nodes → Growing rank g a (first + 1) begin labels tree nodes
    growing_first node first e f w = record {
      inv = relaxed_skip g a 1 (first + 1) (tally tree) _ w.inv (λ t l h n. none_below a node first e f t h n);
      ready = w.ready;
    }

    -- behind the last
    pub growing_all : (node end place : ℕ) → node ≡ stop s a → LinksBelow s.plan.links (node + 1) end → end ≤ place → Growing rank g a (place + 1) begin labels tree nodes
        → Growing rank g a (length s.plan.links + 1) begin labels tree nodes
    growing_all node end place e f h w = record {
      inv = relaxed_skip g a (place + 1) (length s.plan.links + 1) (tally tree) _ w.inv (λ t l u n. none_above a node end e f t (omega arith) n);
      ready = w.ready;
    }

-- what stands at the source is kept
module _ {C : Type 0} (rank : C → ℕ) (m : Ranks) (s : Setting) (labels labels' : List C) (tree tree' : Tree) (stand : Stand C) (t : ℕ) where
  abbrev st : State
  st = view rank s.cost labels tree

  abbrev after : State
  after = view rank s.cost labels' tree'

  pub stands_kept : Stands rank s labels tree stand → Latest stand.number st → Relaxed (graph m s) stand.number t st after → Stands rank s labels' tree' stand
  stands_kept w late r =
      ⊎_elim
      (λ k. record {
        after = w.after;
        node = w.node;
        label = w.label ∙ ap (λ (x : State). x.label stand.number) (sym k.0);
        depth = w.depth ∙ ap (λ (x : State). x.depth stand.number) (sym k.0);
        shallow = w.shallow;
      })
      (λ k. let ne : stand.number ≢ t = λ e. both_ways (st.settled t) k.1.left (ap (λ (x : ℕ). st.settled x) (sym e) ∙ late.settled) in record {
        after = w.after;
        node = w.node;
        label = w.label ∙ sym (k.2.labels stand.number ne);
        depth = w.depth ∙ sym (k.2.depths stand.number ne);
        shallow = w.shallow;
      })
      r

  pub growing_more : (nodes nodes' : Frontier) → Laws (graph m s) → tree'.settled ≡ tree.settled → Growing rank (graph m s) stand.number t s.cost labels tree nodes → Latest stand.number st
      → Relaxed (graph m s) stand.number t st after → Ready rank s.cost labels' tree' nodes'
      → Growing rank (graph m s) stand.number (t + 1) s.cost labels' tree' nodes' × Latest stand.number after
  growing_more nodes nodes' law same w late r ready =
      let more = relaxed_more (graph m s) law stand.number t (tally tree) st after w.inv late r in
      let count : tally tree ≡ tally tree' = ap (λ (x : LinkSet). count_by (λ b. b) (marks x)) (sym same) in
      (record { inv = subst (λ (k : ℕ). Inv (graph m s) stand.number (t + 1) k after) count more.0; ready = ready }, more.1)
