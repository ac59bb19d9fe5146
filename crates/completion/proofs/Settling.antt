-- Taking the least of the frontier, and settling it. Assumes nothing.
use Rattle.std.proofs.Common.{◌≡◌, ℕ, zero, suc, ◌+◌, ◌-◌, ◌<◌, ◌≤◌, true, false, eqb, ◌≢◌, List, map, length, get_or, sym, refl, ap, ◌∙◌, subst, arith}
use Rattle.std.proofs.lemmas.Bool.{eq-eqb, ne_eqb}
use Rattle.network.specs.Marks.{marks, marked}
use Rattle.network.specs.Plan.{link}
use Rattle.measure.specs.Ranks.{Ranks}
use Rattle.frontier.specs.declared.frontier.Frontier.{Frontier}
use Rattle.frontier.specs.Tournament.{NoneWaits, Changed}
use Rattle.frontier.specs.Tournament as waiting
use Rattle.completion.specs.declared.quest.Stand.{Stand}
use Rattle.completion.specs.declared.tree.Step.{Step}
use Rattle.completion.specs.declared.tree.Tree.{Tree}
use Rattle.completion.specs.Steps.{no_step}
use Rattle.completion.specs.Graph.{Graph, Laws}
use Rattle.completion.specs.Growth.{State, Inv, Latest, Least, NoneSought}
use Rattle.completion.specs.Onward.{Setting, tail, stop, graph}
use Rattle.completion.specs.View.{view, tally, Growing, Stands, EndsBest}
use Rattle.completion.proofs.Graphs.{graph_size}
use Rattle.completion.proofs.Ways.{none_cheaper, none_sought, some_in, settle_inv, settle_late}
use Rattle.completion.proofs.Views.{label_at, depth_at, settle_view, settle_ready, tally_settled, tally_few, least_is, none_left}

goal_is : (m : Ranks) (s : Setting) (t : ℕ) → (graph m s).goal t ≡ eqb (link s.plan.links t).end s.to
unfolding graph
goal_is m s t = refl

-- labels that are the same
pub growing_same : {C : Type 0} (rank : C → ℕ) (g : Graph) (s k begin : ℕ) (labels labels' : List C) (tree : Tree) (nodes : Frontier) → labels' ≡ labels
    → Growing rank g s k begin labels tree nodes → Growing rank g s k begin labels' tree nodes
growing_same rank g s k begin labels labels' tree nodes e w = subst (λ (ls : List _). Growing rank g s k begin ls tree nodes) (sym e) w

module _ {C : Type 0} (rank : C → ℕ) (m : Ranks) (s : Setting) (law : Laws (graph m s)) (labels : List C) (tree : Tree) (nodes : Frontier) (source : ℕ)
    (w : Growing rank (graph m s) source (length s.plan.links + 1) s.cost labels tree nodes) where
  abbrev g : Graph
  g = graph m s

  abbrev st : State
  st = view rank s.cost labels tree

  whole : Inv g source (g.size + 1) (tally tree) st
  whole = subst (λ (n : ℕ). Inv g source (n + 1) (tally tree) st) (sym (graph_size m s)) w.inv

  pub nothing_left : NoneWaits nodes → NoneSought g
  nothing_left none = none_sought g law source (tally tree) st whole (none_left rank s.cost labels tree nodes w.ready none)

  module _ (t : ℕ) (l : waiting.Least (map rank labels) nodes t) where
    least : Least st t
    least = least_is rank s.cost labels tree nodes w.ready t l

    pub inside : (0 < t) × (t ≤ length s.plan.links)
    inside = let p = some_in g law source _ (tally tree) st w.inv t least.some in (p.0, omega (arith, p.1, graph_size m s))

    pub ends_best : (link s.plan.links t).end ≡ s.to → EndsBest g st t
    ends_best e = record {
      low = inside.0;
      high = omega (arith, inside.1, graph_size m s);
      some = least.some;
      goal = goal_is m s t ∙ eq-eqb _ _ e;
      best = none_cheaper g law source (tally tree) st whole t least;
    }

    -- t is settled: the frontier has lost it, and the tree's links are marked
    module _ (tree' : Tree) (few : t ≤ 1024) (on : (link s.plan.links t).end ≢ s.to)
        (e1 : marks tree'.settled ≡ marked (marks tree.settled) t true) (e2 : tree'.steps ≡ tree.steps) where
      abbrev after : State
      after = view rank s.cost labels tree'

      pub tally_more : tally tree' ≡ tally tree + 1
      tally_more = tally_settled rank s.cost labels tree tree' t inside.0 few e1 e2 least.left

      not_goal : g.goal t ≡ false
      not_goal = goal_is m s t ∙ ne_eqb _ _ on

      pub settled_growing : (nodes' : Frontier) → Changed nodes nodes' t false → Growing rank g t 1 s.cost labels tree' nodes'
      settled_growing nodes' gone = record {
        inv = subst (λ (n : ℕ). Inv g t 1 n after) (sym tally_more)
            (settle_inv g law source t (tally tree) st after whole least not_goal (settle_view rank s.cost labels tree tree' t inside.0 few e1 e2));
        ready = settle_ready rank s.cost labels tree tree' t inside.0 few e1 e2 nodes nodes' w.ready gone;
      }

      pub settled_late : Latest t after
      settled_late = settle_late g law source t (tally tree) st after whole least not_goal (settle_view rank s.cost labels tree tree' t inside.0 few e1 e2)

      pub settled_stands : (stand : Stand C) → stand.number ≡ t → stand.after ≡ t → stand.node ≡ (link s.plan.links t).end
          → 1024 ≤ length labels → stand.cost ≡ get_or labels (t - 1) stand.cost → (k : ℕ) → k ≡ t - 1 → stand.depth ≡ (get_or tree'.steps k no_step).depth
          → Stands rank s labels tree' stand
      settled_stands stand is after-t node room cost k at deep =
          let some : 0 < t = inside.0 in
          let d = depth_at rank s.cost labels tree' t k some at in
          let kept = ap (λ (xs : List Step). (get_or xs k no_step).depth) e2 in
          let d0 = depth_at rank s.cost labels tree t k some at in
          record {
            after = after-t ∙ sym (tail_is t some) ∙ ap (λ (n : ℕ). tail s n) (sym is);
            node = node ∙ sym (stop_is t some) ∙ ap (λ (n : ℕ). stop s n) (sym is);
            label = sym (label_at rank s.cost labels tree' t t stand.cost some refl (omega arith) cost) ∙ ap (λ (n : ℕ). after.label n) (sym is);
            depth = deep ∙ sym d ∙ ap (λ (n : ℕ). after.depth n) (sym is);
            shallow = omega (arith, deep, kept, d0, w.inv.shallow t, tally_more, tally_few rank s.cost tree');
          }
        where
          tail_is : (n : ℕ) → 0 < n → tail s n ≡ n
          tail_is zero h = absurd (omega arith)
          tail_is (suc n) h = refl

          stop_is : (n : ℕ) → 0 < n → stop s n ≡ (link s.plan.links n).end
          stop_is zero h = absurd (omega arith)
          stop_is (suc n) h = refl
