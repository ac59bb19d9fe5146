-- What growing ends with is a cheapest completion. Assumes nothing.
use Rattle.std.proofs.Common.{◌≡◌, ℕ, ◌+◌, ◌-◌, ◌<◌, ◌≤◌, Bool, true, List, [], ◌∷◌, ◌++◌, length, get_or, take, replicate, Option, sym, refl, ap, ◌∙◌, subst, arith, length-append}
use lib.ListN.{length-replicate}
use Rattle.std.proofs.lemmas.List.{take_at, take_all}
use Rattle.network.specs.Roads.{Roads}
use Rattle.measure.specs.Ranks.{Ranks, Lawful}
use Rattle.measure.specs.Cost.{cost}
use Rattle.routing.specs.Route.{Simple, last_of}
use Rattle.routing.specs.Places.{Holds}
use Rattle.routing.proofs.Lengths.{simple_length}
use Rattle.completion.specs.declared.tree.Tree.{Tree}
use Rattle.completion.specs.Graph.{Graph, Laws}
use Rattle.completion.specs.Graph as ways
use Rattle.completion.specs.Growth.{State, Inv, NoneSought}
use Rattle.completion.specs.Onward.{Setting, too_dear, graph}
use Rattle.completion.specs.View.{view, depth_of, Threaded, Written, EndsBest}
use Rattle.completion.specs.Completion.{Begins, end_of, Completes, CheapestCompletion, outset, Bans}
use Rattle.completion.proofs.Graphs.{graph_laws, graph_begin, graph_size, dear_above}
use Rattle.completion.proofs.Ways.{Leads, on_more}
use Rattle.completion.proofs.Views.{label_at}
use Rattle.completion.proofs.Traces.{reached, threaded, traced_leads}
use Rattle.completion.proofs.Completions.{way_completes, completes_way}

dear_is : (m : Ranks) (s : Setting) (c : ℕ) → (graph m s).dear c ≡ too_dear s.bound c
unfolding graph
dear_is m s c = refl

some_simple : (roads : Roads) (from to : ℕ) (p : List ℕ) (forbidden : List Bool) (ws : List ℕ) → Completes roads from to p forbidden ws → Simple roads from to (p ++ ws)
some_simple roads from to p forbidden [] c = absurd c
some_simple roads from to p forbidden (b ∷ bs) c = c.0

-- a line that holds links and then zeros
pub line_holds : (line r : List ℕ) (n : ℕ) → line ≡ r ++ replicate n 0 → Holds line r
line_holds line r n e =
    let long : length line ≡ length r + n = ap length e ∙ length-append r (replicate n 0) ∙ ap (λ k. length r + k) (length-replicate n 0) in
    let same : n ≡ length line - length r = omega arith in
    e ∙ ap (λ k. r ++ replicate k 0) same

module _ (m : Ranks) (lawful : Lawful m) (roads : Roads) (from to : ℕ) (p : List ℕ) (banned forbidden : List Bool) (bound : Option ℕ) (bans : Bans roads p banned) (begins : Begins roads from p) where
  abbrev s : Setting
  s = outset m roads from to p banned forbidden bound

  abbrev g : Graph
  g = graph m s

  law : Laws g
  law = graph_laws m lawful s

  completion_cost : (ws : List ℕ) → Completes roads from to p forbidden ws → ways.cost g ws ≡ cost m roads.plan (p ++ ws)
  completion_cost ws c = (way_completes m roads from to banned forbidden bound p bans begins ws (completes_way m roads from to banned forbidden bound p bans ws c)).1

  -- the beginning itself is too dear, and so is what goes on from it
  pub dear_from : too_dear bound (cost m roads.plan p) ≡ true → (ws : List ℕ) → Completes roads from to p forbidden ws → too_dear bound (cost m roads.plan (p ++ ws)) ≡ true
  dear_from e ws c =
      let more = on_more g law ws g.begin 0 in
      dear_above bound (cost m roads.plan p) (cost m roads.plan (p ++ ws)) (omega (arith, more, completion_cost ws c, graph_begin m s)) e

  pub none_below : NoneSought g → (ws : List ℕ) → Completes roads from to p forbidden ws → too_dear bound (cost m roads.plan (p ++ ws)) ≡ true
  none_below none ws c =
      ap (λ x. too_dear bound x) (sym (completion_cost ws c)) ∙ sym (dear_is m s (ways.cost g ws)) ∙ none ws (completes_way m roads from to banned forbidden bound p bans ws c)

  module _ {C : Type 0} (rank : C → ℕ) (begin : ℕ) (labels : List C) (tree : Tree) (source k n : ℕ) (inv : Inv g source k n (view rank begin labels tree)) (t : ℕ) (best : EndsBest g (view rank begin labels tree) t) (few : length roads.plan.links ≤ 1024) where
    abbrev st : State
    st = view rank begin labels tree

    pub depth_view : st.depth t ≡ depth_of tree t
    unfolding view
    depth_view = refl

    completes_of : (ws : List ℕ) → Leads g st t ws → Completes roads from to p forbidden ws × (ways.cost g ws ≡ cost m roads.plan (p ++ ws))
    completes_of ws l = way_completes m roads from to banned forbidden bound p bans begins ws (l.0, ap (λ x. g.goal x) l.1 ∙ best.goal)

    pub room_for : length p + depth_of tree t ≤ 1024
    room_for =
        let r = reached g source k n st inv t best.some in
        let c = completes_of r.0 r.1 in
        let short = simple_length roads from to (p ++ r.0) (some_simple roads from to p forbidden r.0 c.0) in
        omega (arith, short, length-append p r.0, r.2, depth_view, few)

    pub all_threaded : Threaded tree
    all_threaded = threaded rank begin labels tree g law source k n inv (omega (arith, graph_size m s, few))

    pub cheapest : (line line' : List ℕ) (count : ℕ) (c : C) → length line' ≡ length line → t - 1 < length labels → c ≡ get_or labels (t - 1) c → Written tree t p line count line'
        → CheapestCompletion m roads from to p forbidden bound line' (rank c) count
    cheapest line line' count c same inside is w =
        let way = w.way in
        let leads = subst (λ (xs : List ℕ). Leads g st t xs) (take_all (length way) way (omega arith))
        (traced_leads rank begin labels tree g law source k n inv t (length way) way (sym w.deep) (omega arith) w.traced (omega (arith, w.deep, depth_view, best.some))) in
        let comp = completes_of way leads in
        let total : count ≡ length (p ++ way) = w.total ∙ sym (length-append p way) in
        let front : take count line' ≡ p ++ way = ap (λ (xs : List ℕ). take count xs) w.route ∙ take_at (p ++ way) (replicate (length line - count) 0) count (sym total) in
        let price : rank c ≡ st.label t = sym (label_at rank begin labels tree t t c best.low refl inside is) in
        let long : length line' ≡ length (p ++ way) + (length line - count) =
        ap length w.route ∙ length-append (p ++ way) (replicate (length line - count) 0) ∙ ap (λ x. length (p ++ way) + x) (length-replicate (length line - count) 0) in
        record {
          links = way;
          completes = comp.0;
          written = front;
          holds = subst (λ (xs : List ℕ). Holds line' xs) (sym front) (line_holds line' (p ++ way) (length line - count) w.route);
          within = omega (arith, long, total);
          priced = price ∙ sym leads.2 ∙ comp.1;
          below = ap (λ x. too_dear bound x) price ∙ sym (dear_is m s (st.label t)) ∙ inv.cheap t best.some;
          least = λ ws d. omega (arith, price, completion_cost ws d, best.best ws (completes_way m roads from to banned forbidden bound p bans ws d));
        }

-- the setting of a quest that was made for the beginning
pub same_setting : (m : Ranks) (roads : Roads) (from to : ℕ) (p : List ℕ) (banned forbidden : List Bool) (bound : Option ℕ) (node after begin : ℕ)
    → node ≡ end_of roads from p → after ≡ last_of 0 p → begin ≡ cost m roads.plan p
    → ◌≡◌ {A = Setting} (record { plan = roads.plan; banned = banned; forbidden = forbidden; node = node; after = after; cost = begin; to = to; bound = bound })
    (outset m roads from to p banned forbidden bound)
same_setting m roads from to p banned forbidden bound node after begin e f h =
    ap (λ (x : ℕ). made x after begin) e ∙ ap (λ (x : ℕ). made (end_of roads from p) x begin) f ∙ ap (λ (x : ℕ). made (end_of roads from p) (last_of 0 p) x) h
  where
    made : ℕ → ℕ → ℕ → Setting
    made n a c = record { plan = roads.plan; banned = banned; forbidden = forbidden; node = n; after = a; cost = c; to = to; bound = bound }
