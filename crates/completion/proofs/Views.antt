-- What the code has written down, read as a state. Assumes nothing.
use Rattle.std.proofs.Common.{◌≡◌, ℕ, zero, suc, ◌+◌, ◌-◌, ◌<◌, ◌≤◌, Bool, true, false, cond, not, ◌&&◌, ltb, ◌≢◌, List, ◌∷◌, map, length, get_or, set, replicate, count_by, sym, refl, ap, ◌∙◌, ⊎_elim, arith}
use Rattle.std.proofs.lemmas.List.{get_or-set_same, get_or-set_other}
use Rattle.std.proofs.lemmas.List.Sums.{sum_by-set, count_by-le-length}
use Rattle.std.proofs.lemmas.Bool.{cases_eq, cases_Bool, both_ways, and_right, and_parts, and_from, lt-ltb, ltb-true, not-true, not_from_true, not_from_false}
use Rattle.network.specs.declared.linkset.LinkSet.{LinkSet}
use Rattle.network.specs.Marks.{marks, marked}
use Rattle.network.proofs.Marked.{length_marks}
use Rattle.frontier.specs.declared.frontier.Frontier.{Frontier}
use Rattle.frontier.specs.Tournament.{waits, Changed, NoneWaits, label}
use Rattle.frontier.specs.Tournament as waiting
use Rattle.frontier.proofs.Frontiers.{waits_own}
use Rattle.frontier.proofs.Labelled.{label_read, label_written, label_kept}
use Rattle.completion.specs.declared.tree.Step.{Step}
use Rattle.completion.specs.declared.tree.Tree.{Tree}
use Rattle.completion.specs.Steps.{no_step}
use Rattle.completion.specs.Graph.{Graph}
use Rattle.completion.specs.Growth.{State, Put, Settled, Fresh, Least, AllSettled}
use Rattle.completion.specs.View.{step_of, view, tally, Ready}

pub pad_get : {X : Type 0} (x d : X) (xs : List X) (n : ℕ) → 0 < n → get_or (x ∷ xs) n d ≡ get_or xs (n - 1) d
pad_get x d xs zero h = absurd (omega arith)
pad_get x d xs (suc n) h = let e : n ≡ suc n - 1 = omega arith in ap (λ k. get_or xs k d) e

pad_same : {X : Type 0} (x d v : X) (xs : List X) (n : ℕ) → 0 < n → n - 1 < length xs → get_or (x ∷ set xs (n - 1) v) n d ≡ v
pad_same x d v xs n h l = pad_get x d (set xs (n - 1) v) n h ∙ get_or-set_same xs (n - 1) v d l

pad_other : {X : Type 0} (x d v : X) (xs : List X) (n k : ℕ) → 0 < n → k ≢ n → get_or (x ∷ set xs (n - 1) v) k d ≡ get_or (x ∷ xs) k d
pad_other x d v xs n zero h e = refl
pad_other x d v xs n (suc k) h e = let ne : k ≢ n - 1 = λ q. e (omega arith) in get_or-set_other xs (n - 1) k v d ne

marked_set : (ms : List Bool) (n : ℕ) (b : Bool) → 0 < n → marked ms n b ≡ set ms (n - 1) b
marked_set ms zero b h = absurd (omega arith)
marked_set ms (suc n) b h = let e : n ≡ suc n - 1 = omega arith in ap (λ k. set ms k b) e

getD_same : {X : Type 0} (x : X) (n b : ℕ) → get_or (replicate n x) b x ≡ x
getD_same x zero b = refl
getD_same x (suc n) zero = refl
getD_same x (suc n) (suc b) = getD_same x n b

-- how a link was reached, read at its place
pub step_read : (tree : Tree) (n k : ℕ) → 0 < n → k ≡ n - 1 → get_or tree.steps k no_step ≡ step_of tree n
step_read tree n k h is = ap (λ i. get_or tree.steps i no_step) is ∙ sym (pad_get no_step no_step tree.steps n h)

module _ {C : Type 0} (rank : C → ℕ) (begin : ℕ) where
  label_is : (labels : List C) (tree : Tree) (n : ℕ) → 0 < n → (view rank begin labels tree).label n ≡ label (map rank labels) n
  unfolding view
  label_is labels tree zero h = absurd (omega arith)
  label_is labels tree (suc n) h = refl

  -- a cost that was read at a link's place
  pub label_at : (labels : List C) (tree : Tree) (n k : ℕ) (x : C) → 0 < n → k ≡ n → n - 1 < length labels → x ≡ get_or labels (k - 1) x → (view rank begin labels tree).label n ≡ rank x
  label_at labels tree n k x h is l e = label_is labels tree n h ∙ label_read rank labels n x h l (e ∙ ap (λ i. get_or labels (i - 1) x) is)

  pub label_none : (labels : List C) (tree : Tree) → (view rank begin labels tree).label 0 ≡ begin
  unfolding view
  label_none labels tree = refl

  pub depth_at : (labels : List C) (tree : Tree) (n k : ℕ) → 0 < n → k ≡ n - 1 → (view rank begin labels tree).depth n ≡ (get_or tree.steps k no_step).depth
  unfolding view
  depth_at labels tree n k h is = ap (λ (x : Step). x.depth) (sym (step_read tree n k h is))

  pub depth_none : (labels : List C) (tree : Tree) → (view rank begin labels tree).depth 0 ≡ 0
  unfolding view
  depth_none labels tree = refl

  pub settled_at : (labels : List C) (tree : Tree) (n k : ℕ) → 0 < n → k ≡ n → (view rank begin labels tree).settled n ≡ get_or (false ∷ marks tree.settled) k false
  unfolding view
  settled_at labels tree zero k h is = absurd (omega arith)
  settled_at labels tree (suc n) k h is = ap (λ i. get_or (false ∷ marks tree.settled) i false) (sym is)

  module _ (labels : List C) (tree : Tree) (labels' : List C) (tree' : Tree) (t : ℕ) (c : C) (step : Step) (some : 0 < t) (few : t ≤ 1024) (room : 1024 ≤ length labels)
      (e1 : labels' ≡ set labels (t - 1) c) (e2 : tree'.steps ≡ set tree.steps (t - 1) step) (e4 : tree'.settled ≡ tree.settled) where
    pub put_view : Put t (rank c) step.depth step.before (view rank begin labels tree) (view rank begin labels' tree')
    unfolding view
    put_view =
        let within : t - 1 < length labels = omega arith in
        let inside : t - 1 < length tree.steps = omega (arith, tree.all) in
        let here = ap (λ (xs : List Step). get_or (no_step ∷ xs) t no_step) e2 ∙ pad_same no_step no_step step tree.steps t some inside in
        let there : (k : ℕ) → k ≢ t → get_or (no_step ∷ tree'.steps) k no_step ≡ get_or (no_step ∷ tree.steps) k no_step =
        λ k ne. ap (λ (xs : List Step). get_or (no_step ∷ xs) k no_step) e2 ∙ pad_other no_step no_step step tree.steps t k some ne in
        record {
          label = label_is labels' tree' t some ∙ ap (λ x. label (map rank x) t) e1 ∙ label_written rank labels t c some within;
          depth = ap (λ (x : Step). x.depth) here;
          before = ap (λ (x : Step). x.before) here;
          labels = λ k ne. other_label k ne;
          depths = λ k ne. ap (λ (x : Step). x.depth) (there k ne);
          befores = λ k ne. ap (λ (x : Step). x.before) (there k ne);
          settled = λ k. ap (λ x. get_or (true ∷ marks x) k false) e4;
        }
      where
        other_label : (k : ℕ) → k ≢ t → get_or (begin ∷ map rank labels') k 0 ≡ get_or (begin ∷ map rank labels) k 0
        other_label zero ne = refl
        other_label (suc k) ne = ap (λ x. label (map rank x) (suc k)) e1 ∙ label_kept rank labels t (suc k) c some ne

    -- the frontier follows
    pub put_ready : (nodes nodes' : Frontier) → 0 < step.depth → (view rank begin labels tree).settled t ≡ false → Ready rank begin labels tree nodes → Changed nodes nodes' t true → Ready rank begin labels' tree' nodes'
    put_ready nodes nodes' deep left ready changed =
        let p = put_view in
        record {
          waiting = λ n. ⊎_elim
              (λ (e : n ≡ t). ap (λ x. waits nodes' x) e ∙ changed.here
              ∙ sym (ap (λ x. ltb 0 ((view rank begin labels' tree').depth x) && not ((view rank begin labels' tree').settled x)) e
              ∙ ap (λ x. ltb 0 x && not ((view rank begin labels' tree').settled t)) p.depth
              ∙ ap (λ x. x && not ((view rank begin labels' tree').settled t)) (lt-ltb 0 step.depth deep)
              ∙ ap (λ x. not x) (p.settled t ∙ left)))
              (λ ne. changed.others n ne ∙ ready.waiting n
              ∙ sym (ap (λ x. ltb 0 x && not ((view rank begin labels' tree').settled n)) (p.depths n ne)
              ∙ ap (λ x. ltb 0 ((view rank begin labels tree).depth n) && not x) (p.settled n)))
              (cases_eq n t);
        }

  module _ (labels : List C) (tree tree' : Tree) (t : ℕ) (some : 0 < t) (few : t ≤ 1024)
      (e1 : marks tree'.settled ≡ marked (marks tree.settled) t true) (e2 : tree'.steps ≡ tree.steps) where
    marks_now : marks tree'.settled ≡ set (marks tree.settled) (t - 1) true
    marks_now = e1 ∙ marked_set (marks tree.settled) t true some

    pub settle_view : Settled t (view rank begin labels tree) (view rank begin labels tree')
    unfolding view
    settle_view =
        let within : t - 1 < length (marks tree.settled) = omega (arith, length_marks tree.settled) in
        record {
          done = ap (λ x. get_or (true ∷ x) t false) marks_now ∙ pad_same true false true (marks tree.settled) t some within;
          others = λ k ne. ap (λ x. get_or (true ∷ x) k false) marks_now ∙ pad_other true false true (marks tree.settled) t k some ne;
          labels = λ k. refl;
          depths = λ k. ap (λ (xs : List Step). (get_or (no_step ∷ xs) k no_step).depth) e2;
          befores = λ k. ap (λ (xs : List Step). (get_or (no_step ∷ xs) k no_step).before) e2;
        }

    pub settle_ready : (nodes nodes' : Frontier) → Ready rank begin labels tree nodes → Changed nodes nodes' t false → Ready rank begin labels tree' nodes'
    settle_ready nodes nodes' ready changed =
        let u = settle_view in
        record {
          waiting = λ n. ⊎_elim
              (λ (e : n ≡ t). ap (λ x. waits nodes' x) e ∙ changed.here
              ∙ sym (and_right (ltb 0 ((view rank begin labels tree').depth n)) (not ((view rank begin labels tree').settled n))
              (not_from_true _ (ap (λ x. (view rank begin labels tree').settled x) e ∙ u.done))))
              (λ ne. changed.others n ne ∙ ready.waiting n
              ∙ sym (ap (λ x. ltb 0 x && not ((view rank begin labels tree').settled n)) (u.depths n)
              ∙ ap (λ x. ltb 0 ((view rank begin labels tree).depth n) && not x) (u.others n ne)))
              (cases_eq n t);
        }

    pub tally_settled : (view rank begin labels tree).settled t ≡ false → tally tree' ≡ tally tree + 1
    unfolding view
    tally_settled left =
        let within : t - 1 < length (marks tree.settled) = omega (arith, length_marks tree.settled) in
        let z : ◌≡◌ {A = ℕ} (cond (get_or (marks tree.settled) (t - 1) false) 1 0) 0 =
        ap (λ x. cond x 1 0) (sym (pad_get true false (marks tree.settled) t some) ∙ left) in
        let n : tally tree' ≡ tally tree + 1 = ap (λ x. tally_of x) marks_now ∙ more (marks tree.settled) (t - 1) within z in n
      where
        tally_of : List Bool → ℕ
        tally_of ms = count_by (λ b. b) ms

        more : (xs : List Bool) (i : ℕ) → i < length xs → ◌≡◌ {A = ℕ} (cond (get_or xs i false) 1 0) 0 → tally_of (set xs i true) ≡ tally_of xs + 1
        more xs i h z = let s = sum_by-set (λ x. cond x 1 0) xs i true false h in omega (arith, s, z)

  pub tally_few : (tree : Tree) → tally tree ≤ 1024
  tally_few tree = omega (arith, count_by-le-length (λ b. b) (marks tree.settled), length_marks tree.settled)

  module _ (labels : List C) (tree : Tree) (e1 : tree.steps ≡ replicate 1024 no_step) (e2 : marks tree.settled ≡ replicate 1024 false) where
    pub clear_depth : (b : ℕ) → (view rank begin labels tree).depth b ≡ 0
    unfolding view
    clear_depth b = ap (λ (x : Step). x.depth) (ap (λ (xs : List Step). get_or (no_step ∷ xs) b no_step) e1 ∙ getD_same no_step 1025 b)

    pub clear_fresh : (g : Graph) → begin ≡ g.begin → Fresh g (view rank begin labels tree)
    unfolding view
    clear_fresh g e = record {
      source = refl;
      begin = e;
      none = λ b h. settled_at labels tree b b h refl ∙ ap (λ x. get_or (false ∷ x) b false) e2 ∙ getD_same false 1025 b;
      unlabelled = clear_depth;
    }

    pub clear_ready : (nodes : Frontier) → NoneWaits nodes → Ready rank begin labels tree nodes
    clear_ready nodes none = record {
      waiting = λ n. none n ∙ sym (ap (λ x. ltb 0 x && not ((view rank begin labels tree).settled n)) (clear_depth n));
    }

    pub clear_tally : tally tree ≡ 0
    clear_tally = ap (λ x. count_by (λ b. b) x) e2

  -- what the frontier has is no part of the state
  pub view_same : (labels : List C) (tree tree' : Tree) → tree'.steps ≡ tree.steps → tree'.settled ≡ tree.settled
      → view rank begin labels tree' ≡ view rank begin labels tree
  unfolding view
  view_same labels tree tree' e s =
      ap (λ (xs : List Step). made xs (marks tree'.settled)) e ∙ ap (λ (x : LinkSet). made tree.steps (marks x)) s
    where
      made : List Step → List Bool → State
      made xs ms = record {
        label = λ n. get_or (begin ∷ map rank labels) n 0;
        depth = λ n. (get_or (no_step ∷ xs) n no_step).depth;
        before = λ n. (get_or (no_step ∷ xs) n no_step).before;
        settled = λ n. get_or (true ∷ ms) n false;
      }

  -- the link that the frontier has as its least is the least of the state
  module _ (labels : List C) (tree : Tree) (nodes : Frontier) (ready : Ready rank begin labels tree nodes) where
    waits_open : (n : ℕ) → waits nodes n ≡ true → (0 < (view rank begin labels tree).depth n) × ((view rank begin labels tree).settled n ≡ false)
    waits_open n e =
        let p = and_parts (ltb 0 ((view rank begin labels tree).depth n)) (not ((view rank begin labels tree).settled n)) (sym (ready.waiting n) ∙ e) in
        (ltb-true 0 _ p.0, not-true _ p.1)

    open_waits : (n : ℕ) → 0 < (view rank begin labels tree).depth n → (view rank begin labels tree).settled n ≡ false → waits nodes n ≡ true
    open_waits n d s = ready.waiting n ∙ and_from _ _ (lt-ltb 0 _ d) (not_from_false _ s)

    pub least_is : (t : ℕ) → waiting.Least (map rank labels) nodes t → Least (view rank begin labels tree) t
    least_is t l = let o = waits_open t l.waiting in record {
      some = o.0;
      left = o.1;
      least = λ b d s. let w = open_waits b d s in
          omega (arith, label_is labels tree t l.low, label_is labels tree b (waits_own nodes b w).0, l.least b w);
    }

    pub none_left : NoneWaits nodes → AllSettled (view rank begin labels tree)
    none_left none b d =
        ⊎_elim (λ e. e) (λ e. absurd (both_ways (waits nodes b) (none b) (open_waits b d e))) (cases_Bool ((view rank begin labels tree).settled b))
