-- The way to a labelled link, traced back. Assumes nothing.
use Rattle.std.proofs.Common.{◌≡◌, ℕ, zero, suc, ◌+◌, ◌-◌, ◌<◌, ◌≤◌, ◌≢◌, List, [], ◌∷◌, ◌++◌, length, get_or, take, drop, set, replicate, length-set, sym, refl, ap, ◌∙◌, subst, ⊎_elim, arith}
use Rattle.std.proofs.lemmas.List.{get_or-take, get_or-set_same, get_or-set_other, drop_more, drop_all, append_assoc, length-take-le}
use Rattle.std.proofs.lemmas.Bool.{cases_eq}
use Rattle.completion.specs.declared.tree.Tree.{Tree}
use Rattle.completion.specs.Graph.{Graph, Laws}
use Rattle.completion.specs.Growth.{State, Inv, Chain}
use Rattle.completion.specs.View.{view, depth_of, before_of, Threaded, Traced, Written}
use Rattle.completion.proofs.Ways.{Leads, chain_none, chain_more, chain_way, came_after, at_source, some_in}

module _ (g : Graph) (s k m : ℕ) (st : State) (inv : Inv g s k m st) (t : ℕ) where
  -- the first link comes straight after the beginning
  from_source : (a : ℕ) (bs : List ℕ) → st.depth a ≡ 1 → Chain g st t a bs → Leads g st t (a ∷ bs)
  from_source a bs e c =
      let f = came_after g s k m st inv a (omega arith) in
      let zero_deep : st.depth (st.before a) ≡ 0 = omega (arith, f.depth) in
      let first = at_source g s k m st inv (st.before a) f.settled zero_deep in
      chain_way g s k m st inv t a bs (subst (λ (x : ℕ). Chain g st t x (a ∷ bs)) first (chain_more g st t (st.before a) a bs f c))

  chain_found : (d a : ℕ) (bs : List ℕ) → st.depth a ≡ suc d → Chain g st t a bs → (ws : List ℕ) × Leads g st t ws × (length ws ≡ suc d + length bs)
  chain_found zero a bs e c = (a ∷ bs, from_source a bs e c, omega arith)
  chain_found (suc d) a bs e c =
      let f = came_after g s k m st inv a (omega arith) in
      let rest = chain_found d (st.before a) (a ∷ bs) (omega (arith, f.depth)) (chain_more g st t (st.before a) a bs f c) in
      (rest.0, rest.1, omega (arith, rest.2))

  -- a labelled link has a way, of as many links as it is deep
  pub reached : 0 < st.depth t → (ws : List ℕ) × Leads g st t ws × (length ws ≡ st.depth t)
  reached h =
      let r = chain_found (st.depth t - 1) t [] (omega arith) (chain_none g st t) in
      let z : length {A = ℕ} [] ≡ 0 = refl in
      (r.0, r.1, omega (arith, r.2, z))

suffix_cons : (xs : List ℕ) (k d : ℕ) → k < d → d ≤ length xs → drop k (take d xs) ≡ get_or xs k 0 ∷ drop (k + 1) (take d xs)
suffix_cons xs k d h l =
    let e : length (take d xs) ≡ d = length-take-le d xs l in
    drop_more (take d xs) k 0 (omega arith) ∙ ap (λ x. x ∷ drop (k + 1) (take d xs)) (get_or-take d xs k 0 h)

module _ {C : Type 0} (rank : C → ℕ) (begin : ℕ) (labels : List C) (tree : Tree) (g : Graph) (law : Laws g) (s k m : ℕ) (inv : Inv g s k m (view rank begin labels tree)) where
  abbrev st : State
  st = view rank begin labels tree

  before_view : (n : ℕ) → st.before n ≡ before_of tree n
  unfolding view
  before_view n = refl

  depth_view : (n : ℕ) → st.depth n ≡ depth_of tree n
  unfolding view
  depth_view n = refl

  pub threaded : g.size ≤ 1024 → Threaded tree
  threaded few n h =
      let deep : 0 < st.depth n = omega (arith, depth_view n) in
      let f = came_after g s k m st inv n deep in
      let below : depth_of tree n ≡ depth_of tree (before_of tree n) + 1 =
      sym (depth_view n) ∙ f.depth ∙ ap (λ x. x + 1) (depth_view (st.before n) ∙ ap (λ x. depth_of tree x) (before_view n)) in
      let some : 0 < st.depth (st.before n) = omega (arith, f.depth, depth_view n) in
      let at = some_in g law s k m st inv (st.before n) some in
      (omega (arith, at.0, before_view n), omega (arith, at.1, before_view n), below)

  module _ (t n : ℕ) (out : List ℕ) (deep : depth_of tree t ≡ n) (room : n ≤ length out) (tr : Traced tree t n 0 out) where
    chain_from : (d j : ℕ) → j + d + 1 ≡ n → Chain g st t (get_or out j 0) (drop (j + 1) (take n out)) × (st.depth (get_or out j 0) ≡ j + 1)
    chain_from zero j e =
        let at : get_or out j 0 ≡ t = (let q : j ≡ n - 1 = omega arith in ap (λ x. get_or out x 0) q) ∙ tr.last in
        let long : length (take n out) ≡ n = length-take-le n out room in
        let end : drop (j + 1) (take n out) ≡ [] = drop_all (j + 1) (take n out) (omega arith) in (
          subst (λ (x : ℕ). Chain g st t x (drop (j + 1) (take n out))) (sym at) (subst (λ (xs : List ℕ). Chain g st t t xs) (sym end) (chain_none g st t)),
          ap (λ x. st.depth x) at ∙ depth_view t ∙ deep ∙ omega arith,
        )
    chain_from (suc d) j e =
        let rest = chain_from d (j + 1) (omega arith) in
        let b = get_or out (j + 1) 0 in
        let f = came_after g s k m st inv b (omega (arith, rest.1)) in
        let at : st.before b ≡ get_or out j 0 = before_view b ∙ sym (tr.links j (omega arith) (omega arith)) in
        let c = chain_more g st t (st.before b) b (drop (j + 1 + 1) (take n out)) f rest.0 in
        let tail = suffix_cons out (j + 1) n (omega arith) room in (
          subst (λ (xs : List ℕ). Chain g st t (get_or out j 0) xs) (sym tail) (subst (λ (x : ℕ). Chain g st t x (b ∷ drop (j + 1 + 1) (take n out))) at c),
          ap (λ x. st.depth x) (sym at) ∙ omega (arith, f.depth, rest.1),
        )

    pub traced_leads : 0 < n → Leads g st t (take n out)
    traced_leads some =
        let c = chain_from (n - 1) 0 (omega arith) in
        let whole : take n out ≡ get_or out 0 0 ∷ drop 1 (take n out) = suffix_cons out 0 n some room in
        subst (λ (xs : List ℕ). Leads g st t xs) (sym whole) (from_source g s k m st inv t (get_or out 0 0) (drop 1 (take n out)) c.1 c.0)

-- one link more, before the others
pub traced_more : (tree : Tree) (t n k a v : ℕ) (out : List ℕ) → 0 < k → k < n → n ≤ length out → get_or out k 0 ≡ a → v ≡ before_of tree a
    → Traced tree t n k out → Traced tree t n (k - 1) (set out (k - 1) v)
traced_more tree t n k a v out some below room head is tr = record {
  last = kept (n - 1) (λ e. omega arith) ∙ tr.last;
  links = λ j low high. ⊎_elim
      (λ (e : j ≡ k - 1). let next : j + 1 ≡ k = omega arith in
      ap (λ x. get_or (set out (k - 1) v) x 0) e ∙ get_or-set_same out (k - 1) v 0 (omega arith) ∙ is
      ∙ ap (λ x. before_of tree x) (sym head ∙ sym (kept k (λ q. omega arith)) ∙ ap (λ x. get_or (set out (k - 1) v) x 0) (sym next)))
      (λ ne. let far : j ≢ k - 1 = ne in
      kept j far ∙ tr.links j (omega arith) high ∙ ap (λ x. before_of tree x) (sym (kept (j + 1) (λ q. omega arith))))
      (cases_eq j (k - 1));
}
  where
    kept : (i : ℕ) → i ≢ k - 1 → get_or (set out (k - 1) v) i 0 ≡ get_or out i 0
    kept i ne = get_or-set_other out (k - 1) i v 0 ne

pub traced_one : (tree : Tree) (t n : ℕ) (out : List ℕ) → n - 1 < length out → Traced tree t n (n - 1) (set out (n - 1) t)
traced_one tree t n out inside = record {
  last = get_or-set_same out (n - 1) t 0 inside;
  links = λ j low high. absurd (omega arith);
}

-- the same at the last place, where nothing was written yet, or before the others
pub traced_step : (tree : Tree) (t p v : ℕ) (out : List ℕ) → 0 < p → p ≤ length out → (p ≡ length out → v ≡ t)
    → (p < length out → (v ≡ before_of tree (get_or out p 0)) × Traced tree t (length out) p out)
    → Traced tree t (length (set out (p - 1) v)) (p - 1) (set out (p - 1) v)
traced_step tree t p v out some within first more =
    subst (λ (n : ℕ). Traced tree t n (p - 1) (set out (p - 1) v)) (sym (length-set out (p - 1) v)) (⊎_elim
    (λ (e : p ≡ length out).
    subst (λ (x : ℕ). Traced tree t (length out) (p - 1) (set out (p - 1) x)) (sym (first e))
    (subst (λ (k : ℕ). Traced tree t (length out) (k - 1) (set out (k - 1) t)) (sym e) (traced_one tree t (length out) out (omega arith))))
    (λ (ne : p ≡ length out → ⊥).
    let m = more (omega arith) in
    traced_more tree t (length out) p (get_or out p 0) v out some (omega arith) (omega arith) refl m.0 m.1)
    (cases_eq p (length out)))

-- a beginning, the way to a link, and zeros
pub written : (tree : Tree) (t : ℕ) (beginning line way blank line' : List ℕ) (count : ℕ) → length way ≡ depth_of tree t → count ≡ length way → Traced tree t (length way) 0 way
    → blank ≡ replicate (length line - length beginning - count) 0 → line' ≡ beginning ++ (way ++ blank)
    → Written tree t beginning line (length beginning + count) line'
written tree t beginning line way blank line' count deep long traced zeros e = record {
  way = way;
  deep = deep;
  traced = traced;
  total = ap (λ k. length beginning + k) long;
  route = e ∙ sym (append_assoc beginning way blank) ∙ ap (λ xs. (beginning ++ way) ++ xs) (zeros ∙ ap (λ k. replicate k 0) (omega arith));
}
