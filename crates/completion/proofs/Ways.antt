-- The search is right: over any lawful graph, with no code in sight. Assumes nothing.
use Rattle.std.proofs.Common.{◌≡◌, ℕ, ◌+◌, ◌<◌, ◌≤◌, true, false, ◌≢◌, ◌⊎◌, List, [], ◌∷◌, sym, refl, ap, ◌∙◌, subst, inl, inr, ⊎_elim, arith}
use Rattle.std.specs.List.{ContainsAt as Has}
use Rattle.std.proofs.lemmas.Bool.{cases_Bool, cases_eq, cases_lt, both_ways}
use Rattle.network.specs.Shared.{Once}
use Rattle.routing.specs.Route.{last_of}
use Rattle.routing.proofs.Members.{has_cases, has_none}
use Rattle.completion.specs.Graph.{Graph, Laws, Joined, Way, cost_on, cost, last, Arrives}
use Rattle.completion.specs.Growth.{State, Follows, Labelled, Inv, Latest, Least, AllSettled, Fine, Better, Put, Relaxed, Settled, Fresh, Deep, Chain, NoneCheaper, NoneSought}

-- going on never lowers a cost
pub on_more : (g : Graph) → Laws g → (bs : List ℕ) (c a : ℕ) → c ≤ cost_on g c a bs
on_more g law [] c a = omega arith
on_more g law (b ∷ bs) c a =
    let raises = law.on_raises c a b in
    let rest = on_more g law bs (g.on c a b) b in
    omega arith

-- a labelled link that is not settled costs no more than c, or c is too dear
abbrev Waits : Graph → State → ℕ → Type 0
Waits g st c = (g.dear c ≡ true) ⊎ ((j : ℕ) × ((0 < st.depth j) × (st.settled j ≡ false) × (st.label j ≤ c)))

module _ (g : Graph) (law : Laws g) (s m : ℕ) (st : State) (inv : Inv g s (g.size + 1) m st) where
  up_to_date : (a b : ℕ) → st.settled a ≡ true → g.next a b ≡ true → g.dear (g.on (st.label a) a b) ≡ false → Labelled st b (g.on (st.label a) a b)
  up_to_date a b d n cheap = inv.relaxed a b d (λ _. omega (arith, (law.next_in a b n).1)) n cheap

  onward_waits : (bs : List ℕ) (c a : ℕ) → st.settled a ≡ true → st.label a ≤ c → Joined g a bs
      → (st.settled (last_of a bs) ≡ true) ⊎ Waits g st (cost_on g c a bs)
  onward_waits [] c a d l j = inl d
  onward_waits (b ∷ bs) c a d l j =
      let keep = law.on_orders (st.label a) c a b l in
      let more = on_more g law bs (g.on c a b) b in
      ⊎_elim
      (λ e. inr (inl (law.dear_above (g.on (st.label a) a b) (cost_on g (g.on c a b) b bs) (omega arith) e)))
      (λ e. let r = up_to_date a b d j.0 e in
      let low : st.label b ≤ g.on c a b = omega (arith, r.1, keep) in
      ⊎_elim
      (λ z. onward_waits bs (g.on c a b) b z low j.1)
      (λ z. inr (inr (b, (r.0, z, omega (arith, low, more)))))
      (cases_Bool (st.settled b)))
      (cases_Bool (g.dear (g.on (st.label a) a b)))

  last_in : (bs : List ℕ) (a : ℕ) → 0 < a → Joined g a bs → 0 < last_of a bs
  last_in [] a h j = h
  last_in (b ∷ bs) a h j = last_in bs b (law.next_in a b j.0).0 j.1

  pub way_waits : (ws : List ℕ) → Arrives g ws → Waits g st (cost g ws)
  way_waits [] w = absurd w.0
  way_waits (b ∷ bs) w =
      let joined = w.0.0 in
      let positive = last_in bs b (law.next_in 0 b joined.0).0 joined.1 in
      ⊎_elim
      (λ d. absurd (both_ways (g.goal (last_of b bs)) (inv.settled (last_of b bs) d positive).1 w.1))
      (λ o. o)
      (onward_waits (b ∷ bs) g.begin 0 inv.source (omega (arith, inv.begin)) joined)

  pub none_cheaper : (t : ℕ) → Least st t → NoneCheaper g (st.label t)
  none_cheaper t l ws w =
      ⊎_elim
      (λ e. ⊎_elim
      (λ (lt : cost g ws < st.label t). absurd (both_ways (g.dear (st.label t)) (inv.cheap t l.some) (law.dear_above (cost g ws) (st.label t) (omega arith) e)))
      (λ h. h)
      (cases_lt (cost g ws) (st.label t)))
      (λ o. omega (arith, l.least o.0 o.1.0 o.1.1, o.1.2))
      (way_waits ws w)

  pub none_sought : AllSettled st → NoneSought g
  none_sought all ws w =
      ⊎_elim (λ e. e) (λ o. absurd (both_ways (st.settled o.0) o.1.1 (all o.0 o.1.0))) (way_waits ws w)

-- The chain to a labelled link.

deeper : (st : State) (bs : List ℕ) (d a : ℕ) → st.depth a ≤ d → Deep st d bs → Has bs a → ⊥
deeper st [] d a h e k = has_none a k
deeper st (b ∷ bs) d a h e k =
    ⊎_elim
    (λ q. let same = ap (λ x. st.depth x) q in omega (arith, same, e.0))
    (λ k2. deeper st bs (d + 1) a (omega arith) e.1 k2)
    (has_cases bs b a k)

once : (st : State) (bs : List ℕ) (d : ℕ) → Deep st d bs → Once bs
once st [] d e = tt
once st (b ∷ bs) d e = (deeper st bs (d + 1) b (omega (arith, e.0)) e.1, once st bs (d + 1) e.1)

pub chain_none : (g : Graph) (st : State) (t : ℕ) → Chain g st t t []
chain_none g st t = record { joined = tt; deep = tt; total = refl; last = refl }

pub chain_more : (g : Graph) (st : State) (t a b : ℕ) (bs : List ℕ) → Follows g st a b → Chain g st t b bs → Chain g st t a (b ∷ bs)
chain_more g st t a b bs f c = record {
  joined = (f.next, c.joined);
  deep = (f.depth, let P : ℕ → Type 0 = λ d. Deep st d bs in subst P f.depth c.deep);
  total = ap (λ x. cost_on g x b bs) (sym f.label) ∙ c.total;
  last = c.last;
}

-- the links of the way to t
abbrev pub Leads : Graph → State → (t : ℕ) → List ℕ → Type 0
Leads g st t ws = Way g ws × (last ws ≡ t) × (cost g ws ≡ st.label t)

pub chain_way : (g : Graph) (s k m : ℕ) (st : State) → Inv g s k m st → (t b : ℕ) (bs : List ℕ) → Chain g st t 0 (b ∷ bs) → Leads g st t (b ∷ bs)
chain_way g s k m st inv t b bs c = (
  (c.joined, once st (b ∷ bs) (st.depth 0) c.deep),
  c.last,
  ap (λ x. cost_on g x 0 (b ∷ bs)) (sym inv.begin) ∙ c.total,
)

pub came_after : (g : Graph) (s k m : ℕ) (st : State) → Inv g s k m st → (b : ℕ) → 0 < st.depth b → Follows g st (st.before b) b
came_after g s k m st inv b h =
    let f = inv.came b h in
    let P : ℕ → Type 0 = λ a. Follows g st a b in
    subst P (sym f.1.before) f.1

-- only the beginning is at depth 0 among what leads on
pub at_source : (g : Graph) (s k m : ℕ) (st : State) → Inv g s k m st → (a : ℕ) → st.settled a ≡ true → st.depth a ≡ 0 → a ≡ 0
at_source g s k m st inv a d e =
    ⊎_elim (λ z. z) (λ ne. let n0 : a ≢ 0 = ne in absurd (omega (arith, e, (inv.settled a d (omega arith)).0))) (cases_eq a 0)

pub some_in : (g : Graph) → Laws g → (s k m : ℕ) (st : State) → Inv g s k m st → (b : ℕ) → 0 < st.depth b → (0 < b) × (b ≤ g.size)
some_in g law s k m st inv b h = let f = inv.came b h in law.next_in f.0 b f.1.next

-- One link is tried from s.

module _ (g : Graph) (law : Laws g) (s t m : ℕ) (st now : State) (inv : Inv g s t m st) (late : Latest s st) (c : ℕ) (bt : Better g st s t c) (p : Put t c (st.depth s + 1) s st now) where
  settled_not_t : (a : ℕ) → st.settled a ≡ true → a ≢ t
  settled_not_t a d e = both_ways (st.settled t) bt.left (ap (λ x. st.settled x) (sym e) ∙ d)

  s_t : s ≢ t
  s_t = settled_not_t s late.settled

  zero_t : 0 ≢ t
  zero_t = settled_not_t 0 inv.source

  taken_came : (b : ℕ) → 0 < now.depth b → (a : ℕ) × Follows g now a b
  taken_came b h =
      ⊎_elim
      (λ e. let at : (a : ℕ) × Follows g now a t = (
        s,
        record {
          before = p.before;
          settled = p.settled s ∙ late.settled;
          next = bt.next;
          depth = p.depth ∙ ap (λ x. x + 1) (sym (p.depths s s_t));
          label = p.label ∙ bt.cost ∙ ap (λ x. g.on x s t) (sym (p.labels s s_t));
        },
      ) in let P : ℕ → Type 0 = λ x. (a : ℕ) × Follows g now a x in subst P (sym e) at)
      (λ e. let f = inv.came b (omega (arith, p.depths b e)) in
      let a = f.0 in let ne = settled_not_t a f.1.settled in (
        a,
        record {
          before = p.befores b e ∙ f.1.before;
          settled = p.settled a ∙ f.1.settled;
          next = f.1.next;
          depth = p.depths b e ∙ f.1.depth ∙ ap (λ x. x + 1) (sym (p.depths a ne));
          label = p.labels b e ∙ f.1.label ∙ ap (λ x. g.on x a b) (sym (p.labels a ne));
        },
      ))
      (cases_eq b t)

  taken_low : (b : ℕ) → 0 < st.depth b → Labelled now b (st.label b)
  taken_low b h =
      ⊎_elim
      (λ e. let P : ℕ → Type 0 = λ x. Labelled now x (st.label x) in
      let h0 : 0 < st.depth t = let Q : ℕ → Type 0 = λ x. 0 < st.depth x in subst Q e h in
      subst P (sym e) (omega (arith, p.depth), omega (arith, p.label, bt.better h0)))
      (λ e. (omega (arith, p.depths b e), omega (arith, p.labels b e)))
      (cases_eq b t)

  was_settled : (a : ℕ) → now.settled a ≡ true → st.settled a ≡ true
  was_settled a d = sym (p.settled a) ∙ d

  taken_other : (a b : ℕ) → st.settled a ≡ true → (a ≡ s → b < t) → g.next a b ≡ true → g.dear (g.on (now.label a) a b) ≡ false → Labelled now b (g.on (now.label a) a b)
  taken_other a b d q n cheap =
      let same = ap (λ x. g.on x a b) (p.labels a (settled_not_t a d)) in
      let r = inv.relaxed a b d q n (ap (λ x. g.dear x) (sym same) ∙ cheap) in
      let low = taken_low b r.0 in
      (low.0, omega (arith, low.1, r.1, same))

  taken_relaxed : (a b : ℕ) → now.settled a ≡ true → (a ≡ s → b < t + 1) → g.next a b ≡ true → g.dear (g.on (now.label a) a b) ≡ false → Labelled now b (g.on (now.label a) a b)
  taken_relaxed a b d q n cheap =
      ⊎_elim
      (λ ea. ⊎_elim
      (λ eb. let at : Labelled now t (g.on (now.label s) s t) =
      (omega (arith, p.depth), omega (arith, p.label, bt.cost, ap (λ x. g.on x s t) (p.labels s s_t))) in
      let Q : ℕ → Type 0 = λ x. Labelled now b (g.on (now.label x) x b) in
      let R : ℕ → Type 0 = λ y. Labelled now y (g.on (now.label s) s y) in
      subst Q (sym ea) (subst R (sym eb) at))
      (λ eb. taken_other a b (was_settled a d) (λ _. let h : b < t + 1 = q ea in let ne : b ≢ t = eb in omega arith) n cheap)
      (cases_eq b t))
      (λ ea. taken_other a b (was_settled a d) (λ e. absurd (ea e)) n cheap)
      (cases_eq a s)

  taken_order : (a b : ℕ) → now.settled a ≡ true → 0 < now.depth b → now.settled b ≡ false → now.label a ≤ now.label b
  taken_order a b d h f =
      let da = was_settled a d in
      let la = p.labels a (settled_not_t a da) in
      ⊎_elim
      (λ e. let P : ℕ → Type 0 = λ x. now.label a ≤ now.label x in
      let up = law.on_raises (st.label s) s t in
      subst P (sym e) (omega (arith, la, late.most a da, up, p.label, bt.cost)))
      (λ e. omega (arith, la, p.labels b e, inv.order a b da (omega (arith, p.depths b e)) (sym (p.settled b) ∙ f)))
      (cases_eq b t)

  depth_s : st.depth s ≤ m
  depth_s = ⊎_elim
      (λ z. omega (arith, ap (λ x. st.depth x) z, inv.shallowest))
      (λ ne. let n0 : s ≢ 0 = ne in (inv.settled s late.settled (omega arith)).2)
      (cases_eq s 0)

  taken_inv : Inv g s (t + 1) m now
  taken_inv = record {
    source = p.settled 0 ∙ inv.source;
    begin = p.labels 0 zero_t ∙ inv.begin;
    shallowest = p.depths 0 zero_t ∙ inv.shallowest;
    came = taken_came;
    cheap = λ b h. ⊎_elim
        (λ e. ap (λ x. g.dear (now.label x)) e ∙ ap (λ x. g.dear x) p.label ∙ bt.cheap)
        (λ e. ap (λ x. g.dear x) (p.labels b e) ∙ inv.cheap b (omega (arith, p.depths b e)))
        (cases_eq b t);
    relaxed = taken_relaxed;
    settled = λ a d h. let da = was_settled a d in let z = inv.settled a da h in let e = p.depths a (settled_not_t a da) in (omega (arith, e, z.0), z.1, omega (arith, e, z.2));
    order = taken_order;
    shallow = λ b. ⊎_elim
        (λ e. let P : ℕ → Type 0 = λ x. now.depth x ≤ m + 1 in subst P (sym e) (omega (arith, p.depth, depth_s)))
        (λ e. omega (arith, p.depths b e, inv.shallow b))
        (cases_eq b t);
  }

  taken_late : Latest s now
  taken_late = record {
    settled = p.settled s ∙ late.settled;
    most = λ a d. let da = was_settled a d in omega (arith, p.labels a (settled_not_t a da), p.labels s s_t, late.most a da);
  }

kept_inv : (g : Graph) → Laws g → (s t m : ℕ) (st : State) → Inv g s t m st → Latest s st → Fine g st s t → Inv g s (t + 1) m st
kept_inv g law s t m st inv late fine = record {
  source = inv.source;
  begin = inv.begin;
  shallowest = inv.shallowest;
  came = inv.came;
  cheap = inv.cheap;
  relaxed = λ a b d c n cheap. ⊎_elim
      (λ ea. ⊎_elim
      (λ eb. let Q : ℕ → Type 0 = λ x. Labelled st b (g.on (st.label x) x b) in
      let R : ℕ → Type 0 = λ y. Labelled st y (g.on (st.label s) s y) in
      let n0 : g.next s t ≡ true = ap (λ x. g.next s x) (sym eb) ∙ ap (λ x. g.next x b) (sym ea) ∙ n in
      let c0 : g.dear (g.on (st.label s) s t) ≡ false =
      ap (λ x. g.dear (g.on (st.label s) s x)) (sym eb) ∙ ap (λ x. g.dear (g.on (st.label x) x b)) (sym ea) ∙ cheap in
      let up = law.on_raises (st.label s) s t in
      let at : Labelled st t (g.on (st.label s) s t) = ⊎_elim
      (λ dt. ⊎_elim
      (λ z. let in_t = (law.next_in s t n0).0 in absurd (omega (arith, z)))
      (λ nz. let n1 : t ≢ 0 = nz in ((inv.settled t dt (omega arith)).0, omega (arith, late.most t dt, up)))
      (cases_eq t 0))
      (λ dt. fine n0 dt c0)
      (cases_Bool (st.settled t)) in
      subst Q (sym ea) (subst R (sym eb) at))
      (λ eb. inv.relaxed a b d (λ _. let h : b < t + 1 = c ea in let ne : b ≢ t = eb in omega arith) n cheap)
      (cases_eq b t))
      (λ ea. inv.relaxed a b d (λ e. absurd (ea e)) n cheap)
      (cases_eq a s);
  settled = inv.settled;
  order = inv.order;
  shallow = inv.shallow;
}

pub relaxed_more : (g : Graph) → Laws g → (s t m : ℕ) (st now : State) → Inv g s t m st → Latest s st → Relaxed g s t st now → Inv g s (t + 1) m now × Latest s now
relaxed_more g law s t m st now inv late r =
    ⊎_elim
    (λ k. let P : State → Type 0 = λ x. Inv g s (t + 1) m x × Latest s x in subst P (sym k.0) (kept_inv g law s t m st inv late k.1, late))
    (λ k. (taken_inv g law s t m st now inv late k.0 k.1 k.2, taken_late g law s t m st now inv late k.0 k.1 k.2))
    r

-- Links that may not come after s need not be tried.
pub relaxed_skip : (g : Graph) (s i j m : ℕ) (st : State) → Inv g s i m st → ((t : ℕ) → i ≤ t → t < j → g.next s t ≡ true → ⊥) → Inv g s j m st
relaxed_skip g s i j m st inv none = record {
  source = inv.source;
  begin = inv.begin;
  shallowest = inv.shallowest;
  came = inv.came;
  cheap = inv.cheap;
  relaxed = λ a b d c n cheap. ⊎_elim
      (λ lt. inv.relaxed a b d (λ _. lt) n cheap)
      (λ ge. ⊎_elim
      (λ e. absurd (none b ge (c e) (let P : ℕ → Type 0 = λ x. g.next x b ≡ true in subst P e n)))
      (λ e. inv.relaxed a b d (λ q. absurd (e q)) n cheap)
      (cases_eq a s))
      (cases_lt b i);
  settled = inv.settled;
  order = inv.order;
  shallow = inv.shallow;
}

-- The least is settled.

module _ (g : Graph) (law : Laws g) (s t m : ℕ) (st now : State) (inv : Inv g s (g.size + 1) m st) (l : Least st t) (ng : g.goal t ≡ false) (u : Settled t st now) where
  settled_more : (a : ℕ) → st.settled a ≡ true → now.settled a ≡ true
  settled_more a d = ⊎_elim (λ e. ap (λ x. now.settled x) e ∙ u.done) (λ e. u.others a e ∙ d) (cases_eq a t)

  left_was : (b : ℕ) → now.settled b ≡ false → st.settled b ≡ false
  left_was b d = ⊎_elim (λ e. absurd (both_ways (now.settled b) d (ap (λ x. now.settled x) e ∙ u.done))) (λ e. sym (u.others b e) ∙ d) (cases_eq b t)

  pub settle_inv : Inv g t 1 (m + 1) now
  settle_inv = record {
    source = settled_more 0 inv.source;
    begin = u.labels 0 ∙ inv.begin;
    shallowest = u.depths 0 ∙ inv.shallowest;
    came = λ b h. let f = inv.came b (omega (arith, u.depths b)) in let a = f.0 in (
      a,
      record {
        before = u.befores b ∙ f.1.before;
        settled = settled_more a f.1.settled;
        next = f.1.next;
        depth = u.depths b ∙ f.1.depth ∙ ap (λ x. x + 1) (sym (u.depths a));
        label = u.labels b ∙ f.1.label ∙ ap (λ x. g.on x a b) (sym (u.labels a));
      },
    );
    cheap = λ b h. ap (λ x. g.dear x) (u.labels b) ∙ inv.cheap b (omega (arith, u.depths b));
    relaxed = λ a b d c n cheap. ⊎_elim
        (λ e. absurd (omega (arith, c e, (law.next_in a b n).0)))
        (λ e. let same = ap (λ x. g.on x a b) (u.labels a) in
        let r = up_to_date g law s m st inv a b (sym (u.others a e) ∙ d) n (ap (λ x. g.dear x) (sym same) ∙ cheap) in
        (omega (arith, r.0, u.depths b), omega (arith, r.1, u.labels b, same)))
        (cases_eq a t);
    settled = λ a d h. ⊎_elim
        (λ e. let P : ℕ → Type 0 = λ x. (0 < now.depth x) × (g.goal x ≡ false) × (now.depth x ≤ m + 1) in
        subst P (sym e) (omega (arith, l.some, u.depths t), ng, omega (arith, inv.shallow t, u.depths t)))
        (λ e. let z = inv.settled a (sym (u.others a e) ∙ d) h in (omega (arith, z.0, u.depths a), z.1, omega (arith, z.2, u.depths a)))
        (cases_eq a t);
    order = λ a b d h f. let fb = left_was b f in let hb : 0 < st.depth b = omega (arith, u.depths b) in ⊎_elim
        (λ e. omega (arith, ap (λ x. now.label x) e, u.labels t, u.labels b, l.least b hb fb))
        (λ e. omega (arith, u.labels a, u.labels b, inv.order a b (sym (u.others a e) ∙ d) hb fb))
        (cases_eq a t);
    shallow = λ b. omega (arith, u.depths b, inv.shallow b);
  }

  pub settle_late : Latest t now
  settle_late = record {
    settled = u.done;
    most = λ a d. ⊎_elim
        (λ e. omega (arith, ap (λ x. now.label x) e))
        (λ e. omega (arith, u.labels a, u.labels t, inv.order a t (sym (u.others a e) ∙ d) l.some l.left))
        (cases_eq a t);
  }

-- At the outset.

pub fresh_inv : (g : Graph) → Laws g → (st : State) → Fresh g st → Inv g 0 1 0 st
fresh_inv g law st f = record {
  source = f.source;
  begin = f.begin;
  shallowest = f.unlabelled 0;
  came = λ b h. absurd (omega (arith, f.unlabelled b));
  cheap = λ b h. absurd (omega (arith, f.unlabelled b));
  relaxed = λ a b d c n cheap. ⊎_elim
      (λ e. absurd (omega (arith, c e, (law.next_in a b n).0)))
      (λ ne. let n0 : a ≢ 0 = ne in absurd (both_ways (st.settled a) (f.none a (omega arith)) d))
      (cases_eq a 0);
  settled = λ a d h. absurd (both_ways (st.settled a) (f.none a h) d);
  order = λ a b d h q. absurd (omega (arith, f.unlabelled b));
  shallow = λ b. omega (arith, f.unlabelled b);
}

pub fresh_late : (g : Graph) (st : State) → Fresh g st → Latest 0 st
fresh_late g st f = record {
  settled = f.source;
  most = λ a d. ⊎_elim
      (λ e. omega (arith, ap (λ x. st.label x) e))
      (λ ne. let n0 : a ≢ 0 = ne in absurd (both_ways (st.settled a) (f.none a (omega arith)) d))
      (cases_eq a 0);
}
