-- The laws of a tournament, over what its nodes hold and what its links cost.
use Rattle.std.proofs.Common.{◌≡◌, ℕ, zero, suc, ◌+◌, ◌-◌, ◌*◌, ◌/◌, ◌<◌, ◌≤◌, Bool, cond, ltb, ◌≢◌, ◌⊎◌, sym, refl, ap, ◌∙◌, subst, inl, inr, ⊎_elim, arith}
use Rattle.std.proofs.lemmas.Bool.{cases_eq, cases_lt, lt-ltb, le-ltb, eq-eqb, ne_eqb, cond-true, cond-false}
use Rattle.frontier.specs.Tournament.{winner, Right}

module _ (cost : ℕ → ℕ) where
  pub winner_second : (a b : ℕ) → a ≡ 0 → winner cost a b ≡ b
  unfolding winner
  winner_second a b e = cond-true _ b _ (eq-eqb a 0 e)

  pub winner_first : (a b : ℕ) → (a ≡ 0 → ⊥) → b ≡ 0 → winner cost a b ≡ a
  unfolding winner
  winner_first a b n e = cond-false _ b _ (ne_eqb a 0 n) ∙ cond-true _ a _ (eq-eqb b 0 e)

  pub winner_tested : (a b : ℕ) → (a ≡ 0 → ⊥) → (b ≡ 0 → ⊥) → winner cost a b ≡ cond (ltb (cost b) (cost a)) b a
  unfolding winner
  winner_tested a b n m = cond-false _ b _ (ne_eqb a 0 n) ∙ cond-false _ a _ (ne_eqb b 0 m)

  pub winner_cheaper : (a b : ℕ) → (a ≡ 0 → ⊥) → (b ≡ 0 → ⊥) → cost b < cost a → winner cost a b ≡ b
  winner_cheaper a b n m l = winner_tested a b n m ∙ cond-true _ b a (lt-ltb (cost b) (cost a) l)

  pub winner_dearer : (a b : ℕ) → (a ≡ 0 → ⊥) → (b ≡ 0 → ⊥) → cost a ≤ cost b → winner cost a b ≡ a
  winner_dearer a b n m l = winner_tested a b n m ∙ cond-false _ b a (le-ltb (cost b) (cost a) l)

  -- what beats b: a link no dearer than b, unless b is none
  abbrev pub Beats : ℕ → ℕ → Type 0
  Beats a b = 0 < b → (0 < a) × (cost a ≤ cost b)

  pub record Won (a b w : ℕ) : Type 0 where
    pub one : (w ≡ a) ⊎ (w ≡ b)
    pub first : Beats w a
    pub second : Beats w b

  won_of : (a b w v : ℕ) → w ≡ v → Won a b v → Won a b w
  won_of a b w v e h = let P : ℕ → Type 0 = λ x. Won a b x in subst P (sym e) h

  pub won : (a b : ℕ) → Won a b (winner cost a b)
  won a b = ⊎_elim
      (λ z. won_of a b _ b (winner_second a b z) record { one = inr refl; first = λ h. absurd (omega arith); second = λ h. (h, omega arith) })
      (λ n. ⊎_elim
      (λ z. won_of a b _ a (winner_first a b n z) record { one = inl refl; first = λ h. (h, omega arith); second = λ h. absurd (omega arith) })
      (λ m. ⊎_elim
      (λ l. won_of a b _ b (winner_cheaper a b n m l) record { one = inr refl; first = λ h. (omega arith, omega arith); second = λ h. (h, omega arith) })
      (λ l. won_of a b _ a (winner_dearer a b n m l) record { one = inl refl; first = λ h. (h, omega arith); second = λ h. (omega arith, omega arith) })
      (cases_lt (cost b) (cost a)))
      (cases_eq b 0))
      (cases_eq a 0)

  -- The winner of two links, by a test of numbers that are theirs.
  pub winner_told : (a b x y : ℕ) (t : Bool) → 0 < x → x ≡ a → 0 < y → y ≡ b → t ≡ ltb (cost y) (cost x) → winner cost a b ≡ cond t b a
  winner_told a b x y t p d q e is =
      winner_tested a b (λ z. omega (arith, p, d, z)) (λ z. omega (arith, q, e, z))
      ∙ ap (λ k. cond (ltb (cost k) (cost a)) b a) (sym e)
      ∙ ap (λ k. cond (ltb (cost y) (cost k)) b a) (sym d)
      ∙ ap (λ u. cond u b a) (sym is)

  pub winner_within : (a b n : ℕ) → a ≤ n → b ≤ n → winner cost a b ≤ n
  winner_within a b n p q = ⊎_elim (λ e. omega (arith, e)) (λ e. omega (arith, e)) (won a b).one

  -- A node that keeps what it and its children hold stays right.
  pub right_kept : (node next : ℕ → ℕ) (k : ℕ) → next k ≡ node k → next (2 * k) ≡ node (2 * k) → next (2 * k + 1) ≡ node (2 * k + 1) → Right cost node k → Right cost next k
  right_kept node next k e first second h =
      e ∙ h ∙ ap (λ x. winner cost x (node (2 * k + 1))) (sym first) ∙ ap (λ x. winner cost (next (2 * k)) x) (sym second)

  -- A write at node p leaves each node right but p and the parent of p.
  pub others_right : (node next : ℕ → ℕ) (p : ℕ) → ((k : ℕ) → k ≢ p → next k ≡ node k) →
      (k : ℕ) → k ≢ p → k ≢ p / 2 → Right cost node k → Right cost next k
  others_right node next p same k n m h =
      right_kept node next k (same k n) (same (2 * k) (λ e. m (omega arith))) (same (2 * k + 1) (λ e. m (omega arith))) h

  -- Where p gets the winner of its children, p is right.
  pub written_right : (node next : ℕ → ℕ) (p : ℕ) → 0 < p → ((k : ℕ) → k ≢ p → next k ≡ node k) →
      next p ≡ winner cost (node (2 * p)) (node (2 * p + 1)) → Right cost next p
  written_right node next p low same e =
      let first : next (2 * p) ≡ node (2 * p) = same (2 * p) (λ e. omega arith) in
      let second : next (2 * p + 1) ≡ node (2 * p + 1) = same (2 * p + 1) (λ e. omega arith) in
      e ∙ ap (λ x. winner cost x (node (2 * p + 1))) (sym first) ∙ ap (λ x. winner cost (next (2 * p)) x) (sym second)

  beats_through : (a b c : ℕ) → Beats a b → Beats b c → Beats a c
  beats_through a b c p q h = let r = q h in let s = p r.0 in (s.0, omega arith)

  module _ (node : ℕ → ℕ) (right : (k : ℕ) → 0 < k → k < 1024 → Right cost node k) where
    won_at : (k : ℕ) → 0 < k → k < 1024 → Won (node (2 * k)) (node (2 * k + 1)) (node k)
    won_at k low high = won_of _ _ _ _ (right k low high) (won (node (2 * k)) (node (2 * k + 1)))

    parent_beats : (k : ℕ) → 1 < k → k < 2048 → Beats (node (k / 2)) (node k)
    parent_beats k low high =
        let w = won_at (k / 2) (omega arith) (omega arith) in
        let P : ℕ → Type 0 = λ x. Beats (node (k / 2)) (node x) in
        ⊎_elim
        (λ (e : 2 * (k / 2) ≡ k). subst P e w.first)
        (λ (n : 2 * (k / 2) ≡ k → ⊥). let e : 2 * (k / 2) + 1 ≡ k = omega arith in subst P e w.second)
        (cases_eq (2 * (k / 2)) k)

    beats_below : (fuel k : ℕ) → k ≤ fuel → 0 < k → k < 2048 → Beats (node 1) (node k)
    beats_below zero k l low high = absurd (omega arith)
    beats_below (suc fuel) k l low high = ⊎_elim
        (λ (e : k ≡ 1). let P : ℕ → Type 0 = λ x. Beats (node 1) (node x) in subst P (sym e) (λ h. (h, omega arith)))
        (λ (n : k ≡ 1 → ⊥).
        beats_through (node 1) (node (k / 2)) (node k)
        (beats_below fuel (k / 2) (omega arith) (omega arith) (omega arith))
        (parent_beats k (omega arith) high))
        (cases_eq k 1)

    -- The root beats every node.
    pub root_beats : (k : ℕ) → 0 < k → k < 2048 → Beats (node 1) (node k)
    root_beats k = beats_below k k (omega arith)

    module _ (leaves : (n : ℕ) → 0 < n → n ≤ 1024 → 0 < node (1023 + n) → node (1023 + n) ≡ n) where
      -- t is a link that its own leaf holds
      pub record Leaf (t : ℕ) : Type 0 where
        pub high : t ≤ 1024
        pub own : node (1023 + t) ≡ t

      leaf_at : (k : ℕ) → 1023 < k → k < 2048 → 0 < node k → Leaf (node k)
      leaf_at k low high some =
          let e : 1023 + (k - 1023) ≡ k = omega arith in
          let h : 0 < node (1023 + (k - 1023)) = rw e some in
          let own : node (1023 + (k - 1023)) ≡ k - 1023 = leaves (k - 1023) (omega arith) (omega arith) h in
          let same : node k ≡ k - 1023 = ap node (sym e) ∙ own in
          let P : ℕ → Type 0 = λ x. Leaf x in
          subst P (sym same) record { high = omega arith; own = own }

      leaf_below : (fuel k : ℕ) → 2048 ≤ fuel + k → 0 < k → k < 2048 → 0 < node k → Leaf (node k)
      leaf_below zero k l low high some = absurd (omega arith)
      leaf_below (suc fuel) k l low high some = ⊎_elim
          (λ (inner : k < 1024). ⊎_elim
          (λ (e : node k ≡ node (2 * k)).
          let P : ℕ → Type 0 = λ x. Leaf x in
          subst P (sym e) (leaf_below fuel (2 * k) (omega arith) (omega arith) (omega arith) (omega arith)))
          (λ (e : node k ≡ node (2 * k + 1)).
          let P : ℕ → Type 0 = λ x. Leaf x in
          subst P (sym e) (leaf_below fuel (2 * k + 1) (omega arith) (omega arith) (omega arith) (omega arith)))
          (won_at k low inner).one)
          (λ (outer : 1024 ≤ k). leaf_at k (omega arith) high some)
          (cases_lt k 1024)

      -- What any node holds, its own leaf holds.
      pub held_by_leaf : (k : ℕ) → 0 < k → k < 2048 → 0 < node k → Leaf (node k)
      held_by_leaf k = leaf_below 2048 k (omega arith)

-- Two costs that agree on a and on b have one winner.
pub winner_same : (cost other : ℕ → ℕ) (a b : ℕ) → (0 < a → other a ≡ cost a) → (0 < b → other b ≡ cost b) → winner cost a b ≡ winner other a b
winner_same cost other a b p q = ⊎_elim
    (λ z. winner_second cost a b z ∙ sym (winner_second other a b z))
    (λ n. ⊎_elim
    (λ z. winner_first cost a b n z ∙ sym (winner_first other a b n z))
    (λ m. winner_tested cost a b n m
    ∙ ap (λ x. cond (ltb x (cost a)) b a) (sym (q (omega arith)))
    ∙ ap (λ x. cond (ltb (other b) x) b a) (sym (p (omega arith)))
    ∙ sym (winner_tested other a b n m))
    (cases_eq b 0))
    (cases_eq a 0)
