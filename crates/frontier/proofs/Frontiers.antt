-- What holds of a frontier: how its leaves tell which links wait, and what a change of a leaf or of a label leaves.
use Rattle.std.proofs.Common.{◌≡◌, ℕ, zero, suc, ◌+◌, ◌*◌, ◌/◌, ◌<◌, ◌≤◌, true, false, ◌&&◌, eqb, ltb, ◌≢◌, List, [], ◌∷◌, length, get_or, set, replicate, Option, Some, None, MatchOption, sym, refl, ap, ◌∙◌, subst, ⊎_elim, arith}
use Rattle.std.proofs.lemmas.Bool.{cases_eq, cases_lt, cases_Bool, both_ways, ltb-true, lt-ltb, eq-eqb, ne_eqb, eqb-true, and_parts, and_from, and_right}
use Rattle.std.specs.Option.{option_map, is_some}
use Rattle.std.proofs.lemmas.List.{get_or-set_same, get_or-set_other}
use Rattle.frontier.specs.declared.linknumber.LinkNumber.{LinkNumber}
use Rattle.frontier.specs.declared.frontier.Frontier.{Frontier}
use Rattle.frontier.specs.Tournament.{label, winner, held, waits, Right, Within, Sound, Mending, NoneWaits, Least, Finds, Changed}
use Rattle.frontier.proofs.Tournaments.{winner_second, others_right, written_right, winner_within, winner_same, root_beats, held_by_leaf}

-- Whether a link waits, by its leaf.

pub waits_own : (f : Frontier) (n : ℕ) → waits f n ≡ true → (0 < n) × (held f (1023 + n) ≡ n)
unfolding waits
waits_own f n h = let p = and_parts _ _ h in (ltb-true 0 n p.0, eqb-true _ n p.1)

pub own_waits : (f : Frontier) (n : ℕ) → 0 < n → held f (1023 + n) ≡ n → waits f n ≡ true
unfolding waits
own_waits f n low e = and_from _ _ (lt-ltb 0 n low) (eq-eqb _ n e)

pub other_waits_not : (f : Frontier) (n : ℕ) → held f (1023 + n) ≢ n → waits f n ≡ false
unfolding waits
other_waits_not f n e = and_right _ _ (ne_eqb _ n e)

pub zero_waits_not : (f : Frontier) → waits f 0 ≡ false
unfolding waits
zero_waits_not f = refl

pub empty_waits_not : (f : Frontier) (n : ℕ) → held f (1023 + n) ≡ 0 → waits f n ≡ false
empty_waits_not f n e = ⊎_elim
    (λ (z : n ≡ 0). ap (λ x. waits f x) z ∙ zero_waits_not f)
    (λ (z : n ≡ 0 → ⊥). other_waits_not f n (λ h. z (omega arith)))
    (cases_eq n 0)

pub same_waits : (f g : Frontier) (n : ℕ) → held g (1023 + n) ≡ held f (1023 + n) → waits g n ≡ waits f n
unfolding waits
same_waits f g n e = ap (λ x. ltb 0 n && eqb x n) e

past_end : (xs : List ℕ) (k : ℕ) → length xs ≤ k → get_or xs k 0 ≡ 0
past_end [] k h = refl
past_end (x ∷ xs) zero h = absurd (omega arith)
past_end (x ∷ xs) (suc k) h = past_end xs k (omega arith)

-- Only links to 1024 wait.
pub waits_high : (f : Frontier) (n : ℕ) → waits f n ≡ true → n ≤ 1024
waits_high f n h =
    let own = waits_own f n h in
    ⊎_elim
    (λ (l : n < 1025). omega arith)
    (λ (l : 1025 ≤ n). let long = f.long in absurd (omega (arith, past_end f.nodes (1023 + n) (omega arith))))
    (cases_lt n 1025)

-- The root.

module _ (ls : List ℕ) (f : Frontier) (sound : Sound ls f) where
  pub root_least : 0 < held f 1 → Least ls f (held f 1)
  root_least some =
      let leaf = held_by_leaf (label ls) (held f) sound.right sound.leaves 1 (omega arith) (omega arith) some in
      record {
        low = some;
        high = sound.within 1;
        waiting = own_waits f (held f 1) some leaf.own;
        least = λ n w.
            let own = waits_own f n w in
            let high = waits_high f n w in
            let b = root_beats (label ls) (held f) sound.right (1023 + n) (omega arith) (omega arith) (omega arith) in
            let r = b.1 in rw own.1 at r;
      }

  pub root_none : held f 1 ≡ 0 → NoneWaits f
  root_none none n = ⊎_elim
      (λ (w : waits f n ≡ true).
      let own = waits_own f n w in
      let high = waits_high f n w in
      let b = root_beats (label ls) (held f) sound.right (1023 + n) (omega arith) (omega arith) (omega arith) in
      absurd (omega (arith, b.0)))
      (λ w. w)
      (cases_Bool (waits f n))

  pub root_found : (r : Option LinkNumber) → MatchOption r (held f 1 ≤ 1024 → held f 1 ≡ 0) (λ link. link.number ≡ held f 1) → Finds ls f (option_map (λ link. link.number) r)
  root_found None none = root_none (none (sound.within 1))
  root_found (Some link) same = subst (λ (t : ℕ). Least ls f t) (sym same) (root_least (omega (arith, same, link.low)))

  -- A frontier stays sound where the links that wait keep their labels.
  pub sound_relabelled : (other : List ℕ) → ((n : ℕ) → waits f n ≡ true → label other n ≡ label ls n) → Sound other f
  sound_relabelled other same =
      let agrees : (k : ℕ) → 0 < k → k < 2048 → 0 < held f k → label other (held f k) ≡ label ls (held f k) =
      λ k low high some. same (held f k) (own_waits f (held f k) some (held_by_leaf (label ls) (held f) sound.right sound.leaves k low high some).own) in
      record {
        within = sound.within;
        leaves = sound.leaves;
        right = λ k low high. sound.right k low high
            ∙ winner_same (label ls) (label other) (held f (2 * k)) (held f (2 * k + 1)) (agrees (2 * k) (omega arith) (omega arith)) (agrees (2 * k + 1) (omega arith) (omega arith));
      }

  -- The label of a link that does not wait may be any.
  pub sound_while_out : (other : List ℕ) (n : ℕ) → waits f n ≡ false → ((k : ℕ) → k ≢ n → label other k ≡ label ls k) → Sound other f
  sound_while_out other n out same =
      sound_relabelled other (λ k w. same k (λ e. both_ways (waits f n) out (ap (λ x. waits f x) (sym e) ∙ w)))

-- Where no least link is found, none waits.
pub none_found : (ls : List ℕ) (f : Frontier) (r : Option LinkNumber) → is_some r ≡ false → Finds ls f (option_map (λ link. link.number) r) → NoneWaits f
none_found ls f None empty found = found
none_found ls f (Some link) empty found = absurd (both_ways true empty refl)

-- A write.

module _ (f g : Frontier) (p v : ℕ) (write : g.nodes ≡ set f.nodes p v) where
  pub write_others : (k : ℕ) → k ≢ p → held g k ≡ held f k
  write_others k n = ap (λ xs. get_or xs k 0) write ∙ get_or-set_other f.nodes p k v 0 n

  pub write_here : p < 2048 → held g p ≡ v
  write_here l = let long = f.long in ap (λ xs. get_or xs p 0) write ∙ get_or-set_same f.nodes p v 0 (omega arith)

  write_within : p < 2048 → v ≤ 1024 → Within f → Within g
  write_within l high within k = ⊎_elim
      (λ (e : k ≡ p). let P : ℕ → Type 0 = λ x. held g x ≤ 1024 in subst P (sym e) (omega (arith, write_here l)))
      (λ (n : k ≡ p → ⊥). omega (arith, write_others k n, within k))
      (cases_eq k p)

  -- A leaf that gets its link or 0 leaves its parent to mend.
  pub leaf_written : (ls : List ℕ) (n : ℕ) → p ≡ 1023 + n → 0 < n → n ≤ 1024 → (0 < v → v ≡ n) → Sound ls f → Mending ls g (p / 2)
  leaf_written ls n place low high own sound =
      let here : held g p ≡ v = write_here (omega arith) in
      record {
        within = write_within (omega arith) (⊎_elim (λ (z : 0 < v). omega (arith, own z)) (λ (z : v ≤ 0). omega arith) (cases_lt 0 v)) sound.within;
        leaves = λ m l h some. ⊎_elim
            (λ (e : m ≡ n).
            let at : 1023 + m ≡ p = omega arith in
            let is : held g (1023 + m) ≡ v = ap (λ x. held g x) at ∙ here in
            is ∙ own (omega arith) ∙ sym e)
            (λ (d : m ≡ n → ⊥).
            let is : held g (1023 + m) ≡ held f (1023 + m) = write_others (1023 + m) (λ e. d (omega arith)) in
            is ∙ sound.leaves m l h (omega arith))
            (cases_eq m n);
        right = λ k l h d. others_right (label ls) (held f) (held g) p write_others k (λ e. omega arith) d (sound.right k l h);
      }

  -- A node that gets the winner of its children leaves its parent to mend.
  pub winner_written : (ls : List ℕ) → 0 < p → p < 1024 → v ≡ winner (label ls) (held f (2 * p)) (held f (2 * p + 1)) → Mending ls f p → Mending ls g (p / 2)
  winner_written ls low high won mending =
      let here : held g p ≡ v = write_here (omega arith) in
      let few : v ≤ 1024 = rw won (winner_within (label ls) _ _ 1024 (mending.within (2 * p)) (mending.within (2 * p + 1))) in
      record {
        within = write_within (omega arith) few mending.within;
        leaves = λ m l h some.
            let is : held g (1023 + m) ≡ held f (1023 + m) = write_others (1023 + m) (λ e. omega arith) in
            is ∙ mending.leaves m l h (omega arith);
        right = λ k l h d. ⊎_elim
            (λ (e : k ≡ p).
            let P : ℕ → Type 0 = λ x. Right (label ls) (held g) x in
            subst P (sym e) (written_right (label ls) (held f) (held g) p low write_others (here ∙ won)))
            (λ (n : k ≡ p → ⊥). others_right (label ls) (held f) (held g) p write_others k n d (mending.right k l h n))
            (cases_eq k p);
      }

-- Which links wait after the leaf of one has changed.

waits_elsewhere : (f g : Frontier) (n : ℕ) → ((m : ℕ) → 0 < m → m ≢ n → held g (1023 + m) ≡ held f (1023 + m)) → (m : ℕ) → m ≢ n → waits g m ≡ waits f m
waits_elsewhere f g n same m d = ⊎_elim
    (λ (z : m ≡ 0). ap (λ x. waits g x) z ∙ zero_waits_not g ∙ sym (zero_waits_not f) ∙ ap (λ x. waits f x) (sym z))
    (λ (z : m ≡ 0 → ⊥). same_waits f g m (same m (omega arith) d))
    (cases_eq m 0)

pub put_in : (f g : Frontier) (n : ℕ) → 0 < n → held g (1023 + n) ≡ n → ((m : ℕ) → 0 < m → m ≢ n → held g (1023 + m) ≡ held f (1023 + m)) → Changed f g n true
put_in f g n low here same = record { here = own_waits g n low here; others = waits_elsewhere f g n same }

pub taken_out : (f g : Frontier) (n : ℕ) → held g (1023 + n) ≡ 0 → ((m : ℕ) → 0 < m → m ≢ n → held g (1023 + m) ≡ held f (1023 + m)) → Changed f g n false
taken_out f g n here same = record { here = empty_waits_not g n here; others = waits_elsewhere f g n same }

-- The frontier where every node holds 0.

zeros : (n k : ℕ) → ◌≡◌ {A = ℕ} (get_or (replicate n 0) k 0) 0
zeros zero k = refl
zeros (suc n) zero = refl
zeros (suc n) (suc k) = zeros n k

module _ (f : Frontier) (all : f.nodes ≡ replicate 2048 0) where
  cleared : (k : ℕ) → held f k ≡ 0
  cleared k = ap (λ xs. get_or xs k 0) all ∙ zeros 2048 k

  pub cleared_none : NoneWaits f
  cleared_none n = empty_waits_not f n (cleared (1023 + n))

  pub cleared_sound : (ls : List ℕ) → Sound ls f
  cleared_sound ls = record {
    within = λ k. omega (arith, cleared k);
    leaves = λ n l h some. absurd (omega (arith, cleared (1023 + n)));
    right = λ k l h. cleared k ∙ sym (winner_second (label ls) (held f (2 * k)) (held f (2 * k + 1)) (cleared (2 * k)) ∙ cleared (2 * k + 1));
  }
