-- The routes that leave the listed ones after some links of one of them: those links, or those links with a completion. Assumes nothing.
use Rattle.std.proofs.Common.{◌≡◌, ℕ, zero, suc, ◌+◌, ◌≤◌, Bool, false, List, [], ◌∷◌, ◌++◌, length, get_or, take, drop, sym, refl, ap, ◌∙◌, subst, inl, inr, ⊎_elim, arith}
use Rattle.std.specs.List.{AllByRecursion}
use Rattle.std.proofs.lemmas.List.{take-take, take_at, take-append-drop, length-take-le, length-append, get_or_past, get_or_at, append-nil}
use Rattle.network.specs.Roads.{Passable}
use Rattle.routing.specs.Route.{Simple}
use Rattle.completion.specs.Onward.{has}
use Rattle.completion.specs.Completion.{Completes}
use Rattle.completion.proofs.Splits.{all_parts}
use Rattle.unlisted.specs.Leaving.{Question, goes_on, Leaves, LeftAt}
use Rattle.unlisted.specs.Best.{Itself, Completion, Either}
use Rattle.unlisted.proofs.Agreeing.{same_front, agree_from_front}
use Rattle.unlisted.proofs.Books.{simple_passable}

mark_of : (e : Bool) (ms : List Bool) (b : ℕ) → 1 ≤ b → get_or (e ∷ ms) b false ≡ has ms b
mark_of e ms zero h = absurd (omega arith)
mark_of e ms (suc b) h = refl

module _ (q : Question) (few : length q.roads.plan.links ≤ 1024) (r : List ℕ) (k : ℕ) (within : k ≤ length r) (ends : Bool) (forbidden : List Bool)
    (forks : (b : ℕ) → b ≤ 1024 → get_or (ends ∷ forbidden) b false ≡ goes_on q r k b) where
  abbrev p : List ℕ
  p = take k r

  abbrev Candidate : List ℕ → Type 0
  Candidate = Either (Itself q.roads q.from q.to p ends) (Completion q.roads q.from q.to p forbidden)

  -- the next link of a simple route, in the fork
  next_mark : (w : List ℕ) (b : ℕ) (bs : List ℕ) → w ≡ p ++ (b ∷ bs) → Simple q.roads q.from q.to w → has forbidden b ≡ goes_on q r k b
  next_mark w b bs e s =
      let P : List ℕ → Type 0 = λ x. AllByRecursion (Passable q.roads) x in
      let free = (all_parts (Passable q.roads) p (b ∷ bs) (subst P e (simple_passable q.roads q.from q.to w s))).1.0 in
      sym (mark_of ends forbidden b free.0.0) ∙ forks b (omega (arith, free.0.1))

  itself_leaves : (w : List ℕ) → w ≡ p → ends ≡ false → Leaves q r k w
  itself_leaves w e f =
      let long : length w ≡ k = ap length e ∙ length-take-le k r within in (
        agree_from_front r w k (sym (take-take k k r (omega arith)) ∙ ap (take k) (sym e)) within (omega arith),
        ap (goes_on q r k) (get_or_past w k 0 (omega arith)) ∙ sym (forks 0 (omega arith)) ∙ f,
      )

  onward_leaves : (w : List ℕ) (b : ℕ) (bs : List ℕ) → w ≡ p ++ (b ∷ bs) → goes_on q r k b ≡ false → Leaves q r k w
  onward_leaves w b bs e f =
      let short : length p ≡ k = length-take-le k r within in
      let long : length w ≡ length p + length (b ∷ bs) = ap length e ∙ length-append p (b ∷ bs) in (
        agree_from_front r w k (sym (ap (take k) e ∙ take_at p (b ∷ bs) k short)) within (omega arith),
        ap (goes_on q r k) (ap (λ (x : List ℕ). get_or x k 0) e ∙ get_or_at p b bs 0 k short) ∙ f,
      )

  pub candidate_left : (w : List ℕ) → Candidate w → LeftAt q r k w
  candidate_left w c =
      ⊎_elim
      (λ i. (i.1, itself_leaves w i.0 i.2))
      (λ o. by o.0 o.1 o.2)
      c
    where
      by : (ws : List ℕ) → w ≡ p ++ ws → Completes q.roads q.from q.to p forbidden ws → LeftAt q r k w
      by [] e h = absurd h
      by (b ∷ bs) e h =
          let P : List ℕ → Type 0 = λ x. Simple q.roads q.from q.to x in
          let s = subst P (sym e) h.0 in
          (s, onward_leaves w b bs e (sym (next_mark w b bs e s) ∙ h.1))

  pub left_candidate : (w : List ℕ) → LeftAt q r k w → Candidate w
  left_candidate w l =
      let front = same_front r w k l.1.0 in
      by (drop k w) (sym (take-append-drop k w) ∙ ap (λ (x : List ℕ). x ++ drop k w) (sym front.0))
    where
      by : (ws : List ℕ) → w ≡ p ++ ws → Candidate w
      by [] e =
          let same : w ≡ p = e ∙ append-nil p in
          let long : length w ≡ k = ap length same ∙ length-take-le k r within in
          inl (same, l.0, forks 0 (omega arith) ∙ ap (goes_on q r k) (sym (get_or_past w k 0 (omega arith))) ∙ l.1.1)
      by (b ∷ bs) e =
          let P : List ℕ → Type 0 = λ x. Simple q.roads q.from q.to x in
          let next : get_or w k 0 ≡ b = ap (λ (x : List ℕ). get_or x k 0) e ∙ get_or_at p b bs 0 k (length-take-le k r within) in
          inr ((b ∷ bs), e, (subst P e l.0, next_mark w b bs e l.0 ∙ ap (goes_on q r k) (sym next) ∙ l.1.1))
