-- The search where nothing is listed, and the table after a search. Assumes nothing.
use Rattle.std.proofs.Common.{◌≡◌, ℕ, zero, suc, ◌+◌, ◌<◌, ◌≤◌, Bool, false, List, [], ◌∷◌, ◌++◌, map, length, get_or, take, drop, set, replicate, Some, None, Option, sym, refl, ap, ◌∙◌, subst, ⊎_elim, arith}
use Rattle.std.proofs.lemmas.List.{get_or_past, get_or-replicate, length-replicate, length-map, map-set, get_or-set_same, get_or-set_other, ext_get_or, take_at, drop_at}
use Rattle.std.proofs.lemmas.Bool.{cases_lt, cases_eq, false≢true}
use Rattle.network.specs.Roads.{Roads}
use Rattle.measure.specs.Ranks.{Ranks}
use Rattle.measure.specs.Cost.{cost}
use Rattle.routing.specs.declared.found.Found.{Found}
use Rattle.routing.specs.Route.{Simple}
use Rattle.routing.specs.Book.{Finds, Cleared}
use Rattle.completion.specs.Onward.{has}
use Rattle.completion.specs.Completion.{Completes, Completed}

pub none_has : (ms : List Bool) → ms ≡ replicate 1024 false → (b : ℕ) → has ms b ≡ false
none_has ms e b = ap (λ (x : List Bool). has x b) e ∙ at b
  where
    at : (b : ℕ) → has (replicate 1024 false) b ≡ false
    at zero = refl
    at (suc b) =
        ⊎_elim
        (λ (h : b < 1024). get_or-replicate 1024 b false false h)
        (λ (h : 1024 ≤ b). get_or_past (replicate 1024 false) b false (omega (arith, length-replicate 1024 false)))
        (cases_lt b 1024)

module _ {C : Type 0} (rank : C → ℕ) (m : Ranks) (roads : Roads) (from to : ℕ) (forbidden : List Bool) (none : (b : ℕ) → has forbidden b ≡ false) where
  simple_completes : (w : List ℕ) → Simple roads from to w → Completes roads from to [] forbidden w
  simple_completes [] s = absurd s
  simple_completes (a ∷ bs) s = (s, none a)

  completes_simple : (w : List ℕ) → Completes roads from to [] forbidden w → Simple roads from to w
  completes_simple [] c = absurd c
  completes_simple (a ∷ bs) c = c.0

  -- a cheapest completion of the empty beginning is a cheapest route
  pub completed_finds : (line : List ℕ) (answer : Option (Found C)) (line' : List ℕ) → Completed rank m roads from to [] forbidden None line answer line'
      → Finds rank m roads (Simple roads from to) line' answer
  completed_finds line None line' c = λ w s. false≢true (c.0 w (simple_completes w s))
  completed_finds line (Some found) line' c =
      let P : List ℕ → Type 0 = λ x. Simple roads from to x in
      let price : rank found.cost ≡ cost m roads.plan (take found.count line') = c.priced ∙ sym (ap (cost m roads.plan) c.written) in record {
        holds = c.holds;
        within = c.within;
        cheapest = (subst P (sym c.written) (completes_simple c.links c.completes), λ w s. omega (arith, price, c.least w (simple_completes w s)));
        priced = price;
      }

-- costs put back to the start, one more
abbrev pub BackTo : {C : Type 0} → (C → ℕ) → ℕ → List C → ℕ → Type 0
BackTo rank start costs i = (k : ℕ) → k < i → get_or (map rank costs) k 0 ≡ start

pub back_more : {C : Type 0} (rank : C → ℕ) (start : ℕ) (costs : List C) (i : ℕ) (c : C) → i < length costs → BackTo rank start costs i → rank c ≡ start → BackTo rank start (set costs i c) (i + 1)
back_more rank start costs i c inside so_far is k h =
    ap (λ (x : List ℕ). get_or x k 0) (map-set rank costs i c)
    ∙ ⊎_elim
    (λ (e : k ≡ i). ap (λ (x : ℕ). get_or (set (map rank costs) i (rank c)) x 0) e ∙ get_or-set_same (map rank costs) i (rank c) 0 (omega (arith, length-map costs rank)) ∙ is)
    (λ (ne : k ≡ i → ⊥). get_or-set_other (map rank costs) i k (rank c) 0 ne ∙ so_far k (omega arith))
    (cases_eq k i)

pub back_all : {C : Type 0} (rank : C → ℕ) (start : ℕ) (costs : List C) (n : ℕ) → length costs ≡ n → BackTo rank start costs n → map rank costs ≡ replicate n start
back_all rank start costs n e all =
    ext_get_or 0 (map rank costs) (replicate n start) (length-map costs rank ∙ e ∙ sym (length-replicate n start))
    (λ k h. let l : k < n = omega (arith, length-map costs rank) in all k l ∙ sym (get_or-replicate n k start 0 l))

pub cleared : {C : Type 0} (rank : C → ℕ) (m : Ranks) (before was work : List C) → length was ≡ 2048 → map rank work ≡ replicate (length was) m.start → Cleared rank m before (work ++ drop 2048 before)
cleared rank m before was work long back =
    let size : length work ≡ 2048 = sym (length-map work rank) ∙ ap length back ∙ length-replicate (length was) m.start ∙ long in record {
      front = ap (map rank) (take_at work (drop 2048 before) 2048 size) ∙ back ∙ ap (λ (n : ℕ). replicate n m.start) long;
      rest = drop_at work (drop 2048 before) 2048 size;
    }
