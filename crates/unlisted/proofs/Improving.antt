-- The best route so far gets better. Assumes nothing.
use Rattle.std.proofs.Common.{◌≡◌, ℕ, zero, suc, ◌+◌, ◌-◌, ◌≤◌, Bool, true, false, eqb, ltb, ◌⊎◌, List, [], ◌∷◌, ◌++◌, length, get_or, take, replicate, Some, None, Option, sym, refl, ap, ◌∙◌, subst, inl, inr, ⊎_elim, arith}
use Rattle.std.specs.Option.{option_map, option_or}
use Rattle.std.specs.List.{AllByRecursion}
use Rattle.std.proofs.lemmas.List.{take_at, length-append, length-replicate}
use Rattle.std.proofs.lemmas.Bool.{eqb-true, eq-eqb, false≢true, both_ways, not-true, not-false, not_from_false, ltb-true, ltb-false, le-ltb, cases_Bool}
use Rattle.network.specs.declared.link.Link.{Link}
use Rattle.network.specs.Plan.{link}
use Rattle.network.specs.Roads.{Roads, Passable}
use Rattle.measure.specs.Ranks.{Ranks}
use Rattle.measure.specs.Cost.{cost}
use Rattle.routing.specs.declared.found.Found.{Found}
use Rattle.routing.specs.Route.{Simple, last_of}
use Rattle.routing.specs.Enumeration.{ends_at}
use Rattle.routing.specs.Places.{Holds}
use Rattle.routing.specs.Book.{Finds}
use Rattle.completion.specs.Onward.{too_dear}
use Rattle.completion.specs.Completion.{Begins, Completes, CheapestCompletion, Completed}
use Rattle.unlisted.specs.Best.{bound, price, Held, Better, Improves, Itself, Completion, Either}

pub dear_at_least : (b c : ℕ) → too_dear (Some b) c ≡ true → b ≤ c
dear_at_least b c t = ltb-false c b (not-true (ltb c b) t)

pub at_least_dear : (b c : ℕ) → b ≤ c → too_dear (Some b) c ≡ true
at_least_dear b c h = not_from_false (ltb c b) (le-ltb c b h)

-- what is too dear under a bound is so under a lower one
lower : (bound : Option ℕ) (b c : ℕ) → too_dear bound c ≡ true → too_dear bound b ≡ false → too_dear (Some b) c ≡ true
lower None b c t f = absurd (false≢true t)
lower (Some a) b c t f =
    let above = dear_at_least a c t in
    let below = ltb-true b a (not-false (ltb b a) f) in
    at_least_dear b c (omega arith)

module _ {C : Type 0} (rank : C → ℕ) (m : Ranks) (roads : Roads) where
  abbrev Costs : Option (Found C) → List ℕ → Type 0
  Costs best w = too_dear (price rank best) (cost m roads.plan w) ≡ true

  -- what the best route beats, a better one beats
  still : (P : List ℕ → Type 0) (best best' : Option (Found C)) (line line' w : List ℕ) → ((best' ≡ best) × (line' ≡ line)) ⊎ Better rank m roads P best best' line' → Costs best w → Costs best' w
  still P best best' line line' w (inl e) t = let Q : Option (Found C) → Type 0 = λ b. Costs b w in subst Q (sym e.0) t
  still P best None line line' w (inr b) t = absurd b
  still P best (Some found) line line' w (inr b) t = lower (price rank best) (rank found.cost) (cost m roads.plan w) t b.1

  pub held_as : (P Q : List ℕ → Type 0) → ((w : List ℕ) → P w → Q w) → (line : List ℕ) (n count : ℕ) → Held m roads P line n count → Held m roads Q line n count
  held_as P Q to line n count h = record { holds = h.holds; within = h.within; picked = to (take count line) h.picked; priced = h.priced }

  better_as : (P Q : List ℕ → Type 0) → ((w : List ℕ) → P w → Q w) → (best best' : Option (Found C)) (line' : List ℕ) → Better rank m roads P best best' line' → Better rank m roads Q best best' line'
  better_as P Q to best None line' b = b
  better_as P Q to best (Some found) line' b = (held_as P Q to line' (rank found.cost) found.count b.0, b.1)

  pub improves_as : (P Q : List ℕ → Type 0) → ((w : List ℕ) → P w → Q w) → ((w : List ℕ) → Q w → P w) → (best best' : Option (Found C)) (line line' : List ℕ)
      → Improves rank m roads P best line best' line' → Improves rank m roads Q best line best' line'
  improves_as P Q to back best best' line line' i = record {
    beaten = λ w q. i.beaten w (back w q);
    kept = ⊎_elim (λ e. inl e) (λ b. inr (better_as P Q to best best' line' b)) i.kept;
  }

  -- lower than the best so far, and so than the one before
  through : (P : List ℕ → Type 0) (best best' : Option (Found C)) (line line' : List ℕ) → ((best' ≡ best) × (line' ≡ line)) ⊎ Better rank m roads P best best' line'
      → (c : ℕ) → too_dear (price rank best') c ≡ false → too_dear (price rank best) c ≡ false
  through P best best' line line' (inl e) c f = let Q : Option (Found C) → Type 0 = λ b. too_dear (price rank b) c ≡ false in subst Q e.0 f
  through P best None line line' (inr b) c f = absurd b
  through P best (Some found) line line' (inr b) c f =
      ⊎_elim
      (λ t. absurd (both_ways (too_dear (Some (rank found.cost)) c) f (lower (price rank best) (rank found.cost) c t b.1)))
      (λ g. g)
      (cases_Bool (too_dear (price rank best) c))

  pub improves_both : (P Q : List ℕ → Type 0) (a b c : Option (Found C)) (la lb lc : List ℕ)
      → Improves rank m roads P a la b lb → Improves rank m roads Q b lb c lc → Improves rank m roads (Either P Q) a la c lc
  improves_both P Q a b c la lb lc i j = record {
    beaten = λ w h. ⊎_elim (λ p. still Q b c lb lc w j.kept (i.beaten w p)) (λ q. j.beaten w q) h;
    kept = ⊎_elim
        (λ e. ⊎_elim
        (λ d. inl (e.0 ∙ d.0, e.1 ∙ d.1))
        (λ h. inr (let R : Option (Found C) → Type 0 = λ x. Better rank m roads (Either P Q) a x lc in
        let S : List ℕ → Type 0 = λ x. Better rank m roads (Either P Q) a b x in
        subst R (sym e.0) (subst S (sym e.1) (better_as P (Either P Q) (λ w p. inl p) a b lb h))))
        i.kept)
        (λ h. inr (second c h))
        j.kept;
  }
    where
      second : (c : Option (Found C)) → Better rank m roads Q b c lc → Better rank m roads (Either P Q) a c lc
      second None h = h
      second (Some found) h = (
        held_as Q (Either P Q) (λ w q. inr q) lc (rank found.cost) found.count h.0,
        through P a b la lb i.kept (rank found.cost) h.1,
      )

  pub improves_none : (P : List ℕ → Type 0) (best : Option (Found C)) (line : List ℕ) → ((w : List ℕ) → P w → Costs best w) → Improves rank m roads P best line best line
  improves_none P best line none = record { beaten = none; kept = inl (refl, refl) }

  -- a cheapest of the routes that P picks, and then of those that Q picks too
  pub improves_finds : (P Q : List ℕ → Type 0) (best best' : Option (Found C)) (line line' : List ℕ)
      → Finds rank m roads P line best → Improves rank m roads Q best line best' line' → Finds rank m roads (Either P Q) line' best'
  improves_finds P Q best best' line line' finds i =
      ⊎_elim
      (λ e. let R : Option (Found C) → Type 0 = λ x. Finds rank m roads (Either P Q) line' x in
      let S : List ℕ → Type 0 = λ x. Finds rank m roads (Either P Q) x best in
      subst R (sym e.0) (subst S (sym e.1) (same best finds (λ w q. let T : Option (Found C) → Type 0 = λ x. Costs x w in subst T e.0 (i.beaten w q)))))
      (λ b. better best best' finds b i.beaten)
      i.kept
    where
      same : (best : Option (Found C)) → Finds rank m roads P line best → ((w : List ℕ) → Q w → Costs best w) → Finds rank m roads (Either P Q) line best
      same None f beaten = λ w h. ⊎_elim (λ p. f w p) (λ q. absurd (false≢true (beaten w q))) h
      same (Some found) f beaten = record {
        holds = f.holds;
        within = f.within;
        cheapest = (inl f.cheapest.0, λ w h. ⊎_elim (λ p. f.cheapest.1 w p) (λ q. let low = dear_at_least (rank found.cost) (cost m roads.plan w) (beaten w q) in omega (arith, f.priced)) h);
        priced = f.priced;
      }

      better : (best best' : Option (Found C)) → Finds rank m roads P line best → Better rank m roads Q best best' line' → ((w : List ℕ) → Q w → Costs best' w) → Finds rank m roads (Either P Q) line' best'
      better best None f b beaten = absurd b
      better None (Some found) f b beaten = record {
        holds = b.0.holds;
        within = b.0.within;
        cheapest = (inr b.0.picked, λ w h. ⊎_elim (λ p. absurd (f w p)) (λ q. let low = dear_at_least (rank found.cost) (cost m roads.plan w) (beaten w q) in omega (arith, b.0.priced)) h);
        priced = b.0.priced;
      }
      better (Some last) (Some found) f b beaten = record {
        holds = b.0.holds;
        within = b.0.within;
        cheapest = (
          inr b.0.picked,
          λ w h. ⊎_elim
              (λ p. let least = f.cheapest.1 w p in let down = ltb-true (rank found.cost) (rank last.cost) (not-false (ltb (rank found.cost) (rank last.cost)) b.1) in omega (arith, f.priced, b.0.priced))
              (λ q. let low = dear_at_least (rank found.cost) (cost m roads.plan w) (beaten w q) in omega (arith, b.0.priced))
              h,
        );
        priced = b.0.priced;
      }

  pub finds_as : (P Q : List ℕ → Type 0) → ((w : List ℕ) → P w → Q w) → ((w : List ℕ) → Q w → P w) → (line : List ℕ) (best : Option (Found C))
      → Finds rank m roads P line best → Finds rank m roads Q line best
  finds_as P Q to back line None f = λ w q. f w (back w q)
  finds_as P Q to back line (Some found) f = record {
    holds = f.holds;
    within = f.within;
    cheapest = (to (take found.count line) f.cheapest.0, λ w q. f.cheapest.1 w (back w q));
    priced = f.priced;
  }

-- The beginning itself.

last_read : (a : ℕ) (bs : List ℕ) (k : ℕ) → k + 1 ≡ length (a ∷ bs) → get_or (a ∷ bs) k 0 ≡ last_of a bs
last_read a [] zero h = refl
last_read a [] (suc k) h = absurd (omega arith)
last_read a (b ∷ bs) zero h = absurd (omega arith)
last_read a (b ∷ bs) (suc k) h = last_read b bs k (omega arith)

pub ends_read : (roads : Roads) (to : ℕ) (p : List ℕ) (last : Link) → 1 ≤ length p → last ≡ link roads.plan.links (get_or p (length p - 1) 0)
    → eqb last.end to ≡ ends_at roads to p
ends_read roads to [] last some is = absurd (omega arith)
ends_read roads to (a ∷ bs) last some is =
    ap (λ (l : Link). eqb l.end to) (is ∙ ap (link roads.plan.links) (last_read a bs (length (a ∷ bs) - 1) (omega arith)))

pub begins_passable : (roads : Roads) (from : ℕ) (p : List ℕ) → Begins roads from p → AllByRecursion (Passable roads) p
begins_passable roads from [] b = tt
begins_passable roads from (a ∷ bs) b = b.2

simple_ends : (roads : Roads) (from to : ℕ) (p : List ℕ) → Simple roads from to p → ends_at roads to p ≡ true
simple_ends roads from to [] s = absurd s
simple_ends roads from to (a ∷ bs) s = eq-eqb _ _ s.1

ends_simple : (roads : Roads) (from to : ℕ) (p : List ℕ) → Begins roads from p → ends_at roads to p ≡ true → Simple roads from to p
ends_simple roads from to [] b t = absurd (false≢true t)
ends_simple roads from to (a ∷ bs) b t = (b.0, eqb-true _ _ t, b.1, b.2, b.3)

front_of : (line p : List ℕ) → Holds line p → (take (length p) line ≡ p) × (length p ≤ length line)
front_of line p h =
    let zeros : List ℕ = replicate (length line - length p) 0 in
    let few : length zeros ≡ length line - length p = length-replicate (length line - length p) 0 in
    let whole : length line ≡ length p + length zeros = ap length h ∙ length-append p zeros in
    (ap (take (length p)) h ∙ take_at p zeros (length p) refl, omega arith)

module _ {C : Type 0} (rank : C → ℕ) (m : Ranks) (roads : Roads) (from to : ℕ) (p : List ℕ) (best : Option (Found C)) (line : List ℕ) where
  pub itself_none : (taken : Bool) → (taken ≡ true) ⊎ ((ends_at roads to p ≡ false) ⊎ (too_dear (price rank best) (cost m roads.plan p) ≡ true))
      → Improves rank m roads (Itself roads from to p taken) best line best line
  itself_none taken why =
      improves_none rank m roads (Itself roads from to p taken) best line
      (λ w h. ⊎_elim
      (λ t. absurd (both_ways taken h.2 t))
      (λ either. ⊎_elim
      (λ f. let S : List ℕ → Type 0 = λ x. Simple roads from to x in absurd (both_ways (ends_at roads to p) f (simple_ends roads from to p (subst S h.0 h.1))))
      (λ dear. ap (λ (x : List ℕ). too_dear (price rank best) (cost m roads.plan x)) h.0 ∙ dear)
      either)
      why)

  pub itself_better : (taken : Bool) (found : Found C) (line' : List ℕ) → Begins roads from p → ends_at roads to p ≡ true → taken ≡ false
      → too_dear (price rank best) (rank found.cost) ≡ false → rank found.cost ≡ cost m roads.plan p → found.count ≡ length p → Holds line' p
      → Improves rank m roads (Itself roads from to p taken) best line (Some found) line'
  itself_better taken found line' begins ends free cheap priced count holds =
      let front = front_of line' p holds in
      let same : take found.count line' ≡ p = ap (λ (k : ℕ). take k line') count ∙ front.0 in record {
        beaten = λ w h. at_least_dear (rank found.cost) (cost m roads.plan w) (omega (arith, priced, ap (cost m roads.plan) h.0));
        kept = inr (
          record {
            holds = let P : List ℕ → Type 0 = λ x. Holds line' x in subst P (sym same) holds;
            within = omega (arith, front.1, count);
            picked = let P : List ℕ → Type 0 = λ x. Itself roads from to p taken x in subst P (sym same) (refl, ends_simple roads from to p begins ends, free);
            priced = priced ∙ sym (ap (cost m roads.plan) same);
          },
          cheap,
        );
      }

  -- A completion of it.
  completion_none : (forbidden : List Bool) (limit : Option C) (line' : List ℕ) → limit ≡ bound best
      → ((ws : List ℕ) → Completes roads from to p forbidden ws → too_dear (option_map rank limit) (cost m roads.plan (p ++ ws)) ≡ true) → line' ≡ line
      → Improves rank m roads (Completion roads from to p forbidden) best line best line'
  completion_none forbidden limit line' e dear same = record {
    beaten = λ w h. ap (λ (x : List ℕ). too_dear (price rank best) (cost m roads.plan x)) h.1
        ∙ ap (λ (x : Option C). too_dear (option_map rank x) (cost m roads.plan (p ++ h.0))) (sym e) ∙ dear h.0 h.2;
    kept = inl (refl, same);
  }

  completion_better : (forbidden : List Bool) (limit : Option C) (found : Found C) (line' : List ℕ) → limit ≡ bound best
      → CheapestCompletion m roads from to p forbidden (option_map rank limit) line' (rank found.cost) found.count
      → Improves rank m roads (Completion roads from to p forbidden) best line (Some found) line'
  completion_better forbidden limit found line' e c = record {
    beaten = λ w h. at_least_dear (rank found.cost) (cost m roads.plan w) (omega (arith, c.least h.0 h.2, ap (cost m roads.plan) h.1));
    kept = inr (
      record {
        holds = c.holds;
        within = c.within;
        picked = (c.links, c.written, c.completes);
        priced = c.priced ∙ sym (ap (cost m roads.plan) c.written);
      },
      ap (λ (x : Option C). too_dear (option_map rank x) (rank found.cost)) (sym e) ∙ c.below,
    );
  }

  -- what the search for one makes of the best route so far
  pub completed : (forbidden : List Bool) (limit : Option C) (answer : Option (Found C)) (line' : List ℕ) → limit ≡ bound best
      → Completed rank m roads from to p forbidden limit line answer line'
      → Improves rank m roads (Completion roads from to p forbidden) best line (option_or answer best) line'
  completed forbidden limit None line' e c = completion_none forbidden limit line' e c.0 c.1
  completed forbidden limit (Some found) line' e c = completion_better forbidden limit found line' e c
