-- The test of a route, link by link. Assumes nothing.
--     Walked roads to first rest i before ms   the first i links of the rest passed, before them the first: the last of these is
--                                              `before`, the marks are theirs, and the other links decide
use Rattle.std.proofs.Common.{◌≡◌, ℕ, suc, ◌+◌, ◌-◌, ◌<◌, ◌≤◌, Bool, true, false, not, ◌&&◌, eqb, List, [], ◌∷◌, length, get_or, take, drop, replicate, sym, refl, ap, ◌∙◌, subst, ⊎_elim, arith}
use Rattle.std.proofs.lemmas.List.{drop_more, take_more, drop_all, take_all}
use Rattle.std.proofs.lemmas.Bool.{and_parts, and_left, cases_Bool, not-true, eq-eqb}
use Rattle.network.specs.Marks.{marked, marks_of}
use Rattle.network.proofs.Marked.{marks_of_has, marks_of_more}
use Rattle.network.specs.Plan.{Laid, link}
use Rattle.network.specs.Roads.{Roads}
use Rattle.network.specs.Shared.{stands_in}
use Rattle.routing.specs.Enumeration.{passable, joins, starts_at}
use Rattle.routing.specs.Lent.{steps_test, route_test}
use Rattle.routing.proofs.Conditions.{passable_true}

pub record Walked (roads : Roads) (to first : ℕ) (rest : List ℕ) (i before : ℕ) (ms : List Bool) : Type 0 where
  pub laid : Laid roads.plan.links before
  pub seen : ms ≡ marks_of (first ∷ take i rest)
  pub same : steps_test roads to before (first ∷ take i rest) (drop i rest) ≡ steps_test roads to first (first ∷ []) rest

abbrev from_first : Roads → (to first : ℕ) → List ℕ → Bool
from_first roads to first rest = steps_test roads to first (first ∷ []) rest

pub walk_starts : (roads : Roads) (to first : ℕ) (rest : List ℕ) (ms : List Bool) → Laid roads.plan.links first
    → ms ≡ marked (replicate 1024 false) first true → Walked roads to first rest 0 first ms
unfolding marks_of
walk_starts roads to first rest ms laid e = record { laid = laid; seen = e; same = refl }

stopped : (a n j t : Bool) → (a && (not n && j)) ≡ false → (a && (not n && (j && t))) ≡ false
stopped false n j t f = refl
stopped true true j t f = refl
stopped true false j t f = and_left j t f

-- one link more
module _ (roads : Roads) (to first : ℕ) (rest : List ℕ) (i before : ℕ) (ms : List Bool)
    (walked : Walked roads to first rest i before ms) (inside : i < length rest) where
  abbrev here : ℕ
  here = get_or rest i 0

  abbrev fits : Bool
  fits = passable roads here && (not (get_or (false ∷ ms) here false) && joins roads before here)

  opened : steps_test roads to before (first ∷ take i rest) (drop i rest)
      ≡ (passable roads here && (not (stands_in here (first ∷ take i rest))
      && (joins roads before here && steps_test roads to here (first ∷ take (i + 1) rest) (drop (i + 1) rest))))
  unfolding steps_test
  opened =
      ap (λ (bs : List ℕ). steps_test roads to before (first ∷ take i rest) bs) (drop_more rest i 0 inside)
      ∙ ap (λ (seen : List ℕ). passable roads here && (not (stands_in here (first ∷ take i rest))
      && (joins roads before here && steps_test roads to here (first ∷ seen) (drop (i + 1) rest)))) (sym (take_more rest i 0 inside))

  seen_here : Laid roads.plan.links here → length roads.plan.links ≤ 1024
      → get_or (false ∷ ms) here false ≡ stands_in here (first ∷ take i rest)
  seen_here laid few =
      ap (λ (x : List Bool). get_or (false ∷ x) here false) walked.seen
      ∙ marks_of_has (first ∷ take i rest) here laid.0 (omega (arith, laid.1))

  pub walk_goes_on : length roads.plan.links ≤ 1024 → fits ≡ true → Walked roads to first rest (i + 1) here (marked ms here true)
  unfolding marks_of
  walk_goes_on few t =
      let p = and_parts (passable roads here) (not (get_or (false ∷ ms) here false) && joins roads before here) t in
      let q = and_parts (not (get_or (false ∷ ms) here false)) (joins roads before here) p.1 in
      let laid = (passable_true roads here p.0).0 in
      let new : stands_in here (first ∷ take i rest) ≡ false = sym (seen_here laid few) ∙ not-true _ q.0 in
      record {
        laid = laid;
        seen = ap (λ (x : List Bool). marked x here true) walked.seen ∙ sym (marks_of_more (first ∷ rest) (suc i) (omega arith))
            ∙ ap (λ (k : ℕ). marks_of (take k (first ∷ rest))) (let e : suc i + 1 ≡ suc (i + 1) = omega arith in e);
        same = sym (opened ∙ rw (p.0, new, q.1) refl) ∙ walked.same;
      }

  pub walk_stops : length roads.plan.links ≤ 1024 → fits ≡ false → from_first roads to first rest ≡ false
  walk_stops few f =
      let p = passable roads here in
      let j = joins roads before here in
      sym walked.same
      ∙ opened
      ∙ ⊎_elim (λ (t : p ≡ true). stopped p (stands_in here (first ∷ take i rest)) j _
      (subst (λ (b : Bool). (p && (not b && j)) ≡ false) (seen_here (passable_true roads here t).0 few) f))
      (λ (t : p ≡ false). and_left p _ t) (cases_Bool p)

pub walk_ends : (roads : Roads) (to first : ℕ) (rest : List ℕ) (i before : ℕ) (ms : List Bool)
    → Walked roads to first rest i before ms → length rest ≤ i → from_first roads to first rest ≡ eqb (link roads.plan.links before).end to
unfolding steps_test
walk_ends roads to first rest i before ms w past =
    sym w.same ∙ ap (λ (bs : List ℕ). steps_test roads to before (first ∷ take i rest) bs) (drop_all i rest past)

-- the first link passes: the others decide
pub decided : (roads : Roads) (from to : ℕ) (links : List ℕ) (b : Bool) → 1 ≤ length links → passable roads (get_or links 0 0) ≡ true
    → (link roads.plan.links (get_or links 0 0)).start ≡ from
    → from_first roads to (get_or links 0 0) (take (length links - 1) (drop 1 links)) ≡ b → b ≡ route_test roads from to links
decided roads from to [] b some p start e = absurd (omega arith)
decided roads from to (a ∷ bs) b some p start e =
    let s : starts_at roads from a ≡ true = eq-eqb _ _ start in
    let rest = take_all (length (a ∷ bs) - 1) bs (omega arith) in
    sym e ∙ ap (from_first roads to a) rest ∙ sym (rw (p, s) refl)
