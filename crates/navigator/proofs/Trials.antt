-- A link that is closed for one look. Assumes nothing.
--     without roads link    the roads with the link closed
use Rattle.std.proofs.Common.{◌≡◌, ℕ, zero, suc, ◌<◌, ◌≤◌, Bool, true, false, ◌||◌, eqb, ◌⊎◌, List, [], ◌∷◌, length, get_or, Ok, Err, Result, sym, refl, ap, ◌∙◌, subst, inl, inr, arith, set-set}
use lib.Seq.{set-get_or}
use Rattle.std.specs.List.{ContainsAt as Has}
use Rattle.std.proofs.ByRecursion.{all-has}
use Rattle.std.proofs.lemmas.Bool.{eq-eqb, ne_eqb, or_from, or_left, or_right, both_ways, cases_Bool}
use Rattle.network.specs.declared.refusal.Refusal.{Refusal}
use Rattle.network.specs.Marks.{marked}
use Rattle.network.specs.Plan.{Laid}
use Rattle.network.specs.Refusals.{number}
use Rattle.network.specs.Roads.{Roads, closed, Passable}
use Rattle.network.proofs.Marked.{added_has}
use Rattle.measure.specs.Ranks.{Ranks}
use Rattle.routing.specs.Route.{Joined, Simple, Avoiding, Least}
use Rattle.routing.proofs.Members.{all_from_has}
use Rattle.navigator.specs.declared.question.Question.{Question}
use Rattle.navigator.specs.declared.question.Question.TheVariants.{Open}
use Rattle.navigator.specs.State.{State}
use Rattle.navigator.specs.Checks.{Passed}
use Rattle.navigator.specs.Answers.{Answer, refused, least, tried}
use Rattle.navigator.specs.Searches.{trial_rows, Trial, Without, worked}
use Rattle.navigator.specs.Tried.{LeastTold}
use Rattle.navigator.proofs.Rows.{all_passed}

pub put_back : (ms : List Bool) (n : ℕ) → marked (marked ms n true) n (get_or (false ∷ ms) n false) ≡ ms
put_back ms zero = refl
put_back ms (suc n) = set-set ms n true (get_or ms n false) ∙ set-get_or ms n false

abbrev pub without : Roads → ℕ → Roads
without roads link = record { plan = roads.plan; marks = marked roads.marks link true }

joined_over : (roads roads' : Roads) (a : ℕ) (bs : List ℕ) → roads.plan ≡ roads'.plan → Joined roads a bs → Joined roads' a bs
joined_over roads roads' a [] e j = tt
joined_over roads roads' a (b ∷ bs) e j = (rw e at j.0, joined_over roads roads' b bs e j.1)

module _ (roads : Roads) (link : ℕ) (laid : Laid roads.plan.links link) (few : length roads.plan.links ≤ length roads.marks) where
  closed_as : (n : ℕ) → Laid roads.plan.links n → closed (without roads link) n ≡ (eqb n link || closed roads n)
  closed_as n l = added_has roads.marks link n l.0 (omega (arith, l.1))

  open_before : (n : ℕ) → Passable (without roads link) n → Passable roads n × (n ≡ link → ⊥)
  open_before n p =
      let told = closed_as n p.0 in (
        (p.0, elim (cases_Bool (closed roads n)) [ inl t ↦ absurd (both_ways (closed (without roads link) n) p.1 (told ∙ or_right (eqb n link) (closed roads n) t)) | inr f ↦ f ]),
        λ e. both_ways (closed (without roads link) n) p.1 (told ∙ or_left (eqb n link) (closed roads n) (eq-eqb n link e)),
      )

  still_open : (n : ℕ) → Passable roads n → (n ≡ link → ⊥) → Passable (without roads link) n
  still_open n p other = (p.0, closed_as n p.0 ∙ or_from (eqb n link) (closed roads n) (ne_eqb n link other) p.1)

  pub avoids : (from to : ℕ) (r : List ℕ) → Simple (without roads link) from to r → Avoiding roads from to link r
  avoids from to [] s = absurd s
  avoids from to (a ∷ bs) s = (
    (
      s.0,
      s.1,
      joined_over (without roads link) roads a bs refl s.2,
      all_from_has (Passable roads) (a ∷ bs) (λ n h. (open_before n (all-has (Passable (without roads link)) (a ∷ bs) n s.3 h)).0),
      s.4,
    ),
    λ h. (open_before link (all-has (Passable (without roads link)) (a ∷ bs) link s.3 h)).1 refl,
  )

  pub avoiding_simple : (from to : ℕ) (r : List ℕ) → Avoiding roads from to link r → Simple (without roads link) from to r
  avoiding_simple from to [] s = absurd s.0
  avoiding_simple from to (a ∷ bs) s = (
    s.0.0,
    s.0.1,
    joined_over roads (without roads link) a bs refl s.0.2,
    all_from_has (Passable (without roads link)) (a ∷ bs)
        (λ n h. still_open n (all-has (Passable roads) (a ∷ bs) n s.0.3 h) (λ e. s.1 (subst (Has (a ∷ bs)) e h))),
    s.0.4,
  )

  least_avoiding : (m : Ranks) (from to n : ℕ) → Least m (without roads link) (Simple (without roads link) from to) n
      → Least m roads (Avoiding roads from to link) n
  least_avoiding m from to n l = (
    (l.0.0, avoids from to l.0.0 l.0.1, l.0.2),
    λ r a. l.1 r (avoiding_simple from to r a),
  )

  abbrev at : Question → State
  at q = record { roads = roads; question = q }

  -- past the rows, by what was found over the roads without the link
  pub trial_told : {C : Type 0} (rank : C → ℕ) (m : Ranks) (from to n costs : ℕ) (q : Question) → q ≡ Open from to n
      → Passed (trial_rows (at q) link costs) → (ms : List Bool) → ms ≡ marked roads.marks link true
      → (r : Result C Refusal) → LeastTold rank m roads.plan ms from to r
      → Trial m (at q) link costs (tried rank r) × (worked (tried rank r) ≡ true)
  trial_told {C} rank m from to n costs q is passed ms closed r least-told = (found passed, searched r told)
    where
      told : LeastTold rank m roads.plan (marked roads.marks link true) from to r
      told = subst (λ (ms : List Bool). LeastTold rank m roads.plan ms from to r) closed least-told

      Found : Answer → Question → Type 0
      Found answer q =
          ((answer ≡ refused 16) × ((route : List ℕ) → Without (at q) link route → ⊥))
          ⊎ ((k : ℕ) × Least m roads (Without (at q) link) k × (answer ≡ least k))

      outcome : (r : Result C Refusal) → LeastTold rank m roads.plan (marked roads.marks link true) from to r → Found (tried rank r) (Open from to n)
      outcome (Ok c) l = inr (rank c, least_avoiding m from to (rank c) l, refl)
      outcome (Err e) l = inl (ap refused l.0, λ route a. l.1 route (avoiding_simple from to route a))

      found : Passed (trial_rows (at q) link costs) → Trial m (at q) link costs (tried rank r)
      found p =
          all_passed (trial_rows (at q) link costs) (λ k. tried rank r ≡ refused k) (Found (tried rank r) q) p
          (subst (Found (tried rank r)) (sym is) (outcome r told))

      searched : (r : Result C Refusal) → LeastTold rank m roads.plan (marked roads.marks link true) from to r → worked (tried rank r) ≡ true
      searched (Ok c) l = refl
      searched (Err e) l = eq-eqb (number e) 16 l.0

-- a link that trial goes on with is laid
pub laid_now : (roads : Roads) (q : Question) (link costs : ℕ) → Passed (trial_rows (record { roads = roads; question = q }) link costs)
    → Laid roads.plan.links link
laid_now roads q link costs passed = (
  at_least link 1 (λ l. passed.1.1.0 (λ laid. omega (arith, laid.0))),
  at_least (length roads.plan.links) link (λ l. passed.1.1.0 (λ laid. omega (arith, laid.1))),
)
  where
    at_least : (a b : ℕ) → (a < b → ⊥) → b ≤ a
    at_least a b n = omega (arith, n)
