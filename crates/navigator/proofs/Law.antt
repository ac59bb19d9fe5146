-- The law holds of every measure and map. Assumes nothing: not even the laws of a measure.
use Rattle.std.proofs.Common.{◌≡◌, ℕ, ◌⊎◌, List, [], ◌∷◌, Some, None, Option, refl, subst, inl, inr, arith}
use mathlib.Core.List.{List-discrete}
use native.Mathlib.Decide.{ℕ_discrete}
use Rattle.std.specs.List.{ContainsAt as Has}
use Rattle.network.specs.Roads.{Roads}
use Rattle.measure.specs.Ranks.{Ranks}
use Rattle.routing.proofs.Members.{has_later, has_none, has_cases}
use Rattle.navigator.specs.declared.question.Question.TheVariants.{Shut}
use Rattle.navigator.specs.State.{State}
use Rattle.navigator.specs.Checks.{Passed}
use Rattle.navigator.specs.Answers.{Answer, refused, route}
use Rattle.navigator.specs.Searches.{next_rows, Next, HandsOut, NoneLeft}
use Rattle.navigator.specs.Runs.{Started, ledger}
use Rattle.navigator.specs.Law.{Told, Law}
use Rattle.navigator.proofs.Rows.{past_rows}
use Rattle.navigator.proofs.Places.{Stand}
use Rattle.navigator.proofs.Kept.{state_of, Kept, kept, with, AsLeft, OneBook, lent_holds, not_handed, unlisted}

has_or_not : (xs : List (List ℕ)) (y : List ℕ) → Has xs y ⊎ (Has xs y → ⊥)
has_or_not [] y = inr (has_none y)
has_or_not (x ∷ xs) y = by_first (List-discrete ℕ_discrete x y) (has_or_not xs y)
  where
    by_first : Dec (x ≡ y) → Has xs y ⊎ (Has xs y → ⊥) → Has (x ∷ xs) y ⊎ (Has (x ∷ xs) y → ⊥)
    by_first (yes e) later = inl (0, omega arith, λ d. e)
    by_first (no n) (inl h) = inl (has_later xs x y h)
    by_first (no n) (inr none) = inr (λ h. elim (has_cases xs x y h) [ inl e ↦ n e | inr l ↦ none l ])

never : (answer : Answer) (n a b c : ℕ) → answer ≡ refused n → answer ≡ route a b c → ⊥
never answer n a b c p q = let z : ◌≡◌ {A = ℕ} 0 1 = cc in omega arith

-- a next of the question q that passed its rows above 16, on roads that have not changed
module _ (m : Ranks) (q : Started) (ended : List Started) (book : List ℕ) (costs : ℕ) (book' : List ℕ) (answer : Answer) (s' : State) where
  abbrev Tells : Roads → Type 0
  Tells roads =
      Kept m (with roads (Some q) ended) (state_of (with roads (Some q) ended)) → AsLeft q.book book
      → Next m (state_of (with roads (Some q) ended)) book costs answer s' book'
      → Passed (next_rows (state_of (with roads (Some q) ended)) book costs) → Told (Some q) answer

  tells_here : Tells q.roads
  tells_here k left h p =
      elim (past_rows (next_rows s book costs) (λ n. (answer ≡ refused n) × (s' ≡ s) × (book' ≡ book)) (NoneLeft s book answer s' book' ⊎ HandsOut m s book answer s' book') p h) [
        | inl none ↦ (
          λ e r o. elim (has_or_not q.handed r) [
            | inl has ↦ has
            | inr not ↦ absurd (none.none r (unlisted q book r st k.first.0.simple o not))
          ],
          λ every. none.answers,
        )
        | inr one ↦ (
          λ e. absurd (never answer 16 _ _ _ e one.answers),
          λ every. absurd (not_handed q book one.r st one.cheapest.0 (every one.r one.cheapest.0.0)),
        )
      ]
    where
      s : State
      s = state_of (with q.roads (Some q) ended)

      st : Stand book q.handed
      st = lent_holds q.book book q.handed k.sound.1 left

tells : (m : Ranks) (roads : Roads) (current : Option Started) (ended : List Started) (book : List ℕ) (costs : ℕ) (book' : List ℕ) (answer : Answer) (s' : State)
    → Kept m (with roads current ended) (state_of (with roads current ended)) → OneBook current book
    → Next m (state_of (with roads current ended)) book costs answer s' book'
    → Passed (next_rows (state_of (with roads current ended)) book costs) → Told current answer
tells m roads None ended book costs book' answer s' k left h p = p.0 refl
tells m roads (Some q) ended book costs book' answer s' k left h p =
    subst (Tells m q ended book costs book' answer s') k.sound.0 (tells_here m q ended book costs book' answer s') k left h p

pub law : (m : Ranks) (first : State) → first.question ≡ Shut → Law m first
law m first e = record {
  cheapest_first = λ past s run. (kept m first e past s run).first;
  told = λ past s s' book costs book' answer run follows passed.
      let k = kept m first e past s run in
      let l = ledger first.roads past in
      tells m l.roads l.current l.ended book costs book' answer s'
      (record { state = refl; sound = k.sound; first = k.first }) follows.1
      (subst (λ (t : State). Next m t book costs answer s' book') k.state follows.0)
      (subst (λ (t : State). Passed (next_rows t book costs)) k.state passed);
}
