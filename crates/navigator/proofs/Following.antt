-- Calls one after another, under one measure. Assumes nothing.
use Rattle.std.proofs.Common.{◌≡◌, ℕ, List, [], ◌∷◌, subst}
use Rattle.network.specs.Roads.{Roads}
use Rattle.measure.specs.Ranks.{Ranks}
use Rattle.navigator.specs.State.{State}
use Rattle.navigator.specs.Answers.{Answer, refused, done, least, route}
use Rattle.navigator.specs.Searches.{Next, Trial}
use Rattle.navigator.specs.Runs.{ask, ledger}
use Rattle.navigator.proofs.Kept.{OneBook}

-- the first next after an ask may be lent any book
pub any_book : (roads : Roads) (from to : ℕ) (told : Answer) (book : List ℕ) → OneBook (ledger roads (ask from to told ∷ [])).current book
any_book roads from to (refused n) book = tt
any_book roads from to done book = tt
any_book roads from to (least n) book = tt
any_book roads from to (route a b c) book = tt

module _ {M : Type 0} (ranks : M → Ranks) {a b : M} (same : a ≡ b) where
  pub next_under : (s : State) (book : List ℕ) (costs : ℕ) (answer : Answer) (s' : State) (book' : List ℕ)
      → Next (ranks a) s book costs answer s' book' → Next (ranks b) s book costs answer s' book'
  next_under s book costs answer s' book' h = subst (λ (x : M). Next (ranks x) s book costs answer s' book') same h

  pub trial_under : (s : State) (link k n : ℕ) (answer : Answer) → k ≡ n → Trial (ranks a) s link k answer → Trial (ranks b) s link n answer
  trial_under s link k n answer e h =
      subst (λ (costs : ℕ). Trial (ranks b) s link costs answer) e (subst (λ (x : M). Trial (ranks x) s link k answer) same h)
