-- What a list has that is made of others. Assumes nothing.
use Rattle.std.proofs.Common.{◌≡◌, ℕ, zero, suc, ◌<◌, Bool, true, ◌⊎◌, List, [], ◌∷◌, map, length, get_or, filter, sym, refl, ap, ◌∙◌, subst, inl, inr, ⊎_elim, arith}
use Rattle.std.specs.List.{ContainsAt as Has, flat_map, AllByRecursion}
use Rattle.std.proofs.lemmas.List.{length-map, get_or-map}
use Rattle.std.proofs.ByRecursion.{All-append, All-weaker, all-has, all_has_itself, has_append_left, has_append_right, all_kept_by, kept_by_passes}
use Rattle.std.proofs.lemmas.Bool.{cond_both, both_ways}

pub has_first : {X : Type 0} (xs : List X) (x : X) → Has (x ∷ xs) x
has_first xs x = (0, omega arith, λ d. refl)

pub has_later : {X : Type 0} (xs : List X) (y x : X) → Has xs x → Has (y ∷ xs) x
has_later xs y x h = (suc h.0, omega (arith, h.1), h.2)

pub has_none : {X : Type 0} (x : X) → Has [] x → ⊥
has_none x h = omega (arith, h.1)

pub has_cases : {X : Type 0} (xs : List X) (y x : X) → Has (y ∷ xs) x → (y ≡ x) ⊎ Has xs x
has_cases {X} xs y x h = by h.0 h.1 h.2
  where
    by : (k : ℕ) → k < length (y ∷ xs) → ((d : X) → get_or (y ∷ xs) k d ≡ x) → (y ≡ x) ⊎ Has xs x
    by zero l is = inl (is x)
    by (suc k) l is = inr (k, omega arith, is)

-- what holds of whatever a list has holds of all of it
pub all_from_has : {X : Type 0} (P : X → Type 0) (xs : List X) → ((x : X) → Has xs x → P x) → AllByRecursion P xs
all_from_has P xs h = All-weaker (Has xs) P h xs (all_has_itself xs)

pub has_kept : {X : Type 0} (p : X → Bool) (xs : List X) (x : X) → Has xs x → p x ≡ true → Has (filter p xs) x
has_kept p [] x h t = absurd (has_none x h)
has_kept {X} p (y ∷ xs) x h t =
    cond_both (p y) (y ∷ filter p xs) (filter p xs) (λ (l : List X). Has l x)
    (λ _. ⊎_elim (λ e. subst (Has (y ∷ filter p xs)) e (has_first (filter p xs) y))
    (λ g. has_later (filter p xs) y x (has_kept p xs x g t)) (has_cases xs y x h))
    (λ f. ⊎_elim (λ e. absurd (both_ways (p y) f (ap p e ∙ t))) (λ g. has_kept p xs x g t) (has_cases xs y x h))

pub kept_has : {X : Type 0} (p : X → Bool) (xs : List X) (x : X) → Has (filter p xs) x → Has xs x × (p x ≡ true)
kept_has {X} p xs x h = (
  all-has (Has xs) (filter p xs) x (all_kept_by p (Has xs) xs (all_has_itself xs)) h,
  all-has (λ (y : X). p y ≡ true) (filter p xs) x (kept_by_passes p xs) h,
)

pub has_map : {X Y : Type 0} (f : X → Y) (xs : List X) (x : X) → Has xs x → Has (map f xs) (f x)
has_map f xs x h = (h.0, rw length-map h.1, λ d. get_or-map f xs h.0 x d h.1 ∙ ap f (h.2 x))

pub all_joined : {X Y : Type 0} (P : Y → Type 0) (f : X → List Y) (xs : List X) → AllByRecursion (λ x. AllByRecursion P (f x)) xs → AllByRecursion P (flat_map f xs)
all_joined P f [] h = tt
all_joined P f (x ∷ xs) h = All-append P (f x) (flat_map f xs) h.0 (all_joined P f xs h.1)

pub has_joined : {X Y : Type 0} (f : X → List Y) (xs : List X) (x : X) (y : Y) → Has xs x → Has (f x) y → Has (flat_map f xs) y
has_joined f [] x y h g = absurd (has_none x h)
has_joined {X} f (z ∷ xs) x y h g =
    ⊎_elim (λ e. has_append_left (f z) (flat_map f xs) y (subst (λ (w : X). Has (f w) y) (sym e) g))
    (λ k. has_append_right (f z) (flat_map f xs) y (has_joined f xs x y k g)) (has_cases xs z x h)
