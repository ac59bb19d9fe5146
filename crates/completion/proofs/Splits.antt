-- Routes in two parts. Assumes nothing.
use Rattle.std.proofs.Common.{◌≡◌, ℕ, ◌⊎◌, List, [], ◌∷◌, ◌++◌, sym, refl, subst, inl, inr, ⊎_elim}
use Rattle.std.specs.List.{ContainsAt as Has, AllByRecursion}
use Rattle.std.proofs.ByRecursion.{all-has, has_append_left, has_append_right}
use Rattle.network.specs.Plan.{Plan}
use Rattle.network.specs.Roads.{Roads, Joins}
use Rattle.network.specs.Shared.{Once}
use Rattle.measure.specs.Ranks.{Ranks}
use Rattle.measure.specs.Cost.{onward, step}
use Rattle.routing.specs.Route.{Joined, last_of}
use Rattle.routing.proofs.Members.{has_first, has_later, has_none, has_cases, all_from_has}

pub last_append : (qs : List ℕ) (a b : ℕ) (bs : List ℕ) → last_of a (qs ++ (b ∷ bs)) ≡ last_of b bs
last_append [] a b bs = refl
last_append (c ∷ qs) a b bs = last_append qs c b bs

pub all_parts : {X : Type 0} (P : X → Type 0) (xs ys : List X) → AllByRecursion P (xs ++ ys) → AllByRecursion P xs × AllByRecursion P ys
all_parts P [] ys h = (tt, h)
all_parts P (x ∷ xs) ys h = let rest = all_parts P xs ys h.1 in ((h.0, rest.0), rest.1)

pub has_append_cases : {X : Type 0} (xs ys : List X) (x : X) → Has (xs ++ ys) x → Has xs x ⊎ Has ys x
has_append_cases [] ys x h = inr h
has_append_cases {X} (z ∷ xs) ys x h =
    ⊎_elim
    (λ e. inl (subst (λ (w : X). Has (z ∷ xs) w) e (has_first xs z)))
    (λ k. ⊎_elim (λ l. inl (has_later xs z x l)) (λ r. inr r) (has_append_cases xs ys x k))
    (has_cases (xs ++ ys) z x h)

-- none of the one list stands in the other
abbrev pub Apart : (xs ys : List ℕ) → Type 0
Apart xs ys = AllByRecursion (λ y. Has xs y → ⊥) ys

pub once_parts : (xs ys : List ℕ) → Once (xs ++ ys) → Once xs × Once ys × Apart xs ys
once_parts [] ys o = (tt, o, all_from_has (λ y. Has [] y → ⊥) ys (λ y h k. has_none y k))
once_parts (x ∷ xs) ys o =
    let rest = once_parts xs ys o.1 in (
      ((λ h. o.0 (has_append_left xs ys x h)), rest.0),
      rest.1,
      all_from_has (λ y. Has (x ∷ xs) y → ⊥) ys
          (λ y h k. ⊎_elim (λ e. o.0 (has_append_right xs ys x (subst (Has ys) (sym e) h))) (λ l. all-has (λ y. Has xs y → ⊥) ys y rest.2 h l) (has_cases xs x y k)),
    )

pub once_from : (xs ys : List ℕ) → Once xs → Once ys → Apart xs ys → Once (xs ++ ys)
once_from [] ys o q a = q
once_from (x ∷ xs) ys o q a = (
  (λ h. ⊎_elim o.0 (λ k. all-has (λ y. Has (x ∷ xs) y → ⊥) ys x a k (has_first xs x)) (has_append_cases xs ys x h)),
  once_from xs ys o.1 q (all_from_has (λ y. Has xs y → ⊥) ys (λ y h k. all-has (λ y. Has (x ∷ xs) y → ⊥) ys y a h (has_later xs x y k))),
)

pub joined_parts : (roads : Roads) (qs : List ℕ) (a b : ℕ) (bs : List ℕ) → Joined roads a (qs ++ (b ∷ bs)) → Joined roads a qs × Joins roads (last_of a qs) b × Joined roads b bs
joined_parts roads [] a b bs j = (tt, j.0, j.1)
joined_parts roads (c ∷ qs) a b bs j = let rest = joined_parts roads qs c b bs j.1 in ((j.0, rest.0), rest.1, rest.2)

pub joined_from : (roads : Roads) (qs : List ℕ) (a b : ℕ) (bs : List ℕ) → Joined roads a qs → Joins roads (last_of a qs) b → Joined roads b bs → Joined roads a (qs ++ (b ∷ bs))
joined_from roads [] a b bs j k l = (k, l)
joined_from roads (c ∷ qs) a b bs j k l = (j.0, joined_from roads qs c b bs j.1 k l)

pub onward_append : (m : Ranks) (plan : Plan) (qs : List ℕ) (n a : ℕ) (bs : List ℕ) → onward m plan n a (qs ++ bs) ≡ onward m plan (onward m plan n a qs) (last_of a qs) bs
unfolding onward
onward_append m plan [] n a bs = refl
onward_append m plan (c ∷ qs) n a bs = onward_append m plan qs (step m plan n a c) c bs
