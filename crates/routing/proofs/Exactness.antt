-- The enumeration of simple routes has each of them, and no other list. Assumes nothing.
--     Follows roads next r            the first link of r, if it has one, passes `next`, and each other one joins the one before it
--     Beginning roads next links r    r so follows, and has different links out of `links`
--     with_first roads k links b      the beginnings of which b is the first link
use Rattle.std.proofs.Common.{◌≡◌, ℕ, zero, suc, ◌<◌, ◌≤◌, Bool, true, not, eqb, List, [], ◌∷◌, map, length, filter, sym, refl, subst, ⊎_elim, arith}
use Rattle.std.specs.List.{ContainsAt as Has, AllByRecursion}
use Rattle.std.proofs.ByRecursion.{All-weaker, All-map, all-has}
use Rattle.std.proofs.lemmas.List.Filters.{length-filter_both}
use Rattle.std.proofs.lemmas.Bool.{cases_eq, not-true, not_from_false, eqb-true, eq-eqb, eqb-false, ne_eqb, false≢true}
use Rattle.network.specs.Plan.{link}
use Rattle.network.specs.Roads.{Roads, Passable}
use Rattle.routing.specs.Route.{Joined, last_of, Simple}
use Rattle.network.specs.Shared.{Once}
use Rattle.routing.specs.Enumeration.{passable, joins, numbers, passable_links, without, beginnings, starts_at, ends_at, all_simple, Exact}
use Rattle.routing.proofs.Members.{has_first, has_later, all_from_has, has_kept, kept_has, has_map, all_joined, has_joined}
use Rattle.routing.proofs.Conditions.{passable_true, passable_is, joins_true, joins_is}

abbrev pub Follows : Roads → (ℕ → Bool) → List ℕ → Type 0
Follows roads next [] = Unit {0}
Follows roads next (b ∷ bs) = (next b ≡ true) × Joined roads b bs

abbrev pub Beginning : Roads → (ℕ → Bool) → List ℕ → List ℕ → Type 0
Beginning roads next links r = Follows roads next r × AllByRecursion (Has links) r × Once r

pub has_numbers : (n a : ℕ) → 1 ≤ a → a ≤ n → Has (numbers n) a
unfolding numbers
has_numbers zero a low high = absurd (omega arith)
has_numbers (suc n) a low high =
    ⊎_elim (λ e. subst (Has (suc n ∷ numbers n)) (sym e) (has_first (numbers n) (suc n)))
    (λ ne. has_later (numbers n) (suc n) a (has_numbers n a low (omega arith))) (cases_eq a (suc n))

pub without_has : (b : ℕ) (links : List ℕ) (c : ℕ) → Has (without b links) c → Has links c × (c ≡ b → ⊥)
without_has b links c h =
    let kept = kept_has (λ c. not (eqb c b)) links c h in
    (kept.0, eqb-false c b (not-true (eqb c b) kept.1))

pub has_without : (b : ℕ) (links : List ℕ) (c : ℕ) → Has links c → (c ≡ b → ⊥) → Has (without b links) c
has_without b links c h ne = has_kept (λ c. not (eqb c b)) links c h (not_from_false (eqb c b) (ne_eqb c b ne))

pub without_shorter : (b : ℕ) (links : List ℕ) → Has links b → length (without b links) < length links
without_shorter b links h =
    let here = has_kept (λ c. eqb c b) links b h (eq-eqb b b refl) in
    omega (arith, here.1, length-filter_both (λ c. eqb c b) (λ c. not (eqb c b)) (λ _. refl) links)

module _ (roads : Roads) where
  pub joined_from_follows : (b : ℕ) (bs : List ℕ) → Follows roads (joins roads b) bs → Joined roads b bs
  joined_from_follows b [] h = tt
  joined_from_follows b (c ∷ bs) h = (joins_true roads b c h.0, h.1)

  pub follows_from_joined : (b : ℕ) (bs : List ℕ) → Joined roads b bs → Follows roads (joins roads b) bs
  follows_from_joined b [] h = tt
  follows_from_joined b (c ∷ bs) h = (joins_is roads b c h.0, h.1)

  beginning_with_first : (next : ℕ → Bool) (links : List ℕ) (b : ℕ) (bs : List ℕ) → Has (filter next links) b
      → Beginning roads (joins roads b) (without b links) bs → Beginning roads next links (b ∷ bs)
  beginning_with_first next links b bs h f =
      let kept = kept_has next links b h in (
        (kept.1, joined_from_follows b bs f.0),
        (kept.0, All-weaker (Has (without b links)) (Has links) (λ c g. (without_has b links c g).0) bs f.1),
        (λ g. (without_has b links b (all-has (Has (without b links)) bs b f.1 g)).1 refl, f.2),
      )

  beginning_after_first : (next : ℕ → Bool) (links : List ℕ) (b : ℕ) (bs : List ℕ)
      → Beginning roads next links (b ∷ bs) → Beginning roads (joins roads b) (without b links) bs
  beginning_after_first next links b bs f = (
    follows_from_joined b bs f.0.1,
    all_from_has (Has (without b links)) bs
        (λ c g. has_without b links c (all-has (Has links) bs c f.1.1 g) (λ e. f.2.0 (subst (Has bs) e g))),
    f.2.1,
  )

  abbrev with_first : ℕ → List ℕ → ℕ → List (List ℕ)
  with_first k links b = map (λ bs. b ∷ bs) (beginnings roads k (without b links) (joins roads b))

  pub all_beginnings : (k : ℕ) (links : List ℕ) (next : ℕ → Bool) → AllByRecursion (Beginning roads next links) (beginnings roads k links next)
  unfolding beginnings
  all_beginnings zero links next = ((tt, tt, tt), tt)
  all_beginnings (suc k) links next = (
    (tt, tt, tt),
    all_joined (Beginning roads next links)
        (with_first k links) (filter next links)
        (all_from_has (λ b. AllByRecursion (Beginning roads next links) (with_first k links b)) (filter next links)
        (λ b h. All-map (Beginning roads next links) (λ bs. b ∷ bs) (beginnings roads k (without b links) (joins roads b))
        (All-weaker (Beginning roads (joins roads b) (without b links)) (λ bs. Beginning roads next links (b ∷ bs))
        (λ bs f. beginning_with_first next links b bs h f) (beginnings roads k (without b links) (joins roads b))
        (all_beginnings k (without b links) (joins roads b))))),
  )

  pub has_beginning : (k : ℕ) (links : List ℕ) (next : ℕ → Bool) (r : List ℕ) → length links ≤ k
      → Beginning roads next links r → Has (beginnings roads k links next) r
  unfolding beginnings
  has_beginning zero links next [] short f = has_first [] []
  has_beginning zero links next (b ∷ bs) short f = absurd (omega (arith, f.1.0.1))
  has_beginning (suc k) links next [] short f = has_first _ []
  has_beginning (suc k) links next (b ∷ bs) short f =
      let fewer = without_shorter b links f.1.0 in
      has_later _ [] (b ∷ bs)
      (has_joined (with_first k links) (filter next links) b (b ∷ bs)
      (has_kept next links b f.1.0 f.0.0)
      (has_map (λ bs. b ∷ bs) (beginnings roads k (without b links) (joins roads b)) bs
      (has_beginning k (without b links) (joins roads b) bs (omega arith) (beginning_after_first next links b bs f))))

  pub simple_from_beginning : (from to : ℕ) (r : List ℕ) → Beginning roads (starts_at roads from) (passable_links roads) r
      → ends_at roads to r ≡ true → Simple roads from to r
  simple_from_beginning from to [] f t = false≢true t
  simple_from_beginning from to (a ∷ bs) f t = (
    eqb-true (link roads.plan.links a).start from f.0.0,
    eqb-true (link roads.plan.links (last_of a bs)).end to t,
    f.0.1,
    All-weaker (Has (passable_links roads)) (Passable roads)
        (λ c h. passable_true roads c (kept_has (passable roads) (numbers (length roads.plan.links)) c h).1) (a ∷ bs) f.1,
    f.2,
  )

  pub beginning_from_simple : (from to : ℕ) (r : List ℕ) → Simple roads from to r
      → Beginning roads (starts_at roads from) (passable_links roads) r × (ends_at roads to r ≡ true)
  beginning_from_simple from to [] s = absurd s
  beginning_from_simple from to (a ∷ bs) s = (
    (
      (eq-eqb (link roads.plan.links a).start from s.0, s.2),
      All-weaker (Passable roads) (Has (passable_links roads))
          (λ c p. has_kept (passable roads) (numbers (length roads.plan.links)) c (has_numbers (length roads.plan.links) c p.0.0 p.0.1) (passable_is roads c p))
          (a ∷ bs) s.3,
      s.4,
    ),
    eq-eqb (link roads.plan.links (last_of a bs)).end to s.1,
  )

pub exact : Exact
unfolding all_simple
exact roads from to r = (
  λ s. let f = beginning_from_simple roads from to r s in
      has_kept (ends_at roads to) found r
      (has_beginning roads (length links) links (starts_at roads from) r (omega arith) f.0) f.1,
  λ h. let kept = kept_has (ends_at roads to) found r h in
      simple_from_beginning roads from to r
      (all-has (Beginning roads (starts_at roads from) links) found r (all_beginnings roads (length links) links (starts_at roads from)) kept.0) kept.1,
)
  where
    links : List ℕ
    links = passable_links roads

    found : List (List ℕ)
    found = beginnings roads (length links) links (starts_at roads from)
