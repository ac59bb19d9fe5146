-- The test of a route decides the definition. Assumes nothing.
use Rattle.std.proofs.Common.{◌≡◌, ℕ, zero, suc, ◌+◌, ◌-◌, ◌≤◌, Bool, true, false, cond, not, ◌&&◌, eqb, List, [], ◌∷◌, ◌++◌, length, take, drop, replicate, sym, refl, ap, ◌∙◌, subst, ap₂, ⊎_elim, arith, length-drop}
use Rattle.std.specs.List.{ContainsAt as Has, list_all, position_or_len, before_first, AllByRecursion}
use Rattle.std.proofs.ByRecursion.{All-weaker, all-has, has_push, has_append_left, has_push_cases}
use Rattle.std.specs.Bool.{then_some}
use Rattle.std.proofs.lemmas.List.Sums.{prefix_len-le-length}
use Rattle.std.proofs.lemmas.List.{take_at, drop_at, take-append-drop, length-take-le}
use Rattle.std.proofs.lemmas.Bool.{and_parts, and_from, not-true, not_from_false, eqb-true, eq-eqb, ne_eqb, false≢true, cases_Bool, both_ways}
use Rattle.network.specs.Plan.{link}
use Rattle.network.specs.Roads.{Roads, Passable}
use Rattle.network.specs.Shared.{Once, stands_in}
use Rattle.routing.specs.Enumeration.{passable, joins, starts_at}
use Rattle.routing.specs.Route.{Joined, last_of, Simple}
use Rattle.routing.specs.Lent.{steps_test, route_test}
use Rattle.routing.specs.Places.{Holds, ReadsRoute}
use Rattle.routing.proofs.Members.{all_from_has, has_first, has_none}
use Rattle.routing.proofs.Conditions.{passable_true, passable_is, joins_true, joins_is, stands_in_true, stands_in_is}

module _ (roads : Roads) (to : ℕ) where
  -- the links bs go on from a as a route to the node does, and none was seen before
  pub record Goes_on (a : ℕ) (seen bs : List ℕ) : Type 0 where
    pub joined : Joined roads a bs
    pub open_links : AllByRecursion (Passable roads) bs
    pub once : Once bs
    pub new : AllByRecursion (λ b. Has seen b → ⊥) bs
    pub arrives : (link roads.plan.links (last_of a bs)).end ≡ to

  pub goes_on : (bs : List ℕ) (a : ℕ) (seen : List ℕ) → steps_test roads to a seen bs ≡ true → Goes_on a seen bs
  unfolding steps_test
  goes_on [] a seen t = record { joined = tt; open_links = tt; once = tt; new = tt; arrives = eqb-true _ _ t }
  goes_on (b ∷ bs) a seen t =
      let p = and_parts (passable roads b) (not (stands_in b seen) && (joins roads a b && steps_test roads to b (seen ++ (b ∷ [])) bs)) t in
      let q = and_parts (not (stands_in b seen)) (joins roads a b && steps_test roads to b (seen ++ (b ∷ [])) bs) p.1 in
      let r = and_parts (joins roads a b) (steps_test roads to b (seen ++ (b ∷ [])) bs) q.1 in
      let rest = goes_on bs b (seen ++ (b ∷ [])) r.1 in
      record {
        joined = (joins_true roads a b r.0, rest.joined);
        open_links = (passable_true roads b p.0, rest.open_links);
        once = ((λ h. all-has (λ c. Has (seen ++ (b ∷ [])) c → ⊥) bs b rest.new h (has_push seen b)), rest.once);
        new = (
          (λ h. both_ways (stands_in b seen) (not-true (stands_in b seen) q.0) (stands_in_is b seen h)),
          All-weaker (λ c. Has (seen ++ (b ∷ [])) c → ⊥) (λ c. Has seen c → ⊥) (λ c n h. n (has_append_left seen (b ∷ []) c h)) bs rest.new,
        );
        arrives = rest.arrives;
      }

  pub goes_on_passes : (bs : List ℕ) (a : ℕ) (seen : List ℕ) → Goes_on a seen bs → steps_test roads to a seen bs ≡ true
  unfolding steps_test
  goes_on_passes [] a seen g = eq-eqb _ _ g.arrives
  goes_on_passes (b ∷ bs) a seen g =
      let fresh : stands_in b seen ≡ false =
      ⊎_elim (λ e. absurd (g.new.0 (stands_in_true b seen e))) (λ e. e) (cases_Bool (stands_in b seen)) in
      let later : AllByRecursion (λ c. Has (seen ++ (b ∷ [])) c → ⊥) bs =
      all_from_has (λ c. Has (seen ++ (b ∷ [])) c → ⊥) bs
      (λ c h k. ⊎_elim (λ s. all-has (λ d. Has seen d → ⊥) bs c g.new.1 h s) (λ e. g.once.0 (subst (Has bs) (sym e) h)) (has_push_cases seen b c k)) in
      let rest : Goes_on b (seen ++ (b ∷ [])) bs =
      record { joined = g.joined.1; open_links = g.open_links.1; once = g.once.1; new = later; arrives = g.arrives } in
      and_from (passable roads b) (not (stands_in b seen) && (joins roads a b && steps_test roads to b (seen ++ (b ∷ [])) bs)) (passable_is roads b g.open_links.0)
      (and_from (not (stands_in b seen)) (joins roads a b && steps_test roads to b (seen ++ (b ∷ [])) bs) (not_from_false (stands_in b seen) fresh)
      (and_from (joins roads a b) (steps_test roads to b (seen ++ (b ∷ [])) bs) (joins_is roads a b g.joined.0) (goes_on_passes bs b (seen ++ (b ∷ [])) rest)))

  pub test_simple : (from : ℕ) (r : List ℕ) → route_test roads from to r ≡ true → Simple roads from to r
  test_simple from [] t = absurd (false≢true t)
  test_simple from (a ∷ bs) t =
      let p = and_parts (passable roads a) (starts_at roads from a && steps_test roads to a (a ∷ []) bs) t in
      let q = and_parts (starts_at roads from a) (steps_test roads to a (a ∷ []) bs) p.1 in
      let g = goes_on bs a (a ∷ []) q.1 in (
        eqb-true _ _ q.0,
        g.arrives,
        g.joined,
        (passable_true roads a p.0, g.open_links),
        ((λ h. all-has (λ c. Has (a ∷ []) c → ⊥) bs a g.new h (has_first [] a)), g.once),
      )

  pub simple_passes : (from : ℕ) (r : List ℕ) → Simple roads from to r → route_test roads from to r ≡ true
  simple_passes from [] s = absurd s
  simple_passes from (a ∷ bs) s =
      let new : AllByRecursion (λ c. Has (a ∷ []) c → ⊥) bs =
      all_from_has (λ c. Has (a ∷ []) c → ⊥) bs
      (λ c h k. ⊎_elim (λ n. has_none c n) (λ e. s.4.0 (subst (Has bs) (sym e) h)) (has_push_cases [] a c k)) in
      let g : Goes_on a (a ∷ []) bs =
      record { joined = s.2; open_links = s.3.1; once = s.4.1; new = new; arrives = s.1 } in
      and_from (passable roads a) (starts_at roads from a && steps_test roads to a (a ∷ []) bs) (passable_is roads a s.3.0)
      (and_from (starts_at roads from a) (steps_test roads to a (a ∷ []) bs) (eq-eqb _ _ s.0) (goes_on_passes bs a (a ∷ []) g))

-- zeros to the end, and links before the first zero
abbrev pub is_zero : ℕ → Bool
is_zero place = eqb place 0

pub zeros_pass : (n : ℕ) → list_all is_zero (replicate n 0) ≡ true
zeros_pass zero = refl
zeros_pass (suc n) = zeros_pass n

pub all_zeros : (ps : List ℕ) → list_all is_zero ps ≡ true → ps ≡ replicate (length ps) 0
all_zeros [] t = refl
all_zeros (p ∷ ps) t =
    let h = and_parts (is_zero p) (list_all is_zero ps) t in
    ap₂ (λ (x : ℕ) (xs : List ℕ). x ∷ xs) (eqb-true p 0 h.0) (all_zeros ps h.1)

pub links_lead : (r : List ℕ) (n : ℕ) → AllByRecursion (λ a. 1 ≤ a) r → position_or_len is_zero (r ++ replicate n 0) ≡ length r
links_lead [] zero all = refl
links_lead [] (suc n) all = refl
links_lead (a ∷ r) n all =
    let some : eqb a 0 ≡ false = ne_eqb a 0 (λ e. let low = all.0 in omega arith) in
    ap (λ (b : Bool). cond (not b) (1 + position_or_len is_zero (r ++ replicate n 0)) 0) some
    ∙ (let e = links_lead r n all.1 in let f : 1 + position_or_len is_zero (r ++ replicate n 0) ≡ suc (length r) = omega arith in f)

-- places that hold a simple route hold it up to the first zero
pub held : (roads : Roads) (from to : ℕ) (places r : List ℕ) → Simple roads from to r → Holds places r
    → (position_or_len is_zero places ≡ length r) × (before_first is_zero places ≡ r)
    × (list_all is_zero (drop (position_or_len is_zero places) places) ≡ true)
held roads from to places [] s h = absurd s
held roads from to places (a ∷ bs) s h =
    let r = a ∷ bs in
    let n = length places - length r in
    let zeros = replicate n 0 in
    let low : AllByRecursion (λ b. 1 ≤ b) r = All-weaker (Passable roads) (λ b. 1 ≤ b) (λ b p. p.0.0) r s.3 in
    let count : position_or_len is_zero places ≡ length r = ap (position_or_len is_zero) h ∙ links_lead r n low in
    let behind : drop (position_or_len is_zero places) places ≡ zeros =
    ap₂ (λ (k : ℕ) (ps : List ℕ). drop k ps) count h ∙ drop_at r zeros (length r) refl in (
      count,
      ap₂ (λ (k : ℕ) (ps : List ℕ). take k ps) count h ∙ take_at r zeros (length r) refl,
      ap (list_all is_zero) behind ∙ zeros_pass n,
    )

-- links and then only zeros
pub holds_front : (places : List ℕ) (n : ℕ) → n ≤ length places → drop n places ≡ replicate (length (drop n places)) 0 → Holds places (take n places)
holds_front places n within zeros =
    let size : length (drop n places) ≡ length places - length (take n places) =
    length-drop n places ∙ ap (λ (k : ℕ). length places - k) (sym (length-take-le n places within)) in
    sym (take-append-drop n places) ∙ ap (λ (x : List ℕ). take n places ++ x) (zeros ∙ ap (λ (k : ℕ). replicate k 0) size)

-- what is read of places, from their first zero on
pub reads : (roads : Roads) (from to : ℕ) (places : List ℕ) (b : Bool)
    → b ≡ (list_all is_zero (drop (position_or_len is_zero places) places) && route_test roads from to (before_first is_zero places))
    → ReadsRoute roads from to places (then_some b (position_or_len is_zero places))
reads roads from to places true e =
    let n = position_or_len is_zero places in
    let h = and_parts (list_all is_zero (drop n places)) (route_test roads from to (take n places)) (sym e) in
    (test_simple roads to from (take n places) h.1, holds_front places n (prefix_len-le-length (λ p. not (is_zero p)) places) (all_zeros (drop n places) h.0))
reads roads from to places false e = λ r simple holds.
    let h = held roads from to places r simple holds in
    both_ways _ (sym e)
    (and_from (list_all is_zero (drop (position_or_len is_zero places) places)) (route_test roads from to (before_first is_zero places)) h.2
    (ap (route_test roads from to) h.1 ∙ simple_passes roads to from r simple))
