-- A fork takes in one listed route after another. Assumes nothing.
use Rattle.std.proofs.Common.{◌≡◌, ℕ, zero, suc, ◌+◌, ◌<◌, ◌≤◌, Bool, true, false, ◌&&◌, ◌||◌, ◌⊎◌, eqb, leb, List, ◌∷◌, length, get_or, set, replicate, sym, refl, ap, ◌∙◌, ⊎_elim, add-one, arith}
use Rattle.std.proofs.lemmas.List.{get_or-set_same, get_or-set_other, get_or-replicate}
use Rattle.std.proofs.lemmas.Bool.{cases_eq, cases_lt, eq-eqb, ne_eqb, le-leb, lt-leb}
use Rattle.network.proofs.Marked.{length_marks}
use Rattle.unlisted.specs.declared.along.Fork.{Fork}
use Rattle.unlisted.specs.Leaving.{agree, one_goes_on}
use Rattle.unlisted.specs.Along.{nexts, NewFrom}
use Rattle.unlisted.proofs.Banning.{or_none}

or_all : (b : Bool) → (b || true) ≡ true
or_all true = refl
or_all false = refl

abbrev pub TakenIn : (ℕ → List ℕ) → ℕ → List ℕ → ℕ → List Bool → Type 0
TakenIn routes n r k marks = (b : ℕ) → b ≤ 1024 → get_or marks b false ≡ one_goes_on routes n r k b

module _ (routes : ℕ → List ℕ) (r : List ℕ) (k : ℕ) where
  pub taken_none : (fork : List Bool) → fork ≡ false ∷ replicate 1024 false → TakenIn routes 0 r k fork
  unfolding one_goes_on
  taken_none fork e b h = ap (λ (x : List Bool). get_or x b false) e ∙ all_false b h
    where
      all_false : (b : ℕ) → b ≤ 1024 → get_or (false ∷ replicate 1024 false) b false ≡ false
      all_false zero h = refl
      all_false (suc b) h = get_or-replicate 1024 b false false (omega arith)

  more : (n b : ℕ) → one_goes_on routes (n + 1) r k b ≡ (one_goes_on routes n r k b || (leb k (agree (routes n) r) && eqb (get_or (routes n) k 0) b))
  unfolding one_goes_on
  more n b = ap (λ (x : ℕ). one_goes_on routes x r k b) (add-one n)

  pub taken_skip : (fork : List Bool) (n : ℕ) → TakenIn routes n r k fork → agree (routes n) r < k → TakenIn routes (n + 1) r k fork
  taken_skip fork n so_far short b h =
      so_far b h
      ∙ sym (more n b ∙ ap (λ (x : Bool). one_goes_on routes n r k b || (x && eqb (get_or (routes n) k 0) b)) (lt-leb k (agree (routes n) r) short) ∙ or_none (one_goes_on routes n r k b))

  pub taken_more : (fork : List Bool) (n : ℕ) → TakenIn routes n r k fork → length fork ≡ 1025 → k ≤ agree (routes n) r
      → (link : ℕ) → link ≡ get_or (routes n) k 0 → (after : List Bool) → after ≡ set fork link true → TakenIn routes (n + 1) r k after
  taken_more fork n so_far long front link is after e b h =
      let next = get_or (routes n) k 0 in
      let whole : one_goes_on routes (n + 1) r k b ≡ (one_goes_on routes n r k b || eqb next b) =
      more n b ∙ ap (λ (x : Bool). one_goes_on routes n r k b || (x && eqb next b)) (le-leb k (agree (routes n) r) front) in
      ap (λ (x : List Bool). get_or x b false) e
      ∙ ⊎_elim
      (λ (s : b ≡ link). ap (λ (x : ℕ). get_or (set fork link true) x false) s ∙ get_or-set_same fork link true false (omega arith)
      ∙ sym (whole ∙ ap (λ (x : Bool). one_goes_on routes n r k b || x) (eq-eqb next b (sym (s ∙ is))) ∙ or_all (one_goes_on routes n r k b)))
      (λ (ne : b ≡ link → ⊥). get_or-set_other fork link b true false ne ∙ so_far b h
      ∙ sym (whole ∙ ap (λ (x : Bool). one_goes_on routes n r k b || x) (ne_eqb next b (λ s. ne (sym (is ∙ s)))) ∙ or_none (one_goes_on routes n r k b)))
      (cases_eq b link)

pub length_nexts : (fork : Fork) → length (nexts fork) ≡ 1025
length_nexts fork = omega (arith, length_marks fork.links)

-- the first route more
pub new_more : (fronts : List ℕ) (j low n : ℕ) → NewFrom fronts j low → low ≤ n → get_or fronts j 0 + 1 ≤ n → (n ≡ low) ⊎ (n ≡ get_or fronts j 0 + 1)
    → NewFrom fronts (j + 1) n
new_more fronts j low n new above over one = record {
  shared = λ k l. ⊎_elim
      (λ (s : k < low). let i = new.shared k s in (i.0, omega (arith, i.1), i.2))
      (λ (s : low ≤ k). (j, omega arith, ⊎_elim (λ (e : n ≡ low). absurd (omega arith)) (λ (e : n ≡ get_or fronts j 0 + 1). omega arith) one))
      (cases_lt k low);
  new = λ i l. ⊎_elim
      (λ (e : i ≡ j). omega (arith, ap (λ (x : ℕ). get_or fronts x 0) e))
      (λ (ne : i ≡ j → ⊥). let s : i < j = omega arith in omega (arith, new.new i s))
      (cases_eq i j);
}
