-- The place of a pair's entry. Assumes nothing.
use Rattle.std.proofs.Common.{◌≡◌, ℕ, ◌<◌, ◌≤◌, true, false, eqb, ◌⊎◌, List, length, get_or, is_some, Some, None, Option, sym, ◌∙◌, ap₂, ⊎_elim, arith, MatchOption}
use Rattle.std.proofs.lemmas.Bool.{and_parts, and_left, and_right, eqb-true, ne_eqb}
use Rattle.network.specs.declared.link.Link.{Link}
use Rattle.network.specs.declared.turn.Turn.{Turn}
use Rattle.network.specs.Plan.{no_turn, same_pair, has_entry, PairsApart, EntriesMeet}
use Rattle.network.specs.Changing.{EntryPlace}
use Rattle.network.proofs.Entries.{none_has_entry, one_has_entry}

-- a place with the pair is the only one, as pairs are apart
pub found_place : (turns : List Turn) (into out : ℕ) → PairsApart turns → (answer : Option ℕ)
    → MatchOption answer ((k : ℕ) → k < length turns → same_pair (get_or turns k no_turn) into out ≡ false)
    (λ i. (i < length turns) × (same_pair (get_or turns i no_turn) into out ≡ true))
    → EntryPlace turns into out answer
found_place turns into out apart None none = none_has_entry turns into out none
found_place turns into out apart (Some i) found =
    let t = get_or turns i no_turn in
    let parts = and_parts (eqb t.into into) (eqb t.out out) found.1 in (
      found.0,
      found.1,
      (λ k h.
          ap₂ (λ (x y : ℕ). same_pair (get_or turns k no_turn) x y) (sym (eqb-true t.into into parts.0)) (sym (eqb-true t.out out parts.1))
          ∙ apart k i (h, found.0)),
    )

pub place_has_entry : (turns : List Turn) (into out : ℕ) (answer : Option ℕ) → EntryPlace turns into out answer → is_some answer ≡ has_entry turns into out
place_has_entry turns into out None none = sym none
place_has_entry turns into out (Some i) found = sym (one_has_entry turns into out i found.0 found.1)

-- no entry has a link above the limit
pub no_entry_above : (links : List Link) (turns : List Turn) (into out : ℕ) → length links ≤ 1024 → EntriesMeet links turns
    → (1024 < into) ⊎ (1024 < out) → has_entry turns into out ≡ false
no_entry_above links turns into out few meet above =
    none_has_entry turns into out (λ k h.
    let t = get_or turns k no_turn in
    let m = meet k h in
    ⊎_elim (λ l. and_left (eqb t.into into) (eqb t.out out) (ne_eqb t.into into (λ e. omega (arith, m.0.1))))
    (λ l. and_right (eqb t.into into) (eqb t.out out) (ne_eqb t.out out (λ e. omega (arith, m.1.1)))) above)
