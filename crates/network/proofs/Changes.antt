-- Entries with one changed. Assumes nothing.
use Rattle.std.proofs.Common.{◌≡◌, ℕ, zero, suc, ◌<◌, ◌≤◌, Bool, true, false, cond, not, ◌&&◌, eqb, List, [], ◌∷◌, ◌++◌, length, get_or, Some, None, Option, unwrap_or, sym, refl, ap, ◌∙◌, subst, ap₂, ⊎_elim, arith, length-set}
use Rattle.std.proofs.lemmas.List.{get_or-set_same, get_or-set_other}
use Rattle.std.proofs.lemmas.Bool.{cases_eq, and_parts, eqb-true}
use Rattle.network.specs.declared.turn.Turn.{Turn}
use Rattle.network.specs.Plan.{Plan, Lawful, no_turn, same_pair, has_entry, EntryWithin, Meets}
use Rattle.network.specs.Refusals.{Row, row, first_refusal}
use Rattle.network.specs.Laying.{unless, pair_rows, letter_rows}
use Rattle.network.specs.Letters.{class_of}
use Rattle.network.specs.Changing.{set_turn_refusal, changed, changed_at, with_set_turn}
use Rattle.network.proofs.Entries.{no_place_has, none_has_entry}
use Rattle.network.proofs.Rows.{refused_before, passed_before}

-- the pair has no entry: it comes to the end
pub changed_adds : (turns : List Turn) (new : Turn) → has_entry turns new.into new.out ≡ false → changed turns new ≡ turns ++ (new ∷ [])
unfolding changed
changed_adds [] new none = refl
changed_adds (t ∷ turns) new none =
    let here = no_place_has (t ∷ turns) new.into new.out none 0 (omega arith) in
    ap (λ (b : Bool). cond b (new ∷ turns) (t ∷ changed turns new)) here
    ∙ ap (λ (x : List Turn). t ∷ x) (changed_adds turns new (later t turns new none))
  where
    later : (t : Turn) (turns : List Turn) (new : Turn) → has_entry (t ∷ turns) new.into new.out ≡ false → has_entry turns new.into new.out ≡ false
    later t turns new none = none_has_entry turns new.into new.out (λ k l. no_place_has (t ∷ turns) new.into new.out none (suc k) (omega arith))

-- the first entry of the pair takes the new class and extra
pub changed_here : (turns : List Turn) (into out place class extra : ℕ) → place < length turns
    → ((k : ℕ) → k < place → same_pair (get_or turns k no_turn) into out ≡ false) → same_pair (get_or turns place no_turn) into out ≡ true
    → changed turns (record { into = into; out = out; class = class; extra = extra }) ≡ changed_at turns place class extra
unfolding changed
changed_here [] into out place class extra l before here = absurd (omega arith)
changed_here (t ∷ turns) into out zero class extra l before here =
    let parts = and_parts (eqb t.into into) (eqb t.out out) here in
    ap (λ (b : Bool). cond b (record { into = into; out = out; class = class; extra = extra } ∷ turns) (t ∷ changed turns (record { into = into; out = out; class = class; extra = extra }))) here
    ∙ ap₂ (λ (x y : ℕ). record { into = x; out = y; class = class; extra = extra } ∷ turns) (sym (eqb-true t.into into parts.0)) (sym (eqb-true t.out out parts.1))
changed_here (t ∷ turns) into out (suc place) class extra l before here =
    ap (λ (b : Bool). cond b (record { into = into; out = out; class = class; extra = extra } ∷ turns) (t ∷ changed turns (record { into = into; out = out; class = class; extra = extra })))
    (before 0 (omega arith))
    ∙ ap (λ (x : List Turn). t ∷ x) (changed_here turns into out place class extra (omega arith) (λ k h. before (suc k) (omega arith)) here)

-- what the entry at each place is after the change
module _ (turns : List Turn) (place class extra : ℕ) (inside : place < length turns) where
  abbrev new : Turn
  new = record { into = (get_or turns place no_turn).into; out = (get_or turns place no_turn).out; class = class; extra = extra }

  pub each_changed : (P : Turn → Type 0) (i : ℕ) → P new → (P (get_or turns i no_turn)) → P (get_or (changed_at turns place class extra) i no_turn)
  each_changed P i here other =
      ⊎_elim (λ e. subst P (sym (ap (λ (j : ℕ). get_or (changed_at turns place class extra) j no_turn) e ∙ get_or-set_same turns place new no_turn inside)) here)
      (λ ne. subst P (sym (get_or-set_other turns place i new no_turn ne)) other) (cases_eq i place)

  pub pair_kept : (i : ℕ) → ((get_or (changed_at turns place class extra) i no_turn).into ≡ (get_or turns i no_turn).into)
      × ((get_or (changed_at turns place class extra) i no_turn).out ≡ (get_or turns i no_turn).out)
  pair_kept i =
      ⊎_elim (λ e. (
        ap (λ (j : ℕ). (get_or (changed_at turns place class extra) j no_turn).into) e
            ∙ ap (λ (t : Turn). t.into) (get_or-set_same turns place new no_turn inside) ∙ ap (λ (j : ℕ). (get_or turns j no_turn).into) (sym e),
        ap (λ (j : ℕ). (get_or (changed_at turns place class extra) j no_turn).out) e
            ∙ ap (λ (t : Turn). t.out) (get_or-set_same turns place new no_turn inside) ∙ ap (λ (j : ℕ). (get_or turns j no_turn).out) (sym e),
      ))
      (λ ne. let same = get_or-set_other turns place i new no_turn ne in (ap (λ (t : Turn). t.into) same, ap (λ (t : Turn). t.out) same)) (cases_eq i place)

pub lawful_changed : (p : Plan) (new : List Turn) (place class extra : ℕ) → new ≡ changed_at p.turns place class extra → place < length p.turns
    → class ≤ 4 → extra ≤ 1000000 → Lawful p → Lawful (record { links = p.links; turns = new })
lawful_changed p new place class extra e inside small short laws =
    subst (λ (x : List Turn). Lawful (record { links = p.links; turns = x })) (sym e)
    (laws.0, (laws.1.0, (within, (meet, (apart, tt)))))
  where
    turns : List Turn
    turns = p.turns

    size : length (changed_at p.turns place class extra) ≡ length p.turns
    size = length-set p.turns place (record { into = (get_or p.turns place no_turn).into; out = (get_or p.turns place no_turn).out; class = class; extra = extra })

    kept : (i : ℕ) → ((get_or (changed_at p.turns place class extra) i no_turn).into ≡ (get_or p.turns i no_turn).into)
        × ((get_or (changed_at p.turns place class extra) i no_turn).out ≡ (get_or p.turns i no_turn).out)
    kept i = pair_kept p.turns place class extra inside i

    within : (i : ℕ) → i < length (changed_at p.turns place class extra) → EntryWithin (get_or (changed_at p.turns place class extra) i no_turn)
    within i h = each_changed p.turns place class extra inside EntryWithin i (small, short) (laws.1.1.0 i (omega (arith, size)))

    meet : (i : ℕ) → i < length (changed_at p.turns place class extra) → Meets p.links (get_or (changed_at p.turns place class extra) i no_turn)
    meet i h =
        each_changed p.turns place class extra inside (Meets p.links) i (laws.1.1.1.0 place inside) (laws.1.1.1.0 i (omega (arith, size)))

    apart : (i j : ℕ) → (i < j) × (j < length (changed_at p.turns place class extra))
        → same_pair (get_or (changed_at p.turns place class extra) i no_turn) (get_or (changed_at p.turns place class extra) j no_turn).into (get_or (changed_at p.turns place class extra) j no_turn).out ≡ false
    apart i j h =
        ap₂ (λ (x y : ℕ). eqb x (get_or (changed_at p.turns place class extra) j no_turn).into && eqb y (get_or (changed_at p.turns place class extra) j no_turn).out) (kept i).0 (kept i).1
        ∙ ap₂ (λ (x y : ℕ). same_pair (get_or p.turns i no_turn) x y) (kept j).0 (kept j).1
        ∙ laws.1.1.1.1.0 i j (h.0, omega (arith, h.1, size))

-- where a change is refused by its pair, by its letter or extra, and by the room, and where it passes
module _ (p : Plan) (into out letter extra : ℕ) where
  abbrev last : Row
  last = row 5 (not (has_entry p.turns into out) && eqb (length p.turns) 2048)

  pub change_refused_by_pair : (n : ℕ) → first_refusal (pair_rows p into out) ≡ Some n → set_turn_refusal p into out letter extra ≡ Some n
  change_refused_by_pair n e = refused_before (pair_rows p into out) (letter_rows letter extra ++ (last ∷ [])) n e

  pub change_refused_by_letter : (n : ℕ) → first_refusal (pair_rows p into out) ≡ None → first_refusal (letter_rows letter extra) ≡ Some n
      → set_turn_refusal p into out letter extra ≡ Some n
  change_refused_by_letter n pair e =
      passed_before (pair_rows p into out) (letter_rows letter extra ++ (last ∷ [])) pair ∙ refused_before (letter_rows letter extra) (last ∷ []) n e

  pub change_by_room : first_refusal (pair_rows p into out) ≡ None → first_refusal (letter_rows letter extra) ≡ None
      → set_turn_refusal p into out letter extra ≡ cond (not (has_entry p.turns into out) && eqb (length p.turns) 2048) (Some 5) None
  change_by_room pair letters =
      passed_before (pair_rows p into out) (letter_rows letter extra ++ (last ∷ [])) pair ∙ passed_before (letter_rows letter extra) (last ∷ []) letters

  -- a change that passes
  pub change_made : (class : ℕ) (new : List Turn) → set_turn_refusal p into out letter extra ≡ None → class_of letter ≡ Some class
      → new ≡ changed p.turns (record { into = into; out = out; class = class; extra = extra })
      → record { links = p.links; turns = new } ≡ with_set_turn p into out letter extra
  change_made class turns passed letters is =
      ap (λ (x : List Turn). record { links = p.links; turns = x }) is
      ∙ ap (λ (o : Option ℕ). record { links = p.links; turns = changed p.turns (record { into = into; out = out; class = unwrap_or o 0; extra = extra }) }) (sym letters)
      ∙ sym (ap (λ (o : Option ℕ). unless o p (record { links = p.links; turns = changed p.turns (record { into = into; out = out; class = unwrap_or (class_of letter) 0; extra = extra }) })) passed)
