-- The laws of a plan, kept when a link or an entry is laid after the others. Assumes nothing.
use Rattle.std.proofs.Common.{◌≡◌, ℕ, suc, ◌+◌, ◌<◌, ◌≤◌, Bool, true, false, cond, not, ◌||◌, eqb, ltb, leb, List, [], ◌∷◌, ◌++◌, length, get_or, is_some, Some, None, sym, ap, ◌∙◌, subst, ap₂, ⊎_elim, arith}
use Rattle.std.proofs.lemmas.List.{get_or_append_left, get_or_push, length_push}
use Rattle.std.proofs.lemmas.Bool.{cases_lt, or_parts, and_parts, not-false, ltb-false, leb-true, eqb-true}
use Rattle.network.specs.declared.link.Link.{Link}
use Rattle.network.specs.declared.turn.Turn.{Turn}
use Rattle.network.specs.declared.network.Network.{Network}
use Rattle.network.specs.Laid.{plan}
use Rattle.network.specs.Plan.{Plan, Lawful, no_link, no_turn, link, laid, Laid, last_start, Node, LinkWithin, StartsRise, EntryWithin, Meets, EntriesMeet, same_pair, has_entry, PairsApart}
use Rattle.network.specs.Letters.{class_of}
use Rattle.network.specs.Refusals.{row, first_refusal}
use Rattle.network.specs.Laying.{outside, pair_rows, letter_rows, room_rows, turn_refusal}
use Rattle.network.proofs.Rows.{passed_row, passed_both, passed_before, refused_before}
use Rattle.network.proofs.Entries.{no_place_has}

-- what holds at each place, and of one more
pub each_push : {X : Type 0} (P : X → Type 0) (xs : List X) (x d : X)
    → ((i : ℕ) → i < length xs → P (get_or xs i d)) → P x → (i : ℕ) → i < length (xs ++ x ∷ []) → P (get_or (xs ++ x ∷ []) i d)
each_push P xs x d each here i l =
    ⊎_elim (λ b. subst P (sym (get_or_append_left xs (x ∷ []) d i b)) (each i b))
    (λ b. subst P (sym (get_or_push xs x d i (omega (arith, length_push xs x)))) here)
    (cases_lt i (length xs))

-- link numbers stand for the same links when one is laid after them
pub link_push : (links : List Link) (l : Link) (n : ℕ) → n ≤ length links → link (links ++ l ∷ []) n ≡ link links n
link_push links l n h = get_or_append_left (no_link ∷ links) (l ∷ []) no_link n (omega arith)

last_start_is : (links : List Link) (i : ℕ) → length links ≡ i + 1 → last_start links ≡ (get_or links i no_link).start
last_start_is links i e = ap (λ (n : ℕ). (link links n).start) (e ∙ let f : i + 1 ≡ suc i = omega arith in f)

pub starts_rise_push : (links : List Link) (l : Link) → StartsRise links → last_start links ≤ l.start → StartsRise (links ++ l ∷ [])
starts_rise_push links l rise above i h = ⊎_elim before last (cases_lt (i + 1) (length links))
  where
    before : i + 1 < length links → (get_or (links ++ l ∷ []) i no_link).start ≤ (get_or (links ++ l ∷ []) (i + 1) no_link).start
    before b =
        let low : i < length links = omega arith in
        rw (get_or_append_left links (l ∷ []) no_link i low, get_or_append_left links (l ∷ []) no_link (i + 1) b) (rise i b)

    last : length links ≤ i + 1 → (get_or (links ++ l ∷ []) i no_link).start ≤ (get_or (links ++ l ∷ []) (i + 1) no_link).start
    last b =
        let is : length links ≡ i + 1 = omega (arith, length_push links l) in
        let low : i < length links = omega arith in
        rw (get_or_append_left links (l ∷ []) no_link i low, get_or_push links l no_link (i + 1) is, ← last_start_is links i is) above

pub meets_push : (links : List Link) (l : Link) (t : Turn) → Meets links t → Meets (links ++ l ∷ []) t
meets_push links l t m =
    let more = length_push links l in (
      (m.0.0, omega (arith, m.0.1)),
      (m.1.0, omega (arith, m.1.1)),
      rw (link_push links l t.into m.0.1, link_push links l t.out m.1.1) m.2,
    )

pub entries_meet_push_link : (links : List Link) (l : Link) (turns : List Turn) → EntriesMeet links turns → EntriesMeet (links ++ l ∷ []) turns
entries_meet_push_link links l turns meet i h = meets_push links l (get_or turns i no_turn) (meet i h)

pub pairs_apart_push : (turns : List Turn) (t : Turn) → PairsApart turns → has_entry turns t.into t.out ≡ false → PairsApart (turns ++ t ∷ [])
pairs_apart_push turns t apart free i j p = ⊎_elim before last (cases_lt j (length turns))
  where
    more : length (turns ++ t ∷ []) ≡ length turns + 1
    more = length_push turns t

    low : i < length turns
    low = omega (arith, p.0, p.1, more)

    same : get_or (turns ++ t ∷ []) i no_turn ≡ get_or turns i no_turn
    same = get_or_append_left turns (t ∷ []) no_turn i low

    before : j < length turns
        → same_pair (get_or (turns ++ t ∷ []) i no_turn) (get_or (turns ++ t ∷ []) j no_turn).into (get_or (turns ++ t ∷ []) j no_turn).out ≡ false
    before b =
        ap₂ (λ (x y : Turn). same_pair x y.into y.out) same (get_or_append_left turns (t ∷ []) no_turn j b) ∙ apart i j (p.0, b)

    last : length turns ≤ j
        → same_pair (get_or (turns ++ t ∷ []) i no_turn) (get_or (turns ++ t ∷ []) j no_turn).into (get_or (turns ++ t ∷ []) j no_turn).out ≡ false
    last b =
        let is : length turns ≡ j = omega (arith, p.1, more) in
        ap₂ (λ (x y : Turn). same_pair x y.into y.out) same (get_or_push turns t no_turn j is)
        ∙ no_place_has turns t.into t.out free i low

-- a node that is not outside
pub inside : (n : ℕ) → outside n ≡ false → Node n
inside n e =
    let parts = or_parts (ltb n 1) (ltb 512 n) e in
    (ltb-false n 1 parts.0, ltb-false 512 n parts.1)

pub lawful : (n : Network) → Lawful (plan n)
lawful n = (n.sound, (n.rising, (n.marked, (n.meeting, (n.apart, tt)))))

pub links_few : (n : Network) → length (plan n).links ≤ 1024
links_few n = n.few

pub turns_few : (n : Network) → length (plan n).turns ≤ 2048
turns_few n = n.turns.few

pub lawful_add_link : (p : Plan) (new : List Link) (l : Link) → new ≡ p.links ++ l ∷ []
    → Lawful p → LinkWithin l → last_start p.links ≤ l.start → Lawful (record { links = new; turns = p.turns })
lawful_add_link p new l e laws within above =
    subst (λ (x : List Link). Lawful (record { links = x; turns = p.turns })) (sym e) (
      each_push LinkWithin p.links l no_link laws.0 within,
      (
        starts_rise_push p.links l laws.1.0 above,
        (laws.1.1.0, (entries_meet_push_link p.links l p.turns laws.1.1.1.0, (laws.1.1.1.1.0, tt))),
      ),
    )

pub lawful_add_turn : (p : Plan) (new : List Turn) (t : Turn) → new ≡ p.turns ++ t ∷ []
    → Lawful p → EntryWithin t → Meets p.links t → has_entry p.turns t.into t.out ≡ false
    → Lawful (record { links = p.links; turns = new })
lawful_add_turn p new t e laws within meets free =
    subst (λ (x : List Turn). Lawful (record { links = p.links; turns = x })) (sym e) (
      laws.0,
      (
        laws.1.0,
        (
          each_push EntryWithin p.turns t no_turn laws.1.1.0 within,
          (
            each_push (Meets p.links) p.turns t no_turn laws.1.1.1.0 meets,
            (pairs_apart_push p.turns t laws.1.1.1.1.0 free, tt),
          ),
        ),
      ),
    )

-- the rows that a pair passes say that its links are laid and meet
pub pair_meets : (p : Plan) (into out : ℕ) → first_refusal (pair_rows p into out) ≡ None
    → Laid p.links into × Laid p.links out × ((link p.links into).end ≡ (link p.links out).start)
pair_meets p into out e =
    let first = passed_row (row 6 (not (laid p.links into) || not (laid p.links out))) (row 7 (apart into out) ∷ []) e in
    let second = passed_row (row 7 (apart into out)) [] first.1 in
    let both = or_parts (not (laid p.links into)) (not (laid p.links out)) first.0 in (
      laid_is into (not-false (laid p.links into) both.0),
      laid_is out (not-false (laid p.links out) both.1),
      eqb-true (link p.links into).end (link p.links out).start (not-false _ second.0),
    )
  where
    apart : ℕ → ℕ → Bool
    apart i o = not (eqb (link p.links i).end (link p.links o).start)

    laid_is : (n : ℕ) → laid p.links n ≡ true → Laid p.links n
    laid_is n h =
        let parts = and_parts (leb 1 n) (leb n (length p.links)) h in
        (leb-true 1 n parts.0, leb-true n (length p.links) parts.1)

-- the rows that a letter and an extra pass bound the extra
pub extra_within : (letter extra : ℕ) → first_refusal (letter_rows letter extra) ≡ None → extra ≤ 1000000
extra_within letter extra e =
    let first = passed_row (row 9 (not (is_some (class_of letter)))) (row 10 (ltb 1000000 extra) ∷ []) e in
    ltb-false 1000000 extra (passed_row (row 10 (ltb 1000000 extra)) [] first.1).0

pub class_within : (letter class : ℕ) → class_of letter ≡ Some class → class ≤ 4
class_within letter class =
    by (eqb letter 83) (eqb letter 76) (eqb letter 82) (eqb letter 85) (eqb letter 88)
  where
    by : (s l r u x : Bool)
        → cond s (Some 0) (cond l (Some 1) (cond r (Some 2) (cond u (Some 3) (cond x (Some 4) None)))) ≡ Some class → class ≤ 4
    by s l r u x e = grind arith

-- where an entry is refused by its pair, and by its letter or extra
module _ (p : Plan) (into out letter extra n : ℕ) where
  pub refused_by_pair : first_refusal (pair_rows p into out) ≡ Some n → turn_refusal p into out letter extra ≡ Some n
  refused_by_pair e =
      refused_before (pair_rows p into out) (row 8 (has_entry p.turns into out) ∷ letter_rows letter extra ++ room_rows p) n e

  pub refused_by_letter : first_refusal (pair_rows p into out) ≡ None → has_entry p.turns into out ≡ false
      → first_refusal (letter_rows letter extra) ≡ Some n → turn_refusal p into out letter extra ≡ Some n
  refused_by_letter pair free e =
      passed_before (pair_rows p into out) (row 8 (has_entry p.turns into out) ∷ letter_rows letter extra ++ room_rows p) pair
      ∙ ap (λ (b : Bool). cond b (Some 8) (first_refusal (letter_rows letter extra ++ room_rows p))) free
      ∙ refused_before (letter_rows letter extra) (room_rows p) n e

-- an entry that passes its pair, its letter and its extra is refused by the room alone
pub refused_by_room : (p : Plan) (into out letter extra : ℕ) → first_refusal (pair_rows p into out) ≡ None → has_entry p.turns into out ≡ false
    → first_refusal (letter_rows letter extra) ≡ None → turn_refusal p into out letter extra ≡ first_refusal (room_rows p)
refused_by_room p into out letter extra pair free letters =
    passed_before (pair_rows p into out) (row 8 (has_entry p.turns into out) ∷ letter_rows letter extra ++ room_rows p) pair
    ∙ ap (λ (b : Bool). cond b (Some 8) (first_refusal (letter_rows letter extra ++ room_rows p))) free
    ∙ passed_before (letter_rows letter extra) (room_rows p) letters

-- what an entry has passed that is laid
pub turn_passed : (p : Plan) (into out letter extra : ℕ) → turn_refusal p into out letter extra ≡ None
    → (first_refusal (pair_rows p into out) ≡ None) × (has_entry p.turns into out ≡ false)
    × (first_refusal (letter_rows letter extra) ≡ None) × (eqb (length p.turns) 2048 ≡ false)
turn_passed p into out letter extra e =
    let full = row 5 (eqb (length p.turns) 2048) in
    let taken = row 8 (has_entry p.turns into out) in
    let a = passed_both (pair_rows p into out) (taken ∷ letter_rows letter extra ++ (full ∷ [])) e in
    let b = passed_row taken (letter_rows letter extra ++ (full ∷ [])) a.1 in
    let d = passed_both (letter_rows letter extra) (full ∷ []) b.1 in
    (a.0, b.0, d.0, (passed_row full [] d.1).0)

pub letter_known : (letter extra : ℕ) → first_refusal (letter_rows letter extra) ≡ None → is_some (class_of letter) ≡ true
letter_known letter extra e =
    not-false (is_some (class_of letter)) (passed_row (row 9 (not (is_some (class_of letter)))) (row 10 (ltb 1000000 extra) ∷ []) e).0
