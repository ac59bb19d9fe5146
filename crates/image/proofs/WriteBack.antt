-- The image of a lawful plan reads back as the plan. Assumes nothing.
use Rattle.std.proofs.Common.{◌≡◌, ℕ, zero, suc, ◌+◌, ◌*◌, ◌<◌, ◌≤◌, Bool, true, false, cond, not, ◌&&◌, eqb, ltb, leb, List, [], ◌∷◌, ◌++◌, map, length, get_or, drop, is_some, Some, None, Option, unwrap_or, sym, refl, ap, ◌∙◌, subst, ap₂, append_assoc, arith, length-append}
use Rattle.std.specs.List.{flat_map, AllByRecursion}
use Rattle.std.proofs.lemmas.Bool.{eq-eqb, ne_eqb, le-ltb, le-leb, and_from, or_from, not_from_true}
use Rattle.std.proofs.lemmas.List.{append-nil, get_or_at, get_or_append_left}
use Rattle.std.proofs.ByRecursion.{All-from_get_or}
use Rattle.network.specs.declared.link.Link.{Link}
use Rattle.network.specs.declared.turn.Turn.{Turn}
use Rattle.network.specs.declared.record.Record.{Record}
use Rattle.network.specs.Plan.{Plan, empty, no_link, no_turn, Lawful, Laid, laid, last_start, has_entry, same_pair, LinkWithin, StartsRise, EntryWithin, Meets}
use Rattle.network.specs.Letters.{class_of, letter_of}
use Rattle.network.specs.Laying.{outside, link_rows, turn_rows, record_refusal, with_record, add_turn}
use Rattle.network.proofs.Rows.{none_applies}
use Rattle.network.proofs.Entries.{none_has_entry}
use Rattle.image.proofs.ReadBack.{link_laid, turn_laid}
use Rattle.image.specs.Image.{four_at, record_bytes, link_record, turn_record, records, contents, encode, link_in, turn_in, entry_right, links_told, turns_told, contents_right, records_in, holds, contents_wrong, not_laid, laid_or, lay_all, decode}
use Rattle.image.proofs.Octets.{two_again, four_again}
use Rattle.image.proofs.Readings.{link_comes, turn_comes}
use Rattle.image.proofs.Written.{length_encode}

-- the contents that were written are right
module _ (l t : ℕ) (rest : List ℕ) (few : l ≤ 1024) (few' : t ≤ 2048) where
  pub links_again : links_told (contents l t ++ rest) ≡ l
  links_again = two_again l (omega arith)

  pub turns_again : turns_told (contents l t ++ rest) ≡ t
  turns_again = two_again t (omega arith)

  pub contents_again : length (contents l t ++ rest) ≡ 16 + 9 * (l + t) → contents_right (contents l t ++ rest) ≡ true
  contents_again long =
      let bs = contents l t ++ rest in
      let place : four_at (drop 8 bs) 4 ≡ 16 + 9 * links_told bs =
      four_again (16 + 9 * l) (omega arith) ∙ ap (λ (x : ℕ). 16 + 9 * x) (sym links_again) in
      and_from (eqb (length bs) (16 + 9 * (links_told bs + turns_told bs))) (entry_right 0x4C 16 bs && entry_right 0x54 (16 + 9 * links_told bs) (drop 8 bs))
      (eq-eqb (length bs) (16 + 9 * (links_told bs + turns_told bs)) (long ∙ ap₂ (λ (x y : ℕ). 16 + 9 * (x + y)) (sym links_again) (sym turns_again)))
      (eq-eqb (four_at (drop 8 bs) 4) (16 + 9 * links_told bs) place)

-- a record that was written is read again
link_again : (l : Link) (rest : List ℕ) → LinkWithin l → link_in (record_bytes (link_record l) ++ rest) ≡ link_record l
link_again l rest within =
    let start = two_again l.start (omega (arith, within.0.1)) in
    let end = two_again l.end (omega (arith, within.1.1)) in
    let metres = four_again l.length (omega (arith, within.2)) in
    cc

turn_again : (t : Turn) (rest : List ℕ) → t.into ≤ 1024 → t.out ≤ 1024 → t.extra ≤ 1000000
    → turn_in (record_bytes (turn_record t) ++ rest) ≡ turn_record t
turn_again t rest p q r =
    let into = two_again t.into (omega arith) in
    let out = two_again t.out (omega arith) in
    let extra = four_again t.extra (omega arith) in
    cc

abbrev turns_fit : List Turn → Type 0
turns_fit turns = AllByRecursion (λ t. (t.into ≤ 1024) × (t.out ≤ 1024) × (t.extra ≤ 1000000)) turns

turns_read : (turns : List Turn) (i links : ℕ) → links ≤ i → turns_fit turns
    → records_in i links (length turns) (flat_map record_bytes (map turn_record turns)) ≡ map turn_record turns
unfolding records_in
turns_read [] i links h fit = refl
turns_read (t ∷ turns) i links h fit =
    let bs = flat_map record_bytes (map turn_record turns) in
    ap₂ (λ (r : Record) (rs : List Record). r ∷ rs)
    (turn_comes i links (record_bytes (turn_record t) ++ bs) h ∙ turn_again t bs fit.0.0 fit.0.1 fit.0.2)
    (turns_read turns (i + 1) links (omega arith) fit.1)

pub records_again : (ls : List Link) (turns : List Turn) (i links : ℕ) → i + length ls ≡ links → AllByRecursion LinkWithin ls → turns_fit turns
    → records_in i links (length ls + length turns) (flat_map record_bytes (map link_record ls ++ map turn_record turns))
    ≡ map link_record ls ++ map turn_record turns
unfolding records_in
records_again [] turns i links h within fit =
    let n : 0 + length turns ≡ length turns = omega arith in
    ap (λ (m : ℕ). records_in i links m (flat_map record_bytes (map turn_record turns))) n ∙ turns_read turns i links (omega arith) fit
records_again (l ∷ ls) turns i links h within fit =
    let bs = flat_map record_bytes (map link_record ls ++ map turn_record turns) in
    let all = record_bytes (link_record l) ++ bs in
    let n : suc (length ls) + length turns ≡ suc (length ls + length turns) = omega arith in
    ap (λ (m : ℕ). records_in i links m all) n
    ∙ ap₂ (λ (r : Record) (rs : List Record). r ∷ rs)
    (link_comes i links all (omega arith) ∙ link_again l bs within.0)
    (records_again ls turns (i + 1) links (omega arith) within.1 fit)

-- a link and an entry that the laws allow are laid
outside_false : (n : ℕ) → 1 ≤ n → n ≤ 512 → outside n ≡ false
outside_false n p q = or_from (ltb n 1) (ltb 512 n) (le-ltb n 1 p) (le-ltb 512 n q)

pub link_lays : (p : Plan) (l : Link) → length p.links < 1024 → LinkWithin l → last_start p.links ≤ l.start
    → record_refusal p (link_record l) ≡ None
link_lays p l few within above =
    none_applies (link_rows p l.start l.end l.length) (
      ne_eqb (length p.links) 1024 (λ e. omega arith),
      (
        or_from (outside l.start) (outside l.end) (outside_false l.start within.0.0 within.0.1) (outside_false l.end within.1.0 within.1.1),
        (le-ltb l.start (last_start p.links) above, (le-ltb 1000000 l.length within.2, tt)),
      ),
    )

pub class_again : (class : ℕ) → class ≤ 4 → class_of (letter_of class) ≡ Some class
class_again zero h = refl
class_again (suc zero) h = refl
class_again (suc (suc zero)) h = refl
class_again (suc (suc (suc zero))) h = refl
class_again (suc (suc (suc (suc zero)))) h = refl
class_again (suc (suc (suc (suc (suc n))))) h = absurd (omega arith)

laid_true : (links : List Link) (n : ℕ) → Laid links n → laid links n ≡ true
laid_true links n h = and_from (leb 1 n) (leb n (length links)) (le-leb 1 n h.0) (le-leb n (length links) h.1)

pub turn_lays : (p : Plan) (t : Turn) → Meets p.links t → EntryWithin t → has_entry p.turns t.into t.out ≡ false
    → length p.turns < 2048 → record_refusal p (turn_record t) ≡ None
turn_lays p t meets within free few =
    let known : is_some (class_of (letter_of t.class)) ≡ true = ap is_some (class_again t.class within.0) in
    let in' = laid p.links t.into in
    let out' = laid p.links t.out in
    none_applies (turn_rows p t.into t.out (letter_of t.class) t.extra) (
      or_from (not in') (not out') (not_from_true in' (laid_true p.links t.into meets.0)) (not_from_true out' (laid_true p.links t.out meets.1)),
      (
        not_from_true _ (eq-eqb _ _ meets.2),
        (
          free,
          (
            not_from_true _ known,
            (
              le-ltb 1000000 t.extra within.1,
              (ne_eqb (length p.turns) 2048 (λ e. omega arith), tt),
            ),
          ),
        ),
      ),
    )

-- laying the entries that are left, and then the links that are left, of a lawful plan
turns_laid : (links : List Link) (rest done : List Turn) (n : ℕ) → length (done ++ rest) ≤ 2048 → Lawful (record { links = links; turns = done ++ rest })
    → lay_all n (record { links = links; turns = done }) (map turn_record rest) ≡ holds (record { links = links; turns = done ++ rest })
unfolding lay_all
turns_laid links [] done n few laws = ap (λ (x : List Turn). holds (record { links = links; turns = x })) (sym (append-nil done))
turns_laid links (t ∷ rest) done n few laws =
    let p : Plan = record { links = links; turns = done } in
    let k = length done in
    let all = done ++ (t ∷ rest) in
    let size = length-append done (t ∷ rest) in
    let here : k < length all = omega arith in
    let is : get_or all k no_turn ≡ t = get_or_at done t rest no_turn k refl in
    let meets = subst (λ (x : Turn). Meets links x) is (laws.1.1.1.0 k here) in
    let within = subst (λ (x : Turn). EntryWithin x) is (laws.1.1.0 k here) in
    let apart : (i : ℕ) → i < k → same_pair (get_or done i no_turn) t.into t.out ≡ false =
    λ i h. ap₂ (λ (x y : Turn). same_pair x y.into y.out) (sym (get_or_append_left done (t ∷ rest) no_turn i h)) (sym is) ∙ laws.1.1.1.1.0 i k (h, here) in
    let passed = turn_lays p t meets within (none_has_entry done t.into t.out apart) (omega arith) in
    let class : unwrap_or (class_of (letter_of t.class)) 0 ≡ t.class = ap (λ (o : Option ℕ). unwrap_or o 0) (class_again t.class within.0) in
    let added : with_record p (turn_record t) ≡ record { links = links; turns = done ++ (t ∷ []) } =
    turn_laid p t.into t.out (letter_of t.class) t.extra passed
    ∙ ap (λ (c : ℕ). add_turn p (record { into = t.into; out = t.out; class = c; extra = t.extra })) class in
    let again : (done ++ (t ∷ [])) ++ rest ≡ all = append_assoc done (t ∷ []) rest in
    ap (λ (o : Option ℕ). laid_or o (lay_all (n + 1) (with_record p (turn_record t)) (map turn_record rest)) (not_laid (n + 1))) passed
    ∙ ap (λ (q : Plan). lay_all (n + 1) q (map turn_record rest)) added
    ∙ turns_laid links rest (done ++ (t ∷ [])) (n + 1)
    (subst (λ (x : List Turn). length x ≤ 2048) (sym again) few) (subst (λ (x : List Turn). Lawful (record { links = links; turns = x })) (sym again) laws)
    ∙ ap (λ (x : List Turn). holds (record { links = links; turns = x })) again

last_start_below : (done rest : List Link) (l : Link) → StartsRise (done ++ (l ∷ rest)) → last_start done ≤ l.start
last_start_below [] rest l rise = omega arith
last_start_below (d ∷ done) rest l rise =
    let all = d ∷ done ++ (l ∷ rest) in
    let k = length done in
    let size = length-append (d ∷ done) (l ∷ rest) in
    let low : k < length (d ∷ done) = omega arith in
    let is : get_or all (k + 1) no_link ≡ l = get_or_at (d ∷ done) l rest no_link (k + 1) (omega arith) in
    let before : get_or all k no_link ≡ get_or (d ∷ done) k no_link = get_or_append_left (d ∷ done) (l ∷ rest) no_link k low in
    let up = rise k (omega arith) in
    let a : (get_or all k no_link).start ≡ (get_or (d ∷ done) k no_link).start = ap (λ (x : Link). x.start) before in
    let b : (get_or all (k + 1) no_link).start ≡ l.start = ap (λ (x : Link). x.start) is in
    omega arith

links_laid : (turns : List Turn) (rest done : List Link) (n : ℕ) → length (done ++ rest) ≤ 1024 → length turns ≤ 2048
    → Lawful (record { links = done ++ rest; turns = turns })
    → lay_all n (record { links = done; turns = [] }) (map link_record rest ++ map turn_record turns) ≡ holds (record { links = done ++ rest; turns = turns })
unfolding lay_all
links_laid turns [] done n few few' laws =
    let e = append-nil done in
    turns_laid done turns [] n few' (subst (λ (x : List Link). Lawful (record { links = x; turns = turns })) e laws)
    ∙ ap (λ (x : List Link). holds (record { links = x; turns = turns })) (sym e)
links_laid turns (l ∷ rest) done n few few' laws =
    let p : Plan = record { links = done; turns = [] } in
    let k = length done in
    let all = done ++ (l ∷ rest) in
    let size = length-append done (l ∷ rest) in
    let is : get_or all k no_link ≡ l = get_or_at done l rest no_link k refl in
    let within = subst (λ (x : Link). LinkWithin x) is (laws.0 k (omega arith)) in
    let passed = link_lays p l (omega arith) within (last_start_below done rest l laws.1.0) in
    let added : with_record p (link_record l) ≡ record { links = done ++ (l ∷ []); turns = [] } =
    link_laid p l.start l.end l.length l.tightness passed in
    let again : (done ++ (l ∷ [])) ++ rest ≡ all = append_assoc done (l ∷ []) rest in
    let more = map link_record rest ++ map turn_record turns in
    ap (λ (o : Option ℕ). laid_or o (lay_all (n + 1) (with_record p (link_record l)) more) (not_laid (n + 1))) passed
    ∙ ap (λ (q : Plan). lay_all (n + 1) q more) added
    ∙ links_laid turns rest (done ++ (l ∷ [])) (n + 1) (subst (λ (x : List Link). length x ≤ 1024) (sym again) few) few'
    (subst (λ (x : List Link). Lawful (record { links = x; turns = turns })) (sym again) laws)
    ∙ ap (λ (x : List Link). holds (record { links = x; turns = turns })) again

-- the image of a lawful plan holds the plan
pub image_again : (p : Plan) → length p.links ≤ 1024 → length p.turns ≤ 2048 → Lawful p → decode (encode p) ≡ holds p
unfolding decode encode
image_again p few few' laws =
    let l = length p.links in
    let t = length p.turns in
    let rest = flat_map record_bytes (records p) in
    let right = contents_again l t rest few few' (length_encode p) in
    let within = All-from_get_or LinkWithin p.links no_link laws.0 in
    let fit : turns_fit p.turns = All-from_get_or _ p.turns no_turn
    (λ i h. let m = laws.1.1.1.0 i h in (omega (arith, m.0.1), omega (arith, m.1.1), (laws.1.1.0 i h).1)) in
    let start : 0 + l ≡ l = omega arith in
    ap (λ (b : Bool). cond b
    (lay_all 0 empty (records_in 0 (links_told (contents l t ++ rest)) (links_told (contents l t ++ rest) + turns_told (contents l t ++ rest)) rest)) contents_wrong) right
    ∙ ap₂ (λ (x y : ℕ). lay_all 0 empty (records_in 0 x (x + y) rest)) (links_again l t rest few few') (turns_again l t rest few few')
    ∙ ap (lay_all 0 empty) (records_again p.links p.turns 0 l start within fit)
    ∙ links_laid p.turns p.links [] 0 few few' laws
