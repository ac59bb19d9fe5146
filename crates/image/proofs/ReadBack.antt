-- An image that is read is the image of the plan that it holds. Assumes nothing.
use Rattle.std.proofs.Common.{◌≡◌, ℕ, zero, suc, ◌+◌, ◌-◌, ◌*◌, ◌<◌, ◌≤◌, min, Bool, true, false, cond, ◌&&◌, eqb, List, [], ◌∷◌, ◌++◌, map, length, get_or, take, drop, is_some, Some, None, Option, unwrap_or, sym, refl, ap, ◌∙◌, subst, ap₂, ⊎_elim, append_assoc, arith, length-drop}
use Rattle.std.specs.List.{flat_map}
use Rattle.std.proofs.lemmas.List.{append-nil, map_push, take-append-drop, drop-drop, length_push, nil_from_length}
use Rattle.std.proofs.lemmas.Bool.{cases_lt, and_parts, eqb-true, false≢true}
use Rattle.network.specs.declared.link.Link.{Link}
use Rattle.network.specs.declared.turn.Turn.{Turn}
use Rattle.network.specs.declared.record.Record.{Record}
use Rattle.network.specs.declared.record.Record.TheVariants as records-of
use Rattle.network.specs.Letters.{class_of, letter_of}
use Rattle.network.specs.Plan.{Plan, empty}
use Rattle.network.specs.Laying.{unless, add_link, add_turn, link_refusal, turn_refusal, record_refusal, with_record}
use Rattle.image.specs.Image.{two, four, two_at, four_at, record_bytes, link_record, turn_record, records, contents_entry, contents, encode, entry_right, links_told, turns_told, contents_right, record_in, records_in, Reading, holds, not_laid, laid_or, lay_all}
use Rattle.image.specs.Steps.{Octets}
use Rattle.image.proofs.Octets.{octets_drop, two_back, four_back, eight, link_back, turn_back}
use Rattle.image.proofs.Readings.{link_comes, turn_comes}
use Rattle.network.proofs.Rows.{none_is_not_some}
use Rattle.network.proofs.Laws.{turn_passed, letter_known}

-- a letter's class has that letter
by_letter : (letter class k c : ℕ) (rest : Option ℕ) → letter_of k ≡ c → (rest ≡ Some class → letter_of class ≡ letter)
    → (b : Bool) → eqb letter c ≡ b → cond b (Some k) rest ≡ Some class → letter_of class ≡ letter
by_letter letter class k c rest is more true t e =
    let same : class ≡ k = cc in
    ap letter_of same ∙ is ∙ sym (eqb-true letter c t)
by_letter letter class k c rest is more false t e = more e

pub letter_back : (letter class : ℕ) → class_of letter ≡ Some class → letter_of class ≡ letter
letter_back letter class =
    by_letter letter class 0 83 _ refl
    (by_letter letter class 1 76 _ refl
    (by_letter letter class 2 82 _ refl
    (by_letter letter class 3 85 _ refl
    (by_letter letter class 4 88 None refl (λ e. absurd (none_is_not_some class e)) (eqb letter 88) refl)
    (eqb letter 85) refl) (eqb letter 82) refl) (eqb letter 76) refl) (eqb letter 83) refl

pub letter_of_class : (letter : ℕ) → is_some (class_of letter) ≡ true → letter_of (unwrap_or (class_of letter) 0) ≡ letter
letter_of_class letter = by (class_of letter) refl
  where
    by : (o : Option ℕ) → class_of letter ≡ o → is_some o ≡ true → letter_of (unwrap_or o 0) ≡ letter
    by None e s = absurd (false≢true s)
    by (Some k) e s = letter_back letter k e

-- records of a plan with one link, and with one entry, more
pub records_add_link : (p : Plan) (l : Link) → p.turns ≡ [] → records (add_link p l) ≡ records p ++ (link_record l ∷ [])
records_add_link p l none =
    let front = map link_record p.links in
    ap₂ (λ (x : List Record) (y : List Turn). x ++ map turn_record y) (map_push link_record p.links l) none
    ∙ append-nil (front ++ (link_record l ∷ []))
    ∙ ap (λ (x : List Record). x ++ (link_record l ∷ [])) (sym (append-nil front))
    ∙ ap (λ (y : List Turn). (front ++ map turn_record y) ++ (link_record l ∷ [])) (sym none)

pub records_add_turn : (p : Plan) (t : Turn) → records (add_turn p t) ≡ records p ++ (turn_record t ∷ [])
records_add_turn p t =
    ap (λ (x : List Record). map link_record p.links ++ x) (map_push turn_record p.turns t)
    ∙ sym (append_assoc (map link_record p.links) (map turn_record p.turns) (turn_record t ∷ []))

laid_is : (o : Option ℕ) (before after : Plan) → o ≡ None → unless o before after ≡ after
laid_is o before after e = ap (λ (x : Option ℕ). unless x before after) e

-- a link that is laid
pub link_laid : (p : Plan) (s e m t : ℕ) → record_refusal p (records-of.Link s e m t) ≡ None
    → with_record p (records-of.Link s e m t) ≡ add_link p (record { start = s; end = e; length = m; tightness = t })
link_laid p s e m t h = laid_is (link_refusal p s e m) p _ h

pub turn_laid : (p : Plan) (i o c x : ℕ) → record_refusal p (records-of.Turn i o c x) ≡ None
    → with_record p (records-of.Turn i o c x) ≡ add_turn p (record { into = i; out = o; class = unwrap_or (class_of c) 0; extra = x })
turn_laid p i o c x h = laid_is (turn_refusal p i o c x) p _ h

-- what one record of an image adds to the plan: itself
pub record Added (i links : ℕ) (p p' : Plan) (r : Record) : Type 0 where
  pub recorded : records p' ≡ records p ++ (r ∷ [])
  pub one_link : i < links → (p'.turns ≡ p.turns) × (length p'.links ≡ length p.links + 1)
  pub one_turn : links ≤ i → (length p'.turns ≡ length p.turns + 1) × (length p'.links ≡ length p.links)

link_added : (i links s e m t : ℕ) (p : Plan) → i < links → p.turns ≡ [] → record_refusal p (records-of.Link s e m t) ≡ None
    → Added i links p (with_record p (records-of.Link s e m t)) (records-of.Link s e m t)
link_added i links s e m t p h none passed =
    let l : Link = record { start = s; end = e; length = m; tightness = t } in
    let is = link_laid p s e m t passed in
    record {
      recorded = ap records is ∙ records_add_link p l none;
      one_link = λ _. (ap (λ (q : Plan). q.turns) is, ap (λ (q : Plan). length q.links) is ∙ length_push p.links l);
      one_turn = λ past. absurd (omega arith);
    }

turn_added : (i links a b c x : ℕ) (p : Plan) → links ≤ i → record_refusal p (records-of.Turn a b c x) ≡ None
    → Added i links p (with_record p (records-of.Turn a b c x)) (records-of.Turn a b c x)
turn_added i links a b c x p h passed =
    let t : Turn = record { into = a; out = b; class = unwrap_or (class_of c) 0; extra = x } in
    let is = turn_laid p a b c x passed in
    let known = letter_known c x (turn_passed p a b c x passed).2 in
    record {
      recorded = ap records is ∙ records_add_turn p t
          ∙ ap (λ (n : ℕ). records p ++ (records-of.Turn a b n x ∷ [])) (letter_of_class c known);
      one_link = λ before. absurd (omega arith);
      one_turn = λ _. (ap (λ (q : Plan). length q.turns) is ∙ length_push p.turns t, ap (λ (q : Plan). length q.links) is);
    }

pub record_added : (i links : ℕ) (bs : List ℕ) (p : Plan) → (i < links → p.turns ≡ []) → record_refusal p (record_in i links bs) ≡ None
    → Added i links p (with_record p (record_in i links bs)) (record_in i links bs)
record_added i links bs p none = ⊎_elim link turn (cases_lt i links)
  where
    Goal : Record → Type 0
    Goal r = record_refusal p r ≡ None → Added i links p (with_record p r) r

    link : i < links → Goal (record_in i links bs)
    link h = subst Goal (sym (link_comes i links bs h)) (link_added i links (two_at bs 0) (two_at bs 2) (four_at bs 4) (get_or bs 8 0) p h (none h))

    turn : links ≤ i → Goal (record_in i links bs)
    turn h = subst Goal (sym (turn_comes i links bs h)) (turn_added i links (two_at bs 0) (two_at bs 2) (get_or bs 4 0) (four_at bs 5) p h)

laid_on : (o : Option ℕ) (n : ℕ) (then : Reading) (q : Plan) → laid_or o then (not_laid n) ≡ holds q → (o ≡ None) × (then ≡ holds q)
laid_on None n then q e = (refl, e)
laid_on (Some k) n then q e = let z : ◌≡◌ {A = ℕ} 0 1 = cc in absurd (omega arith)

-- the records that were laid are the records of the plan, and so many are links and entries
pub record LaidFrom (i links n : ℕ) (bs : List ℕ) (p q : Plan) : Type 0 where
  pub recorded : records q ≡ records p ++ records_in i links n bs
  pub links_more : length q.links ≡ length p.links + (min (i + n) links - i)
  pub turns_more : length q.turns + (min (i + n) links - i) ≡ length p.turns + n

pub all_laid : (n i links : ℕ) (bs : List ℕ) (p q : Plan) → (i < links → p.turns ≡ [])
    → lay_all i p (records_in i links n bs) ≡ holds q → LaidFrom i links n bs p q
unfolding lay_all records_in
all_laid zero i links bs p q none e =
    let same : p ≡ q = cc in
    record {
      recorded = ap records (sym same) ∙ sym (append-nil (records p));
      links_more = ap (λ (x : Plan). length x.links) (sym same) ∙ omega arith;
      turns_more = let t : length q.turns ≡ length p.turns = ap (λ (x : Plan). length x.turns) (sym same) in omega arith;
    }
all_laid (suc n) i links bs p q none e =
    let r = record_in i links bs in
    let p' = with_record p r in
    let first = laid_on (record_refusal p r) (i + 1) (lay_all (i + 1) p' (records_in (i + 1) links n (drop 9 bs))) q e in
    let added = record_added i links bs p none first.0 in
    let still : i + 1 < links → p'.turns ≡ [] = λ h. (added.one_link (omega arith)).0 ∙ none (omega arith) in
    let rest = all_laid n (i + 1) links (drop 9 bs) p' q still first.1 in
    let counts : (length p'.links ≡ length p.links + (min (i + 1) links - i)) × (length p'.turns + (min (i + 1) links - i) ≡ length p.turns + 1) =
    ⊎_elim (λ h. let a = added.one_link h in let t : length p'.turns ≡ length p.turns = ap length a.0 in (omega (arith, a.1), omega arith))
    (λ h. let a = added.one_turn h in (omega (arith, a.1), omega (arith, a.0))) (cases_lt i links) in
    record {
      recorded = rest.recorded ∙ ap (λ (x : List Record). x ++ records_in (i + 1) links n (drop 9 bs)) added.recorded
          ∙ append_assoc (records p) (r ∷ []) (records_in (i + 1) links n (drop 9 bs));
      links_more = omega (arith, rest.links_more, counts.0);
      turns_more = omega (arith, rest.turns_more, counts.1);
    }

-- the records that bytes hold have those bytes
pub bytes_back : (n i links : ℕ) (bs : List ℕ) → length bs ≡ 9 * n → Octets bs → flat_map record_bytes (records_in i links n bs) ≡ bs
unfolding records_in
bytes_back zero i links bs long all = sym (nil_from_length bs long)
bytes_back (suc n) i links bs long all =
    let room : 9 ≤ length bs = omega arith in
    let first : record_bytes (record_in i links bs) ≡ take 9 bs =
    ⊎_elim (λ h. ap record_bytes (link_comes i links bs h) ∙ link_back bs room all)
    (λ h. ap record_bytes (turn_comes i links bs h) ∙ turn_back bs room all) (cases_lt i links) in
    let left : length (drop 9 bs) ≡ 9 * n = length-drop 9 bs ∙ omega arith in
    ap₂ (λ (x y : List ℕ). x ++ y) first (bytes_back n (i + 1) links (drop 9 bs) left (octets_drop 9 bs all))
    ∙ take-append-drop 9 bs

entry_back : (kind place : ℕ) (bs : List ℕ) → 8 ≤ length bs → Octets bs → entry_right kind place bs ≡ true
    → take 8 bs ≡ contents_entry kind (two_at bs 2) place
entry_back kind place bs l all right =
    let a = and_parts (eqb (get_or bs 0 0) kind) (eqb (get_or bs 1 0) 0 && eqb (four_at bs 4) place) right in
    let b = and_parts (eqb (get_or bs 1 0) 0) (eqb (four_at bs 4) place) a.1 in
    let count = two_back (get_or bs 2 0) (get_or bs 3 0) (all 2 (omega arith)) (all 3 (omega arith)) in
    let at = four_back (get_or bs 4 0) (get_or bs 5 0) (get_or bs 6 0) (get_or bs 7 0) (all 4 (omega arith)) (all 5 (omega arith)) (all 6 (omega arith)) (all 7 (omega arith)) in
    eight bs l
    ∙ ap₂ (λ (x y : ℕ). x ∷ y ∷ get_or bs 2 0 ∷ get_or bs 3 0 ∷ get_or bs 4 0 ∷ get_or bs 5 0 ∷ get_or bs 6 0 ∷ get_or bs 7 0 ∷ [])
    (eqb-true (get_or bs 0 0) kind a.0) (eqb-true (get_or bs 1 0) 0 b.0)
    ∙ ap₂ (λ (x y : List ℕ). kind ∷ 0 ∷ x ++ y) (sym count) (sym at)
    ∙ ap (λ (x : ℕ). kind ∷ 0 ∷ two (two_at bs 2) ++ four x) (eqb-true (four_at bs 4) place b.1)

-- a right table of contents is the one for its counts
pub contents_back : (bs : List ℕ) → Octets bs → contents_right bs ≡ true
    → (length bs ≡ 16 + 9 * (links_told bs + turns_told bs)) × (contents (links_told bs) (turns_told bs) ++ drop 16 bs ≡ bs)
contents_back bs all right =
    let a = and_parts (eqb (length bs) (16 + 9 * (links_told bs + turns_told bs)))
    (entry_right 0x4C 16 bs && entry_right 0x54 (16 + 9 * links_told bs) (drop 8 bs)) right in
    let b = and_parts (entry_right 0x4C 16 bs) (entry_right 0x54 (16 + 9 * links_told bs) (drop 8 bs)) a.1 in
    let long = eqb-true (length bs) (16 + 9 * (links_told bs + turns_told bs)) a.0 in
    let rest : 8 ≤ length (drop 8 bs) = let e = length-drop 8 bs in omega arith in
    let one = entry_back 0x4C 16 bs (omega arith) all b.0 in
    let two' = entry_back 0x54 (16 + 9 * links_told bs) (drop 8 bs) rest (octets_drop 8 bs all) b.1 in (
      long,
      ap₂ (λ (x y : List ℕ). (x ++ y) ++ drop 16 bs) (sym one) (sym two')
          ∙ append_assoc (take 8 bs) (take 8 (drop 8 bs)) (drop 16 bs)
          ∙ ap (λ (x : List ℕ). take 8 bs ++ (take 8 (drop 8 bs) ++ x)) (sym (drop-drop 8 8 bs))
          ∙ ap (λ (x : List ℕ). take 8 bs ++ x) (take-append-drop 8 (drop 8 bs))
          ∙ take-append-drop 8 bs,
    )

-- the plan that an image holds has that image
pub image_back : (bs : List ℕ) (q : Plan) → Octets bs → contents_right bs ≡ true
    → lay_all 0 empty (records_in 0 (links_told bs) (links_told bs + turns_told bs) (drop 16 bs)) ≡ holds q → encode q ≡ bs
unfolding encode
image_back bs q all right read =
    let links = links_told bs in
    let turns = turns_told bs in
    let told = contents_back bs all right in
    let laid = all_laid (links + turns) 0 links (drop 16 bs) empty q (λ _. refl) read in
    let left : length (drop 16 bs) ≡ 9 * (links + turns) = length-drop 16 bs ∙ omega (arith, told.0) in
    let l : length q.links ≡ links = omega (arith, laid.links_more) in
    let t : length q.turns ≡ turns = omega (arith, laid.links_more, laid.turns_more) in
    ap₂ (λ (x : List ℕ) (y : List Record). x ++ flat_map record_bytes y) (ap₂ contents l t) laid.recorded
    ∙ ap (λ (x : List ℕ). contents links turns ++ x) (bytes_back (links + turns) 0 links (drop 16 bs) left (octets_drop 16 bs all))
    ∙ told.1
