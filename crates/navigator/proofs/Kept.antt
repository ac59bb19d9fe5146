-- What every call keeps: the ledger gives the map's state, and the open question's book holds what was handed out.
-- Assumes nothing.
--     state_of l               the state that a ledger gives
--     BookHolds left handed    the book that was left, if one was, holds the routes handed out
--     Kept m l s               the state is the ledger's, the open question's book holds its routes, and each question is served
--                              cheapest first
use Rattle.std.proofs.Common.{◌≡◌, ℕ, ◌*◌, ◌<◌, ◌≤◌, true, false, List, [], ◌∷◌, length, IfSome, Some, None, Option, sym, refl, ap, ◌∙◌, subst, inl, inr, add-one, arith}
use Rattle.std.specs.List.{ContainsAt as Has, AllByRecursion}
use Rattle.std.proofs.ByRecursion.{All-weaker}
use Rattle.network.specs.Roads.{Roads}
use Rattle.network.specs.Laying.{unless}
use Rattle.measure.specs.Ranks.{Ranks}
use Rattle.measure.specs.Cost.{cost}
use Rattle.routing.specs.Book as books
use Rattle.routing.proofs.Members.{has_later, all_from_has}
use Rattle.navigator.specs.declared.question.Question.{Question}
use Rattle.navigator.specs.declared.question.Question.TheVariants.{Shut, Open}
use Rattle.navigator.specs.State.{State}
use Rattle.navigator.specs.Checks.{Passed}
use Rattle.navigator.specs.Calls.{ask_refusal, end_refusal, mark_refusal, change_refusal}
use Rattle.navigator.specs.Answers.{Answer, refused, done, verdict}
use Rattle.navigator.specs.Listing.{with_route, route_at}
use Rattle.navigator.specs.Searches.{next_rows, Next, HandsOut}
use Rattle.navigator.specs.Runs.{Event, ask, next, trial, end, close, «open», set_turn, Step, Started, Ledger, questions, opened, with_mark, with_turn, enter, ledger, Lent, Run}
use Rattle.navigator.specs.Law.{Of, CheapestFirst}
use Rattle.navigator.proofs.Rows.{by_rows}
use Rattle.navigator.proofs.Places.{Counted, simple_counted, read_back, Stand, stand_still, place_of, handed_at, written_holds, written_before}

abbrev pub question_of : Option Started → Question
question_of None = Shut
question_of (Some q) = Open q.from q.to (length q.handed)

abbrev pub state_of : Ledger → State
state_of l = record { roads = l.roads; question = question_of l.current }

abbrev pub BookHolds : Option (List ℕ) → List (List ℕ) → Type 0
BookHolds None handed = handed ≡ []
BookHolds (Some book) handed = Stand book handed

-- the roads have not changed since the open question's ask
abbrev pub Sound : Roads → Option Started → Type 0
Sound roads None = Unit {0}
Sound roads (Some q) = (q.roads ≡ roads) × BookHolds q.book q.handed

pub record Kept (m : Ranks) (l : Ledger) (s : State) : Type 0 where
  pub state : s ≡ state_of l
  pub sound : Sound l.roads l.current
  pub first : AllByRecursion (CheapestFirst m) (questions l)

abbrev pub AsLeft : Option (List ℕ) → List ℕ → Type 0
AsLeft left book = IfSome left (λ b. book ≡ b)

abbrev pub OneBook : Option Started → List ℕ → Type 0
OneBook current book = IfSome current (λ q. AsLeft q.book book)

-- the book that is lent holds what was handed out
pub lent_holds : (left : Option (List ℕ)) (book : List ℕ) (handed : List (List ℕ)) → BookHolds left handed → AsLeft left book → Stand book handed
lent_holds None book handed e u = subst (Stand book) (sym e) tt
lent_holds (Some left) book handed st e = subst (λ (b : List ℕ). Stand b handed) (sym e) st

all_counted : (q : Started) (rs : List (List ℕ)) → AllByRecursion (Of q) rs → AllByRecursion Counted rs
all_counted q rs h = All-weaker (Of q) Counted (λ r. simple_counted q.roads q.from q.to r) rs h

-- the routes listed in the book are those handed out
abbrev pub UnlistedOf : Started → List ℕ → List ℕ → Type 0
UnlistedOf q book r = books.Unlisted q.roads q.from q.to book (length q.handed) r

pub not_handed : (q : Started) (book r : List ℕ) → Stand book q.handed → UnlistedOf q book r → Has q.handed r → ⊥
not_handed q book r st u h = let p = place_of book q.handed r st h in u.1 p.0 p.1 p.2

pub unlisted : (q : Started) (book r : List ℕ) → Stand book q.handed → AllByRecursion (Of q) q.handed → Of q r → (Has q.handed r → ⊥)
    → UnlistedOf q book r
unlisted q book r st simple o n = (
  o,
  λ i l h. n (handed_at book q.handed r i st (all_counted q q.handed simple) (simple_counted q.roads q.from q.to r o) l h),
)

all_both : {X : Type 0} (P Q : X → Type 0) (xs : List X) → AllByRecursion P xs → AllByRecursion Q xs → AllByRecursion (λ x. P x × Q x) xs
all_both P Q [] p q = tt
all_both P Q (x ∷ xs) p q = ((p.0, q.0), all_both P Q xs p.1 q.1)

abbrev one_more_handed : Started → List ℕ → List ℕ → Started
one_more_handed q r book' = record { roads = q.roads; from = q.from; to = q.to; handed = r ∷ q.handed; book = Some book' }

abbrev rebooked : Started → List ℕ → Started
rebooked q book' = record { roads = q.roads; from = q.from; to = q.to; handed = q.handed; book = Some book' }

same_book : (m : Ranks) (q : Started) (book : List ℕ) → CheapestFirst m q → CheapestFirst m (rebooked q book)
same_book m q book c = record { simple = c.simple; in_order = c.in_order; others_dearer = c.others_dearer }

-- a cheapest of the unlisted routes comes next
cheapest_next : (m : Ranks) (q : Started) (book book' r : List ℕ) → CheapestFirst m q → Stand book q.handed → UnlistedOf q book r
    → ((other : List ℕ) → UnlistedOf q book other → cost m q.roads.plan r ≤ cost m q.roads.plan other)
    → CheapestFirst m (one_more_handed q r book')
cheapest_next m q book book' r c st u under =
    let fresh = not_handed q book r st u in
    record {
      simple = (u.0, c.simple);
      in_order = (
        all_both (λ b. r ≡ b → ⊥) (λ b. cost m q.roads.plan b ≤ cost m q.roads.plan r) q.handed
            (all_from_has (λ b. r ≡ b → ⊥) q.handed (λ b h e. fresh (subst (Has q.handed) (sym e) h)))
            (c.others_dearer r u.0 fresh),
        c.in_order,
      );
      others_dearer = λ o simple n.
          let not_before : Has q.handed o → ⊥ = λ h. n (has_later q.handed r o h) in
          (under o (unlisted q book o st c.simple simple not_before), c.others_dearer o simple not_before);
    }

-- a call that tells nothing but its refusal: refused, or done
by_verdict : (P : Answer → State → Type 0) (refusal : Option ℕ) (s new s' : State) (answer : Answer)
    → (answer ≡ verdict refusal) × (s' ≡ unless refusal s new) → ((n : ℕ) → P (refused n) s) → (refusal ≡ None → P done new) → P answer s'
by_verdict P None s new s' answer h f g = rw (h.0, h.1) (g refl)
by_verdict P (Some n) s new s' answer h f g = rw (h.0, h.1) (f n)

never_through : {A : Type 0} (n : ℕ) → ◌≡◌ {A = Option ℕ} (Some n) None → A
never_through n e = let z : ◌≡◌ {A = ℕ} 0 1 = cc in absurd (omega arith)

abbrev pub with : Roads → Option Started → List Started → Ledger
with roads current ended = record { roads = roads; current = current; ended = ended }

-- the state that the ledger gives
abbrev KeptSo : Ranks → Ledger → Type 0
KeptSo m l = Kept m l (state_of l)

-- a change, which only a map with no open question takes
changes : (m : Ranks) (roads roads' : Roads) (current : Option Started) (ended : List Started) → KeptSo m (with roads current ended)
    → (question_of current ≡ Shut) → Kept m (with roads' current ended) (record { roads = roads'; question = question_of current })
changes m roads roads' None ended k shut = record { state = refl; sound = tt; first = k.first }
changes m roads roads' (Some q) ended k shut = let z : ◌≡◌ {A = ℕ} 0 1 = cc in absurd (omega arith)

asks : (m : Ranks) (l : Ledger) (from to : ℕ) → KeptSo m l
    → Kept m (with l.roads (Some (opened l.roads from to)) (questions l)) (record { roads = l.roads; question = Open from to 0 })
asks m l from to k = record {
  state = refl;
  sound = (refl, refl);
  first = (record { simple = tt; in_order = tt; others_dearer = λ r o n. tt }, k.first);
}

ends : (m : Ranks) (l : Ledger) → KeptSo m l → Kept m (with l.roads None (questions l)) (record { roads = l.roads; question = Shut })
ends m l k = record { state = refl; sound = tt; first = k.first }

-- a next of the question q, on roads that have not changed
module _ (m : Ranks) (q : Started) (ended : List Started) (book : List ℕ) (costs : ℕ) (book' : List ℕ) (answer : Answer) (s' : State)
    (k : KeptSo m (with q.roads (Some q) ended)) (left : AsLeft q.book book) where
  abbrev Served : Type 0
  Served = Kept m (enter (next book costs book' answer) (with q.roads (Some q) ended)) s'

  hands_none : (n : ℕ) → answer ≡ refused n → s' ≡ state_of (with q.roads (Some q) ended) → book' ≡ book → Served
  hands_none n a e b =
      rw (a, e, b) (record {
        state = refl;
        sound = (refl, lent_holds q.book book q.handed k.sound.1 left);
        first = (same_book m q book k.first.0, k.first.1);
      })

  hands_one : 1024 * length q.handed ≤ length book → HandsOut m (state_of (with q.roads (Some q) ended)) book answer s' book' → Served
  hands_one room h =
      let n = length q.handed in
      let st = lent_holds q.book book q.handed k.sound.1 left in
      let holds = written_holds book n h.r h.fits room in
      let here : route_at (with_route book n h.r) n ≡ h.r =
      read_back (with_route book n h.r) n h.r holds (simple_counted q.roads q.from q.to h.r h.cheapest.0.0) in
      rw (h.answers, h.writes, here) (record {
        state = h.lists ∙ ap (λ (n : ℕ). record { roads = q.roads; question = Open q.from q.to n }) (add-one n);
        sound = (refl, (holds, stand_still book (with_route book n h.r) n q.handed (omega arith) (written_before book n h.r h.fits room) st));
        first = (cheapest_next m q book (with_route book n h.r) h.r k.first.0 st h.cheapest.0 h.cheapest.1, k.first.1);
      })

  nexts_here : Next m (state_of (with q.roads (Some q) ended)) book costs answer s' book' → Served
  nexts_here h =
      by_rows (next_rows (state_of (with q.roads (Some q) ended)) book costs) Served
      (λ n (r : (answer ≡ refused n) × (s' ≡ state_of (with q.roads (Some q) ended)) × (book' ≡ book)). hands_none n r.0 r.1 r.2)
      (λ passed outcome. elim outcome [
        | inl none ↦ hands_none 16 none.answers none.state_stays none.book_stays
        | inr one ↦ hands_one (omega (arith, room passed)) one
      ]) h
    where
      within : (n long : ℕ) → (16 ≤ n → ⊥) → (long < 16384 → ⊥) → 1024 * n ≤ long
      within n long few wide = omega (arith, few, wide)

      room : Passed (next_rows (state_of (with q.roads (Some q) ended)) book costs) → 1024 * length q.handed ≤ length book
      room passed = within (length q.handed) (length book) passed.1.1.0 (λ l. passed.1.0 (inl l))

nexts : (m : Ranks) (roads : Roads) (current : Option Started) (ended : List Started) (book : List ℕ) (costs : ℕ) (book' : List ℕ) (answer : Answer) (s' : State)
    → KeptSo m (with roads current ended) → OneBook current book
    → Next m (state_of (with roads current ended)) book costs answer s' book'
    → Kept m (enter (next book costs book' answer) (with roads current ended)) s'
nexts m roads None ended book costs book' answer s' k left h =
    by_rows (next_rows (record { roads = roads; question = Shut }) book costs) _
    (λ n (r : (answer ≡ refused n) × (s' ≡ record { roads = roads; question = Shut }) × (book' ≡ book)). rw r.1 k)
    (λ p t. absurd (p.0 refl)) h
nexts m roads (Some q) ended book costs book' answer s' k left h =
    subst (λ (roads : Roads). KeptSo m (with roads (Some q) ended) → Next m (state_of (with roads (Some q) ended)) book costs answer s' book'
    → Kept m (enter (next book costs book' answer) (with roads (Some q) ended)) s') k.sound.0
    (λ k h. nexts_here m q ended book costs book' answer s' k left h) k h

-- only a shut question lets a change through
shut_for_mark : (roads : Roads) (question : Question) (link : ℕ) → mark_refusal (record { roads = roads; question = question }) link ≡ None → question ≡ Shut
shut_for_mark roads Shut link e = refl
shut_for_mark roads (Open from to n) link e = never_through 11 e

shut_for_turn : (roads : Roads) (question : Question) (into out letter extra : ℕ)
    → change_refusal (record { roads = roads; question = question }) into out letter extra ≡ None → question ≡ Shut
shut_for_turn roads Shut into out letter extra e = refl
shut_for_turn roads (Open from to n) into out letter extra e = never_through 11 e

steps : (m : Ranks) (l : Ledger) (e : Event) (s' : State) → KeptSo m l → Step m (state_of l) e s' → Lent l e → Kept m (enter e l) s'
steps m l (ask from to answer) s' k h u =
    by_verdict (λ answer s'. Kept m (enter (ask from to answer) l) s') (ask_refusal (state_of l) from to) _ _ s' answer h (λ n. k) (λ e. asks m l from to k)
steps m l (next book costs book' answer) s' k h u = nexts m l.roads l.current l.ended book costs book' answer s' k u h
steps m l (trial link costs answer) s' k h u = rw h.1 k
steps m l (end answer) s' k h u =
    by_verdict (λ answer s'. Kept m (enter (end answer) l) s') (end_refusal (state_of l)) _ _ s' answer h (λ n. k) (λ e. ends m l k)
steps m l (close link answer) s' k h u =
    by_verdict (λ answer s'. Kept m (enter (close link answer) l) s') (mark_refusal (state_of l) link) _ _ s' answer h (λ n. k)
    (λ e. changes m l.roads (with_mark l.roads link true) l.current l.ended k (shut_for_mark l.roads (question_of l.current) link e))
steps m l («open» link answer) s' k h u =
    by_verdict (λ answer s'. Kept m (enter («open» link answer) l) s') (mark_refusal (state_of l) link) _ _ s' answer h (λ n. k)
    (λ e. changes m l.roads (with_mark l.roads link false) l.current l.ended k (shut_for_mark l.roads (question_of l.current) link e))
steps m l (set_turn into out letter extra answer) s' k h u =
    by_verdict (λ answer s'. Kept m (enter (set_turn into out letter extra answer) l) s') (change_refusal (state_of l) into out letter extra) _ _ s' answer h
    (λ n. k)
    (λ e. changes m l.roads (with_turn l.roads into out letter extra) l.current l.ended k
    (shut_for_turn l.roads (question_of l.current) into out letter extra e))

pub kept : (m : Ranks) (first : State) → first.question ≡ Shut → (past : List Event) (s : State) → Run m first past s
    → Kept m (ledger first.roads past) s
kept m first e [] s run =
    record { state = run ∙ ap (λ (q : Question). record { roads = first.roads; question = q }) e; sound = tt; first = tt }
kept m first e (event ∷ past) s' run = after (kept m first e past run.0 run.1)
  where
    after : Kept m (ledger first.roads past) run.0 → Kept m (enter event (ledger first.roads past)) s'
    after k =
        steps m (ledger first.roads past) event s'
        (record { state = refl; sound = k.sound; first = k.first })
        (subst (λ (s : State). Step m s event s') k.state run.2.0) run.2.1
