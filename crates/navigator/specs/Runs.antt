-- Runs of calls, and what a bystander who saw the calls and the answers writes down. Lists have the latest first.
--     Event                      a call as its caller saw it
--     Step m s event s'          the call takes the map from the state s to s'
--     Started                    a question: the roads as they stood at its ask, its nodes, the routes handed out to it
--     Ledger                     the roads as the accepted changes leave them, the open question, and those that have ended
--     ledger roads past          what the events leave in the ledger of a map that was sealed with these roads
--     questions ledger           every question started so far
--     Run m first past s         the events take the map from the state first to s
use Rattle.std.specs.Prelude.{◌≡◌, ℕ, Bool, true, false, cond, List, [], ◌∷◌, length, IfSome, Some, None, Option}
use Rattle.network.specs.Roads.{Roads}
use Rattle.network.specs.Marks.{marked}
use Rattle.network.specs.Changing.{with_set_turn}
use Rattle.measure.specs.Ranks.{Ranks}
use Rattle.navigator.specs.State.{State}
use Rattle.navigator.specs.Calls.{ask_refusal, asked, end_refusal, ended, mark_refusal, marked_so, change_refusal, turned}
use Rattle.navigator.specs.Answers.{Answer, refused, done, least, route, verdict}
use Rattle.navigator.specs.Listing.{route_at}
use Rattle.navigator.specs.Searches.{Next, Trial}

-- What a call was given, its answer, and of next what lay in the lent book before and after it. Of a lent table it is seen how
-- many costs it has.
pub data Event : Type 0 where
  ask : (from to : ℕ) (answer : Answer) → Event
  next : (book : List ℕ) (costs : ℕ) (book' : List ℕ) (answer : Answer) → Event
  trial : (link costs : ℕ) (answer : Answer) → Event
  end : (answer : Answer) → Event
  close : (link : ℕ) (answer : Answer) → Event
  «open» : (link : ℕ) (answer : Answer) → Event
  set_turn : (into out letter extra : ℕ) (answer : Answer) → Event

abbrev pub Step : Ranks → State → Event → State → Type 0
Step m s (ask from to answer) s' = (answer ≡ verdict (ask_refusal s from to)) × (s' ≡ asked s from to)
Step m s (next book costs book' answer) s' = Next m s book costs answer s' book'
Step m s (trial link costs answer) s' = Trial m s link costs answer × (s' ≡ s)
Step m s (end answer) s' = (answer ≡ verdict (end_refusal s)) × (s' ≡ ended s)
Step m s (close link answer) s' = (answer ≡ verdict (mark_refusal s link)) × (s' ≡ marked_so s link true)
Step m s («open» link answer) s' = (answer ≡ verdict (mark_refusal s link)) × (s' ≡ marked_so s link false)
Step m s (set_turn into out letter extra answer) s' =
    (answer ≡ verdict (change_refusal s into out letter extra)) × (s' ≡ turned s into out letter extra)

-- beside its routes, the book as the question's last next left it, if there was one
pub record Started : Type 0 where
  pub roads : Roads
  pub from : ℕ
  pub to : ℕ
  pub handed : List (List ℕ)
  pub book : Option (List ℕ)

pub record Ledger : Type 0 where
  pub roads : Roads
  pub current : Option Started
  pub ended : List Started

abbrev pub with_current : Option Started → List Started → List Started
with_current None ended = ended
with_current (Some q) ended = q ∷ ended

abbrev pub questions : Ledger → List Started
questions l = with_current l.current l.ended

abbrev pub accepted : Answer → Bool
accepted (refused number) = false
accepted done = true
accepted (least rank) = true
accepted (route rank links shared) = true

abbrev pub opened : Roads → (from to : ℕ) → Started
opened roads from to = record { roads = roads; from = from; to = to; handed = []; book = None }

-- an accepted next hands out the links that it writes, without the zeros after them
abbrev pub served : Option Started → List ℕ → Answer → Option Started
served None book' answer = None
served (Some q) book' answer = Some (record {
  roads = q.roads;
  from = q.from;
  to = q.to;
  handed = cond (accepted answer) (route_at book' (length q.handed) ∷ q.handed) q.handed;
  book = Some book';
})

abbrev pub changed : Ledger → Roads → Ledger
changed l roads = record { roads = roads; current = l.current; ended = l.ended }

abbrev pub with_mark : Roads → ℕ → Bool → Roads
with_mark roads link mark = record { plan = roads.plan; marks = marked roads.marks link mark }

abbrev pub with_turn : Roads → (into out letter extra : ℕ) → Roads
with_turn roads into out letter extra = record { plan = with_set_turn roads.plan into out letter extra; marks = roads.marks }

abbrev pub enter : Event → Ledger → Ledger
enter (ask from to answer) l =
    cond (accepted answer) (record { roads = l.roads; current = Some (opened l.roads from to); ended = questions l }) l
enter (next book costs book' answer) l =
    record { roads = l.roads; current = served l.current book' answer; ended = l.ended }
enter (trial link costs answer) l = l
enter (end answer) l = cond (accepted answer) (record { roads = l.roads; current = None; ended = questions l }) l
enter (close link answer) l = cond (accepted answer) (changed l (with_mark l.roads link true)) l
enter («open» link answer) l = cond (accepted answer) (changed l (with_mark l.roads link false)) l
enter (set_turn into out letter extra answer) l =
    cond (accepted answer) (changed l (with_turn l.roads into out letter extra)) l

abbrev pub ledger : Roads → List Event → Ledger
ledger roads [] = record { roads = roads; current = None; ended = [] }
ledger roads (e ∷ past) = enter e (ledger roads past)

-- a next of a question is lent the book as the question's last next left it; nothing else writes it
abbrev pub Lent : Ledger → Event → Type 0
Lent l (ask from to answer) = Unit {0}
Lent l (next book costs book' answer) =
    IfSome l.current (λ q. IfSome q.book (λ left. book ≡ left))
Lent l (trial link costs answer) = Unit {0}
Lent l (end answer) = Unit {0}
Lent l (close link answer) = Unit {0}
Lent l («open» link answer) = Unit {0}
Lent l (set_turn into out letter extra answer) = Unit {0}

abbrev pub Follows : Ranks → State → List Event → State → Event → State → Type 0
Follows m first past s e s' = Step m s e s' × Lent (ledger first.roads past) e

abbrev pub Run : Ranks → State → List Event → State → Type 0
Run m first [] s = s ≡ first
Run m first (e ∷ past) s' = (s : State) × Run m first past s × Follows m first past s e s'
