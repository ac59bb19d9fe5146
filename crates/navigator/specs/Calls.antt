-- What each call to a sealed map answers, and what it leaves, for every input: by its rows of refusals, in their order.
--     ask_refusal, asked          a question from a node to a node, with no routes listed
--     end_refusal, ended          the question shut
--     mark_refusal, marked_so     the mark of one link, for close and for open
--     change_refusal, turned      the turn of a pair
use Rattle.std.specs.Prelude.{ℕ, Bool, not, ◌||◌, [], ◌∷◌, Some, None, Option}
use Rattle.network.specs.Plan.{laid}
use Rattle.network.specs.Marks.{marked}
use Rattle.network.specs.Refusals.{row, first_refusal}
use Rattle.network.specs.Laying.{outside, unless}
use Rattle.network.specs.Changing.{set_turn_refusal, with_set_turn}
use Rattle.navigator.specs.declared.question.Question.TheVariants.{Shut, Open}
use Rattle.navigator.specs.declared.question.Call.TheVariants.{Ask, End, Change}
use Rattle.navigator.specs.Questions.{question_refusal}
use Rattle.navigator.specs.State.{State}

-- the first refusal, or the second where there is no first
abbrev pub or_else : Option ℕ → Option ℕ → Option ℕ
or_else None later = later
or_else (Some n) later = Some n

abbrev pub ask_refusal : State → (from to : ℕ) → Option ℕ
ask_refusal s from to = or_else (question_refusal s.question Ask) (first_refusal (row 2 (outside from || outside to) ∷ []))

abbrev pub asked : State → (from to : ℕ) → State
asked s from to = unless (ask_refusal s from to) s (record { roads = s.roads; question = Open from to 0 })

abbrev pub end_refusal : State → Option ℕ
end_refusal s = question_refusal s.question End

abbrev pub ended : State → State
ended s = unless (end_refusal s) s (record { roads = s.roads; question = Shut })

abbrev pub mark_refusal : State → (link : ℕ) → Option ℕ
mark_refusal s link =
    or_else (question_refusal s.question Change) (first_refusal (row 6 (not (laid s.roads.plan.links link)) ∷ []))

abbrev pub marked_so : State → (link : ℕ) → Bool → State
marked_so s link mark =
    unless (mark_refusal s link) s
    (record { roads = record { plan = s.roads.plan; marks = marked s.roads.marks link mark }; question = s.question })

abbrev pub change_refusal : State → (into out letter extra : ℕ) → Option ℕ
change_refusal s into out letter extra =
    or_else (question_refusal s.question Change) (set_turn_refusal s.roads.plan into out letter extra)

abbrev pub turned : State → (into out letter extra : ℕ) → State
turned s into out letter extra =
    unless (change_refusal s into out letter extra) s
    (record { roads = record { plan = with_set_turn s.roads.plan into out letter extra; marks = s.roads.marks }; question = s.question })
