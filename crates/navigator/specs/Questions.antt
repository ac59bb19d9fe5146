-- The question of a sealed map, and which calls it lets through.
--     question_refusal question call    the refusal that the question's state gives a call, if it gives one
--     origin, destination, listed       of an open question: its nodes, and how many routes are listed; 0 of a shut one
--     one_more question                 the question with one more route listed
use Rattle.std.specs.Prelude.{ℕ, ◌+◌, Some, None, Option}
use Rattle.navigator.specs.declared.question.Question.{Question}
use Rattle.navigator.specs.declared.question.Question.TheVariants.{Shut, Open}
use Rattle.navigator.specs.declared.question.Call.{Call}
use Rattle.navigator.specs.declared.question.Call.TheVariants.{Ask, Next, Trial, End, Change}

abbrev pub question_refusal : Question → Call → Option ℕ
question_refusal Shut Ask = None
question_refusal Shut Change = None
question_refusal Shut Next = Some 12
question_refusal Shut Trial = Some 12
question_refusal Shut End = Some 12
question_refusal (Open from to listed) Ask = Some 11
question_refusal (Open from to listed) Change = Some 11
question_refusal (Open from to listed) Next = None
question_refusal (Open from to listed) Trial = None
question_refusal (Open from to listed) End = None

abbrev pub origin : Question → ℕ
origin Shut = 0
origin (Open from to listed) = from

abbrev pub destination : Question → ℕ
destination Shut = 0
destination (Open from to listed) = to

abbrev pub listed : Question → ℕ
listed Shut = 0
listed (Open from to count) = count

abbrev pub one_more : Question → Question
one_more Shut = Shut
one_more (Open from to count) = Open from to (count + 1)
