-- What stands on a sealed map, whatever its measure.
--     State          the roads: the plan that was laid and a closed mark for each link; and the question
--     state town     the state that a town of the code holds
--     sealed plan    a plan just sealed: every link open, and no question
use Rattle.std.specs.Prelude.{false, replicate}
use Rattle.network.specs.Plan.{Plan}
use Rattle.network.specs.Roads.{Roads}
use Rattle.network.specs.Laid.{plan}
use Rattle.network.specs.Marks.{marks}
use Rattle.navigator.specs.declared.question.Question.{Question}
use Rattle.navigator.specs.declared.question.Question.TheVariants.{Shut}
use Rattle.navigator.specs.declared.town.Town.{Town}

pub record State : Type 0 where
  pub roads : Roads
  pub question : Question

abbrev pub state : Town → State
state town = record { roads = record { plan = plan town.network; marks = marks town.closed }; question = town.question }

abbrev pub sealed : Plan → State
sealed laid = record { roads = record { plan = laid; marks = replicate 1024 false }; question = Shut }
