use Rattle.std.proofs.Common.{refl}
use Rattle.frontier.proofs.Frontiers.{cleared_none, cleared_sound}
use Rattle.frontier.proofs.frontier.Frontier.new.Goals as goal

pub returns : goal.returns
returns c = record { sound = λ ls. cleared_sound _ refl ls; none = cleared_none _ refl }
