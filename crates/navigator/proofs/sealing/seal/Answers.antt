use Rattle.std.proofs.Common.{Bool, List, refl, ap₂}
use Rattle.network.specs.declared.network.Network.{Network}
use Rattle.network.specs.Laid.{plan}
use Rattle.navigator.specs.declared.question.Question.TheVariants.{Shut}
use Rattle.navigator.proofs.Law.{law}
use Rattle.navigator.proofs.sealing.seal.Goals as goal

pub returns : goal.returns
returns g c = record {
  town = ap₂ (λ (n : Network) (closed : List Bool). record { roads = record { plan = plan n; marks = closed }; question = Shut }) c.into_network.ensures c.new.ensures;
  measure = refl;
  law = law _ _ refl;
}
