use Rattle.frontier.proofs.Frontiers.{root_found}
use Rattle.frontier.proofs.frontier.Frontier.least.Goals as goal

pub returns : goal.returns
returns c ls sound = root_found ls c.args.self.now sound c.of.result c.of.ensures
