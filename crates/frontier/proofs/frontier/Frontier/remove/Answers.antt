use Rattle.frontier.proofs.Frontiers.{taken_out}
use Rattle.frontier.proofs.frontier.Frontier.remove.Goals as goal

pub returns : goal.returns
returns g c = record {
  sound = c.set_leaf.ensures.sound;
  waiting = taken_out c.args.self.now _ c.args.link.number c.set_leaf.ensures.here c.set_leaf.ensures.others;
}
