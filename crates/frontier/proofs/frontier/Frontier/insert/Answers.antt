use Rattle.frontier.proofs.Frontiers.{put_in}
use Rattle.frontier.proofs.frontier.Frontier.insert.Goals as goal

pub returns : goal.returns
returns g c = record {
  sound = c.set_leaf.ensures.sound;
  waiting = put_in c.args.self.now _ c.args.link.number c.args.link.low c.set_leaf.ensures.here c.set_leaf.ensures.others;
}
