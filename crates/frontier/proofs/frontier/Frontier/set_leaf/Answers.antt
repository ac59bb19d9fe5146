use Rattle.std.proofs.Common.{◌+◌, map, refl, arith}
use Rattle.frontier.proofs.Frontiers.{leaf_written}
use Rattle.frontier.proofs.frontier.Frontier.set_leaf.Goals as goal

pub mend-requires : goal.mend-requires
mend-requires g c =
    let link = c.args.link in
    record {
      inner = omega arith;
      room = c.requires.room;
      mending = leaf_written c.args.self.now _ (1024 + c.place-leaf.result) c.args.holds refl (map g.M.Measure.rank c.args.labels.now) link.number (omega (arith, c.place-leaf.ensures, link.low)) link.low link.high c.requires.own c.requires.sound;
    }
