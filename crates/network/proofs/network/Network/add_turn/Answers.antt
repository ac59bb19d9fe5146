use Rattle.network.specs.declared.turn.Turn.{Turn}
use Rattle.network.specs.Laid.{plan}
use Rattle.network.proofs.Laws.{lawful, lawful_add_turn, pair_meets}
use Rattle.network.proofs.network.Network.add_turn.Goals as goal

pub invariant_of-self : goal.invariant_of-self
invariant_of-self c =
    let before = plan c.args.self.now in
    let t : Turn = record { into = c.args.into; out = c.args.out; class = c.args.class; extra = c.args.extra } in
    let laws = lawful_add_turn before _ t c.push.ensures (lawful c.args.self.now) c.requires.within
    (pair_meets before c.args.into c.args.out c.requires.pair) c.requires.apart in
    record { few = c.args.self.now.few; sound = laws.0; rising = laws.1.0; marked = laws.1.1.0; meeting = laws.1.1.1.0; apart = laws.1.1.1.1.0 }
