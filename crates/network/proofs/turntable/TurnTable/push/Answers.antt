use Rattle.std.proofs.Common.{◌+◌, get_or, set, ◌∙◌, arith, length-set}
use Rattle.network.proofs.Chains.{Indexed, indexed_push}
use Rattle.network.proofs.turntable.TurnTable.push.Goals as goal

pub invariant_of-self : goal.invariant_of-self
invariant_of-self c =
    let s = c.args.self.now in
    let ts = s.entries.items in
    let t = c.args.turn in
    let number = c.len-number.result + 1 in
    let into = c.from-into.result in
    let x : Indexed c.push.new.self.items (set s.heads into number) (set s.nexts number (get_or s.heads into 0)) =
    rw (c.from-into.ensures, c.len-number.ensures.value)
    (indexed_push ts t s.heads s.nexts s.headed s.chained c.requires.0 c.requires.1
    (s.head, (s.held, (s.latest, (s.back, (s.kept, (s.between, tt)))))) c.push.new.self.items c.push.ensures.items)
    in
    record {
      headed = length-set s.heads into _ ∙ s.headed;
      chained = length-set s.nexts _ (get_or s.heads into 0) ∙ s.chained;
      few = omega (arith, c.push.ensures.len, c.requires.0);
      head = x.0;
      held = x.1.0;
      latest = x.1.1.0;
      back = x.1.1.1.0;
      kept = x.1.1.1.1.0;
      between = x.1.1.1.1.1.0;
    }
