use Rattle.std.proofs.Common.{length, refl, ap, arith}
use Rattle.network.proofs.Chains.{indexed_none}
use Rattle.network.proofs.turntable.TurnTable.new.Goals as goal

pub invariant_of-result : goal.invariant_of-result
invariant_of-result c =
    let x = indexed_none _ 1025 2049 c.new.ensures in
    record { headed = refl; chained = refl; few = omega (arith, ap length c.new.ensures); head = x.0; held = x.1.0; latest = x.1.1.0; back = x.1.1.1.0; kept = x.1.1.1.1.0; between = x.1.1.1.1.1.0 }
