use Rattle.std.proofs.Common.{arith}
use Rattle.std.proofs.lemmas.List.{length-take-le}
use Rattle.unlisted.proofs.Outset.{cleared}
use Rattle.unlisted.proofs.cheapest.cheapest_unlisted.Goals as goal

pub returns : goal.returns
returns g c = record {
  finds = c.find_unlisted-found.ensures;
  table = cleared g.M.Measure.rank (g.M.Measure.ranks c.args.measure.now) c.args.table.now c.find_unlisted-found.new.table c.clear.new.costs
      (omega (arith, c.find_unlisted-found.auto.table, length-take-le 2048 c.args.table.now c.requires.room)) c.clear.ensures;
}
