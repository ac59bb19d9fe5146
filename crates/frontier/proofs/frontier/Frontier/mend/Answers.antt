use Rattle.std.proofs.Common.{map, refl, ◌∙◌, arith}
use Rattle.std.proofs.lemmas.List.{get_or-set_other}
use Rattle.frontier.proofs.Frontiers.{winner_written}
use Rattle.frontier.proofs.frontier.Frontier.mend.Goals as goal

pub loop-node-preserved : goal.loop-node-preserved
loop-node-preserved g c =
    let f = c.loop-node.self in
    let node = c.loop-node.node in
    let cheaper = c.cheaper_below-cheaper.result in (
      omega arith,
      winner_written f _ node cheaper refl (map g.M.Measure.rank c.args.labels.now) (omega arith) c.loop-node.invariant.0 c.cheaper_below-cheaper.ensures c.loop-node.invariant.1,
      λ k l. get_or-set_other f.nodes node k cheaper 0 (λ e. omega arith) ∙ c.loop-node.invariant.2 k l,
    )
