use Rattle.std.proofs.Common.{ℕ, ◌+◌, refl, ◌∙◌, subst, arith}
use Rattle.network.specs.Laid.{plan}
use Rattle.completion.specs.Growth.{Relaxed}
use Rattle.completion.specs.Onward.{setting, graph}
use Rattle.completion.specs.View.{state}
use Rattle.completion.proofs.Graphs.{graph_laws}
use Rattle.completion.proofs.Reaches.{between, growing_first, growing_all, stands_kept, growing_more}
use Rattle.completion.proofs.relaxing.relax_from.Goals as goal

pub loop-place-init : goal.loop-place-init
loop-place-init g c =
    let rank = g.M.Measure.rank in
    let m = g.M.Measure.ranks c.args.quest.now.measure.now in
    let s = setting rank c.args.quest.now in (
      refl,
      c.requires.stands,
      growing_first m s rank s.cost c.args.stand.number c.args.search.now.frontier.labels.costs.now c.args.search.now.tree c.args.search.now.frontier.nodes c.from-node.result c.links_below-first.result
          (c.from-node.ensures ∙ c.requires.stands.node) c.links_below-first.ensures c.requires.growing,
      c.requires.late,
    )

pub relax_one-requires : goal.relax_one-requires
relax_one-requires g c =
    let links = (plan c.args.quest.now.network.now).links in
    let at = between links c.from-node.result c.links_below-first.result c.links_below-end.result c.loop-place.place c.at.result.number
    c.links_below-first.ensures c.links_below-end.ensures (omega arith) c.loop-place-test.true c.at.ensures in
    record {
      laid = at.0;
      starts = at.1 ∙ c.from-node.ensures ∙ c.loop-place.invariant.1.node;
      stands = c.loop-place.invariant.1;
      ready = c.loop-place.invariant.2.ready;
    }

pub loop-place-preserved : goal.loop-place-preserved
loop-place-preserved g c =
    let rank = g.M.Measure.rank in
    let m = g.M.Measure.ranks c.args.quest.now.measure.now in
    let s = setting rank c.args.quest.now in
    let law = graph_laws m (g.M.Measure.lawful c.args.quest.now.measure.now) s in
    let inv = c.loop-place.invariant in
    let done = c.relax_one.ensures in
    let relaxed = subst (λ (n : ℕ). Relaxed (graph m s) c.args.stand.number n (state rank c.args.quest.now c.loop-place.search) (state rank c.args.quest.now c.relax_one.new.search)) c.at.ensures done.relaxed in
    let more = growing_more rank m s c.loop-place.search.frontier.labels.costs.now c.relax_one.new.search.frontier.labels.costs.now c.loop-place.search.tree c.relax_one.new.search.tree c.args.stand (c.loop-place.place + 1)
    c.loop-place.search.frontier.nodes c.relax_one.new.search.frontier.nodes law done.settled inv.2 inv.3 relaxed done.ready in (
      done.settled ∙ inv.0,
      stands_kept rank m s c.loop-place.search.frontier.labels.costs.now c.relax_one.new.search.frontier.labels.costs.now c.loop-place.search.tree c.relax_one.new.search.tree c.args.stand (c.loop-place.place + 1)
          inv.1 inv.3 relaxed,
      more.0,
      more.1,
    )

pub returns : goal.returns
returns g c =
    let rank = g.M.Measure.rank in
    let m = g.M.Measure.ranks c.args.quest.now.measure.now in
    let s = setting rank c.args.quest.now in
    let inv = c.loop-place.invariant in
    record {
      growing = growing_all m s rank s.cost c.args.stand.number c.loop-place.search.frontier.labels.costs.now c.loop-place.search.tree c.loop-place.search.frontier.nodes c.from-node.result c.links_below-end.result c.loop-place.place
          (c.from-node.ensures ∙ c.requires.stands.node) c.links_below-end.ensures c.loop-place-test.false inv.2;
      settled = inv.0;
    }
