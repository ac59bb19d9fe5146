use Rattle.std.proofs.Common.{◌≡◌, ◌+◌, length, count_by, Option, sym, refl, ap, ◌∙◌, subst, arith}
use Rattle.std.specs.Option.{option_map}
use Rattle.frontier.specs.declared.linknumber.LinkNumber.{LinkNumber}
use Rattle.network.specs.declared.linkset.LinkSet.{LinkSet}
use Rattle.network.specs.Marks.{marks}
use Rattle.network.specs.Plan.{link}
use Rattle.completion.specs.Onward.{setting, graph}
use Rattle.completion.specs.View.{view, tally, Ends}
use Rattle.completion.proofs.Graphs.{graph_laws}
use Rattle.completion.proofs.Reaches.{end_read}
use Rattle.completion.proofs.Views.{tally_few}
use Rattle.completion.proofs.Settling.{growing_same, nothing_left, inside, ends_best, tally_more, settled_growing, settled_late, settled_stands}
use Rattle.completion.proofs.growing.grow.Goals as goal

pub loop-link-init : goal.loop-link-init
loop-link-init g c = (0, c.set_out.ensures)

pub returns-in_err-link : goal.returns-in_err-link
returns-in_err-link g c =
    let rank = g.M.Measure.rank in
    let m = g.M.Measure.ranks c.args.quest.now.measure.now in
    let s = setting rank c.args.quest.now in
    let law = graph_laws m (g.M.Measure.lawful c.args.quest.now.measure.now) s in
    let inv = c.loop-link.invariant in
    let took = c.in_err-link.ensures in
    let labels = c.take_least.new.self.labels.costs.now in
    let tree = c.loop-link.search.tree in
    let nodes = c.loop-link.search.frontier.nodes in
    let w = growing_same rank (graph m s) inv.0 (length s.plan.links + 1) s.cost c.loop-link.search.frontier.labels.costs.now labels tree nodes took.labels inv.1 in
    record {
      ends = subst (λ (r : Option LinkNumber). Ends (graph m s) (view rank s.cost labels tree) (option_map (λ link. link.number) r)) (sym c.from_residual.ensures) (nothing_left rank m s law labels tree nodes inv.0 w took.takes.0);
      inv = (inv.0, w.inv);
    }

pub bounds-links-at : goal.bounds-links-at
bounds-links-at g c =
    let rank = g.M.Measure.rank in
    let m = g.M.Measure.ranks c.args.quest.now.measure.now in
    let s = setting rank c.args.quest.now in
    let law = graph_laws m (g.M.Measure.lawful c.args.quest.now.measure.now) s in
    let inv = c.loop-link.invariant in
    let took = c.in_ok-link.ensures in
    let labels = c.take_least.new.self.labels.costs.now in
    let tree = c.loop-link.search.tree in
    let nodes = c.loop-link.search.frontier.nodes in
    let w = growing_same rank (graph m s) inv.0 (length s.plan.links + 1) s.cost c.loop-link.search.frontier.labels.costs.now labels tree nodes took.labels inv.1 in
    let in_t = inside rank m s law labels tree nodes inv.0 w c.in_ok-link.link.number took.takes.least in
    omega (arith, in_t.0, in_t.1, c.place-at.ensures, ap length c.links.ensures)

pub returns-then-end-quest : goal.returns-then-end-quest
returns-then-end-quest g c =
    let rank = g.M.Measure.rank in
    let m = g.M.Measure.ranks c.args.quest.now.measure.now in
    let s = setting rank c.args.quest.now in
    let law = graph_laws m (g.M.Measure.lawful c.args.quest.now.measure.now) s in
    let inv = c.loop-link.invariant in
    let took = c.in_ok-link.ensures in
    let labels = c.take_least.new.self.labels.costs.now in
    let tree = c.loop-link.search.tree in
    let nodes = c.loop-link.search.frontier.nodes in
    let w = growing_same rank (graph m s) inv.0 (length s.plan.links + 1) s.cost c.loop-link.search.frontier.labels.costs.now labels tree nodes took.labels inv.1 in
    let t = c.in_ok-link.link.number in
    let in_t = inside rank m s law labels tree nodes inv.0 w t took.takes.least in
    let end : (link s.plan.links t).end ≡ s.to = end_read s.plan.links c.links.result.now t c.place-at.result in_t.0 c.place-at.ensures c.links.ensures ∙ c.if-end-quest.true in
    record { ends = ends_best rank m s law labels tree nodes inv.0 w t took.takes.least end; inv = (inv.0, w.inv) }

pub relax_from-requires : goal.relax_from-requires
relax_from-requires g c =
    let rank = g.M.Measure.rank in
    let m = g.M.Measure.ranks c.args.quest.now.measure.now in
    let s = setting rank c.args.quest.now in
    let law = graph_laws m (g.M.Measure.lawful c.args.quest.now.measure.now) s in
    let inv = c.loop-link.invariant in
    let took = c.in_ok-link.ensures in
    let labels = c.take_least.new.self.labels.costs.now in
    let tree = c.loop-link.search.tree in
    let nodes = c.loop-link.search.frontier.nodes in
    let w = growing_same rank (graph m s) inv.0 (length s.plan.links + 1) s.cost c.loop-link.search.frontier.labels.costs.now labels tree nodes took.labels inv.1 in
    let t = c.in_ok-link.link.number in
    let least = took.takes.least in
    let done = c.settle.ensures in
    let in_t = inside rank m s law labels tree nodes inv.0 w t least in
    let node = end_read s.plan.links c.links.result.now t c.place-at.result in_t.0 c.place-at.ensures c.links.ensures in
    let on : (link s.plan.links t).end ≡ s.to → ⊥ = λ e. c.if-end-quest.false (sym node ∙ e) in
    record {
      stands = settled_stands rank m s law labels tree nodes inv.0 w t least c.settle.new.self least.high on done.settled done.steps _ refl refl (sym node)
          c.take_least.new.self.labels.room c.label.ensures c.place-at.result c.place-at.ensures refl;
      growing = settled_growing rank m s law labels tree nodes inv.0 w t least c.settle.new.self least.high on done.settled done.steps c.take_least.new.self.nodes took.takes.gone;
      late = settled_late rank m s law labels tree nodes inv.0 w t least c.settle.new.self least.high on done.settled done.steps;
    }

pub loop-link-preserved : goal.loop-link-preserved
loop-link-preserved g c = (c.in_ok-link.link.number, c.relax_from.ensures.growing)

pub loop-link-smaller : goal.loop-link-smaller
loop-link-smaller g c =
    let rank = g.M.Measure.rank in
    let m = g.M.Measure.ranks c.args.quest.now.measure.now in
    let s = setting rank c.args.quest.now in
    let law = graph_laws m (g.M.Measure.lawful c.args.quest.now.measure.now) s in
    let inv = c.loop-link.invariant in
    let took = c.in_ok-link.ensures in
    let labels = c.take_least.new.self.labels.costs.now in
    let tree = c.loop-link.search.tree in
    let nodes = c.loop-link.search.frontier.nodes in
    let w = growing_same rank (graph m s) inv.0 (length s.plan.links + 1) s.cost c.loop-link.search.frontier.labels.costs.now labels tree nodes took.labels inv.1 in
    let t = c.in_ok-link.link.number in
    let least = took.takes.least in
    let in_t = inside rank m s law labels tree nodes inv.0 w t least in
    let node = end_read s.plan.links c.links.result.now t c.place-at.result in_t.0 c.place-at.ensures c.links.ensures in
    let on : (link s.plan.links t).end ≡ s.to → ⊥ = λ e. c.if-end-quest.false (sym node ∙ e) in
    let more = tally_more rank m s law labels tree nodes inv.0 w t least c.settle.new.self least.high on c.settle.ensures.settled c.settle.ensures.steps in
    let same : tally c.relax_from.new.search.tree ≡ tally c.settle.new.self = ap (λ (x : LinkSet). count_by (λ b. b) (marks x)) c.relax_from.ensures.settled in
    omega (arith, more, same, tally_few rank s.cost c.settle.new.self)
