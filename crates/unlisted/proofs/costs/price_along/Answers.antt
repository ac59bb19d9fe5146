use Rattle.std.proofs.Common.{◌≡◌, ℕ, ◌+◌, ◌<◌, ◌≤◌, length, get_or, take, sym, refl, ◌∙◌, ap₂, arith}
use Rattle.std.proofs.ByRecursion.{All-get_or, All-weaker}
use Rattle.network.specs.Plan.{Laid}
use Rattle.network.specs.Laid.{plan}
use Rattle.measure.specs.Cost.{cost}
use Rattle.completion.specs.Onward.{step_from}
use Rattle.unlisted.proofs.Agreeing.{Links}
use Rattle.unlisted.proofs.Pricing.{last_more, cost_more, priced_none, priced_more}
use Rattle.unlisted.proofs.costs.price_along.Goals as goal

pub loop-i-init : goal.loop-i-init
loop-i-init g c = (c.start-cost.ensures, refl, priced_none g.M.Measure.rank (g.M.Measure.ranks c.args.measure.now) (plan c.args.network.now) c.args.links.now c.args.costs.now)

pub cost_after-cost-requires : goal.cost_after-cost-requires
cost_after-cost-requires g c = All-get_or (Laid (plan c.args.network.now).links) c.args.links.now c.loop-i.i 0 (omega arith) c.requires.laid

pub loop-i-preserved : goal.loop-i-preserved
loop-i-preserved g c =
    let links = c.args.links.now in
    let streets = plan c.args.network.now in
    let m = g.M.Measure.ranks c.args.measure.now in
    let i = c.loop-i.i in
    let inside : i < length links = omega arith in
    let some : Links links = All-weaker (Laid streets.links) (λ a. 1 ≤ a) (λ a l. l.0) links c.requires.laid in
    let inv = c.loop-i.invariant in
    let is : g.M.Measure.rank c.cost_after-cost.result ≡ cost m streets (take (i + 1) links) =
    c.cost_after-cost.ensures ∙ ap₂ (λ (x y : ℕ). step_from m streets x y (get_or links i 0)) inv.0 inv.1 ∙ sym (cost_more m streets links i inside some) in
    (is, sym (last_more m streets links i inside), priced_more g.M.Measure.rank m streets links c.loop-i.costs i c.cost_after-cost.result (omega arith) inv.2 is)

pub returns : goal.returns
returns g c = record { room = omega (arith, c.requires.room); each = λ k h. c.loop-i.invariant.2 k (omega arith) }
