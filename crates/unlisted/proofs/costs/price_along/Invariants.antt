use Rattle.std.proofs.Common.{◌≡◌, take}
use Rattle.network.specs.Laid.{plan}
use Rattle.measure.specs.Cost.{cost}
use Rattle.routing.specs.Route.{last_of}
use Rattle.unlisted.proofs.Pricing.{PricedTo}
use Rattle.unlisted.proofs.costs.price_along.Given as goal

abbrev pub invariant-loop-i : goal.invariant-loop-i
invariant-loop-i g l =
    (g.M.Measure.rank l.cost ≡ cost (g.M.Measure.ranks l.measure) (plan l.network) (take l.i l.links))
    × (l.before ≡ last_of 0 (take l.i l.links))
    × PricedTo g.M.Measure.rank (g.M.Measure.ranks l.measure) (plan l.network) l.links l.costs l.i
