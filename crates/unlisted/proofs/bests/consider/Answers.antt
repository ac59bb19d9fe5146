use Rattle.std.proofs.Common.{sym, refl, ap, ◌∙◌, inl, inr}
use Rattle.std.proofs.lemmas.Bool.{not-true, not-false}
use Rattle.routing.specs.Lent.{lent}
use Rattle.completion.specs.Onward.{too_dear}
use Rattle.unlisted.specs.Best.{price}
use Rattle.unlisted.proofs.Improving.{begins_passable, itself_none, itself_better}
use Rattle.completion.proofs.Facts.{begins_held}
use Rattle.unlisted.proofs.bests.consider.Goals.{then-taken-via-then-taken, then-taken-via-else-taken+then-not-ends_at, then-taken-via-else-taken+else-not-ends_at+then-not-is_better}
use Rattle.unlisted.proofs.bests.consider.Goals as goal

pub ends_at-requires : goal.ends_at-requires
ends_at-requires g c = begins_passable (lent c.args.departure.now.trip.roads) c.args.departure.now.trip.from c.args.departure.now.beginning.links.now (begins_held (lent c.args.departure.now.trip.roads) c.args.departure.now.trip.from c.args.departure.now.beginning.links.now c.args.departure.now.begins)

pub returns-then-taken : goal.returns-then-taken
returns-then-taken g c =
    let rank = g.M.Measure.rank in
    let m = g.M.Measure.ranks c.args.departure.now.measure.now in
    let roads = lent c.args.departure.now.trip.roads in
    let p = c.args.departure.now.beginning.links.now in
    itself_none rank m roads c.args.departure.now.trip.from c.args.departure.now.trip.to p c.args.best c.args.line.now c.args.taken
    (elim c.then-taken.branch [
      | then-taken-via-then-taken w ↦ inl w.if-taken.true
      | then-taken-via-else-taken+then-not-ends_at w ↦ inr (inl (sym w.ends_at.ensures ∙ w.if-not-ends_at.true))
      | then-taken-via-else-taken+else-not-ends_at+then-not-is_better w ↦
          inr (inr (ap (too_dear (price rank c.args.best)) (sym c.args.departure.now.priced) ∙ not-false _ (sym w.is_better.ensures ∙ w.if-not-is_better.true)))
    ])

pub returns : goal.returns
returns g c =
    itself_better g.M.Measure.rank (g.M.Measure.ranks c.args.departure.now.measure.now) (lent c.args.departure.now.trip.roads) c.args.departure.now.trip.from c.args.departure.now.trip.to c.args.departure.now.beginning.links.now c.args.best c.args.line.now
    c.args.taken (record { cost = c.args.departure.now.beginning.cost; count = _ }) c.write_line.new.line (begins_held (lent c.args.departure.now.trip.roads) c.args.departure.now.trip.from c.args.departure.now.beginning.links.now c.args.departure.now.begins)
    (sym c.ends_at.ensures ∙ c.if-not-ends_at.false) c.if-taken.false
    (not-true _ (sym c.is_better.ensures ∙ c.if-not-is_better.false)) c.args.departure.now.priced refl c.write_line.ensures
