use Rattle.std.proofs.Common.{ℕ, ◌-◌, Bool, true, false, eqb, List, length, get_or, take, drop, sym, ap, ◌∙◌, ap₂, arith}
use Rattle.network.specs.declared.link.Link.{Link}
use Rattle.network.specs.Marks.{marked}
use Rattle.network.proofs.Laws.{links_few}
use Rattle.routing.specs.Lent.{lent}
use Rattle.routing.proofs.Testing.{walk_starts, walk_goes_on, walk_stops, walk_ends, decided}
use Rattle.routing.proofs.roads.Trip.is_route.Goals as goal

pub loop-number-init : goal.loop-number-init
loop-number-init c =
    walk_starts _ _ _ _ _ (c.is_passable.ensures.laid c.if-not-is_passable.false)
    (c.add.ensures ∙ ap₂ (λ (ms : List Bool) (n : ℕ). marked ms n true) c.new-seen.ensures c.from.ensures)

pub returns-then-not-may_go_on : goal.returns-then-not-may_go_on
returns-then-not-may_go_on c =
    decided (lent c.args.self.roads) c.args.self.from c.args.self.to c.args.links.now false c.in-len1-up.len_at_least
    (sym c.is_passable.ensures.test ∙ c.if-not-is_passable.false)
    (ap (λ (l : Link). l.start) (sym c.link.ensures) ∙ c.if-link-self.false)
    (walk_stops _ _ _ _ _ _ _ c.loop-number.invariant c.loop-number-test.true (links_few c.args.self.roads.network.now)
    (sym c.may_go_on.ensures ∙ c.if-not-may_go_on.true))

pub loop-number-preserved : goal.loop-number-preserved
loop-number-preserved c =
    let rest = take (length c.args.links.now - 1) (drop 1 c.args.links.now) in
    let b = get_or rest c.loop-number.number-index 0 in
    rw (c.add-in-loop-number.ensures, c.from-in-loop-number.ensures)
    (walk_goes_on _ _ _ rest _ _ _ c.loop-number.invariant c.loop-number-test.true (links_few c.args.self.roads.network.now)
    (sym c.may_go_on.ensures ∙ c.if-not-may_go_on.false))

pub returns : goal.returns
returns c =
    let roads = lent c.args.self.roads in
    let rest = take (length c.args.links.now - 1) (drop 1 c.args.links.now) in
    decided roads c.args.self.from c.args.self.to c.args.links.now _ c.in-len1-up.len_at_least
    (sym c.is_passable.ensures.test ∙ c.if-not-is_passable.false)
    (ap (λ (l : Link). l.start) (sym c.link.ensures) ∙ c.if-link-self.false)
    (walk_ends roads c.args.self.to _ rest _ _ _ c.loop-number.invariant (omega arith)
    ∙ ap (λ (l : Link). eqb l.end c.args.self.to) (sym c.link-2.ensures))
