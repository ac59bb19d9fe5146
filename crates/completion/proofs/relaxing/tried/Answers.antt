use Rattle.std.proofs.Common.{ℕ, sym, refl, ap, ◌∙◌, subst, arith}
use Rattle.std.proofs.lemmas.Bool.{ltb-true, ltb-false}
use Rattle.network.proofs.Laws.{links_few}
use Rattle.completion.specs.Onward.{setting, open_turn, graph}
use Rattle.completion.specs.View.{view, Tried}
use Rattle.completion.proofs.Views.{label_at, depth_at, settled_at}
use Rattle.completion.proofs.Tries.{fine_blocked, fine_settled, fine_barred, on_is, fine_dear, fine_known, better}
use Rattle.completion.proofs.relaxing.tried.Goals as goal
use Rattle.completion.proofs.relaxing.tried.Goals.{then-is_blocked-via-then-is_blocked, then-is_blocked-via-else-is_blocked+then-has}
use Rattle.completion.proofs.relaxing.tried.Goals.{else-known-via-then-known+else-not-is_cheaper, else-known-via-else-known}

pub returns-then-is_blocked : goal.returns-then-is_blocked
returns-then-is_blocked g c =
    let rank = g.M.Measure.rank in
    let m = g.M.Measure.ranks c.args.quest.now.measure.now in
    let s = setting rank c.args.quest.now in
    let st = view rank s.cost c.args.search.now.frontier.labels.costs.now c.args.search.now.tree in
    elim c.then-is_blocked.branch [
      | then-is_blocked-via-then-is_blocked w ↦
          fine_blocked m s st c.args.stand.number c.args.next.number (sym (c.is_blocked.ensures) ∙ w.if-is_blocked.true)
      | then-is_blocked-via-else-is_blocked+then-has w ↦
          fine_settled m s st c.args.stand.number c.args.next.number
          (settled_at rank s.cost c.args.search.now.frontier.labels.costs.now c.args.search.now.tree c.args.next.number w.from.result c.args.next.low w.from.ensures
          ∙ sym w.has.ensures ∙ w.if-has.true)
    ]

pub returns-in_err-cost : goal.returns-in_err-cost
returns-in_err-cost g c =
    let rank = g.M.Measure.rank in
    let m = g.M.Measure.ranks c.args.quest.now.measure.now in
    let s = setting rank c.args.quest.now in
    let st = view rank s.cost c.args.search.now.frontier.labels.costs.now c.args.search.now.tree in
    subst (λ r. Tried rank (graph m s) st c.args.stand.number c.args.next.number r) (sym c.from_residual.ensures)
    (fine_barred m s st c.args.stand.number c.args.next.number (ap (λ (a : ℕ). open_turn s.plan a c.args.next.number) (sym c.requires.stands.after) ∙ c.in_err-cost.ensures))

pub returns-then-is_dear : goal.returns-then-is_dear
returns-then-is_dear g c =
    let rank = g.M.Measure.rank in
    let m = g.M.Measure.ranks c.args.quest.now.measure.now in
    let s = setting rank c.args.quest.now in
    let st = view rank s.cost c.args.search.now.frontier.labels.costs.now c.args.search.now.tree in
    let e = on_is m s st c.args.stand.number c.args.next.number c.args.stand.after (rank c.args.stand.cost) (rank c.in_ok-cost.cost)
    c.requires.stands.after c.requires.stands.label c.in_ok-cost.ensures.1 in
    fine_dear m s st c.args.stand.number c.args.next.number (rank c.in_ok-cost.cost) e (sym c.is_dear.ensures ∙ c.if-is_dear.true)

pub returns-then-not-is_cheaper : goal.returns-then-not-is_cheaper
returns-then-not-is_cheaper g c =
    let rank = g.M.Measure.rank in
    let m = g.M.Measure.ranks c.args.quest.now.measure.now in
    let s = setting rank c.args.quest.now in
    let st = view rank s.cost c.args.search.now.frontier.labels.costs.now c.args.search.now.tree in
    let some = c.args.next.low in
    let e = on_is m s st c.args.stand.number c.args.next.number c.args.stand.after (rank c.args.stand.cost) (rank c.in_ok-cost.cost)
    c.requires.stands.after c.requires.stands.label c.in_ok-cost.ensures.1 in
    let known = label_at rank s.cost c.args.search.now.frontier.labels.costs.now c.args.search.now.tree c.args.next.number c.args.next.number c.label.result some refl (omega (arith, links_few c.args.quest.now.network.now, c.requires.laid.1)) c.label.ensures in
    let deep = depth_at rank s.cost c.args.search.now.frontier.labels.costs.now c.args.search.now.tree c.args.next.number c.place.result some c.place.ensures in
    let low = ltb-false _ _ (sym c.if-not-is_cheaper.ensures) in
    fine_known m s st c.args.stand.number c.args.next.number (rank c.in_ok-cost.cost) e (omega (arith, deep, c.if-known.true)) (omega (arith, known, low))

pub returns : goal.returns
returns g c =
    let rank = g.M.Measure.rank in
    let m = g.M.Measure.ranks c.args.quest.now.measure.now in
    let s = setting rank c.args.quest.now in
    let labels = c.args.search.now.frontier.labels.costs.now in
    let tree = c.args.search.now.tree in
    let st = view rank s.cost labels tree in
    let some = c.args.next.low in
    let e = on_is m s st c.args.stand.number c.args.next.number c.args.stand.after (rank c.args.stand.cost) (rank c.in_ok-cost.cost)
    c.requires.stands.after c.requires.stands.label c.in_ok-cost.ensures.1 in
    let deep = depth_at rank s.cost labels tree c.args.next.number c.place.result some c.place.ensures in
    better m s st c.args.stand.number c.args.next.number (rank c.in_ok-cost.cost) c.requires.laid c.requires.starts
    (sym (c.is_blocked.ensures) ∙ c.if-is_blocked.false)
    (ap (λ (a : ℕ). open_turn s.plan a c.args.next.number) (sym c.requires.stands.after) ∙ c.in_ok-cost.ensures.0)
    (settled_at rank s.cost labels tree c.args.next.number c.from.result some c.from.ensures ∙ sym c.has.ensures ∙ c.if-has.false)
    e (sym c.is_dear.ensures ∙ c.if-is_dear.false)
    (λ h. elim c.else-known.branch [
      | else-known-via-then-known+else-not-is_cheaper w ↦
          (let known = label_at rank s.cost labels tree c.args.next.number c.args.next.number w.label.result some refl (omega (arith, links_few c.args.quest.now.network.now, c.requires.laid.1)) w.label.ensures in
          omega (arith, known, ltb-true _ _ (sym w.if-not-is_cheaper.ensures)))
      | else-known-via-else-known w ↦ absurd (omega (arith, deep, h, w.if-known.false))
    ])
