use Rattle.std.proofs.Common.{ℕ, ◌+◌, ap, subst, inr, arith}
use Rattle.completion.specs.Growth.{Put}
use Rattle.completion.specs.View.{view}
use Rattle.completion.proofs.Views.{put_view, put_ready}
use Rattle.completion.proofs.relaxing.relax_one.Goals as goal

pub returns-in-Some : goal.returns-in-Some
returns-in-Some g c =
    let rank = g.M.Measure.rank in
    let begin = rank c.args.quest.now.cost in
    let next = c.args.next in
    let st = view rank begin c.args.search.now.frontier.labels.costs.now c.args.search.now.tree in
    let now = view rank begin c.relabel.new.self.labels.costs.now c.put.new.self in
    let better = c.in-Some.ensures in
    let room = c.args.search.now.frontier.labels.room in
    let deeper = ap (λ (d : ℕ). d + 1) c.requires.stands.depth in
    let p = put_view rank begin c.args.search.now.frontier.labels.costs.now c.args.search.now.tree c.relabel.new.self.labels.costs.now c.put.new.self next.number c.in-Some.cost (record { depth = c.args.stand.depth + 1; before = c.args.stand.number })
    next.low next.high room c.relabel.ensures.labels c.put.ensures.steps c.put.ensures.settled in
    record {
      relaxed = inr (
        rank c.in-Some.cost,
        better,
        subst (λ (d : ℕ). Put next.number (rank c.in-Some.cost) d c.args.stand.number st now) deeper p,
      );
      ready = put_ready rank begin c.args.search.now.frontier.labels.costs.now c.args.search.now.tree c.relabel.new.self.labels.costs.now c.put.new.self next.number c.in-Some.cost (record { depth = c.args.stand.depth + 1; before = c.args.stand.number })
          next.low next.high room c.relabel.ensures.labels c.put.ensures.steps c.put.ensures.settled
          c.args.search.now.frontier.nodes c.relabel.new.self.nodes (omega arith) better.left c.requires.ready c.relabel.ensures.waiting;
      settled = c.put.ensures.settled;
    }
