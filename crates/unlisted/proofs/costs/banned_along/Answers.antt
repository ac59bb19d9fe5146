use Rattle.std.proofs.Common.{ℕ, ◌+◌, Bool, true, List, take, sym, ap, ◌∙◌, subst, arith}
use Rattle.std.proofs.lemmas.List.{take_all}
use Rattle.network.specs.Marks.{marks, marked}
use Rattle.network.proofs.Marked.{length_marks}
use Rattle.network.proofs.Laws.{links_few}
use Rattle.routing.specs.Lent.{lent}
use Rattle.completion.specs.Completion.{Bans}
use Rattle.unlisted.proofs.Banning.{bans_none, bans_more}
use Rattle.unlisted.proofs.costs.banned_along.Goals as goal

pub loop-link-init : goal.loop-link-init
loop-link-init c = bans_none (lent c.args.roads)

pub loop-link-preserved : goal.loop-link-preserved
loop-link-preserved c =
    let roads = lent c.args.roads in
    let links = c.args.links.now in
    let i = c.loop-link.link-index in
    let ms = marks c.loop-link.banned in
    let more = bans_more roads (links_few c.args.roads.network.now) links i (omega arith) ms (length_marks c.loop-link.banned) c.loop-link.invariant in
    let P : List Bool → Type 0 = λ x. Bans roads (take (i + 1) links) x in
    subst P (ap (λ (n : ℕ). marked ms n true) (sym c.from.ensures) ∙ sym c.add.ensures) more

pub returns : goal.returns
returns c =
    let P : List ℕ → Type 0 = λ x. Bans (lent c.args.roads) x (marks c.loop-link.banned) in
    subst P (take_all c.loop-link.link-index c.args.links.now (omega arith)) c.loop-link.invariant
