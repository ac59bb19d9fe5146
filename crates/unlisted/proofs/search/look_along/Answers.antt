use Rattle.std.proofs.Common.{◌≡◌, ℕ, ◌+◌, ◌-◌, Bool, false, List, length, take, sym, refl, ap, ◌∙◌, subst, arith}
use Rattle.std.proofs.lemmas.List.{take_all}
use Rattle.network.specs.Marks.{marks, marked}
use Rattle.network.proofs.Marked.{length_marks}
use Rattle.network.proofs.Laws.{links_few}
use Rattle.routing.specs.Lent.{lent}
use Rattle.completion.specs.Completion.{Bans}
use Rattle.unlisted.specs.Listed.{question}
use Rattle.unlisted.proofs.Banning.{bans_back}
use Rattle.unlisted.proofs.Books.{carried_simple}
use Rattle.unlisted.proofs.Searching.{fronts_short, finds_outset, finds_step, finds_end}
use Rattle.unlisted.specs.Leaving.{LeftLate}
use Rattle.routing.specs.Book.{Finds}
use Rattle.unlisted.proofs.search.look_along.Goals.{then-count-gt0, else-count-gt0}
use Rattle.unlisted.proofs.search.look_along.Goals as goal

pub new_from-low-requires : goal.new_from-low-requires
new_from-low-requires g c =
    let ready = c.requires.ready in record {
      room = omega (arith, ready.number, ready.fronts.room);
      short = λ i h. fronts_short c.args.routes.listing c.args.along.links.now c.args.along.fronts.now ready.fronts i (omega (arith, ready.number));
    }

pub loop-count-init : goal.loop-count-init
loop-count-init g c =
    let links = c.args.along.links.now in
    let B : List ℕ → Type 0 = λ x. Bans (lent c.args.routes.listing.trip.roads) x (marks c.banned_along-banned.result) in (
      subst B (sym (take_all (length links) links (omega arith))) c.banned_along-banned.ensures,
      finds_outset g.M.Measure.rank (g.M.Measure.ranks c.args.measure.now) (question c.args.routes.listing) c.args.along.number links c.requires.ready.links c.args.line.now c.args.first c.requires.finds,
    )

pub loop-count-preserved : goal.loop-count-preserved
loop-count-preserved g c =
    let listing = c.args.routes.listing in
    let q = question listing in
    let roads = lent listing.trip.roads in
    let links = c.args.along.links.now in
    let is = c.requires.ready.links in
    let n = c.loop-count.count in
    let simple = carried_simple c.args.routes c.args.along.number c.requires.ready.number links is in
    let ms = marks c.loop-count.banned in
    let back = bans_back roads listing.trip.from listing.trip.to (links_few listing.trip.roads.network.now) links simple n (omega arith) (omega arith) ms (length_marks c.loop-count.banned) c.loop-count.invariant.0 in
    let B : List Bool → Type 0 = λ x. Bans roads (take (n - 1) links) x in
    let bans : Bans roads (take (n - 1) links) (marks c.if-count-gt0.banned) =
    elim c.if-count-gt0.branch [
      | then-count-gt0 w ↦ subst B (ap (λ (x : ℕ). marked ms x false) (sym w.from.ensures) ∙ sym w.remove.ensures ∙ ap marks (sym w.banned-is)) back
      | else-count-gt0 w ↦ absurd (omega arith)
    ] in
    let F : ℕ → Type 0 = λ k. Finds g.M.Measure.rank (g.M.Measure.ranks c.args.measure.now) roads (LeftLate q c.args.along.number k) c.look_after-best.new.line c.look_after-best.result in (
      bans,
      subst F (let e : n ≡ n - 1 + 1 = omega arith in e)
          (finds_step g.M.Measure.rank (g.M.Measure.ranks c.args.measure.now) q c.args.along.number links is n (n + 1) refl
          c.loop-count.best c.look_after-best.result c.loop-count.line c.look_after-best.new.line c.loop-count.invariant.1 c.look_after-best.ensures),
    )

pub returns-after-count-gt0 : goal.returns-after-count-gt0
returns-after-count-gt0 g c =
    let q = question c.args.routes.listing in
    let links = c.args.along.links.now in
    let is = c.requires.ready.links in
    let n = c.loop-count.count in
    finds_end g.M.Measure.rank (g.M.Measure.ranks c.args.measure.now) q c.args.along.number links is
    c.args.along.fronts.now c.new_from-low.result n c.requires.ready.number c.requires.ready.fronts c.new_from-low.ensures (omega arith)
    c.look_after-best.new.line c.look_after-best.result
    (finds_step g.M.Measure.rank (g.M.Measure.ranks c.args.measure.now) q c.args.along.number links is n (n + 1) refl
    c.loop-count.best c.look_after-best.result c.loop-count.line c.look_after-best.new.line c.loop-count.invariant.1 c.look_after-best.ensures)

pub returns : goal.returns
returns g c =
    finds_end g.M.Measure.rank (g.M.Measure.ranks c.args.measure.now) (question c.args.routes.listing) c.args.along.number c.args.along.links.now c.requires.ready.links
    c.args.along.fronts.now c.new_from-low.result (c.loop-count.count + 1) c.requires.ready.number c.requires.ready.fronts c.new_from-low.ensures (omega arith)
    c.loop-count.line c.loop-count.best c.loop-count.invariant.1
