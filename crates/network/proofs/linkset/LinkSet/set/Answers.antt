use Rattle.std.proofs.Common.{sym, ap, ◌∙◌, arith}
use Rattle.network.specs.Marks.{marks, marked}
use Rattle.network.proofs.Words.{words_with, words_without}
use Rattle.network.proofs.Marked.{length_marks, not_marked}
use Rattle.network.proofs.linkset.LinkSet.set.Goals as goal

pub returns-then-mark : goal.returns-then-mark
unfolding marks
returns-then-mark c = let s = c.args.self.now in
    words_with s.words c.args.link (omega arith) (omega arith) ∙ ap (marked (marks s) c.args.link) (sym c.if-mark.true)

pub returns-else-mark : goal.returns-else-mark
unfolding marks
returns-else-mark c = let s = c.args.self.now in
    words_without s.words c.args.link (omega arith) (omega arith) ∙ ap (marked (marks s) c.args.link) (sym c.if-mark.false)

pub returns-else-link-ge1 : goal.returns-else-link-ge1
returns-else-link-ge1 c =
    let s = c.args.self.now in
    let e = c.else-link-ge1.either in
    sym (not_marked (marks s) c.args.link c.args.mark (λ h l. grind (arith, length_marks s)))
