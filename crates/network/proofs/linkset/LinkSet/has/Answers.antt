use Rattle.std.proofs.Common.{ℕ, eqb, sym, ap, ◌∙◌, arith}
use Rattle.std.proofs.lemmas.Nat.{and_mask}
use Rattle.network.specs.Marks.{marks}
use Rattle.network.proofs.Words.{words_have}
use Rattle.network.proofs.Marked.{length_marks, no_mark}
use Rattle.network.proofs.linkset.LinkSet.has.Goals as goal

pub returns-then-link-eq0 : goal.returns-then-link-eq0
returns-then-link-eq0 c =
    let s = c.args.self.now in
    let e = c.then-link-eq0.either in
    sym (no_mark (marks s) c.args.link (λ h l. grind (arith, length_marks s)))

pub returns : goal.returns
unfolding marks
returns c =
    ap (λ (x : ℕ). eqb x 1) (and_mask _ 1) ∙ sym (words_have c.args.self.now.words c.args.link (omega arith) (omega arith))
