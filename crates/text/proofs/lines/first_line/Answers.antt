-- The first line ends at the first line feed, or with the text.
use Rattle.std.proofs.Common.{◌≡◌, ◌<◌, List, [], ◌∷◌, length, Some, None, Option, MatchOption, ℕ, sym, refl, ap, ◌∙◌, arith, Bor}
use Rattle.std.specs.Option.{option_or}
use Rattle.std.proofs.lemmas.List.{take_rest, drop_all}
use Rattle.std.proofs.lemmas.Bool.{eqb-false}
use Rattle.text.specs.Lines.{lines}
use Rattle.text.specs.Cuts.{cut_at}
use Rattle.text.proofs.FirstLine.{lines_cut}
use Rattle.text.proofs.lines.first_line.Goals as goal

-- a text is cut at its first line feed, or is one line
cut_or_whole : (text : List ℕ) (o : Option (Bor (List ℕ) × Bor (List ℕ))) (all : Bor (List ℕ) × Bor (List ℕ))
    → 0 < length text → all.0.now ≡ text → all.1.now ≡ []
    → MatchOption o (cut_at 10 text ≡ None) (λ p. cut_at 10 text ≡ Some (p.0.now, p.1.now))
    → MatchOption (option_or o (Some all)) (text ≡ []) (λ p. (lines text ≡ p.0.now ∷ lines p.1.now) × (length p.1.now < length text))
unfolding lines
cut_or_whole text None all some is end cut =
    (rw (is, end) (rw cut at (lines_cut text some)), omega (arith, ap length end))
cut_or_whole text (Some p) all some is end cut = rw cut at (lines_cut text some)

pub returns : goal.returns
returns c =
    let text = c.args.text.now in
    let some : 0 < length text = omega (arith, eqb-false (length text) 0 (sym c.if-is_empty.ensures)) in
    let rest = take_rest text (length text) ∙ drop_all (length text) text (omega arith) in
    rw c.or.ensures (cut_or_whole text c.cut_at.result _ some refl rest c.cut_at.ensures)
