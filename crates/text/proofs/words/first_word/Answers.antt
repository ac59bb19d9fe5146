-- The first word is the run of other bytes, past the blanks at the front.
use Rattle.std.proofs.Common.{rules, tests, ◌≡◌, ℕ, ◌<◌, true, false, length, get_or, drop, Option, ap, ◌∙◌, arith, length-drop}
use Rattle.std.specs.List.{position, position_or_len}
use Rattle.std.specs.Option.{unwrap_or}
use Rattle.std.proofs.lemmas.List.{take_rest}
use Rattle.std.proofs.lemmas.Iterator.{YieldsList-from_slice}
use Rattle.std.proofs.lemmas.Iterator.Search.{position_from_yields_List}
use Rattle.text.specs.Words.{blank}
use Rattle.text.proofs.Pieces.{no_words, first_blank, words_from_first}
use Rattle.text.proofs.words.first_word.Goals as goal

pub returns-in_err-start : goal.returns-in_err-start
returns-in_err-start c = rw c.from_residual.ensures (no_words c.args.line.now (search rules))

pub returns : goal.returns
returns c =
    let line = c.args.line.now in
    let front : (k : ℕ) → k < c.in_ok-start.start → blank (get_or line k 0) ≡ true = search rules in
    let start = c.in_ok-start.start in
    let inside : start < length line = search rules in
    let here : blank (get_or line start 0) ≡ false = search rules in
    let word = drop start line in
    let same = take_rest line start in
    let end : c.position-2.result ≡ position blank word = position_from_yields_List blank _ _ c.position-2.result c.position-2.ensures.ran (YieldsList-from_slice word (c.iter-2.ensures.rest ∙ same)) (λ x b q k. search (rules, tests)) in
    let n : c.unwrap_or-end.result ≡ position_or_len blank word = rw same at c.unwrap_or-end.ensures ∙ ap (λ (o : Option ℕ). unwrap_or o (length word)) end ∙ first_blank word in
    let found = words_from_first line start inside front here c.unwrap_or-end.result n in
    (rw (c.split_at.ensures.front, c.split_at.ensures.back, same) found.0, omega (arith, c.split_at.ensures.back_len, ap length same, length-drop start line, found.1), omega (arith, c.split_at.ensures.front_len, found.1))
