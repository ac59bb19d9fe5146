use Rattle.std.proofs.Common.{rules, sym, ◌∙◌, arith}
use Rattle.std.specs.List.{zip}
use Rattle.std.proofs.lemmas.Iterator.{YieldsList-from_slice, YieldsList-from_map, YieldsList-from_zip}
use Rattle.std.proofs.lemmas.Iterator.Consumers.{YieldsList-at, sum_by_from_yields_List, fits_by_from_yields_list}
use Rattle.network.specs.Marks.{all_bits, marks}
use Rattle.network.proofs.Words.{both_words, both_few, length_words, in_both}
use Rattle.network.proofs.linkset.LinkSet.shared_count.Goals as goal

pub sum-requires-clause-fits : goal.sum-requires-clause-fits
sum-requires-clause-fits c =
    let xs = c.args.a.now.words in
    let ys = c.args.b.now.words in
    fits_by_from_yields_list in_both (zip xs ys) c.map.result _
    (YieldsList-from_map _ in_both (YieldsList-at c.map.ensures.source
    (YieldsList-from_zip (YieldsList-at c.zip.ensures.first (YieldsList-from_slice xs cc)) (YieldsList-from_slice ys cc)))
    c.map.ensures.closure (λ x r q k. search rules))
    (omega (arith, both_words xs ys (omega arith), both_few (all_bits xs) (all_bits ys), length_words xs))

pub returns : goal.returns
unfolding marks
returns c =
    let xs = c.args.a.now.words in
    let ys = c.args.b.now.words in
    sum_by_from_yields_List in_both (zip xs ys) c.map.result c.sum.result c.sum.ensures.ran
    (YieldsList-from_map _ in_both (YieldsList-at c.map.ensures.source
    (YieldsList-from_zip (YieldsList-at c.zip.ensures.first (YieldsList-from_slice xs cc)) (YieldsList-from_slice ys cc)))
    c.map.ensures.closure (λ x r q k. search rules))
    ∙ sym (both_words xs ys (omega arith))
