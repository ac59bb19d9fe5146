use Rattle.std.proofs.Common.{◌≡◌, length, ◌++◌, replicate, ap, ◌∙◌, arith}
use Rattle.completion.specs.declared.tree.Step.{Step}
use Rattle.completion.specs.View.{depth_of}
use Rattle.completion.proofs.Views.{step_read}
use Rattle.completion.proofs.Traces.{written}
use Rattle.completion.proofs.way.write_route.Goals as goal

pub returns : goal.returns
returns c =
    let tree = c.args.tree.now in
    let way = c.write_way.new.way in
    let deep : c.from-count.result ≡ depth_of tree c.args.link.number =
    c.from-count.ensures ∙ ap (λ (x : Step). x.depth) (step_read tree c.args.link.number c.place.result c.args.link.low c.place.ensures) in
    let long : length way ≡ c.from-count.result = omega (arith, c.write_way.auto.way, c.split_at_mut-way.ensures.front_len) in
    let left = c.split_at_mut-front.ensures.back_len in
    let behind = c.split_at_mut-way.ensures.back_len in
    written tree c.args.link.number c.args.beginning.now c.args.line.now way c.fill.new.self _ c.from-count.result (omega (arith, long, deep)) (omega (arith, long)) c.write_way.ensures
    (c.fill.ensures.after (λ y e. e) ∙ ap (λ n. replicate n 0) (omega (arith, left, behind))) (ap (λ xs. xs ++ (way ++ c.fill.new.self)) c.copy_from_slice.ensures.after)
