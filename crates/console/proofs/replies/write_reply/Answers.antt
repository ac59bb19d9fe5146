use Rattle.std.proofs.Common.{ℕ, List, length, take, arith}
use Rattle.console.specs.Heads.{head}
use Rattle.text.proofs.Puts.{put_front}
use Rattle.console.proofs.Fronts.{front_taken, line_written}
use Rattle.console.proofs.replies.write_reply.Goals as goal

pub returns : goal.returns
returns g c =
    let text : g.row.M-Cost.Denot → List ℕ = λ cost. g.M.Shown.text (g.M.Measure.rank cost) in
    let links = c.args.links.now in
    let reply = c.args.reply in
    let put = c.put_head-end.ensures in
    let end = c.put_head-end.result in
    let front = front_taken (head text (length links) reply) _ _ end (omega (arith, put.ends)) (put_front put) in
    line_written text links reply (take end c.put_head-end.new.buffer) c.listed_in.result.now
    c.args.buffer.now c.write_line.result c.write_line.new.buffer front c.listed_in.ensures c.write_line.ensures
