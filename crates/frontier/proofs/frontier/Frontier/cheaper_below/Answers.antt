use Rattle.std.proofs.Common.{◌+◌, ◌*◌, map, sym, arith}
use Rattle.frontier.specs.Tournament.{label, held}
use Rattle.frontier.proofs.Tournaments.{winner_second, winner_first, winner_told}
use Rattle.frontier.proofs.frontier.Frontier.cheaper_below.Goals as goal

pub returns-in_default : goal.returns-in_default
returns-in_default g c =
    let cost = label (map g.M.Measure.rank c.args.labels.now) in
    let node = held c.args.self.now in
    let k = c.args.node in
    sym (winner_second cost (node (2 * k)) (node (2 * k + 1)) c.in_default.ensures)

pub returns-in_default-held : goal.returns-in_default-held
returns-in_default-held g c =
    let cost = label (map g.M.Measure.rank c.args.labels.now) in
    let node = held c.args.self.now in
    let k = c.args.node in
    let a = c.in-Some.a in
    sym (winner_first cost (node (2 * k)) (node (2 * k + 1)) (λ z. omega (arith, z, a.low, c.in-Some.ensures)) c.in_default-held.ensures)

pub returns-then-is_cheaper : goal.returns-then-is_cheaper
returns-then-is_cheaper g c =
    let cost = label (map g.M.Measure.rank c.args.labels.now) in
    let node = held c.args.self.now in
    let k = c.args.node in
    let a = c.in-Some.a in
    let b = c.in-Some-held.b in
    sym (winner_told cost (node (2 * k)) (node (2 * k + 1)) a.number b.number _ a.low c.in-Some.ensures b.low c.in-Some-held.ensures c.if-is_cheaper.ensures)

pub returns-else-is_cheaper : goal.returns-else-is_cheaper
returns-else-is_cheaper g c =
    let cost = label (map g.M.Measure.rank c.args.labels.now) in
    let node = held c.args.self.now in
    let k = c.args.node in
    let a = c.in-Some.a in
    let b = c.in-Some-held.b in
    sym (winner_told cost (node (2 * k)) (node (2 * k + 1)) a.number b.number _ a.low c.in-Some.ensures b.low c.in-Some-held.ensures c.if-is_cheaper.ensures)
