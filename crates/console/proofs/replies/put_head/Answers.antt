use Rattle.std.proofs.Common.{codes, arith}
use Rattle.measure.proofs.Decimals.{length_long}
use Rattle.text.proofs.Puts.{put_next}
use Rattle.console.proofs.Fronts.{number_near}
use Rattle.console.proofs.replies.put_head.Goals as goal

pub put_number-requires : goal.put_number-requires
put_number-requires g c = omega (arith, length_long c.from.result (omega arith), c.requires)

pub put_number-at-requires : goal.put_number-at-requires
put_number-at-requires g c = omega (arith, length_long c.in-Route.number (omega arith), c.requires)

pub put_cost-at-requires : goal.put_cost-at-requires
put_cost-at-requires g c = omega (arith, number_near (codes "route ") c.in-Route.number (omega arith) c.put_number-at.ensures, c.requires)

pub put_number-at-requires-in-Route : goal.put_number-at-requires-in-Route
put_number-at-requires-in-Route g c =
    let route = number_near (codes "route ") c.in-Route.number (omega arith) c.put_number-at.ensures in
    omega (arith, c.put_cost-at.ensures.near, length_long c.args.links (omega arith), c.requires)

pub put_number-at-requires-in-Route-2 : goal.put_number-at-requires-in-Route-2
put_number-at-requires-in-Route-2 g c =
    let route = number_near (codes "route ") c.in-Route.number (omega arith) c.put_number-at.ensures in
    let links = number_near (codes " links ") c.args.links (omega arith) c.put_number-at-in-Route.ensures in
    omega (arith, c.put_cost-at.ensures.near, length_long c.in-Route.shared (omega arith), c.requires)

pub put_word-requires-in-Route : goal.put_word-requires-in-Route
put_word-requires-in-Route g c =
    let route = number_near (codes "route ") c.in-Route.number (omega arith) c.put_number-at.ensures in
    let links = number_near (codes " links ") c.args.links (omega arith) c.put_number-at-in-Route.ensures in
    let shared = number_near (codes " shared ") c.in-Route.shared (omega arith) c.put_number-at-in-Route-2.ensures in
    omega (arith, c.put_cost-at.ensures.near, c.requires)

pub returns-in-Route : goal.returns-in-Route
returns-in-Route g c =
    rw c.in-Route.is
    (put_next c.put_number-at.ensures
    (put_next c.put_cost-at.ensures.put
    (put_next c.put_number-at-in-Route.ensures
    (put_next c.put_number-at-in-Route-2.ensures c.put_word-in-Route.ensures))))
