use Rattle.std.proofs.Common.{◌≡◌, ℕ, ◌+◌, ◌<◌, ◌≤◌, ◌⊎◌, get_or, take, subst, arith, rules}
use Rattle.std.proofs.lemmas.List.{get_or-take, length-take-le}
use Rattle.unlisted.proofs.Forking.{new_more}
use Rattle.unlisted.proofs.forks.new_from.Goals as goal

pub loop-front-preserved : goal.loop-front-preserved
loop-front-preserved c =
    let fronts = c.args.fronts.now in
    let number = c.args.number in
    let i = c.loop-front.front-index in
    let low = c.loop-front.low in
    let n = c.max-low.result in
    let read = get_or (take number fronts) i 0 in
    let all = length-take-le number fronts c.requires.room in
    let below : i < number = omega arith in
    let same : read ≡ get_or fronts i 0 = get_or-take number fronts i 0 below in
    let above : (low ≤ n) × (read + 1 ≤ n) = search rules in
    let one : (n ≡ low) ⊎ (n ≡ read + 1) = search rules in
    new_more fronts i low n c.loop-front.invariant above.0 (omega (arith, above.1, same))
    (subst (λ (x : ℕ). (n ≡ low) ⊎ (n ≡ x + 1)) same one)
