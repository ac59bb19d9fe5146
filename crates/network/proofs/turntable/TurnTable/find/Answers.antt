use Rattle.std.proofs.Common.{◌≡◌, ℕ, List, get_or, suc, ◌-◌, ◌≤◌, ap, ◌∙◌, arith}
use Rattle.network.specs.declared.turn.Turn.{Turn}
use Rattle.network.specs.Plan.{no_turn}
use Rattle.network.specs.Index.{entry}
use Rattle.network.proofs.Chains.{step_back}
use Rattle.network.proofs.turntable.TurnTable.find.Goals as goal

pub loop-number-preserved : goal.loop-number-preserved
loop-number-preserved c =
    let s = c.args.self.now in
    let ts = s.entries.items in
    let k = c.loop-number.number in
    let inv = c.loop-number.invariant in
    let low : 1 ≤ k = omega (arith, c.loop-number-test.true) in
    let same : suc (k - 1) ≡ k = omega arith in
    let at : (get_or c.deref.result.now (k - 1) no_turn).out ≡ (entry ts k).out =
    ap (λ (us : List Turn). (get_or us (k - 1) no_turn).out) c.deref.ensures.0 ∙ ap (λ (n : ℕ). (entry ts n).out) same
    in
    rw (c.from-number-in-loop-number.ensures)
    (step_back ts s.nexts c.args.into c.args.out k s.back s.kept s.between low inv.0 (inv.1 low)
    (λ e. c.if-deref-place.false (at ∙ e)) inv.2)

pub returns : goal.returns
returns c k h = c.loop-number.invariant.2 (suc k) (omega arith) (omega arith)
