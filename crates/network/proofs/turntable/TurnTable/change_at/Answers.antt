use Rattle.std.proofs.Common.{◌≡◌, ℕ, List, length, get_or, set, sym, ap, ◌∙◌, subst, arith, length-set}
use Rattle.arrayvec.specs.ArrayVec.{ArrayVec, with_items}
use Rattle.arrayvec.proofs.ArrayVecLemmas.{items-with_items}
use Rattle.network.specs.declared.turn.Turn.{Turn}
use Rattle.network.specs.Plan.{no_turn}
use Rattle.network.specs.Changing.{changed_at}
use Rattle.network.proofs.Chains.{Indexed, indexed_same, same_ins}
use Rattle.network.proofs.turntable.TurnTable.change_at.Goals as goal

-- what a write through the lent entries leaves
written : (entries : ArrayVec Turn) (lent : List Turn) (place class extra : ℕ) (t : Turn) → lent ≡ entries.items
    → t ≡ record { into = (get_or lent place no_turn).into; out = (get_or lent place no_turn).out; class = class; extra = extra }
    → (with_items entries (set lent place t)).items ≡ changed_at entries.items place class extra
written entries lent place class extra t same changed =
    items-with_items entries (set lent place t) (length-set lent place t ∙ ap length same)
    ∙ ap (set lent place) changed
    ∙ ap (λ (ts : List Turn). changed_at ts place class extra) same

pub returns : goal.returns
returns c =
    written c.args.self.now.entries c.deref_mut.result.now c.args.place c.args.class c.args.extra _ c.deref_mut.ensures.value c.change.ensures

pub invariant_of-self : goal.invariant_of-self
invariant_of-self c =
    let s = c.args.self.now in
    let ts = s.entries.items in
    let us = changed_at ts c.args.place c.args.class c.args.extra in
    let size = length-set ts c.args.place _ in
    let is = written s.entries c.deref_mut.result.now c.args.place c.args.class c.args.extra _ c.deref_mut.ensures.value c.change.ensures in
    let x = subst (λ (y : List Turn). Indexed y s.heads s.nexts) (sym is)
    (indexed_same ts us s.heads s.nexts size (same_ins ts c.args.place c.args.class c.args.extra c.requires)
    (s.head, (s.held, (s.latest, (s.back, (s.kept, (s.between, tt))))))) in
    record {
      headed = s.headed;
      chained = s.chained;
      few = omega (arith, s.few, ap length is, length-set ts c.args.place (record { into = (get_or ts c.args.place no_turn).into; out = (get_or ts c.args.place no_turn).out; class = c.args.class; extra = c.args.extra }));
      head = x.0;
      held = x.1.0;
      latest = x.1.1.0;
      back = x.1.1.1.0;
      kept = x.1.1.1.1.0;
      between = x.1.1.1.1.1.0;
    }
