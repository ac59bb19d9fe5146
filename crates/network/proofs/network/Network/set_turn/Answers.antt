use Rattle.std.proofs.Common.{◌≡◌, ℕ, Bool, true, cond, not, ◌&&◌, eqb, List, length, Some, None, Option, unwrap_or, sym, ap, ◌∙◌, ap₂}
use Rattle.std.proofs.lemmas.Result.{err_from_is_err_and}
use Rattle.network.specs.declared.turn.Turn.{Turn}
use Rattle.network.specs.Plan.{has_entry}
use Rattle.network.specs.Laid.{plan}
use Rattle.network.specs.Refusals.{first_refusal}
use Rattle.network.specs.Laying.{unless, room_rows}
use Rattle.network.specs.Changing.{set_turn_refusal, changed}
use Rattle.network.proofs.Rows.{handed_on, stays}
use Rattle.network.proofs.Entries.{one_has_entry}
use Rattle.network.proofs.Laws.{lawful, extra_within, class_within}
use Rattle.network.proofs.Changes.{changed_adds, changed_here, lawful_changed, change_refused_by_pair, change_refused_by_letter, change_by_room, change_made}
use Rattle.network.proofs.network.Network.set_turn.Goals as goal

pub returns-in_err-check_pair : goal.returns-in_err-check_pair
returns-in_err-check_pair c =
    let before = plan c.args.self.now in
    let p = err_from_is_err_and c.from_residual.result c.from_residual.ensures.1 in
    let told = change_refused_by_pair before c.args.into c.args.out c.args.letter c.args.extra _ (sym c.in_err-check_pair.ensures) in
    record { answer = handed_on _ _ _ _ p.1 p.2 told; after = stays _ _ before _ told }

pub returns-in_err-class : goal.returns-in_err-class
returns-in_err-class c =
    let before = plan c.args.self.now in
    let p = err_from_is_err_and c.from_residual-in_err-class.result c.from_residual-in_err-class.ensures.1 in
    let told = change_refused_by_letter before c.args.into c.args.out c.args.letter c.args.extra _
    (sym c.in_ok-check_pair.ensures) (sym c.in_err-class.ensures.answer) in
    record { answer = handed_on _ _ _ _ p.1 p.2 told; after = stays _ _ before _ told }

pub invariant_of-self : goal.invariant_of-self
invariant_of-self c =
    let before = plan c.args.self.now in
    let found = c.in-Some.ensures in
    let laws = lawful_changed before _ c.in-Some.place c.in_ok-class.class c.args.extra c.change_at.ensures found.0
    (class_within c.args.letter c.in_ok-class.class c.in_ok-class.ensures.class)
    (extra_within c.args.letter c.args.extra (sym c.in_ok-class.ensures.answer)) (lawful c.args.self.now) in
    record { few = c.args.self.now.few; sound = laws.0; rising = laws.1.0; marked = laws.1.1.0; meeting = laws.1.1.1.0; apart = laws.1.1.1.1.0 }

pub returns-in-Some : goal.returns-in-Some
returns-in-Some c =
    let before = plan c.args.self.now in
    let into = c.args.into in
    let out = c.args.out in
    let found = c.in-Some.ensures in
    let has : has_entry before.turns into out ≡ true = one_has_entry before.turns into out c.in-Some.place found.0 found.1 in
    let passed : set_turn_refusal before into out c.args.letter c.args.extra ≡ None =
    change_by_room before into out c.args.letter c.args.extra (sym c.in_ok-check_pair.ensures) (sym c.in_ok-class.ensures.answer)
    ∙ ap (λ (b : Bool). cond (not b && eqb (length before.turns) 2048) (Some 5) None) has in
    record {
      answer = sym passed;
      after = change_made before into out c.args.letter c.args.extra c.in_ok-class.class _ passed c.in_ok-class.ensures.class
          (c.change_at.ensures ∙ sym (changed_here before.turns into out c.in-Some.place c.in_ok-class.class c.args.extra found.0 found.2 found.1));
    }

pub add_turn-requires : goal.add_turn-requires
add_turn-requires c = record {
  pair = sym c.in_ok-check_pair.ensures;
  apart = c.in_default.ensures;
  within = (
    class_within c.args.letter c.in_ok-class.class c.in_ok-class.ensures.class,
    extra_within c.args.letter c.args.extra (sym c.in_ok-class.ensures.answer),
  );
}

pub returns : goal.returns
returns c =
    let before = plan c.args.self.now in
    let into = c.args.into in
    let out = c.args.out in
    let extra = c.args.extra in
    let t : Turn = record { into = into; out = out; class = c.in_ok-class.class; extra = extra } in
    let none = c.in_default.ensures in
    let room = first_refusal (room_rows before) in
    let told : set_turn_refusal before into out c.args.letter extra ≡ room =
    change_by_room before into out c.args.letter extra (sym c.in_ok-check_pair.ensures) (sym c.in_ok-class.ensures.answer)
    ∙ ap (λ (b : Bool). cond (not b && eqb (length before.turns) 2048) (Some 5) None) none
    in
    record {
      answer = c.add_turn.ensures.answer ∙ sym told;
      after = c.add_turn.ensures.after
          ∙ ap (λ (ts : List Turn). unless room before (record { links = before.links; turns = ts })) (sym (changed_adds before.turns t none))
          ∙ ap₂ (λ (o k : Option ℕ). unless o before
          (record { links = before.links; turns = changed before.turns (record { into = into; out = out; class = unwrap_or k 0; extra = extra }) }))
          (sym told) (sym c.in_ok-class.ensures.class);
    }
