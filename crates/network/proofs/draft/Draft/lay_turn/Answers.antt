use Rattle.std.proofs.Common.{ℕ, Option, unwrap_or, sym, ◌∙◌, ap₂}
use Rattle.std.proofs.lemmas.Result.{err_from_is_err_and}
use Rattle.network.specs.Laid.{drafted}
use Rattle.network.specs.Laying.{unless, add_turn}
use Rattle.network.proofs.Rows.{handed_on, stays}
use Rattle.network.proofs.Laws.{extra_within, class_within, refused_by_pair, refused_by_letter, refused_by_room}
use Rattle.network.proofs.draft.Draft.lay_turn.Goals as goal

pub returns-in_err-check_pair : goal.returns-in_err-check_pair
returns-in_err-check_pair c =
    let before = drafted c.args.self.now in
    let p = err_from_is_err_and c.from_residual.result c.from_residual.ensures.1 in
    let told = refused_by_pair before c.args.into c.args.out c.args.letter c.args.extra _ (sym c.in_err-check_pair.ensures) in
    record { answer = handed_on _ _ _ _ p.1 p.2 told; after = stays _ _ before _ told }

pub returns-in_err-class : goal.returns-in_err-class
returns-in_err-class c =
    let before = drafted c.args.self.now in
    let p = err_from_is_err_and c.from_residual-in_err-class.result c.from_residual-in_err-class.ensures.1 in
    let told = refused_by_letter before c.args.into c.args.out c.args.letter c.args.extra _
    (sym c.in_ok-check_pair.ensures) (sym c.has_entry.ensures ∙ c.if-has_entry.false)
    (sym c.in_err-class.ensures.answer) in
    record { answer = handed_on _ _ _ _ p.1 p.2 told; after = stays _ _ before _ told }

pub add_turn-requires : goal.add_turn-requires
add_turn-requires c = record {
  pair = sym c.in_ok-check_pair.ensures;
  apart = sym c.has_entry.ensures ∙ c.if-has_entry.false;
  within = (
    class_within c.args.letter c.in_ok-class.class c.in_ok-class.ensures.class,
    extra_within c.args.letter c.args.extra (sym c.in_ok-class.ensures.answer),
  );
}

pub returns : goal.returns
returns c =
    let before = drafted c.args.self.now in
    let into = c.args.into in
    let out = c.args.out in
    let extra = c.args.extra in
    let told = refused_by_room before into out c.args.letter extra (sym c.in_ok-check_pair.ensures)
    (sym c.has_entry.ensures ∙ c.if-has_entry.false) (sym c.in_ok-class.ensures.answer)
    in
    record {
      answer = c.add_turn.ensures.answer ∙ sym told;
      after = c.add_turn.ensures.after
          ∙ ap₂ (λ (o k : Option ℕ). unless o before (add_turn before (record { into = into; out = out; class = unwrap_or k 0; extra = extra })))
          (sym told) (sym c.in_ok-class.ensures.class);
    }
