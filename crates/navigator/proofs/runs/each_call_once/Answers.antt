use Rattle.std.proofs.Common.{◌≡◌, length, refl, ap, ◌∙◌, rules}
use Rattle.network.specs.Refusals.{refusal_in}
use Rattle.navigator.specs.State.{state}
use Rattle.navigator.specs.Answers.{verdict}
use Rattle.navigator.proofs.Following.{any_book, next_under, trial_under}
use Rattle.navigator.proofs.runs.each_call_once.Goals as goal

pub returns : goal.returns
returns g c =
    let long : length c.next.new.table ≡ length c.args.table.now = search rules in (
      state c.open.new.self.town,
      (
        state c.close.new.self.town,
        (
          state c.end.new.self.town,
          (
            state c.trial.new.self.town,
            (
              state c.next.new.self.town,
              (
                state c.ask.new.self.town,
                (state c.args.map.now.town, refl, ((ap verdict c.ask.ensures.answer, c.ask.ensures.after), tt)),
                (
                  next_under g.M.Measure.ranks c.ask.ensures.measure _ _ _ _ _ _ c.next.ensures.call,
                  any_book (state c.args.map.now.town).roads c.args.from c.args.to (verdict (refusal_in c.ask.result)) c.args.book.now,
                ),
              ),
              (
                (
                  trial_under g.M.Measure.ranks (c.next.ensures.measure ∙ c.ask.ensures.measure) _ _ _ _ _ long c.trial.ensures.call,
                  c.trial.ensures.after,
                ),
                tt,
              ),
            ),
            ((ap verdict c.end.ensures.answer, c.end.ensures.after), tt),
          ),
          ((ap verdict c.close.ensures.answer, c.close.ensures.after), tt),
        ),
        ((ap verdict c.open.ensures.answer, c.open.ensures.after), tt),
      ),
      ((ap verdict c.set_turn.ensures.answer, c.set_turn.ensures.after), tt),
    )
