use Rattle.std.proofs.Common.{◌≡◌, ℕ, Bool, true, false, List, ◌∷◌, length, get_or, refl, ap, ◌∙◌, arith}
use Rattle.network.specs.Laid.{plan}
use Rattle.network.specs.Marks.{marks, marked}
use Rattle.network.proofs.Laws.{links_few}
use Rattle.network.proofs.Marked.{length_marks}
use Rattle.navigator.specs.State.{state}
use Rattle.navigator.specs.Searches.{trial_rows}
use Rattle.navigator.proofs.Rows.{went_on}
use Rattle.navigator.proofs.Nexts.{table_cleared}
use Rattle.navigator.proofs.Trials.{put_back, laid_now, trial_told}
use Rattle.navigator.proofs.map.Map.trial.Goals as goal

pub returns : goal.returns
returns g c =
    let town = c.args.self.now.town in
    let ms = marks town.closed in
    let n = c.args.link in
    let p = went_on (trial_rows (state town) n (length c.args.table.now)) _ c.in_ok-asked.ensures in
    let laid = laid_now (state town).roads town.question n (length c.args.table.now) p.0 in
    let found = trial_told (state town).roads n laid (omega (arith, links_few town.network, length_marks town.closed))
    g.M.Measure.rank _ _ _ _ _ _ p.1 p.0 _ c.closing-copied.ensures.closed c.least_guarded-least.result
    c.least_guarded-least.ensures.told in
    let back : marks c.least_guarded-least.new.copied.closed ≡ ms =
    c.least_guarded-least.ensures.back
    ∙ again ms n c.closing-copied.ensures.closed c.closing-copied.ensures.link c.closing-copied.ensures.old in
    record {
      call = found.0;
      after = ap (λ (closed : List Bool). record { roads = record { plan = plan town.network; marks = closed }; question = town.question }) back;
      table = table_cleared _ _ _ _ _ found.1 c.least_guarded-least.ensures.table;
      measure = refl;
    }
  where
    again : (ms : List Bool) (n : ℕ) {closed : List Bool} {link : ℕ} {old : Bool} → closed ≡ marked ms n true → link ≡ n → old ≡ get_or (false ∷ ms) n false
        → marked closed link old ≡ ms
    again ms n e f h = rw (e, f, h) (put_back ms n)
