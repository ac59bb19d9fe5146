use Rattle.std.proofs.Common.{map, Option, sym, refl, subst}
use Rattle.std.specs.Option.{option_map}
use Rattle.frontier.specs.declared.linknumber.LinkNumber.{LinkNumber}
use Rattle.frontier.specs.Tournament.{Takes}
use Rattle.frontier.proofs.frontier.Frontier.take_least.Goals as goal

pub returns-in_err-least : goal.returns-in_err-least
returns-in_err-least g c =
    let ls = map g.M.Measure.rank c.args.labels.now in
    let f = c.args.self.now in
    let P : Option LinkNumber → Type 0 = λ r. Takes ls f f (option_map (λ link. link.number) r) in
    record {
      sound = c.requires.sound;
      takes = subst P (sym c.from_residual.ensures) (c.in_err-least.ensures ls c.requires.sound, refl);
    }
