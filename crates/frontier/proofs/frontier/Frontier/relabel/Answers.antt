use Rattle.std.proofs.Common.{ℕ, ◌-◌, map, set, length-set, sym, subst}
use Rattle.frontier.specs.Tournament.{Sound}
use Rattle.frontier.proofs.Frontiers.{sound_while_out}
use Rattle.frontier.proofs.Labelled.{label_kept}
use Rattle.frontier.proofs.frontier.Frontier.relabel.Goals as goal

pub insert-requires : goal.insert-requires
insert-requires g c =
    let costs = c.args.labels.now in
    let rank = g.M.Measure.rank in
    let link = c.args.link in
    record {
      room = simp length-set c.requires.room;
      sound = subst (λ (i : ℕ). Sound (map rank (set costs i c.args.cost)) c.remove.new.self) (sym c.place.ensures)
          (sound_while_out (map rank costs) c.remove.new.self c.remove.ensures.sound (map rank (set costs (link.number - 1) c.args.cost)) link.number c.remove.ensures.waiting.here
          (λ k d. label_kept rank costs link.number k c.args.cost link.low d));
    }
