use Rattle.std.proofs.Common.{refl}
use Rattle.std.proofs.ByRecursion.{All-weaker}
use Rattle.network.specs.Plan.{has_entry}
use Rattle.network.specs.Roads.{turn}
use Rattle.image.specs.Image.{encode, decode, records_in, lay_all}
use Rattle.measure.specs.Cost.{onward}
use Rattle.routing.specs.Enumeration.{numbers, beginnings, all_simple}
use Rattle.worked.specs.Figures.{Stands, figures}
use Rattle.worked.proofs.Computed.{Computes, stands}
use Rattle.worked.proofs.figures_stand.Goals as goal

pub returns : goal.returns
unfolding encode decode records_in lay_all has_entry turn onward numbers beginnings all_simple
returns c =
    All-weaker Computes Stands stands figures
    ((refl, refl), ((refl, refl), (refl, (refl, (refl, (refl, (refl, (refl, (refl, (refl, tt))))))))))
