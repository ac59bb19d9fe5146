use Rattle.std.proofs.Common.{◌∙◌}
use Rattle.network.specs.Laid.{plan}
use Rattle.network.proofs.Places.{place_has_entry}
use Rattle.network.proofs.network.Network.has_entry.Goals as goal

pub returns : goal.returns
returns c = c.is_some.ensures ∙ place_has_entry (plan c.args.self.now).turns c.args.into c.args.out c.place_of.result c.place_of.ensures
