use Rattle.std.proofs.Common.{inl, inr, ⊎_elim}
use Rattle.network.specs.Laid.{plan}
use Rattle.network.proofs.Laws.{links_few}
use Rattle.network.proofs.Places.{found_place, no_entry_above}
use Rattle.network.proofs.network.Network.place_of.Goals as goal

pub returns-then-into-gt1024 : goal.returns-then-into-gt1024
returns-then-into-gt1024 c =
    let net = c.args.self.now in
    no_entry_above (plan net).links (plan net).turns c.args.into c.args.out (links_few net) net.meeting
    (⊎_elim inl (λ h. inr h.1) c.then-into-gt1024.either)

pub returns : goal.returns
returns c =
    let net = c.args.self.now in
    found_place (plan net).turns c.args.into c.args.out net.apart c.find.result c.find.ensures
