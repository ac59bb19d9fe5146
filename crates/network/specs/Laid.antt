-- The plan that a network or a draft holds.
use Rattle.network.specs.declared.network.Network.{Network}
use Rattle.network.specs.declared.draft.Draft.{Draft}
use Rattle.network.specs.Plan.{Plan}

abbrev pub plan : Network → Plan
plan n = record { links = n.links.items; turns = n.turns.entries.items }

abbrev pub drafted : Draft → Plan
drafted d = plan d.network
