use Rattle.routing.specs.Lent.{lent}
use Rattle.unlisted.proofs.Improving.{ends_read}
use Rattle.unlisted.proofs.bests.ends_at.Goals as goal

pub returns-in-len1-up : goal.returns-in-len1-up
returns-in-len1-up c = ends_read (lent c.args.roads) c.args.to c.args.links.now c.link.result c.in-len1-up.len_at_least c.link.ensures
