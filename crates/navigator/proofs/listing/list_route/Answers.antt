use Rattle.navigator.proofs.Written.{copied_in}
use Rattle.navigator.proofs.listing.list_route.Goals as goal

pub returns : goal.returns
returns c = copied_in c.args.book.now c.args.line.now c.copy_from_slice.new.self c.args.number c.copy_from_slice.ensures.after
