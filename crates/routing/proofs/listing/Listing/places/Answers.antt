use Rattle.std.proofs.Common.{◌≡◌, ℕ, ◌+◌, ◌-◌, ◌*◌, take, drop, ap, arith}
use Rattle.routing.proofs.listing.Listing.places.Goals as goal

pub returns : goal.returns
returns c =
    let start = 1024 * c.args.number in
    ap (λ (k : ℕ). take k (drop start c.args.self.book.now)) (let e : start + 1024 - start ≡ 1024 = omega arith in e)
