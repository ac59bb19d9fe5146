use Rattle.std.proofs.Common.{rules, List, sym, subst, ltb}
use Rattle.std.proofs.lemmas.List.Sorted.{IsPartitionPoint-from_clause, IsPartitionedBy-ltb}
use Rattle.network.specs.declared.link.Link.{Link}
use Rattle.network.specs.Plan.{StartsRise}
use Rattle.network.specs.Roads.{LinksBelow}
use Rattle.network.proofs.Starts.{starts_never_fall, divided, parted}
use Rattle.network.proofs.network.Network.links_below.Goals as goal

pub returns-then-divides : goal.returns-then-divides
returns-then-divides c =
    let links = c.links-links.result.now in
    let rise : StartsRise links = subst (λ (x : List Link). StartsRise x) (sym c.links-links.ensures) c.args.self.now.rising in
    subst (λ (x : List Link). LinksBelow x c.args.node c.below-count.result) c.links-links.ensures
    (divided links c.args.node c.below-count.result rise c.if-count-links.true (c.divides.ensures.below c.if-divides.true) (c.divides.ensures.others c.if-divides.true))

pub returns : goal.returns
returns c =
    let links = c.links-links.result.now in
    let node = c.args.node in
    let rise : StartsRise links = subst (λ (x : List Link). StartsRise x) (sym c.links-links.ensures) c.args.self.now.rising in
    subst (λ (x : List Link). LinksBelow x node c.partition_point.result) c.links-links.ensures
    (parted links node c.partition_point.result c.partition_point.ensures.bound
    (IsPartitionPoint-from_clause (λ (l : Link). ltb l.start node) links c.partition_point.result c.partition_point.ensures.partitioned
    (IsPartitionedBy-ltb (λ (l : Link). l.start) links node (starts_never_fall links rise)) (λ a r f' k. search rules)))
