-- The links below a node, where the starts never fall. Assumes nothing.
use Rattle.std.proofs.Common.{◌≡◌, ℕ, ◌+◌, ◌-◌, ◌<◌, ◌≤◌, true, false, ltb, List, length, get_or, arith}
use Rattle.std.specs.List.Sorted.{IsNonDecreasingBy, IsPartitionPoint}
use Rattle.std.proofs.lemmas.List.Sorted.{IsNonDecreasingBy-from_all_adjacent}
use Rattle.std.proofs.lemmas.Bool.{ltb-true, ltb-false}
use Rattle.std.proofs.lemmas.List.{get_or_default}
use Rattle.network.specs.declared.link.Link.{Link}
use Rattle.network.specs.Plan.{no_link, StartsRise}
use Rattle.network.specs.Roads.{LinksBelow}

-- the starts never fall over any number of links
pub starts_never_fall : (links : List Link) → StartsRise links → IsNonDecreasingBy (λ (l : Link). l.start) links
starts_never_fall links rise =
    IsNonDecreasingBy-from_all_adjacent (λ (l : Link). l.start) links
    (λ k d h. rw (get_or_default links k d no_link (omega arith), get_or_default links (k + 1) d no_link h) (rise k h))

-- a place of which the neighbours fit is right
pub divided : (links : List Link) (node count : ℕ) → StartsRise links → count ≤ length links
    → (0 < count → (get_or links (count - 1) no_link).start < node) → (count < length links → node ≤ (get_or links count no_link).start)
    → LinksBelow links node count
divided links node count rise within low high = record {
  within = within;
  lower = λ i h. let up = starts_never_fall links rise i (count - 1) no_link (omega arith) (omega arith) in let last = low (omega arith) in omega arith;
  others = λ i h l. let up = starts_never_fall links rise count i no_link h l in let first = high (omega arith) in omega arith;
}

pub parted : (links : List Link) (node count : ℕ) → count ≤ length links
    → IsPartitionPoint (λ (l : Link). ltb l.start node ≡ true) (λ (l : Link). ltb l.start node ≡ false) links count → LinksBelow links node count
parted links node count within p = record {
  within = within;
  lower = λ i h. ltb-true _ _ (p.0 i no_link (omega arith) h);
  others = λ i h l. ltb-false _ _ (p.1 i no_link h l);
}
