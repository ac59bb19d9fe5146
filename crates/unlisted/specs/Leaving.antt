-- Where a route leaves listed routes.
--     Question                a trip over roads, and its listed routes, so many, counted from 0
--     agree r s               how many links at the front of r and of s are the same
--     one_goes_on routes n r k b   of the first n routes, one that has the first k links of r goes on with link b; where b is 0, it
--                             ends there
--     goes_on q r k b         so does one of the listed routes
--     Leaves q r k w          w has the first k links of r, and goes on or ends as no listed route does that has them too
--     LeftAt q r k w          w is a simple route that so leaves the listed ones
--     Left q j w              w is a simple route that leaves the listed ones along one of the first j
--     LeftLate q j k w        so it is, or it leaves them along route j after k links or more
use Rattle.std.specs.Prelude.{◌≡◌, ℕ, zero, suc, ◌<◌, ◌≤◌, Bool, false, ◌&&◌, ◌||◌, ◌⊎◌, List, ◌==◌, nat_eq, nat_le, slice_index}
use Rattle.std.specs.List.{common_prefix_len}
use Rattle.network.specs.Roads.{Roads}
use Rattle.routing.specs.Route.{Simple}

pub record Question : Type 0 where
  pub roads : Roads
  pub from : ℕ
  pub to : ℕ
  pub routes : ℕ → List ℕ
  pub listed : ℕ

unfoldable pub agree : List ℕ → List ℕ → ℕ
agree r s = common_prefix_len nat_eq r s

-- of the first n routes
unfoldable pub one_goes_on : (ℕ → List ℕ) → (n : ℕ) → (r : List ℕ) → (k b : ℕ) → Bool
one_goes_on routes zero r k b = false
one_goes_on routes (suc n) r k b = one_goes_on routes n r k b || (nat_le k (agree (routes n) r) && slice_index (routes n) k == b)

abbrev pub goes_on : Question → List ℕ → (k b : ℕ) → Bool
goes_on q r k b = one_goes_on q.routes q.listed r k b

abbrev pub Leaves : Question → List ℕ → ℕ → List ℕ → Type 0
Leaves q r k w = (k ≤ agree r w) × (goes_on q r k (slice_index w k) ≡ false)

abbrev pub LeftAt : Question → List ℕ → ℕ → List ℕ → Type 0
LeftAt q r k w = Simple q.roads q.from q.to w × Leaves q r k w

abbrev pub Left : Question → ℕ → List ℕ → Type 0
Left q j w = (i k : ℕ) × (i < j) × LeftAt q (q.routes i) k w

abbrev pub LeftLate : Question → (j k : ℕ) → List ℕ → Type 0
LeftLate q j k w = Left q j w ⊎ ((n : ℕ) × (k ≤ n) × LeftAt q (q.routes j) n w)
