-- Costs that come to no stop are plain sums. Assumes nothing.
--     sums_on    the rank after links is a sum, where each step adds its part and the whole is within the limit
--     no_stop    on a lawful plan that is so of at most 1,024 links
use Rattle.std.proofs.Common.{◌≡◌, ℕ, ◌+◌, ◌*◌, ◌≤◌, Bool, true, false, cond, List, [], ◌∷◌, length, refl, ap, ◌∙◌, arith}
use Rattle.network.specs.Plan.{Plan, Lawful, link}
use Rattle.network.specs.Roads.{turn}
use Rattle.measure.specs.Ranks.{Ranks, added}
use Rattle.measure.specs.Cost.{cost, onward, step}
use Rattle.measure.specs.Metres.{metres, most_metres}
use Rattle.measure.specs.TurnsFirst.{turns_first, one_turn, most_turns_first, is_turn}
use Rattle.measure.specs.Plain.{metres_after, turns_after, plain_metres, plain_turns, NoStop}
use Rattle.measure.proofs.Limits.{length_most, extra_most}

sums_on : (m : Ranks) (plan : Plan) (sum : ℕ → List ℕ → ℕ) (limit : ℕ)
    → ((a : ℕ) → sum a [] ≡ 0)
    → ((n a b : ℕ) (bs : List ℕ) → n + sum a (b ∷ bs) ≤ limit → step m plan n a b + sum b bs ≡ n + sum a (b ∷ bs))
    → (n a : ℕ) (bs : List ℕ) → n + sum a bs ≤ limit → onward m plan n a bs ≡ n + sum a bs
unfolding onward
sums_on m plan sum limit none more n a [] h = omega (arith, none a)
sums_on m plan sum limit none more n a (b ∷ bs) h =
    let on = more n a b bs h in sums_on m plan sum limit none more (step m plan n a b) b bs (omega arith) ∙ on

metres_on : (plan : Plan) (n a : ℕ) (bs : List ℕ)
    → n + metres_after plan a bs ≤ most_metres → onward metres plan n a bs ≡ n + metres_after plan a bs
unfolding metres_after
metres_on plan = sums_on metres plan (metres_after plan) most_metres (λ a. refl) (λ n a b bs h. omega arith)

-- turns and metres as one rank
rank_after : Plan → (a : ℕ) → List ℕ → ℕ
rank_after plan a bs = turns_after plan a bs * one_turn + metres_after plan a bs

turn_adds : (t : Bool) (n extra long turns rest : ℕ)
    → n + ((cond t 1 0 + turns) * one_turn + (extra + long + rest)) ≤ most_turns_first
    → added most_turns_first (added most_turns_first n (extra + cond t one_turn 0)) long + (turns * one_turn + rest)
    ≡ n + ((cond t 1 0 + turns) * one_turn + (extra + long + rest))
turn_adds true n extra long turns rest h = omega arith
turn_adds false n extra long turns rest h = omega arith

rank_on : (plan : Plan) (n a : ℕ) (bs : List ℕ)
    → n + rank_after plan a bs ≤ most_turns_first → onward turns_first plan n a bs ≡ n + rank_after plan a bs
unfolding rank_after metres_after turns_after
rank_on plan =
    sums_on turns_first plan (rank_after plan) most_turns_first (λ a. refl)
    (λ n a b bs h. turn_adds (is_turn (turn plan.turns a b).class) n _ _ (turns_after plan b bs) (metres_after plan b bs) h)

metres_after_most : (plan : Plan) → Lawful plan → (a : ℕ) (bs : List ℕ) → metres_after plan a bs ≤ 2000000 * length bs
unfolding metres_after
metres_after_most plan law a [] = omega arith
metres_after_most plan law a (b ∷ bs) =
    let long = length_most plan.links law.0 b in
    let extra = extra_most plan.turns law.1.1.0 a b in
    let rest = metres_after_most plan law b bs in
    omega arith

one_most : (t : Bool) → cond t 1 0 ≤ 1
one_most true = omega arith
one_most false = omega arith

turns_after_most : (plan : Plan) (a : ℕ) (bs : List ℕ) → turns_after plan a bs ≤ length bs
unfolding turns_after
turns_after_most plan a [] = omega arith
turns_after_most plan a (b ∷ bs) =
    let one = one_most (is_turn (turn plan.turns a b).class) in
    let rest = turns_after_most plan b bs in
    omega arith

pub no_stop : NoStop
unfolding rank_after
no_stop plan [] law short = record {
  metres_plain = refl;
  metres_most = omega arith;
  turns_most = omega arith;
  turns_first_plain = refl;
  turns_told = refl;
  metres_told = refl;
}
no_stop plan (a ∷ bs) law short =
    let l = (link plan.links a).length in
    let long = length_most plan.links law.0 a in
    let rest = metres_after_most plan law a bs in
    let turns = turns_after_most plan a bs in
    let metres_start : added most_metres 0 l ≡ l = omega arith in
    let rank_start : added most_turns_first 0 l ≡ l = omega arith in
    let rank : cost turns_first plan (a ∷ bs) ≡ plain_turns plan (a ∷ bs) * one_turn + plain_metres plan (a ∷ bs) =
    ap (λ n. onward turns_first plan n a bs) rank_start ∙ rank_on plan l a bs (omega arith) ∙ omega arith in
    record {
      metres_plain = ap (λ n. onward metres plan n a bs) metres_start ∙ metres_on plan l a bs (omega arith);
      metres_most = omega arith;
      turns_most = omega arith;
      turns_first_plain = rank;
      turns_told = omega arith;
      metres_told = omega arith;
    }
