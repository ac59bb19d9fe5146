-- Laying the records of an image, one after another. Assumes nothing.
use Rattle.std.proofs.Common.{◌≡◌, ℕ, suc, ◌+◌, ◌-◌, ◌<◌, ◌≤◌, Bool, true, false, cond, List, ◌∷◌, drop, is_err, Ok, Err, Option, Result, sym, refl, ap, ◌∙◌, arith}
use Rattle.std.specs.Result.{result_or}
use Rattle.std.proofs.lemmas.Bool.{lt-ltb, le-ltb}
use Rattle.network.specs.declared.record.Record.{Record}
use Rattle.network.specs.declared.refusal.Refusal.{Refusal}
use Rattle.network.specs.Refusals.{refusal_in}
use Rattle.network.specs.Plan.{Plan}
use Rattle.network.specs.Laying.{record_refusal, with_record}
use Rattle.image.specs.declared.fault.ReadFault.{ReadFault}
use Rattle.image.specs.Image.{link_in, turn_in, record_in, records_in, Reading, not_laid, laid_or, lay_all}

pub link_comes : (i links : ℕ) (bs : List ℕ) → i < links → record_in i links bs ≡ link_in bs
link_comes i links bs h = ap (λ (b : Bool). cond b (link_in bs) (turn_in bs)) (lt-ltb i links h)

pub turn_comes : (i links : ℕ) (bs : List ℕ) → links ≤ i → record_in i links bs ≡ turn_in bs
turn_comes i links bs h = ap (λ (b : Bool). cond b (link_in bs) (turn_in bs)) (le-ltb i links h)

pub records_more : (i links n : ℕ) (bs : List ℕ) → 0 < n
    → records_in i links n bs ≡ record_in i links bs ∷ records_in (i + 1) links (n - 1) (drop 9 bs)
unfolding records_in
records_more i links n bs h = ap (λ (m : ℕ). records_in i links m bs) (let e : n ≡ suc (n - 1) = omega arith in e)

refused_or_laid : {A : Type 0} (r : Result A Refusal) (o : Option ℕ) (laid refused : Reading) → refusal_in r ≡ o
    → laid_or o laid refused ≡ cond (is_err r) refused laid
refused_or_laid (Ok a) o laid refused e = ap (λ (x : Option ℕ). laid_or x laid refused) (sym e)
refused_or_laid (Err f) o laid refused e = ap (λ (x : Option ℕ). laid_or x laid refused) (sym e)

-- one record more: it is refused, or laid and the others follow
pub record_next : (i links n : ℕ) (bs : List ℕ) (p : Plan) (r : Result (Unit {0}) Refusal) → 0 < n
    → refusal_in r ≡ record_refusal p (record_in i links bs)
    → lay_all i p (records_in i links n bs)
    ≡ cond (is_err r) (not_laid (i + 1)) (lay_all (i + 1) (with_record p (record_in i links bs)) (records_in (i + 1) links (n - 1) (drop 9 bs)))
unfolding lay_all
record_next i links n bs p r h e =
    ap (λ (rs : List Record). lay_all i p rs) (records_more i links n bs h)
    ∙ refused_or_laid r (record_refusal p (record_in i links bs))
    (lay_all (i + 1) (with_record p (record_in i links bs)) (records_in (i + 1) links (n - 1) (drop 9 bs))) (not_laid (i + 1)) e

-- what laying a record answers, with its refusal told by the number of the record
pub was_refused : (r : Result (Unit {0}) Refusal) (fault told : ReadFault) → Err fault ≡ result_or r (Err told) → (is_err r ≡ true) × (fault ≡ told)
was_refused (Ok u) fault told e = cc
was_refused (Err f) fault told e = (refl, cc)

pub was_laid : (r : Result (Unit {0}) Refusal) (u : Unit {0}) (told : ReadFault) → Ok u ≡ result_or r (Err told) → is_err r ≡ false
was_laid (Ok v) u told e = refl
was_laid (Err f) u told e = cc
