-- What writing an image answers. Assumes nothing.
use Rattle.std.proofs.Common.{◌≡◌, ℕ, ◌+◌, ◌*◌, ◌<◌, ◌≤◌, Bool, List, length, take, Some, Ok, Err, MatchBool, Result, sym, refl, ap, ◌∙◌, subst, arith}
use Rattle.std.proofs.lemmas.Bool.{lt-ltb, le-ltb}
use Rattle.network.specs.declared.refusal.Refusal.{Refusal}
use Rattle.network.specs.declared.refusal.Refusal.TheVariants.{BufferTooShort}
use Rattle.network.specs.Refusals.{refusal_in}
use Rattle.network.specs.Plan.{Plan, Lawful}
use Rattle.image.specs.Image.{encode, decode, holds}
use Rattle.text.specs.Put.{written, Put}
use Rattle.image.specs.Writes.{Writes}
use Rattle.image.proofs.Written.{length_encode, take_written}
use Rattle.image.proofs.WriteBack.{image_again}

module _ (p : Plan) (before : List ℕ) where
  pub refused_short : length before < 16 + 9 * (length p.links + length p.turns) → Writes p before (Err BufferTooShort) before
  refused_short short =
      let e = lt-ltb (length before) (length (encode p)) (omega (arith, length_encode p)) in
      subst (λ (b : Bool). MatchBool b ((refusal_in {A = ℕ} (Err BufferTooShort) ≡ Some 19) × (before ≡ before))
      ((◌≡◌ {A = Result ℕ Refusal} (Err BufferTooShort) (Ok (length (encode p)))) × (before ≡ written 0 (encode p) before)
      × (decode (take (length (encode p)) before) ≡ holds p))) (sym e) (refl, refl)

  pub image_written : length p.links ≤ 1024 → length p.turns ≤ 2048 → Lawful p
      → (n : ℕ) (after : List ℕ) → Put (encode p) before 0 after n → Writes p before (Ok n) after
  image_written few few' laws n after put =
      let size : n ≡ length (encode p) = omega (arith, put.ends) in
      let e = le-ltb (length before) (length (encode p)) (omega (arith, put.fits)) in
      let back : decode (take (length (encode p)) after) ≡ holds p =
      ap (λ (x : List ℕ). decode (take (length (encode p)) x)) put.holds ∙ ap decode (take_written (encode p) before) ∙ image_again p few few' laws in
      subst (λ (b : Bool). MatchBool b ((refusal_in (Ok n) ≡ Some 19) × (after ≡ before))
      ((◌≡◌ {A = Result ℕ Refusal} (Ok n) (Ok (length (encode p)))) × (after ≡ written 0 (encode p) before) × (decode (take (length (encode p)) after) ≡ holds p)))
      (sym e) (ap Ok size, put.holds, back)
