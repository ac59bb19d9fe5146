-- What reading an image answers. Assumes nothing.
use Rattle.std.proofs.Common.{◌≡◌, ℕ, ◌+◌, Bool, true, false, cond, List, drop, Ok, Err, sym, refl, ap, ◌∙◌, subst}
use Rattle.network.specs.declared.draft.Draft.{Draft}
use Rattle.image.specs.declared.fault.ReadFault.{ReadFault}
use Rattle.image.specs.declared.fault.ReadFault.TheVariants.{ContentsWrong, RecordNotLaid}
use Rattle.network.specs.Plan.{Plan, empty}
use Rattle.network.specs.Laid.{drafted}
use Rattle.image.specs.Image.{links_told, turns_told, contents_right, records_in, Reading, holds, contents_wrong, not_laid, lay_all, decode}
use Rattle.image.specs.Steps.{Octets, reading_of}
use Rattle.image.specs.Reads.{Answers, Reads}
use Rattle.image.proofs.ReadBack.{image_back}

module _ (bs : List ℕ) (before : Plan) where
  abbrev bodies : Reading
  bodies = lay_all 0 empty (records_in 0 (links_told bs) (links_told bs + turns_told bs) (drop 16 bs))

  pub contents_refused : contents_right bs ≡ false → Reads bs before (Err ContentsWrong) before
  unfolding decode
  contents_refused wrong =
      subst (λ (x : Reading). Answers x bs before (Err ContentsWrong) before) (sym (ap (λ (b : Bool). cond b bodies contents_wrong) wrong)) (refl, refl)

  decode_is : contents_right bs ≡ true → (x : Reading) → x ≡ bodies → x ≡ decode bs
  unfolding decode
  decode_is right x e = e ∙ sym (ap (λ (b : Bool). cond b bodies contents_wrong) right)

  pub image_read : Octets bs → contents_right bs ≡ true → (d : Draft) → holds (drafted d) ≡ bodies → Reads bs before (Ok tt) (drafted d)
  image_read all right d e =
      subst (λ (x : Reading). Answers x bs before (Ok tt) (drafted d)) (decode_is right (holds (drafted d)) e)
      (refl, refl, image_back bs (drafted d) all right (sym e))

  pub image_refused : contents_right bs ≡ true → (fault : ReadFault) → reading_of (Err fault) ≡ bodies → Reads bs before (Err fault) before
  image_refused right ContentsWrong e =
      subst (λ (x : Reading). Answers x bs before (Err ContentsWrong) before) (decode_is right contents_wrong e) (refl, refl)
  image_refused right (RecordNotLaid n) e =
      subst (λ (x : Reading). Answers x bs before (Err (RecordNotLaid n)) before) (decode_is right (not_laid n) e) (refl, refl)

  -- the records as they were handed on
  pub bodies_are : (links turns : ℕ) (rest : List ℕ) → links ≡ links_told bs → turns ≡ turns_told bs → rest ≡ drop 16 bs
      → lay_all 0 empty (records_in 0 links (links + turns) rest) ≡ bodies
  bodies_are links turns rest l t r = rw (l, t, r) refl
