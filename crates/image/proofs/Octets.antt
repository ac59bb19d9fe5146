-- Bytes and the numbers that they stand for. Assumes nothing.
use Rattle.std.proofs.Common.{◌≡◌, ℕ, ◌+◌, ◌*◌, ◌/◌, ◌%◌, ◌<◌, ◌≤◌, List, [], ◌∷◌, ◌++◌, length, get_or, take, drop, sym, refl, ap, ◌∙◌, ap₂, arith, length-drop}
use Rattle.std.proofs.lemmas.List.{get_or-drop}
use Rattle.std.proofs.lemmas.Nat.{from_be_bytes-to_be_bytes_2, from_be_bytes-to_be_bytes_4}
use Rattle.image.specs.Image.{two, four, four_at, record_bytes, link_in, turn_in}
use Rattle.image.specs.Steps.{Octets}

-- the bytes of a number that was read
pub two_back : (a b : ℕ) → a < 256 → b < 256 → two (a * 256 + b) ≡ a ∷ b ∷ []
two_back a b p q =
    ap₂ (λ (x y : ℕ). x ∷ y ∷ []) (let e : (a * 256 + b) / 256 % 256 ≡ a = omega arith in e) (let e : (a * 256 + b) % 256 ≡ b = omega arith in e)

pub four_back : (a b c d : ℕ) → a < 256 → b < 256 → c < 256 → d < 256
    → four (a * 16777216 + b * 65536 + c * 256 + d) ≡ a ∷ b ∷ c ∷ d ∷ []
four_back a b c d p q r s =
    let n = a * 16777216 + b * 65536 + c * 256 + d in
    let e3 : n / 16777216 % 256 ≡ a = omega arith in
    let e2 : n / 65536 % 256 ≡ b = omega arith in
    let e1 : n / 256 % 256 ≡ c = omega arith in
    let e0 : n % 256 ≡ d = omega arith in
    cc

-- the number that its bytes are read as
pub two_again : (n : ℕ) → n < 65536 → n / 256 % 256 * 256 + n % 256 ≡ n
two_again = from_be_bytes-to_be_bytes_2

pub four_again : (n : ℕ) → n < 4294967296
    → n / 16777216 % 256 * 16777216 + n / 65536 % 256 * 65536 + n / 256 % 256 * 256 + n % 256 ≡ n
four_again = from_be_bytes-to_be_bytes_4

pub octets_drop : (k : ℕ) (bs : List ℕ) → Octets bs → Octets (drop k bs)
octets_drop k bs all i h =
    let e = get_or-drop k bs i 0 in
    let l = length-drop k bs in
    let b = all (k + i) (omega arith) in
    omega arith

-- the first bytes, written out
pub eight : (bs : List ℕ) → 8 ≤ length bs
    → take 8 bs ≡ get_or bs 0 0 ∷ get_or bs 1 0 ∷ get_or bs 2 0 ∷ get_or bs 3 0 ∷ get_or bs 4 0 ∷ get_or bs 5 0 ∷ get_or bs 6 0 ∷ get_or bs 7 0 ∷ []
eight [] l = absurd (omega arith)
eight (a ∷ []) l = absurd (omega arith)
eight (a ∷ b ∷ []) l = absurd (omega arith)
eight (a ∷ b ∷ c ∷ []) l = absurd (omega arith)
eight (a ∷ b ∷ c ∷ d ∷ []) l = absurd (omega arith)
eight (a ∷ b ∷ c ∷ d ∷ e ∷ []) l = absurd (omega arith)
eight (a ∷ b ∷ c ∷ d ∷ e ∷ f ∷ []) l = absurd (omega arith)
eight (a ∷ b ∷ c ∷ d ∷ e ∷ f ∷ g ∷ []) l = absurd (omega arith)
eight (a ∷ b ∷ c ∷ d ∷ e ∷ f ∷ g ∷ h ∷ rest) l = refl

pub nine : (bs : List ℕ) → 9 ≤ length bs
    → take 9 bs ≡ get_or bs 0 0 ∷ get_or bs 1 0 ∷ get_or bs 2 0 ∷ get_or bs 3 0 ∷ get_or bs 4 0 ∷ get_or bs 5 0 ∷ get_or bs 6 0 ∷ get_or bs 7 0 ∷ get_or bs 8 0 ∷ []
nine [] l = absurd (omega arith)
nine (a ∷ bs) l = ap (λ (x : List ℕ). a ∷ x) (eight bs (omega arith))

-- a record that was read has the bytes that it was read from
pub link_back : (bs : List ℕ) → 9 ≤ length bs → Octets bs → record_bytes (link_in bs) ≡ take 9 bs
link_back bs l all =
    let start = two_back (get_or bs 0 0) (get_or bs 1 0) (all 0 (omega arith)) (all 1 (omega arith)) in
    let end = two_back (get_or bs 2 0) (get_or bs 3 0) (all 2 (omega arith)) (all 3 (omega arith)) in
    let metres = four_back (get_or bs 4 0) (get_or bs 5 0) (get_or bs 6 0) (get_or bs 7 0) (all 4 (omega arith)) (all 5 (omega arith)) (all 6 (omega arith)) (all 7 (omega arith)) in
    ap₂ (λ (x y : List ℕ). x ++ (y ++ (four (four_at bs 4) ++ (get_or bs 8 0 ∷ [])))) start end
    ∙ ap (λ (x : List ℕ). get_or bs 0 0 ∷ get_or bs 1 0 ∷ get_or bs 2 0 ∷ get_or bs 3 0 ∷ (x ++ (get_or bs 8 0 ∷ []))) metres
    ∙ sym (nine bs l)

pub turn_back : (bs : List ℕ) → 9 ≤ length bs → Octets bs → record_bytes (turn_in bs) ≡ take 9 bs
turn_back bs l all =
    let into = two_back (get_or bs 0 0) (get_or bs 1 0) (all 0 (omega arith)) (all 1 (omega arith)) in
    let out = two_back (get_or bs 2 0) (get_or bs 3 0) (all 2 (omega arith)) (all 3 (omega arith)) in
    let extra = four_back (get_or bs 5 0) (get_or bs 6 0) (get_or bs 7 0) (get_or bs 8 0) (all 5 (omega arith)) (all 6 (omega arith)) (all 7 (omega arith)) (all 8 (omega arith)) in
    ap₂ (λ (x y : List ℕ). x ++ (y ++ (get_or bs 4 0 ∷ four (four_at bs 5)))) into out
    ∙ ap (λ (x : List ℕ). get_or bs 0 0 ∷ get_or bs 1 0 ∷ get_or bs 2 0 ∷ get_or bs 3 0 ∷ get_or bs 4 0 ∷ x) extra
    ∙ sym (nine bs l)
