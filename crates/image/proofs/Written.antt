-- Bytes written into a buffer, one part after another. Assumes nothing.
use Rattle.std.proofs.Common.{◌≡◌, ℕ, ◌+◌, ◌*◌, List, [], ◌∷◌, ◌++◌, length, take, drop, refl, ap, ◌∙◌, arith, length-append}
use Rattle.std.specs.List.{flat_map}
use Rattle.std.proofs.lemmas.Grind.{flat_map-append}
use Rattle.std.proofs.lemmas.List.{take_at}
use Rattle.std.proofs.lemmas.List.Folds.{flat_map-map}
use Rattle.network.specs.Plan.{Plan}
use Rattle.image.specs.Image.{record_bytes, link_record, turn_record, contents, encode}
use Rattle.text.specs.Put.{written}

-- all of the bytes, where they were written at the front
pub take_written : (bytes buffer : List ℕ) → take (length bytes) (written 0 bytes buffer) ≡ bytes
take_written bytes buffer = take_at bytes (drop (0 + length bytes) buffer) (length bytes) refl

pub length_joined : {X : Type 0} (f : X → List ℕ) → ((x : X) → length (f x) ≡ 9) → (xs : List X) → length (flat_map f xs) ≡ 9 * length xs
length_joined f nine [] = refl
length_joined f nine (x ∷ xs) = omega (arith, length-append (f x) (flat_map f xs), nine x, length_joined f nine xs)

-- the image in its three parts
pub encode_parts : (p : Plan) → encode p
    ≡ contents (length p.links) (length p.turns) ++ (flat_map (λ l. record_bytes (link_record l)) p.links ++ flat_map (λ t. record_bytes (turn_record t)) p.turns)
unfolding encode
encode_parts p = simp (flat_map-append, flat_map-map)

pub length_encode : (p : Plan) → length (encode p) ≡ 16 + 9 * (length p.links + length p.turns)
length_encode p =
    let ls = flat_map (λ l. record_bytes (link_record l)) p.links in
    let ts = flat_map (λ t. record_bytes (turn_record t)) p.turns in
    let l : length ls ≡ 9 * length p.links = length_joined (λ l. record_bytes (link_record l)) (λ _. refl) p.links in
    let t : length ts ≡ 9 * length p.turns = length_joined (λ t. record_bytes (turn_record t)) (λ _. refl) p.turns in
    ap length (encode_parts p) ∙ omega (arith, length-append ls ts)
