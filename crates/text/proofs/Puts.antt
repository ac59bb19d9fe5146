-- Bytes written into a buffer, one after another. Assumes nothing.
--     written_then    one part, and then the next behind it
--     put_part        a part of the buffer is overwritten
--     put_same        other bytes that are the same
--     put_next        bytes, and then bytes right after them, are one writing
--     put_more        the bytes of the first items, and then those of the next, are one writing
--     put_front       what is written at the front is followed by the rest of the buffer
use Rattle.std.proofs.Common.{◌≡◌, ℕ, ◌+◌, ◌<◌, ◌≤◌, List, [], ◌∷◌, ◌++◌, length, get_or, take, drop, sym, ap, ◌∙◌, subst, ap₂, append_assoc, arith, length-append, length-drop}
use Rattle.std.specs.List.{flat_map}
use Rattle.std.proofs.lemmas.List.{take_at, take_more, drop_at, drop-drop, flat_map_more, length-take-le}
use Rattle.text.specs.Put.{written, Put}

pub length_written : (at : ℕ) (bytes buffer : List ℕ) → at + length bytes ≤ length buffer → length (written at bytes buffer) ≡ length buffer
length_written at bytes buffer fits =
    let front = length-take-le at buffer (omega arith) in
    let back = length-drop (at + length bytes) buffer in
    let mid = length-append bytes (drop (at + length bytes) buffer) in
    let all = length-append (take at buffer) (bytes ++ drop (at + length bytes) buffer) in
    omega arith

pub written_then : (at : ℕ) (a b buffer : List ℕ) → at + length a ≤ length buffer
    → written (at + length a) b (written at a buffer) ≡ written at (a ++ b) buffer
written_then at a b buffer fits =
    let front = take at buffer ++ a in
    let past = at + length a in
    let rest = drop past buffer in
    let n : length front ≡ past = length-append (take at buffer) a ∙ ap (λ (x : ℕ). x + length a) (length-take-le at buffer (omega arith)) in
    let split : written at a buffer ≡ front ++ rest = sym (append_assoc (take at buffer) a rest) in
    let before : take past (written at a buffer) ≡ front = ap (take past) split ∙ take_at front rest past n in
    let behind : drop (past + length b) (written at a buffer) ≡ drop (at + length (a ++ b)) buffer =
    sym (drop-drop (length b) past (written at a buffer))
    ∙ ap (drop (length b)) (ap (drop past) split ∙ drop_at front rest past n)
    ∙ drop-drop (length b) past buffer
    ∙ ap (λ (x : ℕ). drop x buffer) (let e : past + length b ≡ at + length (a ++ b) = omega (arith, length-append a b) in e) in
    ap₂ (λ (x y : List ℕ). x ++ (b ++ y)) before behind
    ∙ append_assoc (take at buffer) a (b ++ drop (at + length (a ++ b)) buffer)
    ∙ ap (λ (x : List ℕ). take at buffer ++ x) (sym (append_assoc a b (drop (at + length (a ++ b)) buffer)))

pub put_same : {one two before after : List ℕ} {at end : ℕ} → one ≡ two → Put one before at after end → Put two before at after end
put_same {one} {two} {before} {after} {at} {end} same put = subst (λ (x : List ℕ). Put x before at after end) same put

pub put_next : {one two before mid after : List ℕ} {at first last : ℕ}
    → Put one before at mid first → Put two mid first after last → Put (one ++ two) before at after last
put_next {one} {two} {before} {mid} {after} {at} {first} {last} p q =
    let fits : at + length one ≤ length before = omega (arith, p.ends, p.fits) in
    let kept = ap length p.holds ∙ length_written at one before fits in
    record {
      ends = simp length-append (omega (arith, p.ends, q.ends));
      fits = omega (arith, q.fits, kept);
      holds = q.holds ∙ ap₂ (λ (n : ℕ) (x : List ℕ). written n two x) p.ends p.holds ∙ written_then at one two before fits;
    }

pub put_more : {X : Type 0} {x : X} {before mid after : List ℕ} {from at end : ℕ} (f : X → List ℕ) (xs : List X) (i : ℕ) (d : X)
    → i < length xs → x ≡ get_or xs i d
    → Put (flat_map f (take i xs)) before from mid at → Put (f x) mid at after end → Put (flat_map f (take (i + 1) xs)) before from after end
put_more {x = x} f xs i d inside is p q =
    let item : take i xs ++ (x ∷ []) ≡ take (i + 1) xs = ap (λ y. take i xs ++ (y ∷ [])) is ∙ sym (take_more xs i d inside) in
    put_same (flat_map_more f [] (take i xs) x ∙ ap (flat_map f) item) (put_next p q)

pub put_front : {bytes before after : List ℕ} {end : ℕ} → Put bytes before 0 after end → after ≡ bytes ++ drop end before
put_front {bytes} {before} {after} {end} p =
    let same : 0 + length bytes ≡ end = omega (arith, p.ends) in
    p.holds ∙ ap (λ (n : ℕ). bytes ++ drop n before) same
