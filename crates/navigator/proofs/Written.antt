-- A line of 1,024 numbers that was copied into a book. Assumes nothing.
use Rattle.std.proofs.Common.{◌≡◌, ℕ, ◌+◌, ◌-◌, ◌*◌, List, ◌++◌, take, drop, ap, ◌∙◌, ap₂, arith}
use borrow.Rule.Slice.PartMut.{put_mid}
use Rattle.std.proofs.lemmas.List.{drop-drop}

pub copied_in : (book line part : List ℕ) (i : ℕ) → part ≡ line
    → put_mid (1024 * i) (1024 * i + 1024 - 1024 * i) book part ≡ take (1024 * i) book ++ (line ++ drop (1024 * (i + 1)) book)
copied_in book line part i e =
    let ends : 1024 * i + (1024 * i + 1024 - 1024 * i) ≡ 1024 * (i + 1) = omega arith in
    ap₂ (λ (p q : List ℕ). take (1024 * i) book ++ (p ++ q)) e
    (drop-drop (1024 * i + 1024 - 1024 * i) (1024 * i) book ∙ ap (λ (n : ℕ). drop n book) ends)
