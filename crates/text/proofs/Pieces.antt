-- The words of a line, from the blanks at its front on.
use Rattle.std.proofs.Common.{◌≡◌, ℕ, zero, suc, ◌<◌, ◌≤◌, true, false, ltb, List, [], ◌∷◌, length, get_or, take, drop, filter, not, sym, refl, ap, ◌∙◌, inl, inr, arith, length-drop}
use Rattle.std.specs.List.{position, position_or_len}
use Rattle.std.specs.Option.{unwrap_or}
use Rattle.std.proofs.lemmas.List.{length-take-le, get_or-drop}
use Rattle.std.proofs.lemmas.List.Sums.{fails_before_first, passes_at_first, prefix_len-le-length}
use Rattle.std.proofs.lemmas.Bool.{cases_lt, lt-ltb, le-ltb, false≢true}
use Rattle.text.specs.Lines.{onto_first}
use Rattle.text.specs.Words.{blank, pieces, words}

-- blanks at the front leave the words as they are
pub words_past_blanks : (line : List ℕ) (i : ℕ) → i ≤ length line → ((k : ℕ) → k < i → blank (get_or line k 0) ≡ true)
    → words line ≡ words (drop i line)
unfolding words pieces
words_past_blanks line zero inside before = refl
words_past_blanks [] (suc i) inside before = refl
words_past_blanks (b ∷ line) (suc i) inside before =
    rw (before 0 (omega arith)) (words_past_blanks line i (omega arith) (λ k h. before (suc k) (omega arith)))

-- a line of blanks has no words
pub no_words : (line : List ℕ) → ((k : ℕ) → k < length line → blank (get_or line k 0) ≡ true) → words line ≡ []
unfolding words pieces
no_words [] all = refl
no_words (b ∷ line) all = rw (all 0 (omega arith)) (no_words line (λ k h. all (suc k) (omega arith)))

-- the first piece is the run of n bytes at the front, and the words past the run are the other pieces that are not empty
pieces_from_run : (line : List ℕ) (n : ℕ) → n ≤ length line → ((k : ℕ) → k < n → blank (get_or line k 0) ≡ false)
    → (n < length line → blank (get_or line n 0) ≡ true)
    → (others : List (List ℕ)) × (pieces line ≡ take n line ∷ others) × (words (drop n line) ≡ filter (λ piece. ltb 0 (length piece)) others)
unfolding words pieces
pieces_from_run [] zero inside before end = ([], refl, refl)
pieces_from_run [] (suc n) inside before end = absurd (omega arith)
pieces_from_run (b ∷ line) zero inside before end =
    rw (end (omega arith)) (pieces line, refl, refl)
pieces_from_run (b ∷ line) (suc n) inside before end =
    let rest = pieces_from_run line n (omega arith) (λ k h. before (suc k) (omega arith)) (λ h. end (omega arith)) in
    rw (before 0 (omega arith)) (rest.0, ap (onto_first b) rest.1, rest.2)

-- a run at the front is the first word
pub words_from_run : (line : List ℕ) (n : ℕ) → 0 < n → n ≤ length line → ((k : ℕ) → k < n → blank (get_or line k 0) ≡ false)
    → (n < length line → blank (get_or line n 0) ≡ true) → words line ≡ take n line ∷ words (drop n line)
unfolding words
words_from_run line n some inside before end =
    let found = pieces_from_run line n inside before end in
    let long = length-take-le n line inside in
    let kept = lt-ltb 0 (length (take n line)) (omega arith) in
    ap (filter (λ piece. ltb 0 (length piece))) found.1 ∙ rw kept (ap (λ (others : List (List ℕ)). take n line ∷ others) (sym found.2))

-- where the first blank stands, or where the line ends
pub first_blank : (line : List ℕ) → unwrap_or (position blank line) (length line) ≡ position_or_len blank line
first_blank line =
    elim (cases_lt (position_or_len blank line) (length line)) [
      | inl h ↦ rw (lt-ltb (position_or_len blank line) (length line) h) refl
      | inr h ↦ rw (le-ltb (position_or_len blank line) (length line) h) (omega (arith, prefix_len-le-length (λ b. not (blank b)) line))
    ]

-- past the blanks at the front the first word goes on to the next blank
pub words_from_first : (line : List ℕ) (i : ℕ) → i < length line → ((k : ℕ) → k < i → blank (get_or line k 0) ≡ true) → blank (get_or line i 0) ≡ false
    → (n : ℕ) → n ≡ position_or_len blank (drop i line)
    → (words line ≡ take n (drop i line) ∷ words (drop n (drop i line))) × (0 < n) × (n ≤ length (drop i line))
words_from_first line i inside before here n is =
    let rest = drop i line in
    let first : get_or rest 0 0 ≡ get_or line i 0 = get_or-drop i line 0 0 ∙ ap (λ (k : ℕ). get_or line k 0) (omega arith) in
    let clear = λ (k : ℕ) (h : k < n). fails_before_first blank rest k 0 (omega arith) in
    let stop = λ (h : n < length rest). rw (← is) at (passes_at_first blank rest 0 (omega arith)) in
    let short : n ≤ length rest = omega (arith, prefix_len-le-length (λ b. not (blank b)) rest) in
    let some : 0 < n = elim (cases_lt 0 n) [
      | inl h ↦ h
      | inr h ↦
          let none : position_or_len blank rest ≡ 0 = omega arith in
          let yes = passes_at_first blank rest 0 (omega (arith, length-drop i line)) in
          absurd (false≢true (sym here ∙ ap blank (sym first) ∙ ap (λ (k : ℕ). blank (get_or rest k 0)) (sym none) ∙ yes))
    ] in
    (words_past_blanks line i (omega arith) before ∙ words_from_run rest n some short clear stop, some, short)
