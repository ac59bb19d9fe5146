-- The command that is read is the one that the line says.
use Rattle.std.proofs.Common.{◌≡◌, ℕ, Bool, true, false, cond, ◌&&◌, eqb, ltb, ◌⊎◌, List, [], ◌∷◌, ◌++◌, length, Some, None, codes, decimal, sym, refl, ap, ◌∙◌, subst, ap₂, inl, inr, arith}
use Rattle.std.specs.Str.{bytes_eq}
use Rattle.std.proofs.lemmas.Slice.Eq.{bytes_eq-Decides}
use Rattle.std.proofs.lemmas.Bool.{and_parts, eqb-true, lt-ltb}
use Rattle.text.specs.Numbers.{number_of}
use Rattle.console.specs.declared.command.Command.{Command}
use Rattle.console.specs.declared.command.Command.TheVariants.{Ask, Next, Trial, End, Close, Open, Turn}
use Rattle.console.specs.Commands.{Short, Sayable, line_of, Says}
use Rattle.text.specs.Parts.{◌⊛◌}
use Rattle.text.specs.Cuts.{cut_at}
use Rattle.console.specs.Cuts.{cut, ask, ask_of, lettered, turn, turn_of, on_link, command_by, command_of}
use Rattle.console.proofs.Blanks.{some_same, never, two_parts, three_parts, then_parts, cut_says, cut_read}
use Rattle.console.proofs.Figures.{number_says, number_read, no_blank}

-- a number's decimal, up to the blank behind it
cut_decimal : (n : ℕ) (rest : List ℕ) → Short n → cut (decimal n ++ (32 ∷ rest)) ≡ Some (decimal n, rest)
cut_decimal n rest small = cut_read (decimal n) rest (no_blank n small)

-- the first byte, and what stands after the blank behind it
lettered_read : (letter : ℕ) (rest : List ℕ) → lettered (letter ∷ (32 ∷ rest)) ≡ Some (letter, rest)
lettered_read letter rest = rw (lt-ltb 1 (length (letter ∷ (32 ∷ rest))) (omega arith)) refl

ask_read : (a b : ℕ) → Short a → Short b → ask_of (decimal a ++ (32 ∷ decimal b)) ≡ Some (Ask a b)
ask_read a b small small' = rw (cut_decimal a (decimal b) small, number_read a small, number_read b small')

turn_read : (i o l e : ℕ) → Short i → Short o → Short e → turn_of (decimal i ++ (32 ∷ (decimal o ++ (32 ∷ (l ∷ (32 ∷ decimal e)))))) ≡ Some (Turn i o l e)
turn_read i o l e small small' small'' =
    rw (cut_decimal i (decimal o ++ (32 ∷ (l ∷ (32 ∷ decimal e)))) small)
    (rw (cut_decimal o (l ∷ (32 ∷ decimal e)) small')
    (rw (lettered_read l (decimal e), number_read i small, number_read o small', number_read e small'')))

-- the line of a command is read as the command
pub command_read : (d : Command) → Sayable d → command_of (line_of d) ≡ Some d
unfolding cut_at
command_read (Ask a b) s = ask_read a b s.0 s.1
command_read Next s = refl
command_read (Trial n) s = rw (number_read n s)
command_read End s = refl
command_read (Close n) s = rw (number_read n s)
command_read (Open n) s = rw (number_read n s)
command_read (Turn i o l e) s = turn_read i o l e s.0 s.1 s.2

-- the two ways of a choice
cond_parts : {A : Type 0} (b : Bool) (x y z : A) → cond b x y ≡ z → ((b ≡ true) × (x ≡ z)) ⊎ (y ≡ z)
cond_parts true x y z e = inl (refl, e)
cond_parts false x y z e = inr e

lettered_says : (text : List ℕ) (l : ℕ × List ℕ) → lettered text ≡ Some l → text ≡ l.0 ∷ (32 ∷ l.1)
lettered_says [] l e = never e
lettered_says (a ∷ []) l e = never e
lettered_says (a ∷ b ∷ text) l e =
    elim (cond_parts (ltb 1 (length (a ∷ b ∷ text)) && eqb b 32) (Some (a, text)) None (Some l) e) [
      | inl p ↦
          let blank = eqb-true b 32 (and_parts (ltb 1 (length (a ∷ b ∷ text))) (eqb b 32) p.0).1 in
          let same : (a, text) ≡ l = some_same p.1 in
          subst (λ (q : ℕ × List ℕ). a ∷ b ∷ text ≡ q.0 ∷ (32 ∷ q.1)) same (ap (λ (x : ℕ). a ∷ x ∷ text) blank)
      | inr no_way ↦ never no_way
    ]

ask_fields : (fields from to : List ℕ) (a b : ℕ) → fields ≡ from ++ (32 ∷ to) → from ≡ decimal a → to ≡ decimal b → fields ≡ decimal a ++ (32 ∷ decimal b)
ask_fields fields from to a b cuts first last = cc

turn_fields : (fields into rest out end extra : List ℕ) (i o l x : ℕ)
    → fields ≡ into ++ (32 ∷ rest) → rest ≡ out ++ (32 ∷ end) → end ≡ l ∷ (32 ∷ extra) → into ≡ decimal i → out ≡ decimal o → extra ≡ decimal x
    → fields ≡ decimal i ++ (32 ∷ (decimal o ++ (32 ∷ (l ∷ (32 ∷ decimal x)))))
turn_fields fields into rest out end extra i o l x cuts cuts' letter first second last = cc

-- what a line says, where it is cut at its first blank
module _ (line : List ℕ) (p : List ℕ × List ℕ) (cuts : line ≡ p.0 ++ (32 ∷ p.1)) where
  -- the line, where its first word and its fields are known
  known : (word fields : List ℕ) → bytes_eq p.0 word ≡ true → p.1 ≡ fields → line ≡ word ++ (32 ∷ fields)
  known word fields w f = cuts ∙ ap₂ (λ (x y : List ℕ). x ++ (32 ∷ y)) ((bytes_eq-Decides p.0 word).0 w) f

  on_link_says : (n : ℕ) (c : Command) → Short n → p.1 ≡ decimal n → on_link p.0 n ≡ Some c → Says line c
  on_link_says n c small is e =
      elim (cond_parts (bytes_eq p.0 (codes "trial")) _ _ _ e) [
        | inl t ↦ subst (Says line) (some_same t.1) (small, known (codes "trial") (decimal n) t.0 is)
        | inr e' ↦ elim (cond_parts (bytes_eq p.0 (codes "close")) _ _ _ e') [
          | inl t ↦ subst (Says line) (some_same t.1) (small, known (codes "close") (decimal n) t.0 is)
          | inr e'' ↦ elim (cond_parts (bytes_eq p.0 (codes "open")) _ _ _ e'') [
            | inl t ↦ subst (Says line) (some_same t.1) (small, known (codes "open") (decimal n) t.0 is)
            | inr no_way ↦ never no_way
          ]
        ]
      ]

  ask_says : (c : Command) → bytes_eq p.0 (codes "ask") ≡ true → ask_of p.1 ≡ Some c → Says line c
  ask_says c w e =
      let at = then_parts (cut p.1) (λ q. Some ask ⊛ number_of q.0 ⊛ number_of q.1) c e in
      let q = at.0 in
      let both = two_parts ask (number_of q.0) (number_of q.1) c at.2 in
      let from = number_says q.0 both.0 both.2 in
      let to = number_says q.1 both.1 both.3 in
      let fields = ask_fields p.1 q.0 q.1 both.0 both.1 (cut_says p.1 q at.1) from.1 to.1 in
      subst (Says line) both.4 ((from.0, to.0), known (codes "ask") (decimal both.0 ++ (32 ∷ decimal both.1)) w fields)

  turn_says : (c : Command) → bytes_eq p.0 (codes "turn") ≡ true → turn_of p.1 ≡ Some c → Says line c
  turn_says c w e =
      let at = then_parts (cut p.1) _ c e in
      let q = at.0 in
      let at' = then_parts (cut q.1) _ c at.2 in
      let r = at'.0 in
      let at'' = then_parts (lettered r.1) _ c at'.2 in
      let l = at''.0 in
      let all = three_parts (turn l.0) (number_of q.0) (number_of r.0) (number_of l.1) c at''.2 in
      let into = number_says q.0 all.0 all.3 in
      let out = number_says r.0 all.1 all.4 in
      let extra = number_says l.1 all.2 all.5 in
      let fields = turn_fields p.1 q.0 q.1 r.0 r.1 l.1 all.0 all.1 l.0 all.2
      (cut_says p.1 q at.1) (cut_says q.1 r at'.1) (lettered_says r.1 l at''.1) into.1 out.1 extra.1 in
      let text = decimal all.0 ++ (32 ∷ (decimal all.1 ++ (32 ∷ (l.0 ∷ (32 ∷ decimal all.2))))) in
      subst (Says line) {x = turn l.0 all.0 all.1 all.2} all.6 ((into.0, out.0, extra.0), known (codes "turn") text w fields)

  fields_say : (c : Command) → command_by p.0 p.1 ≡ Some c → Says line c
  fields_say c e =
      elim (cond_parts (bytes_eq p.0 (codes "ask")) _ _ _ e) [
        | inl t ↦ ask_says c t.0 t.1
        | inr e' ↦ elim (cond_parts (bytes_eq p.0 (codes "turn")) _ _ _ e') [
          | inl t ↦ turn_says c t.0 t.1
          | inr e'' ↦
              let at = then_parts (number_of p.1) (on_link p.0) c e'' in
              let link = number_says p.1 at.0 at.1 in
              on_link_says at.0 c link.0 link.1 at.2
        ]
      ]

-- the command that is read is said by the line
pub command_says : (line : List ℕ) (c : Command) → command_of line ≡ Some c → Says line c
command_says line c e =
    elim (cond_parts (bytes_eq line (codes "next")) _ _ _ e) [
      | inl t ↦ subst (Says line) (some_same t.1) (tt, (bytes_eq-Decides line (codes "next")).0 t.0)
      | inr e' ↦ elim (cond_parts (bytes_eq line (codes "end")) _ _ _ e') [
        | inl t ↦ subst (Says line) (some_same t.1) (tt, (bytes_eq-Decides line (codes "end")).0 t.0)
        | inr e'' ↦
            let at = then_parts (cut line) (λ p. command_by p.0 p.1) c e'' in
            fields_say line at.0 (cut_says line at.0 at.1) c at.2
      ]
    ]

-- the line says no other command, and none where none is read
pub only_command : (line : List ℕ) (c : Command) → command_of line ≡ Some c → (d : Command) → Says line d → d ≡ c
only_command line c e d s = some_same (sym (command_read d s.0) ∙ ap command_of (sym s.1) ∙ e)

pub no_command : (line : List ℕ) → command_of line ≡ None → (d : Command) → Says line d → ⊥
no_command line e d s = never (sym e ∙ ap command_of s.1 ∙ command_read d s.0)
