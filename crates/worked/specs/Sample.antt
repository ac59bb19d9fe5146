-- The sample map, as it is laid.
use Rattle.std.specs.Prelude.{ℕ, [], ◌∷◌}
use Rattle.network.specs.declared.link.Link.{Link}
use Rattle.network.specs.declared.turn.Turn.{Turn}
use Rattle.network.specs.Plan.{Plan}

abbrev link : (start end metres tightness : ℕ) → Link
link s e m t = record { start = s; end = e; length = m; tightness = t }

abbrev turn : (into out class extra : ℕ) → Turn
turn i o c x = record { into = i; out = o; class = c; extra = x }

-- classes: 1 left, 2 right, 3 turning back, 4 barred
abbrev pub sample : Plan
sample = record {
  links =
      link 1 2 350 2
      ∷ link 1 3 200 5
      ∷ link 2 4 400 1
      ∷ link 3 2 100 3
      ∷ link 3 4 450 4
      ∷ link 4 3 150 2
      ∷ [];
  turns =
      turn 2 5 2 120
      ∷ turn 4 3 1 30
      ∷ turn 5 6 4 0
      ∷ turn 6 5 3 200
      ∷ [];
}
