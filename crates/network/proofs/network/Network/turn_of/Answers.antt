use Rattle.std.proofs.Common.{ℕ, List, get_or, sym, ap, ◌∙◌, ap₂}
use Rattle.network.specs.declared.turn.Turn.{Turn}
use Rattle.network.specs.Plan.{no_turn}
use Rattle.network.specs.Laid.{plan}
use Rattle.network.specs.Roads.{turn}
use Rattle.network.proofs.Entries.{no_place_has}
use Rattle.network.proofs.Turns.{turn_is_entry, turn_is_straight}
use Rattle.network.proofs.network.Network.turn_of.Goals as goal

pub returns-in-Some : goal.returns-in-Some
returns-in-Some c =
    let turns = (plan c.args.self.now).turns in
    let found = c.in-Some.ensures in
    ap (λ (ts : List Turn). get_or ts c.in-Some.place no_turn) c.turns.ensures
    ∙ sym (turn_is_entry turns c.from.result c.from-2.result c.in-Some.place found.0 found.2 found.1)
    ∙ ap₂ (λ (i o : ℕ). turn turns i o) c.from.ensures c.from-2.ensures

pub returns-in-None : goal.returns-in-None
returns-in-None c =
    let turns = (plan c.args.self.now).turns in
    let none = c.in-None.ensures in
    sym (ap₂ (λ (i o : ℕ). turn turns i o) (sym c.from.ensures) (sym c.from-2.ensures)
    ∙ turn_is_straight turns c.from.result c.from-2.result (no_place_has turns c.from.result c.from-2.result none)
    ∙ ap₂ (λ (i o : ℕ). record { into = i; out = o; class = 0; extra = 0 }) c.from.ensures c.from-2.ensures)
