use Rattle.std.proofs.Common.{ℕ, sym, refl, subst, arith}
use Rattle.completion.specs.Growth.{Inv}
use Rattle.completion.specs.Onward.{setting, graph}
use Rattle.completion.specs.View.{view}
use Rattle.completion.proofs.Graphs.{graph_laws, graph_begin}
use Rattle.completion.proofs.Ways.{fresh_inv, fresh_late}
use Rattle.completion.proofs.Views.{label_none, depth_none, clear_fresh, clear_ready, clear_tally}
use Rattle.completion.proofs.growing.set_out.Goals as goal

pub relax_from-requires : goal.relax_from-requires
relax_from-requires g c =
    let rank = g.M.Measure.rank in
    let m = g.M.Measure.ranks c.args.quest.now.measure.now in
    let s = setting rank c.args.quest.now in
    let law = graph_laws m (g.M.Measure.lawful c.args.quest.now.measure.now) s in
    let labels = c.clear.new.self.frontier.labels.costs.now in
    let tree = c.clear.new.self.tree in
    let cleared = c.clear.ensures in
    let fresh = clear_fresh rank s.cost labels tree cleared.steps cleared.settled (graph m s) (sym (graph_begin m s)) in
    record {
      stands = record { after = refl; node = refl; label = sym (label_none rank s.cost labels tree); depth = sym (depth_none rank s.cost labels tree); shallow = omega arith };
      growing = record {
        inv = subst (λ (n : ℕ). Inv (graph m s) 0 1 n (view rank s.cost labels tree)) (sym (clear_tally rank s.cost labels tree cleared.steps cleared.settled)) (fresh_inv (graph m s) law (view rank s.cost labels tree) fresh);
        ready = clear_ready rank s.cost labels tree cleared.steps cleared.settled c.clear.new.self.frontier.nodes cleared.none;
      };
      late = fresh_late (graph m s) (view rank s.cost labels tree) fresh;
    }
