use Rattle.std.proofs.Common.{rules, ◌≤◌, sym, ◌∙◌, arith}
use Rattle.std.proofs.lemmas.Bool.{not-true}
use Rattle.network.specs.declared.link.Link.{Link}
use Rattle.network.specs.Laid.{drafted}
use Rattle.network.specs.Plan.{last_start, LinkWithin}
use Rattle.network.proofs.Laws.{inside, lawful, lawful_add_link}
use Rattle.network.proofs.draft.Draft.lay_link.Goals as goal

pub invariant_of-self : goal.invariant_of-self
invariant_of-self c =
    let before = drafted c.args.self.now in
    let l : Link = record { start = c.args.start; end = c.args.end; length = c.args.length; tightness = c.args.tightness } in
    let within : LinkWithin l = (
      inside c.args.start (not-true _ (sym c.is_node.ensures ∙ c.if-not-is_node.false)),
      inside c.args.end (not-true _ (sym c.is_node-else-not-is_node.ensures ∙ c.if-not-is_node-2.false)),
      omega arith,
      omega arith,
    ) in
    let above : last_start before.links ≤ c.args.start = omega arith in
    let laws = lawful_add_link before _ l c.push.ensures.items (lawful c.args.self.now.network) within above in
    record { few = search (rules, arith); sound = laws.0; rising = laws.1.0; marked = laws.1.1.0; meeting = laws.1.1.1.0; apart = laws.1.1.1.1.0 }
