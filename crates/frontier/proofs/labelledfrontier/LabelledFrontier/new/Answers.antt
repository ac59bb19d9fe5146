use Rattle.frontier.proofs.labelledfrontier.LabelledFrontier.new.Goals as goal

pub invariant_of-result : goal.invariant_of-result
invariant_of-result g c = record { sound = c.new.ensures.sound _ }
