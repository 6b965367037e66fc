use Rattle.gw_desk.proofs.desk.Desk.shared_front.Goals as goal

pub invariant_of-self : goal.invariant_of-self
invariant_of-self c = (c.self.invariant.0, rw c.as_slice.ensures.value at c.share.ensures.kept, c.self.invariant.2)
