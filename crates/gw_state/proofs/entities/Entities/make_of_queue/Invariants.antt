use Rattle.gw_state.proofs.entities.Entities.make_of_queue.Given as goal

-- the place is that of the key
abbrev pub ghost-value_at : goal.ghost-value_at
ghost-value_at g a = g.of
