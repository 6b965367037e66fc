use Rattle.gw_state.proofs.entities.Entities.make.Given as goal

abbrev pub ghost-make_of_facility : goal.ghost-make_of_facility
ghost-make_of_facility a = a.key.now

abbrev pub ghost-make_of_queue : goal.ghost-make_of_queue
ghost-make_of_queue a = a.key.now

abbrev pub ghost-make_of_entered : goal.ghost-make_of_entered
ghost-make_of_entered a = a.key.now

abbrev pub ghost-make_of_left : goal.ghost-make_of_left
ghost-make_of_left a = a.key.now
