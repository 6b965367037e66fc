use Rattle.gw_scan.proofs.attempt.attempt.Given as goal

abbrev pub ghost-meet : goal.ghost-meet
ghost-meet g a = a.notes.now
