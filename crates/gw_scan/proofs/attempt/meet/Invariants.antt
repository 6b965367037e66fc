use Rattle.gw_scan.proofs.attempt.meet.Given as goal

-- each verb decides from the notes that were there before
abbrev pub ghost-hand_on_met : goal.ghost-hand_on_met
ghost-hand_on_met g a = g.before
