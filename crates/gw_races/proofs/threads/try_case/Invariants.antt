use Rattle.gw_races.proofs.threads.try_case.Given as goal

-- the row that was just made, and the version that it opens with
abbrev pub ghosts-try_over : goal.ghosts-try_over
ghosts-try_over g a = record { boxes = a.row; opening = a.opening }
