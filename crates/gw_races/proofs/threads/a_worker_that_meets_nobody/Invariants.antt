use Rattle.gw_races.proofs.threads.a_worker_that_meets_nobody.Given as goal

-- the row that was just made, and the version that it opens with
abbrev pub ghosts-alone : goal.ghosts-alone
ghosts-alone g a = record { boxes = a.row; opening = a.opening }
