use Rattle.gw_races.proofs.threads.served_runs_stay.Given as goal

-- the row that was just made, and the version that it opens with
abbrev pub ghosts-stays : goal.ghosts-stays
ghosts-stays g a = record { boxes = a.row; opening = a.opening }
