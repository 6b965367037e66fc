use Rattle.gw_races.proofs.threads.two_delete_one_statement.Given as goal

-- the row that was just made, and the version that it opens with
abbrev pub ghosts-last_gone : goal.ghosts-last_gone
ghosts-last_gone g a = record { boxes = a.row; opening = a.opening }
