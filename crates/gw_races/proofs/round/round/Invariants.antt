use Rattle.gw_races.proofs.round.round.Given as goal

-- the row that was just made, and the version that it opens with
abbrev pub ghosts-race : goal.ghosts-race
ghosts-race g a = record { boxes = a.row; opening = a.opening }
