use Rattle.gw_races.proofs.threads.two_hundred_seeds.Given as goal

-- the row that was just made, and the version that it opens with
abbrev pub ghosts-numbered : goal.ghosts-numbered
ghosts-numbered g a = record { boxes = a.row; opening = a.opening }
