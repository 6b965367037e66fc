use Rattle.gw_races.proofs.threads.two_legs_at_once.Given as goal

-- the row that was just made, and the version that it opens with
abbrev pub ghosts-at_once : goal.ghosts-at_once
ghosts-at_once g a = record { boxes = a.row; opening = a.opening }
