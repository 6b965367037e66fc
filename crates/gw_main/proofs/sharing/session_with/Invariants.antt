use Rattle.gw_main.proofs.sharing.session_with.Given as goal

-- the row that was just made, and the version that the model opens
abbrev pub ghosts-beside : goal.ghosts-beside
ghosts-beside g a = record { boxes = a.row; opening = a.opening }
