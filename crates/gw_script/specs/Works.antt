-- What the line `work` is answered. (The table of script lines.)
use Rattle.std.specs.Prelude.{◌≡◌, ℕ, List, [], ◌∷◌, ◌++◌, Option, Some, None, codes, decimal}
use Rattle.gw_desk.specs.declared.play.Event.{Event}
use Rattle.gw_desk.specs.declared.play.Event.TheVariants as events
use Rattle.gw_desk.specs.declared.play.Reply.{Reply}
use Rattle.gw_desk.specs.declared.play.Reply.TheVariants as replies

-- the recorded number; that there is no such replication; or a growth was refused
abbrev pub counted : Option (Option ℕ) → List ℕ
counted None = codes "memory\n"
counted (Some None) = codes "noreplication\n"
counted (Some (Some n)) = codes "work " ++ decimal n ++ codes "\n"

-- the bytes of what a keeper answers, and what that leaves
pub record Worked {D : Type 0} (works : D → ℕ → ℕ → Option (Option ℕ) → D → Type 0) (d : D) (rep steps : ℕ)
    (front : List ℕ) (d' : D) : Type 0 where
  pub answer : Option (Option ℕ)
  pub works_so : works d rep steps answer d'
  pub told : front ≡ counted answer

-- the events of the line, played by one worker, and what they may be replied: no leg, or one that is worked and posted
pub data OneWorker (rep steps : ℕ) : List Event → List Reply → Type 0 where
  no_leg : OneWorker rep steps (events.Take 1 rep ∷ []) (replies.Took None ∷ [])
  posted : (start made : ℕ) → OneWorker rep steps
      (events.Take 1 rep ∷ events.Work 1 steps ∷ events.Post 1 ∷ [])
      (replies.Took (Some start) ∷ replies.Worked made ∷ replies.Posted ∷ [])
  in_vain : (start made : ℕ) → OneWorker rep steps
      (events.Take 1 rep ∷ events.Work 1 steps ∷ events.Post 1 ∷ [])
      (replies.Took (Some start) ∷ replies.Worked made ∷ replies.Dropped ∷ [])
