use Rattle.std.proofs.Common.{ℕ, List, ◌++◌, ap, sym, ◌∙◌, Vec, Global}
use Rattle.gw_script.specs.Changes.{accepts, refuses, accepted, refusal_of}
use Rattle.gw_script.proofs.edits.edit.Goals.{in-Ok, in-Err}
use Rattle.gw_script.proofs.edits.edit.Goals as goal

pub returns-clause-ok : goal.returns-clause-ok
returns-clause-ok g c =
    let items : Vec ℕ Global → List ℕ = λ v. v.items in
    elim c.match-edit-2.branch [
      | in-Ok w ↦
          let n = w.in-Ok.edits in
          let put = rw (sym w.told-is ∙ c.in-Ok-told.is) at w.put_accepted-told.ensures.ok in
          accepts n w.in-Ok.ensures.accepted (ap items w.text-is ∙ (put ∙ ap (λ x. x ++ accepted n) c.in_ok-text.ensures.items))
      | in-Err w ↦
          let fault = w.in-Err.fault in
          let put = rw (sym w.told-is ∙ c.in-Ok-told.is) at w.put_refused-told.ensures.ok in
          refuses fault w.in-Err.ensures.refused (ap items w.text-is ∙ (put ∙ ap (λ x. x ++ refusal_of fault) c.in_ok-text.ensures.items))
    ]
