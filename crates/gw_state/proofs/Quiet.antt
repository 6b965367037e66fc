-- Where nothing is written nobody wakes.
use Rattle.std.proofs.Common.{◌≡◌, ℕ, Option, None, false, not, List, [], ◌∷◌, filter, refl, sym, ap, ap₂, subst, ◌∙◌}
use Rattle.std.specs.List.{list_any}
use Rattle.gw_meaning.specs.declared.watched.Watched.{Watched}
use Rattle.gw_meaning.specs.Watching.{Waiter, is_watched}
use Rattle.gw_meaning.specs.Machine.{Machine}
use Rattle.gw_meaning.specs.declared.moves.Change.{Change}
use Rattle.gw_meaning.specs.declared.moves.Fate.{Fate}
use Rattle.gw_meaning.specs.declared.transaction.Transaction.{Transaction}
use Rattle.gw_meaning.specs.Changes.{is_woken, woke, woken, with_active, written_where, entering}
use Rattle.gw_state.specs.Making.{HasEntered}

nothing_read : (read : List Watched) → list_any (is_watched []) read ≡ false
nothing_read [] = refl
nothing_read (w ∷ ws) = nothing_read ws

none_wake : (ws : List Waiter) → filter (is_woken []) ws ≡ []
none_wake [] = refl
none_wake (w ∷ ws) = rw (nothing_read w.read) (none_wake ws)

all_wait_on : (ws : List Waiter) → filter (λ w. not (is_woken [] w)) ws ≡ ws
all_wait_on [] = refl
all_wait_on (w ∷ ws) = rw (nothing_read w.read) (ap (λ vs. w ∷ vs) (all_wait_on ws))

pub nobody_wakes : (s : Machine) → woken [] s ≡ s
nobody_wakes s = ap₂ (λ ws others. woke ws others s) (none_wake s.retry) (all_wait_on s.retry)

-- what holds of a machine holds of it where nothing is written
pub unwoken : (P : Machine → Type 0) (list : List Watched) (s : Machine) → list ≡ [] → P s → P (woken list s)
unwoken P list s none h = subst P (sym (ap (λ ws. woken ws s) none ∙ nobody_wakes s)) h

-- where no transaction is active nothing is written
nobody_enters :
    (s : Machine) (active : Option Transaction) (id : ℕ) (change : Change) (fate : Fate) (f : Transaction → Machine) → active ≡ None →
    s ≡ woken (written_where active id change fate s) (with_active active f s)
nobody_enters s active id change fate f none =
    subst (λ a. s ≡ woken (written_where a id change fate s) (with_active a f s)) (sym none) (sym (nobody_wakes s))

pub not_entered : (s : Machine) (id : ℕ) (change : Change) (fate : Fate) → s.active ≡ None → HasEntered id change fate s s
not_entered s id change fate none = nobody_enters s s.active id change fate (λ x. entering s x id change fate) none
