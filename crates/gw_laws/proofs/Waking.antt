-- What waking does to a state: those who wake line up on the current chain, and nothing else changes but who waits.
use Rattle.std.proofs.Common.{◌≡◌, false, not, List, [], ◌∷◌, filter, refl, sym, ap, ap₂, subst}
use Rattle.std.specs.Prelude.{Contains}
use Rattle.std.specs.List.{list_any}
use Rattle.gw_meaning.specs.declared.transaction.Transaction.{Transaction}
use Rattle.gw_meaning.specs.declared.watched.Watched.{Watched}
use Rattle.gw_meaning.specs.Watching.{Waiter, is_watched}
use Rattle.gw_meaning.specs.Machine.{Machine}
use Rattle.gw_meaning.specs.Changes.{lined_up, all_lined_up, is_woken, woke, woken}
use Rattle.gw_laws.proofs.Waiting.{lined_keeps}

-- where nothing is written nobody wakes
nothing_read : (read : List Watched) → list_any (is_watched []) read ≡ false
nothing_read [] = refl
nothing_read (w ∷ ws) = nothing_read ws

none_wake : (ws : List Waiter) → filter (is_woken []) ws ≡ []
none_wake [] = refl
none_wake (w ∷ ws) = rw (nothing_read w.read) (none_wake ws)

all_wait_on : (ws : List Waiter) → filter (λ w. not (is_woken [] w)) ws ≡ ws
all_wait_on [] = refl
all_wait_on (w ∷ ws) = rw (nothing_read w.read) (ap (λ vs. w ∷ vs) (all_wait_on ws))

pub nobody_wakes : (s : Machine) → woken [] s ≡ s
nobody_wakes s = ap₂ (λ ws others. woke ws others s) (none_wake s.retry) (all_wait_on s.retry)

pub unwoken : (P : Machine → Type 0) (s : Machine) → P s → P (woken [] s)
unwoken P s h = subst P (sym (nobody_wakes s)) h

-- whoever stood on the current chain stands there still
pub all_lined_keeps : (xs ys : List Transaction) (z : Transaction) → Contains ys z → Contains (all_lined_up xs ys) z
all_lined_keeps [] ys z there = there
all_lined_keeps (x ∷ xs) ys z there = all_lined_keeps xs (lined_up x ys) z (lined_keeps x ys z there)
