-- What the entry of a block leaves as it was.
use Rattle.std.proofs.Common.{◌≡◌, ℕ, zero, suc, ℤ, List, [], ◌∷◌, ◌++◌, Option, Some, None, refl, sym, ap, subst, ◌∙◌}
use Rattle.gw_names.specs.declared.key.Key.{Key}
use Rattle.gw_meaning.specs.declared.transaction.Transaction.{Transaction}
use Rattle.gw_meaning.specs.declared.moves.Change.{Change}
use Rattle.gw_meaning.specs.declared.moves.Change.TheVariants as changes
use Rattle.gw_meaning.specs.declared.moves.Fate.{Fate}
use Rattle.gw_meaning.specs.declared.moves.Fate.TheVariants as fates
use Rattle.gw_meaning.specs.declared.watched.Watched.{Watched}
use Rattle.gw_meaning.specs.Parameters.{Held, values_at, inherited, all_inherited}
use Rattle.gw_meaning.specs.Watching.{Waiter}
use Rattle.gw_state.specs.declared.parts.Parts.{Parts}
use Rattle.gw_state.specs.Making.{HasEntered}
use Rattle.gw_state.specs.States.{machine_of}
use Rattle.gw_state.specs.Waking.{WakesAs}
use Rattle.gw_meaning.specs.Machine.{Machine, delay_at, user_chain_at}
use Rattle.gw_meaning.specs.Changes.{fated, let_in, one_let_in, some_let_in, update_grants, all_copied, one_copied, some_unlinked, one_unlinked, changed, entering, woken, crossing, written_by, written_in, written_where, with_active}

-- what the chains and the counts do not tell: who waits for a change of something, and the parameters
abbrev Aside : Type 0
Aside = List Waiter × Held

abbrev aside : Machine → Aside
aside s = (s.retry, s.parameters)

let_in_keeps : (x : Transaction) (to : Option ℕ) (s : Machine) → aside (let_in x to s) ≡ aside s
let_in_keeps x None s = refl
let_in_keeps x (Some id) s = refl

some_let_in_keeps :
    (key : Key) (grants : List (Option ℕ)) (passed chain : List Transaction) (s : Machine) →
    aside (some_let_in key grants passed chain s) ≡ aside s
some_let_in_keeps key [] passed chain s = refl
some_let_in_keeps key (grant ∷ grants) passed [] s = refl
some_let_in_keeps key (None ∷ grants) passed (x ∷ xs) s = some_let_in_keeps key grants (passed ++ x ∷ []) xs s
some_let_in_keeps key (Some units ∷ grants) passed (x ∷ xs) s =
    some_let_in_keeps key grants passed xs (one_let_in key x (passed ++ xs) s) ∙ let_in_keeps x x.destination _

some_unlinked_keep : (count : ℕ) (key : Key) (to : Option ℕ) (chain : List Transaction) (s : Machine) →
    aside (some_unlinked count key to chain s) ≡ aside s
some_unlinked_keep zero key to chain s = refl
some_unlinked_keep (suc n) key to [] s = refl
some_unlinked_keep (suc n) key to (x ∷ xs) s = some_unlinked_keep n key to xs (one_unlinked key to x xs s)

-- who waits for a change of something stays where a block is entered
all_copied_keep : (count : ℕ) (to : Option ℕ) (x : Transaction) (values : List (Key × ℤ)) (s : Machine) →
    (all_copied count to x values s).retry ≡ s.retry
all_copied_keep zero to x values s = refl
all_copied_keep (suc n) to x values s = all_copied_keep n to x values (one_copied to x values s)

copied_keeps : (count : ℕ) (to : Option ℕ) (active : Option Transaction) (s : Machine) →
    (with_active active (λ x. all_copied count to x (values_at s.parameters x.number) s) s).retry ≡ s.retry
copied_keeps count to None s = refl
copied_keeps count to (Some x) s = all_copied_keep count to x (values_at s.parameters x.number) s

changed_keeps : (change : Change) (s : Machine) → (changed change s).retry ≡ s.retry
changed_keeps changes.Nothing s = refl
changed_keeps (changes.Generate next) s = refl
changed_keeps (changes.Transaction change) s = refl
changed_keeps (changes.Split count to) s = copied_keeps count to s.active s
changed_keeps (changes.Unlink key count to) s =
    ap (λ (a : Aside). a.0) (some_unlinked_keep count key to (user_chain_at s.linked key).members s)
changed_keeps (changes.Entity change) s =
    ap (λ (a : Aside). a.0) (some_let_in_keeps change.0 (update_grants change.1) [] (delay_at s.delays change.0) s)

fated_keeps : (fate : Fate) (x : Transaction) (s : Machine) → (fated fate x s).retry ≡ s.retry
fated_keeps fates.Active x s = refl
fated_keeps fates.Current x s = refl
fated_keeps (fates.Delayed until) x s = refl
fated_keeps (fates.Linked key discipline) x s = refl
fated_keeps (fates.Destroyed count) x s = refl

pub retry_kept :
    (s : Machine) (x : Transaction) (id : ℕ) (change : Change) (fate : Fate) →
    (entering s x id change fate).retry ≡ s.retry
retry_kept s x id change fate = changed_keeps change _ ∙ fated_keeps fate _ _

-- what is after the entry, where a list stands for what is written
pub entered_is :
    (s new : Machine) (x : Transaction) (id : ℕ) (change : Change) (fate : Fate) (list : List Watched) → s.active ≡ Some x →
    WakesAs s.retry list (crossing x (Some id) ++ (written_by change s ++ written_in fate)) →
    new ≡ woken list (entering s x id change fate) → HasEntered id change fate s new
entered_is s new x id change fate list active same is =
    subst (λ a. new ≡ woken (written_where a id change fate s) (with_active a (λ y. entering s y id change fate) s)) (sym active)
    (is ∙ same (entering s x id change fate) (retry_kept s x id change fate))

-- copies and their parameters, which stand apart
pub copied_beside :
    (count : ℕ) (to : Option ℕ) (x : Transaction) (values : List (Key × ℤ)) (s : Machine) (held : Held) →
    all_copied count to x values (record s { parameters = held }) ≡
    record (all_copied count to x [] s) { parameters = all_inherited count values s.next held }
copied_beside zero to x values s held = refl
copied_beside (suc n) to x values s held = copied_beside n to x values (one_copied to x [] s) (inherited values s.next held)

-- the parameters stay where they stand apart
pub apart : (p q : Parts) (v : Machine) → machine_of p ≡ v → p.parameters ≡ q.parameters →
    machine_of p ≡ record v { parameters = q.parameters }
apart p q v is kept =
    (λ i. record (machine_of p) { parameters = kept i }) ∙ ap (λ (m : Machine). record m { parameters = q.parameters }) is

-- the copies of the active transaction, whose parameters were given before
pub split_is : (count : ℕ) (to : Option ℕ) (x : Transaction) (values : List (Key × ℤ)) (p q : Parts) (m : Machine) →
    machine_of p ≡ all_copied count to x [] (machine_of q) → p.parameters ≡ q.parameters →
    machine_of q ≡ record m { parameters = all_inherited count values m.next m.parameters } →
    machine_of p ≡ all_copied count to x values m
split_is count to x values p q m copied kept is =
    let held = all_inherited count values m.next m.parameters in
    let same : q.parameters ≡ held = ap (λ (n : Machine). n.parameters) is in
    apart p q _ copied kept
    ∙ ((λ i. record (all_copied count to x [] (is i)) { parameters = same i })
    ∙ (ap (λ (n : Machine). record n { parameters = held }) (copied_beside count to x [] m held)
    ∙ sym (copied_beside count to x values m m.parameters)))
