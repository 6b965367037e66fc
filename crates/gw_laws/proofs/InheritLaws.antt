-- The parameters of copies: each has those of the transaction of which it is a copy.
use Rattle.std.proofs.Common.{◌≡◌, ℕ, zero, suc, ◌+◌, ◌-◌, ◌^◌, ◌<◌, ◌≤◌, nat_eq, nat_lt, true, false, Bool, cond, ℤ, [], ◌∷◌, ◌++◌, Option, Some, None, Ok, unwrap_or, refl, sym, ap, subst, ◌∙◌, arith, inl, inr}
use Rattle.std.specs.List.{AllByRecursion}
use Rattle.std.specs.Map.{lookup}
use Rattle.std.proofs.lemmas.Bool.{cases_Bool, cases_eq, cases_lt, ne_eqb}
use Rattle.gw_names.specs.declared.key.Key.{Key}
use Rattle.gw_names.specs.Keys.{key_eq}
use Rattle.gw_meaning.specs.Tables.{value_of, with_value}
use Rattle.gw_meaning.specs.Parameters.{Held, values_at, parameter_at, with_values, assigned, inherited, without}
use Rattle.gw_entities.proofs.QueueArrivalLaws.{key_same}
use Rattle.gw_entities.proofs.Finding.{value_of-with_value}
use Rattle.gw_meaning.specs.declared.transaction.Transaction.{Transaction}
use Rattle.gw_meaning.specs.declared.transaction_change.TransactionChange.{TransactionChange}
use Rattle.gw_meaning.specs.declared.transaction_change.TransactionChange.TheVariants as own
use Rattle.gw_meaning.specs.declared.moves.Change.{Change}
use Rattle.gw_meaning.specs.declared.moves.Change.TheVariants as changes
use Rattle.gw_meaning.specs.declared.moves.Fate.{Fate}
use Rattle.gw_meaning.specs.declared.moves.Fate.TheVariants as fates
use Rattle.gw_meaning.specs.declared.moves.Move.{Move}
use Rattle.gw_meaning.specs.declared.moves.Move.TheVariants as moves
use Rattle.gw_meaning.specs.Listing.{Listing}
use Rattle.gw_meaning.specs.Machine.{Machine}
use Rattle.gw_meaning.specs.Changes.{own_held, held_by, placed, marked, one_copied, all_copied, refused, watching, moved}
use Rattle.gw_meaning.specs.Step.{run}
use Rattle.gw_frame.proofs.Known.{IsDecided}
use Rattle.gw_frame.proofs.Moves.{settled, all_copied_keep, with_active_has, entered_has, picked_has}
use Rattle.gw_frame.proofs.Running.{over_run}
use Rattle.gw_laws.specs.Copies.{CopiesInherit}
use Rattle.gw_laws.proofs.CopyLaws.{settles, splits, splits_so, is_parent, split_next}
use Rattle.gw_laws.proofs.DestinationLaws.{is_given}
use Rattle.gw_laws.proofs.Entries.{AreOnce, with_once}
use Rattle.gw_laws.proofs.NumberLaws.{IsNumbered, all_numbered}
use Rattle.gw_laws.proofs.OwnParameterLaws.{set_here, inherited_elsewhere}
use Rattle.gw_laws.proofs.ParameterLaws.{Values, times, is_of, all_kept, let_in_parameters}
use Rattle.gw_laws.proofs.Crowd.{one}
use Rattle.gw_laws.proofs.Waiting.{leaving}

-- ---- no transaction has two values of one key

abbrev AllOnce : Held → Type 0
AllOnce = AllByRecursion (λ (h : ℕ × Values). AreOnce h.1)

values_once : (held : Held) (n : ℕ) → AllOnce held → AreOnce (values_at held n)
values_once [] n all = tt
values_once (h ∷ hs) n all =
    let rest = values_once hs n all.1 in
    elim (cases_Bool (nat_eq n h.0)) [ inl is ↦ rw is all.0 | inr other ↦ rw other rest ]

set_once : (held : Held) (n : ℕ) (values : Values) → AreOnce values → AllOnce held → AllOnce (with_values held n values)
set_once [] n values one' all = (one', tt)
set_once (h ∷ hs) n values one' all =
    let rest = set_once hs n values one' all.1 in
    elim (cases_Bool (nat_eq n h.0)) [
      | inl is ↦ rw is (one', all.1)
      | inr other ↦ elim (cases_Bool (nat_lt n h.0)) [ inl before ↦ rw (other, before) (one', all) | inr behind ↦ rw (other, behind) (all.0, rest) ]
    ]

assigned_once : (held : Held) (n : ℕ) (key : Key) (v : ℤ) → AllOnce held → AllOnce (assigned held n key v)
assigned_once held n key v all = set_once held n _ (with_once (values_at held n) key v (values_once held n all)) all

inherited_once : (values : Values) (n : ℕ) (held : Held) → AllOnce held → AllOnce (inherited values n held)
inherited_once [] n held all = all
inherited_once (v ∷ vs) n held all = inherited_once vs n (assigned held n v.0 v.1) (assigned_once held n v.0 v.1 all)

forgotten_once : (held : Held) (n : ℕ) → AllOnce held → AllOnce (without held n)
forgotten_once [] n all = tt
forgotten_once (h ∷ hs) n all =
    let rest = forgotten_once hs n all.1 in
    elim (cases_Bool (nat_eq n h.0)) [ inl is ↦ rw is rest | inr other ↦ rw other (all.0, rest) ]

own_once : (change : TransactionChange) (n : ℕ) (held : Held) → AllOnce held → AllOnce (own_held change n held)
own_once (own.Assign key to) n held all = assigned_once held n key to all
own_once (own.Loop key left to) n held all = assigned_once held n key left all
own_once change n held all = all

change_once : (change : Change) (n : ℕ) (held : Held) → AllOnce held → AllOnce (held_by change n held)
change_once (changes.Transaction change) n held all = own_once change n held all
change_once change n held all = all

settled_once : (s : Machine) (x : Transaction) (id : ℕ) (change : Change) (fate : Fate) → AllOnce s.parameters →
    AllOnce (settled s x id change fate).parameters
settled_once s x id change (fates.Destroyed count) all =
    forgotten_once (held_by change x.number s.parameters) (marked change s.clock (placed x id)).number (change_once change x.number s.parameters all)
settled_once s x id change fate all = change_once change x.number s.parameters all

abbrev ValuesAreOnce : Machine → Type 0
ValuesAreOnce s = AllOnce s.parameters

moved_once : (t : Listing) (s : Machine) (m : Move) → IsDecided t s m → ValuesAreOnce s → ValuesAreOnce (moved s m)
moved_once t s (moves.Enter id change fate) decided h =
    entered_has ValuesAreOnce ValuesAreOnce t s id change fate decided.1 h (λ x is. settled_once s x id change fate h)
    (λ v. record {
      nothing = λ k. k;
      one = λ a coming k. k;
      lets = λ w key x passed xs is k. subst AllOnce (sym (let_in_parameters x x.destination (leaving w key (passed ++ xs)))) k;
      copies = λ w to x values copying k. inherited_once values w.next w.parameters k;
      unlinks = λ w key to x xs named is k. k;
    })
moved_once t s (moves.Refuse id key units) decided h = with_active_has ValuesAreOnce s.active (λ x. refused s x id key units) s h (λ x is. h)
moved_once t s (moves.Watch read) decided h = with_active_has ValuesAreOnce s.active (λ x. watching s x read) s h (λ x is. h)
moved_once t s moves.Pick decided h = picked_has ValuesAreOnce s s.current h (λ x xs is. h)
moved_once t s moves.Clear decided h = tt
moved_once t s m decided h = h

all_once : (t : Listing) (seed n : ℕ) (s : Machine) → run t seed n ≡ Ok s → ValuesAreOnce s
all_once t seed = over_run t seed (λ n s. ValuesAreOnce s) tt (λ n s m streams there decided h. moved_once t s m decided h)

-- ---- one copy inherits

abbrev or_else : Option ℤ → Option ℤ → Option ℤ
or_else None o = o
or_else (Some v) o = Some v

or_none : (o : Option ℤ) → or_else o None ≡ o
or_none None = refl
or_none (Some v) = refl

set_there : (held : Held) (n : ℕ) (values : Values) → values_at (with_values held n values) n ≡ values
set_there held n values = ap (λ o. unwrap_or o []) (set_here n held values)

inherits : (values : Values) (n : ℕ) (held : Held) (key : Key) → AreOnce values →
    parameter_at (inherited values n held) n key ≡ or_else (value_of values key) (parameter_at held n key)
inherits [] n held key once = refl
inherits (v ∷ vs) n held key once =
    let was = values_at held n in
    let set : parameter_at (assigned held n v.0 v.1) n key ≡ cond (key_eq key v.0) (Some v.1) (value_of was key) =
    ap (λ (es : Values). value_of es key) (set_there held n (with_value was v.0 v.1)) ∙ value_of-with_value was v.0 v.1 key in
    inherits vs n (assigned held n v.0 v.1) key once.1
    ∙ (ap (or_else (value_of vs key)) set ∙ go (key_eq key v.0) refl)
  where
    go : (b : Bool) → key_eq key v.0 ≡ b → or_else (value_of vs key) (cond b (Some v.1) (value_of (values_at held n) key)) ≡
        or_else (cond b (Some v.1) (value_of vs key)) (value_of (values_at held n) key)
    go true is =
        let none : value_of vs key ≡ None = ap (value_of vs) (key_same key v.0 is) ∙ once.0 in
        ap (λ o. or_else o (Some v.1)) none
    go false other = refl

-- ---- all copies inherit

module _ (to : Option ℕ) (x : Transaction) (values : Values) (once : AreOnce values) (key : Key) where
  copies_elsewhere : (count : ℕ) (w : Machine) (k : ℕ) → k < w.next → w.next + count < 2 ^ 64 - 1 →
      parameter_at (all_copied count to x values w).parameters k key ≡ parameter_at w.parameters k key
  copies_elsewhere count w k below room' =
      let Q : ℕ → Machine → Type 0 = λ n u.
      (k < u.next) × (u.next + n ≡ w.next + count) × (parameter_at u.parameters k key ≡ parameter_at w.parameters k key) in
      (all_copied_keep Q to x values
      (λ n u h. (
        omega (arith, h.0, h.1, room'),
        omega (arith, h.1, room'),
        ap (λ o. value_of (unwrap_or o []) key)
            (inherited_elsewhere k u.next values u.parameters (ne_eqb k u.next (λ same. omega (arith, h.0, same)))) ∙ h.2,
      )) count w (below, refl, refl)).2

  copies_inherit : (count : ℕ) (w : Machine) → w.next + count < 2 ^ 64 - 1 → ((k : ℕ) → w.next ≤ k → parameter_at w.parameters k key ≡ None) → (k : ℕ) →
      w.next ≤ k → k < w.next + count → parameter_at (all_copied count to x values w).parameters k key ≡ value_of values key
  copies_inherit zero w room' fresh k above below = absurd (omega (arith, above, below))
  copies_inherit (suc n) w room' fresh k above below =
      let u = one_copied to x values w in
      elim (cases_eq w.next k) [
        | inl here ↦
            let first : parameter_at u.parameters w.next key ≡ value_of values key =
            inherits values w.next w.parameters key once
            ∙ (ap (or_else (value_of values key)) (fresh w.next (omega arith)) ∙ or_none (value_of values key)) in
            let still = copies_elsewhere n u w.next (omega (arith, room')) (omega (arith, room')) in
            subst (λ j. parameter_at (all_copied n to x values u).parameters j key ≡ value_of values key) here (still ∙ first)
        | inr other ↦ copies_inherit n u (omega (arith, room'))
            (λ j far. (
            let apart = ne_eqb j w.next (λ same. omega (arith, far, same, room')) in
            ap (λ o. value_of (unwrap_or o []) key) (inherited_elsewhere j w.next values w.parameters apart) ∙ fresh j (omega (arith, far, room'))))
            k (let differs : w.next < k = elim (cases_lt w.next k) [ inl less ↦ less | inr more ↦ absurd (other (omega (arith, above, more))) ] in
            omega (arith, differs, room')) (omega (arith, below, room'))
      ]

-- a number that is still to be given has no parameters
none_kept : (k : ℕ) (held : Held) → times k held ≡ 0 → lookup (nat_eq k) held ≡ None
none_kept k [] none = refl
none_kept k (h ∷ hs) none =
    let rest = none_kept k hs (omega arith) in
    elim (cases_Bool (nat_eq k h.0)) [
      | inl is ↦ absurd (let some : one (is_of k h) ≡ 1 = ap one is in omega arith)
      | inr other ↦ rw other rest
    ]

new_has_none : (t : Listing) (seed n : ℕ) (s : Machine) → run t seed n ≡ Ok s → IsNumbered s → (k : ℕ) (key : Key) → s.next ≤ k →
    parameter_at s.parameters k key ≡ None
new_has_none t seed n s is numbered k key above =
    let kept = (all_kept t seed n s is).alive k in
    let none = numbered.given k above in
    elim (cases_lt 0 (times k s.parameters)) [
      | inl some ↦ absurd (let lives' = kept some in omega (arith, lives', none))
      | inr no_more ↦ ap (λ o. value_of (unwrap_or o []) key) (none_kept k s.parameters (omega (arith, no_more)))
    ]

pub copies_inherit_parameters : CopiesInherit
copies_inherit_parameters t seed s v id count to split y number key active above below =
    let h = splits_so t seed s v id count to split in
    let parent = h.parent in
    let x = placed parent id in
    let values = values_at s.parameters parent.number in
    let w = settles s id count to parent in
    let numbered = all_numbered t seed split.well split.moment s split.before split.within in
    let once = values_once s.parameters parent.number (all_once t seed split.moment s split.before) in
    let next = split_next s v id count to h in
    let low : s.next + count < 2 ^ 64 - 1 = omega (arith, h.room, h.few) in
    let now : (k : ℕ) → parameter_at v.parameters k key ≡ parameter_at (splits s id count to parent).parameters k key =
    λ k. ap (λ (u : Machine). parameter_at u.parameters k key) h.is in
    let copy = copies_inherit to x values once key count w low
    (λ k new. new_has_none t seed split.moment s split.before numbered k key new) number above (omega (arith, below, next)) in
    let his = copies_elsewhere to x values once key count w parent.number (is_given s parent h.active numbered) low in
    now number
    ∙ (copy
    ∙ (sym his
    ∙ (sym (now parent.number)
    ∙ ap (λ (z : Transaction). parameter_at v.parameters z.number key) (is_parent s v id count to h y active))))
