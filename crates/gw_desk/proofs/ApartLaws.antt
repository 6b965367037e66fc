-- No two recordings are of one replication, whatever is done to them.
use Rattle.std.proofs.Common.{◌≡◌, ◌≢◌, ℕ, zero, suc, ◌<◌, ◌==◌, Bool, true, false, cond, List, [], ◌∷◌, ◌++◌, length, get_or, set, filter, Option, Some, None, refl, sym, ap, subst, ◌∙◌, arith}
use Rattle.std.specs.List.{slice_get}
use Rattle.std.proofs.lemmas.Bool.Decides.{nat_tests}
use Rattle.std.proofs.lemmas.Option.{slice_get-get_or, slice_get_within, get_or_from_slice_get}
use Rattle.gw_meaning.specs.declared.statement.Replication.{Replication}
use Rattle.gw_meaning.specs.Listing.{Listing}
use Rattle.gw_record.specs.Tape.{Tape, blank}
use Rattle.gw_meaning.specs.declared.edit.Edit.{Edit}
use Rattle.gw_desk.specs.declared.recording.Recording.{Recording}
use Rattle.gw_desk.specs.Book.{run_in, AreApart, blank_runs}
use Rattle.gw_desk.specs.Rebasing.{AreRebased, IsRebasedRecording, with_run, with_missing}
use Rattle.gw_desk.proofs.RebaseLaws.{IsRebasedOf, rebased_in, run_in_more}

-- what the first of some recordings has no part in
none_rest : (r : Recording) (rs : List Recording) (n : ℕ) → run_in (r ∷ rs) n ≡ None → ((r.number == n) ≡ false) × (run_in rs n ≡ None)
none_rest r rs n none = go (r.number == n) refl none where
  go : (b : Bool) → (r.number == n) ≡ b → cond b (Some r.run) (run_in rs n) ≡ None → ((r.number == n) ≡ false) × (run_in rs n ≡ None)
  go true is h = absurd cc
  go false is h = (is, h)

none_first : (r : Recording) (rs : List Recording) (n : ℕ) → (r.number == n) ≡ false → run_in rs n ≡ None → run_in (r ∷ rs) n ≡ None
none_first r rs n other none = rw other none

-- one more at the end
none_more : (rs : List Recording) (x : Recording) (n : ℕ) → run_in rs n ≡ None → (x.number == n) ≡ false → run_in (rs ++ x ∷ []) n ≡ None
none_more rs x n none other = run_in_more rs x n ∙ rw (none, other) refl

apart_more : (rs : List Recording) (x : Recording) → AreApart rs → run_in rs x.number ≡ None → AreApart (rs ++ x ∷ [])
apart_more [] x h none = (refl, tt)
apart_more (r ∷ rs) x (first, rest) none =
    let out = none_rest r rs x.number none in
    let other : (x.number == r.number) ≡ false = let o = out.0 in grind (arith, nat_tests) in
    (none_more rs x r.number first other, apart_more rs x rest out.1)

apart_with : (every n : ℕ) (o : Option Tape) (rs : List Recording) → run_in rs n ≡ o → AreApart rs → AreApart (with_run every n o rs)
apart_with every n None rs none h = apart_more rs (record { number = n; run = blank every }) h none
apart_with every n (Some r) rs there h = h

pub apart_missing : (every : ℕ) (reps : List Replication) (rs : List Recording) → AreApart rs → AreApart (with_missing every reps rs)
apart_missing every [] rs h = h
apart_missing every (r ∷ reps) rs h =
    apart_missing every reps (with_run every r.number (run_in rs r.number) rs) (apart_with every r.number (run_in rs r.number) rs refl h)

-- some of them
none_of : (b : Bool) (r : Recording) (rs : List Recording) (n : ℕ) → (r.number == n) ≡ false → run_in rs n ≡ None → run_in (cond b (r ∷ rs) rs) n ≡ None
none_of true r rs n other none = none_first r rs n other none
none_of false r rs n other none = none

none_left : (p : Recording → Bool) (rs : List Recording) (n : ℕ) → run_in rs n ≡ None → run_in (filter p rs) n ≡ None
none_left p [] n none = refl
none_left p (r ∷ rs) n none = let out = none_rest r rs n none in none_of (p r) r (filter p rs) n out.0 (none_left p rs n out.1)

apart_of : (b : Bool) (r : Recording) (rs : List Recording) → run_in rs r.number ≡ None → AreApart rs → AreApart (cond b (r ∷ rs) rs)
apart_of true r rs none h = (none, h)
apart_of false r rs none h = h

pub apart_left : (p : Recording → Bool) (rs : List Recording) → AreApart rs → AreApart (filter p rs)
apart_left p [] h = tt
apart_left p (r ∷ rs) (first, rest) = apart_of (p r) r (filter p rs) (none_left p rs r.number first) (apart_left p rs rest)

-- an edit leaves the numbers
none_rebased : (t : Listing) (e : Edit) (u : Listing) (n : ℕ) (o p : Option Tape) → IsRebasedOf t e u n o p → o ≡ None → p ≡ None
none_rebased t e u n o None h none = refl
none_rebased t e u n None (Some s) h none = absurd h
none_rebased t e u n (Some r) (Some s) h none = absurd cc

pub apart_rebased : (t : Listing) (e : Edit) (u : Listing) (old new : List Recording) → AreRebased t e u old new → AreApart old → AreApart new
apart_rebased t e u [] [] h k = tt
apart_rebased t e u [] (x ∷ new) h k = absurd (let c = h.count in omega (arith, c))
apart_rebased t e u (r ∷ old) [] h k = absurd (let c = h.count in omega (arith, c))
apart_rebased t e u (r ∷ old) (x ∷ new) h (first, rest) =
    let c = h.count in
    let one : IsRebasedRecording t e u r x = h.each 0 r (omega arith) in
    let more : AreRebased t e u old new = record { count = omega (arith, c); each = λ k d within. h.each (suc k) d (omega (arith, within)) } in
    let out = none_rebased t e u r.number (run_in old r.number) (run_in new r.number) (rebased_in t e u old new more r.number) first in
    (subst (λ (n : ℕ). run_in new n ≡ None) (sym one.number) out, apart_rebased t e u old new more rest)

-- another run of one of them
none_set : (rs : List Recording) (n i : ℕ) (d new : Recording) → i < length rs → new.number ≡ (get_or rs i d).number → run_in rs n ≡ None →
    run_in (set rs i new) n ≡ None
none_set [] n i d new within same none = refl
none_set (r ∷ rs) n zero d new within same none =
    let out = none_rest r rs n none in
    let other : (new.number == n) ≡ false = ap (λ (m : ℕ). m == n) same ∙ out.0 in
    none_first new rs n other out.1
none_set (r ∷ rs) n (suc i) d new within same none =
    let out = none_rest r rs n none in
    none_first r (set rs i new) n out.0 (none_set rs n i d new (omega (arith, within)) same out.1)

pub apart_set : (rs : List Recording) (i : ℕ) (d new : Recording) → i < length rs → new.number ≡ (get_or rs i d).number → AreApart rs → AreApart (set rs i new)
apart_set [] i d new within same h = tt
apart_set (r ∷ rs) zero d new within same (first, rest) = (subst (λ (n : ℕ). run_in rs n ≡ None) (sym same) first, rest)
apart_set (r ∷ rs) (suc i) d new within same (first, rest) =
    (none_set rs r.number i d new (omega (arith, within)) same first, apart_set rs i d new (omega (arith, within)) same rest)

-- the replications of a version have numbers of their own, and so have their first runs
abbrev NumbersApart : List Replication → Type 0
NumbersApart reps = (i j : ℕ) (r s : Replication) → i < j → slice_get reps i ≡ Some r → slice_get reps j ≡ Some s → r.number ≢ s.number

one_further : (x : Replication) (reps : List Replication) (j : ℕ) (s : Replication) → slice_get reps j ≡ Some s → slice_get (x ∷ reps) (suc j) ≡ Some s
one_further x reps j s at =
    let within = slice_get_within reps j s at in
    slice_get-get_or (x ∷ reps) (suc j) s (omega (arith, within)) ∙ ap (λ (r : Replication). Some r) (get_or_from_slice_get reps j s s at)

none_blank : (every : ℕ) (reps : List Replication) (n : ℕ) → ((j : ℕ) (s : Replication) → slice_get reps j ≡ Some s → n ≢ s.number) →
    run_in (blank_runs every reps) n ≡ None
none_blank every [] n other = refl
none_blank every (r ∷ reps) n other =
    let first : n ≢ r.number = other 0 r (slice_get-get_or (r ∷ reps) 0 r (omega arith)) in
    let apart : (r.number == n) ≡ false = grind (arith, nat_tests, first) in
    none_first (record { number = r.number; run = blank every }) (blank_runs every reps) n apart
    (none_blank every reps n (λ j s at. other (suc j) s (one_further r reps j s at)))

pub apart_blank : (every : ℕ) (reps : List Replication) → NumbersApart reps → AreApart (blank_runs every reps)
apart_blank every [] h = tt
apart_blank every (r ∷ reps) h = (
  none_blank every reps r.number (λ j s at. h 0 (suc j) r s (omega arith) (slice_get-get_or (r ∷ reps) 0 r (omega arith)) (one_further r reps j s at)),
  apart_blank every reps (λ i j a b less one other. h (suc i) (suc j) a b (omega (arith, less)) (one_further r reps i a one) (one_further r reps j b other)),
)
