-- The recorded runs after an edit are runs of the edited version.
use Rattle.std.proofs.Common.{◌≡◌, ℕ, ◌<◌, Bool, true, false, cond, List, [], ◌∷◌, ◌++◌, ◌+◌, length, filter, is_some, Option, Some, None, Result, Ok, Err, refl, sym, ap, subst, ◌∙◌, length-append, arith}
use Rattle.gw_meaning.specs.declared.statement.Statement.{Statement}
use Rattle.gw_meaning.specs.Numbers.{AreNumbered}
use Rattle.gw_meaning.specs.Listing.{Listing, seed_at}
use Rattle.gw_model.specs.Faults.{is_outside, fault_of}
use Rattle.gw_model.specs.Spliced.{with_splice}
use Rattle.gw_record.specs.Tape.{Tape, blank}
use Rattle.gw_meaning.specs.declared.edit.Edit.{Edit}
use Rattle.gw_meaning.specs.declared.edit.Edit.TheVariants as edits
use Rattle.gw_touch.specs.Touching.{storage_place, touch_of}
use Rattle.gw_touch.specs.Touched.{touched_step, IsKeptOf}
use Rattle.gw_edit.specs.declared.fault.EditFault.{EditFault}
use Rattle.gw_edit.specs.declared.fault.EditFault.TheVariants as faults
use Rattle.gw_edit.specs.Leading.{LeadsTo}
use Rattle.gw_edit.proofs.LeadLaws.{leads_more}
use Rattle.gw_edit.specs.Faults.{Gives, of_line, of_model}
use Rattle.gw_lines.specs.declared.fault.LineFault.{LineFault}
use Rattle.gw_lines.specs.declared.fault.LineFault.TheVariants as lines
use Rattle.gw_lines.specs.Edits.{edit_of}
use Rattle.gw_lines.specs.Reading.{◌>>=◌}
use Rattle.gw_model.specs.declared.fault.ModelFault.{ModelFault}
use Rattle.gw_model.specs.declared.fault.ModelFault.TheVariants as models
use Rattle.gw_lines.specs.Printed.{storage_of}
use Rattle.gw_edit.specs.Applied.{applied, capacity_at, checked, unless_faulty, or_refusal, spelled_by, reseeded, without_number, has_replication}
use Rattle.gw_desk.specs.declared.recording.Recording.{Recording}
use Rattle.gw_desk.specs.Book.{Book, IsBook, run_in, IsRunOf, AreRuns, AreApart}
use Rattle.gw_desk.specs.Editing.{Accepts, Refuses}
use Rattle.gw_desk.specs.declared.texts.Place.{Place}
use Rattle.gw_desk.specs.Texts.{AreTexts}
use Rattle.gw_desk.proofs.TextLaws.{texts_past}
use Rattle.gw_desk.specs.Rebasing.{AreRebased, with_missing}
use Rattle.gw_record.proofs.Blank.{blank_records}
use Rattle.gw_desk.proofs.ApartLaws.{apart_rebased, apart_missing, apart_left}
use Rattle.gw_desk.proofs.RebaseLaws.{IsRebasedOf, rebased_in, missing_or, missing_in, left_in}

-- the runs after an edit
abbrev pub runs_behind : ℕ → Listing → List Recording → List Recording
runs_behind every u runs = filter (λ (r : Recording). is_some (seed_at u r.number)) (with_missing every u.replications runs)

apart_behind : (every : ℕ) (t : Listing) (e : Edit) (u : Listing) (old cut : List Recording) → AreRebased t e u old cut → AreApart old →
    AreApart (runs_behind every u cut)
apart_behind every t e u old cut rebased apart =
    apart_left (λ (r : Recording). is_some (seed_at u r.number)) (with_missing every u.replications cut)
    (apart_missing every u.replications cut (apart_rebased t e u old cut rebased apart))

module _ (every : ℕ) (t : Listing) (e : Edit) (u : Listing) (old cut : List Recording) (made : applied t e ≡ Ok u) (runs : AreRuns t every old)
    (rebased : AreRebased t e u old cut) where
  behind_in : (n : ℕ) → run_in (runs_behind every u cut) n ≡ cond (is_some (seed_at u n)) (missing_or every (seed_at u n) (run_in cut n)) None
  behind_in n = left_in u (with_missing every u.replications cut) n ∙ ap (λ o. cond (is_some (seed_at u n)) o None) (missing_in every u.replications cut n)

  pub new_runs : AreRuns u every (runs_behind every u cut)
  new_runs n = subst (λ o. IsRunOf u every (seed_at u n) o) (sym (behind_in n))
      (go (seed_at u n) refl (run_in cut n) (run_in old n) (rebased_in t e u old cut rebased n) (seed_at t n) refl (runs n)) where
        go : (b : Option ℕ) → seed_at u n ≡ b → (s : Option Tape) (r : Option Tape) → IsRebasedOf t e u n r s → (a : Option ℕ) → seed_at t n ≡ a →
            IsRunOf t every a r → IsRunOf u every b (cond (is_some b) (missing_or every b s) None)
        go None is s r h a was k = tt
        go (Some b) is None r h a was k = (blank_records u b every, refl, refl)
        go (Some b) is (Some s) None h a was k = absurd h
        go (Some b) is (Some s) (Some r) h None was k = absurd k
        go (Some b) is (Some s) (Some r) h (Some a) was k =
            let cut = h k.2 in
            (cut.records a b made was is k.0, cut.every ∙ k.1, cut.start ∙ k.2)

  -- the run of a replication that both versions have
  pub kept_run : (n a b : ℕ) (r : Tape) → seed_at t n ≡ Some a → seed_at u n ≡ Some b → run_in old n ≡ Some r → (s : Tape) ×
      (run_in (runs_behind every u cut) n ≡ Some s) × (s.every ≡ r.every) × (s.start ≡ r.start) ×
      IsKeptOf t a r (touched_step (touch_of t e u n) t a r) s.moment
  kept_run n a b r was is there = go (run_in cut n) refl (subst (λ o. IsRebasedOf t e u n o (run_in cut n)) there (rebased_in t e u old cut rebased n)) where
    of_run : IsRunOf t every (Some a) (Some r)
    of_run = subst (λ o. IsRunOf t every (Some a) o) there (subst (λ o. IsRunOf t every o (run_in old n)) was (runs n))

    go : (s : Option Tape) → run_in cut n ≡ s → IsRebasedOf t e u n (Some r) s → (s : Tape) × (run_in (runs_behind every u cut) n ≡ Some s) ×
        (s.every ≡ r.every) × (s.start ≡ r.start) × IsKeptOf t a r (touched_step (touch_of t e u n) t a r) s.moment
    go None found h = absurd h
    go (Some s) found h =
        let cut = h of_run.2 in
        (s, behind_in n ∙ (rw (is, found) refl), cut.every, cut.start, cut.kept a of_run.0)

  -- the run of a replication that is added
  pub fresh_run : (n b : ℕ) → seed_at t n ≡ None → seed_at u n ≡ Some b → run_in (runs_behind every u cut) n ≡ Some (blank every)
  fresh_run n b was is =
      go (run_in old n) refl (run_in cut n) refl (rebased_in t e u old cut rebased n) (subst (λ o. IsRunOf t every o (run_in old n)) was (runs n)) where
        go : (x : Option Tape) → run_in old n ≡ x → (s : Option Tape) → run_in cut n ≡ s → IsRebasedOf t e u n x s → IsRunOf t every None x →
            run_in (runs_behind every u cut) n ≡ Some (blank every)
        go (Some x) old_is s cut_is h k = absurd k
        go None old_is (Some s) cut_is h k = absurd h
        go None old_is None cut_is h k = behind_in n ∙ (rw (is, cut_is) refl)

-- no edit is refused for the desk's history
line_refused : (fault : LineFault) → of_line fault ≡ faults.HistoryFull → ⊥
line_refused lines.Memory is = absurd cc
line_refused lines.TooLong is = absurd cc
line_refused lines.BadByte is = absurd cc
line_refused lines.UnknownVerb is = absurd cc
line_refused lines.BadLabel is = absurd cc
line_refused (lines.BadOperand n) is = absurd cc
line_refused (lines.MissingOperand n) is = absurd cc
line_refused (lines.ExtraOperand n) is = absurd cc
line_refused lines.BadPairs is = absurd cc

model_refused : (fault : ModelFault) → of_model fault ≡ faults.HistoryFull → ⊥
model_refused models.TooMany is = absurd cc
model_refused models.BadSeed is = absurd cc
model_refused models.BadHorizon is = absurd cc
model_refused models.LabelTwice is = absurd cc
model_refused models.NoSuchLabel is = absurd cc
model_refused models.NoSuchDefinition is = absurd cc
model_refused models.EquNamedDefinition is = absurd cc
model_refused models.Memory is = absurd cc

unless_refused : (o : Option ModelFault) (v : Listing) → unless_faulty o v ≡ Err faults.HistoryFull → ⊥
unless_refused None v is = absurd cc
unless_refused (Some fault) v is = model_refused fault cc

checked_refused : (v : Listing) → checked v ≡ Err faults.HistoryFull → ⊥
unfolding checked
checked_refused v is = unless_refused (fault_of v) v is

spelled_refused : (o : Result Statement LineFault) (f : Statement → Listing) → (or_refusal o >>= (λ s. checked (f s))) ≡ Err faults.HistoryFull → ⊥
spelled_refused (Ok s) f is = checked_refused (f s) is
spelled_refused (Err fault) f is = line_refused fault cc

one_or : (b : Bool) (fault : EditFault) (r : Result Listing EditFault) → (fault ≡ faults.HistoryFull → ⊥) → (r ≡ Err faults.HistoryFull → ⊥) →
    cond b (Err fault) r ≡ Err faults.HistoryFull → ⊥
one_or true fault r h k is = h cc
one_or false fault r h k is = k is

other_or : (b : Bool) (fault : EditFault) (r : Result Listing EditFault) → (fault ≡ faults.HistoryFull → ⊥) → (r ≡ Err faults.HistoryFull → ⊥) →
    cond b r (Err fault) ≡ Err faults.HistoryFull → ⊥
other_or true fault r h k is = k is
other_or false fault r h k is = h cc

capacity_refused : (t : Listing) (name : List ℕ) (amount : ℕ) (place : Option ℕ) → capacity_at t name amount place ≡ Err faults.HistoryFull → ⊥
capacity_refused t name amount None is = absurd cc
capacity_refused t name amount (Some place) is =
    let v = with_splice t place true (Some (storage_of name amount)) in
    one_or (is_outside 1 1000000000 amount) (faults.BadStatement (lines.BadOperand 1)) (checked v) (λ e. absurd cc) (λ e. checked_refused v e) is

pub never_full : (t : Listing) (e : Edit) → applied t e ≡ Err faults.HistoryFull → ⊥
never_full t (edits.Insert place text) is = one_or (is_outside 1 (length t.lines + 1) place) faults.NoSuchPlace
    (spelled_by text >>= (λ s. checked (with_splice t place false (Some s)))) (λ e. absurd cc)
    (λ e. spelled_refused (edit_of text) (λ s. with_splice t place false (Some s)) e) is
never_full t (edits.Delete place) is = one_or (is_outside 1 (length t.lines) place) faults.NoSuchPlace (checked (with_splice t place true None))
    (λ e. absurd cc) (λ e. checked_refused (with_splice t place true None) e) is
never_full t (edits.Change place text) is = one_or (is_outside 1 (length t.lines) place) faults.NoSuchPlace
    (spelled_by text >>= (λ s. checked (with_splice t place true (Some s)))) (λ e. absurd cc)
    (λ e. spelled_refused (edit_of text) (λ s. with_splice t place true (Some s)) e) is
never_full t (edits.Capacity name amount) is = capacity_refused t name amount (storage_place name t) is
never_full t (edits.Seed number seed) is =
    let v : Listing = record t { replications = reseeded number seed t.replications } in
    other_or (has_replication t number) faults.NoSuchReplication (checked v) (λ e. absurd cc) (λ e. checked_refused v e) is
never_full t (edits.Replicate number seed) is =
    let v : Listing = record t { replications = t.replications ++ record { number = number; seed = seed } ∷ [] } in
    one_or (has_replication t number) faults.ReplicationTwice (checked v) (λ e. absurd cc) (λ e. checked_refused v e) is
never_full t (edits.Drop number) is =
    let v : Listing = record t { replications = without_number number t.replications } in
    other_or (has_replication t number) faults.NoSuchReplication (checked v) (λ e. absurd cc) (λ e. checked_refused v e) is
never_full t (edits.Horizon time) is = checked_refused (record t { horizon = time }) is

-- the edit's own refusal is the desk's
pub refuses : (b : Book) (e : Edit) (fault : EditFault) → length b.edits < 4096 → Gives {X = Listing} (Err fault) (applied b.version e) → Refuses b e fault
refuses b e faults.HistoryFull room h = absurd (never_full b.version e h)
refuses b e faults.Memory room h = tt
refuses b e faults.NoSuchPlace room h = (room, h)
refuses b e (faults.BadStatement fault) room h = (room, h)
refuses b e (faults.BadModel fault) room h = (room, h)
refuses b e faults.NoSuchReplication room h = (room, h)
refuses b e faults.ReplicationTwice room h = (room, h)
refuses b e faults.NoSuchStorage room h = (room, h)

-- an edit of a desk that is made: the runs are those that it leaves, and it is put after those before it
pub record IsMade (b : Book) (e : Edit) (u : Listing) (cut runs : List Recording) (all : List Edit) : Type 0 where
  pub room : length b.edits < 4096
  pub made : applied b.version e ≡ Ok u
  pub desk : IsBook b
  pub rebased : AreRebased b.version e u b.runs cut
  pub behind : runs ≡ runs_behind b.every u cut
  pub more : all ≡ b.edits ++ e ∷ []

-- it is accepted, and leaves a desk
module _ (b : Book) (e : Edit) (u : Listing) (cut runs : List Recording) (all : List Edit) (m : IsMade b e u cut runs all) where
  abbrev pub edited : Book
  edited = record b { version = u; edits = all; runs = runs }

  pub accepts : (n : ℕ) → n ≡ length all → Accepts b e edited n
  accepts n number = rw m.behind (record {
    room = m.room;
    opening = refl;
    version = m.made;
    edits = m.more;
    number = number;
    every = refl;
    made = refl;
    kept = λ rep a x r was is there.
        let (s, found, every, start, kept) = kept_run b.every b.version e u b.runs cut m.made m.desk.runs m.rebased rep a x r was is there in
        record { run = s; there = found; every = every; start = start; kept = kept };
    fresh = λ rep x none is. fresh_run b.every b.version e u b.runs cut m.made m.desk.runs m.rebased rep x none is;
  })

  one_more : length all ≡ length b.edits + 1
  one_more = ap length m.more ∙ length-append b.edits (e ∷ [])

  pub still_texts : (texts : List (Place × List ℕ)) → AreTexts b.version (length b.edits) texts → AreTexts u (length all) texts
  still_texts texts are = texts_past b.version u (length b.edits) (length all) texts one_more are

  pub still_desk : AreNumbered u.lines → IsBook edited
  still_desk numbered =
      let one = one_more in
      let room = m.room in
      record {
        some = m.desk.some;
        few = omega (arith, room, one);
        numbered = numbered;
        leads = subst (λ es. LeadsTo b.opening es u) (sym m.more) (leads_more b.opening b.version u b.edits e m.desk.leads m.made);
        runs = subst (λ xs. AreRuns u b.every xs) (sym m.behind) (new_runs b.every b.version e u b.runs cut m.made m.desk.runs m.rebased);
        apart = subst AreApart (sym m.behind) (apart_behind b.every b.version e u b.runs cut m.rebased m.desk.apart);
      }
