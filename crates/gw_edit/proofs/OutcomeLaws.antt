-- What each edit makes of a version, fact by fact, and where it is refused.
use Rattle.std.proofs.Common.{◌≡◌, ◌≢◌, ◌⊎◌, ℕ, ◌+◌, ◌-◌, ◌==◌, Bool, true, false, cond, not, List, [], ◌∷◌, ◌++◌, Option, Some, None, Result, Err, is_some, filter, length, map, take, drop, inl, inr, refl, ap, ap₂, sym, subst, ◌∙◌, arith, true≢false}
use Rattle.std.proofs.Math.Seq.{take-append_seam, drop-append-add}
use Rattle.std.proofs.lemmas.Bool.{cases_Bool, eq-eqb, eqb-true, ne_eqb}
use Rattle.std.proofs.lemmas.List.{append-nil}
use Rattle.std.proofs.lemmas.List.Elements.{All-cons, All-head, All-nil, All-tail}
use Rattle.gw_meaning.specs.declared.statement.Definition.{Definition}
use Rattle.gw_meaning.specs.declared.statement.Definition.TheVariants as definitions
use Rattle.gw_meaning.specs.declared.statement.Numbered.{Numbered}
use Rattle.gw_meaning.specs.declared.statement.Replication.{Replication}
use Rattle.gw_meaning.specs.declared.statement.Statement.{Statement}
use Rattle.gw_meaning.specs.Listing.{Listing, definition_if, definition_of_body, has_label, nth, seed_in}
use Rattle.gw_frame.specs.Renamed.{statements_of}
use Rattle.gw_lines.specs.declared.fault.LineFault.TheVariants as faults
use Rattle.gw_lines.specs.Printed.{storage_of}
use Rattle.gw_model.specs.Faults.{is_outside}
use Rattle.gw_model.specs.Spliced.{number_in, spliced, with_splice}
use Rattle.gw_model.proofs.Apart.{same_bytes}
use Rattle.gw_touch.specs.Touching.{is_capacity, storage_in}
use Rattle.gw_edit.specs.declared.fault.EditFault.{EditFault}
use Rattle.gw_edit.specs.declared.fault.EditFault.TheVariants.{NoSuchPlace, BadStatement, NoSuchReplication, ReplicationTwice}
use Rattle.gw_edit.specs.Applied.{capacity_at, checked, reseeded, with_seed, without_number}
use Rattle.gw_edit.specs.Outcomes.{IsDeleted, DeleteMakes, IsStorage, HasNoStorage, FirstStorage, IsReplaced, CapacityMakes, IsReseeded, SeedMakes, IsAdded, ReplicateMakes, IsDropped, DropMakes, HasHorizon, EditsMake}
use Rattle.gw_edit.proofs.CapacityLaws.{is_storage}
use Rattle.gw_edit.proofs.Changed.{changes_to, inside, outside_below, outside_above, statements_spliced, one_between}
use Rattle.gw_edit.proofs.TextLaws.{insert_makes, change_makes}
use Rattle.gw_edit.proofs.Seeds.{seed_gone, seed_left, seed_reseeded}

-- ---- a statement is deleted

deleted : (lines : List Numbered) (place : ℕ) →
    statements_of (spliced lines place true None) ≡ take (place - 1) (statements_of lines) ++ drop place (statements_of lines)
deleted lines place =
    statements_spliced lines [] (place - 1) place
    ∙ ap (λ a. a ++ drop place (statements_of lines)) (append-nil (take (place - 1) (statements_of lines)))

delete_makes : (t : Listing) (place : ℕ) → DeleteMakes t place
delete_makes t place = record {
  deletes = λ least within. changes_to (IsDeleted t place) made _
      (record { statements = deleted t.lines place; rest = record { horizon = refl; replications = refl; limit = refl } })
      (ap answer (inside (length t.lines) place least within));
  below = λ low. ap answer (outside_below (length t.lines) place low);
  above = λ high. ap answer (outside_above (length t.lines) place high);
} where
  made : Listing
  made = with_splice t place true None

  answer : Bool → Result Listing EditFault
  answer outside = cond outside (Err NoSuchPlace) (checked made)

-- ---- a storage

-- whether `storage_in` takes a statement for the storage of the name
abbrev is_taken : List ℕ → Statement → Bool
is_taken name s = is_capacity (definition_if (has_label name s.label) (definition_of_body s.body))

abbrev NoStorage : List ℕ → Statement → Type 0
NoStorage name s = IsStorage name s → ⊥

-- it does so exactly where it is one
is_there : (name : List ℕ) (s : Statement) → IsStorage name s → is_taken name s ≡ true
is_there name s is = rw (is.body, is.label, same_bytes name) refl

units_there : (d : Option Definition) → is_capacity d ≡ true → (units : ℕ) × (d ≡ Some (definitions.Storage units))
units_there None h = absurd cc
units_there (Some (definitions.Storage units)) h = (units, refl)
units_there (Some (definitions.Equ value)) h = absurd cc
units_there (Some (definitions.Variable expression)) h = absurd cc
units_there (Some (definitions.Function function)) h = absurd cc
units_there (Some (definitions.Table table)) h = absurd cc

is_named : (name : List ℕ) (s : Statement) → is_taken name s ≡ true → IsStorage name s
is_named name s h =
    let there = units_there (definition_if (has_label name s.label) (definition_of_body s.body)) h in
    let storage = is_storage name there.0 s.label s.body there.1 in
    record { label = storage.label_is; units = there.0; body = storage.body_is }

is_none : (name : List ℕ) (s : Statement) → NoStorage name s → is_taken name s ≡ false
is_none name s none = elim (cases_Bool (is_taken name s)) [ inl h ↦ absurd (none (is_named name s h)) | inr h ↦ h ]

not_there : (name : List ℕ) (s : Statement) → is_taken name s ≡ false → NoStorage name s
not_there name s h is = true≢false (sym (is_there name s is) ∙ h)

-- one is the first, or none is there
searched : (name : List ℕ) (ss : List Statement) → FirstStorage name ss ⊎ HasNoStorage name ss
searched name [] = inr (All-nil (NoStorage name))
searched name (s ∷ ss) =
    elim (cases_Bool (is_taken name s)) [
      | inl h ↦ inl (record { front = []; storage = s; behind = ss; parts = refl; is_storage = is_named name s h; is_first = All-nil (NoStorage name) })
      | inr h ↦
          elim (searched name ss) [
            | inl at ↦
                inl (record {
                  front = s ∷ at.front;
                  storage = at.storage;
                  behind = at.behind;
                  parts = ap (λ xs. s ∷ xs) at.parts;
                  is_storage = at.is_storage;
                  is_first = All-cons (NoStorage name) s at.front (not_there name s h) at.is_first;
                })
            | inr none ↦ inr (All-cons (NoStorage name) s ss (not_there name s h) none)
          ]
    ]

-- `storage_in` finds none, or the first one
none_found : (name : List ℕ) (n : ℕ) (lines : List Numbered) → HasNoStorage name (statements_of lines) → storage_in name n lines ≡ None
none_found name n [] none = refl
none_found name n (line ∷ lines) none =
    rw (is_none name line.statement (All-head (NoStorage name) line.statement (statements_of lines) none))
    (none_found name (n + 1) lines (All-tail (NoStorage name) line.statement (statements_of lines) none))

first_found : (name : List ℕ) (n : ℕ) (lines : List Numbered) (front : List Statement) (s : Statement) (behind : List Statement) →
    statements_of lines ≡ front ++ s ∷ behind → IsStorage name s → HasNoStorage name front → storage_in name n lines ≡ Some (n + length front)
first_found name n [] [] s behind parts is none = absurd cc
first_found name n [] (x ∷ front) s behind parts is none = absurd cc
first_found name n (line ∷ lines) [] s behind parts is none =
    let here : s ≡ line.statement = cc in
    rw (is_there name line.statement (subst (λ (x : Statement). IsStorage name x) here is)) (ap (λ k. Some k) (omega arith))
first_found name n (line ∷ lines) (x ∷ front) s behind parts is none =
    let first : line.statement ≡ x = cc in
    let rest : statements_of lines ≡ front ++ s ∷ behind = cc in
    rw (is_none name line.statement (λ k. All-head (NoStorage name) x front none (subst (λ (y : Statement). IsStorage name y) first k)))
    (first_found name (n + 1) lines front s behind rest is (All-tail (NoStorage name) x front none) ∙ ap (λ k. Some k) (omega arith))

-- another statement in its place
replaced : (lines : List Numbered) (front : List Statement) (was s : Statement) (behind : List Statement) → statements_of lines ≡ front ++ was ∷ behind →
    statements_of (spliced lines (1 + length front) true (Some s)) ≡ front ++ s ∷ behind
replaced lines front was s behind parts =
    let place = 1 + length front in
    let number = number_in lines (nth lines place) in
    let next : place ≡ length front + 1 = omega arith in
    let in_front : take (place - 1) (statements_of lines) ≡ front =
    ap₂ (λ i xs. take i xs) (omega arith) parts ∙ take-append_seam front (was ∷ behind) in
    let back : drop place (statements_of lines) ≡ behind = ap₂ (λ i xs. drop i xs) next parts ∙ drop-append-add front (was ∷ behind) 1 in
    one_between lines s number (place - 1) place
    ∙ ap₂ (λ a b. a ++ s ∷ b) in_front back

capacity_makes : (t : Listing) (name : List ℕ) (amount : ℕ) → CapacityMakes t name amount
capacity_makes t name amount = record {
  replaces = λ at least most. changes_to (IsReplaced t at.front at.behind (storage_of name amount)) (made at) _
      (record {
        statements = replaced t.lines at.front at.storage (storage_of name amount) at.behind at.parts;
        rest = record { horizon = refl; replications = refl; limit = refl };
      })
      (found at ∙ ap (answer at) (inside 1000000000 amount least most));
  below = λ at low. found at ∙ ap (answer at) (outside_below 1000000000 amount low);
  above = λ at high. found at ∙ ap (answer at) (outside_above 1000000000 amount high);
  none = λ none. ap (capacity_at t name amount) (none_found name 1 t.lines none);
  searched = searched name (statements_of t.lines);
} where
  made : FirstStorage name (statements_of t.lines) → Listing
  made at = with_splice t (1 + length at.front) true (Some (storage_of name amount))

  answer : FirstStorage name (statements_of t.lines) → Bool → Result Listing EditFault
  answer at outside = cond outside (Err (BadStatement (faults.BadOperand 1))) (checked (made at))

  found : (at : FirstStorage name (statements_of t.lines)) →
      capacity_at t name amount (storage_in name 1 t.lines) ≡ answer at (is_outside 1 1000000000 amount)
  found at = ap (capacity_at t name amount) (first_found name 1 t.lines at.front at.storage at.behind at.parts at.is_storage at.is_first)

-- ---- a replication has another seed

-- it has that seed, and the numbers stay
own_seed : (rs : List Replication) (number seed old : ℕ) → seed_in rs number ≡ Some old → seed_in (reseeded number seed rs) number ≡ Some seed
own_seed [] number seed old h = absurd cc
own_seed (r ∷ rs) number seed old h = go (r.number == number) refl h (own_seed rs number seed old) where
  go : (b : Bool) → (r.number == number) ≡ b → cond b (Some r.seed) (seed_in rs number) ≡ Some old →
      (seed_in rs number ≡ Some old → seed_in (reseeded number seed rs) number ≡ Some seed) →
      seed_in (cond b (record { number = number; seed = seed }) r ∷ reseeded number seed rs) number ≡ Some seed
  go true same k rest = rw (eq-eqb number number refl) refl
  go false differs k rest = rw differs (rest k)

same_number : (number seed : ℕ) (r : Replication) → (with_seed number seed r).number ≡ r.number
same_number number seed r = go (r.number == number) refl where
  go : (b : Bool) → (r.number == number) ≡ b → (cond b (record { number = number; seed = seed }) r).number ≡ r.number
  go true same = sym (eqb-true r.number number same)
  go false differs = refl

same_numbers : (rs : List Replication) (number seed : ℕ) →
    map (λ (r : Replication). r.number) (reseeded number seed rs) ≡ map (λ (r : Replication). r.number) rs
same_numbers [] number seed = refl
same_numbers (r ∷ rs) number seed = ap₂ (λ n ns. n ∷ ns) (same_number number seed r) (same_numbers rs number seed)

-- the number of another replication
apart : (number other : ℕ) → other ≢ number → (number == other) ≡ false
apart number other differs = ne_eqb number other (λ e. differs (sym e))

seed_makes : (t : Listing) (number seed : ℕ) → SeedMakes t number seed
seed_makes t number seed = record {
  reseeds = λ old is. changes_to (IsReseeded t number seed) made _
      (record {
        own = own_seed t.replications number seed old is;
        others = λ other differs. seed_reseeded t.replications number seed other (apart number other differs);
        numbers = same_numbers t.replications number seed;
        rest = record { lines = refl; horizon = refl; limit = refl };
      })
      (ap answer is);
  none = λ is. ap answer is;
} where
  made : Listing
  made = record t { replications = reseeded number seed t.replications }

  answer : Option ℕ → Result Listing EditFault
  answer old = cond (is_some old) (checked made) (Err NoSuchReplication)

-- ---- a replication is added

replicate_makes : (t : Listing) (number seed : ℕ) → ReplicateMakes t number seed
replicate_makes t number seed = record {
  adds = λ is. changes_to (IsAdded t number seed) made _
      (record { replications = refl; rest = record { lines = refl; horizon = refl; limit = refl } }) (ap answer is);
  twice = λ old is. ap answer is;
} where
  made : Listing
  made = record t { replications = t.replications ++ record { number = number; seed = seed } ∷ [] }

  answer : Option ℕ → Result Listing EditFault
  answer old = cond (is_some old) (Err ReplicationTwice) (checked made)

-- ---- a replication is dropped

-- the other numbers stay
numbers_left : (rs : List Replication) (number : ℕ) →
    map (λ (r : Replication). r.number) (without_number number rs) ≡ filter (λ n. not (n == number)) (map (λ (r : Replication). r.number) rs)
numbers_left [] number = refl
numbers_left (r ∷ rs) number = go (r.number == number) (numbers_left rs number) where
  go : (b : Bool) →
      map (λ (x : Replication). x.number) (without_number number rs) ≡ filter (λ n. not (n == number)) (map (λ (x : Replication). x.number) rs) →
      map (λ (x : Replication). x.number) (cond (not b) (r ∷ without_number number rs) (without_number number rs)) ≡
      cond (not b) (r.number ∷ filter (λ n. not (n == number)) (map (λ (x : Replication). x.number) rs))
      (filter (λ n. not (n == number)) (map (λ (x : Replication). x.number) rs))
  go true rest = rest
  go false rest = ap (λ ns. r.number ∷ ns) rest

drop_makes : (t : Listing) (number : ℕ) → DropMakes t number
drop_makes t number = record {
  drops = λ old is. changes_to (IsDropped t number) made _
      (record {
        own = seed_gone t.replications number;
        others = λ other differs. seed_left t.replications number other (apart number other differs);
        numbers = numbers_left t.replications number;
        rest = record { lines = refl; horizon = refl; limit = refl };
      })
      (ap answer is);
  none = λ is. ap answer is;
} where
  made : Listing
  made = record t { replications = without_number number t.replications }

  answer : Option ℕ → Result Listing EditFault
  answer old = cond (is_some old) (checked made) (Err NoSuchReplication)

-- ---- each edit

pub edits_make : EditsMake
edits_make t = record {
  inserts = insert_makes t;
  changes = change_makes t;
  deletes = delete_makes t;
  capacities = capacity_makes t;
  seeds = seed_makes t;
  replicates = replicate_makes t;
  drops = drop_makes t;
  horizons = λ time. changes_to (HasHorizon t time) (record t { horizon = time }) _
      (record { horizon = refl; lines = refl; replications = refl; limit = refl }) refl;
}
