-- a version without a fault is what a version may be, and the other way round
use Rattle.std.proofs.Common.{◌≡◌, ℕ, refl, false, ◌≤◌, List, length, Option, None, nat_lt, inl, inr, ◌∙◌}
use Rattle.std.specs.List.{list_any}
use Rattle.std.proofs.lemmas.Bool.{ltb-false, le-ltb, cases_Bool, or_parts, or_from}
use Rattle.gw_meaning.specs.Listing.{Listing}
use Rattle.gw_meaning.specs.declared.statement.Numbered.{Numbered}
use Rattle.gw_meaning.specs.declared.statement.Replication.{Replication}
use Rattle.gw_model.specs.Faults.{fault_of, is_too_long, has_bad_replication, is_bad_horizon, has_label_twice, has_unknown_label, has_unknown_definition, has_equ_named, definition_fault_of, label_fault_of, is_bad_replication, has_number_twice, is_outside, IsFault}
use Rattle.gw_model.specs.declared.fault.ModelFault.{ModelFault}
use Rattle.gw_model.specs.declared.fault.ModelFault.TheVariants.{TooMany, BadSeed, BadHorizon, LabelTwice, NoSuchLabel, NoSuchDefinition, EquNamedDefinition, Memory}
use Rattle.gw_model.specs.Well.{Well, IsSeeded}
use Rattle.gw_model.proofs.Apart.{none_of, none_from, numbers_apart, numbers_once, labels_apart, labels_once}
use Rattle.gw_model.proofs.Known.{labels_there, counts_there, labels_known, storages_there, tables_there, numbers_there, definitions_there, definitions_known, none_equ_named}

-- a number in range
inside : (least greatest n : ℕ) → is_outside least greatest n ≡ false → (least ≤ n) × (n ≤ greatest)
inside least greatest n h =
    let parts = or_parts (nat_lt n least) (nat_lt greatest n) h in
    (ltb-false n least parts.0, ltb-false greatest n parts.1)

outside : (least greatest n : ℕ) → least ≤ n → n ≤ greatest → is_outside least greatest n ≡ false
outside least greatest n low high = or_from (nat_lt n least) (nat_lt greatest n) (le-ltb n least low) (le-ltb greatest n high)

pub seeded : (r : Replication) → is_bad_replication r ≡ false → IsSeeded r
seeded r h =
    let parts = or_parts (is_outside 1 2147483646 r.seed) (is_outside 1 1000000000 r.number) h in
    let seed = inside 1 2147483646 r.seed parts.0 in
    let number = inside 1 1000000000 r.number parts.1 in
    record { least_seed = seed.0; greatest_seed = seed.1; least_number = number.0; greatest_number = number.1 }

unseeded : (r : Replication) → IsSeeded r → is_bad_replication r ≡ false
unseeded r s =
    or_from (is_outside 1 2147483646 r.seed) (is_outside 1 1000000000 r.number)
    (outside 1 2147483646 r.seed s.least_seed s.greatest_seed) (outside 1 1000000000 r.number s.least_number s.greatest_number)

-- where no test of the scan holds, the version is well-formed
well_from : (t : Listing) → is_too_long t.lines t.replications ≡ false → has_bad_replication t.replications ≡ false →
    is_bad_horizon t.horizon t.limit ≡ false → has_label_twice t.lines ≡ false →
    has_unknown_label t.lines ≡ false → has_unknown_definition t.lines ≡ false → has_equ_named t.lines ≡ false → Well t
well_from t long bad limits twice unknown missing equ =
    let sizes = or_parts (nat_lt 2000 (length t.lines)) (nat_lt 32 (length t.replications)) long in
    let seeds = or_parts (list_any is_bad_replication t.replications) (has_number_twice t.replications) bad in
    let bounds = or_parts (is_outside 1 1000000000000 t.horizon) (is_outside 1 1000000 t.limit) limits in
    let horizon = inside 1 1000000000000 t.horizon bounds.0 in
    let limit = inside 1 1000000 t.limit bounds.1 in
    record {
      statements = ltb-false 2000 (length t.lines) sizes.0;
      replications = ltb-false 32 (length t.replications) sizes.1;
      seeded = λ i r e. seeded r (none_of is_bad_replication t.replications seeds.0 i r e);
      numbers_apart = numbers_apart t.replications seeds.1;
      least_horizon = horizon.0;
      greatest_horizon = horizon.1;
      least_limit = limit.0;
      greatest_limit = limit.1;
      labels_apart = labels_apart t.lines twice;
      labels_there = labels_there t.lines unknown;
      storages_there = storages_there t.lines missing equ;
      tables_there = tables_there t.lines missing equ;
      numbers_there = numbers_there t.lines missing;
      counts_there = counts_there t.lines unknown;
      definitions_there = definitions_there t.lines missing equ;
    }

-- the names of definitions without a fault
definition_parts : (lines : List Numbered) → definition_fault_of lines ≡ None → (has_unknown_definition lines ≡ false) × (has_equ_named lines ≡ false)
definition_parts lines sound =
    elim (cases_Bool (has_unknown_definition lines)) [
      | inl missing ↦ absurd (let f = rw missing at sound in cc)
      | inr missing ↦ elim (cases_Bool (has_equ_named lines)) [
        | inl equ ↦ absurd (let f = rw (missing, equ) at sound in cc)
        | inr equ ↦ (missing, equ)
      ]
    ]

-- labels and names of definitions without a fault
record AreSound (lines : List Numbered) : Type 0 where
  twice : has_label_twice lines ≡ false
  unknown : has_unknown_label lines ≡ false
  missing : has_unknown_definition lines ≡ false
  equ : has_equ_named lines ≡ false

sound_parts : (lines : List Numbered) → label_fault_of lines ≡ None → AreSound lines
sound_parts lines sound =
    elim (cases_Bool (has_label_twice lines)) [
      | inl twice ↦ absurd (let f = rw twice at sound in cc)
      | inr twice ↦ elim (cases_Bool (has_unknown_label lines)) [
        | inl unknown ↦ absurd (let f = rw (twice, unknown) at sound in cc)
        | inr unknown ↦ let rest : definition_fault_of lines ≡ None = rw (twice, unknown) at sound in
            let parts = definition_parts lines rest in
            record { twice = twice; unknown = unknown; missing = parts.0; equ = parts.1 }
      ]
    ]

pub sound_from : (t : Listing) → Well t → label_fault_of t.lines ≡ None
sound_from t w =
    let twice : has_label_twice t.lines ≡ false = labels_once t.lines w.labels_apart in
    let unknown : has_unknown_label t.lines ≡ false = labels_known t.lines w.labels_there w.counts_there in
    let missing : has_unknown_definition t.lines ≡ false =
    definitions_known t.lines w.storages_there w.tables_there w.definitions_there w.numbers_there in
    let equ : has_equ_named t.lines ≡ false = none_equ_named t.lines w.storages_there w.tables_there w.definitions_there in
    rw (twice, unknown, missing, equ)

-- a version without a fault is well-formed, where its labels are looked at last
pub well_left : (t : Listing) → fault_of t ≡ label_fault_of t.lines → label_fault_of t.lines ≡ None → Well t
well_left t left sound =
    let none : fault_of t ≡ None = left ∙ sound in
    let labels = sound_parts t.lines sound in
    elim (cases_Bool (is_too_long t.lines t.replications)) [
      | inl long ↦ absurd (let f = rw long at none in cc)
      | inr long ↦ elim (cases_Bool (has_bad_replication t.replications)) [
        | inl bad ↦ absurd (let f = rw (long, bad) at none in cc)
        | inr bad ↦ elim (cases_Bool (is_bad_horizon t.horizon t.limit)) [
          | inl limits ↦ absurd (let f = rw (long, bad, limits) at none in cc)
          | inr limits ↦ well_from t long bad limits labels.twice labels.unknown labels.missing labels.equ
        ]
      ]
    ]

-- a well-formed version has no fault
pub no_fault : (t : Listing) → Well t → fault_of t ≡ None
no_fault t w =
    let long : is_too_long t.lines t.replications ≡ false =
    or_from (nat_lt 2000 (length t.lines)) (nat_lt 32 (length t.replications)) (le-ltb 2000 (length t.lines) w.statements)
    (le-ltb 32 (length t.replications) w.replications) in
    let bad : has_bad_replication t.replications ≡ false =
    or_from (list_any is_bad_replication t.replications) (has_number_twice t.replications)
    (none_from is_bad_replication t.replications (λ i r e. unseeded r (w.seeded i r e))) (numbers_once t.replications w.numbers_apart) in
    let limits : is_bad_horizon t.horizon t.limit ≡ false =
    or_from (is_outside 1 1000000000000 t.horizon) (is_outside 1 1000000 t.limit) (outside 1 1000000000000 t.horizon w.least_horizon w.greatest_horizon)
    (outside 1 1000000 t.limit w.least_limit w.greatest_limit) in
    let sound : label_fault_of t.lines ≡ None = sound_from t w in
    rw (long, bad, limits, sound)

pub memory_alone : (first : Option ModelFault) (fault : ModelFault) → first ≡ None → IsFault first fault → fault ≡ Memory
memory_alone first TooMany e h = cc
memory_alone first BadSeed e h = cc
memory_alone first BadHorizon e h = cc
memory_alone first LabelTwice e h = cc
memory_alone first NoSuchLabel e h = cc
memory_alone first NoSuchDefinition e h = cc
memory_alone first EquNamedDefinition e h = cc
memory_alone first Memory e h = refl
