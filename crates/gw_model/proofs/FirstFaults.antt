-- Each scan for a model fault finds what the fault says, and nothing else: so the fault that is found is the first one.
use Rattle.std.proofs.Common.{◌≡◌, ◌≢◌, ℕ, zero, suc, ◌<◌, ◌==◌, ◌||◌, ◌&&◌, not, Bool, true, false, List, [], ◌∷◌, length, Option, Some, None, is_some, refl, sym, ap, ◌∙◌, subst, ◌⊎◌, inl, inr, arith, nat_lt}
use Rattle.std.specs.List.{list_any, slice_get}
use Rattle.std.specs.Prelude.{ℤ, if◌then◌else◌}
use Rattle.std.proofs.lemmas.Bool.{cases_Bool, and_parts, both_ways, or_parts, or_right, lt-ltb, ltb-true, eqb-true}
use Rattle.std.proofs.lemmas.Slice.Eq.{bytes_eq-Decides}
use Rattle.gw_names.specs.declared.verb.DefinitionVerb.{DefinitionVerb}
use Rattle.gw_names.specs.declared.verb.DefinitionVerb.TheVariants as definition_verbs
use Rattle.gw_names.specs.declared.verb.Verb.{Verb}
use Rattle.gw_names.specs.declared.verb.Verb.TheVariants as verbs
use Rattle.gw_meaning.specs.Listing.{Listing, labelled_in, has_label}
use Rattle.gw_meaning.specs.Statements.{verb_of_definition}
use Rattle.gw_meaning.specs.declared.statement.Definition.{Definition}
use Rattle.gw_meaning.specs.declared.statement.Definition.TheVariants as definitions
use Rattle.gw_meaning.specs.declared.statement.Numbered.{Numbered}
use Rattle.gw_meaning.specs.declared.statement.Replication.{Replication}
use Rattle.gw_model.specs.declared.fault.ModelFault.{ModelFault}
use Rattle.gw_model.specs.declared.fault.ModelFault.TheVariants.{TooMany, BadSeed, BadHorizon, LabelTwice, NoSuchLabel, NoSuchDefinition, EquNamedDefinition, Memory}
use Rattle.gw_model.specs.declared.named.Needed.{Needed}
use Rattle.gw_model.specs.declared.named.Needed.TheVariants as needed
use Rattle.gw_model.specs.Listed.{counted_label}
use Rattle.gw_model.specs.Faults.{is_too_long, is_outside, is_bad_replication, has_number, has_number_twice, has_bad_replication, is_bad_horizon, is_labelled, has_label_twice, has_verb, is_unknown_label, has_unknown_label, is_undefined, has_unknown_definition, is_equ_named, has_equ_named}
use Rattle.gw_model.specs.FirstFaults.{HasOperand, IsOutside, IsNoLabel, IsNeither, IsNoDefinition, HasFault, many_statements, many_replications, bad_seed, bad_number, number_twice, bad_horizon, bad_limit, label_twice, no_label, no_definition, equ_named, in_order, FirstOf, is_there, is_later, FoundAreFirst, FirstAreFound, NoneAreLeft}
use Rattle.gw_model.proofs.Apart.{none_of, numbers_apart, labels_apart}
use Rattle.gw_model.proofs.Naming.{AreNaming, found_at, holds_at, named_found, named_holds, operand_holds, definition_holds}
use Rattle.gw_model.proofs.Known.{known, definition, is_verb, verb_holds, equ_is}

some_same : {X : Type 0} (x y : X) → Some x ≡ Some y → x ≡ y
some_same x y e = cc

one_of : (a b : Bool) → (a || b) ≡ true → (a ≡ true) ⊎ (b ≡ true)
one_of true b h = inl refl
one_of false b h = inr h

-- ---- sizes, replications and bounds

outside_found : (least greatest n : ℕ) → is_outside least greatest n ≡ true → IsOutside least greatest n
outside_found least greatest n h =
    elim (one_of (nat_lt n least) (nat_lt greatest n) h) [
      | inl low ↦ inl (ltb-true n least low)
      | inr high ↦ inr (ltb-true greatest n high)
    ]

outside_holds : (least greatest n : ℕ) → IsOutside least greatest n → is_outside least greatest n ≡ true
outside_holds least greatest n (inl low) = rw (lt-ltb n least low) refl
outside_holds least greatest n (inr high) = rw (lt-ltb greatest n high) (or_right (nat_lt n least) true refl)

too_many_found : (t : Listing) → is_too_long t.lines t.replications ≡ true → HasFault t TooMany
too_many_found t h =
    elim (one_of (nat_lt 2000 (length t.lines)) (nat_lt 32 (length t.replications)) h) [
      | inl lines ↦ many_statements t (ltb-true 2000 (length t.lines) lines)
      | inr replications ↦ many_replications t (ltb-true 32 (length t.replications) replications)
    ]

twice_found : (rs : List Replication) → has_number_twice rs ≡ true
    → (i : ℕ) × (j : ℕ) × (r : Replication) × (s : Replication) × (i < j) × (slice_get rs i ≡ Some r) × (slice_get rs j ≡ Some s) × (r.number ≡ s.number)
twice_found [] h = absurd cc
twice_found (r ∷ rs) h =
    elim (one_of (has_number r.number rs) (has_number_twice rs) h) [
      | inl here ↦
          let f = found_at (λ (s : Replication). s.number == r.number) rs here in
          (zero, suc f.0, r, f.1, omega arith, refl, f.2, sym (eqb-true f.1.number r.number f.3))
      | inr later ↦
          let f = twice_found rs later in
          (suc f.0, suc f.1, f.2, f.3, omega (arith, f.4), f.5, f.6, f.7)
    ]

replication_found : (t : Listing) → has_bad_replication t.replications ≡ true → HasFault t BadSeed
replication_found t h =
    elim (one_of (list_any is_bad_replication t.replications) (has_number_twice t.replications) h) [
      | inr twice ↦
          let f = twice_found t.replications twice in number_twice t f.0 f.1 f.2 f.3 f.4 f.5 f.6 f.7
      | inl bad ↦
          let f = found_at is_bad_replication t.replications bad in
          elim (one_of (is_outside 1 2147483646 f.1.seed) (is_outside 1 1000000000 f.1.number) f.3) [
            | inl seed ↦ bad_seed t f.0 f.1 f.2 (outside_found 1 2147483646 f.1.seed seed)
            | inr number ↦ bad_number t f.0 f.1 f.2 (outside_found 1 1000000000 f.1.number number)
          ]
    ]

bounds_found : (t : Listing) → is_bad_horizon t.horizon t.limit ≡ true → HasFault t BadHorizon
bounds_found t h =
    elim (one_of (is_outside 1 1000000000000 t.horizon) (is_outside 1 1000000 t.limit) h) [
      | inl horizon ↦ bad_horizon t (outside_found 1 1000000000000 t.horizon horizon)
      | inr limit ↦ bad_limit t (outside_found 1 1000000 t.limit limit)
    ]

-- ---- labels given twice

label_found : (name : List ℕ) (label : Option (List ℕ)) → has_label name label ≡ true → label ≡ Some name
label_found name None h = absurd cc
label_found name (Some other) h = ap (λ (n : List ℕ). Some n) ((bytes_eq-Decides other name).0 h)

abbrev LabelledTwice : List Numbered → Type 0
LabelledTwice lines =
    (i : ℕ) × (j : ℕ) × (k : Numbered) × (l : Numbered) × (name : List ℕ) × (i < j) × (slice_get lines i ≡ Some k)
    × (slice_get lines j ≡ Some l) × (counted_label k ≡ Some name) × (counted_label l ≡ Some name)

labelled_found : (label : Option (List ℕ)) (lines : List Numbered) → is_labelled label lines ≡ true
    → (name : List ℕ) × (j : ℕ) × (l : Numbered) × (label ≡ Some name) × (slice_get lines j ≡ Some l) × (counted_label l ≡ Some name)
labelled_found None lines h = absurd cc
labelled_found (Some name) lines h =
    let f = found_at (λ (line : Numbered). has_label name (counted_label line)) lines h in
    (name, f.0, f.1, refl, f.2, label_found name (counted_label f.1) f.3)

labels_found : (lines : List Numbered) → has_label_twice lines ≡ true → LabelledTwice lines
labels_found [] h = absurd cc
labels_found (line ∷ lines) h =
    elim (one_of (is_labelled (counted_label line) lines) (has_label_twice lines) h) [
      | inl here ↦
          let f = labelled_found (counted_label line) lines here in
          (zero, suc f.1, line, f.2, f.0, omega arith, refl, f.4, f.3, f.5)
      | inr later ↦
          let f = labels_found lines later in
          (suc f.0, suc f.1, f.2, f.3, f.4, omega (arith, f.5), f.6, f.7, f.8, f.9)
    ]

-- ---- labels of no block

none_there : (o : Option ℕ) → not (is_some o) ≡ true → o ≡ None
none_there None h = refl
none_there (Some n) h = absurd cc

label_missing : (t : Listing) (name : Option (List ℕ)) → is_unknown_label (known t.lines) needed.Block name ≡ true → IsNoLabel t name
unfolding is_unknown_label
label_missing t None h = tt
label_missing t (Some name) h = none_there (labelled_in name t.lines) h

label_fails : (t : Listing) (name : Option (List ℕ)) → IsNoLabel t name → is_unknown_label (known t.lines) needed.Block name ≡ true
unfolding is_unknown_label
label_fails t None none = refl
label_fails t (Some name) none = rw none refl

-- what is named is the name of an operand
operand : (t : Listing) {what : Needed} {name : Option (List ℕ)} → (n : AreNaming t.lines what name) → HasOperand t n.term
operand t n = record { index = n.index; place = n.place; line = n.line; is_line = n.is_line; is_operand = n.is_operand }

unknown_found : (t : Listing) (what : Needed) (name : Option (List ℕ)) → AreNaming t.lines what name
    → is_unknown_label (known t.lines) what name ≡ true → HasFault t NoSuchLabel
unfolding is_unknown_label
unknown_found t needed.Block name n h = no_label t n.term name (operand t n) n.names (label_missing t name h)
unknown_found t (needed.Definition verb) name n h = absurd cc

-- ---- names without the definition that they need

neither : (a b : Bool) → not (a || b) ≡ true → (a ≡ false) × (b ≡ false)
neither true b h = absurd cc
neither false true h = absurd cc
neither false false h = (refl, refl)

no_verb : (verb : DefinitionVerb) (o : Option Definition) → not (has_verb verb o || has_verb definition_verbs.Equ o) ≡ true
    → IsNeither (verbs.Definition verb) o
no_verb verb None h = tt
no_verb verb (Some d) h =
    let n = neither (has_verb verb (Some d)) (has_verb definition_verbs.Equ (Some d)) h in (
      λ e. both_ways (has_verb verb (Some d)) n.0 (verb_holds verb d e),
      λ e. both_ways (has_verb definition_verbs.Equ (Some d)) n.1 (verb_holds definition_verbs.Equ d e),
    )

lacks_verb : (verb : DefinitionVerb) (d : Definition) → (verb_of_definition d ≢ verbs.Definition verb) → has_verb verb (Some d) ≡ false
lacks_verb verb d other =
    elim (cases_Bool (has_verb verb (Some d))) [
      | inl is ↦ absurd (other (is_verb verb d is))
      | inr fails ↦ fails
    ]

verb_fails : (verb : DefinitionVerb) (o : Option Definition) → IsNeither (verbs.Definition verb) o
    → not (has_verb verb o || has_verb definition_verbs.Equ o) ≡ true
verb_fails verb None h = refl
verb_fails verb (Some d) h = rw (lacks_verb verb d h.0, lacks_verb definition_verbs.Equ d h.1) refl

definition_missing : (t : Listing) (verb : DefinitionVerb) (name : Option (List ℕ))
    → is_undefined (definition t.lines) (needed.Definition verb) name ≡ true → IsNoDefinition t (verbs.Definition verb) name
unfolding is_undefined
definition_missing t verb None h = tt
definition_missing t verb (Some name) h = no_verb verb (definition t.lines name) h

definition_fails : (t : Listing) (verb : DefinitionVerb) (name : Option (List ℕ)) → IsNoDefinition t (verbs.Definition verb) name
    → is_undefined (definition t.lines) (needed.Definition verb) name ≡ true
unfolding is_undefined
definition_fails t verb None none = refl
definition_fails t verb (Some name) none = verb_fails verb (definition t.lines name) none

undefined_found : (t : Listing) (what : Needed) (name : Option (List ℕ)) → AreNaming t.lines what name
    → is_undefined (definition t.lines) what name ≡ true → HasFault t NoSuchDefinition
unfolding is_undefined
undefined_found t needed.Block name n h = absurd cc
undefined_found t (needed.Definition verb) name n h =
    no_definition t n.term (verbs.Definition verb) name (operand t n) n.names (definition_missing t verb name h)

-- ---- names of EQUs in the place of another definition

not_so : (a : Bool) → not a ≡ true → a ≡ false
not_so true h = absurd cc
not_so false h = refl

-- an EQU has no other verb
equ_alone : (verb : DefinitionVerb) (value : ℤ) → (verb ≡ definition_verbs.Equ → ⊥)
    → (has_verb definition_verbs.Equ (Some (definitions.Equ value)) && not (has_verb verb (Some (definitions.Equ value)))) ≡ true
equ_alone definition_verbs.Equ value other = absurd (other refl)
equ_alone verb value other = refl

equ_holds : (t : Listing) (verb : DefinitionVerb) (name : List ℕ) (value : ℤ) → definition t.lines name ≡ Some (definitions.Equ value)
    → (verb ≡ definition_verbs.Equ → ⊥) → is_equ_named (definition t.lines) (needed.Definition verb) (Some name) ≡ true
unfolding is_equ_named
equ_holds t verb name value e other =
    ap (λ (o : Option Definition). has_verb definition_verbs.Equ o && not (has_verb verb o)) e ∙ equ_alone verb value other

equ_found : (t : Listing) (what : Needed) (name : Option (List ℕ)) → AreNaming t.lines what name
    → is_equ_named (definition t.lines) what name ≡ true → HasFault t EquNamedDefinition
unfolding is_equ_named
equ_found t needed.Block name n h = absurd cc
equ_found t (needed.Definition verb) None n h = absurd cc
equ_found t (needed.Definition verb) (Some name) n h =
    let o = definition t.lines name in
    let parts = and_parts (has_verb definition_verbs.Equ o) (not (has_verb verb o)) h in
    let there = equ_is o parts.0 in
    equ_named t n.term (verbs.Definition verb) name there.0 (operand t n) n.names
    (λ e. (let same : verb ≡ definition_verbs.Equ = cc in
    both_ways (has_verb verb o) (not_so (has_verb verb o) parts.1) (ap (λ (v : DefinitionVerb). has_verb v o) same ∙ parts.0)))
    there.1

-- ---- each fault, and the first one

abbrev test : Listing → ModelFault → Bool
test t TooMany = is_too_long t.lines t.replications
test t BadSeed = has_bad_replication t.replications
test t BadHorizon = is_bad_horizon t.horizon t.limit
test t LabelTwice = has_label_twice t.lines
test t NoSuchLabel = has_unknown_label t.lines
test t NoSuchDefinition = has_unknown_definition t.lines
test t EquNamedDefinition = has_equ_named t.lines
test t Memory = false

test_found : (t : Listing) (f : ModelFault) → test t f ≡ true → HasFault t f
unfolding has_unknown_label has_unknown_definition has_equ_named
test_found t TooMany h = too_many_found t h
test_found t BadSeed h = replication_found t h
test_found t BadHorizon h = bounds_found t h
test_found t LabelTwice h =
    let f = labels_found t.lines h in label_twice t f.0 f.1 f.2 f.3 f.4 f.5 f.6 f.7 f.8 f.9
test_found t NoSuchLabel h =
    let f = named_found (is_unknown_label (known t.lines)) t.lines h in unknown_found t f.0 f.1 f.2 f.3
test_found t NoSuchDefinition h =
    let f = named_found (is_undefined (definition t.lines)) t.lines h in undefined_found t f.0 f.1 f.2 f.3
test_found t EquNamedDefinition h =
    let f = named_found (is_equ_named (definition t.lines)) t.lines h in equ_found t f.0 f.1 f.2 f.3
test_found t Memory h = absurd cc

-- a scan that finds nothing leaves nothing
unless : (b : Bool) → (b ≡ false → ⊥) → b ≡ true
unless true never = refl
unless false never = absurd (never refl)

test_holds : {t : Listing} {f : ModelFault} → HasFault t f → test t f ≡ true
unfolding has_unknown_label has_unknown_definition has_equ_named
test_holds (many_statements t h) = rw (lt-ltb 2000 (length t.lines) h) refl
test_holds (many_replications t h) =
    rw (lt-ltb 32 (length t.replications) h) (or_right (nat_lt 2000 (length t.lines)) true refl)
test_holds (bad_seed t i r e out) =
    rw (holds_at is_bad_replication t.replications i r e (rw (outside_holds 1 2147483646 r.seed out) refl)) refl
test_holds (bad_number t i r e out) =
    rw (holds_at is_bad_replication t.replications i r e
    (rw (outside_holds 1 1000000000 r.number out) (or_right (is_outside 1 2147483646 r.seed) true refl))) refl
test_holds (number_twice t i j r s less e k same) =
    unless (has_bad_replication t.replications)
    (λ fails. numbers_apart t.replications (or_parts (list_any is_bad_replication t.replications) (has_number_twice t.replications) fails).1
    i j r s less e k same)
test_holds (bad_horizon t out) = rw (outside_holds 1 1000000000000 t.horizon out) refl
test_holds (bad_limit t out) =
    rw (outside_holds 1 1000000 t.limit out) (or_right (is_outside 1 1000000000000 t.horizon) true refl)
test_holds (label_twice t i j k l name less e g p q) =
    unless (has_label_twice t.lines) (λ fails. labels_apart t.lines fails i j k l name name less e g p q refl)
test_holds (no_label t term name there names none) =
    named_holds (is_unknown_label (known t.lines)) t.lines needed.Block name
    (record {
      index = there.index;
      place = there.place;
      line = there.line;
      term = term;
      is_line = there.is_line;
      is_operand = there.is_operand;
      names = names;
    })
    (label_fails t name none)
test_holds (no_definition t term verb name there names none) =
    let test = is_undefined (definition t.lines) in
    operand_holds test t.lines there.index there.place there.line term there.is_line there.is_operand
    (definition_holds test names (λ v e. definition_fails t v name (subst (λ (u : Verb). IsNoDefinition t u name) e none)))
test_holds (equ_named t term verb name value there names other e) =
    let test = is_equ_named (definition t.lines) in
    operand_holds test t.lines there.index there.place there.line term there.is_line there.is_operand
    (definition_holds test names
    (λ v is. equ_holds t v name value e (λ same. other (is ∙ ap (λ (u : DefinitionVerb). verbs.Definition u) same))))

-- the first of these faults whose scan finds something
abbrev first_in : Listing → List ModelFault → Option ModelFault
first_in t [] = None
first_in t (f ∷ fs) = if test t f then Some f else first_in t fs

first_found : (t : Listing) (fs : List ModelFault) (f : ModelFault) → first_in t fs ≡ Some f → FirstOf t fs f
first_found t [] f h = absurd cc
first_found t (e ∷ fs) f h =
    elim (cases_Bool (test t e)) [
      | inl holds ↦
          subst (λ (x : ModelFault). FirstOf t (e ∷ fs) x) (some_same e f (rw holds at h)) (is_there t e fs (test_found t e holds))
      | inr fails ↦
          is_later t e fs f (λ there. both_ways (test t e) fails (test_holds there)) (first_found t fs f (rw fails at h))
    ]

first_again : {t : Listing} {fs : List ModelFault} {f : ModelFault} → FirstOf t fs f → first_in t fs ≡ Some f
first_again (is_there t f fs there) = rw (test_holds there) refl
first_again (is_later t e fs f never later) =
    elim (cases_Bool (test t e)) [
      | inl holds ↦ absurd (never (test_found t e holds))
      | inr fails ↦ rw fails (first_again later)
    ]

none_in : (t : Listing) (fs : List ModelFault) → first_in t fs ≡ None → list_any (test t) fs ≡ false
none_in t [] h = refl
none_in t (f ∷ fs) h =
    elim (cases_Bool (test t f)) [
      | inl holds ↦ absurd (let e = rw holds at h in cc)
      | inr fails ↦ rw fails (none_in t fs (rw fails at h))
    ]

pub found_are_first : FoundAreFirst
found_are_first t f h = first_found t in_order f h

pub first_are_found : FirstAreFound
first_are_found t f first = first_again first

pub none_are_left : NoneAreLeft
none_are_left t f h there = go f (test_holds there) where
  none : list_any (test t) in_order ≡ false
  none = none_in t in_order h

  fails : (i : ℕ) (e : ModelFault) → slice_get in_order i ≡ Some e → test t e ≡ true → ⊥
  fails i e is holds = both_ways (test t e) (none_of (test t) in_order none i e is) holds

  go : (e : ModelFault) → test t e ≡ true → ⊥
  go TooMany holds = fails 0 TooMany refl holds
  go BadSeed holds = fails 1 BadSeed refl holds
  go BadHorizon holds = fails 2 BadHorizon refl holds
  go LabelTwice holds = fails 3 LabelTwice refl holds
  go NoSuchLabel holds = fails 4 NoSuchLabel refl holds
  go NoSuchDefinition holds = fails 5 NoSuchDefinition refl holds
  go EquNamedDefinition holds = fails 6 EquNamedDefinition refl holds
  go Memory holds = cc
