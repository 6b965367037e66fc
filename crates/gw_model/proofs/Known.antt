-- what the scans for a label that no block has, for a definition that is not there, and for an EQU's that is named as a
-- storage find
use Rattle.std.proofs.Common.{◌≡◌, ◌≢◌, ℕ, List, refl, Bool, true, false, not, Option, Some, None, is_some, ap, ◌∙◌, ◌&&◌, ◌||◌, sym}
use Rattle.std.specs.Prelude.{ℤ}
use Rattle.std.specs.List.{slice_get}
use Rattle.gw_expr.specs.Term.{Term, HasAtom}
use Rattle.gw_expr.specs.declared.expr.Expr.TheVariants.{Defined, Table, Label}
use Rattle.gw_expr.specs.declared.atom.Atom.TheVariants as atoms
use Rattle.gw_expr.specs.declared.attribute.Subject.{Subject}
use Rattle.gw_expr.specs.declared.attribute.Subject.TheVariants as subjects
use Rattle.gw_meaning.specs.Listing.{operand_of, defined_in, labelled_in}
use Rattle.gw_meaning.specs.Statements.{verb_of_definition}
use Rattle.gw_meaning.specs.declared.statement.Definition.{Definition}
use Rattle.gw_meaning.specs.declared.statement.Definition.TheVariants as definitions
use Rattle.gw_meaning.specs.declared.statement.Numbered.{Numbered}
use Rattle.gw_names.specs.declared.class.Class.{Class}
use Rattle.gw_names.specs.declared.class.Class.TheVariants as class
use Rattle.gw_names.specs.declared.verb.DefinitionVerb.{DefinitionVerb}
use Rattle.gw_names.specs.declared.verb.DefinitionVerb.TheVariants as definition_verbs
use Rattle.gw_names.specs.declared.verb.Verb.{Verb}
use Rattle.gw_names.specs.declared.verb.Verb.TheVariants as verbs
use Rattle.gw_model.specs.declared.named.Needed.{Needed}
use Rattle.gw_model.specs.declared.named.Needed.TheVariants as needed
use Rattle.gw_model.specs.Named.{is_of_block, wanted_verb, name_in}
use Rattle.gw_model.specs.Faults.{has_verb, is_unknown_label, has_unknown_label, is_undefined, has_unknown_definition, is_equ_named, has_equ_named}
use Rattle.gw_model.specs.FirstFaults.{NamesLabel, goes_to, counts, NamesDefinition, uses, tabulates, stands_for, asks_of}
use Rattle.gw_model.specs.Well.{IsDefined}
use Rattle.gw_model.proofs.Naming.{Names, AreNaming, none_named, all_named}

-- the labels and the definitions of these lines
abbrev pub known : List Numbered → List ℕ → Bool
known lines name = is_some (labelled_in name lines)

abbrev pub definition : List Numbered → List ℕ → Option Definition
definition lines name = defined_in name lines

-- an operand of these lines names something
naming : {lines : List Numbered} (i place : ℕ) {line : Numbered} {term : Term} (what : Needed) (name : Option (List ℕ))
    → slice_get lines i ≡ Some line → operand_of line place ≡ Some term → Names term what name → AreNaming lines what name
naming {lines} i place {line} {term} what name e o names =
    record { index = i; place = place; line = line; term = term; is_line = e; is_operand = o; names = names }

-- ---- labels

-- each label that an operand names is that of a block
abbrev pub LabelsThere : List Numbered → Type 0
LabelsThere lines = (i place : ℕ) (line : Numbered) (name : List ℕ) → slice_get lines i ≡ Some line →
    operand_of line place ≡ Some (Label name) → (id : ℕ) × (labelled_in name lines ≡ Some id)

-- so is each label whose block an attribute counts
abbrev pub CountsThere : List Numbered → Type 0
CountsThere lines = (i place : ℕ) (line : Numbered) (term : Term) (class : Class) (of : Subject) → slice_get lines i ≡ Some line →
    operand_of line place ≡ Some term → HasAtom term (atoms.Attribute class of) → is_of_block class ≡ true →
    (name : List ℕ) × (of ≡ subjects.Name name) × (id : ℕ) × (labelled_in name lines ≡ Some id)

there_is : (o : Option ℕ) → not (is_some o) ≡ false → (n : ℕ) × (o ≡ Some n)
there_is None h = absurd cc
there_is (Some n) h = (n, refl)

pub labels_there : (lines : List Numbered) → has_unknown_label lines ≡ false → LabelsThere lines
unfolding has_unknown_label is_unknown_label
labels_there lines h i place line name e o =
    there_is (labelled_in name lines)
    (none_named (is_unknown_label (known lines)) lines needed.Block (Some name) h (naming i place needed.Block (Some name) e o (goes_to name)))

pub counts_there : (lines : List Numbered) → has_unknown_label lines ≡ false → CountsThere lines
unfolding has_unknown_label is_unknown_label
counts_there lines h i place line term class of e o has is =
    go of
    (none_named (is_unknown_label (known lines)) lines needed.Block (name_in of) h
    (naming i place needed.Block (name_in of) e o (counts term class of has is)))
  where
    go : (s : Subject) → is_unknown_label (known lines) needed.Block (name_in s) ≡ false
        → (name : List ℕ) × (s ≡ subjects.Name name) × (id : ℕ) × (labelled_in name lines ≡ Some id)
    go subjects.Own k = absurd cc
    go (subjects.Number n) k = absurd cc
    go (subjects.Name name) k = let there = there_is (labelled_in name lines) k in (name, refl, there.0, there.1)

pub labels_known : (lines : List Numbered) → LabelsThere lines → CountsThere lines → has_unknown_label lines ≡ false
unfolding has_unknown_label is_unknown_label
labels_known lines f g = all_named (is_unknown_label (known lines)) lines go where
  told : (name : List ℕ) → (id : ℕ) × (labelled_in name lines ≡ Some id) → not (known lines name) ≡ false
  told name there = ap (λ (x : Option ℕ). not (is_some x)) there.1

  by : (i place : ℕ) (line : Numbered) {term : Term} {name : Option (List ℕ)} → slice_get lines i ≡ Some line
      → operand_of line place ≡ Some term → NamesLabel term name → is_unknown_label (known lines) needed.Block name ≡ false
  by i place line e o (goes_to name) = told name (f i place line name e o)
  by i place line e o (counts term class of has is) =
      let h = g i place line term class of e o has is in
      ap (λ (s : Subject). is_unknown_label (known lines) needed.Block (name_in s)) h.1 ∙ told h.0 (h.2, h.3)

  go : (what : Needed) (name : Option (List ℕ)) → AreNaming lines what name → is_unknown_label (known lines) what name ≡ false
  go needed.Block name n = by n.index n.place n.line n.is_line n.is_operand n.names
  go (needed.Definition verb) name n = refl

-- ---- definitions

-- each definition that an operand names has the verb that is needed there, and each name that stands for a number has
-- an EQU
abbrev pub StoragesThere : List Numbered → Type 0
StoragesThere lines = (i place : ℕ) (line : Numbered) (name : List ℕ) → slice_get lines i ≡ Some line →
    operand_of line place ≡ Some (Defined name) → IsDefined lines name definition_verbs.Storage

abbrev pub TablesThere : List Numbered → Type 0
TablesThere lines = (i place : ℕ) (line : Numbered) (name : List ℕ) → slice_get lines i ≡ Some line →
    operand_of line place ≡ Some (Table name) → IsDefined lines name definition_verbs.Table

abbrev pub NumbersThere : List Numbered → Type 0
NumbersThere lines = (i place : ℕ) (line : Numbered) (term : Term) (name : List ℕ) → slice_get lines i ≡ Some line →
    operand_of line place ≡ Some term → HasAtom term (atoms.Number name) → (value : ℤ) × (defined_in name lines ≡ Some (definitions.Equ value))

-- so has each definition that an attribute is of
abbrev pub DefinitionsThere : List Numbered → Type 0
DefinitionsThere lines = (i place : ℕ) (line : Numbered) (term : Term) (class : Class) (of : Subject) (verb : DefinitionVerb) →
    slice_get lines i ≡ Some line → operand_of line place ≡ Some term → HasAtom term (atoms.Attribute class of) →
    wanted_verb class ≡ Some verb → (name : List ℕ) × (of ≡ subjects.Name name) × IsDefined lines name verb

-- a definition that is there, with this verb
abbrev IsOf : DefinitionVerb → Option Definition → Type 0
IsOf verb o = (d : Definition) × (o ≡ Some d) × (verb_of_definition d ≡ verbs.Definition verb)

-- the test of a verb finds what it is to find
pub is_verb : (verb : DefinitionVerb) (d : Definition) → has_verb verb (Some d) ≡ true → verb_of_definition d ≡ verbs.Definition verb
is_verb definition_verbs.Storage (definitions.Storage capacity) h = refl
is_verb definition_verbs.Equ (definitions.Equ value) h = refl
is_verb definition_verbs.Variable (definitions.Variable expression) h = refl
is_verb definition_verbs.Function (definitions.Function function) h = refl
is_verb definition_verbs.Table (definitions.Table table) h = refl
is_verb verb d h = absurd cc

pub verb_holds : (verb : DefinitionVerb) (d : Definition) → verb_of_definition d ≡ verbs.Definition verb → has_verb verb (Some d) ≡ true
verb_holds definition_verbs.Storage (definitions.Storage capacity) e = refl
verb_holds definition_verbs.Equ (definitions.Equ value) e = refl
verb_holds definition_verbs.Variable (definitions.Variable expression) e = refl
verb_holds definition_verbs.Function (definitions.Function function) e = refl
verb_holds definition_verbs.Table (definitions.Table table) e = refl
verb_holds verb d e = absurd cc

pub equ_is : (o : Option Definition) → has_verb definition_verbs.Equ o ≡ true → (value : ℤ) × (o ≡ Some (definitions.Equ value))
equ_is None h = absurd cc
equ_is (Some (definitions.Equ value)) h = (value, refl)
equ_is (Some d) h = absurd cc

-- a definition with the verb, where there is one or an EQU in its place, and there is none in its place
left_one : (a b : Bool) → not (a || b) ≡ false → (b && not a) ≡ false → a ≡ true
left_one true b h k = refl
left_one false true h k = absurd cc
left_one false false h k = absurd cc

verb_there : (verb : DefinitionVerb) (o : Option Definition) → not (has_verb verb o || has_verb definition_verbs.Equ o) ≡ false
    → (has_verb definition_verbs.Equ o && not (has_verb verb o)) ≡ false → IsOf verb o
verb_there verb None h k = absurd cc
verb_there verb (Some d) h k =
    (d, refl, is_verb verb d (left_one (has_verb verb (Some d)) (has_verb definition_verbs.Equ (Some d)) h k))

-- no attribute is of an EQU
pub other_than_equ : (c : Class) (verb : DefinitionVerb) → wanted_verb c ≡ Some verb → verb ≢ definition_verbs.Equ
other_than_equ c verb is equ = go c (is ∙ ap (λ (v : DefinitionVerb). Some v) equ) where
  go : (c : Class) → wanted_verb c ≡ Some definition_verbs.Equ → ⊥
  go class.S e = cc
  go c e = cc

module _ (lines : List Numbered) (h : has_unknown_definition lines ≡ false) where
  -- what is needed is there, where it is no EQU in its place
  there : (verb : DefinitionVerb) (name : Option (List ℕ)) → AreNaming lines (needed.Definition verb) name
      → is_undefined (definition lines) (needed.Definition verb) name ≡ false
  unfolding has_unknown_definition
  there verb name n = none_named (is_undefined (definition lines)) lines (needed.Definition verb) name h n

  pub numbers_there : NumbersThere lines
  unfolding is_undefined
  numbers_there i place line term name e o has =
      given (definition lines name)
      (there definition_verbs.Equ (Some name) (naming i place (needed.Definition definition_verbs.Equ) (Some name) e o (stands_for term name has)))
    where
      one : (b : Bool) → not (b || b) ≡ false → b ≡ true
      one true k = refl
      one false k = absurd cc

      given : (d : Option Definition) → not (has_verb definition_verbs.Equ d || has_verb definition_verbs.Equ d) ≡ false
          → (value : ℤ) × (d ≡ Some (definitions.Equ value))
      given d k = equ_is d (one (has_verb definition_verbs.Equ d) k)

  module _ (k : has_equ_named lines ≡ false) where
    apart : (verb : DefinitionVerb) (name : Option (List ℕ)) → AreNaming lines (needed.Definition verb) name
        → is_equ_named (definition lines) (needed.Definition verb) name ≡ false
    unfolding has_equ_named
    apart verb name n = none_named (is_equ_named (definition lines)) lines (needed.Definition verb) name k n

    defined : (verb : DefinitionVerb) (name : List ℕ) → AreNaming lines (needed.Definition verb) (Some name) → IsDefined lines name verb
    unfolding is_undefined is_equ_named
    defined verb name n = verb_there verb (definition lines name) (there verb (Some name) n) (apart verb (Some name) n)

    pub storages_there : StoragesThere lines
    storages_there i place line name e o =
        defined definition_verbs.Storage name (naming i place (needed.Definition definition_verbs.Storage) (Some name) e o (uses name))

    pub tables_there : TablesThere lines
    tables_there i place line name e o =
        defined definition_verbs.Table name (naming i place (needed.Definition definition_verbs.Table) (Some name) e o (tabulates name))

    pub definitions_there : DefinitionsThere lines
    unfolding is_undefined
    definitions_there i place line term class of verb e o has is =
        go of (naming i place (needed.Definition verb) (name_in of) e o (asks_of term class of verb has is))
      where
        go : (s : Subject) → AreNaming lines (needed.Definition verb) (name_in s) → (name : List ℕ) × (s ≡ subjects.Name name) × IsDefined lines name verb
        go subjects.Own n = absurd (let f = there verb None n in cc)
        go (subjects.Number m) n = absurd (let f = there verb None n in cc)
        go (subjects.Name name) n = (name, refl, defined verb name n)

-- a definition with the verb is one, and no EQU in its place
module _ (lines : List Numbered) (f : StoragesThere lines) (t : TablesThere lines) (d : DefinitionsThere lines) where
  -- where each name of another definition than an EQU has that definition, a test that fails of these fails of all
  all_defined : (test : Needed → Option (List ℕ) → Bool)
      → ((name : Option (List ℕ)) → test needed.Block name ≡ false)
      → ((verb : DefinitionVerb) (name : List ℕ) → IsDefined lines name verb → test (needed.Definition verb) (Some name) ≡ false)
      → ((i place : ℕ) (line : Numbered) (term : Term) (name : List ℕ) → slice_get lines i ≡ Some line → operand_of line place ≡ Some term
      → HasAtom term (atoms.Number name) → test (needed.Definition definition_verbs.Equ) (Some name) ≡ false)
      → (what : Needed) (name : Option (List ℕ)) → AreNaming lines what name → test what name ≡ false
  all_defined test never each number needed.Block name n = never name
  all_defined test never each number (needed.Definition verb) name n = by n.index n.place n.line n.is_line n.is_operand n.names verb refl
    where
      by : (i place : ℕ) (line : Numbered) {term : Term} {u : Verb} {name : Option (List ℕ)} → slice_get lines i ≡ Some line
          → operand_of line place ≡ Some term → NamesDefinition term u name → (verb : DefinitionVerb) → u ≡ verbs.Definition verb
          → test (needed.Definition verb) name ≡ false
      by i place line e o (uses name) verb is =
          let same : definition_verbs.Storage ≡ verb = cc in
          ap (λ (v : DefinitionVerb). test (needed.Definition v) (Some name)) (sym same) ∙ each definition_verbs.Storage name (f i place line name e o)
      by i place line e o (tabulates name) verb is =
          let same : definition_verbs.Table ≡ verb = cc in
          ap (λ (v : DefinitionVerb). test (needed.Definition v) (Some name)) (sym same) ∙ each definition_verbs.Table name (t i place line name e o)
      by i place line e o (stands_for term name has) verb is =
          let same : definition_verbs.Equ ≡ verb = cc in
          ap (λ (v : DefinitionVerb). test (needed.Definition v) (Some name)) (sym same) ∙ number i place line term name e o has
      by i place line e o (asks_of term class of u has wants) verb is =
          let same : u ≡ verb = cc in
          let h = d i place line term class of u e o has wants in
          ap (λ (v : DefinitionVerb). test (needed.Definition v) (name_in of)) (sym same)
          ∙ ap (λ (s : Subject). test (needed.Definition u) (name_in s)) h.1 ∙ each u h.0 h.2

  verb_known : (verb : DefinitionVerb) (o : Option Definition) → IsOf verb o → has_verb verb o ≡ true
  verb_known verb o there = ap (λ (x : Option Definition). has_verb verb x) there.1 ∙ verb_holds verb there.0 there.2

  first_holds : (a b : Bool) → a ≡ true → not (a || b) ≡ false
  first_holds true b e = refl
  first_holds false b e = absurd cc

  second_fails : (a b : Bool) → a ≡ true → (b && not a) ≡ false
  second_fails true true e = refl
  second_fails true false e = refl
  second_fails false b e = absurd cc

  pub definitions_known : NumbersThere lines → has_unknown_definition lines ≡ false
  unfolding has_unknown_definition is_undefined
  definitions_known g =
      all_named (is_undefined (definition lines)) lines
      (all_defined (is_undefined (definition lines)) (λ name. refl)
      (λ verb name there. first_holds _ _ (verb_known verb (definition lines name) there))
      (λ i place line term name e o has. first_holds _ _
      (ap (λ (x : Option Definition). has_verb definition_verbs.Equ x) (g i place line term name e o has).1)))

  pub none_equ_named : has_equ_named lines ≡ false
  unfolding has_equ_named is_equ_named
  none_equ_named =
      all_named (is_equ_named (definition lines)) lines
      (all_defined (is_equ_named (definition lines)) (λ name. refl)
      (λ verb name there. second_fails _ _ (verb_known verb (definition lines name) there))
      (λ i place line term name e o has. never (has_verb definition_verbs.Equ (definition lines name))))
    where
      never : (b : Bool) → (b && not b) ≡ false
      never true = refl
      never false = refl
