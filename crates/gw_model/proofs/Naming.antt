-- A scan finds what the operands of statements name, and nothing else.
use Rattle.std.proofs.Common.{◌≡◌, ℕ, zero, suc, Bool, true, false, List, [], ◌∷◌, Option, Some, None, refl, sym, ap, ◌∙◌, inl, inr}
use Rattle.std.specs.Prelude.{get_or}
use Rattle.std.specs.List.{list_any, slice_get}
use Rattle.std.proofs.lemmas.Bool.{cases_Bool, both_ways}
use Rattle.std.proofs.lemmas.Option.{get_or_from_slice_get}
use Rattle.gw_names.specs.declared.class.Class.{Class}
use Rattle.gw_names.specs.declared.class.Class.TheVariants as class
use Rattle.gw_names.specs.declared.verb.DefinitionVerb.{DefinitionVerb}
use Rattle.gw_names.specs.declared.verb.DefinitionVerb.TheVariants as definition_verbs
use Rattle.gw_names.specs.declared.verb.Verb.{Verb}
use Rattle.gw_names.specs.declared.verb.Verb.TheVariants as verbs
use Rattle.gw_expr.specs.declared.atom.Atom.{Atom}
use Rattle.gw_expr.specs.declared.atom.Atom.TheVariants as atoms
use Rattle.gw_expr.specs.declared.token.Token.{Token}
use Rattle.gw_expr.specs.declared.token.Token.TheVariants as tokens
use Rattle.gw_expr.specs.declared.attribute.Subject.{Subject}
use Rattle.gw_expr.specs.Term.{Term, HasAtom, holds_of_atom, holds_of_token}
use Rattle.gw_expr.specs.declared.expr.Expr.TheVariants.{Value, Computed, Named, Defined, Table, Label, Fraction, Order}
use Rattle.gw_meaning.specs.Listing.{operand_of, operands_of}
use Rattle.gw_meaning.specs.declared.statement.Numbered.{Numbered}
use Rattle.gw_model.specs.declared.named.Needed.{Needed}
use Rattle.gw_model.specs.declared.named.Needed.TheVariants as needed
use Rattle.gw_model.specs.Named.{is_of_block, wanted_verb, needed_with, needed_in, name_in, holds_of_needed, holds_of_value, holds_of_term, holds_of, holds_in}
use Rattle.gw_model.specs.FirstFaults.{NamesLabel, goes_to, counts, NamesDefinition, uses, tabulates, stands_for, asks_of}
use Rattle.gw_model.proofs.Apart.{none_of}

-- an operand names a block, or a definition with a verb, with a name, where it has one
abbrev pub Names : Term → Needed → Option (List ℕ) → Type 0
Names term needed.Block name = NamesLabel term name
Names term (needed.Definition verb) name = NamesDefinition term (verbs.Definition verb) name

-- some operand of these statements names it
pub record AreNaming (lines : List Numbered) (what : Needed) (name : Option (List ℕ)) : Type 0 where
  pub index : ℕ
  pub place : ℕ
  pub line : Numbered
  pub term : Term
  pub is_line : slice_get lines index ≡ Some line
  pub is_operand : operand_of line place ≡ Some term
  pub names : Names term what name

-- ---- lists

-- a test that holds of some element holds of one at an index, and the other way round
pub found_at : {X : Type 0} (p : X → Bool) (xs : List X) → list_any p xs ≡ true
    → (i : ℕ) × (x : X) × (slice_get xs i ≡ Some x) × (p x ≡ true)
found_at p [] h = absurd cc
found_at p (x ∷ xs) h =
    elim (cases_Bool (p x)) [
      | inl holds ↦ (zero, x, refl, holds)
      | inr fails ↦ let rest = found_at p xs (rw fails at h) in (suc rest.0, rest.1, rest.2, rest.3)
    ]

pub holds_at : {X : Type 0} (p : X → Bool) (xs : List X) (i : ℕ) (x : X) → slice_get xs i ≡ Some x → p x ≡ true → list_any p xs ≡ true
holds_at p xs i x e h =
    elim (cases_Bool (list_any p xs)) [
      | inl holds ↦ holds
      | inr fails ↦ absurd (both_ways (p x) (none_of p xs fails i x e) h)
    ]

-- an operand that is there stands in the list
stands : (os : List (Option Term)) (i : ℕ) (t : Term) → get_or os i None ≡ Some t → slice_get os i ≡ Some (Some t)
stands [] i t e = absurd cc
stands (o ∷ os) zero t e = ap (λ (x : Option Term). Some x) e
stands (o ∷ os) (suc i) t e = stands os i t e

-- ---- values

token_found : (p : Atom → Bool) (token : Token) → holds_of_token p token ≡ true
    → (atom : Atom) × (token ≡ tokens.Value atom) × (p atom ≡ true)
token_found p (tokens.Value atom) h = (atom, refl, h)
token_found p tokens.Negated h = absurd cc
token_found p (tokens.Applied operator) h = absurd cc

atom_found : (p : Atom → Bool) (term : Term) → holds_of_atom p term ≡ true → (atom : Atom) × HasAtom term atom × (p atom ≡ true)
atom_found p (Value a) h = (a, refl, h)
atom_found p (Computed ts) h =
    let f = found_at (holds_of_token p) ts h in
    let a = token_found p f.1 f.3 in
    (a.0, (f.0, f.2 ∙ ap (λ (x : Token). Some x) a.1), a.2)
atom_found p (Named name) h = absurd cc
atom_found p (Label name) h = absurd cc
atom_found p (Fraction n) h = absurd cc
atom_found p (Defined name) h = absurd cc
atom_found p (Table name) h = absurd cc
atom_found p (Order discipline) h = absurd cc

-- ---- what attributes are of

block_needed : (b : Bool) (v : Option DefinitionVerb) → needed_with b v ≡ Some needed.Block → b ≡ true
block_needed true v e = refl
block_needed false None e = absurd cc
block_needed false (Some verb) e = absurd cc

verb_of_needed : (b : Bool) (v : Option DefinitionVerb) (verb : DefinitionVerb)
    → needed_with b v ≡ Some (needed.Definition verb) → v ≡ Some verb
verb_of_needed true v verb e = absurd cc
verb_of_needed false None verb e = absurd cc
verb_of_needed false (Some other) verb e = cc

-- no attribute is of a block and of a definition
apart : (c : Class) (verb : DefinitionVerb) → wanted_verb c ≡ Some verb → is_of_block c ≡ false
apart class.N verb e = absurd cc
apart class.W verb e = absurd cc
apart c verb e = refl

attribute_names : (term : Term) (class : Class) (of : Subject) (what : Needed) → HasAtom term (atoms.Attribute class of)
    → needed_in class ≡ Some what → Names term what (name_in of)
attribute_names term class of needed.Block has is =
    counts term class of has (block_needed (is_of_block class) (wanted_verb class) is)
attribute_names term class of (needed.Definition verb) has is =
    asks_of term class of verb has (verb_of_needed (is_of_block class) (wanted_verb class) verb is)

-- ---- operands

module _ (test : Needed → Option (List ℕ) → Bool) where
  abbrev Found : Term → Type 0
  Found term = (what : Needed) × (name : Option (List ℕ)) × Names term what name × (test what name ≡ true)

  value_found : (term : Term) → holds_of_atom (holds_of_value test) term ≡ true → Found term
  value_found term h = let f = atom_found (holds_of_value test) term h in go f.0 f.1 f.2 where
    go : (atom : Atom) → HasAtom term atom → holds_of_value test atom ≡ true → Found term
    go (atoms.Constant value) has e = absurd cc
    go (atoms.Number name) has e = (needed.Definition definition_verbs.Equ, Some name, stands_for term name has, e)
    go (atoms.Attribute class of) has e = by (needed_in class) refl e where
      by : (what : Option Needed) → needed_in class ≡ what → holds_of_needed test what of ≡ true → Found term
      by None is h = absurd cc
      by (Some what) is h = (what, name_in of, attribute_names term class of what has is, h)

  term_found : (term : Term) → holds_of_term test term ≡ true → Found term
  term_found (Label name) h = (needed.Block, Some name, goes_to name, h)
  term_found (Defined name) h = (needed.Definition definition_verbs.Storage, Some name, uses name, h)
  term_found (Table name) h = (needed.Definition definition_verbs.Table, Some name, tabulates name, h)
  term_found (Value a) h = value_found (Value a) h
  term_found (Computed ts) h = value_found (Computed ts) h
  term_found (Named name) h = absurd cc
  term_found (Fraction n) h = absurd cc
  term_found (Order discipline) h = absurd cc

  value_holds : (term : Term) (atom : Atom) → HasAtom term atom → holds_of_value test atom ≡ true → holds_of_term test term ≡ true
  value_holds (Value a) atom has h = ap (holds_of_value test) has ∙ h
  value_holds (Computed ts) atom (i, has) h = holds_at (holds_of_token (holds_of_value test)) ts i (tokens.Value atom) has h
  value_holds (Named name) atom has h = absurd has
  value_holds (Label name) atom has h = absurd has
  value_holds (Fraction n) atom has h = absurd has
  value_holds (Defined name) atom has h = absurd has
  value_holds (Table name) atom has h = absurd has
  value_holds (Order discipline) atom has h = absurd has

  attribute_holds : (term : Term) (class : Class) (of : Subject) (what : Needed) → HasAtom term (atoms.Attribute class of)
      → needed_in class ≡ Some what → test what (name_in of) ≡ true → holds_of_term test term ≡ true
  attribute_holds term class of what has is h =
      value_holds term (atoms.Attribute class of) has
      (ap (λ (w : Option Needed). holds_of_needed test w of) is ∙ h)

  label_holds : {term : Term} {name : Option (List ℕ)} → NamesLabel term name → test needed.Block name ≡ true
      → holds_of_term test term ≡ true
  label_holds (goes_to name) h = h
  label_holds (counts term class of has is) h =
      attribute_holds term class of needed.Block has
      (ap (λ (b : Bool). needed_with b (wanted_verb class)) is) h

  pub definition_holds : {term : Term} {verb : Verb} {name : Option (List ℕ)} → NamesDefinition term verb name
      → ((v : DefinitionVerb) → verb ≡ verbs.Definition v → test (needed.Definition v) name ≡ true)
      → holds_of_term test term ≡ true
  definition_holds (uses name) h = h definition_verbs.Storage refl
  definition_holds (tabulates name) h = h definition_verbs.Table refl
  definition_holds (stands_for term name has) h = value_holds term (atoms.Number name) has (h definition_verbs.Equ refl)
  definition_holds (asks_of term class of verb has is) h =
      attribute_holds term class of (needed.Definition verb) has
      (ap (λ (b : Bool). needed_with b (wanted_verb class)) (apart class verb is)
      ∙ ap (λ (v : Option DefinitionVerb). needed_with false v) is)
      (h verb refl)

  term_holds : (term : Term) (what : Needed) (name : Option (List ℕ)) → Names term what name → test what name ≡ true
      → holds_of_term test term ≡ true
  term_holds term needed.Block name names h = label_holds names h
  term_holds term (needed.Definition verb) name names h =
      definition_holds names (λ v e. let same : verb ≡ v = cc in ap (λ (u : DefinitionVerb). test (needed.Definition u) name) (sym same) ∙ h)

  -- ---- statements

  -- a scan finds something that they name of which the test holds
  pub named_found : (lines : List Numbered) → list_any (holds_in test) lines ≡ true
      → (what : Needed) × (name : Option (List ℕ)) × AreNaming lines what name × (test what name ≡ true)
  named_found lines h =
      let line = found_at (holds_in test) lines h in
      let o = found_at (holds_of test) (operands_of line.1) line.3 in
      go line.0 line.1 line.2 o.0 o.1 o.2 o.3
    where
      go : (i : ℕ) (line : Numbered) → slice_get lines i ≡ Some line → (place : ℕ) (o : Option Term)
          → slice_get (operands_of line) place ≡ Some o → holds_of test o ≡ true
          → (what : Needed) × (name : Option (List ℕ)) × AreNaming lines what name × (test what name ≡ true)
      go i line e place None is holds = absurd cc
      go i line e place (Some term) is holds =
          let f = term_found term holds in (
            f.0,
            f.1,
            record {
              index = i;
              place = place;
              line = line;
              term = term;
              is_line = e;
              is_operand = get_or_from_slice_get (operands_of line) place (Some term) None is;
              names = f.2;
            },
            f.3,
          )

  -- and it finds each operand of which it holds
  pub operand_holds : (lines : List Numbered) (i place : ℕ) (line : Numbered) (term : Term) → slice_get lines i ≡ Some line
      → operand_of line place ≡ Some term → holds_of_term test term ≡ true → list_any (holds_in test) lines ≡ true
  operand_holds lines i place line term e o h =
      holds_at (holds_in test) lines i line e
      (holds_at (holds_of test) (operands_of line) place (Some term) (stands (operands_of line) place term o) h)

  pub named_holds : (lines : List Numbered) (what : Needed) (name : Option (List ℕ)) → AreNaming lines what name
      → test what name ≡ true → list_any (holds_in test) lines ≡ true
  named_holds lines what name n h =
      operand_holds lines n.index n.place n.line n.term n.is_line n.is_operand (term_holds n.term what name n.names h)

  -- so where it finds nothing, it fails of all that they name, and the other way round
  pub none_named : (lines : List Numbered) (what : Needed) (name : Option (List ℕ)) → list_any (holds_in test) lines ≡ false
      → AreNaming lines what name → test what name ≡ false
  none_named lines what name fails n =
      elim (cases_Bool (test what name)) [
        | inl holds ↦ absurd (both_ways (list_any (holds_in test) lines) fails (named_holds lines what name n holds))
        | inr none ↦ none
      ]

  pub all_named : (lines : List Numbered) → ((what : Needed) (name : Option (List ℕ)) → AreNaming lines what name → test what name ≡ false)
      → list_any (holds_in test) lines ≡ false
  all_named lines f =
      elim (cases_Bool (list_any (holds_in test) lines)) [
        | inl holds ↦ (let n = named_found lines holds in absurd (both_ways (test n.0 n.1) (f n.0 n.1 n.2) n.3))
        | inr none ↦ none
      ]
