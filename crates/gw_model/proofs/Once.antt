-- Where no label stands twice, the definition of a name says all that is said of the name.
use Rattle.std.proofs.Common.{◌≡◌, ℕ, Bool, true, false, List, [], ◌∷◌, Option, Some, None, is_some, unwrap_or, refl, ap, sym, ◌∙◌}
use Rattle.std.specs.Str.{bytes_eq}
use Rattle.std.specs.List.{list_any}
use Rattle.std.proofs.lemmas.Bool.{or_parts}
use Rattle.std.proofs.lemmas.Slice.Eq.{bytes_eq-Decides}
use Rattle.gw_meaning.specs.declared.statement.Body.{Body}
use Rattle.gw_meaning.specs.declared.statement.Body.TheVariants as bodies
use Rattle.gw_meaning.specs.declared.statement.Definition.{Definition}
use Rattle.gw_meaning.specs.declared.statement.Numbered.{Numbered}
use Rattle.gw_meaning.specs.Listing.{Listing, has_label, definition_of, definition_of_body, definition_if, defines, or_next, defined_in, first_said, units_of, number_of, number_in, expression_of, function_of, argument_of, definition_at, capacity_at, number_at, variable_at, function_at, argument_at}
use Rattle.gw_model.specs.Faults.{is_labelled, has_label_twice}
use Rattle.gw_model.specs.Listed.{counted_label}
use Rattle.gw_model.specs.Tables.{is_equ}
use Rattle.gw_model.specs.Well.{Well}
use Rattle.gw_model.proofs.Apart.{labels_once}

nothing_in : (b : Bool) → definition_if b None ≡ None
nothing_in true = refl
nothing_in false = refl

-- the label of a statement, told by its body
abbrev label_of : Option (List ℕ) → Body → Option (List ℕ)
label_of label (bodies.Block block) = label
label_of label (bodies.Definition definition) = label
label_of label (bodies.Command command) = None

label_is : (line : Numbered) (body : Body) → line.statement.body ≡ body → counted_label line ≡ label_of line.statement.label body
label_is line (bodies.Block block) is = rw is refl
label_is line (bodies.Definition definition) is = rw is refl
label_is line (bodies.Command command) is = rw is refl

or_none : {X : Type 0} (o : Option X) → or_next o None ≡ o
or_none None = refl
or_none (Some x) = refl

module _ (name : List ℕ) where
  -- a statement with another label defines nothing of the name
  silent : (label : Option (List ℕ)) (body : Body) → has_label name (label_of label body) ≡ false →
      definition_if (has_label name label) (definition_of_body body) ≡ None
  silent label (bodies.Block block) h = nothing_in (has_label name label)
  silent label (bodies.Definition definition) h = ap (λ b. definition_if b (Some definition)) h
  silent label (bodies.Command command) h = nothing_in (has_label name label)

  -- one that defines it has the label
  labelled : (label : Option (List ℕ)) (body : Body) (d : Definition) → definition_if (has_label name label) (definition_of_body body) ≡ Some d →
      label_of label body ≡ Some name
  labelled label (bodies.Block block) d h = absurd (let none : None ≡ Some d = sym (nothing_in (has_label name label)) ∙ h in cc)
  labelled None (bodies.Definition definition) d h = absurd cc
  labelled (Some other) (bodies.Definition definition) d h = go (bytes_eq other name) refl h where
    go : (b : Bool) → bytes_eq other name ≡ b → definition_if b (Some definition) ≡ Some d → Some other ≡ Some name
    go true is k = ap (λ l. Some l) ((bytes_eq-Decides other name).0 is)
    go false is k = absurd cc
  labelled label (bodies.Command command) d h = absurd (let none : None ≡ Some d = sym (nothing_in (has_label name label)) ∙ h in cc)

  module _ {X : Type 0} (f : Option Definition → Option X) (none : f None ≡ None) where
    unsaid : (lines : List Numbered) → is_labelled (Some name) lines ≡ false → first_said (λ line. f (defines name line)) lines ≡ None
    unsaid [] h = refl
    unsaid (line ∷ lines) h =
        let parts = or_parts (has_label name (counted_label line)) (is_labelled (Some name) lines) h in
        let here : has_label name (label_of line.statement.label line.statement.body) ≡ false =
        ap (has_label name) (sym (label_is line line.statement.body refl)) ∙ parts.0 in
        ap (λ d. or_next (f d) (first_said (λ l. f (defines name l)) lines)) (silent line.statement.label line.statement.body here) ∙
        (ap (λ o. or_next o (first_said (λ l. f (defines name l)) lines)) none ∙ unsaid lines parts.1)

    said_once : (lines : List Numbered) → has_label_twice lines ≡ false → first_said (λ line. f (defines name line)) lines ≡ f (defined_in name lines)
    said_once [] h = sym none
    said_once (line ∷ lines) h =
        go (defines name line) refl (said_once lines ((or_parts (is_labelled (counted_label line) lines) (has_label_twice lines) h).1)) where
          rest : Option X
          rest = first_said (λ l. f (defines name l)) lines

          parts : (is_labelled (counted_label line) lines ≡ false) × (has_label_twice lines ≡ false)
          parts = or_parts (is_labelled (counted_label line) lines) (has_label_twice lines) h

          go : (o : Option Definition) → defines name line ≡ o → rest ≡ f (defined_in name lines) → or_next (f o) rest ≡ f (or_next o (defined_in name lines))
          go None is behind = ap (λ o. or_next o rest) none ∙ behind
          go (Some d) is behind =
              let label = label_is line line.statement.body refl ∙ labelled line.statement.label line.statement.body d is in
              ap (or_next (f (Some d))) (unsaid lines (ap (λ l. is_labelled l lines) (sym label) ∙ parts.0)) ∙ or_none (f (Some d))

pub number_once : (t : Listing) (name : List ℕ) → Well t → number_at t name ≡ number_of (definition_at t name)
number_once t name well = said_once name number_of refl t.lines (labels_once t.lines well.labels_apart)

pub capacity_once : (t : Listing) (name : List ℕ) → Well t → capacity_at t name ≡ unwrap_or (units_of (definition_at t name)) 0
capacity_once t name well = ap (λ o. unwrap_or o 0) (said_once name units_of refl t.lines (labels_once t.lines well.labels_apart))

pub variable_once : (t : Listing) (name : List ℕ) → Well t → variable_at t name ≡ expression_of (definition_at t name)
variable_once t name well = said_once name expression_of refl t.lines (labels_once t.lines well.labels_apart)

pub function_once : (t : Listing) (name : List ℕ) → Well t → function_at t name ≡ function_of (definition_at t name)
function_once t name well = said_once name function_of refl t.lines (labels_once t.lines well.labels_apart)

pub argument_once : (t : Listing) (name : List ℕ) → Well t → argument_at t name ≡ argument_of (definition_at t name)
argument_once t name well = said_once name argument_of refl t.lines (labels_once t.lines well.labels_apart)

-- where no statement is an EQU, no name stands for a number
pub is_none : {X : Type 0} (o : Option X) → is_some o ≡ false → o ≡ None
is_none None h = refl
is_none (Some x) h = absurd cc

no_number_if : (b : Bool) (d : Option Definition) → is_some (number_of d) ≡ false → number_of (definition_if b d) ≡ None
no_number_if true d h = is_none (number_of d) h
no_number_if false d h = refl

no_number_in : (name : List ℕ) (lines : List Numbered) → list_any is_equ lines ≡ false → number_in name lines ≡ None
no_number_in name [] h = refl
no_number_in name (line ∷ lines) h =
    let parts = or_parts (is_equ line) (list_any is_equ lines) h in
    ap (λ o. or_next o (number_in name lines)) (no_number_if (has_label name line.statement.label) (definition_of line) parts.0) ∙
    no_number_in name lines parts.1

pub no_number : (t : Listing) (name : List ℕ) → list_any is_equ t.lines ≡ false → number_at t name ≡ None
no_number t name h = no_number_in name t.lines h
