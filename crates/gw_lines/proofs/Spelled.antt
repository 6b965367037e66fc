-- Operands by their forms: each list of parts spells operands or has a first fault, and what it spells, or its fault, is what
-- reading gives.
use Rattle.std.proofs.Common.{◌≡◌, ◌≢◌, ℕ, ◌+◌, ◌≤◌, ◌<◌, ◌==◌, true, false, List, [], ◌∷◌, length, Option, Some, None, Ok, Err, refl, sym, ap, subst, ◌∙◌, ◌⊎◌, inl, inr, arith}
use Rattle.std.specs.Prelude.{option_map, codes}
use Rattle.std.specs.Str.{bytes_eq}
use Rattle.std.proofs.lemmas.Bool.{cases_Bool, eqb-true}
use Rattle.std.proofs.lemmas.Slice.Eq.{bytes_eq-Decides}
use Rattle.gw_names.specs.declared.verb.Verb.{Verb}
use Rattle.gw_names.specs.Names.{name_of}
use Rattle.gw_expr.specs.declared.atom.Atom.TheVariants as atoms
use Rattle.gw_expr.specs.Term.{Term}
use Rattle.gw_expr.specs.declared.expr.Expr.TheVariants.{Defined, Fraction, Label, Table}
use Rattle.gw_expr.specs.declared.function.FunctionType.{FunctionType}
use Rattle.gw_expr.specs.declared.function.FunctionType.TheVariants as types
use Rattle.gw_lines.specs.declared.fault.LineFault.{LineFault}
use Rattle.gw_lines.specs.declared.fault.LineFault.TheVariants as faults
use Rattle.gw_lines.specs.declared.form.Kind.{Kind}
use Rattle.gw_lines.specs.declared.form.Kind.TheVariants as kinds
use Rattle.gw_lines.specs.declared.form.Presence.{Presence}
use Rattle.gw_lines.specs.declared.form.Presence.TheVariants as presences
use Rattle.gw_lines.specs.declared.form.Form.{Form}
use Rattle.gw_lines.specs.declared.operand.Operand.{Operand}
use Rattle.gw_lines.specs.declared.operand.Operand.TheVariants as operands
use Rattle.gw_lines.specs.Numbers.{number_of, from_one, fraction_of}
use Rattle.gw_lines.specs.Forms.{is_listed}
use Rattle.gw_lines.specs.Fields.{misfits}
use Rattle.gw_lines.specs.Operands.{label_of, defined_of, table_of, order_of, or_points, points_in, as_value, operand_in, listed_here, each_of, missing_of, has_more, operands_of}
use Rattle.gw_lines.specs.Parts.{goes_on, part_of, others_of, is_missing}
use Rattle.gw_lines.specs.Spelling.{Number, SpellsOperand, absent, a_value, a_constant, named_value, attribute_value, computed_value, a_whole, a_key, named_entity, numbered_entity, attribute_entity, computed_entity, a_fraction, a_label, a_definition, a_table, an_expression, continuous, discrete, first_in_first_out, last_in_first_out, unbounded, a_bound, SpellsAll, no_form, stands, unwritten}
use Rattle.gw_lines.specs.Faulty.{Lawful, FirstBad, bad_here, bad_later, AllLawful, operand_if, lawful_operands, FirstMissing, missing_here, missing_later, FaultOfAll, bad_operand, misfit, extra_operand, missing_operand}
use Rattle.gw_lines.proofs.Results.{some, some_is, ok_is}
use Rattle.gw_lines.proofs.Digits.{number_found, number_again, mapped, from_one_found, from_one_again}
use Rattle.gw_lines.proofs.Values.{signed, called, of_attribute, no_name}
use Rattle.gw_lines.proofs.Stated.{value_is, constant_is, entity_is, value_again, computed_value_again, constant_again, name_again, numbered_again, attribute_in_again, computed_entity_again, expression_is, expression_again}
use Rattle.gw_lines.proofs.Fractions.{fraction_found, fraction_again}

-- ---- one operand: what a further kind adds

whole_is : (most : ℕ) (text : List ℕ) (o : Option Operand)
    → option_map (λ n. some (operands.Whole n)) (from_one (number_of most text)) ≡ Some o
    → SpellsOperand (kinds.Whole most) text o
whole_is most text o e =
    let m = mapped (λ n. some (operands.Whole n)) (from_one (number_of most text)) o e in
    let f = from_one_found (number_of most text) m.0 m.1 in
    subst (λ (x : Option Operand). SpellsOperand (kinds.Whole most) text x) m.2
    (a_whole most text m.0 (number_found most text m.0 f.0) f.1)

abbrev none : Option Operand
none = None

-- a key word
key_is : (kind : Kind) (word : List ℕ) (said : Option Operand) → SpellsOperand kind word said
    → (text : List ℕ) (o : Option Operand) → bytes_eq text word ≡ true → some said ≡ Some o → SpellsOperand kind text o
key_is kind word said spells text o h e =
    subst (λ (t : List ℕ). SpellsOperand kind t o) (sym ((bytes_eq-Decides text word).0 h))
    (subst (λ (x : Option Operand). SpellsOperand kind word x) (some_is said o e) spells)

order_is : (text : List ℕ) (o : Option Operand) → as_value (order_of text) ≡ Some o → SpellsOperand kinds.Order text o
order_is text o e =
    elim (cases_Bool (bytes_eq text (codes "FIFO"))) [
      | inl first ↦ key_is kinds.Order (codes "FIFO") _ first_in_first_out text o first (rw first at e)
      | inr other ↦ elim (cases_Bool (bytes_eq text (codes "LIFO"))) [
        | inl last ↦ key_is kinds.Order (codes "LIFO") _ last_in_first_out text o last (rw (other, last) at e)
        | inr neither ↦ absurd (let f = rw (other, neither) at e in cc)
      ]
    ]

other_than : (text word : List ℕ) → bytes_eq text word ≡ false → text ≢ word
other_than text word fails same = let holds = (bytes_eq-Decides text word).1 same in cc

fraction_is : (text : List ℕ) (o : Option Operand)
    → as_value (option_map (λ (n : ℕ). Fraction n) (fraction_of 1000000 text)) ≡ Some o → SpellsOperand kinds.Fraction text o
fraction_is text o e =
    let m = mapped (λ (t : Term). some (operands.Value t)) (option_map (λ (n : ℕ). Fraction n) (fraction_of 1000000 text)) o e in
    let k = mapped (λ (n : ℕ). Fraction n) (fraction_of 1000000 text) m.0 m.1 in
    subst (λ (x : Option Operand). SpellsOperand kinds.Fraction text x) (ap (λ (t : Term). some (operands.Value t)) k.2 ∙ m.2)
    (a_fraction text k.0 (fraction_found 1000000 text k.0 k.1))

label_is : (text : List ℕ) (o : Option Operand) → as_value (label_of text) ≡ Some o → SpellsOperand kinds.Label text o
label_is text o e =
    let m = mapped (λ (t : Term). some (operands.Value t)) (label_of text) o e in
    let k = mapped (λ (name : List ℕ). Label name) (name_of text) m.0 m.1 in
    subst (λ (x : Option Operand). SpellsOperand kinds.Label text x) (ap (λ (t : Term). some (operands.Value t)) k.2 ∙ m.2)
    (a_label text k.0 k.1)

defined_is : (text : List ℕ) (o : Option Operand) → as_value (defined_of text) ≡ Some o → SpellsOperand kinds.Defined text o
defined_is text o e =
    let m = mapped (λ (t : Term). some (operands.Value t)) (defined_of text) o e in
    let k = mapped (λ (name : List ℕ). Defined name) (name_of text) m.0 m.1 in
    subst (λ (x : Option Operand). SpellsOperand kinds.Defined text x) (ap (λ (t : Term). some (operands.Value t)) k.2 ∙ m.2)
    (a_definition text k.0 k.1)

table_is : (text : List ℕ) (o : Option Operand) → as_value (table_of text) ≡ Some o → SpellsOperand kinds.Table text o
table_is text o e =
    let m = mapped (λ (t : Term). some (operands.Value t)) (table_of text) o e in
    let k = mapped (λ (name : List ℕ). Table name) (name_of text) m.0 m.1 in
    subst (λ (x : Option Operand). SpellsOperand kinds.Table text x) (ap (λ (t : Term). some (operands.Value t)) k.2 ∙ m.2)
    (a_table text k.0 k.1)

counted : (type : FunctionType) (bs : List ℕ) (o : Option Operand) → or_points (Some type) (from_one (number_of 1000 bs)) ≡ Some o
    → (n : ℕ) × Number 1000 bs n × (1 ≤ n) × (some (operands.Points type n) ≡ o)
counted type bs o e =
    let m = mapped (λ n. some (operands.Points type n)) (from_one (number_of 1000 bs)) o e in
    let f = from_one_found (number_of 1000 bs) m.0 m.1 in
    (m.0, number_found 1000 bs m.0 f.0, f.1, m.2)

points_are : (b : ℕ) (bs : List ℕ) (o : Option Operand) → points_in (b ∷ bs) ≡ Some o → SpellsOperand kinds.Points (b ∷ bs) o
points_are b bs o e =
    elim (cases_Bool (b == 67)) [
      | inl c ↦
          let k = counted types.Continuous bs o (rw c at e) in
          subst (λ (x : ℕ). SpellsOperand kinds.Points (x ∷ bs) o) (sym (eqb-true b 67 c))
          (subst (λ (x : Option Operand). SpellsOperand kinds.Points (67 ∷ bs) x) k.3 (continuous bs k.0 k.1 k.2))
      | inr other ↦ elim (cases_Bool (b == 68)) [
        | inl d ↦
            let k = counted types.Discrete bs o (rw (other, d) at e) in
            subst (λ (x : ℕ). SpellsOperand kinds.Points (x ∷ bs) o) (sym (eqb-true b 68 d))
            (subst (λ (x : Option Operand). SpellsOperand kinds.Points (68 ∷ bs) x) k.3 (discrete bs k.0 k.1 k.2))
        | inr neither ↦ absurd (let f = rw (other, neither) at e in cc)
      ]
    ]

operand_found : (kind : Kind) (text : List ℕ) (o : Option Operand) → operand_in kind text ≡ Some o
    → SpellsOperand kind text o
operand_found kind [] o e = subst (λ (x : Option Operand). SpellsOperand kind [] x) (some_is none o e) (absent kind)
operand_found kinds.Value (b ∷ bs) o e = value_is (b ∷ bs) o e
operand_found kinds.Constant (b ∷ bs) o e = constant_is (b ∷ bs) o e
operand_found (kinds.Whole most) (b ∷ bs) o e = whole_is most (b ∷ bs) o e
operand_found kinds.Quiet (b ∷ bs) o e =
    elim (cases_Bool (bytes_eq (b ∷ bs) (codes "NP"))) [
      | inl holds ↦ key_is kinds.Quiet (codes "NP") none a_key (b ∷ bs) o holds (rw holds at e)
      | inr fails ↦ absurd (let f = rw fails at e in cc)
    ]
operand_found kinds.Entity (b ∷ bs) o e = entity_is (b ∷ bs) o e
operand_found kinds.Fraction (b ∷ bs) o e = fraction_is (b ∷ bs) o e
operand_found kinds.Label (b ∷ bs) o e = label_is (b ∷ bs) o e
operand_found kinds.Defined (b ∷ bs) o e = defined_is (b ∷ bs) o e
operand_found kinds.Table (b ∷ bs) o e = table_is (b ∷ bs) o e
operand_found kinds.Expression (b ∷ bs) o e = expression_is (b ∷ bs) o e
operand_found kinds.Points (b ∷ bs) o e = points_are b bs o e
operand_found kinds.Order (b ∷ bs) o e = order_is (b ∷ bs) o e
operand_found kinds.Bound (b ∷ bs) o e =
    elim (cases_Bool (bytes_eq (b ∷ bs) (codes "ALL"))) [
      | inl holds ↦ key_is kinds.Bound (codes "ALL") none unbounded (b ∷ bs) o holds (rw holds at e)
      | inr fails ↦ a_bound (b ∷ bs) o (other_than (b ∷ bs) (codes "ALL") fails) (value_is (b ∷ bs) o (rw fails at e))
    ]

whole_in_again : (most : ℕ) (text : List ℕ) (n : ℕ) → number_of most text ≡ Some n → 1 ≤ n
    → operand_in (kinds.Whole most) text ≡ Some (Some (operands.Whole n))
whole_in_again most [] n e h = absurd cc
whole_in_again most (b ∷ bs) n e h = rw (e, from_one_again n h) refl

fraction_in_again : (text : List ℕ) (n : ℕ) → fraction_of 1000000 text ≡ Some n
    → operand_in kinds.Fraction text ≡ Some (Some (operands.Value (Fraction n)))
fraction_in_again [] n e = absurd cc
fraction_in_again (b ∷ bs) n e = rw e refl

label_in_again : (text name : List ℕ) → name_of text ≡ Some name
    → operand_in kinds.Label text ≡ Some (Some (operands.Value (Label name)))
label_in_again [] name e = absurd (no_name name e)
label_in_again (b ∷ bs) name e = rw e refl

defined_in_again : (text name : List ℕ) → name_of text ≡ Some name
    → operand_in kinds.Defined text ≡ Some (Some (operands.Value (Defined name)))
defined_in_again [] name e = absurd (no_name name e)
defined_in_again (b ∷ bs) name e = rw e refl

table_in_again : (text name : List ℕ) → name_of text ≡ Some name
    → operand_in kinds.Table text ≡ Some (Some (operands.Value (Table name)))
table_in_again [] name e = absurd (no_name name e)
table_in_again (b ∷ bs) name e = rw e refl

-- a value in the place of `ALL`
bound_again : (text : List ℕ) (o : Option Operand) → text ≢ codes "ALL" → operand_in kinds.Value text ≡ Some o
    → operand_in kinds.Bound text ≡ Some o
bound_again [] o other e = e
bound_again (b ∷ bs) o other e =
    elim (cases_Bool (bytes_eq (b ∷ bs) (codes "ALL"))) [
      | inl holds ↦ absurd (other ((bytes_eq-Decides (b ∷ bs) (codes "ALL")).0 holds))
      | inr fails ↦ rw fails e
    ]

operand_again : {kind : Kind} {text : List ℕ} {o : Option Operand} → SpellsOperand kind text o
    → operand_in kind text ≡ Some o
operand_again (absent kind) = refl
operand_again (a_value text z v) = value_again text (atoms.Constant z) (signed text z v)
operand_again (a_constant text z v) = constant_again text z v
operand_again (named_value text name e) = value_again text (atoms.Number name) (called text name e)
operand_again (attribute_value text class of s) = value_again text (atoms.Attribute class of) (of_attribute text class of s)
operand_again (computed_value text e s) = computed_value_again text e s
operand_again (a_whole most text n h from) = whole_in_again most text n (number_again most text n h) from
operand_again a_key = refl
operand_again (named_entity text name e) = name_again text name e
operand_again (numbered_entity text n h from) = numbered_again text n h from
operand_again (attribute_entity text class of s) = attribute_in_again text class of s
operand_again (computed_entity text e s) = computed_entity_again text e s
operand_again (a_fraction text n f) = fraction_in_again text n (fraction_again f)
operand_again (a_label text name e) = label_in_again text name e
operand_again (a_definition text name e) = defined_in_again text name e
operand_again (a_table text name e) = table_in_again text name e
operand_again (an_expression text e s) = expression_again text e s
operand_again (continuous digits n h from) = rw (number_again 1000 digits n h, from_one_again n from) refl
operand_again (discrete digits n h from) = rw (number_again 1000 digits n h, from_one_again n from) refl
operand_again first_in_first_out = refl
operand_again last_in_first_out = refl
operand_again unbounded = refl
operand_again (a_bound text o other s) = bound_again text o other (operand_again s)

-- ---- one part

-- a part that is not listed is the empty one after the last
unlisted : (presence : Presence) (parts : List (List ℕ)) → is_listed presence (goes_on parts) ≡ false
    → (presence ≡ presences.Written) × (parts ≡ [])
unlisted presences.Written [] e = (refl, refl)
unlisted presences.Written (part ∷ parts) e = absurd cc
unlisted presence parts e = absurd cc

lawful_by : (kind : Kind) (text : List ℕ) (r : Option (Option Operand)) → operand_in kind text ≡ r
    → Lawful kind text ⊎ ((operand_in kind text ≡ None) × (Lawful kind text → ⊥))
lawful_by kind text (Some o) e = inl (o, operand_found kind text o e)
lawful_by kind text None e = inr (e, λ l. let f = operand_again l.1 in cc)

lawful_or_not : (kind : Kind) (text : List ℕ)
    → Lawful kind text ⊎ ((operand_in kind text ≡ None) × (Lawful kind text → ⊥))
lawful_or_not kind text = lawful_by kind text (operand_in kind text) refl

here_lawful : (form : Form) (n : ℕ) (parts : List (List ℕ)) (l : Lawful form.kind (part_of parts))
    → listed_here form n (goes_on parts) (part_of parts) ≡ Ok (operand_if (is_listed form.presence (goes_on parts)) l.0)
here_lawful form n parts l =
    elim (cases_Bool (is_listed form.presence (goes_on parts))) [
      | inl listed ↦ rw (listed, operand_again l.1) refl
      | inr other ↦ rw other refl
    ]

here_bad : (form : Form) (n : ℕ) (parts : List (List ℕ)) → (Lawful form.kind (part_of parts) → ⊥)
    → listed_here form n (goes_on parts) (part_of parts) ≡ Err (faults.BadOperand n)
here_bad form n parts never =
    elim (lawful_or_not form.kind (part_of parts)) [
      | inl l ↦ absurd (never l)
      | inr u ↦ elim (cases_Bool (is_listed form.presence (goes_on parts))) [
        | inl listed ↦ rw (listed, u.0) refl
        | inr other ↦
            let none : part_of parts ≡ [] = ap part_of (unlisted form.presence parts other).1 in
            absurd (never (subst (λ (t : List ℕ). Lawful form.kind t) (sym none) (None, absent form.kind)))
      ]
    ]

-- ---- all parts

lawful_or_bad : (n : ℕ) (forms : List Form) (parts : List (List ℕ))
    → AllLawful forms parts ⊎ ((m : ℕ) × FirstBad n forms parts m)
lawful_or_bad n [] parts = inl tt
lawful_or_bad n (form ∷ forms) parts =
    elim (lawful_or_not form.kind (part_of parts)) [
      | inr u ↦ inr (n, bad_here n form forms parts u.1)
      | inl l ↦ elim (lawful_or_bad (n + 1) forms (others_of parts)) [
        | inl all ↦ inl (l, all)
        | inr b ↦ inr (b.0, bad_later n form forms parts b.0 l b.1)
      ]
    ]

each_bad : {n : ℕ} {forms : List Form} {parts : List (List ℕ)} {m : ℕ} → FirstBad n forms parts m
    → each_of n forms parts ≡ Err (faults.BadOperand m)
each_bad (bad_here n form forms parts never) = rw (here_bad form n parts never) refl
each_bad (bad_later n form forms parts m l b) = rw (here_lawful form n parts l, each_bad b) refl

each_lawful : (n : ℕ) (forms : List Form) (parts : List (List ℕ)) (all : AllLawful forms parts)
    → each_of n forms parts ≡ Ok (lawful_operands forms parts all)
each_lawful n [] parts all = refl
each_lawful n (form ∷ forms) parts all =
    rw (here_lawful form n parts all.0, each_lawful (n + 1) forms (others_of parts) all.1) refl

-- no part is missing
abbrev NoneMissing : List Form → List (List ℕ) → Type 0
NoneMissing [] parts = Unit {0}
NoneMissing (form ∷ forms) parts = (is_missing form (part_of parts) ≡ false) × NoneMissing forms (others_of parts)

missing_or_not : (n : ℕ) (forms : List Form) (parts : List (List ℕ))
    → NoneMissing forms parts ⊎ ((m : ℕ) × FirstMissing n forms parts m)
missing_or_not n [] parts = inl tt
missing_or_not n (form ∷ forms) parts =
    elim (cases_Bool (is_missing form (part_of parts))) [
      | inl here ↦ inr (n, missing_here n form forms parts here)
      | inr given ↦ elim (missing_or_not (n + 1) forms (others_of parts)) [
        | inl none ↦ inl (given, none)
        | inr m ↦ inr (m.0, missing_later n form forms parts m.0 given m.1)
      ]
    ]

missing_again : {n : ℕ} {forms : List Form} {parts : List (List ℕ)} {m : ℕ} → FirstMissing n forms parts m
    → missing_of n forms parts ≡ Some m
missing_again (missing_here n form forms parts here) = rw here refl
missing_again (missing_later n form forms parts m given later) = rw given (missing_again later)

more_found : (forms : List Form) (parts : List (List ℕ)) → has_more forms parts ≡ true → length forms < length parts
more_found [] [] e = absurd cc
more_found [] (part ∷ parts) e = omega arith
more_found (form ∷ forms) [] e = let h = more_found forms [] e in absurd (omega arith)
more_found (form ∷ forms) (part ∷ parts) e = let h = more_found forms parts e in omega arith

no_more_found : (forms : List Form) (parts : List (List ℕ)) → has_more forms parts ≡ false
    → length parts ≤ length forms
no_more_found [] [] e = omega arith
no_more_found [] (part ∷ parts) e = absurd cc
no_more_found (form ∷ forms) [] e = omega arith
no_more_found (form ∷ forms) (part ∷ parts) e = let h = no_more_found forms parts e in omega arith

more_again : (forms : List Form) (parts : List (List ℕ)) → length forms < length parts → has_more forms parts ≡ true
more_again forms parts lt =
    elim (cases_Bool (has_more forms parts)) [
      | inl more ↦ more
      | inr none ↦ let le = no_more_found forms parts none in absurd (omega arith)
    ]

no_more_again : (forms : List Form) (parts : List (List ℕ)) → length parts ≤ length forms
    → has_more forms parts ≡ false
no_more_again forms parts le =
    elim (cases_Bool (has_more forms parts)) [
      | inl more ↦ let lt = more_found forms parts more in absurd (omega arith)
      | inr none ↦ none
    ]

-- lawful parts, none of them too many or missing, spell operands
lawful_spells : (forms : List Form) (parts : List (List ℕ)) → AllLawful forms parts → NoneMissing forms parts
    → has_more forms parts ≡ false → (os : List (Option Operand)) × SpellsAll forms parts os
lawful_spells [] [] all none e = ([], no_form)
lawful_spells [] (part ∷ parts) all none e = absurd cc
lawful_spells (form ∷ forms) parts all none e =
    let others = lawful_spells forms (others_of parts) all.1 none.1 e in
    elim (cases_Bool (is_listed form.presence (goes_on parts))) [
      | inl listed ↦ (all.0.0 ∷ others.0, stands form forms parts all.0.0 others.0 listed none.0 all.0.1 others.1)
      | inr other ↦
          let u = unlisted form.presence parts other in
          let behind = subst (λ (t : List (List ℕ)). SpellsAll forms t others.0) (ap others_of u.1) others.1 in (
            others.0,
            subst (λ (t : List (List ℕ)). SpellsAll (form ∷ forms) t others.0) (sym u.1)
                (unwritten form forms others.0 u.0 behind),
          )
    ]

each_spelled : {forms : List Form} {parts : List (List ℕ)} {os : List (Option Operand)} (n : ℕ) → SpellsAll forms parts os
    → each_of n forms parts ≡ Ok os
each_spelled n no_form = refl
each_spelled n (stands form forms parts o os listed given here others) =
    rw (listed, operand_again here, each_spelled (n + 1) others) refl
each_spelled n (unwritten form forms os w others) = rw (w, each_spelled (n + 1) others) refl

none_missing : {forms : List Form} {parts : List (List ℕ)} {os : List (Option Operand)} (n : ℕ) → SpellsAll forms parts os
    → missing_of n forms parts ≡ None
none_missing n no_form = refl
none_missing n (stands form forms parts o os listed given here others) = rw given (none_missing (n + 1) others)
none_missing n (unwritten form forms os w others) = rw w (none_missing (n + 1) others)

none_more : {forms : List Form} {parts : List (List ℕ)} {os : List (Option Operand)} → SpellsAll forms parts os
    → has_more forms parts ≡ false
none_more no_form = refl
none_more (stands form forms parts o os listed given here others) = none_more others
none_more (unwritten form forms os w others) = none_more others

-- ---- what reading gives

pub operands_spelled : {forms : List Form} {parts : List (List ℕ)} {os : List (Option Operand)} (verb : Verb) → SpellsAll forms parts os
    → misfits verb os ≡ false → operands_of verb forms parts ≡ Ok os
unfolding operands_of
operands_spelled verb s fit = rw (each_spelled 1 s, fit, none_more s, none_missing 1 s) refl

pub operands_faulted : {verb : Verb} {forms : List Form} {parts : List (List ℕ)} {f : LineFault} → FaultOfAll verb forms parts f
    → operands_of verb forms parts ≡ Err f
unfolding operands_of
operands_faulted (bad_operand verb forms parts n b) = rw (each_bad b) refl
operands_faulted (misfit verb forms parts all is) = rw (each_lawful 1 forms parts all, is) refl
operands_faulted (extra_operand verb forms parts all fit lt) =
    rw (each_lawful 1 forms parts all, fit, more_again forms parts lt) refl
operands_faulted (missing_operand verb forms parts n all fit le m) =
    rw (each_lawful 1 forms parts all, fit, no_more_again forms parts le, missing_again m) refl

-- those that are spelled are the lawful ones
same_operands : {forms : List Form} {parts : List (List ℕ)} {os : List (Option Operand)} (all : AllLawful forms parts)
    → SpellsAll forms parts os → lawful_operands forms parts all ≡ os
same_operands {forms} {parts} {os} all s =
    ok_is (lawful_operands forms parts all) os (sym (each_lawful 1 forms parts all) ∙ each_spelled 1 s)

-- each list of parts spells operands, or has a first fault
pub operands_verdict : (verb : Verb) (forms : List Form) (parts : List (List ℕ))
    → ((os : List (Option Operand)) × SpellsAll forms parts os × (misfits verb os ≡ false))
    ⊎ ((f : LineFault) × FaultOfAll verb forms parts f)
operands_verdict verb forms parts =
    elim (lawful_or_bad 1 forms parts) [
      | inr b ↦ inr (faults.BadOperand b.0, bad_operand verb forms parts b.0 b.1)
      | inl all ↦ elim (cases_Bool (misfits verb (lawful_operands forms parts all))) [
        | inl is ↦ inr (faults.BadOperand 4, misfit verb forms parts all is)
        | inr fit ↦ elim (cases_Bool (has_more forms parts)) [
          | inl more ↦
              inr (faults.ExtraOperand (length forms + 1), extra_operand verb forms parts all fit (more_found forms parts more))
          | inr end ↦ elim (missing_or_not 1 forms parts) [
            | inr m ↦
                inr (faults.MissingOperand m.0, missing_operand verb forms parts m.0 all fit (no_more_found forms parts end) m.1)
            | inl none ↦
                let s = lawful_spells forms parts all none end in
                inl (s.0, s.1, subst (λ (os : List (Option Operand)). misfits verb os ≡ false) (same_operands all s.1) fit)
          ]
        ]
      ]
    ]
