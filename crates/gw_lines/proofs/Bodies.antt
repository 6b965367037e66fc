-- The body that a verb's text spells: what is read is said so, what is said so is read, and the same of the first fault.
use Rattle.std.proofs.Common.{◌≡◌, ℕ, true, false, List, [], ◌∷◌, Option, Some, None, Result, Ok, Err, refl, sym, ap, subst, ◌∙◌, ◌⊎◌, inl, inr}
use Rattle.std.proofs.lemmas.Bool.{cases_Bool}
use Rattle.gw_names.specs.declared.verb.BlockVerb.TheVariants as blocks
use Rattle.gw_names.specs.declared.verb.Verb.{Verb}
use Rattle.gw_names.specs.declared.verb.Verb.TheVariants as verbs
use Rattle.gw_meaning.specs.declared.auxiliary.Auxiliary.{Auxiliary}
use Rattle.gw_meaning.specs.declared.statement.Body.{Body}
use Rattle.gw_meaning.specs.Statements.{verb_of_body}
use Rattle.gw_lines.specs.declared.fault.LineFault.{LineFault}
use Rattle.gw_lines.specs.declared.fault.LineFault.TheVariants as faults
use Rattle.gw_lines.specs.declared.form.Form.{Form}
use Rattle.gw_lines.specs.Reading.{◌>>=◌}
use Rattle.gw_lines.specs.Forms.{forms_of, fields_of, points_of, lacks}
use Rattle.gw_lines.specs.Fields.{misfits}
use Rattle.gw_lines.specs.Parts.{is_given}
use Rattle.gw_lines.specs.Auxiliaries.{HasAuxiliary, takes_operator, operator_of, auxiliary_of, bare_parts}
use Rattle.gw_lines.specs.Bodies.{body_with, enough, in_forms, by_forms, operator_fault, body_of}
use Rattle.gw_lines.specs.Spelling.{SpellsAll, Says}
use Rattle.gw_lines.specs.Faulty.{OperandFault, in_list, lacking, BodyFault, no_operator, bad_operator, verb_to_come, operand_fault}
use Rattle.gw_lines.proofs.Results.{done, failed, ok_is, err_is, not_both}
use Rattle.gw_lines.proofs.Spelled.{operands_spelled, operands_faulted, operands_verdict}
use Rattle.gw_lines.proofs.Rows.{built, made_with}

-- ---- the operands

-- parts that spell operands give a statement, where they lack none
spelled_gives : (verb : Verb) (beside : Auxiliary) (forms : List Form) (parts : List (List ℕ)) (body : Body) → SpellsAll forms parts (fields_of body)
    → verb_of_body body ≡ verb → HasAuxiliary body beside → points_of body ≡ [] → misfits verb (fields_of body) ≡ false
    → in_forms verb beside forms parts ≡ (enough (lacks verb (fields_of body)) >>= λ given. done body)
unfolding in_forms
spelled_gives verb beside forms parts body s v has none fit =
    let own = subst (λ (x : Verb). misfits x (fields_of body) ≡ false) (sym v) fit in
    let b : body_with verb beside (fields_of body) ≡ Some body =
    ap (λ (x : Verb). body_with x beside (fields_of body)) (sym v) ∙ built body beside has none own in
    rw (operands_spelled verb s fit, b) refl

said_again : {verb : Verb} {beside : Auxiliary} {parts : List (List ℕ)} {body : Body} → Says verb beside parts body
    → by_forms verb beside (forms_of verb beside (is_given parts)) parts ≡ Ok body
said_again {verb} {beside} {parts} {body} s =
    rw s.are_forms (spelled_gives verb beside s.forms parts body s.operands s.of_verb s.has_auxiliary s.pointless s.fit ∙ rw s.enough refl)

faulted_again : {verb : Verb} {beside : Auxiliary} {parts : List (List ℕ)} {f : LineFault} → OperandFault verb beside parts f
    → by_forms verb beside (forms_of verb beside (is_given parts)) parts ≡ Err f
unfolding in_forms
faulted_again (in_list verb beside forms parts f e h) = rw (e, operands_faulted h) refl
faulted_again (lacking verb beside forms parts os e s fit l) = rw (e, operands_spelled verb s fit, l) refl

-- the parts say a statement, or have a first fault
verdict : (verb : Verb) (beside : Auxiliary) (forms : List Form) (parts : List (List ℕ)) → forms_of verb beside (is_given parts) ≡ Some forms
    → ((body : Body) × Says verb beside parts body) ⊎ ((f : LineFault) × OperandFault verb beside parts f)
verdict verb beside forms parts e =
    elim (operands_verdict verb forms parts) [
      | inr h ↦ inr (h.0, in_list verb beside forms parts h.0 e h.1)
      | inl s ↦ elim (cases_Bool (lacks verb s.0)) [
        | inl l ↦ inr (faults.MissingOperand 1, lacking verb beside forms parts s.0 e s.1 s.2 l)
        | inr enough ↦
            let m = made_with verb beside (is_given parts) forms e s.1 in
            inl (
              m.body,
              record {
                forms = forms;
                are_forms = e;
                of_verb = m.verb_is;
                has_auxiliary = m.has_auxiliary;
                operands = rw m.fields s.1;
                fit = rw m.fields s.2;
                enough = rw m.fields enough;
                pointless = m.pointless;
              },
            )
      ]
    ]

some_forms : (o : Option (List Form)) → (o ≡ None) ⊎ ((forms : List Form) × (o ≡ Some forms))
some_forms None = inl refl
some_forms (Some forms) = inr (forms, refl)

-- ---- what stands beside them

some_auxiliary : (o : Option Auxiliary) → (o ≡ None) ⊎ ((beside : Auxiliary) × (o ≡ Some beside))
some_auxiliary None = inl refl
some_auxiliary (Some beside) = inr (beside, refl)

-- no word at all is an operator
no_word : (verb : Verb) → operator_of verb [] ≡ None
unfolding operator_of
no_word (verbs.Block blocks.Test) = refl
no_word verb = refl

none_there : (verb : Verb) → takes_operator verb ≡ true → auxiliary_of verb [] ≡ None
none_there verb takes = rw takes (no_word verb)

-- a text without what stands beside a verb's operands
abbrev by_parts : Verb → List ℕ → Auxiliary → Result Body LineFault
by_parts verb text beside = by_forms verb beside (forms_of verb beside (is_given (bare_parts verb text))) (bare_parts verb text)

with_auxiliary : (verb : Verb) (text : List ℕ) {beside : Auxiliary} → auxiliary_of verb text ≡ Some beside
    → body_of verb text ≡ by_parts verb text beside
unfolding body_of
with_auxiliary verb text e = rw e refl

without_auxiliary : (verb : Verb) (text : List ℕ) → auxiliary_of verb text ≡ None → body_of verb text ≡ Err (operator_fault text)
unfolding body_of
without_auxiliary verb text e = rw e refl

-- where it takes one, an empty text lacks it
takes_it : (verb : Verb) (text : List ℕ) → auxiliary_of verb text ≡ None → takes_operator verb ≡ true
takes_it verb text e =
    elim (cases_Bool (takes_operator verb)) [
      | inl takes ↦ takes
      | inr free ↦ absurd (let f = rw free at e in cc)
    ]

operator_faulty : (verb : Verb) (text : List ℕ) → auxiliary_of verb text ≡ None → BodyFault verb text (operator_fault text)
operator_faulty verb [] e = no_operator verb (takes_it verb [] e)
operator_faulty verb (b ∷ bs) e = bad_operator verb (b ∷ bs) (λ (k : b ∷ bs ≡ []). cc) e

bad_is : (text : List ℕ) → (text ≡ [] → ⊥) → operator_fault text ≡ faults.BadOperand 0
bad_is [] some = absurd (some refl)
bad_is (b ∷ bs) some = refl

-- ---- the body

-- what a text says after a verb
pub record SaysBody (verb : Verb) (text : List ℕ) (body : Body) : Type 0 where
  pub auxiliary : Auxiliary
  pub is_auxiliary : auxiliary_of verb text ≡ Some auxiliary
  pub says : Says verb auxiliary (bare_parts verb text) body

pub body_again : {verb : Verb} (text : List ℕ) {body : Body} {beside : Auxiliary} → auxiliary_of verb text ≡ Some beside
    → Says verb beside (bare_parts verb text) body → body_of verb text ≡ Ok body
body_again {verb} text e s = with_auxiliary verb text e ∙ said_again s

pub body_fault_again : {verb : Verb} {text : List ℕ} {f : LineFault} → BodyFault verb text f → body_of verb text ≡ Err f
body_fault_again (no_operator verb takes) = without_auxiliary verb [] (none_there verb takes)
body_fault_again (bad_operator verb text some e) = without_auxiliary verb text e ∙ ap failed (bad_is text some)
body_fault_again (verb_to_come verb text beside is e) = with_auxiliary verb text is ∙ rw e refl
body_fault_again (operand_fault verb text f beside is h) = with_auxiliary verb text is ∙ faulted_again h

-- a text says a body after a verb, or has a first fault
pub body_verdict : (verb : Verb) (text : List ℕ) → ((body : Body) × SaysBody verb text body) ⊎ ((f : LineFault) × BodyFault verb text f)
body_verdict verb text =
    elim (some_auxiliary (auxiliary_of verb text)) [
      | inl none ↦ inr (operator_fault text, operator_faulty verb text none)
      | inr a ↦
          elim (some_forms (forms_of verb a.0 (is_given (bare_parts verb text)))) [
            | inl none ↦ inr (faults.UnknownVerb, verb_to_come verb text a.0 a.1 none)
            | inr some ↦ elim (verdict verb a.0 some.0 (bare_parts verb text) some.1) [
              | inl s ↦ inl (s.0, record { auxiliary = a.0; is_auxiliary = a.1; says = s.1 })
              | inr f ↦ inr (f.0, operand_fault verb text f.0 a.0 a.1 f.1)
            ]
          ]
    ]

pub body_found : (verb : Verb) (text : List ℕ) (body : Body) → body_of verb text ≡ Ok body → SaysBody verb text body
body_found verb text body h =
    elim (body_verdict verb text) [
      | inl s ↦ subst (SaysBody verb text) (ok_is s.0 body (sym (body_again text s.1.is_auxiliary s.1.says) ∙ h)) s.1
      | inr f ↦ not_both (body_of verb text) body f.0 h (body_fault_again f.1)
    ]

pub body_fault : (verb : Verb) (text : List ℕ) (f : LineFault) → body_of verb text ≡ Err f → BodyFault verb text f
body_fault verb text f h =
    elim (body_verdict verb text) [
      | inl s ↦ not_both (body_of verb text) s.0 f (body_again text s.1.is_auxiliary s.1.says) h
      | inr g ↦ subst (BodyFault verb text) (err_is (body_of verb text) g.0 f (body_fault_again g.1) h) g.1
    ]
