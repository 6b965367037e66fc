-- The first fault of a line: what is answered is in the family, and what is in the family is answered.
use Rattle.std.proofs.Common.{◌≡◌, ◌≢◌, ℕ, true, false, List, [], ◌++◌, length, Option, Some, None, Result, Ok, Err, refl, sym, ap, subst, ◌∙◌, ◌⊎◌, inl, inr}
use Rattle.std.specs.Prelude.{IsSome, is_some}
use Rattle.std.proofs.lemmas.List.{append-nil}
use Rattle.std.proofs.lemmas.Bool.{both_ways, cases_Bool, or_right, lt-ltb}
use Rattle.gw_names.specs.declared.verb.Verb.{Verb}
use Rattle.gw_names.specs.Words.{upper_of}
use Rattle.gw_names.specs.Names.{name_of}
use Rattle.gw_meaning.specs.declared.statement.Body.{Body}
use Rattle.gw_meaning.specs.declared.statement.Statement.{Statement}
use Rattle.gw_lines.specs.declared.class.Class.TheVariants as class
use Rattle.gw_lines.specs.declared.fault.LineFault.{LineFault}
use Rattle.gw_lines.specs.declared.fault.LineFault.TheVariants as faults
use Rattle.gw_lines.specs.Reading.{◌>>=◌}
use Rattle.gw_lines.specs.Classes.{front_of, rest_of, word_of, behind_word, is_nothing, are_plain}
use Rattle.gw_lines.specs.Bodies.{body_of}
use Rattle.gw_lines.specs.Lines.{verb_in, is_command, needs_label, or_bad_label, label_of, no_label_of, plain_of, by_first, by_second, coded_of, fault_without_verb, code_of, line_in, line_of, statement_of}
use Rattle.gw_lines.specs.Spelling.{Stops, Head, Label, no_label, named, ArePlain}
use Rattle.gw_lines.specs.Faulty.{Verbless, one_word, two_words, WordsFault, byte_with_verb, byte_without_verb, no_verb, bad_first_word, bad_label, lacks_label, faulty_body, FirstFault, too_long, no_statement, in_words}
use Rattle.gw_lines.proofs.Fronts.{all_blank, both_stop, front_again, rest_again, none_behind, none_is, not_none, parts, front_all, rest_stops, some_is_not}
use Rattle.gw_lines.proofs.Results.{failed, err_is}
use Rattle.gw_lines.proofs.Bodies.{body_fault, body_fault_again}
use Rattle.gw_lines.proofs.Heads.{are_plain_upper, no_word, blanks_before, two_are, two_again, head_first, head_second, at_head, head_is, label_again, free_again, labelled_head, plain_again}
use Rattle.gw_lines.proofs.Lines.{short_again, cut_is, words_are, line_is, is_long, no_words, has_words}

step_ok : {X Y : Type 0} (r : Result X LineFault) (next : X → Result Y LineFault) (x : X) (f : LineFault) → r ≡ Ok x → (r >>= next) ≡ Err f → next x ≡ Err f
step_ok {X} r next x f p e = sym (ap (λ (t : Result X LineFault). t >>= next) p) ∙ e

step_err : {X Y : Type 0} (r : Result X LineFault) (next : X → Result Y LineFault) (g f : LineFault) → r ≡ Err g → (r >>= next) ≡ Err f → f ≡ g
step_err {X} {Y} r next g f p e =
    let h : failed {A = Y} g ≡ Err f = sym (ap (λ (t : Result X LineFault). t >>= next) p) ∙ e in
    err_is (failed {A = Y} g) f g h refl

step_on : {X Y : Type 0} (r : Result X LineFault) (next : X → Result Y LineFault) (x : X) (z : Result Y LineFault) → r ≡ Ok x → next x ≡ z → (r >>= next) ≡ z
step_on {X} r next x z p e = ap (λ (t : Result X LineFault). t >>= next) p ∙ e

step_off : {X Y : Type 0} (r : Result X LineFault) (next : X → Result Y LineFault) (g : LineFault) → r ≡ Err g → (r >>= next) ≡ Err g
step_off {X} r next g p = ap (λ (t : Result X LineFault). t >>= next) p

abbrev statement_with : Option (List ℕ) → List ℕ → Body → Result Statement LineFault
statement_with label o body = Ok (record { label = label; body = body; operands = o })

body_failed : (r : Result Body LineFault) (label : Option (List ℕ)) (o : List ℕ) (f : LineFault) → (r >>= statement_with label o) ≡ Err f → r ≡ Err f
body_failed (Ok body) label o f e = absurd cc
body_failed (Err g) label o f e = ap failed (err_is (failed {A = Statement} g) g f refl e)

plain_cases : (t : List ℕ) → ((are_plain t ≡ true) × (plain_of t ≡ Ok t)) ⊎ ((are_plain t ≡ false) × (plain_of t ≡ Err faults.BadByte))
plain_cases t =
    elim (cases_Bool (are_plain t)) [
      | inl plain ↦ inl (plain, rw plain refl)
      | inr other ↦ inr (other, rw other refl)
    ]

-- ---- words with a verb

body_part : {words : List ℕ} {word : Option (List ℕ)} {verb : Verb} {kept : List ℕ} {label : Option (List ℕ)} (f : LineFault)
    → Head words word verb kept → ArePlain word kept → Label word verb label → body_of verb (upper_of kept) ≡ Err f → WordsFault words f
body_part {words} {word} {verb} {kept} {label} f h p l e =
    faulty_body words word verb kept label f h p l (body_fault verb (upper_of kept) f e)

bad_name : (o : Option (List ℕ)) → ((name : List ℕ) × (o ≡ Some name) × (or_bad_label o ≡ Ok name)) ⊎ ((o ≡ None) × (or_bad_label o ≡ Err faults.BadLabel))
bad_name None = inr (refl, refl)
bad_name (Some name) = inl (name, refl, refl)

unlabelled : (verb : Verb) (word : List ℕ) → (is_command verb ≡ true) ⊎ (name_of word ≡ None) → label_of verb word ≡ Err faults.BadLabel
unfolding label_of
unlabelled verb word (inl c) = rw c refl
unlabelled verb word (inr n) =
    elim (cases_Bool (is_command verb)) [
      | inl c ↦ rw c refl
      | inr c ↦ rw (c, n) refl
    ]

needed : (verb : Verb) → needs_label verb ≡ true → no_label_of verb ≡ Err faults.BadLabel
unfolding no_label_of
needed verb n = rw n refl

label_cases : (verb : Verb) (word : List ℕ) → ((name : List ℕ) × (is_command verb ≡ false) × (name_of word ≡ Some name))
    ⊎ ((is_command verb ≡ true) ⊎ (name_of word ≡ None))
label_cases verb word =
    elim (cases_Bool (is_command verb)) [
      | inl c ↦ inr (inl c)
      | inr c ↦ elim (bad_name (name_of word)) [
        | inl n ↦ inl (n.0, c, n.1)
        | inr n ↦ inr (inr n.0)
      ]
    ]

kept_plain : (kept : List ℕ) → are_plain (upper_of kept) ≡ true → are_plain kept ≡ true
kept_plain kept h = sym (are_plain_upper kept) ∙ h

head_fault : {words : List ℕ} (word : Option (List ℕ)) {verb : Verb} {kept : List ℕ} (f : LineFault) → Head words word verb kept
    → at_head word verb kept ≡ Err f → WordsFault words f
head_fault {words} None {verb} {kept} f h e =
    elim (plain_cases (upper_of kept)) [
      | inl p ↦
          let plain : ArePlain None kept = record { first = tt; list = kept_plain kept p.0 } in
          let e2 = step_ok (plain_of (upper_of kept)) _ (upper_of kept) f p.1 e in
          elim (cases_Bool (needs_label verb)) [
            | inl needs ↦ subst (λ (x : LineFault). WordsFault words x) (sym (step_err (no_label_of verb) _ faults.BadLabel f (needed verb needs) e2))
                (lacks_label words verb kept h plain needs)
            | inr free ↦ body_part f h plain (no_label verb free)
                (body_failed (body_of verb (upper_of kept)) None (upper_of kept) f (step_ok (no_label_of verb) _ tt f (free_again verb free) e2))
          ]
      | inr p ↦ subst (λ (x : LineFault). WordsFault words x) (sym (step_err (plain_of (upper_of kept)) _ faults.BadByte f p.1 e))
          (byte_with_verb words None verb kept h (λ a. both_ways _ p.0 (are_plain_upper kept ∙ a.list)))
    ]
head_fault {words} (Some word) {verb} {kept} f h e =
    elim (plain_cases word) [
      | inr w ↦ subst (λ (x : LineFault). WordsFault words x) (sym (step_err (plain_of word) _ faults.BadByte f w.1 e))
          (byte_with_verb words (Some word) verb kept h (λ a. both_ways _ w.0 a.first))
      | inl w ↦ elim (plain_cases (upper_of kept)) [
        | inr p ↦ subst (λ (x : LineFault). WordsFault words x)
            (sym (step_err (plain_of (upper_of kept)) _ faults.BadByte f p.1 (step_ok (plain_of word) _ word f w.1 e)))
            (byte_with_verb words (Some word) verb kept h (λ a. both_ways _ p.0 (are_plain_upper kept ∙ a.list)))
        | inl p ↦
            let plain : ArePlain (Some word) kept = record { first = w.0; list = kept_plain kept p.0 } in
            let e2 = step_ok (plain_of (upper_of kept)) _ (upper_of kept) f p.1 (step_ok (plain_of word) _ word f w.1 e) in
            elim (label_cases verb word) [
              | inl n ↦ body_part f h plain (named word verb n.0 n.1 n.2)
                  (body_failed (body_of verb (upper_of kept)) (Some n.0) (upper_of kept) f
                  (step_ok (label_of verb word) _ n.0 f (label_again verb word n.0 n.1 n.2) e2))
              | inr b ↦ subst (λ (x : LineFault). WordsFault words x) (sym (step_err (label_of verb word) _ faults.BadLabel f (unlabelled verb word b) e2))
                  (bad_label words word verb kept h plain b)
            ]
      ]
    ]

-- ---- words with no verb

verbless_with : (words first second : List ℕ) → word_of words ≡ first → word_of (behind_word words) ≡ second → verb_in first ≡ None → verb_in second ≡ None
    → coded_of words ≡ Err (fault_without_verb words first second)
unfolding coded_of
verbless_with words first second a b n m =
    ap (λ (o : Option Verb). by_first o words) (ap verb_in a ∙ n) ∙ ap (λ (o : Option Verb). by_second o words) (ap verb_in b ∙ m)
    ∙ ap (λ (x : List ℕ). failed {A = Statement} (fault_without_verb words x (word_of (behind_word words)))) a
    ∙ ap (λ (x : List ℕ). failed {A = Statement} (fault_without_verb words first x)) b

verbless_is : {words first second : List ℕ} → Verbless words first second → coded_of words ≡ Err (fault_without_verb words first second)
verbless_is (one_word first blanks m n k) =
    let s = none_behind blanks k in
    let a : word_of (first ++ blanks) ≡ first = front_again class.Mark first blanks m s in
    let b : word_of (behind_word (first ++ blanks)) ≡ [] =
    ap word_of (ap (rest_of class.Blank) (rest_again class.Mark first blanks m s) ∙ all_blank blanks k) in
    verbless_with (first ++ blanks) first [] a b n no_word
verbless_is (two_words first blanks second rest m n k some w more v s) =
    let words = first ++ (blanks ++ (second ++ rest)) in
    let two = two_again first blanks second rest m k some w more in
    verbless_with words first second two.0 (ap word_of two.1 ∙ front_again class.Mark second rest w s) n v

verbless_of : (words : List ℕ) → verb_in (word_of words) ≡ None → verb_in (word_of (behind_word words)) ≡ None
    → Verbless words (word_of words) (word_of (behind_word words))
verbless_of words n m =
    let rest = rest_of class.Mark words in
    let blanks = front_of class.Blank rest in
    let second = behind_word words in
    let none_then = λ (e : word_of second ≡ []).
    (let stop : Stops class.Mark second = subst (λ (t : List ℕ). Stops class.Mark t) (sym (parts class.Mark second
    ∙ ap (λ (t : List ℕ). t ++ rest_of class.Mark second) e)) (rest_stops class.Mark second) in
    both_stop second stop (rest_stops class.Blank rest)) in
    elim (cases_Bool (is_nothing (word_of second))) [
      | inl none ↦
          let e : word_of second ≡ [] = none_is (word_of second) none in
          let whole : words ≡ word_of words ++ blanks = parts class.Mark words
          ∙ ap (λ (t : List ℕ). word_of words ++ t) (parts class.Blank rest ∙ ap (λ (t : List ℕ). blanks ++ t) (none_then e) ∙ append-nil blanks) in
          subst (λ (t : List ℕ). Verbless words (word_of words) t) (sym e)
          (subst (λ (t : List ℕ). Verbless t (word_of words) []) (sym whole)
          (one_word (word_of words) blanks (front_all class.Mark words) n (front_all class.Blank rest)))
      | inr given ↦
          let more = not_none (word_of second) given in
          let some : blanks ≢ [] = blanks_before words (λ (nothing : second ≡ []). more (ap word_of nothing)) in
          subst (λ (t : List ℕ). Verbless t (word_of words) (word_of second)) (sym (two_are words))
          (two_words (word_of words) blanks (word_of second) (rest_of class.Mark second) (front_all class.Mark words) n (front_all class.Blank rest) some
          (front_all class.Mark second) more m (rest_stops class.Mark second))
    ]

name_cases : (first : List ℕ) → IsSome (name_of first) ⊎ (name_of first ≡ None)
name_cases first =
    elim (bad_name (name_of first)) [
      | inl n ↦ inl (ap is_some n.1)
      | inr n ↦ inr n.0
    ]

-- which of the faults it is
which : (words first second : List ℕ) → Verbless words first second → WordsFault words (fault_without_verb words first second)
unfolding fault_without_verb
which words first second v =
    elim (cases_Bool (are_plain words)) [
      | inr other ↦ rw other (byte_without_verb words first second v other)
      | inl plain ↦ elim (cases_Bool (is_nothing second)) [
        | inl none ↦ rw (plain, none) (no_verb words first second v plain (inl (none_is second none)))
        | inr some ↦ elim (name_cases first) [
          | inl n ↦ let k : is_some (name_of first) ≡ true = n in rw (plain, some, k) (no_verb words first second v plain (inr n))
          | inr n ↦ rw (plain, some, n) (bad_first_word words first second v plain (not_none second some) n)
        ]
      ]
    ]

-- ---- words

second_fault : (words : List ℕ) (o : Option Verb) (f : LineFault) → verb_in (word_of words) ≡ None → verb_in (word_of (behind_word words)) ≡ o
    → coded_of words ≡ Err f → WordsFault words f
second_fault words (Some verb) f n v e = let h = head_second words verb n v in head_fault (Some (word_of words)) f h (sym (head_is h) ∙ e)
second_fault words None f n v e =
    let b = verbless_of words n v in
    subst (λ (x : LineFault). WordsFault words x) (err_is (coded_of words) _ f (verbless_is b) e) (which words (word_of words) (word_of (behind_word words)) b)

first_fault : (words : List ℕ) (o : Option Verb) (f : LineFault) → verb_in (word_of words) ≡ o → coded_of words ≡ Err f → WordsFault words f
first_fault words (Some verb) f v e = let h = head_first words verb v in head_fault None f h (sym (head_is h) ∙ e)
first_fault words None f v e = second_fault words (verb_in (word_of (behind_word words))) f v refl e

words_fault : (words : List ℕ) (f : LineFault) → coded_of words ≡ Err f → WordsFault words f
words_fault words f e = first_fault words (verb_in (word_of words)) f refl e

bad_byte_is : (word : Option (List ℕ)) (verb : Verb) (kept : List ℕ) → (ArePlain word kept → ⊥) → at_head word verb kept ≡ Err faults.BadByte
bad_byte_is None verb kept u =
    elim (plain_cases (upper_of kept)) [
      | inl p ↦ absurd (u (record { first = tt; list = kept_plain kept p.0 }))
      | inr p ↦ step_off (plain_of (upper_of kept)) _ faults.BadByte p.1
    ]
bad_byte_is (Some word) verb kept u =
    elim (plain_cases word) [
      | inr w ↦ step_off (plain_of word) _ faults.BadByte w.1
      | inl w ↦ elim (plain_cases (upper_of kept)) [
        | inl p ↦ absurd (u (record { first = w.0; list = kept_plain kept p.0 }))
        | inr p ↦ step_on (plain_of word) _ word _ w.1 (step_off (plain_of (upper_of kept)) _ faults.BadByte p.1)
      ]
    ]

pub words_again : {words : List ℕ} {f : LineFault} → WordsFault words f → coded_of words ≡ Err f
unfolding fault_without_verb
words_again (byte_with_verb words word verb kept h u) = head_is h ∙ bad_byte_is word verb kept u
words_again (byte_without_verb words first second v p) = verbless_is v ∙ rw p refl
words_again (no_verb words first second v p (inl e)) = verbless_is v ∙ rw (p, e) refl
words_again (no_verb words first second v p (inr n)) = verbless_is v ∙ rw (p, or_right (is_nothing second) (is_some (name_of first)) n) refl
words_again (bad_first_word words first second v p some n) = verbless_is v ∙ rw (p, some_is_not second some, n) refl
words_again (bad_label words word verb kept h p b) =
    head_is h ∙ step_on (plain_of word) _ word _ (plain_again word p.first)
    (step_on (plain_of (upper_of kept)) _ (upper_of kept) _ (plain_again (upper_of kept) (are_plain_upper kept
    ∙ p.list)) (step_off (label_of verb word) _ faults.BadLabel (unlabelled verb word b)))
words_again (lacks_label words verb kept h p n) =
    head_is h ∙ step_on (plain_of (upper_of kept)) _ (upper_of kept) _ (plain_again (upper_of kept) (are_plain_upper kept
    ∙ p.list)) (step_off (no_label_of verb) _ faults.BadLabel (needed verb n))
words_again (faulty_body words word verb kept label f h p l o) =
    head_is h ∙ labelled_head kept p l ∙ step_off (body_of verb (upper_of kept)) _ f (body_fault_again o)

-- ---- lines

pub fault_found : (text : List ℕ) (f : LineFault) → statement_of text ≡ Err f → FirstFault text f
unfolding statement_of
fault_found text f e =
    elim (line_is text) [
      | is_long long given ↦ let h : failed {A = Statement} faults.TooLong ≡ Err f = rw given at e in
          subst (λ (x : LineFault). FirstFault text x) (err_is (failed {A = Statement} faults.TooLong) faults.TooLong f refl h) (too_long text long)
      | no_words cut remark given ↦ let h : failed {A = Statement} faults.UnknownVerb ≡ Err f = rw given at e in
          subst (λ (x : LineFault). FirstFault text x) (err_is (failed {A = Statement} faults.UnknownVerb) faults.UnknownVerb f refl h)
          (no_statement text (code_of text) cut remark)
      | has_words words has given ↦ in_words text words f has (words_fault words f (sym (words_are text words has) ∙ e))
    ]

pub fault_again : {text : List ℕ} {f : LineFault} → FirstFault text f → statement_of text ≡ Err f
unfolding statement_of line_of line_in
fault_again (too_long text h) = rw (lt-ltb 250 (length text) h) refl
fault_again (no_statement text code c r) = rw (short_again (length text) c.short, cut_is text code c, r) refl
fault_again (in_words text words f h w) = words_are text words h ∙ words_again w
