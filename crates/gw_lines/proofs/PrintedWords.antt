-- The words of a statement as they are printed: the label, the verb and what follows it.
use Rattle.std.proofs.Common.{◌≡◌, ℕ, ◌≤◌, ◌||◌, Bool, true, false, List, [], ◌∷◌, ◌++◌, length, Option, Some, None, refl, sym, ap, subst, ◌∙◌, inl, inr, arith}
use Rattle.std.specs.Prelude.{is_some, option_to_list}
use Rattle.std.specs.List.{list_all, join_with_byte}
use Rattle.std.specs.Str.{bytes_eq}
use Rattle.std.specs.Char.{is_ascii_alphabetic}
use Rattle.std.proofs.lemmas.Bool.{and_parts, cases_Bool}
use Rattle.std.proofs.lemmas.Bool.Decides.{nat_tests}
use Rattle.std.proofs.lemmas.List.{append-nil, length-append}
use Rattle.std.proofs.lemmas.Slice.Eq.{bytes_eq-Decides}
use Rattle.gw_names.specs.declared.verb.BlockVerb.TheVariants as blocks
use Rattle.gw_names.specs.declared.verb.DefinitionVerb.TheVariants as definitions
use Rattle.gw_names.specs.declared.verb.CommandVerb.TheVariants as commands
use Rattle.gw_names.specs.declared.verb.Verb.{Verb}
use Rattle.gw_names.specs.declared.verb.Verb.TheVariants as verbs
use Rattle.gw_names.specs.Words as words
use Rattle.gw_names.specs.Words.{upper_of, verb_of, is_class}
use Rattle.gw_names.specs.Names.{name_of, is_name_byte, is_name_text, is_barred}
use Rattle.gw_names.proofs.InUpperCase.{name_of_upper, length-upper_of, is_text}
use Rattle.gw_meaning.specs.Texts.{word_if_any}
use Rattle.gw_lines.specs.declared.class.Class.TheVariants as class
use Rattle.gw_lines.specs.Classes.{is_in, is_plain, are_plain}
use Rattle.gw_lines.specs.Lines.{verb_in}
use Rattle.gw_lines.specs.Listed.{behind_text}
use Rattle.gw_lines.specs.Spelling.{Follows, Head, first_word, second_word, Label, no_label, named, ArePlain}
use Rattle.gw_lines.proofs.Results.{found_so, some_is}
use Rattle.gw_lines.proofs.Bytes.{Takes, bytes_pass, named_passes}
use Rattle.gw_lines.proofs.KeptAgain.{follows_shorter, some_length}

-- ---- the words before the operands

abbrev pub begins_letter : List ℕ → Bool
begins_letter [] = false
begins_letter (b ∷ bs) = is_ascii_alphabetic b

-- whether a text is a verb's word, in letters
abbrev pub WordOf : Verb → Type 0
WordOf verb = (verb_in (words.word_of verb) ≡ Some verb) × (list_all is_name_byte (words.word_of verb) ≡ true)
    × (begins_letter (words.word_of verb) ≡ true)

pub verb_word : (verb : Verb) → WordOf verb
unfolding verb_of
verb_word (verbs.Block blocks.Generate) = (refl, refl, refl)
verb_word (verbs.Block blocks.Advance) = (refl, refl, refl)
verb_word (verbs.Block blocks.Terminate) = (refl, refl, refl)
verb_word (verbs.Block blocks.Seize) = (refl, refl, refl)
verb_word (verbs.Block blocks.Release) = (refl, refl, refl)
verb_word (verbs.Block blocks.Enter) = (refl, refl, refl)
verb_word (verbs.Block blocks.Leave) = (refl, refl, refl)
verb_word (verbs.Block blocks.Queue) = (refl, refl, refl)
verb_word (verbs.Block blocks.Depart) = (refl, refl, refl)
verb_word (verbs.Block blocks.Transfer) = (refl, refl, refl)
verb_word (verbs.Block blocks.Test) = (refl, refl, refl)
verb_word (verbs.Block blocks.Gate) = (refl, refl, refl)
verb_word (verbs.Block blocks.Logic) = (refl, refl, refl)
verb_word (verbs.Block blocks.Assign) = (refl, refl, refl)
verb_word (verbs.Block blocks.Savevalue) = (refl, refl, refl)
verb_word (verbs.Block blocks.Mark) = (refl, refl, refl)
verb_word (verbs.Block blocks.Buffer) = (refl, refl, refl)
verb_word (verbs.Block blocks.Priority) = (refl, refl, refl)
verb_word (verbs.Block blocks.Tabulate) = (refl, refl, refl)
verb_word (verbs.Block blocks.Link) = (refl, refl, refl)
verb_word (verbs.Block blocks.Unlink) = (refl, refl, refl)
verb_word (verbs.Block blocks.Split) = (refl, refl, refl)
verb_word (verbs.Block blocks.Loop) = (refl, refl, refl)
verb_word (verbs.Definition definitions.Storage) = (refl, refl, refl)
verb_word (verbs.Definition definitions.Table) = (refl, refl, refl)
verb_word (verbs.Definition definitions.Variable) = (refl, refl, refl)
verb_word (verbs.Definition definitions.Equ) = (refl, refl, refl)
verb_word (verbs.Definition definitions.Function) = (refl, refl, refl)
verb_word (verbs.Command commands.Start) = (refl, refl, refl)
verb_word (verbs.Command commands.Reset) = (refl, refl, refl)
verb_word (verbs.Command commands.Clear) = (refl, refl, refl)
verb_word (verbs.Command commands.Rmult) = (refl, refl, refl)

-- the word that is a verb has the verb's letters
pub verb_letters : (word : List ℕ) (verb : Verb) → verb_in word ≡ Some verb → words.word_of verb ≡ upper_of word
unfolding verb_of
verb_letters word verb e =
    (bytes_eq-Decides (words.word_of verb) (upper_of word)).0
    (found_so (λ v. bytes_eq (words.word_of v) (upper_of word)) words.verbs verb e)

pub verb_length : (word : List ℕ) (verb : Verb) → verb_in word ≡ Some verb → length (words.word_of verb) ≡ length word
verb_length word verb e = ap length (verb_letters word verb e) ∙ length-upper_of word

pub record IsName (text name : List ℕ) : Type 0 where
  pub again : name_of name ≡ Some name
  pub upper : name ≡ upper_of text
  pub begins : begins_letter name ≡ true
  pub no_verb : verb_in name ≡ None

pub text_begins : (text : List ℕ) → is_name_text text ≡ true → begins_letter text ≡ true
text_begins [] h = absurd cc
text_begins (b ∷ bs) h = (and_parts (is_ascii_alphabetic b) _ h).0

pub none_there : (o : Option Verb) (rest : Bool) → (is_some o || rest) ≡ false → o ≡ None
none_there None rest h = refl
none_there (Some verb) rest h = absurd cc

pub name_is : (text name : List ℕ) → name_of text ≡ Some name → is_barred (upper_of text) ≡ false → name ≡ upper_of text
unfolding name_of
name_is text name e free = let h = is_text text name e in sym (some_is (upper_of text) name (rw (h, free) at e))

pub not_barred : (text name : List ℕ) → name_of text ≡ Some name → is_barred (upper_of text) ≡ false
unfolding name_of
not_barred text name e =
    elim (cases_Bool (is_barred (upper_of text))) [
      | inl barred ↦ absurd (let h = is_text text name e in let f = rw (h, barred) at e in cc)
      | inr free ↦ free
    ]

pub is_name : (text name : List ℕ) → name_of text ≡ Some name → IsName text name
is_name text name e =
    let free = not_barred text name e in
    let is = name_is text name e free in
    let again : name_of name ≡ Some name = subst (λ (n : List ℕ). name_of n ≡ Some n) (sym is) (name_of_upper text (is_text text name e) free) in
    record {
      again = again;
      upper = is;
      begins = text_begins name (is_text name name again);
      no_verb = none_there (verb_in name) (is_class (upper_of name)) (not_barred name name again);
    }

pub name_length : (text name : List ℕ) → name_of text ≡ Some name → length name ≡ length text
name_length text name e = let n = is_name text name e in ap length n.upper ∙ length-upper_of text

-- ---- the words as they are printed

abbrev pub printed : Option (List ℕ) → Verb → List ℕ → List ℕ
printed None verb operands = words.word_of verb ++ behind_text operands
printed (Some label) verb operands = label ++ ((32 ∷ []) ++ (words.word_of verb ++ behind_text operands))

pub tail_is : (word operands : List ℕ) → join_with_byte 32 (word ∷ word_if_any operands) ≡ word ++ behind_text operands
tail_is word [] = sym (append-nil word)
tail_is word (b ∷ bs) = refl

pub printed_is : (label : Option (List ℕ)) (verb : Verb) (operands : List ℕ)
    → join_with_byte 32 (option_to_list label ++ words.word_of verb ∷ word_if_any operands) ≡ printed label verb operands
printed_is None verb operands = tail_is (words.word_of verb) operands
printed_is (Some label) verb operands = ap (λ (t : List ℕ). label ++ 32 ∷ t) (tail_is (words.word_of verb) operands)

pub marks : Takes (is_in class.Mark)
marks = record { name = mark_name; dollar = refl }
  where
    mark_name : (b : ℕ) → is_name_byte b ≡ true → is_in class.Mark b ≡ true
    mark_name b h = grind (arith, nat_tests)

pub plains : Takes is_plain
plains = record { name = plain_name; dollar = refl }
  where
    plain_name : (b : ℕ) → is_name_byte b ≡ true → is_plain b ≡ true
    plain_name b h = grind (arith, nat_tests)

pub head_again : {word label : Option (List ℕ)} {verb : Verb} (operands : List ℕ) → Label word verb label → Follows verb (behind_text operands) operands
    → Head (printed label verb operands) label verb operands
head_again operands (no_label verb free) follows =
    let w = verb_word verb in
    first_word (words.word_of verb) (behind_text operands) verb operands (bytes_pass marks (words.word_of verb) w.1) w.0 follows
head_again operands (named before verb label c e) follows =
    let w = verb_word verb in
    let i = is_name before label e in
    second_word label (32 ∷ []) (words.word_of verb) (behind_text operands) verb operands (named_passes marks label label i.again)
    i.no_verb refl (λ e. absurd cc) (bytes_pass marks (words.word_of verb) w.1) w.0 follows

pub label_again : {word label : Option (List ℕ)} {verb : Verb} → Label word verb label → Label label verb label
label_again (no_label verb free) = no_label verb free
label_again (named word verb label c e) = let i = is_name word label e in named label verb label c i.again

pub plain_again : {word label : Option (List ℕ)} {verb : Verb} (operands : List ℕ) → Label word verb label → are_plain operands ≡ true
    → ArePlain label operands
plain_again operands (no_label verb free) p = record { first = tt; list = p }
plain_again operands (named word verb label c e) p =
    let i = is_name word label e in
    record { first = named_passes plains label label i.again; list = p }

pub head_shorter : {text kept : List ℕ} {word label : Option (List ℕ)} {verb : Verb} → Head text word verb kept → Label word verb label
    → length (printed label verb (upper_of kept)) ≤ length text
head_shorter (first_word word behind verb kept m v b) (no_label _ free) =
    let h = verb_length word verb v in
    let k = follows_shorter b in
    let e = length-append word behind in
    let f = length-append (words.word_of verb) (behind_text (upper_of kept)) in omega arith
head_shorter (second_word before blanks word behind verb kept m n s some m2 v b) (named _ _ label c e) =
    let h = verb_length word verb v in
    let i = name_length before label e in
    let k = follows_shorter b in
    let d = some_length blanks some in
    let e1 = length-append before (blanks ++ (word ++ behind)) in
    let e2 = length-append blanks (word ++ behind) in
    let e3 = length-append word behind in
    let f1 = length-append label ((32 ∷ []) ++ (words.word_of verb ++ behind_text (upper_of kept))) in
    let f2 = length-append (words.word_of verb) (behind_text (upper_of kept)) in omega arith
