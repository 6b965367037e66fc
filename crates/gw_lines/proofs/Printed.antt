-- What `list` prints of a statement that was read spells it again.
use Rattle.std.proofs.Common.{◌≡◌, ◌≢◌, ℕ, ◌≤◌, ◌==◌, Bool, true, false, not, List, [], ◌∷◌, ◌++◌, length, Option, Some, None, refl, sym, ap, subst, ◌∙◌, arith, append_assoc}
use Rattle.std.specs.List.{list_all}
use Rattle.std.specs.Char.{is_ascii_alphabetic, is_ascii_digit}
use Rattle.std.proofs.lemmas.Bool.{and_parts, not-true}
use Rattle.std.proofs.lemmas.Bool.Decides.{nat_tests}
use Rattle.std.proofs.lemmas.List.{append-nil, length-append, map-append}
use Rattle.gw_names.specs.declared.verb.DefinitionVerb.TheVariants as definition_verbs
use Rattle.gw_names.specs.declared.verb.Verb.{Verb}
use Rattle.gw_names.specs.declared.verb.Verb.TheVariants as verbs
use Rattle.gw_names.specs.Words as words
use Rattle.gw_names.specs.Words.{upper_of, verb_of, is_class}
use Rattle.gw_names.proofs.InUpperCase.{upper_of-upper_of, length-upper_of}
use Rattle.gw_meaning.specs.declared.auxiliary.Auxiliary.{Auxiliary}
use Rattle.gw_meaning.specs.declared.statement.Definition.TheVariants as definitions
use Rattle.gw_meaning.specs.declared.statement.Body.{Body}
use Rattle.gw_meaning.specs.declared.statement.Body.TheVariants as bodies
use Rattle.gw_meaning.specs.declared.statement.Statement.{Statement}
use Rattle.gw_meaning.specs.Statements.{verb_of_body}
use Rattle.gw_meaning.specs.Texts.{text_of}
use Rattle.gw_lines.specs.declared.class.Class.TheVariants as class
use Rattle.gw_lines.specs.Classes.{is_in, is_blank, are_plain, with_byte}
use Rattle.gw_lines.specs.declared.form.Form.{Form}
use Rattle.gw_lines.specs.declared.operand.Operand.{Operand}
use Rattle.gw_lines.specs.Forms.{one_value, some_points, forms_of}
use Rattle.gw_lines.specs.Parts.{part_of, is_given}
use Rattle.gw_lines.specs.Auxiliaries.{auxiliary_of, bare_parts}
use Rattle.gw_lines.specs.Listed.{behind_text}
use Rattle.gw_lines.specs.Pairs.{wants_in, wants_pairs}
use Rattle.gw_lines.specs.Lines.{is_remark}
use Rattle.gw_lines.specs.Models.{lines_of}
use Rattle.gw_lines.specs.Edits.{edit_lines}
use Rattle.gw_lines.specs.Whole.{OfLines, no_lines, remark_line, statement_lines}
use Rattle.gw_lines.specs.Points.{HasText, HasPairs, Completes, complete, past_remark, past_pairs, SpellsLines, spells_lines}
use Rattle.gw_lines.specs.Spelling as spelling
use Rattle.gw_lines.specs.Spelling.{Stops, Digits, first_digit, next_digit, Value, without_sign, with_sign, Rank, Multiplies, times, quotient, remainder, Adds, plus, minus, SpellsExpression, a_single, with_minus, in_parentheses, a_factor, multiplied, a_product, summed, SpellsOperand, absent, a_value, a_constant, named_value, attribute_value, computed_value, a_whole, a_key, named_entity, numbered_entity, attribute_entity, computed_entity, a_fraction, a_label, a_definition, a_table, an_expression, continuous, discrete, SpellsAll, no_form, stands, unwritten, is_part, Part, nothing, mark, opening, closing, stray, inner_comma, inner_blank, Written, none_written, last_written, never_closed, more_written, Follows, Head, first_word, second_word, Label, no_label, named, ArePlain, Numbering, unnumbered, Says, Cut, HasWords, Coded, Spells}
use Rattle.std.specs.Prelude.{All}
use Rattle.std.proofs.lemmas.List.Elements.{All-cons, All-head, All-nil, All-tail}
use Rattle.gw_lines.specs.Printed.{IsSpelled, ModelsAreSpelled, with_ends, listed_text, PrintedSpells, PrintedEdits, PrintedModels}
use Rattle.gw_lines.proofs.Bytes.{Pass, both_pass, next_passes, bytes_pass, named_passes}
use Rattle.gw_lines.proofs.Heads.{are_plain_upper}
use Rattle.gw_lines.proofs.OwnBytes.{is_own, operands_own, own, spelled_own}
use Rattle.gw_lines.proofs.KeptAgain.{follows_again, written_again, written_shorter}
use Rattle.gw_lines.proofs.Pieces as pieces
use Rattle.gw_lines.proofs.PairBytes.{TakesNumbers, pairs_pass, pairs_own}
use Rattle.gw_lines.proofs.PairsRead.{some_pairs}
use Rattle.gw_names.specs.Names.{is_name_byte}
use Rattle.gw_lines.proofs.Results.{some, some_is}
use Rattle.gw_lines.proofs.PrintedWords.{marks, begins_letter, head_again, head_shorter, is_name, label_again, plain_again, printed, printed_is, verb_word}

-- ---- the line

pub behind_own : (text : List ℕ) → Pass is_own text → Pass is_own (behind_text text)
behind_own [] h = refl
behind_own (b ∷ bs) h = next_passes is_own 32 (b ∷ bs) refl h

pub verb_own : (verb : Verb) (operands : List ℕ) → Pass is_own operands → Pass is_own (words.word_of verb ++ behind_text operands)
verb_own verb operands h =
    let w = verb_word verb in
    both_pass is_own (words.word_of verb) (behind_text operands) (bytes_pass own (words.word_of verb) w.1) (behind_own operands h)

pub printed_own : {word label : Option (List ℕ)} {verb : Verb} (operands : List ℕ) → Label word verb label → Pass is_own operands
    → Pass is_own (printed label verb operands)
printed_own operands (no_label verb free) h = verb_own verb operands h
printed_own operands (named word verb label c e) h =
    let i = is_name word label e in
    both_pass is_own label ((32 ∷ []) ++ (words.word_of verb ++ behind_text operands)) (named_passes own label label i.again)
    (next_passes is_own 32 (words.word_of verb ++ behind_text operands) refl (verb_own verb operands h))

pub begins_both : (a b : List ℕ) → begins_letter a ≡ true → begins_letter (a ++ b) ≡ true
begins_both [] b h = absurd cc
begins_both (c ∷ cs) b h = h

pub printed_begins : {word label : Option (List ℕ)} {verb : Verb} (operands : List ℕ) → Label word verb label
    → begins_letter (printed label verb operands) ≡ true
printed_begins operands (no_label verb free) = let w = verb_word verb in begins_both (words.word_of verb) (behind_text operands) w.2
printed_begins operands (named word verb label c e) = let i = is_name word label e in begins_both label _ i.begins

pub letter_no_remark : (text : List ℕ) → begins_letter text ≡ true → is_remark text ≡ false
letter_no_remark [] h = absurd cc
letter_no_remark (b ∷ bs) h = grind (arith, nat_tests)

pub letter_no_digit : (text : List ℕ) → begins_letter text ≡ true → Stops class.Digit text
letter_no_digit [] h = tt
letter_no_digit (b ∷ bs) h = no_digit b h
  where
    no_digit : (b : ℕ) → is_ascii_alphabetic b ≡ true → is_ascii_digit b ≡ false
    no_digit b h = grind (arith, nat_tests)

pub letter_no_blank : (text : List ℕ) → begins_letter text ≡ true → Stops class.Blank text
letter_no_blank [] h = tt
letter_no_blank (b ∷ bs) h = no_blank b h
  where
    no_blank : (b : ℕ) → is_ascii_alphabetic b ≡ true → is_blank b ≡ false
    no_blank b h = grind (arith, nat_tests)

pub own_is : (p : ℕ → Bool) → ((b : ℕ) → is_own b ≡ true → p b ≡ true) → (text : List ℕ) → Pass is_own text → Pass p text
own_is p is [] h = refl
own_is p is (b ∷ bs) h =
    let a = and_parts (is_own b) (list_all is_own bs) h in next_passes p b bs (is b a.0) (own_is p is bs a.1)

pub own_code : (b : ℕ) → is_own b ≡ true → is_in class.Code b ≡ true
own_code b h = (and_parts (not (b == 59)) _ h).0

pub words_again : (text : List ℕ) → Pass is_own text → begins_letter text ≡ true → length text ≤ 250 → HasWords text text
words_again text h begins short =
    record {
      code = text;
      cut = record {
        blanks = [];
        comment = [];
        parts = sym (append-nil text);
        are_blanks = refl;
        is_code = own_is (is_in class.Code) own_code text h;
        is_comment = tt;
        begins = subst (λ (t : List ℕ). Stops class.Blank t) (sym (append-nil text)) (letter_no_blank text begins);
        short = short;
      };
      is_statement = letter_no_remark text begins;
      numbering = unnumbered [] text refl (letter_no_digit text begins) (letter_no_blank text begins);
    }

pub cut_shorter : {text code : List ℕ} → Cut text code → length code ≤ 250
cut_shorter {text} {code} c =
    let e = ap length c.parts in
    let f = length-append c.blanks (code ++ c.comment) in
    let g = length-append code c.comment in
    let s = c.short in omega arith

pub numbering_shorter : {code words : List ℕ} → Numbering code words → length words ≤ length code
numbering_shorter (unnumbered digits rest h d b) = omega arith
numbering_shorter (spelling.numbered digits blanks rest h some k others b) =
    let e = length-append digits (blanks ++ rest) in
    let f = length-append blanks rest in omega arith

-- a statement whose parts are what `list` prints of them
pub record IsStated (s : Statement) (verb : Verb) : Type 0 where
  pub word : Option (List ℕ)
  pub label : Label word verb s.label
  pub follows : Follows verb (behind_text s.operands) s.operands
  pub upper : upper_of s.operands ≡ s.operands
  pub plain : are_plain s.operands ≡ true
  pub auxiliary : Auxiliary
  pub is_auxiliary : auxiliary_of verb s.operands ≡ Some auxiliary
  pub body : Says verb auxiliary (bare_parts verb s.operands) s.body
  pub short : length (printed s.label verb s.operands) ≤ 250

-- a statement that is spelled by what `list` prints of it
pub record IsPrinted (s : Statement) : Type 0 where
  pub own_bytes : Pass is_own (text_of s)
  pub begins : begins_letter (text_of s) ≡ true
  pub spells : Spells (text_of s) s

pub is_printed : (s : Statement) (verb : Verb) → IsStated s verb → IsPrinted s
is_printed s verb stated =
    let e : text_of s ≡ printed s.label verb s.operands =
    printed_is s.label (verb_of_body s.body) s.operands ∙ ap (λ (v : Verb). printed s.label v s.operands) stated.body.of_verb in
    let listed : Pass is_own s.operands = operands_own verb s.operands stated.is_auxiliary (spelled_own stated.body.operands) in
    let own_bytes = subst (Pass is_own) (sym e) (printed_own s.operands stated.label listed) in
    let begins = subst (λ (t : List ℕ). begins_letter t ≡ true) (sym e) (printed_begins s.operands stated.label) in
    let short = subst (λ (t : List ℕ). length t ≤ 250) (sym e) stated.short in
    record {
      own_bytes = own_bytes;
      begins = begins;
      spells = record {
        words = text_of s;
        has_words = words_again (text_of s) own_bytes begins short;
        coded = record {
          word = s.label;
          verb = verb;
          kept = s.operands;
          head = subst (λ (t : List ℕ). Head t s.label verb s.operands) (sym e) (head_again s.operands stated.label stated.follows);
          plain = plain_again s.operands stated.label stated.plain;
          label = label_again stated.label;
          listed = sym stated.upper;
          auxiliary = stated.auxiliary;
          is_auxiliary = stated.is_auxiliary;
          body = stated.body;
        };
      };
    }

-- ---- a statement that a line spells

pub as_listed : {text : List ℕ} {word : Option (List ℕ)} {verb : Verb} {kept : List ℕ} → Head text word verb kept
    → Follows verb (behind_text (upper_of kept)) (upper_of kept)
as_listed (first_word word behind verb kept m v b) = follows_again b
as_listed (second_word label blanks word behind verb kept m n k some m2 v b) = follows_again b

pub spelled_is : (line : List ℕ) (s : Statement) → Spells line s → IsPrinted s
spelled_is line s spelled =
    let c = spelled.coded in
    let again : upper_of s.operands ≡ s.operands = ap upper_of c.listed ∙ upper_of-upper_of c.kept ∙ sym c.listed in
    let a = head_shorter c.head c.label in
    let b = numbering_shorter spelled.has_words.numbering in
    let d = cut_shorter spelled.has_words.cut in
    let short : length (printed s.label c.verb (upper_of c.kept)) ≤ 250 = omega arith in
    is_printed s c.verb (record {
      word = c.word;
      label = c.label;
      follows = subst (λ (o : List ℕ). Follows c.verb (behind_text o) o) (sym c.listed) (as_listed c.head);
      upper = again;
      plain = ap are_plain c.listed ∙ are_plain_upper c.kept ∙ c.plain.list;
      auxiliary = c.auxiliary;
      is_auxiliary = c.is_auxiliary;
      body = c.body;
      short = subst (λ (o : List ℕ). length (printed s.label c.verb o) ≤ 250) (sym c.listed) short;
    })

-- ---- a line of pairs

mark_bytes : TakesNumbers (is_in class.Mark)
mark_bytes = record { takes = marks; point = refl; minus = refl }

star_bytes : TakesNumbers (λ b. not (b == 42))
star_bytes = record { takes = record { name = named_no_star; dollar = refl }; point = refl; minus = refl }
  where
    named_no_star : (b : ℕ) → is_name_byte b ≡ true → not (b == 42) ≡ true
    named_no_star b h = grind (arith, nat_tests)

marks_begin : (text : List ℕ) → Pass (is_in class.Mark) text → Stops class.Blank text
marks_begin [] h = tt
marks_begin (b ∷ bs) h = not-true (is_blank b) (and_parts (not (is_blank b)) (list_all (is_in class.Mark) bs) h).0

no_remark : (text : List ℕ) → text ≢ [] → Pass (λ b. not (b == 42)) text → is_remark text ≡ false
no_remark [] some h = absurd (some refl)
no_remark (b ∷ bs) some h = not-true (b == 42) (and_parts (not (b == 42)) (list_all (λ c. not (c == 42)) bs) h).0

text_again : {s t : Statement} {line : List ℕ} (a : HasPairs s line t) → HasText a.text a.text
text_again a =
    let has = a.has_text in
    let text = a.text in
    let upper : upper_of text ≡ text = ap upper_of has.upper ∙ upper_of-upper_of has.kept ∙ sym has.upper in
    let b = written_shorter has.written in
    let c = cut_shorter has.cut in
    let d : length text ≡ length has.kept = ap length has.upper ∙ length-upper_of has.kept in
    let begins : Stops class.Blank text = marks_begin text (pairs_pass mark_bytes refl refl a.pairs) in
    record {
      code = text;
      cut = record {
        blanks = [];
        comment = [];
        parts = sym (append-nil text);
        are_blanks = refl;
        is_code = own_is (is_in class.Code) own_code text (pairs_own a.pairs);
        is_comment = tt;
        begins = subst (λ (t : List ℕ). Stops class.Blank t) (sym (append-nil text)) begins;
        short = omega arith;
      };
      is_text = no_remark text (some_pairs a.pairs) (pairs_pass star_bytes refl refl a.pairs);
      kept = text;
      written = subst (λ (t : List ℕ). Written t t) (sym has.upper) (written_again has.written);
      upper = sym upper;
    }

adds_again : {s t : Statement} {line : List ℕ} (a : HasPairs s line t) → HasPairs s a.text t
adds_again a = record {
  text = a.text;
  has_text = text_again a;
  plain = a.plain;
  function = a.function;
  is_function = a.is_function;
  points = a.points;
  pairs = a.pairs;
  is = a.is;
}

-- ---- all lines

-- texts with a `|` before each
abbrev barred : List (List ℕ) → List ℕ
barred [] = []
barred (text ∷ texts) = 124 ∷ (text ++ barred texts)

-- texts that are not empty and have neither a comment nor a line end
abbrev AreTexts : List (List ℕ) → Type 0
AreTexts [] = Unit {0}
AreTexts (text ∷ texts) = Pass is_own text × (text ≢ []) × AreTexts texts

-- the lines after a statement's first one, as they are listed
record BehindFirst (s t : Statement) : Type 0 where
  texts : List (List ℕ)
  are_texts : AreTexts texts
  completes : Completes s texts t
  operands : t.operands ≡ s.operands ++ barred texts
  label : t.label ≡ s.label
  verb : verb_of_body t.body ≡ verb_of_body s.body

behind_of : {s t : Statement} {own_lines : List (List ℕ)} → Completes s own_lines t → BehindFirst s t
behind_of (complete s whole) =
    record { texts = []; are_texts = tt; completes = complete s whole; operands = sym (append-nil s.operands); label = refl; verb = refl }
behind_of (past_remark s line own_lines t wants r c) = behind_of c
behind_of (past_pairs s line own_lines more t wants a c) =
    let b = behind_of c in
    let o : more.operands ≡ s.operands ++ 124 ∷ a.text = ap (λ (x : Statement). x.operands) a.is in
    record {
      texts = a.text ∷ b.texts;
      are_texts = (pairs_own a.pairs, some_pairs a.pairs, b.are_texts);
      completes = past_pairs s a.text b.texts more t wants (adds_again a) b.completes;
      operands = b.operands ∙ ap (λ (x : List ℕ). x ++ barred b.texts) o ∙ append_assoc s.operands (124 ∷ a.text) (barred b.texts);
      label = b.label ∙ ap (λ (x : Statement). x.label) a.is;
      verb = b.verb ∙ ap (λ (x : Statement). verb_of_body x.body) a.is ∙ ap verb_of_body (sym a.is_function);
    }

-- ---- a FUNCTION has operands

first_given : {forms : List Form} {parts : List (List ℕ)} {os : List (Option Operand)} → SpellsAll (one_value ∷ forms) parts os
    → part_of parts ≡ [] → ⊥
first_given (stands form forms parts o os listed given here others) e = absurd (let f = rw e at given in cc)
first_given (unwritten form forms os w others) e = absurd cc

verb_with : {verb : Verb} {beside : Auxiliary} {parts : List (List ℕ)} {body : Body} → Says verb beside parts body → wants_in body ≡ true
    → verb ≡ verbs.Definition definition_verbs.Function
verb_with {body = bodies.Definition (definitions.Function f)} s wants = sym s.of_verb
verb_with {body = body} s wants = absurd cc

forms_are : (forms : List Form) → some (one_value ∷ some_points ∷ []) ≡ Some forms → one_value ∷ some_points ∷ [] ≡ forms
forms_are forms e = some_is (one_value ∷ some_points ∷ []) forms e

given_with : {verb : Verb} {beside : Auxiliary} {parts : List (List ℕ)} {body : Body} → Says verb beside parts body
    → verb ≡ verbs.Definition definition_verbs.Function → part_of parts ≡ [] → ⊥
given_with {verb} {beside} {parts} s is none =
    let e = ap (λ (v : Verb). forms_of v beside (is_given parts)) (sym is) ∙ s.are_forms in
    first_given (subst (λ (forms : List Form). SpellsAll forms parts _) (sym (forms_are s.forms e)) s.operands) none

some_operands : {line : List ℕ} {s : Statement} → Spells line s → wants_pairs s ≡ true → s.operands ≢ []
some_operands {line} {s} spelled wants none =
    let c = spelled.coded in
    let is = verb_with c.body wants in
    given_with c.body is (ap (λ (v : Verb). part_of (bare_parts v s.operands)) is
    ∙ ap (λ (o : List ℕ). part_of (bare_parts (verbs.Definition definition_verbs.Function) o)) none)

-- ---- what is printed

behind_both : (operands more : List ℕ) → operands ≢ [] → behind_text (operands ++ more) ≡ behind_text operands ++ more
behind_both [] more some = absurd (some refl)
behind_both (b ∷ bs) more some = refl

unlabelled_more : (verb : Verb) (operands more : List ℕ) → operands ≢ []
    → printed None verb (operands ++ more) ≡ printed None verb operands ++ more
unlabelled_more verb operands more some =
    ap (λ (t : List ℕ). words.word_of verb ++ t) (behind_both operands more some) ∙ sym (append_assoc (words.word_of verb) (behind_text operands) more)

printed_more : (label : Option (List ℕ)) (verb : Verb) (operands more : List ℕ) → operands ≢ []
    → printed label verb (operands ++ more) ≡ printed label verb operands ++ more
printed_more None verb operands more some = unlabelled_more verb operands more some
printed_more (Some label) verb operands more some =
    ap (λ (t : List ℕ). label ++ 32 ∷ t) (unlabelled_more verb operands more some)
    ∙ sym (append_assoc label (32 ∷ (words.word_of verb ++ behind_text operands)) more)

text_is : (s : Statement) → text_of s ≡ printed s.label (verb_of_body s.body) s.operands
text_is s = printed_is s.label (verb_of_body s.body) s.operands

text_with : {s t : Statement} (b : BehindFirst s t) → s.operands ≢ [] → text_of t ≡ text_of s ++ barred b.texts
text_with {s} {t} b some =
    text_is t ∙ ap (λ (l : Option (List ℕ)). printed l (verb_of_body t.body) t.operands) b.label
    ∙ ap (λ (v : Verb). printed s.label v t.operands) b.verb ∙ ap (printed s.label (verb_of_body s.body)) b.operands
    ∙ printed_more s.label (verb_of_body s.body) s.operands (barred b.texts) some
    ∙ ap (λ (x : List ℕ). x ++ barred b.texts) (sym (text_is s))

-- a statement as it is printed: its first line, and those of its pairs
record IsListed (s : Statement) : Type 0 where
  first : List ℕ
  texts : List (List ℕ)
  is : text_of s ≡ first ++ barred texts
  own_first : Pass is_own first
  some_first : first ≢ []
  are_texts : AreTexts texts
  spells : SpellsLines (first ∷ texts) s

some_text : (text : List ℕ) → begins_letter text ≡ true → text ≢ []
some_text text h e = absurd (let f : begins_letter [] ≡ true = ap begins_letter (sym e) ∙ h in cc)

listed_more : {line : List ℕ} {s t : Statement} → Spells line s → wants_pairs s ≡ true → BehindFirst s t → IsListed t
listed_more {line} {s} {t} spelled wants b =
    let p = spelled_is line s spelled in
    record {
      first = text_of s;
      texts = b.texts;
      is = text_with b (some_operands spelled wants);
      own_first = p.own_bytes;
      some_first = some_text (text_of s) p.begins;
      are_texts = b.are_texts;
      spells = spells_lines (text_of s) b.texts s t p.spells b.completes;
    }

listed_by : {line : List ℕ} {s t : Statement} {own_lines : List (List ℕ)} → Spells line s → Completes s own_lines t → IsListed t
listed_by {line} spelled (complete s whole) =
    let p = spelled_is line s spelled in
    record {
      first = text_of s;
      texts = [];
      is = sym (append-nil (text_of s));
      own_first = p.own_bytes;
      some_first = some_text (text_of s) p.begins;
      are_texts = tt;
      spells = spells_lines (text_of s) [] s s p.spells (complete s whole);
    }
listed_by spelled (past_remark s line own_lines t wants r c) = listed_more spelled wants (behind_of (past_remark s line own_lines t wants r c))
listed_by spelled (past_pairs s line own_lines more t wants a c) = listed_more spelled wants (behind_of (past_pairs s line own_lines more t wants a c))

listed_is : {lines : List (List ℕ)} {s : Statement} → SpellsLines lines s → IsListed s
listed_is (spells_lines line own_lines s t spelled c) = listed_by spelled c

-- no `|` stands in what is printed of a statement of one line
no_bar : (b : ℕ) → is_own b ≡ true → not (b == 124) ≡ true
no_bar b h = grind (arith, nat_tests)

pub printed_spells : PrintedSpells
printed_spells line s spelled =
    let p = spelled_is line s spelled in (p.spells, own_is (λ b. not (b == 124)) no_bar (text_of s) p.own_bytes)

-- ---- the text of an edit

part_bytes : (text : List ℕ) → Pass is_own text → Pass (is_in class.Part) text
part_bytes text h = own_is (is_in class.Part) no_bar text h

bars_apart : (first : List ℕ) (texts : List (List ℕ)) → Pass is_own first → first ≢ [] → AreTexts texts
    → edit_lines (first ++ barred texts) ≡ first ∷ texts
bars_apart first [] h some are = ap edit_lines (append-nil first) ∙ pieces.alone class.Part first (part_bytes first h) some
bars_apart first (text ∷ texts) h some are =
    pieces.before class.Part first 124 (text ++ barred texts) (part_bytes first h) refl
    ∙ ap (λ (ls : List (List ℕ)). first ∷ ls) (bars_apart text texts are.0 are.1 are.2)

pub printed_edits : PrintedEdits
printed_edits s (lines, spelled) =
    let l = listed_is spelled in
    subst (λ (ls : List (List ℕ)). SpellsLines ls s) (sym (ap edit_lines l.is ∙ bars_apart l.first l.texts l.own_first l.some_first l.are_texts)) l.spells

-- ---- a model

pub record NoEnd (b : ℕ) : Type 0 where
  pub bar : (b == 124) ≡ false
  pub feed : (b == 10) ≡ false
  pub carriage : (b == 13) ≡ false

pub no_end : (b : ℕ) → is_own b ≡ true → NoEnd b
no_end b h = record { bar = grind (arith, nat_tests); feed = grind (arith, nat_tests); carriage = grind (arith, nat_tests) }

line_on : (b : ℕ) (bs : List ℕ) → (b == 10) ≡ false → (b == 13) ≡ false → lines_of (b ∷ bs) ≡ with_byte b (lines_of bs)
line_on b bs feed carriage = rw (feed, carriage) refl

first_line : (text rest : List ℕ) → Pass is_own text → lines_of (text ++ 10 ∷ rest) ≡ text ∷ lines_of rest
first_line [] rest h = refl
first_line (b ∷ bs) rest h =
    let a = and_parts (is_own b) (list_all is_own bs) h in
    let n = no_end b a.0 in
    line_on b (bs ++ 10 ∷ rest) n.feed n.carriage ∙ ap (with_byte b) (first_line bs rest a.1)

no_ends : (text : List ℕ) → Pass is_own text → with_ends text ≡ text
no_ends [] h = refl
no_ends (b ∷ bs) h =
    let a = and_parts (is_own b) (list_all is_own bs) h in
    let n = no_end b a.0 in
    rw n.bar (ap (λ (t : List ℕ). b ∷ t) (no_ends bs a.1))

both_ends : (a b : List ℕ) → with_ends (a ++ b) ≡ with_ends a ++ with_ends b
both_ends a b = map-append _ a b

ends_apart : (first : List ℕ) (texts : List (List ℕ)) (rest : List ℕ) → Pass is_own first → AreTexts texts
    → lines_of (with_ends (first ++ barred texts) ++ 10 ∷ rest) ≡ first ∷ (texts ++ lines_of rest)
ends_apart first [] rest h are =
    ap (λ (t : List ℕ). lines_of (with_ends t ++ 10 ∷ rest)) (append-nil first)
    ∙ ap (λ (t : List ℕ). lines_of (t ++ 10 ∷ rest)) (no_ends first h) ∙ first_line first rest h
ends_apart first (text ∷ texts) rest h are =
    let e : with_ends (first ++ barred (text ∷ texts)) ≡ first ++ 10 ∷ with_ends (text ++ barred texts) =
    both_ends first (barred (text ∷ texts)) ∙ ap (λ (t : List ℕ). t ++ with_ends (barred (text ∷ texts))) (no_ends first h) in
    ap (λ (t : List ℕ). lines_of (t ++ 10 ∷ rest)) e
    ∙ ap lines_of (append_assoc first (10 ∷ with_ends (text ++ barred texts)) (10 ∷ rest))
    ∙ first_line first (with_ends (text ++ barred texts) ++ 10 ∷ rest) h
    ∙ ap (λ (ls : List (List ℕ)). first ∷ ls) (ends_apart text texts rest are.0 are.2)

pub printed_models : PrintedModels
printed_models [] h = no_lines
printed_models (s ∷ statements) h =
    let spelled = All-head IsSpelled s statements h in
    let l = listed_is spelled.1 in
    let rest = listed_text statements in
    let others = printed_models statements (All-tail IsSpelled s statements h) in
    subst (λ (ls : List (List ℕ)). OfLines ls (s ∷ statements))
    (sym (ap (λ (t : List ℕ). lines_of (with_ends t ++ 10 ∷ rest)) l.is ∙ ends_apart l.first l.texts rest l.own_first l.are_texts))
    (statement_lines (l.first ∷ l.texts) (lines_of rest) s statements l.spells others)

lines_are_spelled : {lines : List (List ℕ)} {statements : List Statement} → OfLines lines statements → All IsSpelled statements
lines_are_spelled no_lines = All-nil IsSpelled
lines_are_spelled (remark_line line lines statements r others) = lines_are_spelled others
lines_are_spelled (statement_lines own_lines lines s statements spelled others) =
    All-cons IsSpelled s statements (own_lines, spelled) (lines_are_spelled others)

pub models_are_spelled : ModelsAreSpelled
models_are_spelled bytes statements spelled = lines_are_spelled spelled
