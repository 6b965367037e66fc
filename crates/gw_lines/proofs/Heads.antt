-- The words of a line: what is read is spelled so, and what is spelled so is read.
use Rattle.std.proofs.Common.{◌≡◌, ◌≢◌, ℕ, true, false, List, [], ◌∷◌, ◌++◌, Option, Some, None, Result, Ok, Err, refl, sym, ap, subst, ◌∙◌, inl, inr, arith}
use Rattle.std.specs.List.{list_all}
use Rattle.std.specs.Char.{to_ascii_uppercase}
use Rattle.std.proofs.lemmas.Bool.{and_parts, cases_Bool, or_right}
use Rattle.std.proofs.lemmas.Bool.Decides.{nat_tests}
use Rattle.gw_names.specs.declared.verb.Verb.{Verb}
use Rattle.gw_names.specs.Words.{verb_of, upper_of}
use Rattle.gw_names.specs.Names.{name_of}
use Rattle.gw_meaning.specs.declared.statement.Body.{Body}
use Rattle.gw_meaning.specs.declared.statement.Statement.{Statement}
use Rattle.gw_lines.specs.declared.class.Class.TheVariants as class
use Rattle.gw_lines.specs.declared.fault.LineFault.{LineFault}
use Rattle.gw_lines.specs.Reading.{◌>>=◌}
use Rattle.gw_lines.specs.Classes.{is_in, is_blank, front_of, rest_of, word_of, behind_word, is_nothing, is_plain, are_plain}
use Rattle.gw_lines.specs.Bodies.{body_of}
use Rattle.gw_lines.specs.Lines.{verb_in, is_command, needs_label, or_bad_label, label_of, no_label_of, plain_of, kept_behind, operands_behind, unlabelled_of, labelled_of, by_first, by_second, coded_of, behind_number}
use Rattle.gw_lines.specs.Spelling.{AreIn, Stops, Head, first_word, second_word, Label, no_label, named, ArePlain, Numbering, unnumbered, numbered, Coded}
use Rattle.gw_lines.proofs.Fronts.{front_again, rest_again, parts, front_all, rest_stops, blank_no_mark, both_stop, mark_no_blank, none_is, not_none, some_is_not}
use Rattle.gw_lines.proofs.Followed.{follows_all, follows_is, follows_stops}
use Rattle.gw_lines.proofs.Results.{done, ok_is}
use Rattle.gw_lines.proofs.Bodies.{body_found, body_again}

-- ---- plain bytes

plain_upper : (b : ℕ) → is_plain (to_ascii_uppercase b) ≡ is_plain b
plain_upper b = grind (arith, nat_tests)

pub are_plain_upper : (text : List ℕ) → are_plain (upper_of text) ≡ are_plain text
are_plain_upper [] = refl
are_plain_upper (b ∷ bs) = rw (plain_upper b, are_plain_upper bs) refl

plain_found : (text o : List ℕ) → plain_of text ≡ Ok o → (are_plain text ≡ true) × (text ≡ o)
plain_found text o e =
    elim (cases_Bool (are_plain text)) [
      | inl holds ↦ (holds, ok_is text o (rw holds at e))
      | inr fails ↦ absurd (let f = rw fails at e in cc)
    ]

-- ---- the number

-- where no blanks stand before it
no_blanks : (text : List ℕ) → front_of class.Blank text ≡ [] → Stops class.Blank text
no_blanks text e = subst (λ (t : List ℕ). Stops class.Blank t) (sym (parts class.Blank text
    ∙ ap (λ (t : List ℕ). t ++ rest_of class.Blank text) e)) (rest_stops class.Blank text)

first_none : (code : List ℕ) → front_of class.Digit code ≡ [] → rest_of class.Digit code ≡ code
first_none code e = sym (parts class.Digit code ∙ ap (λ (t : List ℕ). t ++ rest_of class.Digit code) e)

unnumbered_code : (code : List ℕ) → Stops class.Blank (rest_of class.Digit code) → Numbering code code
unnumbered_code code s =
    let n = unnumbered (front_of class.Digit code) (rest_of class.Digit code) (front_all class.Digit code) (rest_stops class.Digit code) s in
    subst (λ (t : List ℕ). Numbering t t) (sym (parts class.Digit code)) n

numbered_code : (code : List ℕ) → front_of class.Digit code ≢ [] → front_of class.Blank (rest_of class.Digit code) ≢ []
    → Numbering code (rest_of class.Blank (rest_of class.Digit code))
numbered_code code d b =
    let rest = rest_of class.Digit code in
    let n = numbered (front_of class.Digit code) (front_of class.Blank rest) (rest_of class.Blank rest) (front_all class.Digit code) d
    (front_all class.Blank rest) b (rest_stops class.Blank rest) in
    subst (λ (t : List ℕ). Numbering t (rest_of class.Blank rest)) (sym (parts class.Digit code
    ∙ ap (λ (t : List ℕ). front_of class.Digit code ++ t) (parts class.Blank rest))) n

pub numbering_of : (code : List ℕ) → Stops class.Blank code → Numbering code (behind_number code)
unfolding behind_number
numbering_of code s =
    let rest = rest_of class.Digit code in
    elim (cases_Bool (is_nothing (front_of class.Digit code))) [
      | inl none ↦ rw none (unnumbered_code code (subst (λ (t : List ℕ). Stops class.Blank t) (sym (first_none code (none_is _ none))) s))
      | inr some ↦ elim (cases_Bool (is_nothing (front_of class.Blank rest))) [
        | inl none ↦ rw (some, none) (unnumbered_code code (no_blanks rest (none_is _ none)))
        | inr blanks ↦ rw (some, blanks) (numbered_code code (not_none _ some) (not_none _ blanks))
      ]
    ]

a_blank : (b : ℕ) → is_blank b ≡ true → is_in class.Digit b ≡ false
a_blank b h = grind (arith, nat_tests)

blank_no_digit : (blanks text : List ℕ) → AreIn class.Blank blanks → blanks ≢ [] → Stops class.Digit (blanks ++ text)
blank_no_digit [] text h some = absurd (some refl)
blank_no_digit (b ∷ bs) text h some = a_blank b (and_parts (is_blank b) (list_all (is_in class.Blank) bs) h).0

pub numbering_is : {code words : List ℕ} → Numbering code words → behind_number code ≡ words
unfolding behind_number
numbering_is (unnumbered digits rest h s t) =
    let none : is_nothing (front_of class.Blank (rest_of class.Digit (digits ++ rest))) ≡ true =
    ap is_nothing (ap (front_of class.Blank) (rest_again class.Digit digits rest h s) ∙ front_again class.Blank [] rest refl t) in
    rw (or_right (is_nothing (front_of class.Digit (digits ++ rest))) _ none) refl
numbering_is (numbered digits blanks rest h some k more t) =
    let s : Stops class.Digit (blanks ++ rest) = blank_no_digit blanks rest k more in
    let left : rest_of class.Digit (digits ++ (blanks ++ rest)) ≡ blanks ++ rest = rest_again class.Digit digits (blanks ++ rest) h s in
    let a : is_nothing (front_of class.Digit (digits ++ (blanks ++ rest))) ≡ false = ap is_nothing (front_again class.Digit digits (blanks ++ rest) h s)
    ∙ some_is_not digits some in
    let b : is_nothing (front_of class.Blank (rest_of class.Digit (digits ++ (blanks ++ rest)))) ≡ false =
    ap is_nothing (ap (front_of class.Blank) left ∙ front_again class.Blank blanks rest k t) ∙ some_is_not blanks more in
    rw (a, b) (ap (rest_of class.Blank) left ∙ rest_again class.Blank blanks rest k t)

-- ---- the words

pub head_first : (words : List ℕ) (verb : Verb) → verb_in (word_of words) ≡ Some verb → Head words None verb (kept_behind verb (behind_word words))
head_first words verb v =
    let rest = rest_of class.Mark words in
    let h = first_word (word_of words) rest verb (kept_behind verb (behind_word words)) (front_all class.Mark words) v
    (follows_all verb rest (rest_stops class.Mark words)) in
    subst (λ (t : List ℕ). Head t None verb (kept_behind verb (behind_word words))) (sym (parts class.Mark words)) h

pub no_word : verb_in [] ≡ None
unfolding verb_of
no_word = refl

-- a second word has blanks before it
pub blanks_before : (words : List ℕ) → behind_word words ≢ [] → front_of class.Blank (rest_of class.Mark words) ≢ []
blanks_before words some e =
    let rest = rest_of class.Mark words in
    let second = behind_word words in
    let same : rest ≡ second = parts class.Blank rest ∙ ap (λ (t : List ℕ). t ++ second) e in
    some (both_stop second (subst (λ (t : List ℕ). Stops class.Mark t) same (rest_stops class.Mark words)) (rest_stops class.Blank rest))

-- the first two words and what stands around them
pub two_are : (words : List ℕ) → words
    ≡ word_of words ++ (front_of class.Blank (rest_of class.Mark words) ++ (word_of (behind_word words) ++ rest_of class.Mark (behind_word words)))
two_are words =
    let rest = rest_of class.Mark words in
    parts class.Mark words ∙ ap (λ (t : List ℕ). word_of words ++ t) (parts class.Blank rest
    ∙ ap (λ (t : List ℕ). front_of class.Blank rest ++ t) (parts class.Mark (behind_word words)))

pub head_second : (words : List ℕ) (verb : Verb) → verb_in (word_of words) ≡ None → verb_in (word_of (behind_word words)) ≡ Some verb
    → Head words (Some (word_of words)) verb (kept_behind verb (behind_word (behind_word words)))
head_second words verb n v =
    let rest = rest_of class.Mark words in
    let blanks = front_of class.Blank rest in
    let second = behind_word words in
    let behind = rest_of class.Mark second in
    let some : blanks ≢ [] = blanks_before words (λ (nothing : second ≡ []).
    (let f : None ≡ Some verb = sym no_word ∙ ap (λ (t : List ℕ). verb_in (word_of t)) (sym nothing) ∙ v in
    absurd cc)) in
    let h = second_word (word_of words) blanks (word_of second) behind verb (kept_behind verb (behind_word second)) (front_all class.Mark words) n
    (front_all class.Blank rest) some (front_all class.Mark second) v (follows_all verb behind (rest_stops class.Mark second)) in
    subst (λ (t : List ℕ). Head t (Some (word_of words)) verb (kept_behind verb (behind_word second))) (sym (two_are words)) h

-- ---- found

made : {o : List ℕ} (label : Option (List ℕ)) (r : Result Body LineFault) (s : Statement)
    → (r >>= λ body. done (record { label = label; body = body; operands = o })) ≡ Ok s
    → (o ≡ s.operands) × (r ≡ Ok s.body) × (label ≡ s.label)
made label (Err f) s h = absurd cc
made {o} label (Ok body) s h =
    let i = ok_is (record { label = label; body = body; operands = o }) s h in
    (ap (λ (x : Statement). x.operands) i, ap done (ap (λ (x : Statement). x.body) i), ap (λ (x : Statement). x.label) i)

record Made (label : Option (List ℕ)) (a : Result (List ℕ) LineFault) (b : List ℕ → Result Body LineFault) (s : Statement) : Type 0 where
  pub a_is : a ≡ Ok s.operands
  pub b_is : b s.operands ≡ Ok s.body
  pub label_is : label ≡ s.label

made_of : (label : Option (List ℕ)) (o : List ℕ) (b : List ℕ → Result Body LineFault) (s : Statement)
    → (b o >>= λ body. done (record { label = label; body = body; operands = o })) ≡ Ok s → Made label (Ok o) b s
made_of label o b s h =
    let m = made label (b o) s h in
    record { a_is = ap done m.0; b_is = ap b (sym m.0) ∙ m.1; label_is = m.2 }

record UnlabelledSteps (a : Result (List ℕ) LineFault) (l : Result (Unit {0}) LineFault) (b : List ℕ → Result Body LineFault) (s : Statement) : Type 0 where
  pub l_is : l ≡ Ok tt
  pub made : Made None a b s

unlabelled_steps : (a : Result (List ℕ) LineFault) (l : Result (Unit {0}) LineFault) (b : List ℕ → Result Body LineFault) (s : Statement)
    → (a >>= λ operands. l >>= λ free. b operands >>= λ body. Ok (record { label = None; body = body; operands = operands })) ≡ Ok s
    → UnlabelledSteps a l b s
unlabelled_steps (Err f) l b s h = absurd cc
unlabelled_steps (Ok o) (Err f) b s h = absurd cc
unlabelled_steps (Ok o) (Ok u) b s h = record { l_is = refl; made = made_of None o b s h }

record LabelledSteps (p : Result (List ℕ) LineFault) (a : Result (List ℕ) LineFault) (l : Result (List ℕ) LineFault) (b : List ℕ
    → Result Body LineFault) (s : Statement) : Type 0 where
  pub word : List ℕ
  pub p_is : p ≡ Ok word
  pub name : List ℕ
  pub l_is : l ≡ Ok name
  pub made : Made (Some name) a b s

labelled_steps : (p a l : Result (List ℕ) LineFault) (b : List ℕ → Result Body LineFault) (s : Statement)
    → (p >>= λ plain. a >>= λ operands. l >>= λ label. b operands >>= λ body. Ok (record { label = Some label; body = body; operands = operands })) ≡ Ok s
    → LabelledSteps p a l b s
labelled_steps (Err f) a l b s h = absurd cc
labelled_steps (Ok w) (Err f) l b s h = absurd cc
labelled_steps (Ok w) (Ok o) (Err f) b s h = absurd cc
labelled_steps (Ok w) (Ok o) (Ok n) b s h = record { word = w; p_is = refl; name = n; l_is = refl; made = made_of (Some n) o b s h }

good_label : (o : Option (List ℕ)) (name : List ℕ) → or_bad_label o ≡ Ok name → o ≡ Some name
good_label None name e = absurd cc
good_label (Some n) name e = ap (λ (x : List ℕ). Some x) (ok_is n name e)

label_ok : (verb : Verb) (word name : List ℕ) → label_of verb word ≡ Ok name → (is_command verb ≡ false) × (name_of word ≡ Some name)
unfolding label_of
label_ok verb word name e =
    elim (cases_Bool (is_command verb)) [
      | inl holds ↦ absurd (let f = rw holds at e in cc)
      | inr fails ↦ (fails, good_label (name_of word) name (rw fails at e))
    ]

free_ok : (verb : Verb) → no_label_of verb ≡ Ok tt → needs_label verb ≡ false
unfolding no_label_of
free_ok verb e =
    elim (cases_Bool (needs_label verb)) [
      | inl needs ↦ absurd (let f = rw needs at e in cc)
      | inr free ↦ free
    ]

unlabelled_found : (words : List ℕ) (verb : Verb) (s : Statement) → verb_in (word_of words) ≡ Some verb → unlabelled_of verb (behind_word words) ≡ Ok s
    → Coded words s
unfolding unlabelled_of operands_behind
unlabelled_found words verb s v e =
    let kept = kept_behind verb (behind_word words) in
    let m = unlabelled_steps (plain_of (upper_of kept)) (no_label_of verb) (body_of verb) s e in
    let p = plain_found (upper_of kept) s.operands m.made.a_is in
    let b = body_found verb s.operands s.body m.made.b_is in
    record {
      word = None;
      verb = verb;
      kept = kept;
      head = head_first words verb v;
      plain = record { first = tt; list = sym (are_plain_upper kept) ∙ p.0 };
      label = subst (λ (x : Option (List ℕ)). Label None verb x) m.made.label_is (no_label verb (free_ok verb m.l_is));
      listed = sym p.1;
      auxiliary = b.auxiliary;
      is_auxiliary = b.is_auxiliary;
      body = b.says;
    }

labelled_found : (words : List ℕ) (verb : Verb) (s : Statement) → verb_in (word_of words) ≡ None → verb_in (word_of (behind_word words)) ≡ Some verb
    → labelled_of (word_of words) verb (behind_word (behind_word words)) ≡ Ok s → Coded words s
unfolding labelled_of operands_behind
labelled_found words verb s n v e =
    let kept = kept_behind verb (behind_word (behind_word words)) in
    let word = word_of words in
    let m = labelled_steps (plain_of word) (plain_of (upper_of kept)) (label_of verb word) (body_of verb) s e in
    let w = plain_found word m.word m.p_is in
    let p = plain_found (upper_of kept) s.operands m.made.a_is in
    let b = body_found verb s.operands s.body m.made.b_is in
    let k = label_ok verb word m.name m.l_is in
    record {
      word = Some word;
      verb = verb;
      kept = kept;
      head = head_second words verb n v;
      plain = record { first = w.0; list = sym (are_plain_upper kept) ∙ p.0 };
      label = subst (λ (x : Option (List ℕ)). Label (Some word) verb x) m.made.label_is (named word verb m.name k.0 k.1);
      listed = sym p.1;
      auxiliary = b.auxiliary;
      is_auxiliary = b.is_auxiliary;
      body = b.says;
    }

second_found : (words : List ℕ) (o : Option Verb) (s : Statement) → verb_in (word_of words) ≡ None → verb_in (word_of (behind_word words)) ≡ o
    → by_second o words ≡ Ok s → Coded words s
second_found words None s n v e = absurd cc
second_found words (Some verb) s n v e = labelled_found words verb s n v e

first_found : (words : List ℕ) (o : Option Verb) (s : Statement) → verb_in (word_of words) ≡ o → by_first o words ≡ Ok s → Coded words s
first_found words None s v e = second_found words (verb_in (word_of (behind_word words))) s v refl e
first_found words (Some verb) s v e = unlabelled_found words verb s v e

pub coded_found : (words : List ℕ) (s : Statement) → coded_of words ≡ Ok s → Coded words s
unfolding coded_of
coded_found words s e = first_found words (verb_in (word_of words)) s refl e

-- ---- again

abbrev at_head_first : Verb → List ℕ → Result Statement LineFault
at_head_first verb kept = plain_of (upper_of kept) >>= λ operands. no_label_of verb >>= λ free. body_of verb operands >>= λ body. Ok (record {
  label = None;
  body = body;
  operands =
      operands;
})

abbrev at_head_second : List ℕ → Verb → List ℕ → Result Statement LineFault
at_head_second word verb kept = plain_of word >>= λ plain. plain_of
    (upper_of kept) >>= λ operands. label_of verb word >>= λ label. body_of verb operands >>= λ body. Ok (record {
      label = Some label;
      body = body;
      operands =
          operands;
    })

-- what words with a head give
abbrev pub at_head : Option (List ℕ) → Verb → List ℕ → Result Statement LineFault
at_head None verb kept = at_head_first verb kept
at_head (Some word) verb kept = at_head_second word verb kept

-- two words that were put together
pub two_again : (first blanks second rest : List ℕ) → AreIn class.Mark first → AreIn class.Blank blanks → blanks ≢ [] → AreIn class.Mark second → second ≢ []
    → (word_of (first ++ (blanks ++ (second ++ rest))) ≡ first) × (behind_word (first ++ (blanks ++ (second ++ rest))) ≡ second ++ rest)
two_again first blanks second rest m k some w more =
    let t = blank_no_mark blanks (second ++ rest) k some in
    let u = mark_no_blank second rest w more in (
      front_again class.Mark first (blanks ++ (second ++ rest)) m t,
      ap (rest_of class.Blank) (rest_again class.Mark first (blanks ++ (second ++ rest)) m t)
          ∙ rest_again class.Blank blanks (second ++ rest) k u,
    )

a_verb : (word : List ℕ) (verb : Verb) → verb_in word ≡ Some verb → word ≢ []
a_verb word verb v e = let f : None ≡ Some verb = sym no_word ∙ ap verb_in (sym e) ∙ v in absurd cc

pub head_is : {words : List ℕ} {word : Option (List ℕ)} {verb : Verb} {kept : List ℕ} → Head words word verb kept → coded_of words ≡ at_head word verb kept
unfolding coded_of unlabelled_of labelled_of operands_behind
head_is (first_word word behind verb kept m v b) =
    let s = follows_stops b in
    let first : word_of (word ++ behind) ≡ word = front_again class.Mark word behind m s in
    let rest : behind_word (word ++ behind) ≡ rest_of class.Blank behind = ap (rest_of class.Blank) (rest_again class.Mark word behind m s) in
    let is : verb_in (word_of (word ++ behind)) ≡ Some verb = ap verb_in first ∙ v in
    let k : kept_behind verb (behind_word (word ++ behind)) ≡ kept = ap (kept_behind verb) rest ∙ follows_is b in
    ap (λ (o : Option Verb). by_first o (word ++ behind)) is ∙ ap (λ (t : List ℕ). at_head_first verb t) k
head_is (second_word label blanks word behind verb kept m n k some w v b) =
    let words = label ++ (blanks ++ (word ++ behind)) in
    let s = follows_stops b in
    let two = two_again label blanks word behind m k some w (a_verb word verb v) in
    let first : word_of words ≡ label = two.0 in
    let second : behind_word words ≡ word ++ behind = two.1 in
    let none : verb_in (word_of words) ≡ None = ap verb_in first ∙ n in
    let is : verb_in (word_of (behind_word words)) ≡ Some verb = ap (λ (x : List ℕ). verb_in (word_of x)) second
    ∙ ap verb_in (front_again class.Mark word behind w s) ∙ v in
    let rest : behind_word (behind_word words) ≡ rest_of class.Blank behind = ap behind_word second
    ∙ ap (rest_of class.Blank) (rest_again class.Mark word behind w s) in
    let keeps : kept_behind verb (behind_word (behind_word words)) ≡ kept = ap (kept_behind verb) rest ∙ follows_is b in
    ap (λ (o : Option Verb). by_first o words) none ∙ ap (λ (o : Option Verb). by_second o words) is
    ∙ ap (λ (x : List ℕ). at_head_second x verb (kept_behind verb (behind_word (behind_word words)))) first
    ∙ ap (λ (x : List ℕ). at_head_second label verb x) keeps

pub plain_again : (text : List ℕ) → are_plain text ≡ true → plain_of text ≡ Ok text
plain_again text h = rw h refl

pub label_again : (verb : Verb) (word name : List ℕ) → is_command verb ≡ false → name_of word ≡ Some name → label_of verb word ≡ Ok name
unfolding label_of
label_again verb word name c n = rw (c, n) refl

pub free_again : (verb : Verb) → needs_label verb ≡ false → no_label_of verb ≡ Ok tt
unfolding no_label_of
free_again verb n = rw n refl

-- what words with a lawful head and label give
pub labelled_head : {word : Option (List ℕ)} {verb : Verb} {label : Option (List ℕ)} (kept : List ℕ) → ArePlain word kept → Label word verb label
    → at_head word verb kept ≡ (body_of verb (upper_of kept) >>= λ body. Ok (record { label = label; body = body; operands = upper_of kept }))
labelled_head kept p (no_label verb n) = rw (plain_again (upper_of kept) (are_plain_upper kept ∙ p.list), free_again verb n) refl
labelled_head kept p (named word verb name c n) =
    rw (plain_again word p.first, plain_again (upper_of kept) (are_plain_upper kept ∙ p.list), label_again verb word name c n) refl

pub coded_again : (words : List ℕ) (s : Statement) → Coded words s → coded_of words ≡ Ok s
coded_again words s c =
    let body : body_of c.verb (upper_of c.kept) ≡ Ok s.body = ap (body_of c.verb) (sym c.listed) ∙ body_again s.operands c.is_auxiliary c.body in
    head_is c.head ∙ labelled_head c.kept c.plain c.label ∙ rw (body, ← c.listed) refl
