-- A line that asks for nothing is read as what is wrong with it, and what is read so is wrong in that way.
use Rattle.std.proofs.Common.{◌≡◌, ◌<◌, ℕ, true, false, List, [], ◌∷◌, ◌++◌, length, Option, Some, None, unwrap_or, refl, ap, sym, subst, ◌∙◌, inl, inr}
use Rattle.std.specs.Prelude.{nat_lt}
use Rattle.std.specs.List.{list_all}
use Rattle.std.proofs.lemmas.Bool.{cases_Bool, false_from_ne_true, true≢false, ltb-true, ltb-false, lt-ltb, le-ltb}
use Rattle.std.proofs.lemmas.List.{append-nil}
use Rattle.std.proofs.lemmas.List.Elements.{All-from_recursion, recursion_from_All}
use Rattle.std.proofs.lemmas.List.Sums.{AllPass-from_list_all, list_all-from_AllPass}
use Rattle.gw_request.specs.declared.command.Command.{Command}
use Rattle.gw_request.specs.declared.request.Request.{Request}
use Rattle.gw_request.specs.declared.request.Request.TheVariants as requests
use Rattle.gw_request.specs.declared.request.Reason.TheVariants as reasons
use Rattle.gw_request.specs.Words.{is_blank, cut, word_at, first_word}
use Rattle.gw_request.specs.Commands.{word_of, command_of}
use Rattle.gw_request.specs.Arguments.{request_in}
use Rattle.gw_request.specs.Requests.{request_with, request_of}
use Rattle.gw_request.specs.Asking.{is_asked, MayFollow, IsFirstWord, IsBlankLine, HasWords, HasNoCommand, HasBadArguments, OthersAreTold}
use Rattle.gw_request.proofs.Cuts.{cut_found, Solid, cut_again, cut_none, uncut_solid}
use Rattle.gw_request.proofs.Lines.{command_found, command_again, asks_by, lines_ask}

-- ---- first words

first_by : (line : List ℕ) (o : Option (List ℕ × List ℕ)) → cut line ≡ o → IsFirstWord line (word_at line o).0
first_by line None there = record {
  behind = [];
  whole = sym (append-nil line);
  solid = All-from_recursion (λ b. is_blank b ≡ false) line (uncut_solid line there);
  ends = tt;
}
first_by line (Some p) there =
    let h = cut_found line p there in
    record {
      behind = h.blank ∷ p.1;
      whole = h.whole;
      solid = All-from_recursion (λ b. is_blank b ≡ false) p.0 h.solid;
      ends = h.is;
    }

first_found : (line : List ℕ) → IsFirstWord line (first_word line).0
first_found line = first_by line (cut line) refl

word_again : (word behind : List ℕ) → Solid word → MayFollow behind → (first_word (word ++ behind)).0 ≡ word
word_again word [] solid ends = ap (λ l. (first_word l).0) (append-nil word) ∙ ap (λ o. (word_at word o).0) (cut_none word solid)
word_again word (b ∷ bs) solid ends = ap (λ o. (word_at (word ++ b ∷ bs) o).0) (cut_again word b bs solid ends)

first_again : (line word : List ℕ) → IsFirstWord line word → (first_word line).0 ≡ word
first_again line word h =
    ap (λ l. (first_word l).0) h.whole ∙ word_again word h.behind (recursion_from_All (λ b. is_blank b ≡ false) word h.solid) h.ends

-- ---- how a line is read

read_long : (line : List ℕ) → 65536 < length line → request_of line ≡ requests.Bad reasons.Long
unfolding request_of
read_long line h = rw (lt-ltb 65536 (length line) h) refl

read_blank : (line : List ℕ) → IsBlankLine line → request_of line ≡ requests.Nothing
unfolding request_of
read_blank line h = rw (le-ltb 65536 (length line) h.short, list_all-from_AllPass is_blank line h.blank) refl

read_words : (line : List ℕ) → HasWords line → request_of line ≡ request_with (command_of (first_word line).0) (first_word line).1
unfolding request_of
read_words line h =
    let solid : list_all is_blank line ≡ false = false_from_ne_true (list_all is_blank line) (λ e. h.not_blank (AllPass-from_list_all is_blank line e)) in
    rw (le-ltb 65536 (length line) h.short, solid) refl

read_command : (line : List ℕ) → HasWords line → (o : Option Command) → command_of (first_word line).0 ≡ o →
    request_of line ≡ request_with o (first_word line).1
read_command line h o e = read_words line h ∙ ap (λ c. request_with c (first_word line).1) e

-- ---- lines of no command

not_command : (word : List ℕ) → ((c : Command) → word_of c ≡ word → ⊥) → (o : Option Command) → command_of word ≡ o → o ≡ None
not_command word unknown None e = refl
not_command word unknown (Some c) e = absurd (unknown c (command_found word c e))

read_unknown : (line : List ℕ) → HasNoCommand line → request_of line ≡ requests.Bad reasons.Command
read_unknown line h =
    let none : command_of h.word ≡ None = not_command h.word h.unknown (command_of h.word) refl in
    read_command line h.has_words None (ap command_of (first_again line h.word h.first) ∙ none)

has_no_command : (line : List ℕ) → HasWords line → command_of (first_word line).0 ≡ None → HasNoCommand line
has_no_command line h e = record {
  has_words = h;
  word = (first_word line).0;
  first = first_found line;
  unknown = λ c is. let f : Some c ≡ None = sym (command_again c) ∙ ap command_of is ∙ e in cc;
}

-- ---- lines of bad arguments

read_bad : (line : List ℕ) → HasBadArguments line → request_of line ≡ requests.Bad reasons.Arguments
read_bad line h =
    let is : command_of (first_word line).0 ≡ Some h.command =
    ap command_of (first_again line (word_of h.command) h.first) ∙ command_again h.command in
    read_command line h.has_words (Some h.command) is ∙ go is (request_in h.command (first_word line).1) refl where
      go : command_of (first_word line).0 ≡ Some h.command → (o : Option Request) → request_in h.command (first_word line).1 ≡ o →
          unwrap_or o (requests.Bad reasons.Arguments) ≡ requests.Bad reasons.Arguments
      go is None e = refl
      go is (Some r) e = absurd (h.unasked r (asks_by line r (cut line) refl h.has_words.short h.command is e))

has_bad_arguments : (line : List ℕ) → HasWords line → (c : Command) → command_of (first_word line).0 ≡ Some c →
    request_of line ≡ requests.Bad reasons.Arguments → HasBadArguments line
has_bad_arguments line h c is e = record {
  has_words = h;
  command = c;
  first = subst (IsFirstWord line) (sym (command_found (first_word line).0 c is)) (first_found line);
  unasked = λ r asks. unasked r ((lines_ask line r).1 asks);
} where
  unasked : (r : Request) → ((request_of line ≡ r) × (is_asked r ≡ true)) → ⊥
  unasked r (is_read, asked) = true≢false (sym asked ∙ ap is_asked (sym is_read ∙ e))

-- ---- what a line is that is read so

abbrev Says : List ℕ → Request → Type 0
Says line (requests.Bad reasons.Long) = 65536 < length line
Says line requests.Nothing = IsBlankLine line
Says line (requests.Bad reasons.Command) = HasNoCommand line
Says line (requests.Bad reasons.Arguments) = HasBadArguments line
Says line r = Unit {0}

asked_says : (line : List ℕ) (r : Request) → is_asked r ≡ true → Says line r
asked_says line requests.Nothing asked = absurd (true≢false (sym asked))
asked_says line (requests.Bad why) asked = absurd (true≢false (sym asked))
asked_says line (requests.Edit e) asked = tt
asked_says line (requests.Report rep k) asked = tt
asked_says line (requests.Peek rep k) asked = tt
asked_says line (requests.Work rep steps) asked = tt
asked_says line (requests.All k) asked = tt
asked_says line requests.List asked = tt
asked_says line requests.Quit asked = tt

words_say : (line : List ℕ) → HasWords line → Says line (request_of line)
words_say line h = by_command (command_of (first_word line).0) refl where
  by_request : (c : Command) → command_of (first_word line).0 ≡ Some c → (o : Option Request) → request_in c (first_word line).1 ≡ o →
      Says line (request_of line)
  by_request c is None e =
      let bad : request_of line ≡ requests.Bad reasons.Arguments =
      read_command line h (Some c) is ∙ ap (λ (o : Option Request). unwrap_or o (requests.Bad reasons.Arguments)) e in
      subst (Says line) (sym bad) (has_bad_arguments line h c is bad)
  by_request c is (Some r) e =
      let asked = (lines_ask line r).1 (asks_by line r (cut line) refl h.short c is e) in
      subst (Says line) (sym asked.0) (asked_says line r asked.1)

  by_command : (o : Option Command) → command_of (first_word line).0 ≡ o → Says line (request_of line)
  by_command None e = subst (Says line) (sym (read_command line h None e)) (has_no_command line h e)
  by_command (Some c) e = by_request c e (request_in c (first_word line).1) refl

says : (line : List ℕ) → Says line (request_of line)
says line =
    elim (cases_Bool (nat_lt 65536 (length line))) [
      | inl long ↦ let h = ltb-true 65536 (length line) long in subst (Says line) (sym (read_long line h)) h
      | inr short ↦ elim (cases_Bool (list_all is_blank line)) [
        | inl blank ↦
            let h : IsBlankLine line =
            record { short = ltb-false 65536 (length line) short; blank = AllPass-from_list_all is_blank line blank } in
            subst (Says line) (sym (read_blank line h)) h
        | inr solid ↦ words_say line (record {
          short = ltb-false 65536 (length line) short;
          not_blank = λ blank. true≢false (sym (list_all-from_AllPass is_blank line blank) ∙ solid);
        })
      ]
    ]

pub others_are_told : OthersAreTold
others_are_told line = (
  (λ e. subst (Says line) e (says line), read_long line),
  (λ e. subst (Says line) e (says line), read_blank line),
  (λ e. subst (Says line) e (says line), read_unknown line),
  (λ e. subst (Says line) e (says line), read_bad line),
)
