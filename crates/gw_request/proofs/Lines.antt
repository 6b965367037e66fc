-- A line is read as a request of a command exactly where it asks for that.
use Rattle.std.proofs.Common.{◌≡◌, ◌≤◌, ℕ, ◌&&◌, Bool, true, false, cond, List, [], ◌∷◌, ◌++◌, length, Option, Some, None, option_and_then, unwrap_or, refl, ap, sym, subst, ◌∙◌, ◌⊎◌, inl, inr}
use Rattle.std.specs.Prelude.{find, nat_lt, nat_le}
use Rattle.std.specs.List.{list_all}
use Rattle.std.specs.Str.{bytes_eq}
use Rattle.std.specs.Char.{is_ascii_digit, is_ascii_alphabetic}
use Rattle.std.proofs.lemmas.Bool.{cases_Bool, ltb-false, le-ltb}
use Rattle.std.proofs.lemmas.List.{append-nil}
use Rattle.std.proofs.lemmas.Slice.Eq.{bytes_eq-Decides}
use Rattle.std.proofs.lemmas.Option.{same_Some}
use Rattle.gw_names.specs.Names.{name_of, is_name_text, is_name_byte}
use Rattle.gw_names.proofs.InUpperCase.{is_text}
use Rattle.gw_request.specs.declared.command.Command.{Command}
use Rattle.gw_request.specs.declared.command.Command.TheVariants.{Bare, Single, Pair, Text, Capacity}
use Rattle.gw_request.specs.declared.command.Bare.TheVariants as bares
use Rattle.gw_request.specs.declared.command.Single.TheVariants as singles
use Rattle.gw_request.specs.declared.command.Pair.TheVariants as pairs
use Rattle.gw_request.specs.declared.command.Text.TheVariants as texts
use Rattle.gw_request.specs.declared.request.Request.{Request}
use Rattle.gw_request.specs.declared.request.Request.TheVariants as requests
use Rattle.gw_request.specs.declared.request.Reason.TheVariants as reasons
use Rattle.gw_request.specs.Words.{is_blank, cut, word_at, first_word}
use Rattle.gw_request.specs.Numbers.{number_of, next_number}
use Rattle.gw_request.specs.Commands.{Form, Alone, Number, TwoNumbers, NumberAndText, NameAndNumber, word_of, form_of, commands, command_of}
use Rattle.gw_request.specs.Arguments.{asked_with, asked_alone, request_in}
use Rattle.gw_request.specs.Requests.{request_with, request_of}
use Rattle.gw_request.specs.Asking.{IsNumber, Behind, nothing, number, two_numbers, number_and_text, name_and_number, AsksFor, is_asked, LinesAsk}
use Rattle.gw_request.proofs.Spelled.{are_digits, number_again, number_found}
use Rattle.gw_request.proofs.Cuts.{IsCut, cut_found, Solid, cut_again, cut_none, no_blank, solid_all}

-- what has an answer, where another follows
then_some : {A B : Type 0} (o : Option A) (k : A → Option B) (y : B) → option_and_then k o ≡ Some y → (x : A) × (o ≡ Some x) × (k x ≡ Some y)
then_some (Some x) k y e = (x, refl, e)
then_some None k y e = absurd cc

-- ---- words

passes_by : {X : Type 0} (p : X → Bool) (y : X) (ys : List X) (x : X) → (find p ys ≡ Some x → p x ≡ true) → (b : Bool) → p y ≡ b →
    cond b (Some y) (find p ys) ≡ Some x → p x ≡ true
passes_by p y ys x on true is e = subst (λ z. p z ≡ true) (same_Some y x e) is
passes_by p y ys x on false is e = on e

find_passes : {X : Type 0} (p : X → Bool) (xs : List X) (x : X) → find p xs ≡ Some x → p x ≡ true
find_passes p [] x e = absurd cc
find_passes p (y ∷ ys) x e = passes_by p y ys x (find_passes p ys x) (p y) refl e

pub command_found : (word : List ℕ) (c : Command) → command_of word ≡ Some c → word_of c ≡ word
unfolding command_of
command_found word c e = (bytes_eq-Decides (word_of c) word).0 (find_passes (λ d. bytes_eq (word_of d) word) commands c e)

pub command_again : (c : Command) → command_of (word_of c) ≡ Some c
unfolding command_of
command_again (Text texts.Insert) = refl
command_again (Single singles.Delete) = refl
command_again (Text texts.Change) = refl
command_again Capacity = refl
command_again (Pair pairs.Seed) = refl
command_again (Pair pairs.Replicate) = refl
command_again (Single singles.Drop) = refl
command_again (Single singles.Horizon) = refl
command_again (Pair pairs.Report) = refl
command_again (Pair pairs.Peek) = refl
command_again (Pair pairs.Work) = refl
command_again (Single singles.All) = refl
command_again (Bare bares.List) = refl
command_again (Bare bares.Quit) = refl

letters : (c : Command) → list_all is_ascii_alphabetic (word_of c) ≡ true
letters (Text texts.Insert) = refl
letters (Single singles.Delete) = refl
letters (Text texts.Change) = refl
letters Capacity = refl
letters (Pair pairs.Seed) = refl
letters (Pair pairs.Replicate) = refl
letters (Single singles.Drop) = refl
letters (Single singles.Horizon) = refl
letters (Pair pairs.Report) = refl
letters (Pair pairs.Peek) = refl
letters (Pair pairs.Work) = refl
letters (Single singles.All) = refl
letters (Bare bares.List) = refl
letters (Bare bares.Quit) = refl

solid_word : (c : Command) → Solid (word_of c)
solid_word c = solid_all is_ascii_alphabetic refl refl (word_of c) (letters c)

not_blank : (c : Command) (behind : List ℕ) → list_all is_blank (word_of c ++ behind) ≡ false
not_blank (Text texts.Insert) behind = refl
not_blank (Single singles.Delete) behind = refl
not_blank (Text texts.Change) behind = refl
not_blank Capacity behind = refl
not_blank (Pair pairs.Seed) behind = refl
not_blank (Pair pairs.Replicate) behind = refl
not_blank (Single singles.Drop) behind = refl
not_blank (Single singles.Horizon) behind = refl
not_blank (Pair pairs.Report) behind = refl
not_blank (Pair pairs.Peek) behind = refl
not_blank (Pair pairs.Work) behind = refl
not_blank (Single singles.All) behind = refl
not_blank (Bare bares.List) behind = refl
not_blank (Bare bares.Quit) behind = refl

-- ---- numbers and names have no blank

solid_number : (digits : List ℕ) (n : ℕ) → IsNumber digits n → Solid digits
solid_number digits n h = solid_all is_ascii_digit refl refl digits (are_digits h.spelled)

and_parts : (a b d : Bool) → (a && (b && d)) ≡ true → (a ≡ true) × (d ≡ true)
and_parts true true d h = (refl, h)
and_parts true false d h = absurd cc
and_parts false b d h = absurd cc

solid_text : (spelling : List ℕ) → is_name_text spelling ≡ true → Solid spelling
solid_text [] h = tt
solid_text (b ∷ bs) h =
    let parts = and_parts (is_ascii_alphabetic b) (nat_le (length bs) 199) (list_all is_name_byte bs) h in
    (no_blank is_ascii_alphabetic refl refl b parts.0, solid_all is_name_byte refl refl bs parts.1)

solid_name : (spelling name : List ℕ) → name_of spelling ≡ Some name → Solid spelling
solid_name spelling name e = solid_text spelling (is_text spelling name e)

-- ---- what stands after a word

alone_found : (f : Form) (r : Request) → asked_alone f ≡ Some r → Behind f [] r
alone_found (Alone q) r e = subst (Behind (Alone q) []) (same_Some q r e) (nothing q)
alone_found (Number f) r e = absurd cc
alone_found (TwoNumbers f) r e = absurd cc
alone_found (NumberAndText f) r e = absurd cc
alone_found (NameAndNumber f) r e = absurd cc

-- the number before a cut
pub record IsNext (words : List ℕ) (p : ℕ × List ℕ) : Type 0 where
  pub digits : List ℕ
  pub cut : IsCut words (digits, p.1)
  pub number : IsNumber digits p.0

next_found : (words : List ℕ) (p : ℕ × List ℕ) → next_number words ≡ Some p → IsNext words p
next_found words p e =
    let c = then_some (cut words) _ p e in
    let n = then_some (number_of c.0.0) _ p c.2 in
    subst (IsNext words) (same_Some (n.0, c.0.1) p n.2) (record { digits = c.0.0; cut = cut_found words c.0 c.1; number = number_found c.0.0 n.0 n.1 })

with_found : (f : Form) (b : ℕ) (words : List ℕ) (r : Request) → is_blank b ≡ true → asked_with f words ≡ Some r → Behind f (b ∷ words) r
with_found (Alone q) b words r blank e = absurd cc
with_found (Number f) b words r blank e =
    let n = then_some (number_of words) _ r e in
    subst (Behind (Number f) (b ∷ words)) (same_Some (f n.0) r n.2) (number f b words n.0 blank (number_found words n.0 n.1))
with_found (TwoNumbers f) b words r blank e =
    let p = then_some (next_number words) _ r e in
    let n = then_some (number_of p.0.1) _ r p.2 in
    let h = next_found words p.0 p.1 in
    subst (λ w. Behind (TwoNumbers f) (b ∷ w) r) (sym h.cut.whole)
    (subst (Behind (TwoNumbers f) (b ∷ (h.digits ++ h.cut.blank ∷ p.0.1))) (same_Some (f p.0.0 n.0) r n.2)
    (two_numbers f b h.digits h.cut.blank p.0.1 p.0.0 n.0 blank h.number h.cut.is (number_found p.0.1 n.0 n.1)))
with_found (NumberAndText f) b words r blank e =
    let p = then_some (next_number words) _ r e in
    let h = next_found words p.0 p.1 in
    subst (λ w. Behind (NumberAndText f) (b ∷ w) r) (sym h.cut.whole)
    (subst (Behind (NumberAndText f) (b ∷ (h.digits ++ h.cut.blank ∷ p.0.1))) (same_Some (f p.0.0 p.0.1) r p.2)
    (number_and_text f b h.digits h.cut.blank p.0.1 p.0.0 blank h.number h.cut.is))
with_found (NameAndNumber f) b words r blank e =
    let p = then_some (cut words) _ r e in
    let n = then_some (number_of p.0.1) _ r p.2 in
    let name = then_some (name_of p.0.0) _ r n.2 in
    let h = cut_found words p.0 p.1 in
    subst (λ w. Behind (NameAndNumber f) (b ∷ w) r) (sym h.whole)
    (subst (Behind (NameAndNumber f) (b ∷ (p.0.0 ++ h.blank ∷ p.0.1))) (same_Some (f name.0 n.0) r name.2)
    (name_and_number f b p.0.0 h.blank p.0.1 name.0 n.0 blank name.1 h.is (number_found p.0.1 n.0 n.1)))

-- what is read after a word: nothing, or words after a blank
abbrev Reads : Form → List ℕ → Request → Type 0
Reads f behind r = ((behind ≡ []) × (asked_alone f ≡ Some r)) ⊎
    ((b : ℕ) × (words : List ℕ) × (behind ≡ b ∷ words) × (is_blank b ≡ true) × (asked_with f words ≡ Some r))

behind_again : {f : Form} {behind : List ℕ} {r : Request} → Behind f behind r → Reads f behind r
behind_again (nothing r) = inl (refl, refl)
behind_again (number f b digits n blank is) = inr (b, digits, refl, blank, rw (number_again digits n is) refl)
behind_again (two_numbers f b first d second m n blank one is two) =
    inr (
      b,
      first ++ d ∷ second,
      refl,
      blank,
      rw (cut_again first d second (solid_number first m one) is, number_again first m one, number_again second n two) refl,
    )
behind_again (number_and_text f b digits d text n blank one is) =
    inr (b, digits ++ d ∷ text, refl, blank, rw (cut_again digits d text (solid_number digits n one) is, number_again digits n one) refl)
behind_again (name_and_number f b spelling d digits name n blank one is two) =
    inr (
      b,
      spelling ++ d ∷ digits,
      refl,
      blank,
      rw (cut_again spelling d digits (solid_name spelling name one) is, number_again digits n two, one) refl,
    )

-- ---- requests of commands

abbrev AreAsked : Form → Type 0
AreAsked (Alone r) = is_asked r ≡ true
AreAsked (Number f) = (n : ℕ) → is_asked (f n) ≡ true
AreAsked (TwoNumbers f) = (m n : ℕ) → is_asked (f m n) ≡ true
AreAsked (NumberAndText f) = (n : ℕ) (text : List ℕ) → is_asked (f n text) ≡ true
AreAsked (NameAndNumber f) = (name : List ℕ) (n : ℕ) → is_asked (f name n) ≡ true

are_asked : (c : Command) → AreAsked (form_of c)
are_asked (Text texts.Insert) = λ n text. refl
are_asked (Single singles.Delete) = λ n. refl
are_asked (Text texts.Change) = λ n text. refl
are_asked Capacity = λ name n. refl
are_asked (Pair pairs.Seed) = λ m n. refl
are_asked (Pair pairs.Replicate) = λ m n. refl
are_asked (Single singles.Drop) = λ n. refl
are_asked (Single singles.Horizon) = λ n. refl
are_asked (Pair pairs.Report) = λ m n. refl
are_asked (Pair pairs.Peek) = λ m n. refl
are_asked (Pair pairs.Work) = λ m n. refl
are_asked (Single singles.All) = λ n. refl
are_asked (Bare bares.List) = refl
are_asked (Bare bares.Quit) = refl

behind_asked : {f : Form} {behind : List ℕ} {r : Request} → Behind f behind r → AreAsked f → is_asked r ≡ true
behind_asked (nothing r) h = h
behind_asked (number f b digits n blank is) h = h n
behind_asked (two_numbers f b first d second m n blank one is two) h = h m n
behind_asked (number_and_text f b digits d text n blank one is) h = h n text
behind_asked (name_and_number f b spelling d digits name n blank one is two) h = h name n

-- ---- lines

not_asked : (q r : Request) → q ≡ r → is_asked q ≡ false → is_asked r ≡ true → ⊥
not_asked q r same out in_it = let f : is_asked q ≡ is_asked r = ap is_asked same in cc

arguments_found : (c : Command) (o : Option Request) (r : Request) → unwrap_or o (requests.Bad reasons.Arguments) ≡ r → is_asked r ≡ true →
    o ≡ Some r
arguments_found c (Some q) r e asked = ap (λ (x : Request). Some x) e
arguments_found c None r e asked = absurd (not_asked (requests.Bad reasons.Arguments) r e refl asked)

with_command : (o : Option Command) (words : Option (List ℕ)) (r : Request) → request_with o words ≡ r → is_asked r ≡ true →
    (c : Command) × (o ≡ Some c) × (request_in c words ≡ Some r)
with_command None words r e asked = absurd (not_asked (requests.Bad reasons.Command) r e refl asked)
with_command (Some c) words r e asked = (c, refl, arguments_found c (request_in c words) r e asked)

-- a line with a command's first word asks for what is read after that
pub asks_by : (line : List ℕ) (r : Request) (o : Option (List ℕ × List ℕ)) → cut line ≡ o → length line ≤ 65536 →
    (c : Command) → command_of (word_at line o).0 ≡ Some c → request_in c (word_at line o).1 ≡ Some r → AsksFor line r
asks_by line r None there short c is asks = record {
  short = short;
  command = c;
  behind = [];
  spelled = sym (command_found line c is) ∙ sym (append-nil (word_of c));
  asks = alone_found (form_of c) r asks;
}
asks_by line r (Some p) there short c is asks =
    let h = cut_found line p there in
    record {
      short = short;
      command = c;
      behind = h.blank ∷ p.1;
      spelled = h.whole ∙ ap (λ w. w ++ h.blank ∷ p.1) (sym (command_found p.0 c is));
      asks = with_found (form_of c) h.blank p.1 r h.is asks;
    }

by_word : (line : List ℕ) (r : Request) → length line ≤ 65536 →
    request_with (command_of (first_word line).0) (first_word line).1 ≡ r → is_asked r ≡ true → AsksFor line r
by_word line r short e asked =
    let c = with_command (command_of (first_word line).0) (first_word line).1 r e asked in
    asks_by line r (cut line) refl short c.0 c.1 c.2

line_found : (line : List ℕ) (r : Request) → request_of line ≡ r → is_asked r ≡ true → AsksFor line r
unfolding request_of
line_found line r e asked =
    elim (cases_Bool (nat_lt 65536 (length line))) [
      | inl long ↦ absurd (not_asked (requests.Bad reasons.Long) r (rw long at e) refl asked)
      | inr short ↦ elim (cases_Bool (list_all is_blank line)) [
        | inl blank ↦ absurd (not_asked requests.Nothing r (rw (short, blank) at e) refl asked)
        | inr some ↦ by_word line r (ltb-false 65536 (length line) short) (rw (short, some) at e) asked
      ]
    ]

read_again : (c : Command) (line behind : List ℕ) (r : Request) (words : Option (List ℕ)) → line ≡ word_of c ++ behind → length line ≤ 65536 →
    first_word line ≡ (word_of c, words) → request_in c words ≡ Some r → request_of line ≡ r
unfolding request_of
read_again c line behind r words spelled short first asks =
    let solid : list_all is_blank line ≡ false = ap (list_all is_blank) spelled ∙ not_blank c behind in
    rw (le-ltb 65536 (length line) short, solid, first, command_again c, asks) refl

line_again : (line : List ℕ) (r : Request) → AsksFor line r → request_of line ≡ r
line_again line r h = go (behind_again h.asks) where
  go : Reads (form_of h.command) h.behind r → request_of line ≡ r
  go (inl parts) =
      let alone : line ≡ word_of h.command = h.spelled ∙ (ap (λ l. word_of h.command ++ l) parts.0 ∙ append-nil (word_of h.command)) in
      read_again h.command line h.behind r None h.spelled h.short
      (ap first_word alone ∙ ap (word_at (word_of h.command)) (cut_none (word_of h.command) (solid_word h.command))) parts.1
  go (inr (b, words, is, blank, asks)) =
      let cuts : line ≡ word_of h.command ++ b ∷ words = h.spelled ∙ ap (λ l. word_of h.command ++ l) is in
      read_again h.command line h.behind r (Some words) h.spelled h.short
      (ap (word_at line) (ap cut cuts ∙ cut_again (word_of h.command) b words (solid_word h.command) blank)) asks

pub lines_ask : LinesAsk
lines_ask line r = (
  λ h. line_found line r h.0 h.1,
  λ h. (line_again line r h, behind_asked h.asks (are_asked h.command)),
)
