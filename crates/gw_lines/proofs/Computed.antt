-- Expressions: what is spelled so is read.
use Rattle.std.proofs.Common.{◌≡◌, ℕ, suc, ◌+◌, Bool, true, false, List, [], ◌∷◌, ◌++◌, Option, Some, refl, sym, ap, ◌∙◌, append_assoc, arith}
use Rattle.std.specs.Prelude.{option_and_then, nat_lt}
use Rattle.std.specs.List.{list_all}
use Rattle.std.proofs.lemmas.Bool.{and_parts}
use Rattle.std.proofs.lemmas.Bool.Decides.{nat_tests}
use Rattle.std.proofs.lemmas.List.{append-nil}
use Rattle.gw_expr.specs.declared.atom.Atom.{Atom}
use Rattle.gw_expr.specs.declared.token.Operator.{Operator}
use Rattle.gw_expr.specs.declared.token.Token.{Token}
use Rattle.gw_expr.specs.declared.token.Token.TheVariants as tokens
use Rattle.gw_expr.specs.Expressions.{Expression, Single, Opposite, Both, postfix}
use Rattle.gw_expr.specs.declared.token.Operator.TheVariants as operators
use Rattle.gw_expr.specs.declared.symbol.Symbol.{Symbol}
use Rattle.gw_expr.specs.declared.symbol.Symbol.TheVariants as symbols
use Rattle.gw_lines.specs.declared.expression.Pending.{Pending}
use Rattle.gw_lines.specs.declared.expression.Pending.TheVariants as waits
use Rattle.gw_lines.specs.Atoms.{atom_of}
use Rattle.gw_expr.specs.Symbols.{symbol_of}
use Rattle.gw_lines.specs.Expressions.{State, before, behind, completed, settled, taken, step, run, ended, tokens_of}
use Rattle.gw_lines.specs.Spelling.{SpellsAtom, Multiplies, times, quotient, remainder, Adds, plus, minus, Rank, Factor, Product, Sum, SpellsExpression, a_single, with_minus, in_parentheses, a_factor, multiplied, a_product, summed}
use Rattle.gw_lines.proofs.Values.{no_atom}
use Rattle.gw_lines.proofs.Symbols.{is_word, AreWords, word_byte, atom_words, atom_again}

-- what a text leads to from a state, at its end
abbrev pub outcome : List ℕ → State → Option (List Token)
outcome text s = option_and_then ended (option_and_then taken (run text s))

-- ---- one byte

goes : (b : ℕ) (bs : List ℕ) (s t : State) → step b s ≡ Some t → outcome (b ∷ bs) s ≡ outcome bs t
goes b bs s t e = rw e refl

-- a text whose first byte, if it has one, is a symbol
pub data Ends : List ℕ → Type 0 where
  at_the_end : Ends []
  at_symbol : (b : ℕ) (k : Symbol) (bs : List ℕ) → symbol_of b ≡ Some k → Ends (b ∷ bs)

-- one whose first byte ends a product
pub data Follows : List ℕ → Type 0 where
  nothing_follows : Follows []
  closing_follows : (bs : List ℕ) → Follows (41 ∷ bs)
  plus_follows : (bs : List ℕ) → Follows (43 ∷ bs)
  minus_follows : (bs : List ℕ) → Follows (45 ∷ bs)

ends_of : {text : List ℕ} → Follows text → Ends text
ends_of nothing_follows = at_the_end
ends_of (closing_follows bs) = at_symbol 41 symbols.Closing bs refl
ends_of (plus_follows bs) = at_symbol 43 (symbols.Sum operators.Plus) bs refl
ends_of (minus_follows bs) = at_symbol 45 (symbols.Sum operators.Minus) bs refl

-- ---- a word

abbrev pub reading : List ℕ → ℕ → List Pending → List Token → State
reading word depth ps ts = record { word = word; given = false; depth = depth; pending = ps; tokens = ts }

byte_read : (b : ℕ) (bs word : List ℕ) (depth : ℕ) (ps : List Pending) (ts : List Token) → is_word b ≡ true
    → outcome (b ∷ bs) (reading word depth ps ts) ≡ outcome bs (reading (word ++ b ∷ []) depth ps ts)
byte_read b bs word depth ps ts h = rw (word_byte b h) refl

word_read : (text rest word : List ℕ) (depth : ℕ) (ps : List Pending) (ts : List Token) → AreWords text
    → outcome (text ++ rest) (reading word depth ps ts) ≡ outcome rest (reading (word ++ text) depth ps ts)
word_read [] rest word depth ps ts h =
    ap (λ (w : List ℕ). outcome rest (reading w depth ps ts)) (sym (append-nil word))
word_read (b ∷ bs) rest word depth ps ts h =
    let a = and_parts (is_word b) (list_all is_word bs) h in
    byte_read b (bs ++ rest) word depth ps ts a.0 ∙ word_read bs rest (word ++ b ∷ []) depth ps ts a.1
    ∙ ap (λ (w : List ℕ). outcome rest (reading w depth ps ts)) (append_assoc word (b ∷ []) bs)

-- a state after an operand
pub record IsBehind (s : State) : Type 0 where
  pub depth : ℕ
  pub pending : List Pending
  pub so_far : List Token
  pub is : s ≡ behind depth pending so_far

pub completed_behind : (depth : ℕ) (ps : List Pending) (ts : List Token) → IsBehind (completed depth ps ts)
completed_behind depth [] ts = record { depth = depth; pending = []; so_far = ts; is = refl }
completed_behind depth (waits.Sign ∷ ps) ts = completed_behind depth ps (ts ++ tokens.Negated ∷ [])
completed_behind depth (waits.Product o ∷ ps) ts =
    record { depth = depth; pending = ps; so_far = ts ++ tokens.Applied o ∷ []; is = refl }
completed_behind depth (waits.Opening ∷ ps) ts = record { depth = depth; pending = waits.Opening ∷ ps; so_far = ts; is = refl }
completed_behind depth (waits.Sum o ∷ ps) ts = record { depth = depth; pending = waits.Sum o ∷ ps; so_far = ts; is = refl }

-- a word is taken where it ends
ends_word : {rest : List ℕ} → Ends rest → (s t : State) → taken s ≡ Some t → IsBehind t → outcome rest s ≡ outcome rest t
ends_word at_the_end s t e i = rw (e, i.is) refl
ends_word (at_symbol b k bs h) s t e i = rw (h, e, i.is) refl

atom_taken : (text : List ℕ) (a : Atom) (depth : ℕ) (ps : List Pending) (ts : List Token) → atom_of text ≡ Some a
    → taken (reading text depth ps ts) ≡ Some (completed depth ps (ts ++ tokens.Value a ∷ []))
atom_taken [] a depth ps ts e = absurd (no_atom a e)
atom_taken (b ∷ bs) a depth ps ts e = rw e refl

single_read : (text : List ℕ) (a : Atom) → SpellsAtom text a → (depth : ℕ) (ps : List Pending) (ts : List Token) (rest : List ℕ)
    → Ends rest → outcome (text ++ rest) (before depth ps ts) ≡ outcome rest (completed depth ps (ts ++ tokens.Value a ∷ []))
single_read text a s depth ps ts rest ends =
    word_read text rest [] depth ps ts (atom_words s)
    ∙ ends_word ends (reading text depth ps ts) (completed depth ps (ts ++ tokens.Value a ∷ []))
    (atom_taken text a depth ps ts (atom_again s)) (completed_behind depth ps (ts ++ tokens.Value a ∷ []))

-- ---- what waits

-- a product may begin here
abbrev pub is_wide : List Pending → Bool
is_wide [] = true
is_wide (waits.Opening ∷ ps) = true
is_wide (waits.Sum o ∷ ps) = true
is_wide (p ∷ ps) = false

-- a sum may begin here
abbrev pub is_open : List Pending → Bool
is_open [] = true
is_open (waits.Opening ∷ ps) = true
is_open (p ∷ ps) = false

wide_completed : (depth : ℕ) (ps : List Pending) (ts : List Token) → is_wide ps ≡ true → completed depth ps ts ≡ behind depth ps ts
wide_completed depth [] ts h = refl
wide_completed depth (waits.Opening ∷ ps) ts h = refl
wide_completed depth (waits.Sum o ∷ ps) ts h = refl
wide_completed depth (waits.Sign ∷ ps) ts h = absurd cc
wide_completed depth (waits.Product o ∷ ps) ts h = absurd cc

open_wide : (ps : List Pending) → is_open ps ≡ true → is_wide ps ≡ true
open_wide [] h = refl
open_wide (waits.Opening ∷ ps) h = refl
open_wide (waits.Sum o ∷ ps) h = absurd cc
open_wide (waits.Sign ∷ ps) h = absurd cc
open_wide (waits.Product o ∷ ps) h = absurd cc

open_settled : (depth : ℕ) (ps : List Pending) (ts : List Token) → is_open ps ≡ true → settled depth ps ts ≡ behind depth ps ts
open_settled depth [] ts h = refl
open_settled depth (waits.Opening ∷ ps) ts h = refl
open_settled depth (waits.Sum o ∷ ps) ts h = absurd cc
open_settled depth (waits.Sign ∷ ps) ts h = absurd cc
open_settled depth (waits.Product o ∷ ps) ts h = absurd cc

-- the sum before a product is done with at what follows
sum_settled : {rest : List ℕ} → Follows rest → (o : Operator) (depth : ℕ) (ps : List Pending) (ts : List Token) → is_open ps ≡ true
    → outcome rest (behind depth (waits.Sum o ∷ ps) ts) ≡ outcome rest (behind depth ps (ts ++ tokens.Applied o ∷ []))
sum_settled nothing_follows o depth ps ts h = rw (open_settled depth ps (ts ++ tokens.Applied o ∷ []) h) refl
sum_settled (closing_follows bs) o depth ps ts h = rw (open_settled depth ps (ts ++ tokens.Applied o ∷ []) h) refl
sum_settled (plus_follows bs) o depth ps ts h = rw (open_settled depth ps (ts ++ tokens.Applied o ∷ []) h) refl
sum_settled (minus_follows bs) o depth ps ts h = rw (open_settled depth ps (ts ++ tokens.Applied o ∷ []) h) refl

-- ---- operators

product_ends : {b : ℕ} {o : Operator} → Multiplies b o → symbol_of b ≡ Some (symbols.Product o)
product_ends times = refl
product_ends quotient = refl
product_ends remainder = refl

sum_follows : {b : ℕ} {o : Operator} → Adds b o → (bs : List ℕ) → Follows (b ∷ bs)
sum_follows plus bs = plus_follows bs
sum_follows minus bs = minus_follows bs

product_step : {b : ℕ} {o : Operator} → Multiplies b o → (depth : ℕ) (ps : List Pending) (ts : List Token)
    → step b (behind depth ps ts) ≡ Some (before depth (waits.Product o ∷ ps) ts)
product_step times depth ps ts = refl
product_step quotient depth ps ts = refl
product_step remainder depth ps ts = refl

sum_step : {b : ℕ} {o : Operator} → Adds b o → (depth : ℕ) (ps : List Pending) (ts : List Token) → is_open ps ≡ true
    → step b (behind depth ps ts) ≡ Some (before depth (waits.Sum o ∷ ps) ts)
sum_step plus depth ps ts h = rw (open_settled depth ps ts h) refl
sum_step minus depth ps ts h = rw (open_settled depth ps ts h) refl

has_room : (room depth : ℕ) → suc room + depth ≡ 32 → nat_lt depth 32 ≡ true
has_room room depth h = grind (arith, nat_tests)

opening_step : (room depth : ℕ) (ps : List Pending) (ts : List Token) → suc room + depth ≡ 32
    → step 40 (before depth ps ts) ≡ Some (before (suc depth) (waits.Opening ∷ ps) ts)
opening_step room depth ps ts h = rw (has_room room depth h) refl

-- ---- expressions

-- how a text is read that spells an expression
abbrev pub Reads : Rank → ℕ → List ℕ → Expression → Type 0
Reads Factor room text e =
    (depth : ℕ) (ps : List Pending) (ts : List Token) (rest : List ℕ) → room + depth ≡ 32 → Ends rest
    → outcome (text ++ rest) (before depth ps ts) ≡ outcome rest (completed depth ps (ts ++ postfix e))
Reads Product room text e =
    (depth : ℕ) (ps : List Pending) (ts : List Token) (rest : List ℕ) → room + depth ≡ 32 → Ends rest → is_wide ps ≡ true
    → outcome (text ++ rest) (before depth ps ts) ≡ outcome rest (behind depth ps (ts ++ postfix e))
Reads Sum room text e =
    (depth : ℕ) (ps : List Pending) (ts : List Token) (rest : List ℕ) → room + depth ≡ 32 → Follows rest → is_open ps ≡ true
    → outcome (text ++ rest) (before depth ps ts) ≡ outcome rest (behind depth ps (ts ++ postfix e))

-- a state with tokens put together otherwise
same_tokens : (rest : List ℕ) (depth : ℕ) (ps : List Pending) (a b : List Token) → a ≡ b
    → outcome rest (behind depth ps a) ≡ outcome rest (behind depth ps b)
same_tokens rest depth ps a b e = ap (λ (t : List Token). outcome rest (behind depth ps t)) e

pub three : (ts a b c : List Token) → ((ts ++ a) ++ b) ++ c ≡ ts ++ (a ++ (b ++ c))
three ts a b c = append_assoc (ts ++ a) b c ∙ append_assoc ts a (b ++ c)

pub deeper : (room depth : ℕ) → suc room + depth ≡ 32 → room + suc depth ≡ 32
deeper room depth h = omega arith

parenthesised : (room : ℕ) (text : List ℕ) (e : Expression) → Reads Sum room text e → Reads Factor (suc room) (40 ∷ (text ++ 41 ∷ [])) e
parenthesised room text e ih = λ depth ps ts rest fits ends.
    goes 40 ((text ++ 41 ∷ []) ++ rest) (before depth ps ts) (before (suc depth) (waits.Opening ∷ ps) ts)
    (opening_step room depth ps ts fits)
    ∙ ap (λ (t : List ℕ). outcome t (before (suc depth) (waits.Opening ∷ ps) ts)) (append_assoc text (41 ∷ []) rest)
    ∙ ih (suc depth) (waits.Opening ∷ ps) ts (41 ∷ rest) (deeper room depth fits) (closing_follows rest) refl
    ∙ goes 41 rest (behind (suc depth) (waits.Opening ∷ ps) (ts ++ postfix e)) (completed depth ps (ts ++ postfix e)) refl

multiplied_so : (room : ℕ) (left : List ℕ) (e : Expression) (b : ℕ) (o : Operator) (right : List ℕ) (f : Expression)
    → Reads Product room left e → Multiplies b o → Reads Factor room right f → Reads Product room (left ++ b ∷ right) (Both o e f)
multiplied_so room left e b o right f first m second = λ depth ps ts rest fits ends wide.
    ap (λ (t : List ℕ). outcome t (before depth ps ts)) (append_assoc left (b ∷ right) rest)
    ∙ first depth ps ts (b ∷ (right ++ rest)) fits (at_symbol b (symbols.Product o) (right ++ rest) (product_ends m)) wide
    ∙ goes b (right ++ rest) (behind depth ps (ts ++ postfix e)) (before depth (waits.Product o ∷ ps) (ts ++ postfix e))
    (product_step m depth ps (ts ++ postfix e))
    ∙ second depth (waits.Product o ∷ ps) (ts ++ postfix e) rest fits ends
    ∙ same_tokens rest depth ps _ _ (three ts (postfix e) (postfix f) (tokens.Applied o ∷ []))

summed_so : (room : ℕ) (left : List ℕ) (e : Expression) (b : ℕ) (o : Operator) (right : List ℕ) (f : Expression)
    → Reads Sum room left e → Adds b o → Reads Product room right f → Reads Sum room (left ++ b ∷ right) (Both o e f)
summed_so room left e b o right f first m second = λ depth ps ts rest fits follows open_.
    ap (λ (t : List ℕ). outcome t (before depth ps ts)) (append_assoc left (b ∷ right) rest)
    ∙ first depth ps ts (b ∷ (right ++ rest)) fits (sum_follows m (right ++ rest)) open_
    ∙ goes b (right ++ rest) (behind depth ps (ts ++ postfix e)) (before depth (waits.Sum o ∷ ps) (ts ++ postfix e))
    (sum_step m depth ps (ts ++ postfix e) open_)
    ∙ second depth (waits.Sum o ∷ ps) (ts ++ postfix e) rest fits (ends_of follows) refl
    ∙ sum_settled follows o depth ps ((ts ++ postfix e) ++ postfix f) open_
    ∙ same_tokens rest depth ps _ _ (three ts (postfix e) (postfix f) (tokens.Applied o ∷ []))

opposite_so : (room : ℕ) (text : List ℕ) (e : Expression) → Reads Factor room text e → Reads Factor room (45 ∷ text) (Opposite e)
opposite_so room text e ih = λ depth ps ts rest fits ends.
    goes 45 (text ++ rest) (before depth ps ts) (before depth (waits.Sign ∷ ps) ts) refl
    ∙ ih depth (waits.Sign ∷ ps) ts rest fits ends
    ∙ ap (λ (t : List Token). outcome rest (completed depth ps t)) (append_assoc ts (postfix e) (tokens.Negated ∷ []))

factor_so : (room : ℕ) (text : List ℕ) (e : Expression) → Reads Factor room text e → Reads Product room text e
factor_so room text e ih = λ depth ps ts rest fits ends wide.
    ih depth ps ts rest fits ends ∙ ap (outcome rest) (wide_completed depth ps (ts ++ postfix e) wide)

product_so : (room : ℕ) (text : List ℕ) (e : Expression) → Reads Product room text e → Reads Sum room text e
product_so room text e ih = λ depth ps ts rest fits follows open_.
    ih depth ps ts rest fits (ends_of follows) (open_wide ps open_)

single_so : (room : ℕ) (text : List ℕ) (a : Atom) → SpellsAtom text a → Reads Factor room text (Single a)
single_so room text a s = λ depth ps ts rest fits ends. single_read text a s depth ps ts rest ends

reads : {rank : Rank} {room : ℕ} {text : List ℕ} {e : Expression} → SpellsExpression rank room text e → Reads rank room text e
reads (a_single room text a s) = single_so room text a s
reads (with_minus room text e s) = opposite_so room text e (reads s)
reads (in_parentheses room text e s) = parenthesised room text e (reads s)
reads (a_factor room text e s) = factor_so room text e (reads s)
reads (multiplied room left e b o right f s m t) = multiplied_so room left e b o right f (reads s) m (reads t)
reads (a_product room text e s) = product_so room text e (reads s)
reads (summed room left e b o right f s m t) = summed_so room left e b o right f (reads s) m (reads t)

-- what spells an expression is read as its tokens
pub tokens_again : (most depth : ℕ) → most + depth ≡ 32 → (text : List ℕ) (e : Expression) → SpellsExpression Sum most text e →
    tokens_of depth text ≡ Some (postfix e)
unfolding tokens_of
tokens_again most depth fits text e s =
    ap (λ (t : List ℕ). outcome t (before depth [] [])) (sym (append-nil text)) ∙ reads s depth [] [] [] fits nothing_follows refl
