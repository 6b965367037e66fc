-- Expressions: what is read is spelled so.
use Rattle.std.proofs.Common.{◌≡◌, ℕ, zero, suc, ◌+◌, Bool, true, false, List, [], ◌∷◌, ◌++◌, Option, Some, None, refl, sym, ap, subst, ◌∙◌, append_assoc, inl, inr, arith}
use Rattle.std.specs.Prelude.{option_and_then, nat_lt}
use Rattle.std.proofs.lemmas.Bool.{cases_Bool}
use Rattle.std.proofs.lemmas.Bool.Decides.{nat_tests}
use Rattle.std.proofs.lemmas.List.{append-nil}
use Rattle.gw_expr.specs.declared.atom.Atom.{Atom}
use Rattle.gw_expr.specs.declared.token.Operator.{Operator}
use Rattle.gw_expr.specs.declared.token.Operator.TheVariants as operators
use Rattle.gw_expr.specs.declared.token.Token.{Token}
use Rattle.gw_expr.specs.declared.token.Token.TheVariants as tokens
use Rattle.gw_expr.specs.Expressions.{Expression, Single, Opposite, Both, postfix}
use Rattle.gw_expr.specs.declared.symbol.Symbol.{Symbol}
use Rattle.gw_expr.specs.declared.symbol.Symbol.TheVariants as symbols
use Rattle.gw_lines.specs.declared.expression.Pending.{Pending}
use Rattle.gw_lines.specs.declared.expression.Pending.TheVariants as waits
use Rattle.gw_lines.specs.Atoms.{atom_of}
use Rattle.gw_lines.specs.Expressions.{State, before, behind, completed, settled, with_atom, taken, added, closed, with_symbol, by_kind, step, run, all_closed, ended, tokens_of}
use Rattle.gw_lines.specs.Spelling.{Multiplies, Adds, plus, minus, Rank, Factor, Product, Sum, SpellsExpression, a_single, with_minus, in_parentheses, a_factor, multiplied, a_product, summed}
use Rattle.gw_lines.proofs.Results.{some, some_is}
use Rattle.gw_lines.proofs.Symbols.{IsSymbol, opening, closing, adding, taking, multiplying, Kinds, a_symbol, a_byte, kind_of, is_word, AreWords, both_words, one_word, atom_found}
use Rattle.gw_lines.proofs.Computed.{reading, deeper, three}

-- ---- what waits for an operand

-- whether a product may begin where this may
abbrev is_high : Rank → Bool
is_high Sum = true
is_high Product = true
is_high Factor = false

-- what waits, in so much room and after so many open parentheses, with the text before the operand and its tokens
data Waits (most : ℕ) : Rank → ℕ → ℕ → List Pending → List ℕ → List Token → Type 0 where
  outermost : (depth : ℕ) → most + depth ≡ 32 → Waits most Sum most depth [] [] []
  within : (rank : Rank) (room depth : ℕ) (ps : List Pending) (text : List ℕ) (ts : List Token)
      → Waits most rank (suc room) depth ps text ts → Waits most Sum room (suc depth) (waits.Opening ∷ ps) (text ++ 40 ∷ []) ts
  behind_sum : (room depth : ℕ) (ps : List Pending) (text : List ℕ) (ts : List Token) (left : List ℕ) (e : Expression) (b : ℕ)
      (o : Operator) → Waits most Sum room depth ps text ts → SpellsExpression Sum room left e → Adds b o
      → Waits most Product room depth (waits.Sum o ∷ ps) (text ++ (left ++ b ∷ [])) (ts ++ postfix e)
  behind_product : (rank : Rank) (room depth : ℕ) (ps : List Pending) (text : List ℕ) (ts : List Token) (left : List ℕ)
      (e : Expression) (b : ℕ) (o : Operator) → is_high rank ≡ true → Waits most rank room depth ps text ts
      → SpellsExpression Product room left e → Multiplies b o
      → Waits most Factor room depth (waits.Product o ∷ ps) (text ++ (left ++ b ∷ [])) (ts ++ postfix e)
  behind_sign : (rank : Rank) (room depth : ℕ) (ps : List Pending) (text : List ℕ) (ts : List Token)
      → Waits most rank room depth ps text ts → Waits most Factor room depth (waits.Sign ∷ ps) (text ++ 45 ∷ []) ts

rooms : {most : ℕ} {rank : Rank} {room depth : ℕ} {ps : List Pending} {text : List ℕ} {ts : List Token} → Waits most rank room depth ps text ts
    → room + depth ≡ 32
rooms (outermost depth h) = h
rooms (within rank room depth ps text ts w) = deeper room depth (rooms w)
rooms (behind_sum room depth ps text ts left e b o w s a) = rooms w
rooms (behind_product rank room depth ps text ts left e b o h w s m) = rooms w
rooms (behind_sign rank room depth ps text ts w) = rooms w

-- after a product, up to which the text and the tokens go
record Stands (most : ℕ) (room depth : ℕ) (ps : List Pending) (text : List ℕ) (ts : List Token) : Type 0 where
  rank : Rank
  high : is_high rank ≡ true
  first : List ℕ
  so_far : List Token
  waits_ : Waits most rank room depth ps first so_far
  left : List ℕ
  e : Expression
  spells : SpellsExpression Product room left e
  text_is : text ≡ first ++ left
  tokens_is : ts ≡ so_far ++ postfix e

-- after a sum
record Sums (most : ℕ) (room depth : ℕ) (ps : List Pending) (text : List ℕ) (ts : List Token) : Type 0 where
  first : List ℕ
  so_far : List Token
  waits_ : Waits most Sum room depth ps first so_far
  left : List ℕ
  e : Expression
  spells : SpellsExpression Sum room left e
  text_is : text ≡ first ++ left
  tokens_is : ts ≡ so_far ++ postfix e

-- a state in which an operand is complete
record Complete (most : ℕ) (room : ℕ) (text : List ℕ) (s : State) : Type 0 where
  depth : ℕ
  ps : List Pending
  ts : List Token
  is : s ≡ behind depth ps ts
  stands : Stands most room depth ps text ts

apart : (text left : List ℕ) (b : ℕ) (f : List ℕ) → (text ++ (left ++ b ∷ [])) ++ f ≡ text ++ (left ++ b ∷ f)
apart text left b f =
    append_assoc text (left ++ b ∷ []) f ∙ ap (λ (t : List ℕ). text ++ t) (append_assoc left (b ∷ []) f)

-- where a product may begin, a factor is one
begins : {most : ℕ} {rank : Rank} {room depth : ℕ} {ps : List Pending} {text : List ℕ} {ts : List Token} → is_high rank ≡ true
    → Waits most rank room depth ps text ts → (f : List ℕ) (e : Expression) → SpellsExpression Factor room f e
    → Complete most room (text ++ f) (behind depth ps (ts ++ postfix e))
begins {most} {rank} {room} {depth} {ps} {text} {ts} high w f e s = record {
  depth = depth;
  ps = ps;
  ts = ts ++ postfix e;
  is = refl;
  stands = record {
    rank = rank;
    high = high;
    first = text;
    so_far = ts;
    waits_ = w;
    left = f;
    e = e;
    spells = a_factor room f e s;
    text_is = refl;
    tokens_is = refl;
  };
}

completes : {most : ℕ} {rank : Rank} {room depth : ℕ} {ps : List Pending} {text : List ℕ} {ts : List Token}
    → Waits most rank room depth ps text ts → (f : List ℕ) (e : Expression) → SpellsExpression Factor room f e
    → Complete most room (text ++ f) (completed depth ps (ts ++ postfix e))
completes (outermost depth h) f e s = begins refl (outermost depth h) f e s
completes (within rank room depth ps text ts w) f e s = begins refl (within rank room depth ps text ts w) f e s
completes (behind_sum room depth ps text ts left g b o w t a) f e s =
    begins refl (behind_sum room depth ps text ts left g b o w t a) f e s
completes (behind_product rank room depth ps text ts left g b o high w t m) f e s = record {
  depth = depth;
  ps = ps;
  ts = ((ts ++ postfix g) ++ postfix e) ++ tokens.Applied o ∷ [];
  is = refl;
  stands = record {
    rank = rank;
    high = high;
    first = text;
    so_far = ts;
    waits_ = w;
    left = left ++ b ∷ f;
    e = Both o g e;
    spells = multiplied room left g b o f e t m s;
    text_is = apart text left b f;
    tokens_is = three ts (postfix g) (postfix e) (tokens.Applied o ∷ []);
  };
}
completes {most} (behind_sign rank room depth ps text ts w) f e s =
    let ih = completes w (45 ∷ f) (Opposite e) (with_minus room f e s) in
    subst (λ (t : List ℕ). Complete most room t (completed depth (waits.Sign ∷ ps) (ts ++ postfix e)))
    (sym (append_assoc text (45 ∷ []) f))
    (subst (λ (t : List Token). Complete most room (text ++ 45 ∷ f) (completed depth ps t))
    (sym (append_assoc ts (postfix e) (tokens.Negated ∷ []))) ih)

-- a state in which a sum is complete
record Summed (most : ℕ) (room : ℕ) (text : List ℕ) (s : State) : Type 0 where
  depth : ℕ
  ps : List Pending
  ts : List Token
  is : s ≡ behind depth ps ts
  sums : Sums most room depth ps text ts

-- a product that is a sum
alone : {most : ℕ} {room depth : ℕ} {ps : List Pending} {first : List ℕ} {so_far : List Token} → Waits most Sum room depth ps first so_far
    → (left : List ℕ) (e : Expression) → SpellsExpression Product room left e
    → Summed most room (first ++ left) (behind depth ps (so_far ++ postfix e))
alone {most} {room} {depth} {ps} {first} {so_far} w left e s = record {
  depth = depth;
  ps = ps;
  ts = so_far ++ postfix e;
  is = refl;
  sums = record {
    first = first;
    so_far = so_far;
    waits_ = w;
    left = left;
    e = e;
    spells = a_product room left e s;
    text_is = refl;
    tokens_is = refl;
  };
}

settles_by : {most : ℕ} {rank : Rank} {room depth : ℕ} {ps : List Pending} {first : List ℕ} {so_far : List Token}
    → is_high rank ≡ true → Waits most rank room depth ps first so_far → (left : List ℕ) (e : Expression)
    → SpellsExpression Product room left e → Summed most room (first ++ left) (settled depth ps (so_far ++ postfix e))
settles_by h (outermost depth k) left e s = alone (outermost depth k) left e s
settles_by h (within rank room depth ps text ts w) left e s = alone (within rank room depth ps text ts w) left e s
settles_by h (behind_sum room depth ps text ts left g b o w t a) f e s = record {
  depth = depth;
  ps = ps;
  ts = ((ts ++ postfix g) ++ postfix e) ++ tokens.Applied o ∷ [];
  is = refl;
  sums = record {
    first = text;
    so_far = ts;
    waits_ = w;
    left = left ++ b ∷ f;
    e = Both o g e;
    spells = summed room left g b o f e t a s;
    text_is = apart text left b f;
    tokens_is = three ts (postfix g) (postfix e) (tokens.Applied o ∷ []);
  };
}
settles_by h (behind_product rank room depth ps text ts left g b o high w t m) f e s = absurd cc
settles_by h (behind_sign rank room depth ps text ts w) f e s = absurd cc

settles : {most : ℕ} {room depth : ℕ} {ps : List Pending} {text : List ℕ} {ts : List Token} → Stands most room depth ps text ts
    → Summed most room text (settled depth ps ts)
settles {most} {room} {depth} {ps} {text} {ts} s =
    subst (λ (t : List ℕ). Summed most room t (settled depth ps ts)) (sym s.text_is)
    (subst (λ (t : List Token). Summed most room (s.first ++ s.left) (settled depth ps t)) (sym s.tokens_is)
    (settles_by s.high s.waits_ s.left s.e s.spells))

-- ---- where reading stands

-- with no word begun: before an operand, or after one
data Clean (most : ℕ) : State → List ℕ → Type 0 where
  clean_before : (rank : Rank) (room depth : ℕ) (ps : List Pending) (text : List ℕ) (ts : List Token)
      → Waits most rank room depth ps text ts → Clean most (before depth ps ts) text
  clean_behind : (room depth : ℕ) (ps : List Pending) (text : List ℕ) (ts : List Token)
      → Stands most room depth ps text ts → Clean most (behind depth ps ts) text

abbrev worded : List ℕ → ℕ → List Pending → List Token → State
worded word depth ps ts = record { word = word; given = true; depth = depth; pending = ps; tokens = ts }

data At (most : ℕ) : State → List ℕ → Type 0 where
  at_before : (rank : Rank) (room depth : ℕ) (ps : List Pending) (text : List ℕ) (ts : List Token) (word : List ℕ)
      → Waits most rank room depth ps text ts → AreWords word → At most (reading word depth ps ts) (text ++ word)
  at_behind : (room depth : ℕ) (ps : List Pending) (text : List ℕ) (ts : List Token) (word : List ℕ)
      → Stands most room depth ps text ts → At most (worded word depth ps ts) (text ++ word)

at_clean : {most : ℕ} {s : State} {text : List ℕ} → Clean most s text → At most s text
at_clean {most} (clean_before rank room depth ps text ts w) =
    subst (λ (t : List ℕ). At most (before depth ps ts) t) (append-nil text) (at_before rank room depth ps text ts [] w refl)
at_clean {most} (clean_behind room depth ps text ts s) =
    subst (λ (t : List ℕ). At most (behind depth ps ts) t) (append-nil text) (at_behind room depth ps text ts [] s)

clean_complete : {most : ℕ} {room : ℕ} {text : List ℕ} {s : State} → Complete most room text s → Clean most s text
clean_complete {most} {room} {text} c =
    subst (λ (x : State). Clean most x text) (sym c.is) (clean_behind room c.depth c.ps text c.ts c.stands)

same_clean : {most : ℕ} {s t : State} {text : List ℕ} → some s ≡ Some t → Clean most s text → Clean most t text
same_clean {most} {s} {t} {text} e c = subst (λ (x : State). Clean most x text) (some_is s t e) c

-- ---- a word is taken

atom_taken : {most : ℕ} {rank : Rank} {room depth : ℕ} {ps : List Pending} {text : List ℕ} {ts : List Token}
    → Waits most rank room depth ps text ts → (word : List ℕ) → AreWords word → (read : Option Atom) → atom_of word ≡ read
    → (u : State) → with_atom read (reading word depth ps ts) ≡ Some u → Clean most u (text ++ word)
atom_taken w word h None is u e = absurd cc
atom_taken {room = room} w word h (Some a) is u e =
    same_clean e (clean_complete (completes w word (Single a) (a_single room word a (atom_found word a h is))))

takes : {most : ℕ} {s : State} {text : List ℕ} → At most s text → (u : State) → taken s ≡ Some u → Clean most u text
takes {most} (at_before rank room depth ps text ts [] w h) u e =
    subst (λ (t : List ℕ). Clean most u t) (sym (append-nil text)) (same_clean e (clean_before rank room depth ps text ts w))
takes (at_before rank room depth ps text ts (b ∷ bs) w h) u e = atom_taken w (b ∷ bs) h (atom_of (b ∷ bs)) refl u e
takes {most} (at_behind room depth ps text ts [] s) u e =
    subst (λ (t : List ℕ). Clean most u t) (sym (append-nil text)) (same_clean e (clean_behind room depth ps text ts s))
takes (at_behind room depth ps text ts (b ∷ bs) s) u e = absurd cc

-- ---- a symbol

no_room : (depth : ℕ) → zero + depth ≡ 32 → nat_lt depth 32 ≡ true → ⊥
no_room depth h k = grind (arith, nat_tests)

opens_in : {most : ℕ} {rank : Rank} (room : ℕ) {depth : ℕ} {ps : List Pending} {text : List ℕ} {ts : List Token}
    → Waits most rank room depth ps text ts → nat_lt depth 32 ≡ true
    → Clean most (before (suc depth) (waits.Opening ∷ ps) ts) (text ++ 40 ∷ [])
opens_in zero {depth} w h = absurd (no_room depth (rooms w) h)
opens_in {most} {rank} (suc room) {depth} {ps} {text} {ts} w h =
    clean_before Sum room (suc depth) (waits.Opening ∷ ps) (text ++ 40 ∷ []) ts (within rank room depth ps text ts w)

opens : {most : ℕ} {rank : Rank} {room depth : ℕ} {ps : List Pending} {text : List ℕ} {ts : List Token}
    → Waits most rank room depth ps text ts → (t : State) → with_symbol symbols.Opening (before depth ps ts) ≡ Some t
    → Clean most t (text ++ 40 ∷ [])
opens {room = room} {depth} w t e =
    elim (cases_Bool (nat_lt depth 32)) [
      | inl holds ↦ same_clean (rw holds at e) (opens_in room w holds)
      | inr other ↦ absurd (let f = rw other at e in cc)
    ]

spanned : (text left : List ℕ) → ((text ++ 40 ∷ []) ++ left) ++ 41 ∷ [] ≡ text ++ 40 ∷ (left ++ 41 ∷ [])
spanned text left = append_assoc (text ++ 40 ∷ []) left (41 ∷ []) ∙ append_assoc text (40 ∷ []) (left ++ 41 ∷ [])

closes_in : {most : ℕ} {room depth : ℕ} {ps : List Pending} {text : List ℕ} {ts : List Token} → Waits most Sum room depth ps text ts
    → (left : List ℕ) (e : Expression) → SpellsExpression Sum room left e → (t : State)
    → closed depth ps (ts ++ postfix e) ≡ Some t → Clean most t ((text ++ left) ++ 41 ∷ [])
closes_in (outermost depth k) left e s t h = absurd cc
closes_in {most} (within rank room depth ps text ts w) left e s t h =
    subst (λ (x : List ℕ). Clean most t x) (sym (spanned text left))
    (same_clean h (clean_complete (completes w (40 ∷ (left ++ 41 ∷ [])) e (in_parentheses room left e s))))

closes_by : {most : ℕ} {room depth : ℕ} {ps : List Pending} {text : List ℕ} {ts : List Token} → Sums most room depth ps text ts → (t : State)
    → closed depth ps ts ≡ Some t → Clean most t (text ++ 41 ∷ [])
closes_by {most} {depth = depth} {ps} s t h =
    subst (λ (x : List ℕ). Clean most t (x ++ 41 ∷ [])) (sym s.text_is)
    (closes_in s.waits_ s.left s.e s.spells t (ap (closed depth ps) (sym s.tokens_is) ∙ h))

closes : {most : ℕ} {room depth : ℕ} {ps : List Pending} {text : List ℕ} {ts : List Token} → Stands most room depth ps text ts → (t : State)
    → with_symbol symbols.Closing (behind depth ps ts) ≡ Some t → Clean most t (text ++ 41 ∷ [])
closes s t h = let c = settles s in closes_by c.sums t (rw c.is at h)

adds_by : {most : ℕ} {room depth : ℕ} {ps : List Pending} {text : List ℕ} {ts : List Token} → Sums most room depth ps text ts
    → (b : ℕ) (o : Operator) → Adds b o → Clean most (before depth (waits.Sum o ∷ ps) ts) (text ++ b ∷ [])
adds_by {most} {room} {depth} {ps} {text} {ts} s b o a =
    subst (λ (x : List ℕ). Clean most (before depth (waits.Sum o ∷ ps) ts) (x ++ b ∷ [])) (sym s.text_is)
    (subst (λ (x : List ℕ). Clean most (before depth (waits.Sum o ∷ ps) ts) x) (sym (append_assoc s.first s.left (b ∷ [])))
    (subst (λ (x : List Token). Clean most (before depth (waits.Sum o ∷ ps) x) (s.first ++ (s.left ++ b ∷ []))) (sym s.tokens_is)
    (clean_before Product room depth (waits.Sum o ∷ ps) _ _
    (behind_sum room depth ps s.first s.so_far s.left s.e b o s.waits_ s.spells a))))

adds : {most : ℕ} {room depth : ℕ} {ps : List Pending} {text : List ℕ} {ts : List Token} → Stands most room depth ps text ts
    → (b : ℕ) (o : Operator) → Adds b o → (t : State) → some (added o (settled depth ps ts)) ≡ Some t → Clean most t (text ++ b ∷ [])
adds s b o a t h = let c = settles s in same_clean (rw c.is at h) (adds_by c.sums b o a)

multiplies : {most : ℕ} {room depth : ℕ} {ps : List Pending} {text : List ℕ} {ts : List Token} → Stands most room depth ps text ts
    → (b : ℕ) (o : Operator) → Multiplies b o → Clean most (before depth (waits.Product o ∷ ps) ts) (text ++ b ∷ [])
multiplies {most} {room} {depth} {ps} {text} {ts} s b o m =
    subst (λ (x : List ℕ). Clean most (before depth (waits.Product o ∷ ps) ts) (x ++ b ∷ [])) (sym s.text_is)
    (subst (λ (x : List ℕ). Clean most (before depth (waits.Product o ∷ ps) ts) x) (sym (append_assoc s.first s.left (b ∷ [])))
    (subst (λ (x : List Token). Clean most (before depth (waits.Product o ∷ ps) x) (s.first ++ (s.left ++ b ∷ []))) (sym s.tokens_is)
    (clean_before Factor room depth (waits.Product o ∷ ps) _ _
    (behind_product s.rank room depth ps s.first s.so_far s.left s.e b o s.high s.waits_ s.spells m))))

symbol_read : {most : ℕ} {s : State} {text : List ℕ} → Clean most s text → {b : ℕ} {k : Symbol} → IsSymbol b k → (t : State)
    → with_symbol k s ≡ Some t → Clean most t (text ++ b ∷ [])
symbol_read (clean_before rank room depth ps text ts w) opening t h = opens w t h
symbol_read (clean_before rank room depth ps text ts w) closing t h = absurd cc
symbol_read (clean_before rank room depth ps text ts w) adding t h = absurd cc
symbol_read (clean_before rank room depth ps text ts w) taking t h =
    same_clean h (clean_before Factor room depth (waits.Sign ∷ ps) (text ++ 45 ∷ []) ts (behind_sign rank room depth ps text ts w))
symbol_read (clean_before rank room depth ps text ts w) (multiplying b o m) t h = absurd cc
symbol_read (clean_behind room depth ps text ts s) opening t h = absurd cc
symbol_read (clean_behind room depth ps text ts s) closing t h = closes s t h
symbol_read (clean_behind room depth ps text ts s) adding t h = adds s 43 operators.Plus plus t h
symbol_read (clean_behind room depth ps text ts s) taking t h = adds s 45 operators.Minus minus t h
symbol_read (clean_behind room depth ps text ts s) (multiplying b o m) t h = same_clean h (multiplies s b o m)

-- ---- a text

pub then_some : {A B : Type 0} (f : A → Option B) (o : Option A) (y : B) → option_and_then f o ≡ Some y
    → (x : A) × (o ≡ Some x) × (f x ≡ Some y)
then_some f None y e = absurd cc
then_some f (Some x) y e = (x, refl, e)

byte_read : {most : ℕ} {s : State} {text : List ℕ} → At most s text → (b : ℕ) → is_word b ≡ true → (t : State) → by_kind None b s ≡ Some t
    → At most t (text ++ b ∷ [])
byte_read {most} (at_before rank room depth ps text ts word w h) b k t e =
    subst (λ (x : State). At most x ((text ++ word) ++ b ∷ [])) (some_is _ t e)
    (subst (λ (x : List ℕ). At most (reading (word ++ b ∷ []) depth ps ts) x) (sym (append_assoc text word (b ∷ [])))
    (at_before rank room depth ps text ts (word ++ b ∷ []) w (both_words word (b ∷ []) h (one_word b k))))
byte_read {most} (at_behind room depth ps text ts word s) b k t e =
    subst (λ (x : State). At most x ((text ++ word) ++ b ∷ [])) (some_is _ t e)
    (subst (λ (x : List ℕ). At most (worded (word ++ b ∷ []) depth ps ts) x) (sym (append_assoc text word (b ∷ [])))
    (at_behind room depth ps text ts (word ++ b ∷ []) s))

kind_read : {most : ℕ} {s : State} {text : List ℕ} → At most s text → {b : ℕ} {k : Option Symbol} → Kinds b k → (t : State) → by_kind k b s ≡ Some t
    → At most t (text ++ b ∷ [])
kind_read a (a_byte b h) t e = byte_read a b h t e
kind_read {most} {s} a (a_symbol b k i) t e =
    let u = then_some (with_symbol k) (taken s) t e in at_clean (symbol_read (takes a u.0 u.1) i t u.2)

runs : {most : ℕ} (bytes : List ℕ) {s : State} {text : List ℕ} → At most s text → (t : State) → run bytes s ≡ Some t → At most t (text ++ bytes)
runs {most} [] {s} {text} a t e =
    subst (λ (x : List ℕ). At most t x) (sym (append-nil text)) (subst (λ (x : State). At most x text) (some_is s t e) a)
runs {most} (b ∷ bs) {s} {text} a t e =
    let u = then_some (λ v. run bs v) (step b s) t e in
    subst (λ (x : List ℕ). At most t x) (append_assoc text (b ∷ []) bs) (runs bs (kind_read a (kind_of b) u.0 u.1) t u.2)

-- what spells an expression of these tokens, in which so many parentheses may be open at once
abbrev pub SpellsTokens : ℕ → List ℕ → List Token → Type 0
SpellsTokens most text ts = (e : Expression) × SpellsExpression Sum most text e × (postfix e ≡ ts)

all_spelled : {most : ℕ} {room depth : ℕ} {ps : List Pending} {text : List ℕ} {ts : List Token} → Waits most Sum room depth ps text ts
    → (left : List ℕ) (e : Expression) → SpellsExpression Sum room left e → (read : List Token)
    → all_closed ps (ts ++ postfix e) ≡ Some read → SpellsTokens most (text ++ left) read
all_spelled (outermost depth k) left e s read h = (e, s, some_is (postfix e) read h)
all_spelled (within rank room depth ps text ts w) left e s read h = absurd cc

sum_spelled : {most : ℕ} {room depth : ℕ} {ps : List Pending} {text : List ℕ} {ts : List Token} → Sums most room depth ps text ts
    → (read : List Token) → all_closed ps ts ≡ Some read → SpellsTokens most text read
sum_spelled {most} {ps = ps} s read h =
    subst (λ (x : List ℕ). SpellsTokens most x read) (sym s.text_is)
    (all_spelled s.waits_ s.left s.e s.spells read (ap (all_closed ps) (sym s.tokens_is) ∙ h))

end_found : {most : ℕ} {s : State} {text : List ℕ} → Clean most s text → (read : List Token) → ended s ≡ Some read → SpellsTokens most text read
end_found (clean_before rank room depth ps text ts w) read h = absurd cc
end_found (clean_behind room depth ps text ts s) read h = let c = settles s in sum_spelled c.sums read (rw c.is at h)

-- what is read as tokens spells an expression that they are
pub tokens_found : (most depth : ℕ) → most + depth ≡ 32 → (text : List ℕ) (read : List Token) → tokens_of depth text ≡ Some read →
    SpellsTokens most text read
unfolding tokens_of
tokens_found most depth fits text read e =
    let u = then_some ended (option_and_then taken (run text (before depth [] []))) read e in
    let v = then_some taken (run text (before depth [] [])) u.0 u.1 in
    let start : Waits most Sum most depth [] [] [] = outermost depth fits in
    let a = runs text (at_clean (clean_before Sum most depth [] [] [] start)) v.0 v.1 in
    end_found (takes a u.0 v.2) read u.2
