-- Expressions as they are read, in parentheses and without: byte by byte, with what waits for the operand that comes
-- next. (Manual: a minus as a sign. Our own: how deep parentheses may be.)
use Rattle.std.specs.Prelude.{ℕ, suc, ◌==◌, Bool, true, false, List, [], ◌∷◌, ◌++◌, Option, Some, None, option_map, option_and_then, if◌then◌else◌, nat_lt}
use Rattle.gw_expr.specs.declared.atom.Atom.{Atom}
use Rattle.gw_expr.specs.declared.token.Operator.{Operator}
use Rattle.gw_expr.specs.declared.token.Operator.TheVariants as operators
use Rattle.gw_expr.specs.declared.token.Token.{Token}
use Rattle.gw_expr.specs.declared.token.Token.TheVariants as tokens
use Rattle.gw_expr.specs.Term.{Term}
use Rattle.gw_expr.specs.declared.expr.Expr.TheVariants.{Computed}
use Rattle.gw_expr.specs.declared.symbol.Symbol.{Symbol}
use Rattle.gw_expr.specs.declared.symbol.Symbol.TheVariants as symbols
use Rattle.gw_expr.specs.Symbols.{symbol_of}
use Rattle.gw_lines.specs.declared.expression.Pending.{Pending}
use Rattle.gw_lines.specs.declared.expression.Pending.TheVariants as waits
use Rattle.gw_lines.specs.Listed.{shallower}
use Rattle.gw_lines.specs.Atoms.{atom_of}

-- where reading stands: the word so far, whether an operand is complete here, how many parentheses are open, what waits
-- for an operand, the last first, and the tokens so far
pub record State : Type 0 where
  pub word : List ℕ
  pub given : Bool
  pub depth : ℕ
  pub pending : List Pending
  pub tokens : List Token

-- before an operand
abbrev pub before : ℕ → List Pending → List Token → State
before depth pending ts = record { word = []; given = false; depth = depth; pending = pending; tokens = ts }

-- after one
abbrev pub behind : ℕ → List Pending → List Token → State
behind depth pending ts = record { word = []; given = true; depth = depth; pending = pending; tokens = ts }

-- after an operand, whose signs and product are done with: they bind tighter than a sum
abbrev pub completed : ℕ → List Pending → List Token → State
completed depth [] ts = behind depth [] ts
completed depth (waits.Sign ∷ pending) ts = completed depth pending (ts ++ tokens.Negated ∷ [])
completed depth (waits.Product operator ∷ pending) ts = behind depth pending (ts ++ tokens.Applied operator ∷ [])
completed depth (wait ∷ pending) ts = behind depth (wait ∷ pending) ts

-- after a product, whose sum is done with
abbrev pub settled : ℕ → List Pending → List Token → State
settled depth (waits.Sum operator ∷ pending) ts = behind depth pending (ts ++ tokens.Applied operator ∷ [])
settled depth pending ts = behind depth pending ts

abbrev pub with_atom : Option Atom → State → Option State
with_atom None s = None
with_atom (Some atom) s = Some (completed s.depth s.pending (s.tokens ++ tokens.Value atom ∷ []))

-- with the operand that the word is, if there is one
abbrev pub taken_by : Bool → List ℕ → State → Option State
taken_by given [] s = Some s
taken_by true (b ∷ bs) s = None
taken_by false (b ∷ bs) s = with_atom (atom_of (b ∷ bs)) s

abbrev pub taken : State → Option State
taken s = taken_by s.given s.word s

-- after the operator of a sum
abbrev pub added : Operator → State → State
added operator s = before s.depth (waits.Sum operator ∷ s.pending) s.tokens

-- after a closing parenthesis
abbrev pub closed : ℕ → List Pending → List Token → Option State
closed depth (waits.Opening ∷ pending) ts = Some (completed (shallower depth) pending ts)
closed depth pending ts = None

abbrev pub closed_in : State → Option State
closed_in s = closed s.depth s.pending s.tokens

-- after an opening one: 32 of them may be open at once
abbrev pub opened : State → Option State
opened s = if nat_lt s.depth 32 then Some (before (suc s.depth) (waits.Opening ∷ s.pending) s.tokens) else None

-- after a symbol, where an operand is complete and where none is
abbrev pub by_symbol : Symbol → Bool → State → Option State
by_symbol symbols.Opening false s = opened s
by_symbol (symbols.Sum operators.Minus) false s = Some (before s.depth (waits.Sign ∷ s.pending) s.tokens)
by_symbol symbol false s = None
by_symbol symbols.Opening true s = None
by_symbol symbols.Closing true s = closed_in (settled s.depth s.pending s.tokens)
by_symbol (symbols.Sum operator) true s = Some (added operator (settled s.depth s.pending s.tokens))
by_symbol (symbols.Product operator) true s = Some (before s.depth (waits.Product operator ∷ s.pending) s.tokens)

abbrev pub with_symbol : Symbol → State → Option State
with_symbol symbol s = by_symbol symbol s.given s

abbrev pub with_byte : ℕ → State → State
with_byte b s = record {
  word = s.word ++ b ∷ [];
  given = s.given;
  depth = s.depth;
  pending = s.pending;
  tokens = s.tokens;
}

abbrev pub by_kind : Option Symbol → ℕ → State → Option State
by_kind None b s = Some (with_byte b s)
by_kind (Some symbol) b s = option_and_then (with_symbol symbol) (taken s)

-- after a byte
abbrev pub step : ℕ → State → Option State
step b s = by_kind (symbol_of b) b s

-- after a text
abbrev pub run : List ℕ → State → Option State
run [] s = Some s
run (b ∷ bs) s = option_and_then (λ t. run bs t) (step b s)

abbrev pub all_closed : List Pending → List Token → Option (List Token)
all_closed [] ts = Some ts
all_closed (wait ∷ pending) ts = None

-- the tokens, where an operand is complete and no parenthesis is open
abbrev pub ended_by : Bool → State → Option (List Token)
ended_by false s = None
ended_by true s = all_closed s.pending s.tokens

abbrev pub ended : State → Option (List Token)
ended s = ended_by s.given (settled s.depth s.pending s.tokens)

-- the tokens that a text is, after so many open parentheses
unfoldable pub tokens_of : ℕ → List ℕ → Option (List Token)
tokens_of depth text =
    option_and_then ended (option_and_then taken (run text (before depth [] [])))

-- what stands before the closing parenthesis at the very end
abbrev pub before_closing : List ℕ → Option (List ℕ)
before_closing [] = None
before_closing (b ∷ []) = if b == 41 then Some [] else None
before_closing (b ∷ c ∷ bs) = option_map (λ text. b ∷ text) (before_closing (c ∷ bs))

-- what stands between parentheses that span a text
abbrev pub inside_of : List ℕ → Option (List ℕ)
inside_of [] = None
inside_of (b ∷ bs) = if b == 40 then before_closing bs else None

abbrev pub computed : Option (List Token) → Option Term
computed read = option_map (λ ts. Computed ts) read

-- the expression in parentheses that a text is
abbrev pub computed_of : List ℕ → Option Term
computed_of text = computed (option_and_then (tokens_of 1) (inside_of text))

-- the expression that a text is, without parentheses around the whole
abbrev pub bare_of : List ℕ → Option Term
bare_of text = computed (tokens_of 0 text)
