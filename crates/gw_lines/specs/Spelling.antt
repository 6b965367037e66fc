-- What a line spells: a relation by cases on the text, apart from how it is read. (Manual: the statement format. Our
-- own: the length, the greatest numbers, `NP`.)
use Rattle.std.specs.Prelude.{ℕ, suc, ◌+◌, ◌-◌, ◌*◌, ◌^◌, ◌≤◌, ◌≡◌, ◌≢◌, ◌==◌, ◌&&◌, not, ℤ, pos, neg_ℤ, Bool, true, false, List, [], ◌∷◌, ◌++◌, length, Option, Some, None, IfSome, codes}
use Rattle.std.specs.List.{list_all}
use Rattle.std.specs.Char.{is_ascii_digit}
use Rattle.gw_names.specs.declared.verb.Verb.{Verb}
use Rattle.gw_names.specs.Words.{upper_of, class_word}
use Rattle.gw_names.specs.Names.{name_of}
use Rattle.gw_names.specs.declared.class.Class as attributes
use Rattle.gw_expr.specs.declared.attribute.Subject.{Subject}
use Rattle.gw_expr.specs.declared.attribute.Subject.TheVariants as subjects
use Rattle.gw_expr.specs.declared.atom.Atom.{Atom}
use Rattle.gw_expr.specs.declared.atom.Atom.TheVariants as atoms
use Rattle.gw_expr.specs.declared.token.Operator.{Operator}
use Rattle.gw_expr.specs.declared.token.Operator.TheVariants as operators
use Rattle.gw_expr.specs.Expressions.{Expression, Single, Opposite, Both, postfix}
use Rattle.gw_expr.specs.declared.expr.Discipline.TheVariants as disciplines
use Rattle.gw_expr.specs.declared.expr.Expr.TheVariants as terms
use Rattle.gw_expr.specs.declared.function.FunctionType.TheVariants as types
use Rattle.gw_meaning.specs.declared.auxiliary.Auxiliary.{Auxiliary}
use Rattle.gw_meaning.specs.declared.statement.Body.{Body}
use Rattle.gw_meaning.specs.declared.statement.Statement.{Statement}
use Rattle.gw_meaning.specs.Statements.{verb_of_body}
use Rattle.gw_lines.specs.declared.class.Class.{Class}
use Rattle.gw_lines.specs.declared.class.Class.TheVariants as class
use Rattle.gw_lines.specs.declared.attribute.Scope.TheVariants as scopes
use Rattle.gw_lines.specs.declared.form.Kind.{Kind}
use Rattle.gw_lines.specs.declared.form.Kind.TheVariants as kinds
use Rattle.gw_lines.specs.declared.form.Presence.TheVariants as presences
use Rattle.gw_lines.specs.declared.form.Form.{Form}
use Rattle.gw_lines.specs.declared.operand.Operand.{Operand}
use Rattle.gw_lines.specs.declared.operand.Operand.TheVariants as operands
use Rattle.gw_lines.specs.Classes.{is_in, is_blank, are_plain}
use Rattle.gw_lines.specs.Attributes.{scope_of}
use Rattle.gw_lines.specs.Forms.{forms_of, fields_of, points_of, lacks, is_listed}
use Rattle.gw_lines.specs.Fields.{misfits}
use Rattle.gw_lines.specs.Parts.{goes_on, part_of, is_given, others_of, is_missing}
use Rattle.gw_lines.specs.Auxiliaries.{takes_operator, auxiliary_of, bare_parts, HasAuxiliary}
use Rattle.gw_lines.specs.Listed.{behind_text}
use Rattle.gw_lines.specs.Lines.{verb_in, is_command, needs_label, is_remark}

-- each byte is of the class
abbrev pub AreIn : Class → List ℕ → Type 0
AreIn class text = list_all (is_in class) text ≡ true

-- the text is empty, or its first byte is not of the class
abbrev pub Stops : Class → List ℕ → Type 0
Stops class [] = Unit {0}
Stops class (b ∷ bs) = is_in class b ≡ false

-- digits, and the number that they spell
pub data Digits : List ℕ → ℕ → Type 0 where
  first_digit : (b : ℕ) → is_ascii_digit b ≡ true → Digits (b ∷ []) (b - 48)
  next_digit : (text : List ℕ) (n b : ℕ) → Digits text n → is_ascii_digit b ≡ true
      → Digits (text ++ b ∷ []) (n * 10 + (b - 48))

-- a number that is not too large
pub record Number (most : ℕ) (text : List ℕ) (n : ℕ) : Type 0 where
  pub digits : Digits text n
  pub small : n ≤ most

-- a value
pub data Value : List ℕ → ℤ → Type 0 where
  without_sign : (text : List ℕ) (n : ℕ) → Number 1000000000 text n → Value text (pos n)
  with_sign : (text : List ℕ) (n : ℕ) → Number 1000000000 text n → Value (45 ∷ text) (neg_ℤ (pos n))

-- a fraction, in millionths: digits with a point, of which at most six after it, and not too large
pub record Fraction (most : ℕ) (text : List ℕ) (millionths : ℕ) : Type 0 where
  pub whole : List ℕ
  pub decimals : List ℕ
  pub point : text ≡ whole ++ 46 ∷ decimals
  pub number : ℕ
  pub digits : Digits (whole ++ decimals) number
  pub places : length decimals ≤ 6
  pub value : millionths ≡ number * 10 ^ (6 - length decimals)
  pub small : millionths ≤ most

-- a numerical attribute: the word of its class alone, with a number after it, or with `$` and a name
pub data SpellsAttribute : List ℕ → attributes.Class → Subject → Type 0 where
  alone : (class : attributes.Class) → scope_of class ≡ scopes.Alone
      → SpellsAttribute (class_word class) class subjects.Own
  numbered_one : (class : attributes.Class) (digits : List ℕ) (n : ℕ) → scope_of class ≡ scopes.Entity
      → Number 1000000000 digits n → 1 ≤ n → SpellsAttribute (class_word class ++ digits) class (subjects.Number n)
  named_one : (class : attributes.Class) (word name : List ℕ) → scope_of class ≡ scopes.Entity
      → name_of word ≡ Some name → SpellsAttribute (class_word class ++ 36 ∷ word) class (subjects.Name name)
  of_block : (class : attributes.Class) (word name : List ℕ) → scope_of class ≡ scopes.Block
      → name_of word ≡ Some name → SpellsAttribute (class_word class ++ 36 ∷ word) class (subjects.Name name)
  of_stream : (class : attributes.Class) (digits : List ℕ) (n : ℕ) → scope_of class ≡ scopes.Stream
      → Number 7 digits n → 1 ≤ n → SpellsAttribute (class_word class ++ digits) class (subjects.Number n)

-- a value in an expression: a number without a sign, a name that stands for a number, or an attribute
pub data SpellsAtom : List ℕ → Atom → Type 0 where
  plain_number : (text : List ℕ) (n : ℕ) → Number 1000000000 text n → SpellsAtom text (atoms.Constant (pos n))
  plain_name : (text name : List ℕ) → name_of text ≡ Some name → SpellsAtom text (atoms.Number name)
  plain_attribute : (text : List ℕ) (class : attributes.Class) (of : Subject) → SpellsAttribute text class of
      → SpellsAtom text (atoms.Attribute class of)

-- the operators of a product: `#`, `\` and `@`
pub data Multiplies : ℕ → Operator → Type 0 where
  times : Multiplies 35 operators.Times
  quotient : Multiplies 92 operators.Quotient
  remainder : Multiplies 64 operators.Remainder

-- the operators of a sum
pub data Adds : ℕ → Operator → Type 0 where
  plus : Adds 43 operators.Plus
  minus : Adds 45 operators.Minus

-- what a text may be in an expression: each may be the one after it
pub data Rank : Type 0 where
  Factor : Rank
  Product : Rank
  Sum : Rank

-- a text in which so many parentheses may be open at once: a factor is a value, a factor with a sign or
-- a sum in parentheses; a product is a factor, or a product and a factor; a sum is a product, or a sum and a product
pub data SpellsExpression : Rank → ℕ → List ℕ → Expression → Type 0 where
  a_single : (room : ℕ) (text : List ℕ) (a : Atom) → SpellsAtom text a → SpellsExpression Factor room text (Single a)
  with_minus : (room : ℕ) (text : List ℕ) (e : Expression) → SpellsExpression Factor room text e
      → SpellsExpression Factor room (45 ∷ text) (Opposite e)
  in_parentheses : (room : ℕ) (text : List ℕ) (e : Expression) → SpellsExpression Sum room text e
      → SpellsExpression Factor (suc room) (40 ∷ (text ++ 41 ∷ [])) e
  a_factor : (room : ℕ) (text : List ℕ) (e : Expression) → SpellsExpression Factor room text e
      → SpellsExpression Product room text e
  multiplied : (room : ℕ) (left : List ℕ) (e : Expression) (b : ℕ) (o : Operator) (right : List ℕ) (f : Expression)
      → SpellsExpression Product room left e → Multiplies b o → SpellsExpression Factor room right f
      → SpellsExpression Product room (left ++ b ∷ right) (Both o e f)
  a_product : (room : ℕ) (text : List ℕ) (e : Expression) → SpellsExpression Product room text e
      → SpellsExpression Sum room text e
  summed : (room : ℕ) (left : List ℕ) (e : Expression) (b : ℕ) (o : Operator) (right : List ℕ) (f : Expression)
      → SpellsExpression Sum room left e → Adds b o → SpellsExpression Product room right f
      → SpellsExpression Sum room (left ++ b ∷ right) (Both o e f)

-- a text of a kind, and the operand that it says: none where it is empty, nor for a key word that has no effect. A key
-- word is one in its place alone, and no name there.
pub data SpellsOperand : Kind → List ℕ → Option Operand → Type 0 where
  absent : (kind : Kind) → SpellsOperand kind [] None
  a_value : (text : List ℕ) (z : ℤ) → Value text z
      → SpellsOperand kinds.Value text (Some (operands.Value (terms.Value (atoms.Constant z))))
  a_constant : (text : List ℕ) (z : ℤ) → Value text z
      → SpellsOperand kinds.Constant text (Some (operands.Value (terms.Value (atoms.Constant z))))
  named_value : (text name : List ℕ) → name_of text ≡ Some name
      → SpellsOperand kinds.Value text (Some (operands.Value (terms.Value (atoms.Number name))))
  attribute_value : (text : List ℕ) (class : attributes.Class) (of : Subject) → SpellsAttribute text class of
      → SpellsOperand kinds.Value text (Some (operands.Value (terms.Value (atoms.Attribute class of))))
  a_whole : (most : ℕ) (text : List ℕ) (n : ℕ) → Number most text n → 1 ≤ n
      → SpellsOperand (kinds.Whole most) text (Some (operands.Whole n))
  a_key : SpellsOperand kinds.Quiet (codes "NP") None
  named_entity : (text name : List ℕ) → name_of text ≡ Some name
      → SpellsOperand kinds.Entity text (Some (operands.Value (terms.Named name)))
  numbered_entity : (text : List ℕ) (n : ℕ) → Number 1000000000 text n → 1 ≤ n
      → SpellsOperand kinds.Entity text (Some (operands.Value (terms.Value (atoms.Constant (pos n)))))
  attribute_entity : (text : List ℕ) (class : attributes.Class) (of : Subject) → SpellsAttribute text class of
      → SpellsOperand kinds.Entity text (Some (operands.Value (terms.Value (atoms.Attribute class of))))
  computed_value : (text : List ℕ) (e : Expression) → SpellsExpression Sum 31 text e
      → SpellsOperand kinds.Value (40 ∷ (text ++ 41 ∷ [])) (Some (operands.Value (terms.Computed (postfix e))))
  computed_entity : (text : List ℕ) (e : Expression) → SpellsExpression Sum 31 text e
      → SpellsOperand kinds.Entity (40 ∷ (text ++ 41 ∷ [])) (Some (operands.Value (terms.Computed (postfix e))))
  a_fraction : (text : List ℕ) (n : ℕ) → Fraction 1000000 text n
      → SpellsOperand kinds.Fraction text (Some (operands.Value (terms.Fraction n)))
  a_label : (text name : List ℕ) → name_of text ≡ Some name
      → SpellsOperand kinds.Label text (Some (operands.Value (terms.Label name)))
  a_definition : (text name : List ℕ) → name_of text ≡ Some name
      → SpellsOperand kinds.Defined text (Some (operands.Value (terms.Defined name)))
  a_table : (text name : List ℕ) → name_of text ≡ Some name
      → SpellsOperand kinds.Table text (Some (operands.Value (terms.Table name)))
  an_expression : (text : List ℕ) (e : Expression) → SpellsExpression Sum 32 text e
      → SpellsOperand kinds.Expression text (Some (operands.Value (terms.Computed (postfix e))))
  continuous : (digits : List ℕ) (n : ℕ) → Number 1000 digits n → 1 ≤ n
      → SpellsOperand kinds.Points (67 ∷ digits) (Some (operands.Points types.Continuous n))
  discrete : (digits : List ℕ) (n : ℕ) → Number 1000 digits n → 1 ≤ n
      → SpellsOperand kinds.Points (68 ∷ digits) (Some (operands.Points types.Discrete n))
  first_in_first_out : SpellsOperand kinds.Order (codes "FIFO") (Some (operands.Value (terms.Order disciplines.Fifo)))
  last_in_first_out : SpellsOperand kinds.Order (codes "LIFO") (Some (operands.Value (terms.Order disciplines.Lifo)))
  unbounded : SpellsOperand kinds.Bound (codes "ALL") None
  a_bound : (text : List ℕ) (o : Option Operand) → text ≢ codes "ALL" → SpellsOperand kinds.Value text o
      → SpellsOperand kinds.Bound text o

-- the parts of a list spell the operands of its forms: each is listed, or a written one after the last part is not
pub data SpellsAll : List Form → List (List ℕ) → List (Option Operand) → Type 0 where
  no_form : SpellsAll [] [] []
  stands : (form : Form) (forms : List Form) (parts : List (List ℕ)) (o : Option Operand) (os : List (Option Operand))
      → is_listed form.presence (goes_on parts) ≡ true → is_missing form (part_of parts) ≡ false
      → SpellsOperand form.kind (part_of parts) o → SpellsAll forms (others_of parts) os
      → SpellsAll (form ∷ forms) parts (o ∷ os)
  unwritten : (form : Form) (forms : List Form) (os : List (Option Operand))
      → form.presence ≡ presences.Written → SpellsAll forms [] os → SpellsAll (form ∷ forms) [] os

-- what the operands of a verb say, with what stands beside them: a statement that has both, and no points yet
pub record Says (verb : Verb) (beside : Auxiliary) (parts : List (List ℕ)) (body : Body) : Type 0 where
  pub forms : List Form
  pub are_forms : forms_of verb beside (is_given parts) ≡ Some forms
  pub of_verb : verb_of_body body ≡ verb
  pub has_auxiliary : HasAuxiliary body beside
  pub operands : SpellsAll forms parts (fields_of body)
  pub fit : misfits verb (fields_of body) ≡ false
  pub enough : lacks verb (fields_of body) ≡ false
  pub pointless : points_of body ≡ []

-- a byte of an operand that stands for itself: neither a blank nor a comma nor a parenthesis
abbrev pub is_part : ℕ → Bool
is_part b = not (is_blank b) && (not (b == 44) && (not (b == 40) && not (b == 41)))

-- a piece of an operand as it is written and as it is kept, from so many open parentheses to so many: a blank in
-- parentheses is not kept, and a comma in them parts no operands
pub data Part : ℕ → List ℕ → List ℕ → ℕ → Type 0 where
  nothing : (depth : ℕ) → Part depth [] [] depth
  mark : (depth b : ℕ) (text kept : List ℕ) (end : ℕ) → is_part b ≡ true → Part depth text kept end
      → Part depth (b ∷ text) (b ∷ kept) end
  opening : (depth : ℕ) (text kept : List ℕ) (end : ℕ) → Part (suc depth) text kept end
      → Part depth (40 ∷ text) (40 ∷ kept) end
  closing : (depth : ℕ) (text kept : List ℕ) (end : ℕ) → Part depth text kept end
      → Part (suc depth) (41 ∷ text) (41 ∷ kept) end
  stray : (text kept : List ℕ) (end : ℕ) → Part 0 text kept end → Part 0 (41 ∷ text) (41 ∷ kept) end
  inner_comma : (depth : ℕ) (text kept : List ℕ) (end : ℕ) → Part (suc depth) text kept end
      → Part (suc depth) (44 ∷ text) (44 ∷ kept) end
  inner_blank : (depth b : ℕ) (text kept : List ℕ) (end : ℕ) → is_blank b ≡ true → Part (suc depth) text kept end
      → Part (suc depth) (b ∷ text) kept end

-- an operand list as it is written, with the comment after it, and as it is kept, without the blanks after commas and
-- in parentheses; one that is never closed has all that follows
pub data Written : List ℕ → List ℕ → Type 0 where
  none_written : Written [] []
  last_written : (b : ℕ) (bs kept comment : List ℕ) → Part 0 (b ∷ bs) kept 0 → Stops class.Mark comment
      → Written (b ∷ bs ++ comment) kept
  never_closed : (text kept : List ℕ) (depth : ℕ) → Part 0 text kept (suc depth) → Written text kept
  more_written : (operand part blanks text kept : List ℕ) → Part 0 operand part 0 → AreIn class.Blank blanks
      → Written text kept → Written (operand ++ 44 ∷ (blanks ++ text)) (part ++ 44 ∷ kept)

-- what follows a word: nothing, or blanks and operands
pub data Behind : List ℕ → List ℕ → Type 0 where
  word_alone : Behind [] []
  word_operands : (blanks text kept : List ℕ) → AreIn class.Blank blanks → blanks ≢ [] → Written text kept
      → Behind (blanks ++ text) kept

-- what follows a verb, and what is kept of it: operands, or, where the verb takes an operator, a word and operands
-- after it, which are kept with one blank between
pub data Follows : Verb → List ℕ → List ℕ → Type 0 where
  without_operator : (verb : Verb) (behind kept : List ℕ) → takes_operator verb ≡ false → Behind behind kept
      → Follows verb behind kept
  lacks_operator : (verb : Verb) (blanks : List ℕ) → takes_operator verb ≡ true → AreIn class.Blank blanks
      → Follows verb blanks []
  with_operator : (verb : Verb) (blanks operator behind kept : List ℕ) → takes_operator verb ≡ true
      → AreIn class.Blank blanks → blanks ≢ [] → AreIn class.Mark operator → operator ≢ [] → Behind behind kept
      → Follows verb (blanks ++ (operator ++ behind)) (operator ++ behind_text kept)

-- the words before the operands: the verb, or a word that is no verb and the verb; and what is kept of what follows
pub data Head : List ℕ → Option (List ℕ) → Verb → List ℕ → Type 0 where
  first_word : (word behind : List ℕ) (verb : Verb) (kept : List ℕ) → AreIn class.Mark word → verb_in word ≡ Some verb
      → Follows verb behind kept → Head (word ++ behind) None verb kept
  second_word : (label blanks word behind : List ℕ) (verb : Verb) (kept : List ℕ) → AreIn class.Mark label
      → verb_in label ≡ None → AreIn class.Blank blanks → blanks ≢ []
      → AreIn class.Mark word → verb_in word ≡ Some verb → Follows verb behind kept
      → Head (label ++ (blanks ++ (word ++ behind))) (Some label) verb kept

-- the label that the word before a verb is; a definition does not go without one
pub data Label : Option (List ℕ) → Verb → Option (List ℕ) → Type 0 where
  no_label : (verb : Verb) → needs_label verb ≡ false → Label None verb None
  named : (word : List ℕ) (verb : Verb) (label : List ℕ) → is_command verb ≡ false → name_of word ≡ Some label
      → Label (Some word) verb (Some label)

-- no byte of 128 or more before the comment
pub record ArePlain (word : Option (List ℕ)) (kept : List ℕ) : Type 0 where
  pub first : IfSome word (λ w. are_plain w ≡ true)
  pub list : are_plain kept ≡ true

-- code with a line number and without one, and what follows the number
pub data Numbering : List ℕ → List ℕ → Type 0 where
  unnumbered : (digits rest : List ℕ) → AreIn class.Digit digits → Stops class.Digit rest → Stops class.Blank rest
      → Numbering (digits ++ rest) (digits ++ rest)
  numbered : (digits blanks rest : List ℕ) → AreIn class.Digit digits → digits ≢ [] → AreIn class.Blank blanks
      → blanks ≢ [] → Stops class.Blank rest → Numbering (digits ++ (blanks ++ rest)) rest

-- a line that is not too long, and its code: what is left without the blanks before it and the comment after `;`
pub record Cut (text code : List ℕ) : Type 0 where
  pub blanks : List ℕ
  pub comment : List ℕ
  pub parts : text ≡ blanks ++ (code ++ comment)
  pub are_blanks : AreIn class.Blank blanks
  pub is_code : AreIn class.Code code
  pub is_comment : Stops class.Code comment
  pub begins : Stops class.Blank (code ++ comment)
  pub short : length text ≤ 250

-- the words of a line: code that is neither empty nor a `*` comment, after its number
pub record HasWords (text words : List ℕ) : Type 0 where
  pub code : List ℕ
  pub cut : Cut text code
  pub is_statement : is_remark code ≡ false
  pub numbering : Numbering code words

-- words spell a statement; a FUNCTION's pairs stand on further lines
pub record Coded (words : List ℕ) (s : Statement) : Type 0 where
  pub word : Option (List ℕ)
  pub verb : Verb
  pub kept : List ℕ
  pub head : Head words word verb kept
  pub plain : ArePlain word kept
  pub label : Label word verb s.label
  pub listed : s.operands ≡ upper_of kept
  pub auxiliary : Auxiliary
  pub is_auxiliary : auxiliary_of verb s.operands ≡ Some auxiliary
  pub body : Says verb auxiliary (bare_parts verb s.operands) s.body

-- a text spells a statement
pub record Spells (text : List ℕ) (s : Statement) : Type 0 where
  pub words : List ℕ
  pub has_words : HasWords text words
  pub coded : Coded words s
