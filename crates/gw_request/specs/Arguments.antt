-- How what stands after a command's word is read, by the command's form.
use Rattle.std.specs.Prelude.{ℕ, Bool, true, false, List, Option, Some, None, is_some}
use Rattle.gw_names.specs.Names.{name_of}
use Rattle.gw_request.specs.declared.command.Command.{Command}
use Rattle.gw_request.specs.declared.request.Request.{Request}
use Rattle.gw_request.specs.Commands.{Form, Alone, Number, TwoNumbers, NumberAndText, NameAndNumber, form_of}
use Rattle.gw_request.specs.Words.{cut}
use Rattle.gw_request.specs.Numbers.{◌>>=◌, number_of, next_number}

-- what a line asks for with the words after its first blank
abbrev pub asked_with : Form → List ℕ → Option Request
asked_with (Alone r) words = None
asked_with (Number f) words = do
  n ← number_of words
  Some (f n)
asked_with (TwoNumbers f) words = do
  p ← next_number words
  n ← number_of p.1
  Some (f p.0 n)
asked_with (NumberAndText f) words = do
  p ← next_number words
  Some (f p.0 p.1)
asked_with (NameAndNumber f) words = do
  p ← cut words
  n ← number_of p.1
  name ← name_of p.0
  Some (f name n)

-- what a line asks for that has no blank
abbrev pub asked_alone : Form → Option Request
asked_alone (Alone r) = Some r
asked_alone form = None

-- what a command asks for with what stands after its blank, where it has one
abbrev pub request_in : Command → Option (List ℕ) → Option Request
request_in c None = asked_alone (form_of c)
request_in c (Some words) = asked_with (form_of c) words

-- whether a form has a text after a number that is one, or a name before one: it is copied
abbrev pub is_copied : Form → List ℕ → Bool
is_copied (NumberAndText f) words = is_some (next_number words)
is_copied (NameAndNumber f) words = is_some (cut words >>= (λ p. number_of p.1))
is_copied form words = false

-- whether a command's text or name is copied, with what stands after its blank, where it has one
abbrev pub copies_words : Command → Option (List ℕ) → Bool
copies_words c None = false
copies_words c (Some words) = is_copied (form_of c) words
