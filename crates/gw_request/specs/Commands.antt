-- The table of script lines: each command's word, what stands after it, and what the line asks for. (Our own.)
use Rattle.std.specs.Prelude.{ℕ, List, [], ◌∷◌, Option, codes, find}
use Rattle.std.specs.Str.{bytes_eq}
use Rattle.gw_meaning.specs.declared.edit.Edit.TheVariants as edits
use Rattle.gw_request.specs.declared.command.Command.{Command}
use Rattle.gw_request.specs.declared.command.Command.TheVariants.{Bare, Single, Pair, Text, Capacity}
use Rattle.gw_request.specs.declared.command.Bare.TheVariants as bares
use Rattle.gw_request.specs.declared.command.Single.TheVariants as singles
use Rattle.gw_request.specs.declared.command.Pair.TheVariants as pairs
use Rattle.gw_request.specs.declared.command.Text.TheVariants as texts
use Rattle.gw_request.specs.declared.request.Request.{Request}
use Rattle.gw_request.specs.declared.request.Request.TheVariants as requests

-- what stands after a command's word, and what the line asks for with it
pub data Form : Type 0 where
  Alone : Request → Form
  Number : (ℕ → Request) → Form
  TwoNumbers : (ℕ → ℕ → Request) → Form
  NumberAndText : (ℕ → List ℕ → Request) → Form
  NameAndNumber : (List ℕ → ℕ → Request) → Form

-- the table: a word and a form for each command
abbrev pub row_of : Command → List ℕ × Form
row_of (Text texts.Insert) = (codes "insert", NumberAndText (λ n text. requests.Edit (edits.Insert n text)))
row_of (Single singles.Delete) = (codes "delete", Number (λ n. requests.Edit (edits.Delete n)))
row_of (Text texts.Change) = (codes "change", NumberAndText (λ n text. requests.Edit (edits.Change n text)))
row_of Capacity = (codes "capacity", NameAndNumber (λ name n. requests.Edit (edits.Capacity name n)))
row_of (Pair pairs.Seed) = (codes "seed", TwoNumbers (λ r s. requests.Edit (edits.Seed r s)))
row_of (Pair pairs.Replicate) = (codes "replicate", TwoNumbers (λ r s. requests.Edit (edits.Replicate r s)))
row_of (Single singles.Drop) = (codes "drop", Number (λ r. requests.Edit (edits.Drop r)))
row_of (Single singles.Horizon) = (codes "horizon", Number (λ t. requests.Edit (edits.Horizon t)))
row_of (Pair pairs.Report) = (codes "report", TwoNumbers (λ r k. requests.Report r k))
row_of (Pair pairs.Peek) = (codes "peek", TwoNumbers (λ r k. requests.Peek r k))
row_of (Single singles.All) = (codes "all", Number (λ k. requests.All k))
row_of (Pair pairs.Work) = (codes "work", TwoNumbers (λ r n. requests.Work r n))
row_of (Bare bares.List) = (codes "list", Alone requests.List)
row_of (Bare bares.Quit) = (codes "quit", Alone requests.Quit)

abbrev pub word_of : Command → List ℕ
word_of c = (row_of c).0

abbrev pub form_of : Command → Form
form_of c = (row_of c).1

-- every command
abbrev pub commands : List Command
commands =
    Text texts.Insert ∷ Single singles.Delete ∷ Text texts.Change ∷ Capacity ∷ Pair pairs.Seed ∷ Pair pairs.Replicate ∷
    Single singles.Drop ∷ Single singles.Horizon ∷ Pair pairs.Report ∷ Pair pairs.Peek ∷ Single singles.All ∷
    Pair pairs.Work ∷ Bare bares.List ∷ Bare bares.Quit ∷ []

-- the command that a word is, if it is one
unfoldable pub command_of : List ℕ → Option Command
command_of word = find (λ c. bytes_eq (word_of c) word) commands
