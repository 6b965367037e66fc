-- What a script line asks for, apart from how it is read; and the laws that it is read so. (Our own.)
use Rattle.std.specs.Prelude.{◌≡◌, ◌↔◌, ◌≤◌, ◌<◌, ℕ, ◌+◌, ◌-◌, ◌*◌, Bool, true, false, List, [], ◌∷◌, ◌++◌, Some, length}
use Rattle.std.specs.Char.{is_ascii_digit}
use Rattle.std.specs.List.{All}
use Rattle.gw_names.specs.Names.{name_of}
use Rattle.gw_request.specs.declared.command.Command.{Command}
use Rattle.gw_request.specs.declared.request.Request.{Request}
use Rattle.gw_request.specs.declared.request.Request.TheVariants as requests
use Rattle.gw_request.specs.declared.request.Reason.TheVariants as reasons
use Rattle.gw_request.specs.Commands.{Form, Alone, Number, TwoNumbers, NumberAndText, NameAndNumber, word_of, form_of}
use Rattle.gw_request.specs.Requests.{request_of}
use Rattle.gw_request.specs.Words.{is_blank}

-- one blank or tab
abbrev pub IsBlank : ℕ → Type 0
IsBlank b = is_blank b ≡ true

-- digits, and the number that they spell
pub data Spells : List ℕ → ℕ → Type 0 where
  first_digit : (b : ℕ) → is_ascii_digit b ≡ true → Spells (b ∷ []) (b - 48)
  next_digit :
      (text : List ℕ) (n b : ℕ) →
      Spells text n → is_ascii_digit b ≡ true →
      Spells (text ++ b ∷ []) (n * 10 + (b - 48))

-- 1 to 18 digits, which spell the number n
pub record IsNumber (digits : List ℕ) (n : ℕ) : Type 0 where
  pub spelled : Spells digits n
  pub few : length digits ≤ 18

-- a spelling of a name
abbrev pub IsName : List ℕ → List ℕ → Type 0
IsName spelling name = name_of spelling ≡ Some name

-- what stands after a command's word, by the command's form, and what the line asks for then
pub data Behind : Form → List ℕ → Request → Type 0 where
  nothing : (r : Request) → Behind (Alone r) [] r
  number :
      (f : ℕ → Request) (b : ℕ) (digits : List ℕ) (n : ℕ) →
      IsBlank b → IsNumber digits n →
      Behind (Number f) (b ∷ digits) (f n)
  two_numbers :
      (f : ℕ → ℕ → Request) (b : ℕ) (first : List ℕ) (d : ℕ) (second : List ℕ) (m n : ℕ) →
      IsBlank b → IsNumber first m → IsBlank d → IsNumber second n →
      Behind (TwoNumbers f) (b ∷ (first ++ d ∷ second)) (f m n)
  number_and_text :
      (f : ℕ → List ℕ → Request) (b : ℕ) (digits : List ℕ) (d : ℕ) (text : List ℕ) (n : ℕ) →
      IsBlank b → IsNumber digits n → IsBlank d →
      Behind (NumberAndText f) (b ∷ (digits ++ d ∷ text)) (f n text)
  name_and_number :
      (f : List ℕ → ℕ → Request) (b : ℕ) (spelling : List ℕ) (d : ℕ) (digits name : List ℕ) (n : ℕ) →
      IsBlank b → IsName spelling name → IsBlank d → IsNumber digits n →
      Behind (NameAndNumber f) (b ∷ (spelling ++ d ∷ digits)) (f name n)

-- a line asks for something: it is a command's word, and after it stands what the command's form says
pub record AsksFor (line : List ℕ) (r : Request) : Type 0 where
  pub short : length line ≤ 65536
  pub command : Command
  pub behind : List ℕ
  pub spelled : line ≡ word_of command ++ behind
  pub asks : Behind (form_of command) behind r

-- whether a request is one of a command: neither that of a blank line nor that of a bad one
abbrev pub is_asked : Request → Bool
is_asked requests.Nothing = false
is_asked (requests.Bad why) = false
is_asked r = true

-- a line is read as a request of a command exactly where it asks for that
abbrev pub LinesAsk : Type 0
LinesAsk = (line : List ℕ) (r : Request) → ((request_of line ≡ r) × (is_asked r ≡ true)) ↔ AsksFor line r

-- what may stand after a word: nothing, or a blank and more
abbrev pub MayFollow : List ℕ → Type 0
MayFollow [] = Unit {0}
MayFollow (b ∷ bs) = IsBlank b

-- a line's first word: what stands before the first blank, or the whole line where it has none
pub record IsFirstWord (line word : List ℕ) : Type 0 where
  pub behind : List ℕ
  pub whole : line ≡ word ++ behind
  pub solid : All (λ b. is_blank b ≡ false) word
  pub ends : MayFollow behind

-- a blank line, which is not too long
pub record IsBlankLine (line : List ℕ) : Type 0 where
  pub short : length line ≤ 65536
  pub blank : All IsBlank line

-- a line that is neither too long nor blank
pub record HasWords (line : List ℕ) : Type 0 where
  pub short : length line ≤ 65536
  pub not_blank : All IsBlank line → ⊥

-- a line whose first word is no command's
pub record HasNoCommand (line : List ℕ) : Type 0 where
  pub has_words : HasWords line
  pub word : List ℕ
  pub first : IsFirstWord line word
  pub unknown : (c : Command) → word_of c ≡ word → ⊥

-- a line whose first word is a command's, and that asks for nothing
pub record HasBadArguments (line : List ℕ) : Type 0 where
  pub has_words : HasWords line
  pub command : Command
  pub first : IsFirstWord line (word_of command)
  pub unasked : (r : Request) → AsksFor line r → ⊥

-- a line is read as too long, as blank, as one of no command or as one of bad arguments exactly where it is that
abbrev pub OthersAreTold : Type 0
OthersAreTold = (line : List ℕ) →
    ((request_of line ≡ requests.Bad reasons.Long) ↔ (65536 < length line)) ×
    ((request_of line ≡ requests.Nothing) ↔ IsBlankLine line) ×
    ((request_of line ≡ requests.Bad reasons.Command) ↔ HasNoCommand line) ×
    ((request_of line ≡ requests.Bad reasons.Arguments) ↔ HasBadArguments line)
