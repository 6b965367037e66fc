-- The verbs, and the class names of attributes. (Manual; the list of the profile.)
use Rattle.std.specs.Prelude.{ℕ, Bool, ◌&&◌, List, [], ◌∷◌, ◌++◌, Option, codes, map, find, length, drop, nat_eq}
use Rattle.std.specs.List.{list_any, list_all, starts_with}
use Rattle.std.specs.Str.{bytes_eq}
use Rattle.std.specs.Char.{is_ascii_digit, to_ascii_uppercase}
use Rattle.gw_names.specs.declared.class.Class.{Class}
use Rattle.gw_names.specs.declared.class.Class.TheVariants as class
use Rattle.gw_names.specs.declared.verb.BlockVerb.{BlockVerb}
use Rattle.gw_names.specs.declared.verb.BlockVerb.TheVariants as blocks
use Rattle.gw_names.specs.declared.verb.DefinitionVerb.{DefinitionVerb}
use Rattle.gw_names.specs.declared.verb.DefinitionVerb.TheVariants as definitions
use Rattle.gw_names.specs.declared.verb.CommandVerb.{CommandVerb}
use Rattle.gw_names.specs.declared.verb.CommandVerb.TheVariants as commands
use Rattle.gw_names.specs.declared.verb.Verb.{Verb}
use Rattle.gw_names.specs.declared.verb.Verb.TheVariants.{Block, Definition, Command}

-- the word of a block's verb
abbrev pub word_of_block : BlockVerb → List ℕ
word_of_block blocks.Generate = codes "GENERATE"
word_of_block blocks.Advance = codes "ADVANCE"
word_of_block blocks.Terminate = codes "TERMINATE"
word_of_block blocks.Seize = codes "SEIZE"
word_of_block blocks.Release = codes "RELEASE"
word_of_block blocks.Enter = codes "ENTER"
word_of_block blocks.Leave = codes "LEAVE"
word_of_block blocks.Queue = codes "QUEUE"
word_of_block blocks.Depart = codes "DEPART"
word_of_block blocks.Transfer = codes "TRANSFER"
word_of_block blocks.Test = codes "TEST"
word_of_block blocks.Gate = codes "GATE"
word_of_block blocks.Logic = codes "LOGIC"
word_of_block blocks.Assign = codes "ASSIGN"
word_of_block blocks.Savevalue = codes "SAVEVALUE"
word_of_block blocks.Mark = codes "MARK"
word_of_block blocks.Buffer = codes "BUFFER"
word_of_block blocks.Priority = codes "PRIORITY"
word_of_block blocks.Tabulate = codes "TABULATE"
word_of_block blocks.Link = codes "LINK"
word_of_block blocks.Unlink = codes "UNLINK"
word_of_block blocks.Split = codes "SPLIT"
word_of_block blocks.Loop = codes "LOOP"

-- the word of a definition's verb
abbrev pub word_of_definition : DefinitionVerb → List ℕ
word_of_definition definitions.Storage = codes "STORAGE"
word_of_definition definitions.Table = codes "TABLE"
word_of_definition definitions.Variable = codes "VARIABLE"
word_of_definition definitions.Equ = codes "EQU"
word_of_definition definitions.Function = codes "FUNCTION"

-- the word of a command's verb
abbrev pub word_of_command : CommandVerb → List ℕ
word_of_command commands.Start = codes "START"
word_of_command commands.Reset = codes "RESET"
word_of_command commands.Clear = codes "CLEAR"
word_of_command commands.Rmult = codes "RMULT"

-- the word of a verb
abbrev pub word_of : Verb → List ℕ
word_of (Block verb) = word_of_block verb
word_of (Definition verb) = word_of_definition verb
word_of (Command verb) = word_of_command verb

-- every verb of a block, of a definition and of a command
abbrev pub block_verbs : List BlockVerb
block_verbs = blocks.Generate ∷ blocks.Advance ∷ blocks.Terminate ∷ blocks.Seize ∷ blocks.Release ∷ blocks.Enter ∷
    blocks.Leave ∷ blocks.Queue ∷ blocks.Depart ∷ blocks.Transfer ∷ blocks.Test ∷ blocks.Gate ∷ blocks.Logic ∷
    blocks.Assign ∷ blocks.Savevalue ∷ blocks.Mark ∷ blocks.Buffer ∷ blocks.Priority ∷ blocks.Tabulate ∷
    blocks.Link ∷ blocks.Unlink ∷ blocks.Split ∷ blocks.Loop ∷ []

abbrev pub definition_verbs : List DefinitionVerb
definition_verbs = definitions.Storage ∷ definitions.Table ∷ definitions.Variable ∷ definitions.Equ ∷
    definitions.Function ∷ []

abbrev pub command_verbs : List CommandVerb
command_verbs = commands.Start ∷ commands.Reset ∷ commands.Clear ∷ commands.Rmult ∷ []

-- every verb of the language
abbrev pub verbs : List Verb
verbs = map (λ v. Block v) block_verbs ++
    (map (λ v. Definition v) definition_verbs ++ map (λ v. Command v) command_verbs)

-- a text in upper case
abbrev pub upper_of : List ℕ → List ℕ
upper_of = map to_ascii_uppercase

-- the verb that an upper-case word is, if it is one
unfoldable pub verb_of : List ℕ → Option Verb
verb_of word = find (λ v. bytes_eq (word_of v) word) verbs

-- the word of an attribute's class
abbrev pub class_word : Class → List ℕ
class_word class.C1 = codes "C1"
class_word class.Ac1 = codes "AC1"
class_word class.Tg1 = codes "TG1"
class_word class.M1 = codes "M1"
class_word class.Xn1 = codes "XN1"
class_word class.Pr = codes "PR"
class_word class.P = codes "P"
class_word class.F = codes "F"
class_word class.Fc = codes "FC"
class_word class.S = codes "S"
class_word class.R = codes "R"
class_word class.Sc = codes "SC"
class_word class.Sm = codes "SM"
class_word class.Q = codes "Q"
class_word class.Qc = codes "QC"
class_word class.Qm = codes "QM"
class_word class.Qz = codes "QZ"
class_word class.N = codes "N"
class_word class.W = codes "W"
class_word class.X = codes "X"
class_word class.Ls = codes "LS"
class_word class.Ch = codes "CH"
class_word class.Cc = codes "CC"
class_word class.Tc = codes "TC"
class_word class.Rn = codes "RN"
class_word class.V = codes "V"
class_word class.Fn = codes "FN"

-- every class
abbrev pub classes : List Class
classes = class.C1 ∷ class.Ac1 ∷ class.Tg1 ∷ class.M1 ∷ class.Xn1 ∷ class.Pr ∷ class.P ∷ class.F ∷ class.Fc ∷ class.S ∷
    class.R ∷ class.Sc ∷ class.Sm ∷ class.Q ∷ class.Qc ∷ class.Qm ∷ class.Qz ∷ class.N ∷ class.W ∷ class.X ∷ class.Ls ∷
    class.Ch ∷ class.Cc ∷ class.Tc ∷ class.Rn ∷ class.V ∷ class.Fn ∷ []

-- a class's word, alone or followed by digits only
abbrev pub is_class_word : List ℕ → List ℕ → Bool
is_class_word word c = starts_with nat_eq word c && list_all is_ascii_digit (drop (length c) word)

unfoldable pub is_class : List ℕ → Bool
is_class word = list_any (λ c. is_class_word word (class_word c)) classes
