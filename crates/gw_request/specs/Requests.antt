-- What a script line asks for. (The table of script lines, and the order of its three faults.)
use Rattle.std.specs.Prelude.{ℕ, Bool, false, ◌&&◌, List, Option, Some, None, if◌then◌else◌, length, nat_lt, nat_le, unwrap_or}
use Rattle.std.specs.List.{list_all}
use Rattle.gw_request.specs.declared.command.Command.{Command}
use Rattle.gw_request.specs.declared.request.Request.{Request}
use Rattle.gw_request.specs.declared.request.Request.TheVariants as requests
use Rattle.gw_request.specs.declared.request.Reason.TheVariants as reasons
use Rattle.gw_request.specs.Words.{is_blank, first_word}
use Rattle.gw_request.specs.Commands.{command_of}
use Rattle.gw_request.specs.Arguments.{request_in, copies_words}

-- what a first word that may be a command asks for with what stands after its blank
abbrev pub request_with : Option Command → Option (List ℕ) → Request
request_with None words = requests.Bad reasons.Command
request_with (Some c) words = unwrap_or (request_in c words) (requests.Bad reasons.Arguments)

-- what a script line asks for: too long a line comes before everything, then a blank one
unfoldable pub request_of : List ℕ → Request
request_of line =
    if nat_lt 65536 (length line)
    then requests.Bad reasons.Long
    else (if list_all is_blank line
    then requests.Nothing
    else request_with (command_of (first_word line).0) (first_word line).1)

-- whether a first word that may be a command is one whose text or name is copied
abbrev pub copies : Option Command → Option (List ℕ) → Bool
copies None words = false
copies (Some c) words = copies_words c words

-- whether memory may be wanted for a line: one that is not too long, of a command that copies, with a number that is one
abbrev pub may_want_memory : List ℕ → Bool
may_want_memory line = nat_le (length line) 65536 && copies (command_of (first_word line).0) (first_word line).1
