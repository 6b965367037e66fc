-- What the program's words ask for: `[MODEL] --seed S --horizon T --every K --limit L --workers W`, as `clap` reads such
-- a line. Which word goes to which name is clap's own definition; the numbers and their limits are ours.
use Rattle.std.specs.Prelude.{◌≡◌, ◌≢◌, ◌⊎◌, ℕ, true, ◌&&◌, List, [], Option, Some, None, Result, Ok, Err, if◌then◌else◌, nat_le, codes}
use Rattle.clap.specs.Words.{App, IsAmong, Rule, Shape, Text, fault_of, first_of, matches_of, new_app, new_rule, with_rule}
use Rattle.clap.specs.Kinds.{Kinds}
use Rattle.clap.specs.Simple.{on_top}
use Rattle.clap.specs.declared.error.kind.ErrorKind.{ErrorKind}
use Rattle.clap.specs.declared.error.kind.ErrorKind.TheVariants as kinds
use Rattle.gw_request.specs.Numbers.{number_of}
use Rattle.gw_script.specs.declared.opening.Options.{Options}
use Rattle.gw_main.specs.declared.words.ModelAt.{ModelAt}
use Rattle.gw_main.specs.declared.words.ModelAt.TheVariants as places
use Rattle.gw_main.specs.declared.words.Wanted.{Wanted}
use Rattle.gw_main.specs.declared.words.Refusal.{Refusal}
use Rattle.gw_main.specs.declared.words.Refusal.TheVariants as refusals

-- an option with one word after its long name
abbrev pub option_rule : Text → Rule
option_rule name = record (new_rule name) { long = Some name; value_names = 1 }

-- the one word that stands for itself
abbrev pub model_rule : Rule
model_rule = record (new_rule (codes "model")) { value_names = 1 }

-- the words begin after the program's name, which has a version
abbrev pub behind_name : Shape → Shape
behind_name s = record s { no_binary_name = true; has_version = true }

-- the program's command line
abbrev pub gpssbench : App
gpssbench = with_rule (with_rule (with_rule (with_rule
    (with_rule (with_rule (on_top behind_name (new_app (codes "gpssbench"))) model_rule) (option_rule (codes "seed")))
    (option_rule (codes "horizon"))) (option_rule (codes "every"))) (option_rule (codes "limit")))
    (option_rule (codes "workers"))

-- what clap finds wrong in the words, or asked for in place of a run: nothing, where it takes them
abbrev pub faults_of : List Text → Kinds
faults_of words = fault_of gpssbench words

-- the word that the words give for a name
abbrev pub word_of : List Text → Text → Option Text
word_of words name = first_of name (matches_of gpssbench words)

-- a number within its limits
abbrev pub within : ℕ → ℕ → Option ℕ → Option ℕ
within least greatest None = None
within least greatest (Some n) = if nat_le least n && nat_le n greatest then Some n else None

-- the number that an option says: its usual one where no word is given, and none where the word is no number of 1 to 18
-- digits, or one beyond the limits
abbrev pub said : ℕ → ℕ → ℕ → Option Text → Option ℕ
said least greatest usual None = Some usual
said least greatest usual (Some word) = within least greatest (number_of word)

-- the options' numbers, by the word that is given for each name: the limits are those of a seed, of a clock, of the
-- kept states and of a run, and the usual ones 1, 1,000,000,000, 1,000 and 1,000,000
abbrev pub seed_of : (Text → Option Text) → Option ℕ
seed_of given = said 1 2147483646 1 (given (codes "seed"))

abbrev pub horizon_of : (Text → Option Text) → Option ℕ
horizon_of given = said 1 1000000000000 1000000000 (given (codes "horizon"))

abbrev pub every_of : (Text → Option Text) → Option ℕ
every_of given = said 1 1000000 1000 (given (codes "every"))

abbrev pub limit_of : (Text → Option Text) → Option ℕ
limit_of given = said 1 1000000 1000000 (given (codes "limit"))

-- how many workers there are, none where no word is given
abbrev pub workers_of : (Text → Option Text) → Option ℕ
workers_of given = said 0 16 0 (given (codes "workers"))

-- each option says a number, and these are the numbers, with the count of workers
pub record SaysOptions (given : Text → Option Text) (o : Options) (count : ℕ) : Type 0 where
  pub seed : seed_of given ≡ Some o.seed
  pub horizon : horizon_of given ≡ Some o.horizon
  pub every : every_of given ≡ Some o.every
  pub limit : limit_of given ≡ Some o.limit
  pub workers : workers_of given ≡ Some count

-- an option says no number
pub data HasBadNumber (given : Text → Option Text) : Type 0 where
  seed : seed_of given ≡ None → HasBadNumber given
  horizon : horizon_of given ≡ None → HasBadNumber given
  every : every_of given ≡ None → HasBadNumber given
  limit : limit_of given ≡ None → HasBadNumber given
  workers : workers_of given ≡ None → HasBadNumber given

-- the model stands on standard input where no word or `-` is given for it, and else in the file of that name
abbrev pub IsModelAt : Option Text → ModelAt → Type 0
IsModelAt None places.Input = Unit {0}
IsModelAt None (places.File path) = ⊥
IsModelAt (Some word) places.Input = word ≡ codes "-"
IsModelAt (Some word) (places.File path) = (word ≢ codes "-") × (path.now ≡ word)

-- the words ask for a run
pub record Asks (words : List Text) (wanted : Wanted) : Type 0 where
  pub taken : faults_of words ≡ []
  pub model : IsModelAt (word_of words (codes "model")) wanted.model
  pub options : SaysOptions (word_of words) wanted.options wanted.workers

-- clap finds something wrong that is no request for help or for the version
pub record IsBadLine (faults : Kinds) : Type 0 where
  pub kind : ErrorKind
  pub found : IsAmong kind faults
  pub no_help : kind ≢ kinds.DisplayHelp
  pub no_version : kind ≢ kinds.DisplayVersion

-- why the words ask for no run: they ask for help or for the version; clap does not take them, or it does and a number
-- is bad; or out of memory
abbrev pub IsRefusedBy : List Text → Refusal → Type 0
IsRefusedBy words (refusals.Help text) =
    IsAmong kinds.DisplayHelp (faults_of words) ⊎ IsAmong kinds.DisplayVersion (faults_of words)
IsRefusedBy words (refusals.Bad text) =
    IsBadLine (faults_of words) ⊎ ((faults_of words ≡ []) × HasBadNumber (word_of words))
IsRefusedBy words refusals.Memory = Unit {0}

-- what the words come to
abbrev pub IsReadAs : List Text → Result Wanted Refusal → Type 0
IsReadAs words (Ok wanted) = Asks words wanted
IsReadAs words (Err refusal) = IsRefusedBy words refusal

-- a refusal for an error of clap's, by its kind
abbrev pub IsRefusalAt : ErrorKind → Refusal → Type 0
IsRefusalAt kind (refusals.Help text) = (kind ≡ kinds.DisplayHelp) ⊎ (kind ≡ kinds.DisplayVersion)
IsRefusalAt kind (refusals.Bad text) =
    (kind ≢ kinds.DisplayHelp) × (kind ≢ kinds.DisplayVersion) × (kind ≢ kinds.OutOfMemory)
IsRefusalAt kind refusals.Memory = Unit {0}

-- a refusal for a number
abbrev pub IsNumberRefusal : Refusal → Type 0
IsNumberRefusal (refusals.Help text) = ⊥
IsNumberRefusal (refusals.Bad text) = Unit {0}
IsNumberRefusal refusals.Memory = Unit {0}
