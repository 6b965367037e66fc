-- The version that a list of statements makes, and what is counted in a version. (Our own.)
use Rattle.std.specs.Prelude.{ℕ, ◌+◌, List, [], ◌∷◌, Option, None, if◌then◌else◌, length, filter}
use Rattle.gw_meaning.specs.Listing.{Listing, is_block, is_command}
use Rattle.gw_meaning.specs.declared.statement.Statement.{Statement}
use Rattle.gw_meaning.specs.declared.statement.Numbered.{Numbered}
use Rattle.gw_meaning.specs.declared.statement.Replication.{Replication}

-- statements with numbers of their own, one after another
abbrev pub numbered : ℕ → List Statement → List Numbered
numbered first [] = []
numbered first (statement ∷ statements) =
    record { number = first; statement = statement } ∷ numbered (first + 1) statements

-- the version with these lines
abbrev pub listing_of : List Numbered → ℕ → List Replication → ℕ → Listing
listing_of lines horizon replications limit =
    record { lines = lines; horizon = horizon; replications = replications; limit = limit }

-- the version with these statements, numbered from 1
abbrev pub listed : List Statement → ℕ → List Replication → ℕ → Listing
listed statements = listing_of (numbered 1 statements)

-- how many blocks there are
abbrev pub blocks : Listing → ℕ
blocks t = length (filter is_block t.lines)

-- the label of a block or of a definition; that of a command does not count
abbrev pub counted_label : Numbered → Option (List ℕ)
counted_label line = if is_command line then None else line.statement.label
