-- When two versions are one: where all that they hold is. (Our own.)
use Rattle.std.specs.Prelude.{ℕ, ◌==◌, Bool, true, false, ◌&&◌, List, [], ◌∷◌, Option, Some, None}
use Rattle.std.specs.Str.{bytes_eq}
use Rattle.std.specs.Ordering.{int_eq}
use Rattle.gw_meaning.specs.Classes.{Scale}
use Rattle.gw_meaning.specs.declared.table.Table.{Table}
use Rattle.gw_meaning.specs.declared.statement.Numbered.{Numbered}
use Rattle.gw_meaning.specs.declared.statement.Replication.{Replication}
use Rattle.gw_meaning.specs.declared.statement.Body.{Body}
use Rattle.gw_meaning.specs.declared.statement.Body.TheVariants as bodies
use Rattle.gw_meaning.specs.declared.statement.Definition.{Definition}
use Rattle.gw_meaning.specs.declared.statement.Definition.TheVariants as definitions
use Rattle.gw_meaning.specs.declared.statement.Command.{Command}
use Rattle.gw_meaning.specs.declared.statement.Command.TheVariants as commands
use Rattle.gw_meaning.specs.Listing.{Listing}
use Rattle.gw_touch.specs.Same.{same_term, same_block, same_function, same_label}

-- two TABLEs
abbrev pub same_classes : Scale → Scale → Bool
same_classes c d = int_eq c.first d.first && ((c.width == d.width) && (c.count == d.count))

abbrev pub same_table : Table → Table → Bool
same_table a b = same_term a.argument b.argument && same_classes a.classes b.classes

-- two definitions
abbrev pub same_definition : Definition → Definition → Bool
same_definition (definitions.Storage m) (definitions.Storage n) = m == n
same_definition (definitions.Equ x) (definitions.Equ y) = int_eq x y
same_definition (definitions.Variable a) (definitions.Variable b) = same_term a b
same_definition (definitions.Function f) (definitions.Function g) = same_function f g
same_definition (definitions.Table a) (definitions.Table b) = same_table a b
same_definition d e = false

-- two commands
abbrev pub same_stream : Option ℕ → Option ℕ → Bool
same_stream None None = true
same_stream (Some v) (Some w) = v == w
same_stream a b = false

abbrev pub same_streams : List (Option ℕ) → List (Option ℕ) → Bool
same_streams [] [] = true
same_streams [] (b ∷ bs) = false
same_streams (a ∷ rest) [] = false
same_streams (a ∷ rest) (b ∷ bs) = same_stream a b && same_streams rest bs

abbrev pub same_command : Command → Command → Bool
same_command (commands.Start m) (commands.Start n) = m == n
same_command (commands.Rmult vs) (commands.Rmult ws) = same_streams vs ws
same_command commands.Reset commands.Reset = true
same_command commands.Clear commands.Clear = true
same_command c d = false

-- two statements with their ids
abbrev pub same_content : Body → Body → Bool
same_content (bodies.Block b) (bodies.Block c) = same_block b c
same_content (bodies.Definition d) (bodies.Definition e) = same_definition d e
same_content (bodies.Command c) (bodies.Command d) = same_command c d
same_content b c = false

abbrev pub same_line : Numbered → Numbered → Bool
same_line a b =
    (a.number == b.number) && (same_label a.statement.label b.statement.label
    && (bytes_eq a.statement.operands b.statement.operands && same_content a.statement.body b.statement.body))

abbrev pub same_lines : List Numbered → List Numbered → Bool
same_lines [] [] = true
same_lines [] (b ∷ bs) = false
same_lines (a ∷ rest) [] = false
same_lines (a ∷ rest) (b ∷ bs) = same_line a b && same_lines rest bs

-- two lists of replications
abbrev pub same_replications : List Replication → List Replication → Bool
same_replications [] [] = true
same_replications [] (b ∷ bs) = false
same_replications (a ∷ rest) [] = false
same_replications (a ∷ rest) (b ∷ bs) =
    ((a.number == b.number) && (a.seed == b.seed)) && same_replications rest bs

-- two versions
abbrev pub same_listing : Listing → Listing → Bool
same_listing t u =
    (t.horizon == u.horizon) && ((t.limit == u.limit)
    && (same_replications t.replications u.replications && same_lines t.lines u.lines))
