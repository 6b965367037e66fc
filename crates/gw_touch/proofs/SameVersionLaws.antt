-- Versions that compare as one are one; and each compares as one with itself.
use Rattle.std.proofs.Common.{◌≡◌, ℕ, ℤ, ◌==◌, ◌&&◌, ◌≤◌, ◌<◌, true, false, length, arith, List, [], ◌∷◌, Option, Some, None, refl, ap, ap₂, subst, ◌∙◌}
use Rattle.std.specs.Str.{bytes_eq}
use Rattle.std.specs.Ordering.{int_eq}
use Rattle.std.proofs.lemmas.Bool.{and_from, and_parts, eq-eqb, eqb-true}
use Rattle.std.proofs.lemmas.Bool.Decides.{Decides-int_eq}
use Rattle.std.proofs.lemmas.Slice.Eq.{bytes_eq-Decides}
use Rattle.gw_expr.specs.Term.{Term}
use Rattle.gw_meaning.specs.Classes.{Scale}
use Rattle.gw_meaning.specs.declared.table.Table.{Table}
use Rattle.gw_meaning.specs.declared.statement.Statement.{Statement}
use Rattle.gw_meaning.specs.declared.statement.Numbered.{Numbered}
use Rattle.gw_meaning.specs.declared.statement.Replication.{Replication}
use Rattle.gw_meaning.specs.declared.statement.Body.{Body}
use Rattle.gw_meaning.specs.declared.statement.Body.TheVariants as bodies
use Rattle.gw_meaning.specs.declared.statement.Definition.{Definition}
use Rattle.gw_meaning.specs.declared.statement.Definition.TheVariants as definitions
use Rattle.gw_meaning.specs.declared.statement.Command.{Command}
use Rattle.gw_meaning.specs.declared.statement.Command.TheVariants as commands
use Rattle.gw_meaning.specs.Listing.{Listing}
use Rattle.gw_touch.specs.Same.{same_term, same_label}
use Rattle.gw_touch.specs.SameVersions.{same_classes, same_table, same_definition, same_stream, same_streams, same_command, same_content, same_line, same_lines, same_replications, same_listing}
use Rattle.gw_touch.proofs.SameBlocks.{term_same, block_same, function_same, label_same}
use Rattle.gw_touch.proofs.SameItself.{bytes_itself, term_itself, block_itself, function_itself, one_label}

number_itself : (n : ℕ) → (n == n) ≡ true
number_itself n = eq-eqb n n refl

value_itself : (x : ℤ) → int_eq x x ≡ true
value_itself x = (Decides-int_eq x x).1 refl

-- ---- definitions

classes_same : (c d : Scale) → same_classes c d ≡ true → c ≡ d
classes_same c d h =
    let but_first = and_parts (int_eq c.first d.first) _ h in
    let last = and_parts (c.width == d.width) (c.count == d.count) but_first.1 in
    ap₂ (λ x w. record { first = x; width = w; count = c.count }) ((Decides-int_eq c.first d.first).0 but_first.0) (eqb-true c.width d.width last.0)
    ∙ ap (λ n. record { first = d.first; width = d.width; count = n }) (eqb-true c.count d.count last.1)

classes_itself : (c : Scale) → same_classes c c ≡ true
classes_itself c =
    and_from (int_eq c.first c.first) _ (value_itself c.first)
    (and_from (c.width == c.width) (c.count == c.count) (number_itself c.width) (number_itself c.count))

table_same : (a b : Table) → same_table a b ≡ true → a ≡ b
table_same a b h =
    let w = and_parts (same_term a.argument b.argument) (same_classes a.classes b.classes) h in
    ap₂ (λ (t : Term) (c : Scale). record { argument = t; classes = c }) (term_same a.argument b.argument w.0) (classes_same a.classes b.classes w.1)

table_itself : (a : Table) → same_table a a ≡ true
table_itself a =
    and_from (same_term a.argument a.argument) (same_classes a.classes a.classes) (term_itself a.argument) (classes_itself a.classes)

definition_same : (d e : Definition) → same_definition d e ≡ true → d ≡ e
definition_same (definitions.Storage m) (definitions.Storage n) h = ap (λ k. definitions.Storage k) (eqb-true m n h)
definition_same (definitions.Storage m) (definitions.Equ y) h = absurd cc
definition_same (definitions.Storage m) (definitions.Variable b) h = absurd cc
definition_same (definitions.Storage m) (definitions.Function g) h = absurd cc
definition_same (definitions.Storage m) (definitions.Table b) h = absurd cc
definition_same (definitions.Equ x) (definitions.Storage n) h = absurd cc
definition_same (definitions.Equ x) (definitions.Equ y) h = ap (λ k. definitions.Equ k) ((Decides-int_eq x y).0 h)
definition_same (definitions.Equ x) (definitions.Variable b) h = absurd cc
definition_same (definitions.Equ x) (definitions.Function g) h = absurd cc
definition_same (definitions.Equ x) (definitions.Table b) h = absurd cc
definition_same (definitions.Variable a) (definitions.Storage n) h = absurd cc
definition_same (definitions.Variable a) (definitions.Equ y) h = absurd cc
definition_same (definitions.Variable a) (definitions.Variable b) h = ap (λ k. definitions.Variable k) (term_same a b h)
definition_same (definitions.Variable a) (definitions.Function g) h = absurd cc
definition_same (definitions.Variable a) (definitions.Table b) h = absurd cc
definition_same (definitions.Function f) (definitions.Storage n) h = absurd cc
definition_same (definitions.Function f) (definitions.Equ y) h = absurd cc
definition_same (definitions.Function f) (definitions.Variable b) h = absurd cc
definition_same (definitions.Function f) (definitions.Function g) h = ap (λ k. definitions.Function k) (function_same f g h)
definition_same (definitions.Function f) (definitions.Table b) h = absurd cc
definition_same (definitions.Table a) (definitions.Storage n) h = absurd cc
definition_same (definitions.Table a) (definitions.Equ y) h = absurd cc
definition_same (definitions.Table a) (definitions.Variable b) h = absurd cc
definition_same (definitions.Table a) (definitions.Function g) h = absurd cc
definition_same (definitions.Table a) (definitions.Table b) h = ap (λ k. definitions.Table k) (table_same a b h)

definition_itself : (d : Definition) → same_definition d d ≡ true
definition_itself (definitions.Storage m) = number_itself m
definition_itself (definitions.Equ x) = value_itself x
definition_itself (definitions.Variable a) = term_itself a
definition_itself (definitions.Function f) = function_itself f
definition_itself (definitions.Table a) = table_itself a

-- ---- commands

stream_same : (a b : Option ℕ) → same_stream a b ≡ true → a ≡ b
stream_same None None h = refl
stream_same None (Some w) h = absurd cc
stream_same (Some v) None h = absurd cc
stream_same (Some v) (Some w) h = ap (λ k. Some k) (eqb-true v w h)

stream_itself : (a : Option ℕ) → same_stream a a ≡ true
stream_itself None = refl
stream_itself (Some v) = number_itself v

streams_same : (xs ys : List (Option ℕ)) → same_streams xs ys ≡ true → xs ≡ ys
streams_same [] [] h = refl
streams_same [] (b ∷ ys) h = absurd cc
streams_same (a ∷ xs) [] h = absurd cc
streams_same (a ∷ xs) (b ∷ ys) h =
    let w = and_parts (same_stream a b) (same_streams xs ys) h in
    ap₂ (λ z zs. z ∷ zs) (stream_same a b w.0) (streams_same xs ys w.1)

streams_itself : (xs : List (Option ℕ)) → same_streams xs xs ≡ true
streams_itself [] = refl
streams_itself (a ∷ xs) = and_from (same_stream a a) (same_streams xs xs) (stream_itself a) (streams_itself xs)

pub more_streams_than_none : (xs ys : List (Option ℕ)) → 1 ≤ length xs → length ys < 1 → same_streams xs ys ≡ false
more_streams_than_none [] ys some none = absurd (omega arith)
more_streams_than_none (a ∷ xs) [] some none = refl
more_streams_than_none (a ∷ xs) (b ∷ ys) some none = absurd (omega arith)

command_same : (c d : Command) → same_command c d ≡ true → c ≡ d
command_same (commands.Start m) (commands.Start n) h = ap (λ k. commands.Start k) (eqb-true m n h)
command_same (commands.Start m) (commands.Rmult ws) h = absurd cc
command_same (commands.Start m) commands.Reset h = absurd cc
command_same (commands.Start m) commands.Clear h = absurd cc
command_same (commands.Rmult vs) (commands.Start n) h = absurd cc
command_same (commands.Rmult vs) (commands.Rmult ws) h = ap (λ k. commands.Rmult k) (streams_same vs ws h)
command_same (commands.Rmult vs) commands.Reset h = absurd cc
command_same (commands.Rmult vs) commands.Clear h = absurd cc
command_same commands.Reset (commands.Start n) h = absurd cc
command_same commands.Reset (commands.Rmult ws) h = absurd cc
command_same commands.Reset commands.Reset h = refl
command_same commands.Reset commands.Clear h = absurd cc
command_same commands.Clear (commands.Start n) h = absurd cc
command_same commands.Clear (commands.Rmult ws) h = absurd cc
command_same commands.Clear commands.Reset h = absurd cc
command_same commands.Clear commands.Clear h = refl

command_itself : (c : Command) → same_command c c ≡ true
command_itself (commands.Start m) = number_itself m
command_itself (commands.Rmult vs) = streams_itself vs
command_itself commands.Reset = refl
command_itself commands.Clear = refl

-- ---- statements

content_same : (b c : Body) → same_content b c ≡ true → b ≡ c
content_same (bodies.Block b) (bodies.Block c) h = ap (λ k. bodies.Block k) (block_same b c h)
content_same (bodies.Block b) (bodies.Definition e) h = absurd cc
content_same (bodies.Block b) (bodies.Command d) h = absurd cc
content_same (bodies.Definition d) (bodies.Block c) h = absurd cc
content_same (bodies.Definition d) (bodies.Definition e) h = ap (λ k. bodies.Definition k) (definition_same d e h)
content_same (bodies.Definition d) (bodies.Command c) h = absurd cc
content_same (bodies.Command c) (bodies.Block b) h = absurd cc
content_same (bodies.Command c) (bodies.Definition e) h = absurd cc
content_same (bodies.Command c) (bodies.Command d) h = ap (λ k. bodies.Command k) (command_same c d h)

content_itself : (b : Body) → same_content b b ≡ true
content_itself (bodies.Block b) = block_itself b
content_itself (bodies.Definition d) = definition_itself d
content_itself (bodies.Command c) = command_itself c

abbrev statement_of : Option (List ℕ) → Body → List ℕ → Statement
statement_of label body operands = record { label = label; body = body; operands = operands }

line_same : (a b : Numbered) → same_line a b ≡ true → a ≡ b
line_same a b h =
    let s = a.statement in
    let t = b.statement in
    let but_id = and_parts (a.number == b.number) _ h in
    let but_label = and_parts (same_label s.label t.label) _ but_id.1 in
    let last = and_parts (bytes_eq s.operands t.operands) (same_content s.body t.body) but_label.1 in
    let one : s ≡ t =
    ap₂ (λ (l : Option (List ℕ)) (b : Body). statement_of l b s.operands) (label_same s.label t.label but_label.0) (content_same s.body t.body last.1)
    ∙ ap (λ (os : List ℕ). statement_of t.label t.body os) ((bytes_eq-Decides s.operands t.operands).0 last.0) in
    ap₂ (λ (n : ℕ) (x : Statement). record { number = n; statement = x }) (eqb-true a.number b.number but_id.0) one

line_itself : (a : Numbered) → same_line a a ≡ true
line_itself a =
    and_from (a.number == a.number) _ (number_itself a.number)
    (and_from (same_label a.statement.label a.statement.label) _ (one_label a.statement.label a.statement.label refl)
    (and_from (bytes_eq a.statement.operands a.statement.operands) (same_content a.statement.body a.statement.body)
    (bytes_itself a.statement.operands) (content_itself a.statement.body)))

lines_same : (xs ys : List Numbered) → same_lines xs ys ≡ true → xs ≡ ys
lines_same [] [] h = refl
lines_same [] (b ∷ ys) h = absurd cc
lines_same (a ∷ xs) [] h = absurd cc
lines_same (a ∷ xs) (b ∷ ys) h =
    let w = and_parts (same_line a b) (same_lines xs ys) h in
    ap₂ (λ z zs. z ∷ zs) (line_same a b w.0) (lines_same xs ys w.1)

lines_itself : (xs : List Numbered) → same_lines xs xs ≡ true
lines_itself [] = refl
lines_itself (a ∷ xs) = and_from (same_line a a) (same_lines xs xs) (line_itself a) (lines_itself xs)

pub more_lines_than_none : (xs ys : List Numbered) → 1 ≤ length xs → length ys < 1 → same_lines xs ys ≡ false
more_lines_than_none [] ys some none = absurd (omega arith)
more_lines_than_none (a ∷ xs) [] some none = refl
more_lines_than_none (a ∷ xs) (b ∷ ys) some none = absurd (omega arith)

-- ---- replications

replications_same : (xs ys : List Replication) → same_replications xs ys ≡ true → xs ≡ ys
replications_same [] [] h = refl
replications_same [] (b ∷ ys) h = absurd cc
replications_same (a ∷ xs) [] h = absurd cc
replications_same (a ∷ xs) (b ∷ ys) h =
    let w = and_parts ((a.number == b.number) && (a.seed == b.seed)) (same_replications xs ys) h in
    let one = and_parts (a.number == b.number) (a.seed == b.seed) w.0 in
    let first : a ≡ b =
    ap₂ (λ (n s : ℕ). record { number = n; seed = s }) (eqb-true a.number b.number one.0) (eqb-true a.seed b.seed one.1) in
    ap₂ (λ z zs. z ∷ zs) first (replications_same xs ys w.1)

replications_itself : (xs : List Replication) → same_replications xs xs ≡ true
replications_itself [] = refl
replications_itself (a ∷ xs) =
    and_from ((a.number == a.number) && (a.seed == a.seed)) (same_replications xs xs)
    (and_from (a.number == a.number) (a.seed == a.seed) (number_itself a.number) (number_itself a.seed)) (replications_itself xs)

pub more_replications_than_none : (xs ys : List Replication) → 1 ≤ length xs → length ys < 1 → same_replications xs ys ≡ false
more_replications_than_none [] ys some none = absurd (omega arith)
more_replications_than_none (a ∷ xs) [] some none = refl
more_replications_than_none (a ∷ xs) (b ∷ ys) some none = absurd (omega arith)

-- ---- versions

abbrev version_of : List Numbered → ℕ → List Replication → ℕ → Listing
version_of lines horizon replications limit = record { lines = lines; horizon = horizon; replications = replications; limit = limit }

pub listings_same : (t u : Listing) → same_listing t u ≡ true → t ≡ u
listings_same t u h =
    let but_horizon = and_parts (t.horizon == u.horizon) _ h in
    let but_limit = and_parts (t.limit == u.limit) _ but_horizon.1 in
    let last = and_parts (same_replications t.replications u.replications) (same_lines t.lines u.lines) but_limit.1 in
    ap₂ (λ (n l : ℕ). version_of t.lines n t.replications l) (eqb-true t.horizon u.horizon but_horizon.0) (eqb-true t.limit u.limit but_limit.0)
    ∙ ap₂ (λ (xs : List Numbered) (rs : List Replication). version_of xs u.horizon rs u.limit) (lines_same t.lines u.lines last.1)
    (replications_same t.replications u.replications last.0)

listing_with_itself : (t : Listing) → same_listing t t ≡ true
listing_with_itself t =
    and_from (t.horizon == t.horizon) _ (number_itself t.horizon)
    (and_from (t.limit == t.limit) _ (number_itself t.limit)
    (and_from (same_replications t.replications t.replications) (same_lines t.lines t.lines) (replications_itself t.replications)
    (lines_itself t.lines)))

pub listing_itself : (t u : Listing) → t ≡ u → same_listing t u ≡ true
listing_itself t u is = subst (λ (v : Listing). same_listing t v ≡ true) is (listing_with_itself t)

-- ---- edits
