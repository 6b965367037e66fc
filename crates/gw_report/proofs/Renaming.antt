-- The report of a version with its ids renamed is the report.
use Rattle.std.proofs.Common.{◌≡◌, ℕ, ℤ, suc, ◌-◌, true, false, cond, List, [], ◌∷◌, ◌++◌, map, filter, length, Option, Some, None, option_map, option_to_list, unwrap_or, refl, ap, ap₂, ◌∙◌}
use Rattle.std.specs.Prelude.{decimal, nat_le}
use Rattle.std.specs.List.{flat_map}
use Rattle.std.proofs.lemmas.List.{length-map}
use Rattle.gw_names.specs.declared.key.Key.{Key}
use Rattle.gw_names.specs.declared.key.Key.TheVariants as keys
use Rattle.gw_meaning.specs.Levels.{sum_up_to}
use Rattle.gw_meaning.specs.Records.{Ownership, Line, Store}
use Rattle.gw_meaning.specs.declared.statement.Block.{Block}
use Rattle.gw_meaning.specs.declared.statement.Statement.{Statement}
use Rattle.gw_meaning.specs.declared.statement.Numbered.{Numbered}
use Rattle.gw_meaning.specs.declared.transaction.Transaction.{Transaction}
use Rattle.gw_meaning.specs.declared.transaction.Event.{Event}
use Rattle.gw_meaning.specs.Listing.{Listing, block_of, block_of_body, operands_of_body, is_block, label_at, has_label, definition_of_body, definition_if, or_next, defined_in, units_of, number_of, number_at, seed_in}
use Rattle.gw_meaning.specs.declared.watched.EntityKind.TheVariants as kinds
use Rattle.gw_meaning.specs.declared.watched.Watched.TheVariants as watched
use Rattle.gw_meaning.specs.Changes.{retries}
use Rattle.gw_meaning.specs.Machine.{Machine, count_at, delay_at}
use Rattle.gw_frame.specs.Moved.{IsMove, moved_machine, moved_transaction, moved_event, moved_count}
use Rattle.gw_frame.specs.Renamed.{AreRenamed, IsRenamed}
use Rattle.gw_frame.proofs.Delays.{delay_at_moved}
use Rattle.gw_frame.proofs.MovedLists.{count_at_moved, cond_under}
use Rattle.gw_frame.proofs.MovedWaiters.{retries_moved}
use Rattle.gw_frame.proofs.Renaming.{after_renamed, position_renamed, said_renamed, label_renamed, same_kind}
use Rattle.gw_report.specs.Layout.{section_of, table_of}
use Rattle.gw_report.specs.Cells.{signed}
use Rattle.gw_report.specs.Chains.{position_of, next_number, line_of, put_by, by_time, current_line, future_line, current_columns, future_columns, current_text, future_text}
use Rattle.gw_report.specs.Names.{name_columns, names_in_operand, names_of, names_in, each_once, value_by, next_by, value_text, next_behind, name_lines, names_text}
use Rattle.gw_report.specs.Storages.{storage_columns, storage_line, storages_text}
use Rattle.gw_report.specs.Storages as storages
use Rattle.gw_report.specs.Tables.{table_columns, table_row, scale_of_definition, scale_at, scale_lines, table_lines, tables_text}
use Rattle.gw_report.specs.Blocks.{label_text, block_line, block_lines_of, block_lines, block_columns, blocks_text}
use Rattle.gw_report.specs.Facilities.{facility_columns, facility_row, facility_line, facilities_text}
use Rattle.gw_report.specs.Queues.{queue_columns, queue_row, queue_line, queues_text}
use Rattle.gw_report.specs.Report.{seed_of, title_text, head_columns, head_text, text_of}
use Rattle.gw_report.specs.Renamed.{RenamedText}

module _ (move : ℕ → ℕ) (t u : Listing) (r : IsRenamed move t u) where
  -- the positions of ids, and those of the ids that may be none
  id_renamed : (p : ℕ) → position_of u (Some (move p)) ≡ position_of t (Some p)
  unfolding position_of
  id_renamed p = ap (λ o. unwrap_or o 0) (position_renamed move r.is_move 0 t.lines u.lines r.lines p)

  maybe_renamed : (o : Option ℕ) → position_of u (option_map move o) ≡ position_of t o
  unfolding position_of
  maybe_renamed None = refl
  maybe_renamed (Some p) = ap (λ o. unwrap_or o 0) (position_renamed move r.is_move 0 t.lines u.lines r.lines p)

  next_renamed : (x : Transaction) (o : Option ℕ) → next_number u (moved_transaction move x) (option_map move o) ≡ option_map move (next_number t x o)
  next_renamed x None = after_renamed move r.is_move t.lines u.lines r.lines x.current
  next_renamed x (Some p) = refl

  -- the lines of transactions
  line_renamed : (time : ℕ) (x : Transaction) → line_of u time (moved_transaction move x) ≡ line_of t time x
  unfolding line_of
  line_renamed time x =
      let here = id_renamed x.current in
      let there : position_of u (next_number u (moved_transaction move x) (option_map move x.destination)) ≡ position_of t (next_number t x x.destination) =
      ap (position_of u) (next_renamed x x.destination) ∙ maybe_renamed (next_number t x x.destination) in
      ap₂ (λ a b. decimal x.number ∷ signed x.priority ∷ decimal time ∷ decimal a ∷ decimal b ∷ []) here there

  lines_renamed : (xs : List Transaction) → map (current_line u) (map (moved_transaction move) xs) ≡ map (current_line t) xs
  lines_renamed [] = refl
  lines_renamed (x ∷ xs) = ap₂ (λ line lines. line ∷ lines) (line_renamed x.mark x) (lines_renamed xs)

  events_renamed : (es : List Event) → map (future_line u) (map (moved_event move) es) ≡ map (future_line t) es
  events_renamed [] = refl
  events_renamed (e ∷ es) = ap₂ (λ line lines. line ∷ lines) (line_renamed e.time e.transaction) (events_renamed es)

  waiting_renamed : (o : Option Transaction) (xs : List Transaction) →
      map (current_line u) (option_to_list (option_map (moved_transaction move) o) ++ map (moved_transaction move) xs) ≡
      map (current_line t) (option_to_list o ++ xs)
  waiting_renamed None xs = lines_renamed xs
  waiting_renamed (Some x) xs = lines_renamed (x ∷ xs)

  put_renamed : (e : Event) (es : List Event) → put_by (λ (x : Event). x.time) (moved_event move e) (map (moved_event move) es) ≡
      map (moved_event move) (put_by (λ (x : Event). x.time) e es)
  put_renamed e [] = refl
  put_renamed e (f ∷ es) = cond_under (map (moved_event move)) (nat_le e.time f.time) _ _ _ _ refl (ap (λ fs. moved_event move f ∷ fs) (put_renamed e es))

  order_renamed : (es : List Event) → by_time (map (moved_event move) es) ≡ map (moved_event move) (by_time es)
  order_renamed [] = refl
  order_renamed (e ∷ es) = ap (put_by (λ (x : Event). x.time) (moved_event move e)) (order_renamed es) ∙ put_renamed e (by_time es)

  current_renamed : (s : Machine) → current_text u (moved_machine move s) ≡ current_text t s
  unfolding current_text
  current_renamed s = ap (section_of current_columns) (waiting_renamed s.active s.current)

  future_renamed : (s : Machine) → future_text u (moved_machine move s) ≡ future_text t s
  unfolding future_text
  future_renamed s = ap (section_of future_columns) (ap (map (future_line u)) (order_renamed s.future) ∙ events_renamed (by_time s.future))

  -- the names, and their values
  value_renamed : (next : ℕ) (o : Option ℕ) → value_by u next (option_map move o) ≡ value_by t next o
  value_renamed next None = refl
  value_renamed next (Some p) = id_renamed p

  next_by_renamed : (next : ℕ) (o : Option ℕ) → next_by next (option_map move o) ≡ next_by next o
  next_by_renamed next None = refl
  next_by_renamed next (Some p) = refl

  text_renamed : (next : ℕ) (number : Option ℤ) (o : Option ℕ) → value_text u next number (option_map move o) ≡ value_text t next number o
  text_renamed next (Some n) o = refl
  text_renamed next None o = ap decimal (value_renamed next o)

  behind_renamed : (next : ℕ) (number : Option ℤ) (o : Option ℕ) → next_behind next number (option_map move o) ≡ next_behind next number o
  behind_renamed next (Some n) o = refl
  behind_renamed next None o = next_by_renamed next o

  name_lines_renamed : (next : ℕ) (names : List (List ℕ)) → name_lines u next names ≡ name_lines t next names
  name_lines_renamed next [] = refl
  name_lines_renamed next (name ∷ names) =
      let label = label_renamed move r.is_move name t.lines u.lines r.lines in
      let number = said_renamed move r.is_move number_of name t.lines u.lines r.lines in
      let value = ap₂ (value_text u next) number label ∙ text_renamed next (number_at t name) (label_at t name) in
      let behind = ap₂ (next_behind next) number label ∙ behind_renamed next (number_at t name) (label_at t name) in
      let rest = name_lines_renamed (next_behind next (number_at t name) (label_at t name)) names in
      ap₂ (λ v ns. (name ∷ v ∷ []) ∷ ns) value (ap (λ n. name_lines u n names) behind ∙ rest)

  named_renamed : (ls ms : List Numbered) → AreRenamed move ls ms → flat_map names_of ms ≡ flat_map names_of ls
  named_renamed [] [] h = refl
  named_renamed [] (m ∷ ms) h = absurd h
  named_renamed (l ∷ ls) [] h = absurd h
  named_renamed (l ∷ ls) (m ∷ ms) h =
      ap₂ ◌++◌ (ap (λ (x : Statement). option_to_list x.label ++ flat_map names_in_operand (operands_of_body x.body)) h.1) (named_renamed ls ms h.2)

  pub names_renamed : name_lines u 10000 (names_in u) ≡ name_lines t 10000 (names_in t)
  names_renamed = ap (λ names. name_lines u 10000 (each_once names)) (named_renamed t.lines u.lines r.lines) ∙ name_lines_renamed 10000 (names_in t)

  -- the lines of blocks
  row_renamed : (s : Machine) (l m : Numbered) (block : Block) → m.number ≡ move l.number → m.statement ≡ l.statement →
      block_line u m block (count_at (map (moved_count move) s.counts) m.number) (retries (moved_machine move s) (watched.Counts m.number)) ≡
      block_line t l block (count_at s.counts l.number) (retries s (watched.Counts l.number))
  unfolding block_line
  row_renamed s l m block number statement =
      let label : label_text m.statement.label ≡ label_text l.statement.label = ap (λ (x : Statement). label_text x.label) statement in
      let position : position_of u (Some m.number) ≡ position_of t (Some l.number) = ap (λ n. position_of u (Some n)) number ∙ id_renamed l.number in
      let count : count_at (map (moved_count move) s.counts) m.number ≡ count_at s.counts l.number =
      ap (count_at (map (moved_count move) s.counts)) number ∙ count_at_moved move r.is_move s.counts l.number in
      let retry : retries (moved_machine move s) (watched.Counts m.number) ≡ retries s (watched.Counts l.number) =
      ap (λ n. retries (moved_machine move s) (watched.Counts n)) number ∙ retries_moved move r.is_move s (watched.Counts l.number) in
      rw (label, position, count, retry) refl

  block_by : (s : Machine) (l m : Numbered) (o : Option Block) → m.number ≡ move l.number → m.statement ≡ l.statement →
      block_lines_of u (moved_machine move s) m o ≡ block_lines_of t s l o
  block_by s l m None number statement = refl
  block_by s l m (Some block) number statement = ap (λ row. row ∷ []) (row_renamed s l m block number statement)

  block_renamed : (s : Machine) (l m : Numbered) → m.number ≡ move l.number → m.statement ≡ l.statement →
      block_lines u (moved_machine move s) m ≡ block_lines t s l
  block_renamed s l m number statement =
      ap (λ (x : Statement). block_lines_of u (moved_machine move s) m (block_of_body x.body)) statement ∙ block_by s l m (block_of l) number statement

  pub blocks_renamed : (s : Machine) (ls ms : List Numbered) → AreRenamed move ls ms →
      flat_map (block_lines u (moved_machine move s)) ms ≡ flat_map (block_lines t s) ls
  blocks_renamed s [] [] h = refl
  blocks_renamed s [] (m ∷ ms) h = absurd h
  blocks_renamed s (l ∷ ls) [] h = absurd h
  blocks_renamed s (l ∷ ls) (m ∷ ms) h = ap₂ ◌++◌ (block_renamed s l m h.0 h.1) (blocks_renamed s ls ms h.2)

-- as many blocks
blocks_counted : (move : ℕ → ℕ) (ls ms : List Numbered) → AreRenamed move ls ms → length (filter is_block ms) ≡ length (filter is_block ls)
blocks_counted move [] [] h = refl
blocks_counted move [] (m ∷ ms) h = absurd h
blocks_counted move (l ∷ ls) [] h = absurd h
blocks_counted move (l ∷ ls) (m ∷ ms) h =
    rw (same_kind l m h.1)
    (elim (is_block l) as (λ b. length (cond b (m ∷ filter is_block ms) (filter is_block ms)) ≡ length (cond b (l ∷ filter is_block ls) (filter is_block ls)))
    [ true ↦ ap suc (blocks_counted move ls ms h.2) | false ↦ blocks_counted move ls ms h.2 ])

head_renamed : (move : ℕ → ℕ) (t u : Listing) (s : Machine) → IsRenamed move t u → head_text u (moved_machine move s) ≡ head_text t s
unfolding head_text
head_renamed move t u s r =
    ap (λ n. table_of head_columns ((decimal s.since ∷ decimal s.clock ∷ decimal n ∷
    decimal (length s.entities.facilities) ∷ decimal (length s.entities.storages) ∷ []) ∷ []))
    (blocks_counted move t.lines u.lines r.lines)

seed_renamed : (move : ℕ → ℕ) (t u : Listing) (rep : ℕ) → IsRenamed move t u → seed_of u rep ≡ seed_of t rep
unfolding seed_of
seed_renamed move t u rep r = ap (λ rs. unwrap_or (seed_in rs rep) 0) r.replications

names_text_renamed : (move : ℕ → ℕ) (t u : Listing) → IsRenamed move t u → names_text u ≡ names_text t
unfolding names_text
names_text_renamed move t u r = ap (section_of name_columns) (names_renamed move t u r)

blocks_text_renamed : (move : ℕ → ℕ) (t u : Listing) (s : Machine) → IsRenamed move t u → blocks_text u (moved_machine move s) ≡ blocks_text t s
unfolding blocks_text
blocks_text_renamed move t u s r = ap (table_of block_columns) (blocks_renamed move t u r s t.lines u.lines r.lines)

-- as many wait for each facility, and for a change of it
facility_renamed : (move : ℕ → ℕ) → IsMove move → (s : Machine) (f : Key × Ownership) → facility_line (moved_machine move s) f ≡ facility_line s f
unfolding facility_line
facility_renamed move is s f =
    ap₂ (λ r n. facility_row (sum_up_to f.1.level s.clock) (s.clock - s.since) r n f.0 f.1)
    (retries_moved move is s (watched.Entity kinds.Facility f.0))
    (ap length (delay_at_moved move s.delays f.0) ∙ length-map (delay_at s.delays f.0) (moved_transaction move))

facilities_renamed : (move : ℕ → ℕ) → IsMove move → (s : Machine) (fs : List (Key × Ownership)) →
    map (facility_line (moved_machine move s)) fs ≡ map (facility_line s) fs
facilities_renamed move is s [] = refl
facilities_renamed move is s (f ∷ fs) = ap₂ (λ line lines. line ∷ lines) (facility_renamed move is s f) (facilities_renamed move is s fs)

facilities_text_renamed : (move : ℕ → ℕ) → IsMove move → (s : Machine) → facilities_text (moved_machine move s) ≡ facilities_text s
unfolding facilities_text
facilities_text_renamed move is s = ap (section_of facility_columns) (facilities_renamed move is s s.entities.facilities)

-- as many wait for a change of each queue
queues_renamed : (move : ℕ → ℕ) → IsMove move → (s : Machine) (qs : List (Key × Line)) →
    map (queue_line (moved_machine move s)) qs ≡ map (queue_line s) qs
unfolding queue_line
queues_renamed move is s [] = refl
queues_renamed move is s (q ∷ qs) = ap₂ (λ line lines. line ∷ lines)
    (ap (λ r. queue_row (sum_up_to q.1.level s.clock) (s.clock - s.since) r q.0 q.1) (retries_moved move is s (watched.Entity kinds.Queue q.0)))
    (queues_renamed move is s qs)

queues_text_renamed : (move : ℕ → ℕ) → IsMove move → (s : Machine) → queues_text (moved_machine move s) ≡ queues_text s
unfolding queues_text
queues_text_renamed move is s = ap (section_of queue_columns) (queues_renamed move is s s.entities.queues)

-- the units of a storage, and as many wait for it
units_renamed : (move : ℕ → ℕ) (t u : Listing) → IsRenamed move t u → (key : Key) → storages.units_of u key ≡ storages.units_of t key
units_renamed move t u r (keys.Num number) = refl
units_renamed move t u r (keys.Named name) = refl
units_renamed move t u r (keys.Defined name) = ap (λ o. unwrap_or o 0) (said_renamed move r.is_move units_of name t.lines u.lines r.lines)

storage_renamed : (move : ℕ → ℕ) (t u : Listing) → IsRenamed move t u → (s : Machine) (e : Key × Store) →
    storage_line u (moved_machine move s) e ≡ storage_line t s e
unfolding storage_line
storage_renamed move t u r s e =
    let units : storages.units_of u e.0 ≡ storages.units_of t e.0 = units_renamed move t u r e.0 in
    let retry = retries_moved move r.is_move s (watched.Entity kinds.Storage e.0) in
    let delayed = ap length (delay_at_moved move s.delays e.0) ∙ length-map (delay_at s.delays e.0) (moved_transaction move) in
    rw (units, retry, delayed) refl

storages_renamed : (move : ℕ → ℕ) (t u : Listing) → IsRenamed move t u → (s : Machine) (es : List (Key × Store)) →
    map (storage_line u (moved_machine move s)) es ≡ map (storage_line t s) es
storages_renamed move t u r s [] = refl
storages_renamed move t u r s (e ∷ es) = ap₂ (λ line lines. line ∷ lines) (storage_renamed move t u r s e) (storages_renamed move t u r s es)

storages_text_renamed : (move : ℕ → ℕ) (t u : Listing) (s : Machine) → IsRenamed move t u → storages_text u (moved_machine move s) ≡ storages_text t s
unfolding storages_text
storages_text_renamed move t u s r = ap (section_of storage_columns) (storages_renamed move t u r s s.entities.storages)

-- the classes of a table, and as many wait for a change of it
definition_renamed : (move : ℕ → ℕ) (name : List ℕ) (ls ms : List Numbered) → AreRenamed move ls ms → defined_in name ms ≡ defined_in name ls
definition_renamed move name [] [] r = refl
definition_renamed move name [] (m ∷ ms) r = absurd r
definition_renamed move name (l ∷ ls) [] r = absurd r
definition_renamed move name (l ∷ ls) (m ∷ ms) r = ap₂ or_next
    (ap (λ (x : Statement). definition_if (has_label name x.label) (definition_of_body x.body)) r.1) (definition_renamed move name ls ms r.2)

scale_renamed : (move : ℕ → ℕ) (t u : Listing) → IsRenamed move t u → (key : Key) → scale_at u key ≡ scale_at t key
scale_renamed move t u r (keys.Num number) = refl
scale_renamed move t u r (keys.Named name) = refl
scale_renamed move t u r (keys.Defined name) = ap scale_of_definition (definition_renamed move name t.lines u.lines r.lines)

table_renamed : (move : ℕ → ℕ) (t u : Listing) → IsRenamed move t u → (s : Machine) (e : Key × List ℤ) →
    table_lines u (moved_machine move s) e ≡ table_lines t s e
unfolding table_lines
table_renamed move t u r s e =
    ap₂ (λ retry scale. table_row retry e.0 e.1 ∷ scale_lines scale e.1) (retries_moved move r.is_move s (watched.Entity kinds.Table e.0))
    (scale_renamed move t u r e.0)

tables_renamed : (move : ℕ → ℕ) (t u : Listing) → IsRenamed move t u → (s : Machine) (es : List (Key × List ℤ)) →
    flat_map (table_lines u (moved_machine move s)) es ≡ flat_map (table_lines t s) es
tables_renamed move t u r s [] = refl
tables_renamed move t u r s (e ∷ es) = ap₂ ◌++◌ (table_renamed move t u r s e) (tables_renamed move t u r s es)

tables_text_renamed : (move : ℕ → ℕ) (t u : Listing) (s : Machine) → IsRenamed move t u → tables_text u (moved_machine move s) ≡ tables_text t s
unfolding tables_text
tables_text_renamed move t u s r = ap (section_of table_columns) (tables_renamed move t u r s s.entities.tables)

pub renamed_text : RenamedText
unfolding text_of
renamed_text move t u rep k s outcome r =
    ap₂ ◌++◌
    (ap₂ ◌++◌
    (ap₂ ◌++◌
    (ap₂ ◌++◌
    (ap₂ ◌++◌
    (ap₂ ◌++◌
    (ap₂ ◌++◌
    (ap₂ ◌++◌ (ap₂ ◌++◌ (ap (λ seed. title_text rep seed k outcome) (seed_renamed move t u rep r)) (head_renamed move t u s r)) (names_text_renamed move t u r))
    (blocks_text_renamed move t u s r))
    (facilities_text_renamed move r.is_move s))
    (queues_text_renamed move r.is_move s))
    (storages_text_renamed move t u s r))
    (tables_text_renamed move t u s r))
    (current_renamed move t u r s))
    (future_renamed move t u r s)
