-- A version with its ids renamed answers renamed, and two versions with the same statements are one renamed.
use Rattle.std.proofs.Common.{◌≡◌, ℕ, ◌+◌, nat_eq, nat_le, Bool, true, false, cond, ◌&&◌, List, [], ◌∷◌, map, Option, Some, None, is_some, unwrap_or, option_map, option_and_then, filter_map, refl, ap, ap₂, ◌∙◌}
use Rattle.std.specs.List.{cons_option}
use Rattle.gw_meaning.specs.declared.item.Asked.TheVariants as asking
use Rattle.gw_meaning.specs.declared.item.Item.TheVariants as items
use Rattle.gw_meaning.specs.declared.statement.Definition.{Definition}
use Rattle.gw_meaning.specs.declared.statement.Statement.{Statement}
use Rattle.gw_meaning.specs.declared.statement.Numbered.{Numbered}
use Rattle.gw_meaning.specs.Listing.{block_of, block_of_body, command_of, command_of_body, is_block, is_generate, is_generate_body, has_label, line_in, first_block, after_in, position_in, labelled_in, definition_of_body, definition_if, or_next, defines, first_said, units_of, number_of, expression_of, function_of, argument_of, generates_in, nth}
use Rattle.gw_meaning.specs.Questions.{ask}
use Rattle.gw_frame.specs.Moved.{IsMove}
use Rattle.gw_frame.specs.Renamed.{AreRenamed, RenamedAnswers}
use Rattle.gw_frame.proofs.MovedLists.{eq_moved}

-- a statement is a block, whatever its number
pub same_kind : (l m : Numbered) → m.statement ≡ l.statement → is_block m ≡ is_block l
same_kind l m e = ap (λ (s : Statement). is_some (block_of_body s.body)) e

module _ (move : ℕ → ℕ) (is : IsMove move) where
  -- whether a line has a number, told of the renamed line and number
  same_test : (l m : Numbered) (p : ℕ) → m.number ≡ move l.number → nat_eq m.number (move p) ≡ nat_eq l.number p
  same_test l m p e = ap (λ n. nat_eq n (move p)) e ∙ eq_moved move is l.number p

  pub block_renamed : (ls ms : List Numbered) → AreRenamed move ls ms → (p : ℕ) →
      option_and_then block_of (line_in ms (move p)) ≡ option_and_then block_of (line_in ls p)
  block_renamed [] [] r p = refl
  block_renamed [] (m ∷ ms) r p = absurd r
  block_renamed (l ∷ ls) [] r p = absurd r
  block_renamed (l ∷ ls) (m ∷ ms) r p =
      rw (same_test l m p r.0)
      (elim (nat_eq l.number p) as (λ b. option_and_then block_of (cond b (Some m) (line_in ms (move p))) ≡
      option_and_then block_of (cond b (Some l) (line_in ls p)))
      [ true ↦ ap (λ (s : Statement). block_of_body s.body) r.1 | false ↦ block_renamed ls ms r.2 p ])

  first_renamed : (ls ms : List Numbered) → AreRenamed move ls ms → first_block ms ≡ option_map move (first_block ls)
  first_renamed [] [] r = refl
  first_renamed [] (m ∷ ms) r = absurd r
  first_renamed (l ∷ ls) [] r = absurd r
  first_renamed (l ∷ ls) (m ∷ ms) r =
      rw (same_kind l m r.1)
      (elim (is_block l) as (λ b. cond b (Some m.number) (first_block ms) ≡ option_map move (cond b (Some l.number) (first_block ls)))
      [ true ↦ ap (λ n. Some n) r.0 | false ↦ first_renamed ls ms r.2 ])

  after_renamed_by : (b c : Bool) (o o' p p' : Option ℕ) → o' ≡ option_map move o → p' ≡ option_map move p →
      cond b (cond c o' None) p' ≡ option_map move (cond b (cond c o None) p)
  after_renamed_by true true o o' p p' e f = e
  after_renamed_by true false o o' p p' e f = refl
  after_renamed_by false c o o' p p' e f = f

  pub after_renamed : (ls ms : List Numbered) → AreRenamed move ls ms → (p : ℕ) → after_in ms (move p) ≡ option_map move (after_in ls p)
  after_renamed [] [] r p = refl
  after_renamed [] (m ∷ ms) r p = absurd r
  after_renamed (l ∷ ls) [] r p = absurd r
  after_renamed (l ∷ ls) (m ∷ ms) r p =
      rw (same_test l m p r.0, same_kind l m r.1)
      (after_renamed_by (nat_eq l.number p) (is_block l) (first_block ls) (first_block ms) (after_in ls p) (after_in ms (move p)) (first_renamed ls ms r.2)
      (after_renamed ls ms r.2 p))

  pub position_renamed : (before : ℕ) (ls ms : List Numbered) → AreRenamed move ls ms → (p : ℕ) → position_in before ms (move p) ≡ position_in before ls p
  position_renamed before [] [] r p = refl
  position_renamed before [] (m ∷ ms) r p = absurd r
  position_renamed before (l ∷ ls) [] r p = absurd r
  position_renamed before (l ∷ ls) (m ∷ ms) r p =
      rw (same_test l m p r.0, same_kind l m r.1)
      (ap (λ o. cond (nat_eq l.number p) (cond (is_block l) (Some (before + 1)) None) o) (position_renamed (cond (is_block l) (before + 1) before) ls ms r.2 p))

  pub label_renamed : (name : List ℕ) (ls ms : List Numbered) → AreRenamed move ls ms → labelled_in name ms ≡ option_map move (labelled_in name ls)
  label_renamed name [] [] r = refl
  label_renamed name [] (m ∷ ms) r = absurd r
  label_renamed name (l ∷ ls) [] r = absurd r
  label_renamed name (l ∷ ls) (m ∷ ms) r =
      rw (ap (λ (s : Statement). is_some (block_of_body s.body) && has_label name s.label) r.1)
      (elim (is_block l && has_label name l.statement.label) as (λ b. cond b (Some m.number) (labelled_in name ms) ≡
      option_map move (cond b (Some l.number) (labelled_in name ls)))
      [ true ↦ ap (λ n. Some n) r.0 | false ↦ label_renamed name ls ms r.2 ])

  -- what statements say of definitions, whatever their numbers
  pub said_renamed : {X : Type 0} (f : Option Definition → Option X) (name : List ℕ) (ls ms : List Numbered) → AreRenamed move ls ms →
      first_said (λ line. f (defines name line)) ms ≡ first_said (λ line. f (defines name line)) ls
  said_renamed f name [] [] r = refl
  said_renamed f name [] (m ∷ ms) r = absurd r
  said_renamed f name (l ∷ ls) [] r = absurd r
  said_renamed f name (l ∷ ls) (m ∷ ms) r = ap₂ or_next
      (ap (λ (s : Statement). f (definition_if (has_label name s.label) (definition_of_body s.body))) r.1) (said_renamed f name ls ms r.2)

  pub generates_renamed : (ls ms : List Numbered) → AreRenamed move ls ms → generates_in ms ≡ map move (generates_in ls)
  generates_renamed [] [] r = refl
  generates_renamed [] (m ∷ ms) r = absurd r
  generates_renamed (l ∷ ls) [] r = absurd r
  generates_renamed (l ∷ ls) (m ∷ ms) r =
      rw (ap (λ (s : Statement). is_generate_body s.body) r.1, r.0)
      (elim (is_generate l) as (λ b. cond b (move l.number ∷ generates_in ms) (generates_in ms) ≡
      map move (cond b (l.number ∷ generates_in ls) (generates_in ls)))
      [ true ↦ ap (λ ns. move l.number ∷ ns) (generates_renamed ls ms r.2) | false ↦ generates_renamed ls ms r.2 ])

pub commands_renamed : (move : ℕ → ℕ) (ls ms : List Numbered) → AreRenamed move ls ms → filter_map command_of ms ≡ filter_map command_of ls
commands_renamed move [] [] r = refl
commands_renamed move [] (m ∷ ms) r = absurd r
commands_renamed move (l ∷ ls) [] r = absurd r
commands_renamed move (l ∷ ls) (m ∷ ms) r = ap₂ cons_option (ap (λ (s : Statement). command_of_body s.body) r.1) (commands_renamed move ls ms r.2)

pub renamed_answers : RenamedAnswers
renamed_answers move t u seed r (items.Block id) = block_renamed move r.is_move t.lines u.lines r.lines id
renamed_answers move t u seed r (items.After id) = after_renamed move r.is_move t.lines u.lines r.lines id
renamed_answers move t u seed r (items.Named asking.Label name) = label_renamed move r.is_move name t.lines u.lines r.lines
renamed_answers move t u seed r (items.Named asking.Number name) = said_renamed move r.is_move number_of name t.lines u.lines r.lines
renamed_answers move t u seed r (items.Named (asking.Fits units) name) =
    ap (λ o. nat_le units (unwrap_or o 0)) (said_renamed move r.is_move units_of name t.lines u.lines r.lines)
renamed_answers move t u seed r (items.Named asking.Storage name) =
    ap (λ o. unwrap_or o 0) (said_renamed move r.is_move units_of name t.lines u.lines r.lines)
renamed_answers move t u seed r (items.Named asking.Variable name) = said_renamed move r.is_move expression_of name t.lines u.lines r.lines
renamed_answers move t u seed r (items.Named asking.Function name) = said_renamed move r.is_move function_of name t.lines u.lines r.lines
renamed_answers move t u seed r (items.Named asking.Table name) = said_renamed move r.is_move argument_of name t.lines u.lines r.lines
renamed_answers move t u seed r items.Generates = generates_renamed move r.is_move t.lines u.lines r.lines
renamed_answers move t u seed r (items.Cmd i) = ap (λ cs. nth cs i) (commands_renamed move t.lines u.lines r.lines)
renamed_answers move t u seed r item = ap (λ n. ask (record t { horizon = n }) seed item) r.horizon
