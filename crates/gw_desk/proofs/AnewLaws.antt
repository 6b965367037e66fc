-- A version with its places renamed is answered alike, and so is the version made anew.
use Rattle.std.proofs.Common.{◌≡◌, ℕ, zero, suc, ◌+◌, ◌||◌, nat_eq, nat_lt, Bool, true, false, cond, List, [], ◌∷◌, length, filter, Option, Some, None, Result, Ok, Err, refl, ap, ap₂, is_some, option_map, ◌∙◌, arith}
use Rattle.std.specs.List.{list_any}
use Rattle.std.proofs.Math.Path.{fun_ext}
use Rattle.gw_expr.specs.declared.halt.End.{End}
use Rattle.gw_meaning.specs.declared.item.Outcome.{Outcome}
use Rattle.gw_meaning.specs.declared.statement.Statement.{Statement}
use Rattle.gw_meaning.specs.declared.statement.Definition.{Definition}
use Rattle.gw_meaning.specs.declared.statement.Numbered.{Numbered}
use Rattle.gw_meaning.specs.Listing.{Listing, operands_of_body, labelled_in, is_start, starts, seed_at, seed_in, has_label, command_of_body, definition_of_body, definition_if, or_next, defined_in}
use Rattle.gw_meaning.specs.Machine.{Machine, zero_state}
use Rattle.gw_meaning.specs.Step.{step}
use Rattle.gw_meaning.specs.Point.{outcome_of}
use Rattle.gw_model.specs.Listed.{numbered}
use Rattle.gw_model.proofs.Numbers.{numbered_listed}
use Rattle.gw_frame.specs.Moved.{IsMove, moved_machine, moved_result}
use Rattle.gw_model.specs.Named.{holds_of, holds_in}
use Rattle.gw_model.specs.Faults.{is_labelled, has_label_twice, is_unknown_label, has_unknown_label, is_undefined, has_unknown_definition, is_equ_named, has_equ_named}
use Rattle.gw_model.specs.Listed.{counted_label}
use Rattle.gw_frame.specs.Renamed.{statements_of, AreRenamed, IsSameModel, IsRenamed}
use Rattle.gw_frame.proofs.Renaming.{commands_renamed, label_renamed}
use Rattle.gw_frame.proofs.RenamedRuns.{renamed_step}
use Rattle.gw_frame.proofs.Renumbering.{has_renaming}
use Rattle.gw_report.proofs.Renaming.{renamed_text}
use Rattle.gw_desk.specs.declared.answer.Answer.TheVariants as answers
use Rattle.gw_desk.specs.Finding.{Verdict, Point, NoStart, TooLong, with_outcome, behind, search, verdict}
use Rattle.gw_desk.specs.Replies.{told, answer_with, answer_of}
use Rattle.gw_desk.specs.Anew.{anew, SameAnswers, AnsweredAnew, FaultyAnew}

-- a verdict with its state renamed
abbrev moved_verdict : (ℕ → ℕ) → Verdict → Verdict
moved_verdict move (Point s o) = Point (moved_machine move s) o
moved_verdict move NoStart = NoStart
moved_verdict move TooLong = TooLong

module _ (move : ℕ → ℕ) where
  outcome_renamed : (s : Machine) (o : Option Outcome) → with_outcome (moved_machine move s) o ≡ moved_verdict move (with_outcome s o)
  outcome_renamed s None = refl
  outcome_renamed s (Some o) = refl

  end_by : (b : Bool) (s : Machine) (o : Option Outcome) →
      cond b (with_outcome (moved_machine move s) o) NoStart ≡ moved_verdict move (cond b (with_outcome s o) NoStart)
  end_by true s o = outcome_renamed s o
  end_by false s o = refl

  behind_renamed : (k : ℕ) (s : Machine) (on on' : Machine → Verdict) → ((x : Machine) → on' (moved_machine move x) ≡ moved_verdict move (on x)) →
      (r : Result Machine End) →
      behind k (moved_machine move s) on' (moved_result move r) ≡ moved_verdict move (behind k s on r)
  behind_renamed k s on on' each (Ok x) = each x
  behind_renamed k s on on' each (Err end) = end_by (nat_eq (s.complete + 1) k) s (outcome_of end)

  chosen : (b : Bool) (s : Machine) (o : Outcome) (v w : Verdict) → w ≡ moved_verdict move v →
      cond b (Point (moved_machine move s) o) w ≡ moved_verdict move (cond b (Point s o) v)
  chosen true s o v w e = refl
  chosen false s o v w e = e

module _ (move : ℕ → ℕ) (t u : Listing) (seed k : ℕ) (r : IsRenamed move t u) where
  search_renamed : (n : ℕ) (s : Machine) → search u seed k n (moved_machine move s) ≡ moved_verdict move (search t seed k n s)
  search_renamed zero s =
      chosen move (nat_eq s.complete k) s _ _ _ (ap (behind k (moved_machine move s) (λ x. TooLong)) (renamed_step move t u seed s r) ∙
      behind_renamed move k s (λ x. TooLong) (λ x. TooLong) (λ x. refl) (step t seed s))
  search_renamed (suc n) s =
      chosen move (nat_eq s.complete k) s _ _ _
      (ap (behind k (moved_machine move s) (search u seed k n)) (renamed_step move t u seed s r) ∙
      behind_renamed move k s (search t seed k n) (search u seed k n) (search_renamed n) (step t seed s))

  verdict_renamed : verdict u seed k ≡ moved_verdict move (verdict t seed k)
  verdict_renamed = ap (λ n. search u seed k n zero_state) r.limit ∙ search_renamed t.limit zero_state

module _ (move : ℕ → ℕ) (t u : Listing) (r : IsRenamed move t u) where
  told_renamed : (edits rep k : ℕ) (v : Verdict) → told u edits rep k (moved_verdict move v) ≡ told t edits rep k v
  told_renamed edits rep k (Point s o) =
      ap (λ text. answers.Ready (record { edits = edits; replication = rep; start = k; text = text })) (renamed_text move t u rep k s o r)
  told_renamed edits rep k NoStart = refl
  told_renamed edits rep k TooLong = refl

  starts_renamed : starts u ≡ starts t
  starts_renamed = ap (λ cs. length (filter is_start cs)) (commands_renamed move t.lines u.lines r.lines)

  seeded : (edits rep k : ℕ) (o : Option ℕ) → answer_with u edits rep k o ≡ answer_with t edits rep k o
  seeded edits rep k None = refl
  seeded edits rep k (Some seed) =
      let same = ap (told u edits rep k) (verdict_renamed move t u seed k r) ∙ told_renamed edits rep k (verdict t seed k) in
      ap (λ n. cond (nat_eq k 0 || nat_lt n k) answers.NoStart (told u edits rep k (verdict u seed k))) starts_renamed ∙
      ap (λ a. cond (nat_eq k 0 || nat_lt (starts t) k) answers.NoStart a) same

  pub renamed_answers : (edits rep k : ℕ) → answer_of u edits rep k ≡ answer_of t edits rep k
  renamed_answers edits rep k = ap (λ rs. answer_with u edits rep k (seed_in rs rep)) r.replications ∙ seeded edits rep k (seed_at t rep)

pub same_answers : SameAnswers
same_answers t u same first second edits rep k =
    let found = has_renaming t u same first second in renamed_answers found.0 t u found.1 edits rep k

-- statements that are numbered stay what they are
same_statements : (first : ℕ) (statements : List Statement) → statements_of (numbered first statements) ≡ statements
same_statements first [] = refl
same_statements first (s ∷ ss) = ap (λ rest. s ∷ rest) (same_statements (first + 1) ss)

pub answered_anew : AnsweredAnew
answered_anew t are =
    let statements = statements_of t.lines in
    let same : IsSameModel t (anew t) = record { statements = same_statements 1 statements; horizon = refl; replications = refl; limit = refl } in
    same_answers t (anew t) same are (numbered_listed 1 statements (omega arith))

-- labels and numbers of statements
there_renamed : (move : ℕ → ℕ) (o : Option ℕ) → is_some (option_map move o) ≡ is_some o
there_renamed move None = refl
there_renamed move (Some n) = refl

known_renamed : (move : ℕ → ℕ) → IsMove move → (ls ms : List Numbered) → AreRenamed move ls ms → (name : List ℕ) →
    is_some (labelled_in name ms) ≡ is_some (labelled_in name ls)
known_renamed move is ls ms r name = ap is_some (label_renamed move is name ls ms r) ∙ there_renamed move (labelled_in name ls)

-- the label that counts of a statement
abbrev label_of_statement : Statement → Option (List ℕ)
label_of_statement s = cond (is_some (command_of_body s.body)) None s.label

labelled_by : (move : ℕ → ℕ) (name : List ℕ) (ls ms : List Numbered) → AreRenamed move ls ms → is_labelled (Some name) ms ≡ is_labelled (Some name) ls
labelled_by move name [] [] r = refl
labelled_by move name [] (m ∷ ms) r = absurd r
labelled_by move name (l ∷ ls) [] r = absurd r
labelled_by move name (l ∷ ls) (m ∷ ms) r =
    ap₂ (λ a b. a || b) (ap (λ (s : Statement). has_label name (label_of_statement s)) r.1) (labelled_by move name ls ms r.2)

labelled_renamed : (move : ℕ → ℕ) (label : Option (List ℕ)) (ls ms : List Numbered) → AreRenamed move ls ms → is_labelled label ms ≡ is_labelled label ls
labelled_renamed move None ls ms r = refl
labelled_renamed move (Some name) ls ms r = labelled_by move name ls ms r

twice_renamed : (move : ℕ → ℕ) → IsMove move → (ls ms : List Numbered) → AreRenamed move ls ms → has_label_twice ms ≡ has_label_twice ls
twice_renamed move is [] [] r = refl
twice_renamed move is [] (m ∷ ms) r = absurd r
twice_renamed move is (l ∷ ls) [] r = absurd r
twice_renamed move is (l ∷ ls) (m ∷ ms) r =
    let same : counted_label m ≡ counted_label l = ap label_of_statement r.1 in
    ap₂ (λ a b. a || b) (ap (λ label. is_labelled label ms) same ∙ labelled_renamed move (counted_label l) ls ms r.2) (twice_renamed move is ls ms r.2)

-- a test holds of a statement of a renamed model as it did
lines_alike : (test : Statement → Bool) (move : ℕ → ℕ) (ls ms : List Numbered) → AreRenamed move ls ms →
    list_any (λ (line : Numbered). test line.statement) ms ≡ list_any (λ (line : Numbered). test line.statement) ls
lines_alike test move [] [] r = refl
lines_alike test move [] (m ∷ ms) r = absurd r
lines_alike test move (l ∷ ls) [] r = absurd r
lines_alike test move (l ∷ ls) (m ∷ ms) r = ap₂ (λ a b. a || b) (ap test r.1) (lines_alike test move ls ms r.2)

unknown_renamed : (move : ℕ → ℕ) → IsMove move → (ls ms : List Numbered) → AreRenamed move ls ms → has_unknown_label ms ≡ has_unknown_label ls
unfolding has_unknown_label
unknown_renamed move is ls ms r =
    let known : List ℕ → Bool = λ name. is_some (labelled_in name ls) in
    let known' : List ℕ → Bool = λ name. is_some (labelled_in name ms) in
    let same : known' ≡ known = fun_ext (known_renamed move is ls ms r) in
    ap (λ test. list_any (holds_in (is_unknown_label test)) ms) same ∙
    lines_alike (λ (s : Statement). list_any (holds_of (is_unknown_label known)) (operands_of_body s.body)) move ls ms r

-- the same of definitions
defined_renamed : (move : ℕ → ℕ) (name : List ℕ) (ls ms : List Numbered) → AreRenamed move ls ms → defined_in name ms ≡ defined_in name ls
defined_renamed move name [] [] r = refl
defined_renamed move name [] (m ∷ ms) r = absurd r
defined_renamed move name (l ∷ ls) [] r = absurd r
defined_renamed move name (l ∷ ls) (m ∷ ms) r = ap₂ or_next
    (ap (λ (s : Statement). definition_if (has_label name s.label) (definition_of_body s.body)) r.1) (defined_renamed move name ls ms r.2)

-- the definitions of these lines
abbrev definition : List Numbered → List ℕ → Option Definition
definition lines name = defined_in name lines

definitions_renamed : (move : ℕ → ℕ) (ls ms : List Numbered) → AreRenamed move ls ms → definition ms ≡ definition ls
definitions_renamed move ls ms r = fun_ext (λ name. defined_renamed move name ls ms r)

missing_renamed : (move : ℕ → ℕ) (ls ms : List Numbered) → AreRenamed move ls ms → has_unknown_definition ms ≡ has_unknown_definition ls
unfolding has_unknown_definition
missing_renamed move ls ms r =
    ap (λ test. list_any (holds_in (is_undefined test)) ms) (definitions_renamed move ls ms r) ∙
    lines_alike (λ (s : Statement). list_any (holds_of (is_undefined (definition ls))) (operands_of_body s.body)) move ls ms r

equ_renamed : (move : ℕ → ℕ) (ls ms : List Numbered) → AreRenamed move ls ms → has_equ_named ms ≡ has_equ_named ls
unfolding has_equ_named
equ_renamed move ls ms r =
    ap (λ test. list_any (holds_in (is_equ_named test)) ms) (definitions_renamed move ls ms r) ∙
    lines_alike (λ (s : Statement). list_any (holds_of (is_equ_named (definition ls))) (operands_of_body s.body)) move ls ms r

length_renamed : (move : ℕ → ℕ) (ls ms : List Numbered) → AreRenamed move ls ms → length ms ≡ length ls
length_renamed move [] [] r = refl
length_renamed move [] (m ∷ ms) r = absurd r
length_renamed move (l ∷ ls) [] r = absurd r
length_renamed move (l ∷ ls) (m ∷ ms) r = ap suc (length_renamed move ls ms r.2)

pub faulty_anew : FaultyAnew
faulty_anew t are =
    let statements = statements_of t.lines in
    let same : IsSameModel t (anew t) = record { statements = same_statements 1 statements; horizon = refl; replications = refl; limit = refl } in
    let found = has_renaming t (anew t) same are (numbered_listed 1 statements (omega arith)) in
    let is = found.1.is_move in
    rw (
      length_renamed found.0 t.lines (anew t).lines found.1.lines,
      twice_renamed found.0 is t.lines (anew t).lines found.1.lines,
      unknown_renamed found.0 is t.lines (anew t).lines found.1.lines,
      missing_renamed found.0 t.lines (anew t).lines found.1.lines,
      equ_renamed found.0 t.lines (anew t).lines found.1.lines,
    ) refl
