-- A model: what is read is spelled so, what is spelled so is read, and the same of its first faulty line.
use Rattle.std.proofs.Common.{◌≡◌, ℕ, ◌+◌, true, false, List, [], ◌∷◌, ◌++◌, length, Option, Some, None, Result, Ok, Err, refl, sym, ap, subst, ◌∙◌, ◌⊎◌, inl, inr, arith}
use Rattle.std.specs.Prelude.{IfOk, IfErr, All}
use Rattle.std.specs.Global.{Vec}
use Rattle.std.proofs.lemmas.Bool.{cases_Bool}
use Rattle.std.proofs.lemmas.List.Elements.{All-cons, All-nil}
use Rattle.gw_meaning.specs.declared.statement.Statement.{Statement}
use Rattle.gw_lines.specs.declared.fault.LineFault.{LineFault}
use Rattle.gw_lines.specs.declared.fault.LineFault.TheVariants as faults
use Rattle.gw_lines.specs.declared.fault.FaultyLine.{FaultyLine}
use Rattle.gw_lines.specs.declared.model.Unfinished.{Unfinished}
use Rattle.gw_lines.specs.Reading.{◌>>=◌, GivesModel}
use Rattle.gw_lines.specs.Lines.{coded_of, code_of, line_in, line_of, wanted, statement_of}
use Rattle.gw_lines.specs.Pairs.{wants_pairs, further_of}
use Rattle.gw_lines.specs.Models.{lines_of, numbered, done_of, under_way, statements_of, model_of}
use Rattle.gw_lines.specs.Spelling.{Spells}
use Rattle.gw_lines.specs.Faulty.{FirstFault}
use Rattle.gw_lines.specs.Points.{IsRemark, Completes, complete, past_remark, past_pairs, SpellsLines, spells_lines}
use Rattle.gw_lines.specs.Whole.{OfLines, no_lines, remark_line, statement_lines, begun, FirstFaulty, faulty_line, behind_remark, behind_statement, faulty_pairs, behind_pairs, pairs_missing, SpellsModel, FirstFaultOf, AnswersAt}
use Rattle.gw_lines.specs.Read.{ModelsAreRead, ModelsAreRefused}
use Rattle.gw_lines.proofs.Results.{done, failed, ok_is, err_is, or_memory}
use Rattle.gw_lines.proofs.Lines.{short_again, cut_is, spells_found, spells_again, line_is, is_long, no_words, has_words}
use Rattle.gw_lines.proofs.Faults.{fault_found, fault_again}
use Rattle.gw_lines.proofs.PairsRead.{bind_ok}
use Rattle.gw_lines.proofs.Further as further

-- ---- one line

remark_is : {line : List ℕ} → IsRemark line → line_of line ≡ Ok None
unfolding line_of line_in
remark_is {line} r = rw (short_again (length line) r.cut.short, cut_is line r.code r.cut, r.remark) refl

not_none : (r : Result Statement LineFault) → (r >>= λ s. done (Some s)) ≡ Ok None → ⊥
not_none (Ok s) e = let i = ok_is (Some s) None e in cc
not_none (Err f) e = cc

remark_found : (line : List ℕ) → line_of line ≡ Ok None → IsRemark line
remark_found line e =
    elim (line_is line) [
      | is_long long given ↦ absurd (let f = rw given at e in cc)
      | no_words cut remark given ↦ record { code = code_of line; cut = cut; remark = remark }
      | has_words words has given ↦ absurd (not_none (coded_of words) (sym given ∙ e))
    ]

wanted_some : (r : Result (Option Statement) LineFault) (s : Statement) → (r >>= wanted) ≡ Ok s → r ≡ Ok (Some s)
wanted_some (Ok None) s e = absurd cc
wanted_some (Ok (Some t)) s e = ap (λ (x : Statement). done (Some x)) (ok_is t s e)
wanted_some (Err f) s e = absurd cc

pub spelled_is : {line : List ℕ} {s : Statement} → Spells line s → line_of line ≡ Ok (Some s)
unfolding statement_of
spelled_is {line} {s} h = wanted_some (line_of line) s (spells_again line s h)

spelled_found : (line : List ℕ) (s : Statement) → line_of line ≡ Ok (Some s) → Spells line s
unfolding statement_of
spelled_found line s e = spells_found line s (rw e refl)

pub wanted_err : (r : Result (Option Statement) LineFault) (f : LineFault) → (r >>= wanted) ≡ Err f → (r ≡ Ok None) ⊎ (r ≡ Err f)
wanted_err (Ok None) f e = inl refl
wanted_err (Ok (Some s)) f e = absurd cc
wanted_err (Err g) f e = inr (ap failed (err_is (failed {A = Statement} g) g f refl e))

faulty_is : {line : List ℕ} {f : LineFault} → (IsRemark line → ⊥) → FirstFault line f → line_of line ≡ Err f
unfolding statement_of
faulty_is {line} {f} u h =
    elim (wanted_err (line_of line) f (fault_again h)) [
      | inl e ↦ absurd (u (remark_found line e))
      | inr e ↦ e
    ]

pub faulty_found : (line : List ℕ) (f : LineFault) → line_of line ≡ Err f → FirstFault line f
unfolding statement_of
faulty_found line f e = fault_found line f (rw e refl)

no_remark : (line : List ℕ) (f : LineFault) → line_of line ≡ Err f → IsRemark line → ⊥
no_remark line f e r = let g : done None ≡ Err f = sym (remark_is r) ∙ e in cc

-- ---- what a line leaves

abbrev at : ℕ → Statement → Unfinished
at number s = record { line = number; statement = s }

abbrev all : List Statement → Result (List Statement) FaultyLine
all ss = Ok ss

abbrev faulty : FaultyLine → Result (List Statement) FaultyLine
faulty e = Err e

all_is : (ss ts : List Statement) → all ss ≡ all ts → ss ≡ ts
all_is ss ts e = cc

faulty_same : (d e : FaultyLine) → faulty d ≡ faulty e → d ≡ e
faulty_same d e h = cc

-- what lines give after a statement whose first line is the one with this number
abbrev after : ℕ → Statement → ℕ → List (List ℕ) → Result (List Statement) FaultyLine
after number s n lines = statements_of (begun number s) n lines >>= λ others. all (done_of (Some (at number s)) ++ others)

-- where it wants no pairs, they give their own statements
after_done : (number : ℕ) (s : Statement) (n : ℕ) (lines : List (List ℕ)) → wants_pairs s ≡ false
    → after number s n lines ≡ (statements_of None n lines >>= λ others. all (s ∷ others))
after_done number s n lines whole = rw whole refl

same_again : (r : Result (List Statement) FaultyLine) → (r >>= λ others. all others) ≡ r
same_again (Ok ss) = refl
same_again (Err e) = refl

-- and where it wants some, they go on with it
after_open : (number : ℕ) (s : Statement) (n : ℕ) (lines : List (List ℕ)) → wants_pairs s ≡ true
    → after number s n lines ≡ statements_of (Some (at number s)) n lines
after_open number s n lines wants = rw wants (same_again (statements_of (Some (at number s)) n lines))

-- a further line, and those after it
line_gives : (number : ℕ) (s t : Statement) (n : ℕ) (line : List ℕ) (lines : List (List ℕ)) → further_of s line ≡ Ok t
    → statements_of (Some (at number s)) n (line ∷ lines) ≡ after number t (n + 1) lines
line_gives number s t n line lines e = rw e refl

line_goes_on : (number : ℕ) (s t : Statement) (n : ℕ) (line : List ℕ) (lines : List (List ℕ)) → wants_pairs s ≡ true → further_of s line ≡ Ok t
    → after number s n (line ∷ lines) ≡ after number t (n + 1) lines
line_goes_on number s t n line lines wants e = after_open number s n (line ∷ lines) wants ∙ line_gives number s t n line lines e

-- a first line, and those after it
first_gives : (s : Statement) (n : ℕ) (line : List ℕ) (lines : List (List ℕ)) → line_of line ≡ Ok (Some s)
    → statements_of None n (line ∷ lines) ≡ after n s (n + 1) lines
first_gives s n line lines e = rw e refl

remark_gives : (n : ℕ) (line : List ℕ) (lines : List (List ℕ)) → line_of line ≡ Ok None
    → statements_of None n (line ∷ lines) ≡ statements_of None (n + 1) lines
remark_gives n line lines e = rw e (same_again (statements_of None (n + 1) lines))

-- ---- what is spelled so is read

abbrev with_first : Statement → Result (List Statement) FaultyLine → Result (List Statement) FaultyLine
with_first t read = read >>= λ others. all (t ∷ others)

count_on : (n k : ℕ) → n + 1 + k ≡ n + (1 + k)
count_on n k = omega arith

no_count : (n : ℕ) → n ≡ n + 0
no_count n = omega arith

completes_again : {s t : Statement} {own : List (List ℕ)} → Completes s own t → (number n : ℕ) (lines : List (List ℕ)) (others : List Statement)
    → ((m : ℕ) → statements_of None m lines ≡ Ok others) → after number s n (own ++ lines) ≡ Ok (t ∷ others)
completes_again (complete s whole) number n lines others rest = after_done number s n lines whole ∙ rw (rest n) refl
completes_again (past_remark s line own t wants r c) number n lines others rest =
    line_goes_on number s s n line (own ++ lines) wants (further.remark_leaves s r) ∙ completes_again c number (n + 1) lines others rest
completes_again (past_pairs s line own more t wants a c) number n lines others rest =
    line_goes_on number s more n line (own ++ lines) wants (further.adds_again a) ∙ completes_again c number (n + 1) lines others rest

lines_again : {lines : List (List ℕ)} {ss : List Statement} → OfLines lines ss → (n : ℕ) → statements_of None n lines ≡ Ok ss
lines_again no_lines n = refl
lines_again (remark_line line lines ss r h) n = remark_gives n line lines (remark_is r) ∙ lines_again h (n + 1)
lines_again (statement_lines own lines s ss (spells_lines line more head t spelled c) h) n =
    first_gives head n line (more ++ lines) (spelled_is spelled) ∙ completes_again c n (n + 1) lines ss (λ m. lines_again h m)

-- ---- what is read is spelled so

-- lines that complete a statement, and those after them
record Found (s : Statement) (lines : List (List ℕ)) (ss : List Statement) : Type 0 where
  own : List (List ℕ)
  rest : List (List ℕ)
  parts : lines ≡ own ++ rest
  done_is : Statement
  completes : Completes s own done_is
  others : List Statement
  of_rest : OfLines rest others
  all_are : done_is ∷ others ≡ ss

-- what was found after a line, with the line
found_on : (s more : Statement) (line : List ℕ) (lines : List (List ℕ)) (ss : List Statement)
    → ((own : List (List ℕ)) (t : Statement) → Completes more own t → Completes s (line ∷ own) t) → Found more lines ss → Found s (line ∷ lines) ss
found_on s more line lines ss on f = record {
  own = line ∷ f.own;
  rest = f.rest;
  parts = ap (λ (x : List (List ℕ)). line ∷ x) f.parts;
  done_is = f.done_is;
  completes = on f.own f.done_is f.completes;
  others = f.others;
  of_rest = f.of_rest;
  all_are = f.all_are;
}

done_found : (number : ℕ) (s : Statement) (n : ℕ) (lines : List (List ℕ)) (ss : List Statement)
    → ((rest : List Statement) → statements_of None n lines ≡ Ok rest → OfLines lines rest) → wants_pairs s ≡ false → after number s n lines ≡ Ok ss
    → Found s lines ss
done_found number s n lines ss on whole e =
    let b = bind_ok (statements_of None n lines) (λ others. all (s ∷ others)) ss (sym (after_done number s n lines whole) ∙ e) in
    record {
      own = [];
      rest = lines;
      parts = refl;
      done_is = s;
      completes = complete s whole;
      others = b.0;
      of_rest = on b.0 b.1;
      all_are = all_is (s ∷ b.0) ss b.2;
    }

further_cases : (n : ℕ) (r : Result Statement LineFault) (next : Statement → Result (List Statement) FaultyLine) (ss : List Statement)
    → (numbered n r >>= next) ≡ Ok ss → (t : Statement) × (r ≡ Ok t)
further_cases n (Ok t) next ss e = (t, refl)
further_cases n (Err f) next ss e = absurd cc

further_read : (number : ℕ) (s : Statement) (n : ℕ) (line : List ℕ) (lines : List (List ℕ)) (ss : List Statement)
    → statements_of (Some (at number s)) n (line ∷ lines) ≡ Ok ss → (t : Statement) × (further_of s line ≡ Ok t)
further_read number s n line lines ss e = by_result (further_of s line) refl
  where
    by_result : (r : Result Statement LineFault) → further_of s line ≡ r → (t : Statement) × (further_of s line ≡ Ok t)
    by_result (Ok t) is = (t, is)
    by_result (Err f) is = absurd (let g = rw is at e in cc)

open_found : (number : ℕ) (s : Statement) (n : ℕ) (line : List ℕ) (lines : List (List ℕ)) (ss : List Statement)
    → ((t : Statement) → after number t (n + 1) lines ≡ Ok ss → Found t lines ss) → wants_pairs s ≡ true → after number s n (line ∷ lines) ≡ Ok ss
    → Found s (line ∷ lines) ss
open_found number s n line lines ss on wants e =
    let under = sym (after_open number s n (line ∷ lines) wants) ∙ e in
    let r = further_read number s n line lines ss under in
    let behind : after number r.0 (n + 1) lines ≡ Ok ss = sym (line_gives number s r.0 n line lines r.1) ∙ under in
    elim (further.further_found s line r.0 r.1) [
      | inl remark ↦ found_on s r.0 line lines ss
          (λ own t c. past_remark s line own t wants remark.0 (subst (λ (x : Statement). Completes x own t) (sym remark.1) c)) (on r.0 behind)
      | inr adds ↦ found_on s r.0 line lines ss (λ own t c. past_pairs s line own r.0 t wants adds c) (on r.0 behind)
    ]

none_left : (number : ℕ) (s : Statement) (n : ℕ) (ss : List Statement) → wants_pairs s ≡ true → after number s n [] ≡ Ok ss → ⊥
none_left number s n ss wants e = let f = sym (after_open number s n [] wants) ∙ e in cc

first_found : (n : ℕ) (line : List ℕ) (lines : List (List ℕ)) (ss : List Statement)
    → ((rest : List Statement) → statements_of None (n + 1) lines ≡ Ok rest → OfLines lines rest)
    → ((s : Statement) → after n s (n + 1) lines ≡ Ok ss → Found s lines ss) → statements_of None n (line ∷ lines) ≡ Ok ss → OfLines (line ∷ lines) ss
first_found n line lines ss on behind e = by_result (line_of line) refl
  where
    by_result : (r : Result (Option Statement) LineFault) → line_of line ≡ r → OfLines (line ∷ lines) ss
    by_result (Err f) is = absurd (let g = rw is at e in cc)
    by_result (Ok None) is = remark_line line lines ss (remark_found line is) (on ss (sym (remark_gives n line lines is) ∙ e))
    by_result (Ok (Some s)) is =
        let f = behind s (sym (first_gives s n line lines is) ∙ e) in
        subst (λ (x : List Statement). OfLines (line ∷ lines) x) f.all_are
        (subst (λ (x : List (List ℕ)). OfLines (line ∷ x) (f.done_is ∷ f.others)) (sym f.parts)
        (statement_lines (line ∷ f.own) f.rest f.done_is f.others (spells_lines line f.own s f.done_is (spelled_found line s is) f.completes) f.of_rest))

record AreFound (lines : List (List ℕ)) : Type 0 where
  alone : (n : ℕ) (ss : List Statement) → statements_of None n lines ≡ Ok ss → OfLines lines ss
  behind : (number : ℕ) (s : Statement) (n : ℕ) (ss : List Statement) → after number s n lines ≡ Ok ss → Found s lines ss

behind_of : (lines : List (List ℕ)) → ((n : ℕ) (ss : List Statement) → statements_of None n lines ≡ Ok ss → OfLines lines ss)
    → ((number : ℕ) (s : Statement) (n : ℕ) (ss : List Statement) → wants_pairs s ≡ true → after number s n lines ≡ Ok ss → Found s lines ss)
    → AreFound lines
behind_of lines alone under = record {
  alone = alone;
  behind = λ number s n ss e. elim (cases_Bool (wants_pairs s)) [
    | inl wants ↦ under number s n ss wants e
    | inr whole ↦ done_found number s n lines ss (λ rest h. alone n rest h) whole e
  ];
}

are_found : (lines : List (List ℕ)) → AreFound lines
are_found [] = behind_of [] (λ n ss e. subst (λ (x : List Statement). OfLines [] x) (all_is [] ss e) no_lines)
    (λ number s n ss wants e. absurd (none_left number s n ss wants e))
are_found (line ∷ lines) =
    let others = are_found lines in
    behind_of (line ∷ lines) (λ n ss e. first_found n line lines ss (λ rest h. others.alone (n + 1) rest h) (λ s h. others.behind n s (n + 1) ss h) e)
    (λ number s n ss wants e. open_found number s n line lines ss (λ t h. others.behind number t (n + 1) ss h) wants e)

lines_found : (n : ℕ) (lines : List (List ℕ)) (ss : List Statement) → statements_of None n lines ≡ Ok ss → OfLines lines ss
lines_found n lines ss e = (are_found lines).alone n ss e

-- ---- the first faulty line

rest_failed : (front : List Statement) (others : Result (List Statement) FaultyLine) (x : FaultyLine) → (others >>= λ rest. all (front ++ rest)) ≡ Err x
    → others ≡ Err x
rest_failed front (Ok rest) x e = absurd cc
rest_failed front (Err y) x e = e

after_failed : (number : ℕ) (s : Statement) (n : ℕ) (lines : List (List ℕ)) (x : FaultyLine) → after number s n lines ≡ Err x
    → statements_of (begun number s) n lines ≡ Err x
after_failed number s n lines x e = rest_failed (done_of (Some (at number s))) (statements_of (begun number s) n lines) x e

fails_after : (number : ℕ) (s : Statement) (n : ℕ) (lines : List (List ℕ)) (x : FaultyLine) → statements_of (begun number s) n lines ≡ Err x
    → after number s n lines ≡ Err x
fails_after number s n lines x e = rw e refl

faulty_first : (n : ℕ) (line : List ℕ) (lines : List (List ℕ)) (x : FaultyLine)
    → ((under : Option Unfinished) → statements_of under (n + 1) lines ≡ Err x → FirstFaulty under (n + 1) lines x)
    → statements_of None n (line ∷ lines) ≡ Err x → FirstFaulty None n (line ∷ lines) x
faulty_first n line lines x on e = by_result (line_of line) refl
  where
    by_result : (r : Result (Option Statement) LineFault) → line_of line ≡ r → FirstFaulty None n (line ∷ lines) x
    by_result (Ok None) is = behind_remark None n line lines x (remark_found line is) (on None (sym (remark_gives n line lines is) ∙ e))
    by_result (Ok (Some s)) is =
        behind_statement n line lines s x (spelled_found line s is)
        (on (begun n s) (after_failed n s (n + 1) lines x (sym (first_gives s n line lines is) ∙ e)))
    by_result (Err f) is =
        let y : FaultyLine = record { line = n; fault = f } in
        let g : faulty y ≡ Err x = rw is at e in
        subst (λ (z : FaultyLine). FirstFaulty None n (line ∷ lines) z) (faulty_same y x g)
        (faulty_line n line lines f (no_remark line f is) (faulty_found line f is))

faulty_further : (under : Unfinished) (n : ℕ) (line : List ℕ) (lines : List (List ℕ)) (x : FaultyLine)
    → ((under : Option Unfinished) → statements_of under (n + 1) lines ≡ Err x → FirstFaulty under (n + 1) lines x)
    → statements_of (Some under) n (line ∷ lines) ≡ Err x → FirstFaulty (Some under) n (line ∷ lines) x
faulty_further under n line lines x on e = by_result (further_of under.statement line) refl
  where
    by_result : (r : Result Statement LineFault) → further_of under.statement line ≡ r → FirstFaulty (Some under) n (line ∷ lines) x
    by_result (Ok t) is =
        let left = after_failed under.line t (n + 1) lines x (sym (line_gives under.line under.statement t n line lines is) ∙ e) in
        elim (further.further_found under.statement line t is) [
          | inl remark ↦ behind_remark (Some under) n line lines x remark.0 (on (begun under.line under.statement)
              (subst (λ (s : Statement). statements_of (begun under.line s) (n + 1) lines ≡ Err x) (sym remark.1) left))
          | inr adds ↦ behind_pairs under n line lines t x adds (on (begun under.line t) left)
        ]
    by_result (Err f) is =
        let y : FaultyLine = record { line = n; fault = f } in
        let g : faulty y ≡ Err x = rw is at e in
        let h = further.further_fault under.statement line f is in
        subst (λ (z : FaultyLine). FirstFaulty (Some under) n (line ∷ lines) z) (faulty_same y x g) (faulty_pairs under n line lines f h.0 h.1)

lines_faulty : (lines : List (List ℕ)) (under : Option Unfinished) (n : ℕ) (x : FaultyLine) → statements_of under n lines ≡ Err x → FirstFaulty under n lines x
lines_faulty [] None n x e = absurd cc
lines_faulty [] (Some under) n x e =
    let y : FaultyLine = record { line = under.line; fault = faults.BadPairs } in
    subst (λ (z : FaultyLine). FirstFaulty (Some under) n [] z) (faulty_same y x e) (pairs_missing under n)
lines_faulty (line ∷ lines) None n x e = faulty_first n line lines x (λ under h. lines_faulty lines under (n + 1) x h) e
lines_faulty (line ∷ lines) (Some under) n x e = faulty_further under n line lines x (λ o h. lines_faulty lines o (n + 1) x h) e

remark_fails : (under : Option Unfinished) (n : ℕ) (line : List ℕ) (lines : List (List ℕ)) (x : FaultyLine) → IsRemark line
    → statements_of (under_way under) (n + 1) lines ≡ Err x → statements_of under n (line ∷ lines) ≡ Err x
remark_fails None n line lines x r e = remark_gives n line lines (remark_is r) ∙ e
remark_fails (Some under) n line lines x r e =
    line_gives under.line under.statement under.statement n line lines (further.remark_leaves under.statement r)
    ∙ fails_after under.line under.statement (n + 1) lines x e

faulty_again : {under : Option Unfinished} {n : ℕ} {lines : List (List ℕ)} {x : FaultyLine} → FirstFaulty under n lines x → statements_of under n lines ≡ Err x
faulty_again (faulty_line n line lines f u h) = rw (faulty_is u h) refl
faulty_again (behind_remark under n line lines x r h) = remark_fails under n line lines x r (faulty_again h)
faulty_again (behind_statement n line lines s x k h) =
    first_gives s n line lines (spelled_is k) ∙ fails_after n s (n + 1) lines x (faulty_again h)
faulty_again (faulty_pairs under n line lines f u h) = rw (further.fault_again h) refl
faulty_again (behind_pairs under n line lines s x a h) =
    line_gives under.line under.statement s n line lines (further.adds_again a) ∙ fails_after under.line s (n + 1) lines x (faulty_again h)
faulty_again (pairs_missing under n) = refl

-- ---- no statement wants more

pub completed_whole : {s t : Statement} {own : List (List ℕ)} → Completes s own t → wants_pairs t ≡ false
completed_whole (complete s whole) = whole
completed_whole (past_remark s line own t wants r c) = completed_whole c
completed_whole (past_pairs s line own more t wants a c) = completed_whole c

pub spelled_whole : {lines : List (List ℕ)} {s : Statement} → SpellsLines lines s → wants_pairs s ≡ false
spelled_whole (spells_lines line more s t spelled c) = completed_whole c

abbrev IsWhole : Statement → Type 0
IsWhole s = wants_pairs s ≡ false

lines_whole : {lines : List (List ℕ)} {ss : List Statement} → OfLines lines ss → All IsWhole ss
lines_whole no_lines = All-nil IsWhole
lines_whole (remark_line line lines ss r h) = lines_whole h
lines_whole (statement_lines own lines s ss spelled h) = All-cons IsWhole s ss (spelled_whole spelled) (lines_whole h)

-- ---- the laws

pub models_are_read : ModelsAreRead
unfolding model_of
models_are_read bytes ss = (lines_found 1 (lines_of bytes) ss, λ h. lines_again h 1)

pub models_are_refused : ModelsAreRefused
unfolding model_of
models_are_refused bytes e = (lines_faulty (lines_of bytes) None 1 e, λ h. faulty_again h)

-- ---- the clauses

pub model_found : (bytes : List ℕ) (r : Result (Vec Statement) FaultyLine) → GivesModel (λ v. v.items) r (model_of bytes)
    → IfOk r (λ v. SpellsModel bytes v.items)
unfolding model_of
model_found bytes (Ok v) h = lines_found 1 (lines_of bytes) v.items h
model_found bytes (Err e) h = tt

pub model_whole : (bytes : List ℕ) (r : Result (Vec Statement) FaultyLine) → GivesModel (λ v. v.items) r (model_of bytes)
    → IfOk r (λ v. All (λ s. wants_pairs s ≡ false) v.items)
unfolding model_of
model_whole bytes (Ok v) h = lines_whole (lines_found 1 (lines_of bytes) v.items h)
model_whole bytes (Err e) h = tt

pub model_only : (bytes : List ℕ) (r : Result (Vec Statement) FaultyLine) → GivesModel (λ v. v.items) r (model_of bytes) → (ss : List Statement)
    → SpellsModel bytes ss → GivesModel (λ v. v.items) r (Ok ss)
unfolding model_of
model_only bytes r h ss k = subst (λ (x : Result (List Statement) FaultyLine). GivesModel (λ (v : Vec Statement). v.items) r x) (lines_again k 1) h

pub model_fault : (bytes : List ℕ) (r : Result (Vec Statement) FaultyLine) → GivesModel (λ v. v.items) r (model_of bytes)
    → IfErr r (λ e. AnswersAt bytes e.line e.fault)
unfolding model_of
model_fault bytes (Ok v) h = tt
model_fault bytes (Err e) h = or_memory e.fault (lines_faulty (lines_of bytes) None 1 e) h

pub model_faulty : (bytes : List ℕ) (r : Result (Vec Statement) FaultyLine) → GivesModel (λ v. v.items) r (model_of bytes) → (e : FaultyLine)
    → FirstFaultOf bytes e → GivesModel (λ v. v.items) r (Err e)
unfolding model_of
model_faulty bytes r h e k = subst (λ (x : Result (List Statement) FaultyLine). GivesModel (λ (v : Vec Statement). v.items) r x) (faulty_again k) h
