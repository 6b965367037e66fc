-- Pairs where any count may be meant: lines that are read so may be a FUNCTION's, and those that may be are read so.
use Rattle.std.proofs.Common.{◌≡◌, ◌≢◌, ℕ, ◌<◌, ◌≤◌, ◌==◌, Bool, true, false, List, [], ◌∷◌, ◌++◌, length, None, Result, Ok, Err, refl, sym, ap, subst, ◌∙◌, inl, inr, arith}
use Rattle.std.specs.Prelude.{All, nat_lt}
use Rattle.std.proofs.lemmas.Bool.{and_parts, both_ways, cases_Bool, ltb-true, lt-ltb}
use Rattle.std.proofs.lemmas.Bool.Decides.{nat_tests}
use Rattle.std.proofs.lemmas.List.{length_push}
use Rattle.std.proofs.lemmas.List.Elements.{All-head, All-tail}
use Rattle.gw_expr.specs.declared.expr.Expr.TheVariants as terms
use Rattle.gw_expr.specs.declared.function.Function.{Function}
use Rattle.gw_expr.specs.declared.function.FunctionType.TheVariants as types
use Rattle.gw_expr.specs.declared.function.Point.{Point}
use Rattle.gw_meaning.specs.declared.statement.Definition.TheVariants as definitions
use Rattle.gw_meaning.specs.declared.statement.Body.{Body}
use Rattle.gw_meaning.specs.declared.statement.Body.TheVariants as bodies
use Rattle.gw_meaning.specs.declared.statement.Statement.{Statement}
use Rattle.gw_lines.specs.declared.class.Class.TheVariants as class
use Rattle.gw_lines.specs.declared.fault.LineFault.{LineFault}
use Rattle.gw_lines.specs.declared.fault.LineFault.TheVariants as faults
use Rattle.gw_lines.specs.Classes.{are_plain, rest_of, tail_of, is_nothing}
use Rattle.gw_lines.specs.Pairs.{wants_in, wants_pairs, last_of, is_above, may_follow, open_line, open_lines}
use Rattle.gw_lines.specs.Points.{Pairs, last_pair, ended_pair, more_pairs, IsRemark, HasText, Completes, complete, past_remark, past_pairs, MayBePairs}
use Rattle.gw_lines.specs.Edits.{edit_lines, HasWrongText}
use Rattle.gw_lines.proofs.Results.{failed, ok_is, err_is}
use Rattle.gw_lines.proofs.Fronts.{nonzero}
use Rattle.gw_lines.proofs.Pieces.{first_part}
use Rattle.gw_lines.proofs.PairsRead.{bind_ok, points_found, points_again, points_fault}
use Rattle.gw_lines.proofs.Further.{kept_is, is_long, is_none, is_wrong, is_kept, remark_kept, plain_kept}

-- ---- how many

no_room : (n : ℕ) → nat_lt n n ≡ false
no_room n = grind (arith, nat_tests)

was_room : (count : ℕ) (points : List Point) (p : Point) → may_follow count points p ≡ true → length points < count
was_room count points p h = ltb-true (length points) count (and_parts (nat_lt (length points) count) (is_above (last_of points) p.x) h).0

follows_too : (count n : ℕ) (points : List Point) (p : Point) → may_follow count points p ≡ true → length points < n → may_follow n points p ≡ true
follows_too count n points p h room =
    rw (lt-ltb (length points) n room, (and_parts (nat_lt (length points) count) (is_above (last_of points) p.x) h).1) refl

-- pairs bring a point, and no more than there is room for
longer : {count : ℕ} {points : List Point} {text : List ℕ} {all : List Point} → Pairs count points text all → length points < length all
longer (last_pair count points text p h m) = let l = length_push points p in omega arith
longer (ended_pair count points text p h m) = let l = length_push points p in omega arith
longer (more_pairs count points text p others all h m more) =
    let l = length_push points p in
    let on = longer more in
    omega arith

within : {count : ℕ} {points : List Point} {text : List ℕ} {all : List Point} → Pairs count points text all → length all ≤ count
within (last_pair count points text p h m) =
    let l = length_push points p in
    let room = was_room count points p m in
    omega arith
within (ended_pair count points text p h m) =
    let l = length_push points p in
    let room = was_room count points p m in
    omega arith
within (more_pairs count points text p others all h m more) = within more

-- pairs are lawful with any count that has room for their points
with_count : {count : ℕ} {points : List Point} {text : List ℕ} {all : List Point} (n : ℕ) → length all ≤ n → Pairs count points text all
    → Pairs n points text all
with_count n le (last_pair count points text p h m) =
    let l = length_push points p in
    last_pair n points text p h (follows_too count n points p m (omega arith))
with_count n le (ended_pair count points text p h m) =
    let l = length_push points p in
    ended_pair n points text p h (follows_too count n points p m (omega arith))
with_count n le (more_pairs count points text p others all h m more) =
    let on = longer (more_pairs count points text p others all h m more) in
    more_pairs n points text p others all h (follows_too count n points p m (omega arith)) (with_count n le more)

-- ---- a line

-- what a line is that was read so
data LineIs (is_last : Bool) (points : List Point) (line : List ℕ) (more : List Point) : Type 0 where
  remark_is : IsRemark line → is_last ≡ false → points ≡ more → LineIs is_last points line more
  pairs_are : (text : List ℕ) → HasText line text → are_plain text ≡ true → Pairs 1000 points text more → LineIs is_last points line more

line_found : (is_last : Bool) (points : List Point) (line : List ℕ) (more : List Point) → open_line is_last points line ≡ Ok more
    → LineIs is_last points line more
unfolding open_line
line_found is_last points line more e =
    elim (kept_is line) [
      | is_long long given ↦ absurd (let f = rw given at e in cc)
      | is_wrong text has wrong given ↦ absurd (let f = rw given at e in cc)
      | is_kept text has plain given ↦ pairs_are text has plain (points_found 1000 points text more (rw given at e))
      | is_none remark given ↦ elim (cases_Bool is_last) [
        | inl last ↦ absurd (let f = rw (given, last) at e in cc)
        | inr others ↦ remark_is remark others (ok_is points more (rw (given, others) at e))
      ]
    ]

remark_again : (points : List Point) {line : List ℕ} → IsRemark line → open_line false points line ≡ Ok points
unfolding open_line
remark_again points r = rw (remark_kept r) refl

pairs_again : (is_last : Bool) {points more : List Point} {line text : List ℕ} → HasText line text → are_plain text ≡ true
    → Pairs 1000 points text more → open_line is_last points line ≡ Ok more
unfolding open_line
pairs_again is_last has plain pairs = rw (plain_kept has plain) (points_again pairs)

-- a further line that is clean
abbrev pub IsClean : List ℕ → Type 0
IsClean line = length line ≤ 250 × (HasWrongText line → ⊥)

line_fault : (is_last : Bool) (points : List Point) (line : List ℕ) (f : LineFault) → IsClean line → open_line is_last points line ≡ Err f
    → f ≡ faults.BadPairs
unfolding open_line
line_fault is_last points line f c e =
    elim (kept_is line) [
      | is_long long given ↦ absurd (let short = c.0 in omega arith)
      | is_wrong text has wrong given ↦ absurd (c.1 (text, has, wrong))
      | is_kept text has plain given ↦ points_fault 1000 points text f (rw given at e)
      | is_none remark given ↦ elim (cases_Bool is_last) [
        | inl last ↦ err_is (failed {A = List Point} faults.BadPairs) f faults.BadPairs (rw (given, last) at e) refl
        | inr others ↦ absurd (let g = rw (given, others) at e in cc)
      ]
    ]

-- ---- lines that are read so

abbrev body_of : Function → Body
body_of f = bodies.Definition (definitions.Function f)

-- so many points complete a FUNCTION of that count which has the first of them
record AreOpen (points : List Point) (lines : List (List ℕ)) : Type 0 where
  count : ℕ
  most : count ≤ 1000
  least : length points ≤ count
  wants : lines ≢ [] → length points < count
  completes : (s : Statement) (f : Function) → s.body ≡ body_of (record f { count = count; points = points }) → (t : Statement) × Completes s lines t

is_more : (line : List ℕ) (lines : List (List ℕ)) → (length (line ∷ lines) == 0) ≡ false
is_more line lines = nonzero (length lines)

not_last : (lines : List (List ℕ)) → (length lines == 0) ≡ false → lines ≢ []
not_last [] h e = absurd cc
not_last (line ∷ lines) h e = absurd cc

grown : (points more : List Point) (text line : List ℕ) (lines : List (List ℕ)) → HasText line text → are_plain text ≡ true → Pairs 1000 points text more
    → AreOpen more lines → AreOpen points (line ∷ lines)
grown points more text line lines has plain pairs o =
    let on = longer pairs in
    let least = o.least in
    record {
      count = o.count;
      most = o.most;
      least = omega arith;
      wants = λ some. omega arith;
      completes = λ s f is. (
          let own = record f { count = o.count; points = points } in
          let s' : Statement = record { label = s.label; body = body_of (record own { points = more }); operands = s.operands ++ 124 ∷ text } in
          let c = o.completes s' f refl in (
            c.0,
            past_pairs s line lines s' c.0 (ap wants_in is ∙ lt-ltb (length points) o.count (omega arith)) (record {
              text = text;
              has_text = has;
              plain = plain;
              function = own;
              is_function = is;
              points = more;
              pairs = with_count o.count least pairs;
              is = refl;
            }) c.1,
          )
          );
    }

past : (points : List Point) (line : List ℕ) (lines : List (List ℕ)) → IsRemark line → lines ≢ [] → AreOpen points lines → AreOpen points (line ∷ lines)
past points line lines remark some o =
    let room = o.wants some in
    record {
      count = o.count;
      most = o.most;
      least = o.least;
      wants = λ more. room;
      completes = λ s f is. (
          let c = o.completes s f is in (
            c.0,
            past_remark s line lines c.0 (ap wants_in is ∙ lt-ltb (length points) o.count room) remark c.1,
          )
          );
    }

open_found : (lines : List (List ℕ)) (points : List Point) → length points ≤ 1000 → open_lines points lines ≡ Ok tt → AreOpen points lines
open_found [] points room e =
    record {
      count = length points;
      most = room;
      least = omega arith;
      wants = λ some. absurd (some refl);
      completes = λ s f is. (s, complete s (ap wants_in is ∙ no_room (length points)));
    }
open_found (line ∷ lines) points room e =
    let b = bind_ok (open_line (length lines == 0) points line) (λ more. open_lines more lines) tt e in
    elim (line_found (length lines == 0) points line b.0 b.1) [
      | remark_is remark others same ↦
          past points line lines remark (not_last lines others)
          (open_found lines points room (subst (λ (more : List Point). open_lines more lines ≡ Ok tt) (sym same) b.2))
      | pairs_are text has plain pairs ↦
          grown points b.0 text line lines has plain pairs (open_found lines b.0 (within pairs) b.2)
    ]

-- some FUNCTION
abbrev some_function : Function
some_function = record { argument = terms.Fraction 0; kind = types.Discrete; count = 0; points = [] }

pub may_be_found : (lines : List (List ℕ)) → lines ≢ [] → open_lines [] lines ≡ Ok tt → MayBePairs lines
may_be_found lines some e =
    let o = open_found lines [] (omega arith) e in
    let f = record some_function { count = o.count; points = [] } in
    let s : Statement = record { label = None; body = body_of f; operands = [] } in
    let c = o.completes s some_function refl in
    record {
      function = f;
      none_yet = refl;
      least = let room = o.wants some in omega arith;
      most = o.most;
      first = s;
      is_function = refl;
      whole = c.0;
      completes = c.1;
    }

-- ---- lines that may be a FUNCTION's are read so

some_left : {s t : Statement} {lines : List (List ℕ)} → Completes s lines t → wants_pairs s ≡ true → (length lines == 0) ≡ false
some_left (complete s whole) wants = absurd (both_ways (wants_pairs s) whole wants)
some_left (past_remark s line lines t w r c) wants = is_more line lines
some_left (past_pairs s line lines more t w a c) wants = is_more line lines

same_function : (f g : Function) → body_of f ≡ body_of g → f ≡ g
same_function f g e = cc

completes_again : {s t : Statement} {lines : List (List ℕ)} → Completes s lines t → (f : Function) → s.body ≡ body_of f → f.count ≤ 1000
    → open_lines f.points lines ≡ Ok tt
completes_again (complete s whole) f is most = refl
completes_again (past_remark s line lines t wants r c) f is most =
    rw (some_left c wants, remark_again f.points r) (completes_again c f is most)
completes_again (past_pairs s line lines more t wants a c) f is most =
    let same : a.function ≡ f = same_function a.function f (sym a.is_function ∙ is) in
    let own : Pairs f.count f.points a.text a.points = subst (λ (g : Function). Pairs g.count g.points a.text a.points) same a.pairs in
    let fits = within own in
    let body : more.body ≡ body_of (record f { points = a.points }) =
    ap (λ (x : Statement). x.body) a.is ∙ ap (λ (g : Function). body_of (record g { points = a.points })) same in
    rw (pairs_again (length lines == 0) a.has_text a.plain (with_count 1000 (omega arith) own))
    (completes_again c (record f { points = a.points }) body most)

pub may_be_again : {lines : List (List ℕ)} → MayBePairs lines → open_lines [] lines ≡ Ok tt
may_be_again {lines} m =
    ap (λ (points : List Point). open_lines points lines) (sym m.none_yet) ∙ completes_again m.completes m.function m.is_function m.most

-- ---- their fault

pub open_fault : (lines : List (List ℕ)) (points : List Point) (f : LineFault) → All IsClean lines → open_lines points lines ≡ Err f
    → f ≡ faults.BadPairs
open_fault [] points f c e = absurd cc
open_fault (line ∷ lines) points f c e =
    by_result (open_line (length lines == 0) points line) refl (λ more h. open_fault lines more f (All-tail IsClean line lines c) h)
  where
    by_result : (r : Result (List Point) LineFault) → open_line (length lines == 0) points line ≡ r
        → ((more : List Point) → open_lines more lines ≡ Err f → f ≡ faults.BadPairs) → f ≡ faults.BadPairs
    by_result (Ok more) is on = on more (rw is at e)
    by_result (Err g) is on =
        err_is (failed {A = Unit {0}} g) f faults.BadPairs (rw is at e)
        (ap failed (line_fault (length lines == 0) points line g (All-head IsClean line lines c) is))

-- ---- the lines of a text

-- a text has no lines where it is empty
pub no_lines : (text : List ℕ) → (length (edit_lines text) == 0) ≡ is_nothing text
no_lines [] = refl
no_lines (b ∷ bs) =
    ap (λ (lines : List (List ℕ)). length lines == 0) (first_part class.Part (b ∷ bs) (λ e. absurd cc))
    ∙ nonzero (length (edit_lines (tail_of (rest_of class.Part (b ∷ bs))))) ∙ sym (nonzero (length bs))
