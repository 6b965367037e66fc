-- A further line of a statement: what is read is spelled so, what is spelled so is read, and the same of its first fault.
use Rattle.std.proofs.Common.{◌≡◌, ℕ, ◌<◌, true, false, List, ◌∷◌, ◌++◌, length, Some, None, Result, Ok, Err, refl, sym, ap, subst, ◌∙◌, ◌⊎◌, inl, inr, arith}
use Rattle.std.specs.Prelude.{nat_lt}
use Rattle.std.proofs.lemmas.Bool.{both_ways, cases_Bool, lt-ltb}
use Rattle.gw_names.specs.Words.{upper_of}
use Rattle.gw_expr.specs.declared.function.Function.{Function}
use Rattle.gw_expr.specs.declared.function.Point.{Point}
use Rattle.gw_meaning.specs.declared.statement.Definition.TheVariants as definitions
use Rattle.gw_meaning.specs.declared.statement.Body.{Body}
use Rattle.gw_meaning.specs.declared.statement.Body.TheVariants as bodies
use Rattle.gw_meaning.specs.declared.statement.Statement.{Statement}
use Rattle.gw_lines.specs.declared.fault.LineFault.{LineFault}
use Rattle.gw_lines.specs.declared.fault.LineFault.TheVariants as faults
use Rattle.gw_lines.specs.Reading.{◌>>=◌}
use Rattle.gw_lines.specs.Classes.{are_plain}
use Rattle.gw_lines.specs.Listed.{listed_of}
use Rattle.gw_lines.specs.Lines.{plain_of, operands_of, code_of, is_remark}
use Rattle.gw_lines.specs.Pairs.{points_with, body_with, statement_with, kept_in, kept_of, further_of}
use Rattle.gw_lines.specs.Points.{Pairs, IsRemark, HasText, HasPairs, PairsFault, too_long, wrong_byte, bad_pairs}
use Rattle.gw_lines.proofs.Results.{done, failed, ok_is, err_is}
use Rattle.gw_lines.proofs.Kept.{written_of, written_kept}
use Rattle.gw_lines.proofs.Lines.{short_is, long_is, short_again, cut_of, cut_is, front_stops}
use Rattle.gw_lines.proofs.PairsRead.{points_found, points_again, points_fault}

-- ---- what is kept of a line

-- what a line of pairs is, and what is kept of it
pub data KeptIs (line : List ℕ) : Type 0 where
  is_long : 250 < length line → kept_of line ≡ Err faults.TooLong → KeptIs line
  is_none : IsRemark line → kept_of line ≡ Ok None → KeptIs line
  is_wrong : (text : List ℕ) → HasText line text → are_plain text ≡ false → kept_of line ≡ Err faults.BadByte → KeptIs line
  is_kept : (text : List ℕ) → HasText line text → are_plain text ≡ true → kept_of line ≡ Ok (Some text) → KeptIs line

text_in : List ℕ → List ℕ
text_in line = upper_of (listed_of true 0 (code_of line))

pub kept_is : (line : List ℕ) → KeptIs line
unfolding kept_of kept_in operands_of
kept_is line =
    elim (cases_Bool (nat_lt 250 (length line))) [
      | inl long ↦ is_long (long_is (length line) long) (rw long refl)
      | inr short ↦
          let c = cut_of line (short_is (length line) short) in
          let kept = listed_of true 0 (code_of line) in
          elim (cases_Bool (is_remark (code_of line))) [
            | inl remark ↦ is_none (record { code = code_of line; cut = c; remark = remark }) (rw (short, remark) refl)
            | inr other ↦
                let has : HasText line (upper_of kept) = record {
                  code = code_of line;
                  cut = c;
                  is_text = other;
                  kept = kept;
                  written = written_of (code_of line) (front_stops (code_of line) c.comment c.begins);
                  upper = refl;
                } in
                elim (cases_Bool (are_plain (upper_of kept))) [
                  | inl plain ↦ is_kept (upper_of kept) has plain (rw (short, other, plain) refl)
                  | inr wrong ↦ is_wrong (upper_of kept) has wrong (rw (short, other, wrong) refl)
                ]
          ]
    ]

pub long_kept : (line : List ℕ) → 250 < length line → kept_of line ≡ Err faults.TooLong
unfolding kept_of
long_kept line h = rw (lt-ltb 250 (length line) h) refl

pub remark_kept : {line : List ℕ} → IsRemark line → kept_of line ≡ Ok None
unfolding kept_of kept_in
remark_kept {line} r = rw (short_again (length line) r.cut.short, cut_is line r.code r.cut, r.remark) refl

text_kept : {line text : List ℕ} → HasText line text → kept_of line ≡ (plain_of text >>= λ t. done (Some t))
unfolding kept_of kept_in operands_of
text_kept {line} {text} h =
    rw (short_again (length line) h.cut.short, cut_is line h.code h.cut, h.is_text, written_kept h.written, ← h.upper) refl

pub plain_kept : {line text : List ℕ} → HasText line text → are_plain text ≡ true → kept_of line ≡ Ok (Some text)
plain_kept {line} {text} h p = text_kept h ∙ rw p refl

pub wrong_kept : {line text : List ℕ} → HasText line text → are_plain text ≡ false → kept_of line ≡ Err faults.BadByte
wrong_kept {line} {text} h p = text_kept h ∙ rw p refl

-- ---- its pairs

abbrev with_points : Function → List Point → Body
with_points f points = bodies.Definition (definitions.Function (record f { points = points }))

record IsGrown (body : Body) (text : List ℕ) (more : Body) : Type 0 where
  function : Function
  is_function : body ≡ bodies.Definition (definitions.Function function)
  points : List Point
  pairs : Pairs function.count function.points text points
  is_more : with_points function points ≡ more

grown_with : (f : Function) (r : Result (List Point) LineFault) (more : Body) → (r >>= λ points. done (with_points f points)) ≡ Ok more
    → (points : List Point) × (r ≡ Ok points) × (with_points f points ≡ more)
grown_with f (Ok points) more e = (points, refl, ok_is (with_points f points) more e)
grown_with f (Err g) more e = absurd cc

grown : (body : Body) (text : List ℕ) (more : Body) → body_with body text ≡ Ok more → IsGrown body text more
grown (bodies.Definition (definitions.Function f)) text more e =
    let g = grown_with f (points_with f.count f.points text) more e in
    record { function = f; is_function = refl; points = g.0; pairs = points_found f.count f.points text g.0 g.1; is_more = g.2 }
grown body text more e = absurd cc

no_more : (f : Function) (r : Result (List Point) LineFault) (g : LineFault) → (r >>= λ points. done (with_points f points)) ≡ Err g → r ≡ Err g
no_more f (Ok points) g e = absurd cc
no_more f (Err h) g e = ap failed (err_is (failed {A = Body} h) h g refl e)

body_fault : (body : Body) (text : List ℕ) (g : LineFault) → body_with body text ≡ Err g → g ≡ faults.BadPairs
body_fault (bodies.Definition (definitions.Function f)) text g e =
    points_fault f.count f.points text g (no_more f (points_with f.count f.points text) g e)
body_fault body text g e = err_is (failed {A = Body} faults.BadPairs) g faults.BadPairs e refl

abbrev listed_behind : Statement → List ℕ → Body → Statement
listed_behind s text body = record { label = s.label; body = body; operands = s.operands ++ 124 ∷ text }

listed_is : (s : Statement) (text : List ℕ) (r : Result Body LineFault) (t : Statement) → (r >>= λ body. done (listed_behind s text body)) ≡ Ok t
    → (body : Body) × (r ≡ Ok body) × (listed_behind s text body ≡ t)
listed_is s text (Ok body) t e = (body, refl, ok_is (listed_behind s text body) t e)
listed_is s text (Err g) t e = absurd cc

adds_found : (s t : Statement) {line : List ℕ} (text : List ℕ) → HasText line text → are_plain text ≡ true → statement_with s text ≡ Ok t
    → HasPairs s line t
unfolding statement_with
adds_found s t text has plain e =
    let l = listed_is s text (body_with s.body text) t e in
    let g = grown s.body text l.0 l.1 in
    record {
      text = text;
      has_text = has;
      plain = plain;
      function = g.function;
      is_function = g.is_function;
      points = g.points;
      pairs = g.pairs;
      is = sym (ap (listed_behind s text) g.is_more ∙ l.2);
    }

adds_with : {s t : Statement} {line : List ℕ} (a : HasPairs s line t) → statement_with s a.text ≡ Ok t
unfolding statement_with
adds_with {s} {t} a =
    let p = points_again a.pairs in
    let b : body_with s.body a.text ≡ Ok (with_points a.function a.points) = ap (λ (x : Body). body_with x a.text) a.is_function ∙ rw p refl in
    rw b (ap done (sym a.is))

unlisted : (s : Statement) (text : List ℕ) (r : Result Body LineFault) (g : LineFault) → (r >>= λ body. done (listed_behind s text body)) ≡ Err g
    → r ≡ Err g
unlisted s text (Ok body) g e = absurd cc
unlisted s text (Err h) g e = ap failed (err_is (failed {A = Statement} h) h g refl e)

with_fault : (s : Statement) (text : List ℕ) (g : LineFault) → statement_with s text ≡ Err g → g ≡ faults.BadPairs
unfolding statement_with
with_fault s text g e = body_fault s.body text g (unlisted s text (body_with s.body text) g e)

-- ---- the line

pub remark_leaves : (s : Statement) {line : List ℕ} → IsRemark line → further_of s line ≡ Ok s
unfolding further_of
remark_leaves s r = rw (remark_kept r) refl

pub adds_again : {s t : Statement} {line : List ℕ} → HasPairs s line t → further_of s line ≡ Ok t
unfolding further_of
adds_again a = rw (plain_kept a.has_text a.plain) (adds_with a)

pub further_found : (s : Statement) (line : List ℕ) (t : Statement) → further_of s line ≡ Ok t → (IsRemark line × (s ≡ t)) ⊎ HasPairs s line t
unfolding further_of
further_found s line t e =
    elim (kept_is line) [
      | is_long long given ↦ absurd (let f = rw given at e in cc)
      | is_wrong text has wrong given ↦ absurd (let f = rw given at e in cc)
      | is_none remark given ↦ inl (remark, ok_is s t (rw given at e))
      | is_kept text has plain given ↦ inr (adds_found s t text has plain (rw given at e))
    ]

both_codes : {line text : List ℕ} → HasText line text → IsRemark line → ⊥
both_codes {line} {text} h r =
    let same = sym (cut_is line h.code h.cut) ∙ cut_is line r.code r.cut in
    both_ways (is_remark h.code) h.is_text (ap is_remark same ∙ r.remark)

long_no_remark : {line : List ℕ} → 250 < length line → IsRemark line → ⊥
long_no_remark long r = let s = r.cut.short in omega arith

pub further_fault : (s : Statement) (line : List ℕ) (f : LineFault) → further_of s line ≡ Err f → (IsRemark line → ⊥) × PairsFault s line f
unfolding further_of
further_fault s line f e =
    elim (kept_is line) [
      | is_none remark given ↦ absurd (let g = rw given at e in cc)
      | is_long long given ↦
          let g : failed {A = Statement} faults.TooLong ≡ Err f = rw given at e in
          (long_no_remark long, subst (PairsFault s line) (err_is (failed {A = Statement} faults.TooLong) faults.TooLong f refl g) (too_long s line long))
      | is_wrong text has wrong given ↦
          let g : failed {A = Statement} faults.BadByte ≡ Err f = rw given at e in (
            both_codes has,
            subst (PairsFault s line) (err_is (failed {A = Statement} faults.BadByte) faults.BadByte f refl g) (wrong_byte s line text has wrong),
          )
      | is_kept text has plain given ↦
          let g : statement_with s text ≡ Err f = rw given at e in (
            both_codes has,
            subst (PairsFault s line) (sym (with_fault s text f g)) (bad_pairs s line text has plain never),
          )
    ]
  where
    never : (t : Statement) → HasPairs s line t → ⊥
    never t a = absurd (let h : done t ≡ Err f = sym (adds_again a) ∙ e in cc)

pub fault_again : {s : Statement} {line : List ℕ} {f : LineFault} → PairsFault s line f → further_of s line ≡ Err f
unfolding further_of
fault_again (too_long s line long) = rw (long_kept line long) refl
fault_again (wrong_byte s line text has wrong) = rw (wrong_kept has wrong) refl
fault_again (bad_pairs s line text has plain never) = rw (plain_kept has plain) (by_result (statement_with s text) refl)
  where
    by_result : (r : Result Statement LineFault) → statement_with s text ≡ r → statement_with s text ≡ Err faults.BadPairs
    by_result (Ok t) e = absurd (never t (adds_found s t text has plain e))
    by_result (Err g) e = e ∙ ap failed (with_fault s text g e)

-- ---- lines that complete a statement are not too long and have no wrong byte

pub remark_plain : {line text : List ℕ} → IsRemark line → HasText line text → ⊥
remark_plain r h = both_codes h r

-- two texts of one line are the same
pub one_text : {line text other : List ℕ} → HasText line text → HasText line other → text ≡ other
one_text {line} h k =
    let same = sym (cut_is line h.code h.cut) ∙ cut_is line k.code k.cut in
    h.upper ∙ ap upper_of (sym (written_kept h.written) ∙ ap (listed_of true 0) same ∙ written_kept k.written) ∙ sym k.upper
