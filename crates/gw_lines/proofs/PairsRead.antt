-- Pairs: what is read is spelled so, and what is spelled so is read.
use Rattle.std.proofs.Common.{◌≡◌, ◌≢◌, ℕ, ◌==◌, true, List, [], ◌∷◌, ◌++◌, length, Option, Some, None, Result, Ok, Err, refl, sym, ap, subst, ◌∙◌, inl, inr}
use Rattle.std.specs.Prelude.{ℤ}
use Rattle.std.proofs.lemmas.Bool.{cases_Bool, eqb-true, not-false}
use Rattle.std.proofs.lemmas.List.{append-nil}
use Rattle.gw_expr.specs.declared.function.Point.{Point}
use Rattle.gw_lines.specs.declared.class.Class.TheVariants as class
use Rattle.gw_lines.specs.declared.fault.LineFault.{LineFault}
use Rattle.gw_lines.specs.declared.fault.LineFault.TheVariants as faults
use Rattle.gw_lines.specs.Reading.{◌>>=◌}
use Rattle.gw_lines.specs.Classes.{front_of, rest_of, tail_of, is_nothing, pieces_of}
use Rattle.gw_lines.specs.Numbers.{coordinate_of}
use Rattle.gw_lines.specs.Spelling.{Stops}
use Rattle.gw_lines.specs.Pairs.{point_with, pair_of, may_follow, with_point, with_pairs, points_with}
use Rattle.gw_lines.specs.Points.{Pair, a_pair, Pairs, last_pair, ended_pair, more_pairs}
use Rattle.gw_lines.proofs.Results.{failed, ok_is, err_is}
use Rattle.gw_lines.proofs.Fronts.{nonzero, front_again, rest_again, parts, rest_stops}
use Rattle.gw_lines.proofs.Pieces.{first_part, alone, before}
use Rattle.gw_lines.proofs.Coordinates.{coordinate_found, coordinate_again}
use Rattle.gw_lines.proofs.PairBytes.{coordinate_passes, operand_bytes, pair_bytes, pair_passes}

-- ---- a step of reading

pub bind_ok : {A B E : Type 0} (r : Result A E) (next : A → Result B E) (y : B) → (r >>= next) ≡ Ok y → (x : A) × (r ≡ Ok x) × (next x ≡ Ok y)
bind_ok (Ok x) next y e = (x, refl, e)
bind_ok (Err f) next y e = absurd cc

-- ---- one pair

point_found : (x y : Option ℤ) (p : Point) → point_with x y ≡ Some p → (x ≡ Some p.x) × (y ≡ Some p.y)
point_found (Some x) (Some y) p e =
    let same : record { x = x; y = y } ≡ p = cc in (ap (λ (q : Point). Some q.x) same, ap (λ (q : Point). Some q.y) same)
point_found (Some x) None p e = absurd cc
point_found None y p e = absurd cc

nothing_read : (z : ℤ) → coordinate_of [] ≡ Some z → ⊥
nothing_read z e = cc

comma_between : (text front rest : List ℕ) (p : Point) → text ≡ front ++ rest → Stops class.Operand rest → coordinate_of front ≡ Some p.x
    → coordinate_of (tail_of rest) ≡ Some p.y → Pair text p
comma_between text front [] p is s cx cy = absurd (nothing_read p.y cy)
comma_between text front (b ∷ bs) p is s cx cy =
    let comma : b ≡ 44 = eqb-true b 44 (not-false (b == 44) s) in
    subst (λ (t : List ℕ). Pair t p) (sym (is ∙ ap (λ (c : ℕ). front ++ c ∷ bs) comma))
    (a_pair front bs p (coordinate_found front p.x cx) (coordinate_found bs p.y cy))

pair_found : (text : List ℕ) (p : Point) → pair_of text ≡ Some p → Pair text p
pair_found text p e =
    let c = point_found (coordinate_of (front_of class.Operand text)) (coordinate_of (tail_of (rest_of class.Operand text))) p e in
    comma_between text (front_of class.Operand text) (rest_of class.Operand text) p (parts class.Operand text) (rest_stops class.Operand text) c.0 c.1

pair_again : {text : List ℕ} {p : Point} → Pair text p → pair_of text ≡ Some p
pair_again (a_pair x y p cx cy) =
    let within = coordinate_passes operand_bytes cx in
    let front = ap coordinate_of (front_again class.Operand x (44 ∷ y) within refl) ∙ coordinate_again cx in
    let rest = ap (λ (t : List ℕ). coordinate_of (tail_of t)) (rest_again class.Operand x (44 ∷ y) within refl) ∙ coordinate_again cy in
    ap (λ (o : Option ℤ). point_with o (coordinate_of (tail_of (rest_of class.Operand (x ++ 44 ∷ y))))) front ∙ ap (point_with (Some p.x)) rest

some_pair : {text : List ℕ} {p : Point} → Pair text p → text ≢ []
some_pair (a_pair [] y p cx cy) e = absurd cc
some_pair (a_pair (b ∷ bs) y p cx cy) e = absurd cc

-- ---- one point more

record IsAdded (count : ℕ) (points : List Point) (read : Option Point) (more : List Point) : Type 0 where
  point : Point
  is_read : read ≡ Some point
  follows : may_follow count points point ≡ true
  is_more : points ++ point ∷ [] ≡ more

is_added : (count : ℕ) (points : List Point) (read : Option Point) (more : List Point) → with_point count points read ≡ Ok more
    → IsAdded count points read more
is_added count points None more e = absurd cc
is_added count points (Some p) more e =
    elim (cases_Bool (may_follow count points p)) [
      | inr fails ↦ absurd (let f = rw fails at e in cc)
      | inl holds ↦ record { point = p; is_read = refl; follows = holds; is_more = ok_is (points ++ p ∷ []) more (rw holds at e) }
    ]

added : (count : ℕ) (points : List Point) {text : List ℕ} {p : Point} → Pair text p → may_follow count points p ≡ true
    → with_point count points (pair_of text) ≡ Ok (points ++ p ∷ [])
added count points {text} {p} h m = ap (with_point count points) (pair_again h) ∙ follow p m
  where
    follow : (p : Point) → may_follow count points p ≡ true → with_point count points (Some p) ≡ Ok (points ++ p ∷ [])
    follow p m = rw m refl

-- ---- all pairs

-- the pairs after the first, of what it leaves
behind : (count : ℕ) (points : List Point) (texts : List (List ℕ)) (text front rest : List ℕ) (p : Point) (all : List Point) → text ≡ front ++ rest
    → Stops class.Pair rest → texts ≡ pieces_of class.Pair (tail_of rest) → Pair front p → may_follow count points p ≡ true
    → with_pairs count (points ++ p ∷ []) texts ≡ Ok all
    → ((others : List ℕ) → pieces_of class.Pair others ≡ texts → others ≢ [] → Pairs count (points ++ p ∷ []) others all)
    → Pairs count points text all
behind count points texts text front [] p all is s left h m e on =
    let whole : text ≡ front = is ∙ append-nil front in
    let same : points ++ p ∷ [] ≡ all = ok_is (points ++ p ∷ []) all (rw left at e) in
    subst (λ (a : List Point). Pairs count points text a) same (subst (λ (t : List ℕ). Pairs count points t (points ++ p ∷ [])) (sym whole)
    (last_pair count points front p h m))
behind count points texts text front (b ∷ []) p all is s left h m e on =
    let slash : b ≡ 47 = eqb-true b 47 (not-false (b == 47) s) in
    let same : points ++ p ∷ [] ≡ all = ok_is (points ++ p ∷ []) all (rw left at e) in
    subst (λ (a : List Point). Pairs count points text a) same
    (subst (λ (t : List ℕ). Pairs count points t (points ++ p ∷ [])) (sym (is ∙ ap (λ (c : ℕ). front ++ c ∷ []) slash))
    (ended_pair count points front p h m))
behind count points texts text front (b ∷ c ∷ cs) p all is s left h m e on =
    let slash : b ≡ 47 = eqb-true b 47 (not-false (b == 47) s) in
    subst (λ (t : List ℕ). Pairs count points t all) (sym (is ∙ ap (λ (d : ℕ). front ++ d ∷ c ∷ cs) slash))
    (more_pairs count points front p (c ∷ cs) all h m (on (c ∷ cs) (sym left) (λ n. absurd cc)))

abbrev head_of : List (List ℕ) → List ℕ
head_of [] = []
head_of (t ∷ ts) = t

abbrev others_of : List (List ℕ) → List (List ℕ)
others_of [] = []
others_of (t ∷ ts) = ts

pairs_found : (count : ℕ) (texts : List (List ℕ)) (points : List Point) (text : List ℕ) (all : List Point) → pieces_of class.Pair text ≡ texts
    → text ≢ [] → with_pairs count points texts ≡ Ok all → Pairs count points text all
pairs_found count [] points text all is some e = absurd (let f = sym is ∙ first_part class.Pair text some in cc)
pairs_found count (t ∷ ts) points text all is some e =
    let f : t ∷ ts ≡ front_of class.Pair text ∷ pieces_of class.Pair (tail_of (rest_of class.Pair text)) = sym is ∙ first_part class.Pair text some in
    let b = bind_ok (with_point count points (pair_of t)) (λ more. with_pairs count more ts) all e in
    let a = is_added count points (pair_of t) b.0 b.1 in
    let pair = pair_found t a.point a.is_read in
    let left : with_pairs count (points ++ a.point ∷ []) ts ≡ Ok all =
    ap (λ (more : List Point). with_pairs count more ts) a.is_more ∙ b.2 in
    behind count points ts text (front_of class.Pair text) (rest_of class.Pair text) a.point all (parts class.Pair text) (rest_stops class.Pair text)
    (ap others_of f) (subst (λ (x : List ℕ). Pair x a.point) (ap head_of f) pair) a.follows left
    (λ others others_are more. pairs_found count ts (points ++ a.point ∷ []) others all others_are more left)

pairs_again : {count : ℕ} {points : List Point} {text : List ℕ} {all : List Point} → Pairs count points text all
    → with_pairs count points (pieces_of class.Pair text) ≡ Ok all
pairs_again (last_pair count points text p h m) =
    ap (with_pairs count points) (alone class.Pair text (pair_passes pair_bytes refl h) (some_pair h)) ∙ rw (added count points h m) refl
pairs_again (ended_pair count points text p h m) =
    ap (with_pairs count points) (before class.Pair text 47 [] (pair_passes pair_bytes refl h) refl) ∙ rw (added count points h m) refl
pairs_again (more_pairs count points text p others all h m more) =
    ap (with_pairs count points) (before class.Pair text 47 others (pair_passes pair_bytes refl h) refl)
    ∙ rw (added count points h m) (pairs_again more)

-- ---- a text

slash_behind : (text others : List ℕ) → text ++ 47 ∷ others ≢ []
slash_behind [] others e = absurd cc
slash_behind (b ∷ bs) others e = absurd cc

pub some_pairs : {count : ℕ} {points : List Point} {text : List ℕ} {all : List Point} → Pairs count points text all → text ≢ []
some_pairs (last_pair count points text p h m) = some_pair h
some_pairs (ended_pair count points text p h m) = slash_behind text []
some_pairs (more_pairs count points text p others all h m more) = slash_behind text others

pub points_found : (count : ℕ) (points : List Point) (text : List ℕ) (all : List Point) → points_with count points text ≡ Ok all
    → Pairs count points text all
unfolding points_with
points_found count points [] all e = absurd (let f : failed {A = List Point} faults.BadPairs ≡ Ok all = e in cc)
points_found count points (b ∷ bs) all e =
    pairs_found count (pieces_of class.Pair (b ∷ bs)) points (b ∷ bs) all refl (λ n. absurd cc) (rw (nonzero (length bs)) at e)

with_some : (count : ℕ) (points : List Point) (text : List ℕ) → text ≢ []
    → points_with count points text ≡ with_pairs count points (pieces_of class.Pair text)
unfolding points_with
with_some count points [] some = absurd (some refl)
with_some count points (b ∷ bs) some = rw (nonzero (length bs)) refl

pub points_again : {count : ℕ} {points : List Point} {text : List ℕ} {all : List Point} → Pairs count points text all
    → points_with count points text ≡ Ok all
points_again {count} {points} {text} h = with_some count points text (some_pairs h) ∙ pairs_again h

-- ---- their fault

point_fault : (count : ℕ) (points : List Point) (read : Option Point) (f : LineFault) → with_point count points read ≡ Err f → f ≡ faults.BadPairs
point_fault count points None f e = err_is (failed {A = List Point} faults.BadPairs) f faults.BadPairs e refl
point_fault count points (Some p) f e =
    elim (cases_Bool (may_follow count points p)) [
      | inl holds ↦ absurd (let g = rw holds at e in cc)
      | inr fails ↦ err_is (failed {A = List Point} faults.BadPairs) f faults.BadPairs (rw fails at e) refl
    ]

step_fault : (r : Result (List Point) LineFault) (next : List Point → Result (List Point) LineFault) (f : LineFault)
    → ((g : LineFault) → r ≡ Err g → g ≡ faults.BadPairs) → ((x : List Point) → next x ≡ Err f → f ≡ faults.BadPairs) → (r >>= next) ≡ Err f
    → f ≡ faults.BadPairs
step_fault (Ok x) next f here on e = on x e
step_fault (Err g) next f here on e = here f e

pairs_fault : (count : ℕ) (points : List Point) (texts : List (List ℕ)) (f : LineFault) → with_pairs count points texts ≡ Err f → f ≡ faults.BadPairs
pairs_fault count points [] f e = absurd cc
pairs_fault count points (t ∷ ts) f e =
    step_fault (with_point count points (pair_of t)) (λ more. with_pairs count more ts) f (λ g h. point_fault count points (pair_of t) g h)
    (λ more h. pairs_fault count more ts f h) e

pub points_fault : (count : ℕ) (points : List Point) (text : List ℕ) (f : LineFault) → points_with count points text ≡ Err f → f ≡ faults.BadPairs
unfolding points_with
points_fault count points text f e =
    elim (cases_Bool (is_nothing text)) [
      | inl none ↦ err_is (failed {A = List Point} faults.BadPairs) f faults.BadPairs (rw none at e) refl
      | inr some ↦ pairs_fault count points (pieces_of class.Pair text) f (rw some at e)
    ]
