-- The bytes of pairs: digits, points, signs, commas and `/`.
use Rattle.std.proofs.Common.{◌≡◌, ℕ, Bool, true, List, [], ◌∷◌, ◌++◌, refl, sym, subst, arith}
use Rattle.std.proofs.lemmas.Bool.{and_parts}
use Rattle.std.proofs.lemmas.Bool.Decides.{nat_tests}
use Rattle.std.specs.List.{list_all}
use Rattle.gw_names.specs.Names.{is_name_byte}
use Rattle.gw_expr.specs.declared.function.Point.{Point}
use Rattle.gw_lines.specs.declared.class.Class.TheVariants as class
use Rattle.gw_lines.specs.Classes.{is_in}
use Rattle.gw_lines.specs.Points.{Decimal, without_point, with_point, Coordinate, not_negative, negative, Pair, a_pair, Pairs, last_pair, ended_pair, more_pairs}
use Rattle.gw_lines.proofs.Bytes.{Pass, Takes, both_pass, next_passes, digits_pass}
use Rattle.gw_lines.proofs.OwnBytes.{is_own, own}

-- the test passes the bytes of numbers
pub record TakesNumbers (p : ℕ → Bool) : Type 0 where
  pub takes : Takes p
  pub point : p 46 ≡ true
  pub minus : p 45 ≡ true

pointed_passes : (p : ℕ → Bool) → p 46 ≡ true → (whole decimals : List ℕ) → Pass p (whole ++ decimals) → Pass p (whole ++ 46 ∷ decimals)
pointed_passes p point [] decimals h = next_passes p 46 decimals point h
pointed_passes p point (b ∷ bs) decimals h =
    let a = and_parts (p b) (list_all p (bs ++ decimals)) h in next_passes p b (bs ++ 46 ∷ decimals) a.0 (pointed_passes p point bs decimals a.1)

decimal_passes : {p : ℕ → Bool} → TakesNumbers p → {text : List ℕ} {n : ℕ} → Decimal text n → Pass p text
decimal_passes t (without_point text n h) = digits_pass t.takes h.digits
decimal_passes {p} t (with_point text n f) = subst (Pass p) (sym f.point) (pointed_passes p t.point f.whole f.decimals (digits_pass t.takes f.digits))

pub coordinate_passes : {p : ℕ → Bool} → TakesNumbers p → {text : List ℕ} {z : _} → Coordinate text z → Pass p text
coordinate_passes t (not_negative text n d) = decimal_passes t d
coordinate_passes {p} t (negative text n d) = next_passes p 45 text t.minus (decimal_passes t d)

pub pair_passes : {p : ℕ → Bool} → TakesNumbers p → p 44 ≡ true → {text : List ℕ} {q : Point} → Pair text q → Pass p text
pair_passes {p} t comma (a_pair x y q cx cy) =
    both_pass p x (44 ∷ y) (coordinate_passes t cx) (next_passes p 44 y comma (coordinate_passes t cy))

pub pairs_pass : {p : ℕ → Bool} → TakesNumbers p → p 44 ≡ true → p 47 ≡ true → {count : ℕ} {points : List Point} {text : List ℕ} {all : List Point}
    → Pairs count points text all → Pass p text
pairs_pass t comma slash (last_pair count points text q h m) = pair_passes t comma h
pairs_pass {p} t comma slash (ended_pair count points text q h m) =
    both_pass p text (47 ∷ []) (pair_passes t comma h) (next_passes p 47 [] slash refl)
pairs_pass {p} t comma slash (more_pairs count points text q others all h m others_are) =
    both_pass p text (47 ∷ others) (pair_passes t comma h) (next_passes p 47 others slash (pairs_pass t comma slash others_are))

pub operand_bytes : TakesNumbers (is_in class.Operand)
operand_bytes = record { takes = record { name = named; dollar = refl }; point = refl; minus = refl }
  where
    named : (b : ℕ) → is_name_byte b ≡ true → is_in class.Operand b ≡ true
    named b h = grind (arith, nat_tests)

pub pair_bytes : TakesNumbers (is_in class.Pair)
pair_bytes = record { takes = record { name = named; dollar = refl }; point = refl; minus = refl }
  where
    named : (b : ℕ) → is_name_byte b ≡ true → is_in class.Pair b ≡ true
    named b h = grind (arith, nat_tests)

-- no byte of pairs begins a comment or ends a line
pub pairs_own : {count : ℕ} {points : List Point} {text : List ℕ} {all : List Point} → Pairs count points text all → Pass is_own text
pairs_own h = pairs_pass (record { takes = own; point = refl; minus = refl }) refl refl h
