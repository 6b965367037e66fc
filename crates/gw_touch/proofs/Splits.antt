-- Lists cut at a place, and what a splice there makes of them.
use Rattle.std.proofs.Common.{◌≡◌, ℕ, zero, suc, ◌+◌, ◌-◌, ◌≤◌, List, [], ◌∷◌, ◌++◌, Option, Some, length, take, drop, true, false, refl, ap, subst, ◌∙◌, arith, append_assoc}
use Rattle.std.specs.List.{slice_get}
use Rattle.std.proofs.lemmas.Bool.{or_parts, ltb-false}
use Rattle.gw_meaning.specs.declared.statement.Statement.{Statement}
use Rattle.gw_meaning.specs.declared.statement.Numbered.{Numbered}
use Rattle.gw_meaning.specs.Listing.{nth}
use Rattle.gw_model.specs.Faults.{is_outside}
use Rattle.gw_model.specs.Spliced.{greatest_number, number_in, inserted, spliced}
use Rattle.gw_model.proofs.Numbers.{nth_get, cut_at}

-- a place that is not outside
pub place_in : (last place : ℕ) → is_outside 1 last place ≡ false → (1 ≤ place) × (place ≤ last)
place_in last place h = let parts = or_parts _ _ h in (ltb-false place 1 parts.0, ltb-false last place parts.1)

-- what stands at a place
get_between : {X : Type 0} (xs ys : List X) (i : ℕ) (x : X) → i ≤ length xs → slice_get (take i xs ++ x ∷ ys) i ≡ Some x
get_between xs ys zero x within = refl
get_between [] ys (suc i) x within = absurd (omega arith)
get_between (z ∷ xs) ys (suc i) x within = get_between xs ys i x (omega arith)

pub nth_between : {X : Type 0} (xs ys : List X) (place : ℕ) (x : X) → 1 ≤ place → place ≤ length xs + 1 → nth (take (place - 1) xs ++ x ∷ ys) place ≡ Some x
nth_between xs ys place x least within = nth_get (take (place - 1) xs ++ x ∷ ys) place x least (get_between xs ys (place - 1) x (omega arith))

-- a statement is inserted where none is deleted
abbrev pub fresh_line : List Numbered → Statement → Numbered
fresh_line lines s = record { number = greatest_number lines + 1; statement = s }

pub come_parts : (lines : List Numbered) (place : ℕ) (s : Statement) → spliced lines place false (Some s) ≡ take (place - 1) lines ++
    fresh_line lines s ∷ drop (place - 1) lines
come_parts lines place s = append_assoc (take (place - 1) lines) (fresh_line lines s ∷ []) (drop (place - 1) lines)

-- a statement is deleted, and another one is inserted, or none
pub record IsGone (lines : List Numbered) (place : ℕ) (inserts : Option Statement) (line : Numbered) : Type 0 where
  pub found : nth lines place ≡ Some line
  pub old : lines ≡ take (place - 1) lines ++ line ∷ drop place lines
  pub new : spliced lines place true inserts ≡ take (place - 1) lines ++ (inserted line.number inserts ++ drop place lines)

pub gone_at : (lines : List Numbered) (place : ℕ) (inserts : Option Statement) → 1 ≤ place → place ≤ length lines → (line : Numbered) ×
    IsGone lines place inserts line
gone_at lines place inserts least within =
    let i = place - 1 in
    let next : suc i ≡ place = omega arith in
    let cut = cut_at lines i (omega arith) in
    let line = cut.0 in
    let found = nth_get lines place line least cut.1.found in (
      line,
      record {
        found = found;
        old = subst (λ (p : ℕ). lines ≡ take i lines ++ line ∷ drop p lines) next cut.1.parts;
        new = ap (λ (o : Option Numbered). take i lines ++ inserted (number_in lines o) inserts ++ drop place lines) found ∙
            append_assoc (take i lines) (inserted line.number inserts) (drop place lines);
      },
    )
