-- Commands are among the lines.
use Rattle.std.proofs.Common.{ℕ, zero, suc, ◌≤◌, List, [], ◌∷◌, length, take, filter, Bool, true, false, cond, arith}
use Rattle.gw_meaning.specs.declared.statement.Numbered.{Numbered}

pub few_commands : (p : Numbered → Bool) (n : ℕ) (lines : List Numbered) → length (filter p (take n lines)) ≤ length lines
few_commands p zero lines = omega arith
few_commands p (suc n) [] = omega arith
few_commands p (suc n) (line ∷ lines) =
    let h : length (filter p (take n lines)) ≤ length lines = few_commands p n lines in
    elim (p line) as (λ b. length (cond b (line ∷ filter p (take n lines)) (filter p (take n lines))) ≤ suc (length lines))
    [ true ↦ omega arith | false ↦ omega arith ]
