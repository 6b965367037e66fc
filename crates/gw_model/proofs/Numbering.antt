use Rattle.std.proofs.Common.{◌≡◌, ℕ, suc, List, [], ◌∷◌, refl, ap, ◌++◌, arith, ◌+◌, length}
use Rattle.gw_meaning.specs.declared.statement.Numbered.{Numbered}
use Rattle.gw_meaning.specs.declared.statement.Statement.{Statement}
use Rattle.gw_model.specs.Listed.{numbered}

-- one more statement is numbered after the others
pub numbered_more : (first : ℕ) (statements : List Statement) (s : Statement) (n : ℕ) → n ≡ first + length statements →
    numbered first (statements ++ s ∷ []) ≡ numbered first statements ++ record { number = n; statement = s } ∷ []
numbered_more first [] s n h =
    let e : first ≡ n = omega arith in
    ap (λ (m : ℕ). let line : Numbered = record { number = m; statement = s } in line ∷ []) e
numbered_more first (t ∷ ts) s n h =
    let e : n ≡ (first + 1) + length ts = omega arith in
    let line : Numbered = record { number = first; statement = t } in
    ap (λ (lines : List Numbered). line ∷ lines) (numbered_more (first + 1) ts s n e)

-- as many lines as statements
pub length-numbered : (first : ℕ) (statements : List Statement) → length (numbered first statements) ≡ length statements
length-numbered first [] = refl
length-numbered first (s ∷ ss) = ap suc (length-numbered (first + 1) ss)
