-- The operand list as it stands after a verb: what is kept of it. (Manual: free format. Our own: the blanks in
-- parentheses.)
use Rattle.std.specs.Prelude.{ℕ, zero, suc, ◌==◌, ◌&&◌, ◌||◌, not, Bool, true, false, List, [], ◌∷◌, if◌then◌else◌}
use Rattle.gw_lines.specs.Classes.{is_blank}

-- a text after a word: one blank before it, or nothing where there is no text
abbrev pub behind_text : List ℕ → List ℕ
behind_text [] = []
behind_text (b ∷ bs) = 32 ∷ b ∷ bs

-- whether parentheses are open
abbrev pub is_open : ℕ → Bool
is_open zero = false
is_open (suc depth) = true

-- how many are open after a closing one: one that closes nothing counts for nothing
abbrev pub shallower : ℕ → ℕ
shallower zero = zero
shallower (suc depth) = depth

-- how many are open after a byte
abbrev pub depth_behind : ℕ → ℕ → ℕ
depth_behind b depth = if b == 40 then suc depth else (if b == 41 then shallower depth else depth)

-- the operand list that stands here, without the blanks that are skipped: skips says that blanks are, as after a
-- comma, and in parentheses they are, too
abbrev pub listed_of : Bool → ℕ → List ℕ → List ℕ
listed_of skips depth [] = []
listed_of skips depth (b ∷ bs) =
    if is_blank b
    then (if skips || is_open depth then listed_of skips depth bs else [])
    else b ∷ listed_of (b == 44 && not (is_open depth)) (depth_behind b depth) bs
