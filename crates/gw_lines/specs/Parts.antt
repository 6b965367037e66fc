-- The parts of an operand list: what stands between its commas. (Manual.)
use Rattle.std.specs.Prelude.{ℕ, ◌==◌, ◌&&◌, not, Bool, true, false, List, [], ◌∷◌, if◌then◌else◌}
use Rattle.gw_lines.specs.declared.form.Form.{Form}
use Rattle.gw_lines.specs.Classes.{is_nothing, with_byte}
use Rattle.gw_lines.specs.Forms.{is_required}

-- what stands between commas, one part at least
abbrev pub split : List ℕ → List (List ℕ)
split [] = [] ∷ []
split (b ∷ bs) = if b == 44 then [] ∷ split bs else with_byte b (split bs)

-- the operands as they are written: none where nothing stands
abbrev pub parts_of : List ℕ → List (List ℕ)
parts_of [] = []
parts_of (b ∷ bs) = split (b ∷ bs)

-- whether a part stands here
abbrev pub goes_on : List (List ℕ) → Bool
goes_on [] = false
goes_on (part ∷ parts) = true

-- the part that stands here: empty where none does
abbrev pub part_of : List (List ℕ) → List ℕ
part_of [] = []
part_of (part ∷ parts) = part

-- whether the first operand is given: it is not empty
abbrev pub is_given : List (List ℕ) → Bool
is_given parts = not (is_nothing (part_of parts))

-- the parts after it
abbrev pub others_of : {X : Type 0} → List X → List X
others_of [] = []
others_of (x ∷ xs) = xs

-- whether an operand is missing that stands here
abbrev pub is_missing : Form → List ℕ → Bool
is_missing form part = is_required form.presence && is_nothing part
