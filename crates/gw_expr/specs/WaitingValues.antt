-- The values of an expression that wait for their operator. (Our own.)
use Rattle.std.specs.Prelude.{◌≡◌, ℤ, List, [], ◌∷◌, Option, Some, None}

-- of the old values the last one, which stands first, is taken, where there is one, and the new ones are left
abbrev pub Pops : List ℤ → Option ℤ → List ℤ → Type 0
Pops old None new = old ≡ []
Pops old (Some v) new = old ≡ v ∷ new

-- the last of the values, if any waits
abbrev pub last_of : List ℤ → Option ℤ
last_of [] = None
last_of (v ∷ values) = Some v

-- the last two, the last one after, if two wait
abbrev pub last_two : List ℤ → Option (ℤ × ℤ)
last_two [] = None
last_two (b ∷ []) = None
last_two (b ∷ a ∷ values) = Some (a, b)

-- the values with one in place of the last one, and of the last two
abbrev pub replaced : ℤ → List ℤ → List ℤ
replaced v [] = []
replaced v (last ∷ values) = v ∷ values

abbrev pub joined : ℤ → List ℤ → List ℤ
joined v [] = []
joined v (b ∷ []) = b ∷ []
joined v (b ∷ a ∷ values) = v ∷ values
