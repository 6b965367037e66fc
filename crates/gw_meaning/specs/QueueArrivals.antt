-- Which transactions came to which queue, in order of their numbers, and of one transaction in order of coming. (Manual:
-- that a departure at the clock of the entry is a zero entry. Our own: the order.)
use Rattle.std.specs.Prelude.{◌≡◌, ℕ, Bool, false, ◌&&◌, ◌||◌, nat_eq, nat_lt, List, [], ◌∷◌, if◌then◌else◌}
use Rattle.gw_names.specs.declared.key.Key.{Key}
use Rattle.gw_names.specs.Keys.{key_eq}

-- whether a transaction came to a queue
abbrev pub came : List (Key × ℕ) → Key → ℕ → Bool
came [] key number = false
came (c ∷ cs) key number = (key_eq key c.0 && nat_eq number c.1) || came cs key number

-- no transaction came to a queue twice
abbrev pub AreOnce : List (Key × ℕ) → Type 0
AreOnce [] = Unit {0}
AreOnce (c ∷ cs) = (came cs c.0 c.1 ≡ false) × AreOnce cs

-- with a coming of a transaction to a queue: after its others, and once
abbrev pub with_queue_arrival : List (Key × ℕ) → Key → ℕ → List (Key × ℕ)
with_queue_arrival [] key number = (key, number) ∷ []
with_queue_arrival (c ∷ cs) key number =
    if nat_lt number c.1 then (key, number) ∷ c ∷ cs
    else if key_eq key c.0 && nat_eq number c.1 then c ∷ cs else c ∷ with_queue_arrival cs key number
