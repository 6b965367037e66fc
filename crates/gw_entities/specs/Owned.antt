-- What transactions have of their own: entries by key, in order of the numbers of their transactions, and of each
-- transaction in order of coming. (Our own.)
use Rattle.std.specs.Prelude.{◌≡◌, ℕ, suc, ◌≤◌, ◌<◌, Bool, true, ◌&&◌, not, nat_eq, nat_lt, List, [], ◌∷◌, length, take, drop, filter, map}
use Rattle.std.specs.Prelude.{Option, None, Some, if◌then◌else◌, slice_get, slice_index_or}
use Rattle.gw_names.specs.declared.key.Key.{Key}
use Rattle.gw_names.specs.declared.key.Key.TheVariants.{Num}
use Rattle.gw_names.specs.Keys.{key_eq}
use Rattle.gw_entities.specs.declared.own_list.Item.{Item}

-- the number of a transaction, and something by its key
abbrev pub Entry : Type 0 → Type 0
Entry V = ℕ × (Key × V)

-- what a contract sees of an `OwnList`
pub record Own (V : Type 0) : Type 0 where
  pub entries : List (Entry V)
  -- the keys that an entry may have
  pub keys : List Key
  -- for how many more there is room
  pub room : ℕ

module _ {V : Type 0} where
  -- whether an entry is that of a transaction by a key
  abbrev pub is_own : ℕ → Key → Entry V → Bool
  is_own number key e = key_eq key e.1.0 && nat_eq number e.0

  -- what a transaction has by a key
  abbrev pub own_of : List (Entry V) → ℕ → Key → Option V
  own_of [] number key = None
  own_of (e ∷ es) number key = if is_own number key e then Some e.1.1 else own_of es number key

  -- with a value set: in place where the transaction has one by this key, else after its others
  abbrev pub with_own : List (Entry V) → ℕ → Key → V → List (Entry V)
  with_own [] number key value = (number, (key, value)) ∷ []
  with_own (e ∷ es) number key value =
      if nat_lt number e.0 then (number, (key, value)) ∷ e ∷ es
      else if is_own number key e then (e.0, (e.1.0, value)) ∷ es else e ∷ with_own es number key value

  -- what a transaction has, in order of coming
  abbrev pub all_of : ℕ → List (Entry V) → List (Key × V)
  all_of number [] = []
  all_of number (e ∷ es) = if nat_eq number e.0 then e.1 ∷ all_of number es else all_of number es

  -- without those of a transaction
  abbrev pub without_own : List (Entry V) → ℕ → List (Entry V)
  without_own es number = filter (λ e. not (nat_eq number e.0)) es

  -- each number is below this, and each is at least this
  abbrev pub AreBelow : ℕ → List (Entry V) → Type 0
  AreBelow n [] = Unit {0}
  AreBelow n (e ∷ es) = (e.0 < n) × AreBelow n es

  abbrev pub AreFrom : ℕ → List (Entry V) → Type 0
  AreFrom n [] = Unit {0}
  AreFrom n (e ∷ es) = (n ≤ e.0) × AreFrom n es

  -- the numbers rise
  abbrev pub AreRising : List (Entry V) → Type 0
  AreRising [] = Unit {0}
  AreRising (e ∷ es) = AreFrom e.0 es × AreRising es

  -- those from a number on begin at an index
  pub record IsCut (n : ℕ) (es : List (Entry V)) (i : ℕ) : Type 0 where
    pub within : i ≤ length es
    pub below : AreBelow n (take i es)
    pub from : AreFrom n (drop i es)

  -- at an index stands what a transaction has by a key
  pub record StandsAt (number : ℕ) (key : Key) (es : List (Entry V)) (i : ℕ) : Type 0 where
    pub entry : Entry V
    pub there : slice_get es i ≡ Some entry
    pub passes : is_own number key entry ≡ true
    pub before : own_of (take i es) number key ≡ None

  -- a transaction has nothing by a key, and its entries end at an index
  pub record EndsAt (number : ℕ) (key : Key) (es : List (Entry V)) (i : ℕ) : Type 0 where
    pub none : own_of es number key ≡ None
    pub cut : IsCut (suc number) es i

  -- how `OwnList` keeps an entry: its key by its place among the keys
  abbrev pub entry_of : List Key → Item V → Entry V
  entry_of keys item = (item.number, (slice_index_or keys item.key (Num 0), item.value))

  -- what such entries say
  abbrev pub said_by : List Key → List (Item V) → List (Key × V)
  said_by keys items = map (λ (item : Item V). (entry_of keys item).1) items

  abbrev pub AreKnown : ℕ → List (Item V) → Type 0
  AreKnown count [] = Unit {0}
  AreKnown count (item ∷ items) = (item.key < count) × AreKnown count items
