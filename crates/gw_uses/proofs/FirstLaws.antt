-- The first step that reads an item with a property, in plain words.
use Rattle.std.proofs.Common.{◌≡◌, ℕ, zero, suc, ◌<◌, ◌≤◌, Bool, true, false, cond, ◌||◌, nat_le, nat_eq, ◌==◌, List, [], ◌∷◌, Option, Some, None, refl, sym, ap, ◌∙◌, arith, subst}
use mathlib.Core.Bool.{true≢false}
use Rattle.std.specs.List.{list_any}
use Rattle.std.proofs.lemmas.Bool.Decides.{nat_tests}
use Rattle.gw_meaning.specs.declared.item.Item.{Item}
use Rattle.gw_meaning.specs.declared.item.Item.TheVariants as items
use Rattle.gw_meaning.specs.Listing.{Listing}
use Rattle.gw_meaning.specs.Reads.{or_later, first_reading, reads, is_use, is_command_use}
use Rattle.gw_uses.specs.Steps.{step_at, IsLeastFrom}

module _ (p : Item → Bool) (t : Listing) (seed : ℕ) where
  -- what a first reading is: below n, one that reads so, and none before it does
  abbrev pub IsFirstReading : ℕ → Option ℕ → Type 0
  IsFirstReading n None = (k : ℕ) → k < n → list_any p (reads t seed k) ≡ false
  IsFirstReading n (Some m) = (m < n) × (list_any p (reads t seed m) ≡ true) × ((k : ℕ) → k < m → list_any p (reads t seed k) ≡ false)

  first_more :
      (n : ℕ) (o : Option ℕ) (b : Bool) → list_any p (reads t seed n) ≡ b → IsFirstReading n o →
      IsFirstReading (suc n) (or_later o (cond b (Some n) None))
  first_more n (Some m) b e h = (let l = h.0 in omega (arith, l), h.1, h.2)
  first_more n None true e h = (omega arith, e, h)
  first_more n None false e h = λ k less. go k less (nat_eq k n) refl where
    go : (k : ℕ) → k < suc n → (c : Bool) → nat_eq k n ≡ c → list_any p (reads t seed k) ≡ false
    go k less true same = let at : k ≡ n = grind (arith, nat_tests) in ap (λ i. list_any p (reads t seed i)) at ∙ e
    go k less false other = h k (grind (arith, nat_tests))

  pub first_is : (n : ℕ) → IsFirstReading n (first_reading p t seed n)
  first_is zero = λ k less. absurd (omega (arith, less))
  first_is (suc n) = first_more n (first_reading p t seed n) (list_any p (reads t seed n)) refl (first_is n)

  -- there is just one
  pub first_same : (n : ℕ) (o q : Option ℕ) → IsFirstReading n o → IsFirstReading n q → o ≡ q
  first_same n None None a b = refl
  first_same n None (Some m) a b = absurd (true≢false (sym b.1 ∙ a m b.0))
  first_same n (Some m) None a b = absurd (true≢false (sym a.1 ∙ b m a.0))
  first_same n (Some m) (Some k) a b = go (nat_le m k) refl (nat_le k m) refl where
    go : (x : Bool) → nat_le m k ≡ x → (y : Bool) → nat_le k m ≡ y → Some m ≡ Some k
    go true e true f = let same : m ≡ k = grind (arith, nat_tests) in ap (λ i. Some i) same
    go true e false f = absurd (true≢false (sym a.1 ∙ b.2 m (grind (arith, nat_tests))))
    go false e y f = absurd (true≢false (sym b.1 ∙ a.2 k (grind (arith, nat_tests))))

  -- a step that reads so has a first one, no later
  pub first_no_later : (n k : ℕ) → k < n → list_any p (reads t seed k) ≡ true → (m : ℕ) × (first_reading p t seed n ≡ Some m) × (m ≤ k)
  first_no_later n k less is = go (first_reading p t seed n) refl (first_is n) where
    go : (o : Option ℕ) → first_reading p t seed n ≡ o → IsFirstReading n o → (m : ℕ) × (first_reading p t seed n ≡ Some m) × (m ≤ k)
    go None e h = absurd (true≢false (sym is ∙ h k less))
    go (Some m) e h = (m, e, at_most (nat_le m k) refl) where
      at_most : (x : Bool) → nat_le m k ≡ x → m ≤ k
      at_most true f = grind (arith, nat_tests)
      at_most false f = absurd (true≢false (sym is ∙ h.2 k (grind (arith, nat_tests))))

-- who reads a command from the i-th on reads some command
command_read :
    (i : ℕ) (read : List Item) → list_any (is_command_use i) read ≡ true →
    (j : ℕ) × (i ≤ j) × (list_any (is_use (items.Cmd j)) read ≡ true)
command_read i [] h = absurd (true≢false (sym h))
command_read i (items.Cmd j ∷ read) h = go (nat_le i j) refl h (command_read i read) where
  go :
      (b : Bool) → nat_le i j ≡ b → (b || list_any (is_command_use i) read) ≡ true →
      (list_any (is_command_use i) read ≡ true → (k : ℕ) × (i ≤ k) × (list_any (is_use (items.Cmd k)) read ≡ true)) →
      (k : ℕ) × (i ≤ k) × (list_any (is_use (items.Cmd k)) (items.Cmd j ∷ read) ≡ true)
  go true e h rest = (j, grind (arith, nat_tests), let same : (j == j) ≡ true = grind (arith, nat_tests) in rw same refl)
  go false e h rest = let (k, low, is) = rest h in (k, low, behind k (j == k) is) where
    behind : (k : ℕ) (b : Bool) → list_any (is_use (items.Cmd k)) read ≡ true → (b || list_any (is_use (items.Cmd k)) read) ≡ true
    behind k true is = refl
    behind k false is = is
command_read i (item ∷ read) h = let (k, low, is) = command_read i read h in (k, low, is)

-- who reads the j-th command reads one from the i-th on
command_from : (i j : ℕ) → i ≤ j → (read : List Item) → list_any (is_use (items.Cmd j)) read ≡ true → list_any (is_command_use i) read ≡ true
command_from i j low [] h = absurd (true≢false (sym h))
command_from i j low (items.Cmd k ∷ read) h = go (nat_eq k j) refl h (command_from i j low read) where
  go :
      (b : Bool) → nat_eq k j ≡ b → (b || list_any (is_use (items.Cmd j)) read) ≡ true →
      (list_any (is_use (items.Cmd j)) read ≡ true → list_any (is_command_use i) read ≡ true) →
      (nat_le i k || list_any (is_command_use i) read) ≡ true
  go true e h rest = let low_k : nat_le i k ≡ true = grind (arith, nat_tests, low) in rw low_k refl
  go false e h rest = behind (nat_le i k) (rest h) where
    behind : (b : Bool) → list_any (is_command_use i) read ≡ true → (b || list_any (is_command_use i) read) ≡ true
    behind true is = refl
    behind false is = is
command_from i j low (item ∷ read) h = command_from i j low read h

-- the least first step of the commands from the i-th on
pub first_command :
    (i n : ℕ) (t : Listing) (seed : ℕ) (steps : List ℕ) (o : Option ℕ) → IsLeastFrom steps i o →
    ((k : ℕ) → step_at steps k ≡ first_reading (is_use (items.Cmd k)) t seed n) → o ≡ first_reading (is_command_use i) t seed n
first_command i n t seed steps o least noted =
    let first = first_reading (is_command_use i) t seed n in
    first_same (is_command_use i) t seed n o first (go o least) (first_is (is_command_use i) t seed n) where
      unread :
          (k : ℕ) → ((j : ℕ) → i ≤ j → list_any (is_use (items.Cmd j)) (reads t seed k) ≡ true → ⊥) → (b : Bool) →
          list_any (is_command_use i) (reads t seed k) ≡ b → b ≡ false
      unread k none false e = refl
      unread k none true e = let (j, low, is) = command_read i (reads t seed k) e in absurd (none j low is)

      go : (o : Option ℕ) → IsLeastFrom steps i o → IsFirstReading (is_command_use i) t seed n o
      go None h = λ k less. unread k (λ j low is.
          let (m, first, at) = first_no_later (is_use (items.Cmd j)) t seed n k less is in
          let none : None ≡ Some m = sym (h j low) ∙ (noted j ∙ first) in
          absurd cc) _ refl
      go (Some m) h =
          let (j, low, at) = h.0 in
          let first : first_reading (is_use (items.Cmd j)) t seed n ≡ Some m = sym (noted j) ∙ at in
          let is = subst (λ q. IsFirstReading (is_use (items.Cmd j)) t seed n q) first (first_is (is_use (items.Cmd j)) t seed n) in (
            is.0,
            command_from i j low (reads t seed m) is.1,
            λ k less. unread k (λ q high was.
                let l = is.0 in
                let (f, found, early) = first_no_later (is_use (items.Cmd q)) t seed n k (omega (arith, less, l)) was in
                let no_less = h.1 q f high (noted q ∙ found) in
                omega (arith, no_less, early, less)) _ refl,
          )
