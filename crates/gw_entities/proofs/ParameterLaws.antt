-- The parameters of transactions, put together from entries in order of their numbers: what is seen is told by the values
-- of each transaction.
use Rattle.std.proofs.Common.{◌≡◌, ℕ, ℤ, ◌<◌, ◌≤◌, Bool, true, false, cond, not, nat_eq, nat_lt, ◌&&◌, arith}
use Rattle.std.proofs.Common.{List, [], ◌∷◌, Some, unwrap_or, refl, sym, ap, ◌∙◌, subst}
use Rattle.std.specs.Map.{lookup}
use Rattle.std.proofs.lemmas.Bool.{eqb-true}
use Rattle.std.proofs.lemmas.Bool.Decides.{nat_tests}
use Rattle.gw_names.specs.declared.key.Key.{Key}
use Rattle.gw_names.specs.Keys.{key_eq}
use Rattle.gw_meaning.specs.Tables.{value_of, with_value}
use Rattle.gw_entities.specs.Owned.{Entry, is_own, own_of, all_of, with_own, without_own, AreFrom, AreRising}
use Rattle.gw_meaning.specs.Parameters.{Held, values_at, parameter_at, with_values, assigned, without}
use Rattle.gw_entities.specs.Keeping.{with_first, grouped}
use Rattle.gw_entities.proofs.OwnLaws.{rising_with, rising_without}

abbrev Values : Type 0
Values = List (Key × ℤ)

-- ---- numbers

itself : (n : ℕ) → nat_eq n n ≡ true
itself n = grind (arith, nat_tests)

other : (n m : ℕ) → n < m → nat_eq n m ≡ false
other n m less = grind (arith, nat_tests)

other' : (n m : ℕ) → m < n → nat_eq n m ≡ false
other' n m less = grind (arith, nat_tests)

beyond : (n m : ℕ) → n ≤ m → nat_eq n m ≡ false → n < m
beyond n m low apart = grind (arith, nat_tests)

before : (n m : ℕ) → nat_eq n m ≡ false → nat_lt n m ≡ false → m < n
before n m apart more = grind (arith, nat_tests)

is_below : (n m : ℕ) → nat_lt n m ≡ true → n < m
is_below n m e = grind (arith, nat_tests)

-- ---- lists in order of their numbers, none with no values

abbrev AreAbove : ℕ → Held → Type 0
AreAbove n [] = Unit {0}
AreAbove n (h ∷ hs) = (n < h.0) × AreAbove n hs

abbrev AreFromKey : ℕ → Held → Type 0
AreFromKey n [] = Unit {0}
AreFromKey n (h ∷ hs) = (n ≤ h.0) × AreFromKey n hs

abbrev HasSome : Values → Type 0
HasSome [] = ⊥
HasSome (p ∷ ps) = Unit {0}

abbrev IsOrdered : Held → Type 0
IsOrdered [] = Unit {0}
IsOrdered (h ∷ hs) = (HasSome h.1 × AreAbove h.0 hs) × IsOrdered hs

above_weaker : (m n : ℕ) (hs : Held) → m ≤ n → AreAbove n hs → AreAbove m hs
above_weaker m n [] less a = tt
above_weaker m n (h ∷ hs) less a = let own : n < h.0 = a.0 in (omega (arith, own, less), above_weaker m n hs less a.1)

none_above : (n : ℕ) (hs : Held) → AreAbove n hs → values_at hs n ≡ []
none_above n [] a = refl
none_above n (h ∷ hs) a = ap (λ b. unwrap_or (cond b (Some h.1) (lookup (nat_eq n) hs)) []) (other n h.0 a.0) ∙ none_above n hs a.1

-- the values of the first, or of the others
at_first : (q : ℕ) (h : ℕ × Values) (hs : Held) → values_at (h ∷ hs) q ≡ cond (nat_eq q h.0) h.1 (values_at hs q)
at_first q h hs = step (nat_eq q h.0) where
  step : (b : Bool) → unwrap_or (cond b (Some h.1) (lookup (nat_eq q) hs)) [] ≡ cond b h.1 (values_at hs q)
  step true = refl
  step false = refl

no_values : (vs : Values) → HasSome vs → vs ≡ [] → ⊥
no_values [] some e = some
no_values (p ∷ ps) some e = cc

above_tail : (m : ℕ) (h : ℕ × Values) (hs : Held) → m < h.0 → AreAbove h.0 hs → AreAbove m (h ∷ hs)
above_tail m h hs less a = (less, above_weaker m h.0 hs (omega (arith, less)) a)

-- two of them are one where each transaction has the same values
pub same_held : (hs gs : Held) → IsOrdered hs → IsOrdered gs → ((q : ℕ) → values_at hs q ≡ values_at gs q) → hs ≡ gs
same_held [] [] oa ob same = refl
same_held [] (b ∷ gs) oa ob same =
    absurd (no_values b.1 ob.0.0 (sym (here b gs) ∙ sym (same b.0))) where
      here : (b : ℕ × Values) (gs : Held) → values_at (b ∷ gs) b.0 ≡ b.1
      here b gs = at_first b.0 b gs ∙ ap (λ e. cond e b.1 (values_at gs b.0)) (itself b.0)
same_held (a ∷ hs) [] oa ob same =
    absurd (no_values a.1 oa.0.0 (sym (here a hs) ∙ same a.0)) where
      here : (b : ℕ × Values) (gs : Held) → values_at (b ∷ gs) b.0 ≡ b.1
      here b gs = at_first b.0 b gs ∙ ap (λ e. cond e b.1 (values_at gs b.0)) (itself b.0)
same_held (a ∷ hs) (b ∷ gs) oa ob same = go (nat_eq a.0 b.0) refl (nat_lt a.0 b.0) refl (λ r. same_held hs gs oa.1 ob.1 r) where
  here : (c : ℕ × Values) (cs : Held) → values_at (c ∷ cs) c.0 ≡ c.1
  here c cs = at_first c.0 c cs ∙ ap (λ e. cond e c.1 (values_at cs c.0)) (itself c.0)

  rest : a.0 ≡ b.0 → (q : ℕ) → values_at hs q ≡ values_at gs q
  rest e q = step (nat_eq q a.0) refl where
    step : (t : Bool) → nat_eq q a.0 ≡ t → values_at hs q ≡ values_at gs q
    step true f =
        let one : q ≡ a.0 = eqb-true q a.0 f in
        let two : q ≡ b.0 = one ∙ e in
        none_above q hs (subst (λ m. AreAbove m hs) (sym one) oa.0.1) ∙ sym (none_above q gs (subst (λ m. AreAbove m gs) (sym two) ob.0.1))
    step false f =
        let g : nat_eq q b.0 ≡ false = ap (λ m. nat_eq q m) (sym e) ∙ f in
        sym (at_first q a hs ∙ ap (λ t. cond t a.1 (values_at hs q)) f)
        ∙ (same q ∙ (at_first q b gs ∙ ap (λ t. cond t b.1 (values_at gs q)) g))

  go : (s : Bool) → nat_eq a.0 b.0 ≡ s → (t : Bool) → nat_lt a.0 b.0 ≡ t →
      (((q : ℕ) → values_at hs q ≡ values_at gs q) → hs ≡ gs) → a ∷ hs ≡ b ∷ gs
  go true e t f more =
      let one : a.0 ≡ b.0 = eqb-true a.0 b.0 e in
      let values : a.1 ≡ b.1 = sym (here a hs) ∙ (same a.0 ∙ (ap (λ q. values_at (b ∷ gs) q) one ∙ here b gs)) in
      ap (λ (n : ℕ). (n, a.1) ∷ hs) one ∙ (ap (λ (v : Values). (b.0, v) ∷ hs) values
      ∙ ap (λ (l : Held). b ∷ l) (more (rest one)))
  go false e true f more =
      let less : a.0 < b.0 = is_below a.0 b.0 f in
      absurd (no_values a.1 oa.0.0 (sym (here a hs) ∙ (same a.0 ∙ none_above a.0 (b ∷ gs) (above_tail a.0 b gs less ob.0.1))))
  go false e false f more =
      let less : b.0 < a.0 = before a.0 b.0 e f in
      absurd (no_values b.1 ob.0.0 (sym (here b gs) ∙ (sym (same b.0) ∙ none_above b.0 (a ∷ hs) (above_tail b.0 a hs less oa.0.1))))

-- ---- values that are set or forgotten

values_set : (q n : ℕ) (vs : Values) (held : Held) → values_at (with_values held n vs) q ≡ cond (nat_eq q n) vs (values_at held q)
values_set q n vs [] = at_first q (n, vs) []
values_set q n vs (h ∷ hs) = go (nat_eq n h.0) refl (nat_lt n h.0) (values_set q n vs hs) where
  go : (s : Bool) → nat_eq n h.0 ≡ s → (t : Bool) → values_at (with_values hs n vs) q ≡ cond (nat_eq q n) vs (values_at hs q) →
      values_at (cond s ((h.0, vs) ∷ hs) (cond t ((n, vs) ∷ h ∷ hs) (h ∷ with_values hs n vs))) q ≡ cond (nat_eq q n) vs (values_at (h ∷ hs) q)
  go true e t rest =
      let one : n ≡ h.0 = eqb-true n h.0 e in
      at_first q (h.0, vs) hs ∙ (step (nat_eq q h.0) refl ∙ ap (λ m. cond (nat_eq q m) vs (values_at (h ∷ hs) q)) (sym one)) where
        step : (b : Bool) → nat_eq q h.0 ≡ b → cond b vs (values_at hs q) ≡ cond b vs (values_at (h ∷ hs) q)
        step true f = refl
        step false f = sym (at_first q h hs ∙ ap (λ b. cond b h.1 (values_at hs q)) f)
  go false e true rest = at_first q (n, vs) (h ∷ hs)
  go false e false rest =
      at_first q h (with_values hs n vs) ∙ (ap (λ l. cond (nat_eq q h.0) h.1 l) rest
      ∙ (step (nat_eq q h.0) refl (nat_eq q n) refl ∙ ap (λ l. cond (nat_eq q n) vs l) (sym (at_first q h hs)))) where
        step : (a : Bool) → nat_eq q h.0 ≡ a → (b : Bool) → nat_eq q n ≡ b →
            cond a h.1 (cond b vs (values_at hs q)) ≡ cond b vs (cond a h.1 (values_at hs q))
        step true f true g =
            let same : n ≡ h.0 = sym (eqb-true q n g) ∙ eqb-true q h.0 f in
            absurd (let yes : nat_eq n h.0 ≡ true = ap (λ m. nat_eq n m) (sym same) ∙ itself n in let clash : true ≡ false = sym yes ∙ e in cc)
        step true f false g = refl
        step false f true g = refl
        step false f false g = refl

above_set : (m n : ℕ) (vs : Values) (hs : Held) → m < n → AreAbove m hs → AreAbove m (with_values hs n vs)
above_set m n vs [] less a = (less, tt)
above_set m n vs (h ∷ hs) less a = go (nat_eq n h.0) (nat_lt n h.0) (above_set m n vs hs less a.1) where
  go : (s t : Bool) → AreAbove m (with_values hs n vs) → AreAbove m (cond s ((h.0, vs) ∷ hs) (cond t ((n, vs) ∷ h ∷ hs) (h ∷ with_values hs n vs)))
  go true t rest = a
  go false true rest = (less, a)
  go false false rest = (a.0, rest)

ordered_set : (n : ℕ) (vs : Values) (hs : Held) → HasSome vs → IsOrdered hs → IsOrdered (with_values hs n vs)
ordered_set n vs [] some o = ((some, tt), tt)
ordered_set n vs (h ∷ hs) some o = go (nat_eq n h.0) refl (nat_lt n h.0) refl (ordered_set n vs hs some o.1) where
  go : (s : Bool) → nat_eq n h.0 ≡ s → (t : Bool) → nat_lt n h.0 ≡ t → IsOrdered (with_values hs n vs) →
      IsOrdered (cond s ((h.0, vs) ∷ hs) (cond t ((n, vs) ∷ h ∷ hs) (h ∷ with_values hs n vs)))
  go true e t f rest = ((some, o.0.1), o.1)
  go false e true f rest = ((some, above_tail n h hs (is_below n h.0 f) o.0.1), o)
  go false e false f rest = ((o.0.0, above_set h.0 n vs hs (before n h.0 e f) o.0.1), rest)

has_some : (vs : Values) (k : Key) (v : ℤ) → HasSome (with_value vs k v)
has_some [] k v = tt
has_some (p ∷ ps) k v = go (key_eq k p.0) where
  go : (b : Bool) → HasSome (cond b ((p.0, v) ∷ ps) (p ∷ with_value ps k v))
  go true = tt
  go false = tt

values_without : (q n : ℕ) (held : Held) → values_at (without held n) q ≡ cond (nat_eq q n) [] (values_at held q)
values_without q n [] = step (nat_eq q n) where
  step : (b : Bool) → ◌≡◌ {A = Values} [] (cond b [] [])
  step true = refl
  step false = refl
values_without q n (h ∷ hs) = go (nat_eq n h.0) refl (values_without q n hs) where
  go : (s : Bool) → nat_eq n h.0 ≡ s → values_at (without hs n) q ≡ cond (nat_eq q n) [] (values_at hs q) →
      values_at (cond (not s) (h ∷ without hs n) (without hs n)) q ≡ cond (nat_eq q n) [] (values_at (h ∷ hs) q)
  go true e rest =
      rest ∙ step (nat_eq q n) refl where
        step : (b : Bool) → nat_eq q n ≡ b → cond b [] (values_at hs q) ≡ cond b [] (values_at (h ∷ hs) q)
        step true f = refl
        step false f =
            let apart : nat_eq q h.0 ≡ false = ap (λ m. nat_eq q m) (sym (eqb-true n h.0 e)) ∙ f in
            sym (at_first q h hs ∙ ap (λ b. cond b h.1 (values_at hs q)) apart)
  go false e rest =
      at_first q h (without hs n) ∙ (ap (λ l. cond (nat_eq q h.0) h.1 l) rest
      ∙ (step (nat_eq q h.0) refl (nat_eq q n) refl ∙ ap (λ l. cond (nat_eq q n) [] l) (sym (at_first q h hs)))) where
        step : (a : Bool) → nat_eq q h.0 ≡ a → (b : Bool) → nat_eq q n ≡ b →
            cond a h.1 (cond b [] (values_at hs q)) ≡ cond b [] (cond a h.1 (values_at hs q))
        step true f true g =
            let same : n ≡ h.0 = sym (eqb-true q n g) ∙ eqb-true q h.0 f in
            absurd (let yes : nat_eq n h.0 ≡ true = ap (λ m. nat_eq n m) (sym same) ∙ itself n in let clash : true ≡ false = sym yes ∙ e in cc)
        step true f false g = refl
        step false f true g = refl
        step false f false g = refl

above_without : (m n : ℕ) (hs : Held) → AreAbove m hs → AreAbove m (without hs n)
above_without m n [] a = tt
above_without m n (h ∷ hs) a = go (not (nat_eq n h.0)) (above_without m n hs a.1) where
  go : (b : Bool) → AreAbove m (without hs n) → AreAbove m (cond b (h ∷ without hs n) (without hs n))
  go true rest = (a.0, rest)
  go false rest = rest

ordered_without : (n : ℕ) (hs : Held) → IsOrdered hs → IsOrdered (without hs n)
ordered_without n [] o = tt
ordered_without n (h ∷ hs) o = go (not (nat_eq n h.0)) (ordered_without n hs o.1) where
  go : (b : Bool) → IsOrdered (without hs n) → IsOrdered (cond b (h ∷ without hs n) (without hs n))
  go true rest = ((o.0.0, above_without h.0 n hs o.0.1), rest)
  go false rest = rest

-- ---- what is put together

keys_first : (n : ℕ) (e : Entry ℤ) (g : Held) → n ≤ e.0 → AreFromKey n g → AreFromKey n (with_first e g)
keys_first n e [] low a = (low, tt)
keys_first n e (h ∷ hs) low a = go (nat_eq e.0 h.0) where
  go : (b : Bool) → AreFromKey n (cond b ((h.0, e.1 ∷ h.1) ∷ hs) ((e.0, e.1 ∷ []) ∷ h ∷ hs))
  go true = a
  go false = (low, a)

keys_grouped : (n : ℕ) (es : List (Entry ℤ)) → AreFrom n es → AreFromKey n (grouped es)
keys_grouped n [] a = tt
keys_grouped n (e ∷ es) a = keys_first n e (grouped es) a.0 (keys_grouped n es a.1)

ordered_first : (e : Entry ℤ) (g : Held) → AreFromKey e.0 g → IsOrdered g → IsOrdered (with_first e g)
ordered_first e [] a o = ((tt, tt), tt)
ordered_first e (h ∷ hs) a o = go (nat_eq e.0 h.0) refl where
  go : (b : Bool) → nat_eq e.0 h.0 ≡ b → IsOrdered (cond b ((h.0, e.1 ∷ h.1) ∷ hs) ((e.0, e.1 ∷ []) ∷ h ∷ hs))
  go true f = ((tt, o.0.1), o.1)
  go false f = ((tt, above_tail e.0 h hs (beyond e.0 h.0 a.0 f) o.0.1), o)

ordered_grouped : (es : List (Entry ℤ)) → AreRising es → IsOrdered (grouped es)
ordered_grouped [] r = tt
ordered_grouped (e ∷ es) r = ordered_first e (grouped es) (keys_grouped e.0 es r.0) (ordered_grouped es r.1)

values_first : (q : ℕ) (e : Entry ℤ) (g : Held) → AreFromKey e.0 g → IsOrdered g →
    values_at (with_first e g) q ≡ cond (nat_eq q e.0) (e.1 ∷ values_at g q) (values_at g q)
values_first q e [] a o = at_first q (e.0, e.1 ∷ []) []
values_first q e (h ∷ hs) a o = go (nat_eq e.0 h.0) refl where
  go : (b : Bool) → nat_eq e.0 h.0 ≡ b → values_at (cond b ((h.0, e.1 ∷ h.1) ∷ hs) ((e.0, e.1 ∷ []) ∷ h ∷ hs)) q ≡
      cond (nat_eq q e.0) (e.1 ∷ values_at (h ∷ hs) q) (values_at (h ∷ hs) q)
  go true f =
      let one : e.0 ≡ h.0 = eqb-true e.0 h.0 f in
      at_first q (h.0, e.1 ∷ h.1) hs ∙ (step (nat_eq q h.0)
      ∙ (ap (λ l. cond (nat_eq q h.0) (e.1 ∷ l) l) (sym (at_first q h hs))
      ∙ ap (λ m. cond (nat_eq q m) (e.1 ∷ values_at (h ∷ hs) q) (values_at (h ∷ hs) q)) (sym one))) where
        step : (b : Bool) → cond b (e.1 ∷ h.1) (values_at hs q) ≡ cond b (e.1 ∷ cond b h.1 (values_at hs q)) (cond b h.1 (values_at hs q))
        step true = refl
        step false = refl
  go false f = at_first q (e.0, e.1 ∷ []) (h ∷ hs) ∙ step (nat_eq q e.0) refl where
    step : (b : Bool) → nat_eq q e.0 ≡ b → cond b (e.1 ∷ []) (values_at (h ∷ hs) q) ≡ cond b (e.1 ∷ values_at (h ∷ hs) q) (values_at (h ∷ hs) q)
    step true g =
        let one : q ≡ e.0 = eqb-true q e.0 g in
        let less : q < h.0 = subst (λ m. m < h.0) (sym one) (beyond e.0 h.0 a.0 f) in
        sym (ap (λ (l : Values). e.1 ∷ l) (none_above q (h ∷ hs) (above_tail q h hs less o.0.1)))
    step false g = refl

-- the entries of a transaction
abbrev mine : ℕ → List (Entry ℤ) → Values
mine q es = all_of q es

pub values_grouped : (q : ℕ) (es : List (Entry ℤ)) → AreRising es → values_at (grouped es) q ≡ mine q es
values_grouped q [] r = refl
values_grouped q (e ∷ es) r =
    values_first q e (grouped es) (keys_grouped e.0 es r.0) (ordered_grouped es r.1)
    ∙ ap (λ l. cond (nat_eq q e.0) (e.1 ∷ l) l) (values_grouped q es r.1)

mine_from : (n m : ℕ) (es : List (Entry ℤ)) → n < m → AreFrom m es → mine n es ≡ []
mine_from n m [] less a = refl
mine_from n m (e ∷ es) less a =
    let low : m ≤ e.0 = a.0 in
    ap (λ b. cond b (e.1 ∷ mine n es) (mine n es)) (other n e.0 (omega (arith, less, low))) ∙ mine_from n m es less a.1

and_first : (a b : Bool) → (a && b) ≡ true → a ≡ true
and_first true b e = refl
and_first false b e = absurd cc

and_second : (a b : Bool) → (a && b) ≡ true → b ≡ true
and_second true b e = e
and_second false b e = absurd cc

not_first : (a b : Bool) → (a && b) ≡ false → b ≡ true → a ≡ false
not_first true b e f = absurd (let clash : true ≡ false = sym f ∙ e in cc)
not_first false b e f = refl

-- an entry that stays, with one that is set after it
mine_stays : (q n : ℕ) (k : Key) (v : ℤ) (e : Entry ℤ) (es : List (Entry ℤ)) → is_own n k e ≡ false →
    mine q (with_own es n k v) ≡ cond (nat_eq q n) (with_value (mine n es) k v) (mine q es) →
    mine q (e ∷ with_own es n k v) ≡ cond (nat_eq q n) (with_value (mine n (e ∷ es)) k v) (mine q (e ∷ es))
mine_stays q n k v e es apart rest = ap (λ (l : Values). cond (nat_eq q e.0) (e.1 ∷ l) l) rest ∙ step (nat_eq q n) refl where
  inner : (u : Bool) → nat_eq n e.0 ≡ u → cond u (e.1 ∷ with_value (mine n es) k v) (with_value (mine n es) k v) ≡
      with_value (cond u (e.1 ∷ mine n es) (mine n es)) k v
  inner true h =
      sym (ap (λ b. cond b ((e.1.0, v) ∷ mine n es) (e.1 ∷ with_value (mine n es) k v)) (not_first (key_eq k e.1.0) (nat_eq n e.0) apart h))
  inner false h = refl

  step : (c : Bool) → nat_eq q n ≡ c →
      cond (nat_eq q e.0) (e.1 ∷ cond c (with_value (mine n es) k v) (mine q es)) (cond c (with_value (mine n es) k v) (mine q es)) ≡
      cond c (with_value (mine n (e ∷ es)) k v) (mine q (e ∷ es))
  step false i = refl
  step true i =
      ap (λ m. cond (nat_eq m e.0) (e.1 ∷ with_value (mine n es) k v) (with_value (mine n es) k v)) (eqb-true q n i) ∙ inner (nat_eq n e.0) refl

-- one whose value is set
mine_replaced : (q n : ℕ) (k : Key) (v : ℤ) (e : Entry ℤ) (es : List (Entry ℤ)) → is_own n k e ≡ true →
    mine q ((e.0, (e.1.0, v)) ∷ es) ≡ cond (nat_eq q n) (with_value (mine n (e ∷ es)) k v) (mine q (e ∷ es))
mine_replaced q n k v e es own =
    step (nat_eq q e.0) refl ∙ ap (λ m. cond (nat_eq q m) (with_value (mine n (e ∷ es)) k v) (mine q (e ∷ es))) (sym same) where
      here : nat_eq n e.0 ≡ true
      here = and_second (key_eq k e.1.0) (nat_eq n e.0) own

      same : n ≡ e.0
      same = eqb-true n e.0 here

      values : with_value (mine n (e ∷ es)) k v ≡ (e.1.0, v) ∷ mine n es
      values =
          ap (λ b. with_value (cond b (e.1 ∷ mine n es) (mine n es)) k v) here
          ∙ ap (λ b. cond b ((e.1.0, v) ∷ mine n es) (e.1 ∷ with_value (mine n es) k v)) (and_first (key_eq k e.1.0) (nat_eq n e.0) own)

      step : (b : Bool) → nat_eq q e.0 ≡ b →
          cond b ((e.1.0, v) ∷ mine q es) (mine q es) ≡ cond b (with_value (mine n (e ∷ es)) k v) (cond b (e.1 ∷ mine q es) (mine q es))
      step true i =
          let one : q ≡ n = eqb-true q e.0 i ∙ sym same in
          ap (λ (m : ℕ). (e.1.0, v) ∷ mine m es) one ∙ sym values
      step false i = refl

-- one that is set in front of those of greater numbers
mine_further : (q n : ℕ) (k : Key) (v : ℤ) (e : Entry ℤ) (es : List (Entry ℤ)) → AreRising (e ∷ es) → n < e.0 →
    mine q ((n, (k, v)) ∷ e ∷ es) ≡ cond (nat_eq q n) (with_value (mine n (e ∷ es)) k v) (mine q (e ∷ es))
mine_further q n k v e es r less = step (nat_eq q n) refl where
  none : mine n (e ∷ es) ≡ []
  none = mine_from n e.0 (e ∷ es) less (omega arith, r.0)

  step : (b : Bool) → nat_eq q n ≡ b → cond b ((k, v) ∷ mine q (e ∷ es)) (mine q (e ∷ es)) ≡ cond b (with_value (mine n (e ∷ es)) k v) (mine q (e ∷ es))
  step true i =
      let one : q ≡ n = eqb-true q n i in
      ap (λ (l : Values). (k, v) ∷ l) (ap (λ m. mine m (e ∷ es)) one ∙ none) ∙ sym (ap (λ l. with_value l k v) none)
  step false i = refl

mine_set : (q n : ℕ) (k : Key) (v : ℤ) (es : List (Entry ℤ)) → AreRising es →
    mine q (with_own es n k v) ≡ cond (nat_eq q n) (with_value (mine n es) k v) (mine q es)
mine_set q n k v [] r = refl
mine_set q n k v (e ∷ es) r = go (nat_lt n e.0) refl (is_own n k e) refl (mine_set q n k v es r.1) where
  go : (s : Bool) → nat_lt n e.0 ≡ s → (t : Bool) → is_own n k e ≡ t →
      mine q (with_own es n k v) ≡ cond (nat_eq q n) (with_value (mine n es) k v) (mine q es) →
      mine q (cond s ((n, (k, v)) ∷ e ∷ es) (cond t ((e.0, (e.1.0, v)) ∷ es) (e ∷ with_own es n k v)))
      ≡ cond (nat_eq q n) (with_value (mine n (e ∷ es)) k v) (mine q (e ∷ es))
  go true f t g rest = mine_further q n k v e es r (is_below n e.0 f)
  go false f true g rest = mine_replaced q n k v e es g
  go false f false g rest = mine_stays q n k v e es g rest

mine_without : (q n : ℕ) (es : List (Entry ℤ)) → mine q (without_own es n) ≡ cond (nat_eq q n) [] (mine q es)
mine_without q n [] = step (nat_eq q n) where
  step : (b : Bool) → ◌≡◌ {A = Values} [] (cond b [] [])
  step true = refl
  step false = refl
mine_without q n (e ∷ es) = go (nat_eq n e.0) refl (mine_without q n es) where
  go : (s : Bool) → nat_eq n e.0 ≡ s → mine q (without_own es n) ≡ cond (nat_eq q n) [] (mine q es) →
      mine q (cond (not s) (e ∷ without_own es n) (without_own es n)) ≡ cond (nat_eq q n) [] (mine q (e ∷ es))
  go true f rest = rest ∙ step (nat_eq q n) refl where
    step : (b : Bool) → nat_eq q n ≡ b → cond b [] (mine q es) ≡ cond b [] (mine q (e ∷ es))
    step true g = refl
    step false g = sym (ap (λ b. cond b (e.1 ∷ mine q es) (mine q es)) (ap (λ m. nat_eq q m) (sym (eqb-true n e.0 f)) ∙ g))
  go false f rest = ap (λ (l : Values). cond (nat_eq q e.0) (e.1 ∷ l) l) rest ∙ step (nat_eq q n) refl where
    step : (b : Bool) → nat_eq q n ≡ b → cond (nat_eq q e.0) (e.1 ∷ cond b [] (mine q es)) (cond b [] (mine q es)) ≡ cond b [] (mine q (e ∷ es))
    step true g = ap (λ c. cond c (e.1 ∷ []) []) (ap (λ m. nat_eq m e.0) (eqb-true q n g) ∙ f)
    step false g = refl

value_mine : (n : ℕ) (k : Key) (es : List (Entry ℤ)) → value_of (mine n es) k ≡ own_of es n k
value_mine n k [] = refl
value_mine n k (e ∷ es) = go (nat_eq n e.0) (value_mine n k es) where
  go : (a : Bool) → value_of (mine n es) k ≡ own_of es n k → value_of (cond a (e.1 ∷ mine n es) (mine n es)) k ≡ cond (key_eq k e.1.0 && a) (Some e.1.1) (own_of es n k)
  go true rest = each (key_eq k e.1.0) where
    each : (c : Bool) → cond c (Some e.1.1) (value_of (mine n es) k) ≡ cond (c && true) (Some e.1.1) (own_of es n k)
    each true = refl
    each false = rest
  go false rest = rest ∙ each (key_eq k e.1.0) where
    each : (c : Bool) → own_of es n k ≡ cond (c && false) (Some e.1.1) (own_of es n k)
    each true = refl
    each false = refl

-- ---- what the calls of `Parameters` say

pub parameter_is : (es : List (Entry ℤ)) (n : ℕ) (k : Key) → AreRising es → own_of es n k ≡ parameter_at (grouped es) n k
parameter_is es n k r = sym (ap (λ l. value_of l k) (values_grouped n es r) ∙ value_mine n k es)

pub assigned_is : (es : List (Entry ℤ)) (n : ℕ) (k : Key) (v : ℤ) → AreRising es → grouped (with_own es n k v) ≡ assigned (grouped es) n k v
assigned_is es n k v r =
    let vs = with_value (values_at (grouped es) n) k v in
    same_held (grouped (with_own es n k v)) (assigned (grouped es) n k v) (ordered_grouped (with_own es n k v) (rising_with n k v es r))
    (ordered_set n vs (grouped es) (has_some (values_at (grouped es) n) k v) (ordered_grouped es r))
    (λ q.
    values_grouped q (with_own es n k v) (rising_with n k v es r)
    ∙ (mine_set q n k v es r
    ∙ (ap (λ l. cond (nat_eq q n) (with_value l k v) (mine q es)) (sym (values_grouped n es r))
    ∙ (ap (λ l. cond (nat_eq q n) (with_value (values_at (grouped es) n) k v) l) (sym (values_grouped q es r)) ∙ sym (values_set q n vs (grouped es))))))

pub forgotten_is : (es : List (Entry ℤ)) (n : ℕ) → AreRising es → grouped (without_own es n) ≡ without (grouped es) n
forgotten_is es n r =
    same_held (grouped (without_own es n)) (without (grouped es) n) (ordered_grouped (without_own es n) (rising_without n es r))
    (ordered_without n (grouped es) (ordered_grouped es r))
    (λ q.
    values_grouped q (without_own es n) (rising_without n es r)
    ∙ (mine_without q n es ∙ (ap (λ l. cond (nat_eq q n) [] l) (sym (values_grouped q es r)) ∙ sym (values_without q n (grouped es)))))
