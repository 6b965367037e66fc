-- What a transaction has of its own, item by item, and what is made of it for others.
use Rattle.std.proofs.Common.{◌≡◌, ℕ, ℤ, zero, suc, ◌+◌, ◌*◌, ◌<◌, ◌≤◌, Bool, true, false, cond, nat_eq, arith}
use Rattle.std.proofs.Common.{List, [], ◌∷◌, ◌++◌, take, drop, Some, refl, sym, ap, ◌∙◌, subst}
use Rattle.std.specs.Prelude.{slice_get}
use Rattle.std.proofs.lemmas.Bool.Decides.{nat_tests}
use Rattle.std.proofs.lemmas.List.{map-append, take-append-drop}
use Rattle.gw_names.specs.declared.key.Key.{Key}
use Rattle.gw_entities.specs.declared.own_list.Item.{Item}
use Rattle.gw_entities.specs.Owned.{Entry, all_of, said_by, entry_of, with_own, AreBelow, AreFrom, AreKnown, AreRising}
use Rattle.gw_meaning.specs.Parameters.{Held, assigned, inherited}
use Rattle.gw_entities.specs.Keeping.{grouped}
use Rattle.gw_entities.proofs.Lookups.{Some_same}
use Rattle.gw_entities.proofs.ParameterLaws.{assigned_is}

above_other : (n m : ℕ) → n < m → nat_eq n m ≡ false
above_other n m less = grind (arith, nat_tests)

below_other : (n m : ℕ) → m < n → nat_eq n m ≡ false
below_other n m less = grind (arith, nat_tests)

itself : (n : ℕ) → nat_eq n n ≡ true
itself n = grind (arith, nat_tests)

-- one more is taken
pub take_more : {A : Type 0} (xs : List A) (i : ℕ) (x : A) → slice_get xs i ≡ Some x → take (suc i) xs ≡ take i xs ++ x ∷ []
take_more [] i x at = absurd cc
take_more {A = A} (y ∷ ys) zero x at = ap (λ (p : A). p ∷ take zero ys) (Some_same at) ∙ none ys where
  none : (zs : List A) → x ∷ take zero zs ≡ take zero (y ∷ ys) ++ x ∷ []
  none [] = refl
  none (z ∷ zs) = refl
take_more {A = A} (y ∷ ys) (suc i) x at = ap (λ (l : List A). y ∷ l) (take_more ys i x at)

module _ {V : Type 0} where
  all_append : (n : ℕ) (xs ys : List (Entry V)) → all_of n (xs ++ ys) ≡ all_of n xs ++ all_of n ys
  all_append n [] ys = refl
  all_append n (x ∷ xs) ys = go (nat_eq n x.0) (all_append n xs ys) where
    go : (b : Bool) → all_of n (xs ++ ys) ≡ all_of n xs ++ all_of n ys →
        cond b (x.1 ∷ all_of n (xs ++ ys)) (all_of n (xs ++ ys)) ≡ cond b (x.1 ∷ all_of n xs) (all_of n xs) ++ all_of n ys
    go true rest = ap (λ (l : List (Key × V)). x.1 ∷ l) rest
    go false rest = rest

  pub all_below : (n : ℕ) (es : List (Entry V)) → AreBelow n es → all_of n es ≡ []
  all_below n [] h = refl
  all_below n (e ∷ es) h = ap (λ b. cond b (e.1 ∷ all_of n es) (all_of n es)) (below_other n e.0 h.0) ∙ all_below n es h.1

  all_above : (n : ℕ) (es : List (Entry V)) → AreFrom (suc n) es → all_of n es ≡ []
  all_above n [] h = refl
  all_above n (e ∷ es) h = ap (λ b. cond b (e.1 ∷ all_of n es) (all_of n es)) (above_other n e.0 h.0) ∙ all_above n es h.1

  -- those in front of an index are all where all after it are of greater numbers
  pub all_there : (n : ℕ) (es : List (Entry V)) (i : ℕ) → AreFrom (suc n) (drop i es) → all_of n (take i es) ≡ all_of n es
  all_there n es i above =
      let parts : all_of n (take i es ++ drop i es) ≡ all_of n (take i es) ++ all_of n (drop i es) = all_append n (take i es) (drop i es) in
      let whole : all_of n (take i es ++ drop i es) ≡ all_of n es = ap (all_of n) (take-append-drop i es) in
      let none = all_above n (drop i es) above in
      sym (sym whole ∙ (parts ∙ (ap (λ (l : List (Key × V)). all_of n (take i es) ++ l) none ∙ nil (all_of n (take i es))))) where
        nil : (l : List (Key × V)) → l ++ [] ≡ l
        nil [] = refl
        nil (x ∷ xs) = ap (λ (l : List (Key × V)). x ∷ l) (nil xs)

  -- one more
  pub all_more : (n : ℕ) (es : List (Entry V)) (i j : ℕ) (e : Entry V) (said : List (Key × V)) → j ≡ suc i → slice_get es i ≡ Some e → e.0 ≡ n →
      said ≡ all_of n (take i es) → said ++ e.1 ∷ [] ≡ all_of n (take j es)
  all_more n es i j e said next at own is =
      ap (λ (l : List (Key × V)). l ++ e.1 ∷ []) is
      ∙ (ap (λ b. all_of n (take i es) ++ cond b (e.1 ∷ []) []) (sym (ap (nat_eq n) own ∙ itself n))
      ∙ (sym (all_append n (take i es) (e ∷ []))
      ∙ (ap (all_of n) (sym (take_more es i e at)) ∙ ap (λ m. all_of n (take m es)) (sym next))))

  pub said_more : (ks : List Key) (items : List (Item V)) (item : Item V) → said_by ks (items ++ item ∷ []) ≡ said_by ks items ++ (entry_of ks item).1 ∷ []
  said_more ks items item = map-append (λ (i : Item V). (entry_of ks i).1) items (item ∷ [])

  pub known_more : (count : ℕ) (items : List (Item V)) (item : Item V) → AreKnown count items → item.key < count → AreKnown count (items ++ item ∷ [])
  known_more count [] item known own = (own, tt)
  known_more count (x ∷ xs) item known own = (known.0, known_more count xs item known.1 own)

  pub known_at : (count : ℕ) (items : List (Item V)) (i : ℕ) (item : Item V) → AreKnown count items → slice_get items i ≡ Some item → item.key < count
  known_at count [] i item known at = absurd cc
  known_at count (x ∷ xs) zero item known at = subst (λ (y : Item V). y.key < count) (Some_same at) known.0
  known_at count (x ∷ xs) (suc i) item known at = known_at count xs i item known.1 at

-- one more value is assigned
inherited_more : (vs : List (Key × ℤ)) (v : Key × ℤ) (n : ℕ) (held : Held) → inherited (vs ++ v ∷ []) n held ≡ assigned (inherited vs n held) n v.0 v.1
inherited_more [] v n held = refl
inherited_more (w ∷ ws) v n held = inherited_more ws v n (assigned held n w.0 w.1)

pub given_more : (ks : List Key) (values : List (Item ℤ)) (i j : ℕ) (item : Item ℤ) (n : ℕ) (es : List (Entry ℤ)) (held : Held) (key : Key) (v : ℤ) → j ≡ suc i →
    slice_get values i ≡ Some item → (entry_of ks item).1 ≡ (key, v) → AreRising es → grouped es ≡ inherited (said_by ks (take i values)) n held →
    grouped (with_own es n key v) ≡ inherited (said_by ks (take j values)) n held
given_more ks values i j item n es held key v next at says rising is =
    assigned_is es n key v rising
    ∙ (ap (λ h. assigned h n key v) is
    ∙ (sym (inherited_more (said_by ks (take i values)) (key, v) n held)
    ∙ (ap (λ (p : Key × ℤ). inherited (said_by ks (take i values) ++ p ∷ []) n held) (sym says)
    ∙ (ap (λ l. inherited l n held) (sym (said_more ks (take i values) item))
    ∙ (ap (λ l. inherited (said_by ks l) n held) (sym (take_more values i item at))
    ∙ ap (λ m. inherited (said_by ks (take m values)) n held) (sym next))))))

-- room for so many times so many
pub room_for_one : (many more k : ℕ) (room : ℕ) → more ≡ suc k → many * more ≤ room → many ≤ room
room_for_one many more k room is h = let whole : many * more ≡ many + many * k = rw is (omega arith) in omega (arith, whole, h)

pub room_for_rest : (many more k room behind : ℕ) → more ≡ suc k → many * more ≤ room → room ≤ behind + many → many * k ≤ behind
room_for_rest many more k room behind is h less = let whole : many * more ≡ many + many * k = rw is (omega arith) in omega (arith, whole, h, less)
