-- What a look-up finds in the pairs that a table keeps.
use Rattle.std.proofs.Common.{◌≡◌, ℕ, zero, suc, ◌<◌, ◌≤◌, Bool, true, false, cond, ◌||◌, eqb, List}
use Rattle.std.proofs.Common.{[], ◌∷◌, length, get_or, Option, Some, None, refl, sym, ap, ◌∙◌, arith, eq-eqb, ⊎_elim}
use Rattle.std.specs.Prelude.{is_some, slice_get}
use Rattle.std.specs.List.{IsDistinct, list_any}
use Rattle.std.specs.Map.{keys_of}
use Rattle.std.proofs.lemmas.Bool.{eqb-true, cases_lt}
use Rattle.std.proofs.lemmas.List.{get_or_read}
use Rattle.std.proofs.lemmas.Option.{slice_get_past}
use Rattle.std.proofs.Math.ListN.{get_or-eq_default}
use Rattle.std.proofs.lemmas.List.Folds.{list_any_at}
use Rattle.gw_table.specs.Pairs.{value_in}
use Rattle.gw_table.specs.Values.{value_at, with_pair, pairs_of, IsListed}

module _ {V : Type 0} where
  -- each of these numbers has a value
  abbrev pub HaveValues : List (Option V) → List ℕ → Type 0
  HaveValues values ns = (n : ℕ) → list_any (eqb n) ns ≡ true → is_some (value_at values n) ≡ true

  pub have_values : (ns : List ℕ) (values : List (Option V)) → IsListed ns values → HaveValues values ns
  have_values ns values h n is = sym (h.listed n) ∙ is

  value_there : (o : Option V) → is_some o ≡ true → (v : V) × (o ≡ Some v)
  value_there (Some v) e = (v, refl)
  value_there None e = absurd cc

  pub first_value : (values : List (Option V)) (n : ℕ) (ns : List ℕ) → HaveValues values (n ∷ ns) → (v : V) × (value_at values n ≡ Some v)
  first_value values n ns h = value_there (value_at values n) (h n (ap (λ b. b || list_any (eqb n) ns) (eq-eqb n n refl)))

  pub other_values : (values : List (Option V)) (n : ℕ) (ns : List ℕ) → HaveValues values (n ∷ ns) → HaveValues values ns
  other_values values n ns h m is = h m (go (eqb m n)) where
    go : (b : Bool) → (b || list_any (eqb m) ns) ≡ true
    go true = refl
    go false = is

  -- what a look-up finds
  value_in-pairs_of :
      (values : List (Option V)) (ns : List ℕ) → HaveValues values ns → (number : ℕ) →
      value_in (pairs_of values ns) number ≡ cond (list_any (eqb number) ns) (value_at values number) None
  value_in-pairs_of values [] h number = refl
  value_in-pairs_of values (n ∷ ns) h number =
      let first = first_value values n ns h in
      ap (λ o. value_in (with_pair n o (pairs_of values ns)) number) first.1
      ∙ go (eqb number n) refl first.0 first.1 (value_in-pairs_of values ns (other_values values n ns h) number) where
        go :
            (b : Bool) → eqb number n ≡ b → (v : V) → value_at values n ≡ Some v →
            value_in (pairs_of values ns) number ≡ cond (list_any (eqb number) ns) (value_at values number) None →
            cond b (Some v) (value_in (pairs_of values ns) number) ≡ cond (b || list_any (eqb number) ns) (value_at values number) None
        go true e v is rest = sym (ap (value_at values) (eqb-true number n e) ∙ is)
        go false e v is rest = rest

  pub value_in_is :
      (ns : List ℕ) (values : List (Option V)) → IsListed ns values → (number : ℕ) →
      value_in (pairs_of values ns) number ≡ value_at values number
  value_in_is ns values h number =
      value_in-pairs_of values ns (have_values ns values h) number
      ∙ (ap (λ b. cond b (value_at values number) None) (h.listed number) ∙ go (value_at values number)) where
        go : (o : Option V) → cond (is_some o) o None ≡ o
        go (Some v) = refl
        go None = refl

  pub length-pairs_of : (ns : List ℕ) (values : List (Option V)) → HaveValues values ns → length (pairs_of values ns) ≡ length ns
  length-pairs_of [] values h = refl
  length-pairs_of (n ∷ ns) values h =
      let first = first_value values n ns h in
      ap (λ o. length (with_pair n o (pairs_of values ns))) first.1
      ∙ ap suc (length-pairs_of ns values (other_values values n ns h))

  -- their numbers
  keys-pairs_of : (ns : List ℕ) (values : List (Option V)) → HaveValues values ns → keys_of (pairs_of values ns) ≡ ns
  keys-pairs_of [] values h = refl
  keys-pairs_of (n ∷ ns) values h =
      let first = first_value values n ns h in
      ap (λ o. keys_of (with_pair n o (pairs_of values ns))) first.1
      ∙ ap (λ (ms : List ℕ). n ∷ ms) (keys-pairs_of ns values (other_values values n ns h))

  pub keys_are : (ns : List ℕ) (values : List (Option V)) → IsListed ns values → keys_of (pairs_of values ns) ≡ ns
  keys_are ns values h = keys-pairs_of ns values (have_values ns values h)

  -- there are as many pairs as numbers
  pub length_is : (ns : List ℕ) (values : List (Option V)) → IsListed ns values → length (pairs_of values ns) ≡ length ns
  length_is ns values h = length-pairs_of ns values (have_values ns values h)

  -- the pair at a place
  pub pair_at :
      (ns : List ℕ) (values : List (Option V)) (k n : ℕ) (v : V) → HaveValues values ns → k < length ns → n ≡ get_or ns k n →
      value_at values n ≡ Some v → slice_get (pairs_of values ns) k ≡ Some (n, v)
  pair_at [] values k n v h l at is = absurd (omega arith)
  pair_at (m ∷ ns) values zero n v h l at is =
      ap (λ o. slice_get (with_pair m o (pairs_of values ns)) 0) (ap (value_at values) (sym at) ∙ is)
      ∙ ap (λ (i : ℕ). Some (i, v)) (sym at)
  pair_at (m ∷ ns) values (suc k) n v h l at is =
      ap (λ o. slice_get (with_pair m o (pairs_of values ns)) (suc k)) (first_value values m ns h).1
      ∙ pair_at ns values k n v (other_values values m ns h) (omega (arith, l)) at is

  -- the number at a place has a value
  pub listed_at :
      (ns : List ℕ) (values : List (Option V)) → IsListed ns values → (k n : ℕ) → k < length ns → n ≡ get_or ns k n →
      (v : V) × (value_at values n ≡ Some v)
  listed_at ns values h k n l at =
      value_there (value_at values n) (have_values ns values h n (list_any_at (eqb n) ns k n l (eq-eqb n (get_or ns k n) at)))

  pub pair_is :
      (ns : List ℕ) (values : List (Option V)) → IsListed ns values → (k n : ℕ) (v : V) → k < length ns → n ≡ get_or ns k n →
      value_in (pairs_of values ns) n ≡ Some v → slice_get (pairs_of values ns) k ≡ Some (n, v)
  pair_is ns values h k n v l at is =
      pair_at ns values k n v (have_values ns values h) l at (sym (value_in_is ns values h n) ∙ is)

  pub no_pair : (ns : List ℕ) (values : List (Option V)) → IsListed ns values → (k : ℕ) → length ns ≤ k → slice_get (pairs_of values ns) k ≡ None
  no_pair ns values h k past = slice_get_past (pairs_of values ns) k (omega (arith, past, length_is ns values h))

  -- pairs go by the values of their numbers alone
  pub pairs_of-alike :
      (values others : List (Option V)) (ns : List ℕ) →
      ((n : ℕ) → list_any (eqb n) ns ≡ true → value_at values n ≡ value_at others n) → pairs_of values ns ≡ pairs_of others ns
  pairs_of-alike values others [] h = refl
  pairs_of-alike values others (n ∷ ns) h =
      ap (λ o. with_pair n o (pairs_of values ns)) (h n (ap (λ b. b || list_any (eqb n) ns) (eq-eqb n n refl)))
      ∙ ap (with_pair n (value_at others n)) (pairs_of-alike values others ns (λ m is. h m (go m is (eqb m n)))) where
        go : (m : ℕ) → list_any (eqb m) ns ≡ true → (b : Bool) → (b || list_any (eqb m) ns) ≡ true
        go m is true = refl
        go m is false = is

  pub below_from_value : (values : List (Option V)) (n : ℕ) → is_some (value_at values n) ≡ true → n < length values
  below_from_value values n is = ⊎_elim
      (λ l. l)
      (λ past. let none = get_or-eq_default values None past in absurd cc)
      (cases_lt n (length values))

  pub low_from_value : (values : List (Option V)) (number : ℕ) (old : V) → value_at values number ≡ Some old → number < length values
  low_from_value values number old is = below_from_value values number (ap is_some is)

  -- what was read at a place
  pub none_at :
      (values : List (Option V)) (number : ℕ) (o : Option V) → number < length values → o ≡ get_or values number o →
      is_some o ≡ false → value_at values number ≡ None
  none_at values number o low at is = sym (get_or_read values number o low at None) ∙ go o is where
    go : (o : Option V) → is_some o ≡ false → o ≡ None
    go (Some v) e = absurd cc
    go None e = refl

  pub some_at :
      (values : List (Option V)) (number : ℕ) (o : Option V) → number < length values → o ≡ get_or values number o →
      is_some o ≡ true → (v : V) × (value_at values number ≡ Some v)
  some_at values number o low at is =
      let there = value_there o is in
      (there.0, sym (get_or_read values number o low at None) ∙ there.1)

  pub nothing_listed : IsListed {V = V} [] []
  unfolding IsDistinct
  nothing_listed = record { listed = λ n. refl; once = tt; short = omega arith }
