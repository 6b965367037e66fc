-- What a value set changes of the pairs that a table keeps.
use Rattle.std.proofs.Common.{◌≡◌, ℕ, ◌<◌, Bool, true, false, cond, ◌||◌, eqb, List, [], ◌∷◌, ◌++◌, length, set, Option, Some, None, refl, sym, ap, ◌∙◌, arith}
use Rattle.std.specs.Prelude.{is_some}
use Rattle.std.specs.List.{IsDistinct, AllByRecursion, list_any}
use Rattle.std.proofs.Math.Bool.{or-true, or-false}
use Rattle.std.proofs.lemmas.Bool.{eqb-true, eqb-false, ne_eqb}
use Rattle.std.proofs.lemmas.List.{get_or-set_same, get_or-set_other, length-set}
use Rattle.std.proofs.lemmas.List.Folds.{list_any-append}
use Rattle.std.proofs.lemmas.Cmp.{nat_eq_equiv}
use Rattle.std.proofs.lemmas.Map.Keys.{IsDistinct-head, IsDistinct-tail, IsDistinct-push}
use Rattle.gw_table.specs.Pairs.{value_in, with_value}
use Rattle.gw_table.specs.Values.{value_at, with_pair, pairs_of, IsListed}
use Rattle.gw_table.proofs.LookupLaws.{HaveValues, have_values, first_value, other_values, value_in_is, pairs_of-alike, below_from_value, low_from_value}

-- a number that none of these is
absent : (n : ℕ) (ns : List ℕ) → AllByRecursion (λ y. eqb n y ≡ false) ns → list_any (eqb n) ns ≡ false
absent n [] h = refl
absent n (m ∷ ns) h = ap (λ b. b || list_any (eqb n) ns) h.0 ∙ absent n ns h.1

module _ {V : Type 0} where
  value_elsewhere : (values : List (Option V)) (number : ℕ) (o : Option V) (n : ℕ) → eqb n number ≡ false → value_at (set values number o) n ≡ value_at values n
  value_elsewhere values number o n e = get_or-set_other values number n o None (eqb-false n number e)

  -- a value set at a number that is not among these changes none of their pairs
  pairs_of-set_other :
      (values : List (Option V)) (ns : List ℕ) (number : ℕ) (o : Option V) → list_any (eqb number) ns ≡ false →
      pairs_of (set values number o) ns ≡ pairs_of values ns
  pairs_of-set_other values ns number o new = pairs_of-alike (set values number o) values ns (λ n is. go n is (eqb n number) refl) where
    go : (n : ℕ) → list_any (eqb n) ns ≡ true → (b : Bool) → eqb n number ≡ b → value_at (set values number o) n ≡ value_at values n
    go n is true e = let same = ap (λ m. list_any (eqb m) ns) (eqb-true n number e) in absurd cc
    go n is false e = value_elsewhere values number o n e

  with_value-set :
      (values : List (Option V)) (number : ℕ) (value : V) (ns : List ℕ) → number < length values → IsDistinct eqb ns →
      HaveValues values ns → list_any (eqb number) ns ≡ true →
      with_value (pairs_of values ns) number value ≡ pairs_of (set values number (Some value)) ns
  with_value-set values number value [] low once h is = absurd cc
  with_value-set values number value (n ∷ ns) low once h is =
      let first = first_value values n ns h in
      ap (λ o. with_value (with_pair n o (pairs_of values ns)) number value) first.1
      ∙ go (eqb number n) refl is first.0 first.1
      (with_value-set values number value ns low (IsDistinct-tail eqb n ns once) (other_values values n ns h)) where
        go :
            (b : Bool) → eqb number n ≡ b → (b || list_any (eqb number) ns) ≡ true → (v : V) → value_at values n ≡ Some v →
            (list_any (eqb number) ns ≡ true → with_value (pairs_of values ns) number value ≡ pairs_of (set values number (Some value)) ns) →
            cond b ((n, value) ∷ pairs_of values ns) ((n, v) ∷ with_value (pairs_of values ns) number value)
            ≡ with_pair n (value_at (set values number (Some value)) n) (pairs_of (set values number (Some value)) ns)
        go true e is v at rest =
            let same = eqb-true number n e in
            let new : list_any (eqb number) ns ≡ false =
            ap (λ m. list_any (eqb m) ns) same ∙ absent n ns (IsDistinct-head eqb n ns once) in
            let set_here : value_at (set values number (Some value)) n ≡ Some value =
            ap (value_at (set values number (Some value))) (sym same) ∙ get_or-set_same values number (Some value) None low in
            ap (λ (ps : List (ℕ × V)). (n, value) ∷ ps) (sym (pairs_of-set_other values ns number (Some value) new))
            ∙ ap (λ o. with_pair n o (pairs_of (set values number (Some value)) ns)) (sym set_here)
        go false e is v at rest =
            let other : eqb n number ≡ false = ne_eqb n number (λ s. eqb-false number n e (sym s)) in
            ap (λ (ps : List (ℕ × V)). (n, v) ∷ ps) (rest is)
            ∙ ap (λ o. with_pair n o (pairs_of (set values number (Some value)) ns))
            (sym (value_elsewhere values number (Some value) n other ∙ at))

  not_listed : (ns : List ℕ) (values : List (Option V)) → IsListed ns values → (number : ℕ) → value_at values number ≡ None → list_any (eqb number) ns ≡ false
  not_listed ns values h number none = h.listed number ∙ ap is_some none

  -- a value set in place
  pub set_in_place :
      (ns : List ℕ) (values : List (Option V)) → IsListed ns values → (number : ℕ) (old value : V) → value_at values number ≡ Some old →
      with_value (pairs_of values ns) number value ≡ pairs_of (set values number (Some value)) ns
  set_in_place ns values h number old value is =
      with_value-set values number value ns (below_from_value values number (ap is_some is)) h.once (have_values ns values h) (h.listed number ∙ ap is_some is)

  pub listed_in_place :
      (ns : List ℕ) (values : List (Option V)) → IsListed ns values → (number : ℕ) (old value : V) → value_at values number ≡ Some old →
      IsListed ns (set values number (Some value))
  listed_in_place ns values h number old value is = record {
    listed = λ n. h.listed n ∙ go n (eqb n number) refl;
    once = h.once;
    short = let s = h.short in omega (arith, s, length-set values number (Some value));
  } where
    go : (n : ℕ) (b : Bool) → eqb n number ≡ b → is_some (value_at values n) ≡ is_some (value_at (set values number (Some value)) n)
    go n true e =
        let same = eqb-true n number e in
        ap (λ m. is_some (value_at values m)) same
        ∙ (ap is_some is
        ∙ sym (ap (λ m. is_some (value_at (set values number (Some value)) m)) same
        ∙ ap is_some (get_or-set_same values number (Some value) None (low_from_value values number old is))))
    go n false e = ap is_some (sym (value_elsewhere values number (Some value) n e))

  -- a value set at a number that has none
  pub listed_new :
      (ns : List ℕ) (values : List (Option V)) → IsListed ns values → (number : ℕ) (value : V) → value_at values number ≡ None →
      number < length values → IsListed (ns ++ number ∷ []) (set values number (Some value))
  listed_new ns values h number value none low = record {
    listed = λ n. list_any-append (eqb n) ns (number ∷ []) ∙ go n (eqb n number) refl;
    once = IsDistinct-push nat_eq_equiv ns number h.once (not_listed ns values h number none);
    short = let s = h.short in omega (arith, s, length-set values number (Some value));
  } where
    go : (n : ℕ) (b : Bool) → eqb n number ≡ b → (list_any (eqb n) ns || (b || false)) ≡ is_some (value_at (set values number (Some value)) n)
    go n true e =
        let same = eqb-true n number e in
        or-true (list_any (eqb n) ns)
        ∙ sym (ap (λ m. is_some (value_at (set values number (Some value)) m)) same
        ∙ ap is_some (get_or-set_same values number (Some value) None low))
    go n false e =
        or-false (list_any (eqb n) ns)
        ∙ (h.listed n ∙ ap is_some (sym (value_elsewhere values number (Some value) n e)))

  with_pair_in_front : (n : ℕ) (o : Option V) (ps qs : List (ℕ × V)) → with_pair n o (ps ++ qs) ≡ with_pair n o ps ++ qs
  with_pair_in_front n None ps qs = refl
  with_pair_in_front n (Some v) ps qs = refl

  pairs_of-push :
      (values : List (Option V)) (ns : List ℕ) (number : ℕ) →
      pairs_of values (ns ++ number ∷ []) ≡ pairs_of values ns ++ with_pair number (value_at values number) []
  pairs_of-push values [] number = refl
  pairs_of-push values (n ∷ ns) number =
      ap (with_pair n (value_at values n)) (pairs_of-push values ns number)
      ∙ with_pair_in_front n (value_at values n) (pairs_of values ns) (with_pair number (value_at values number) [])

  with_value-push :
      (ps : List (ℕ × V)) (number : ℕ) (value : V) → value_in ps number ≡ None → with_value ps number value ≡ ps ++ (number, value) ∷ []
  with_value-push [] number value h = refl
  with_value-push (p ∷ ps) number value h = go (eqb number p.0) h (with_value-push ps number value) where
    go :
        (b : Bool) → cond b (Some p.1) (value_in ps number) ≡ None →
        (value_in ps number ≡ None → with_value ps number value ≡ ps ++ (number, value) ∷ []) →
        cond b ((p.0, value) ∷ ps) (p ∷ with_value ps number value) ≡ p ∷ ps ++ (number, value) ∷ []
    go true h rest = absurd cc
    go false h rest = ap (λ (qs : List (ℕ × V)). p ∷ qs) (rest h)

  pub set_new :
      (ns : List ℕ) (values : List (Option V)) → IsListed ns values → (number : ℕ) (value : V) → value_at values number ≡ None →
      number < length values →
      with_value (pairs_of values ns) number value ≡ pairs_of (set values number (Some value)) (ns ++ number ∷ [])
  set_new ns values h number value none low =
      with_value-push (pairs_of values ns) number value (value_in_is ns values h number ∙ none)
      ∙ sym (pairs_of-push (set values number (Some value)) ns number
      ∙ (ap (λ (ps : List (ℕ × V)). ps ++ with_pair number (value_at (set values number (Some value)) number) [])
      (pairs_of-set_other values ns number (Some value) (not_listed ns values h number none))
      ∙ ap (λ o. pairs_of values ns ++ with_pair number o []) (get_or-set_same values number (Some value) None low)))
