-- Values of names that are given one by one.
use Rattle.std.proofs.Common.{◌≡◌, ℕ, zero, suc, List, Bool, true, false, cond, get_or, replicate, Option, Some, None, is_some, refl, sym, ap, ◌∙◌}
use Rattle.std.specs.Prelude.{IsSome}
use Rattle.gw_meaning.specs.Listing.{or_next}
use Rattle.gw_model.specs.ByName.{value_in}

module _ {X : Type 0} where
  -- no name lies in slots that are all free
  pub none_there : (n i : ℕ) (name : List ℕ) → value_in {X = X} (get_or (replicate n None) i None) name ≡ None
  none_there zero i name = refl
  none_there (suc n) zero name = refl
  none_there (suc n) (suc i) name = none_there n i name

  pub none_behind : (o : Option X) → or_next o None ≡ o
  none_behind None = refl
  none_behind (Some x) = refl

  -- a value that leaves the rest for those that are here
  pub one_more : (b : Bool) (x : X) (here rest now_here now_rest all : Option X) → now_rest ≡ cond b None rest → now_here ≡ cond b (Some x) here →
      (b ≡ true → rest ≡ Some x) → (or_next here rest ≡ all) × (IsSome rest → here ≡ None) →
      (or_next now_here now_rest ≡ all) × (IsSome now_rest → now_here ≡ None)
  one_more true x here rest now_here now_rest all left came was h =
      let new : here ≡ None = h.1 (ap is_some (was refl)) in
      let same : Some x ≡ all = sym (was refl) ∙ (sym (ap (λ o. or_next o rest) new) ∙ h.0) in
      rw (left, came) (same, λ some. cc)
  one_more false x here rest now_here now_rest all left came was h = rw (left, came) h

  -- a value that goes into the map
  pub in_map : (b : Bool) (x : X) (here more now : Option X) → now ≡ cond b (Some x) more → (b ≡ true → or_next here more ≡ None) →
      or_next here now ≡ cond b (Some x) (or_next here more)
  in_map true x None more now came none = came
  in_map true x (Some y) more now came none = absurd (let e = none refl in cc)
  in_map false x here more now came none = ap (or_next here) came
