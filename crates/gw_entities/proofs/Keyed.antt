-- Values of any kind, each beside its key.
use Rattle.std.proofs.Common.{◌≡◌, ℕ, zero, suc, ◌<◌, ◌≤◌, Bool, true, false, cond, List, [], ◌∷◌, ◌++◌, length, set, Option, Some, None, IfSome, IfNone, slice_get, get_or, refl, sym, ap, subst, ◌∙◌, arith}
use Rattle.std.proofs.lemmas.Option.{slice_get_read}
use Rattle.std.specs.List.{IsDistinct, list_any, zip}
use Rattle.std.specs.Map.{keys_of, set_value}
use Rattle.indexmap.specs.IndexMap.{set_value_at}
use Rattle.gw_names.specs.declared.key.Key.{Key}
use Rattle.gw_names.specs.Keys.{key_eq}
use Rattle.gw_meaning.specs.Tables.{value_of, with_value, IsPlace}
use Rattle.gw_entities.proofs.Entries.{none_of_keys, no_key, apart_pushed}
use Rattle.gw_entities.proofs.Finding.{value_of-with_value}
use Rattle.gw_entities.proofs.Lookups.{Some_same, written_at}
use Rattle.gw_entities.proofs.TableLaws.{key_eq_equiv}
use Rattle.std.proofs.lemmas.Map.Entries.{lookup_from_place}

module _ {Own : Type 0} where
  -- each key has a chain
  pub keys_beside : (ks : List Key) (cs : List Own) → length ks ≤ length cs → keys_of (zip ks cs) ≡ ks
  keys_beside [] cs long = refl
  keys_beside (k ∷ ks) [] long = absurd (omega (arith, long))
  keys_beside (k ∷ ks) (c ∷ cs) long = ap (λ (qs : List Key). k ∷ qs) (keys_beside ks cs (omega (arith, long)))

  -- a key has the chain beside it
  pub chain_beside : (ks : List Key) (cs : List Own) (i : ℕ) (key : Key) → length ks ≤ length cs → slice_get ks i ≡ Some key →
      (own : Own) × (slice_get (zip ks cs) i ≡ Some (key, own))
  chain_beside [] cs i key long at = absurd cc
  chain_beside (k ∷ ks) [] i key long at = absurd (omega (arith, long))
  chain_beside (k ∷ ks) (c ∷ cs) zero key long at = (c, ap (λ (q : Key). Some (q, c)) (Some_same at))
  chain_beside (k ∷ ks) (c ∷ cs) (suc i) key long at = chain_beside ks cs i key (omega (arith, long)) at

  -- where a key lies, its chain lies
  pub place_beside : (ks : List Key) (cs : List Own) (i : ℕ) (key : Key) → IsDistinct key_eq ks → length ks ≤ length cs →
      slice_get ks i ≡ Some key → IsPlace (zip ks cs) key (Some i)
  place_beside ks cs i key apart long at =
      let own = chain_beside ks cs i key long at in
      (own.0, own.1, lookup_from_place key_eq_equiv (zip ks cs) i key own.0 (subst (IsDistinct key_eq) (sym (keys_beside ks cs long)) apart) own.1)

  pub none_beside : (ks : List Key) (cs : List Own) (key : Key) → length ks ≤ length cs → list_any (key_eq key) ks ≡ false →
      value_of (zip ks cs) key ≡ None
  none_beside ks cs key long none =
      none_of_keys (zip ks cs) key (ap (λ (qs : List Key). list_any (key_eq key) qs) (keys_beside ks cs long) ∙ none)

  pub no_key_beside : (ks : List Key) (cs : List Own) (key : Key) → length ks ≤ length cs → value_of (zip ks cs) key ≡ None →
      list_any (key_eq key) ks ≡ false
  no_key_beside ks cs key long none =
      ap (λ (qs : List Key). list_any (key_eq key) qs) (sym (keys_beside ks cs long)) ∙ no_key (zip ks cs) key none

  pub placed_beside : (ks : List Key) (cs : List Own) (key : Key) (o : Option ℕ) → IsDistinct key_eq ks → length ks ≤ length cs →
      IfSome o (λ i. slice_get ks i ≡ Some key) → IfNone o (list_any (key_eq key) ks ≡ false) → IsPlace (zip ks cs) key o
  placed_beside ks cs key None apart long there none = none_beside ks cs key long none
  placed_beside ks cs key (Some i) apart long there none = place_beside ks cs i key apart long there

  -- the chain at an index
  pub within_beside : (ks : List Key) (cs : List Own) (i : ℕ) (key : Key) → IsPlace (zip ks cs) key (Some i) → i < length cs
  within_beside ks cs i key there = go ks cs i there.1 where
    go : (ks : List Key) (cs : List Own) (i : ℕ) → slice_get (zip ks cs) i ≡ Some (key, there.0) → i < length cs
    go [] cs i at = absurd cc
    go (k ∷ ks) [] i at = absurd cc
    go (k ∷ ks) (c ∷ cs) zero at = omega arith
    go (k ∷ ks) (c ∷ cs) (suc i) at = let rest = go ks cs i at in omega (arith, rest)

  pub chain_at : (ks : List Key) (cs : List Own) (i : ℕ) (key : Key) (own : Own) → slice_get (zip ks cs) i ≡ Some (key, own) → slice_get cs i ≡ Some own
  chain_at [] cs i key own at = absurd cc
  chain_at (k ∷ ks) [] i key own at = absurd cc
  chain_at (k ∷ ks) (c ∷ cs) zero key own at = let same : (k, c) ≡ (key, own) = Some_same at in ap (λ (p : Key × Own). Some p.1) same
  chain_at (k ∷ ks) (c ∷ cs) (suc i) key own at = chain_at ks cs i key own at

  pub own_is : (ks : List Key) (cs : List Own) (i : ℕ) (key : Key) (own : Own) (there : IsPlace (zip ks cs) key (Some i)) → own ≡ get_or cs i own → there.0 ≡ own
  own_is ks cs i key own there read =
      Some_same (sym (chain_at ks cs i key there.0 there.1) ∙ slice_get_read cs (length cs) i own refl (within_beside ks cs i key there) read)

  pub value_there : (ks : List Key) (cs : List Own) (i : ℕ) (key : Key) (own : Own) → IsPlace (zip ks cs) key (Some i) → own ≡ get_or cs i own →
      value_of (zip ks cs) key ≡ Some own
  value_there ks cs i key own there read = there.2 ∙ ap (λ (o : Own). Some o) (own_is ks cs i key own there read)

  pub key_at : (ks : List Key) (cs : List Own) (i : ℕ) (key : Key) (own : Own) → slice_get (zip ks cs) i ≡ Some (key, own) → slice_get ks i ≡ Some key
  key_at [] cs i key own at = absurd cc
  key_at (k ∷ ks) [] i key own at = absurd cc
  key_at (k ∷ ks) (c ∷ cs) zero key own at = let same : (k, c) ≡ (key, own) = Some_same at in ap (λ (p : Key × Own). Some p.0) same
  key_at (k ∷ ks) (c ∷ cs) (suc i) key own at = key_at ks cs i key own at

  -- and one that is written there
  pub set_at : (ks : List Key) (cs : List Own) (i : ℕ) (own : Own) → zip ks (set cs i own) ≡ set_value_at (zip ks cs) i own
  set_at [] cs i own = refl
  set_at (k ∷ ks) [] i own = refl
  set_at (k ∷ ks) (c ∷ cs) zero own = refl
  set_at (k ∷ ks) (c ∷ cs) (suc i) own = ap (λ (l : List (Key × Own)). (k, c) ∷ l) (set_at ks cs i own)

  pub set_beside : (ks : List Key) (cs : List Own) (i : ℕ) (key : Key) (own : Own) → IsDistinct key_eq ks → length ks ≤ length cs →
      IsPlace (zip ks cs) key (Some i) → zip ks (set cs i own) ≡ set_value (key_eq key) (zip ks cs) own
  set_beside ks cs i key own apart long there =
      set_at ks cs i own ∙ written_at key_eq key_eq_equiv (zip ks cs) i key there.0 own
      (subst (IsDistinct key_eq) (sym (keys_beside ks cs long)) apart) there.1

  -- a further key
  pub zip_more : (ks : List Key) (cs : List Own) (key : Key) (own : Own) → length cs ≡ length ks →
      zip (ks ++ key ∷ []) (cs ++ own ∷ []) ≡ zip ks cs ++ (key, own) ∷ []
  zip_more [] [] key own long = refl
  zip_more [] (c ∷ cs) key own long = absurd (omega (arith, long))
  zip_more (k ∷ ks) [] key own long = absurd (omega (arith, long))
  zip_more (k ∷ ks) (c ∷ cs) key own long = ap (λ (l : List (Key × Own)). (k, c) ∷ l) (zip_more ks cs key own (omega (arith, long)))

  pub keys_pushed : (es : List (Key × Own)) (key : Key) (own : Own) → keys_of (es ++ (key, own) ∷ []) ≡ keys_of es ++ key ∷ []
  keys_pushed [] key own = refl
  keys_pushed (e ∷ es) key own = ap (λ (ks : List Key). e.0 ∷ ks) (keys_pushed es key own)

  pub apart_beside : (ks : List Key) (cs : List Own) (key : Key) (own : Own) → IsDistinct key_eq ks → length ks ≤ length cs →
      value_of (zip ks cs) key ≡ None → IsDistinct key_eq (ks ++ key ∷ [])
  apart_beside ks cs key own apart long none =
      subst (IsDistinct key_eq) (keys_pushed (zip ks cs) key own ∙ ap (λ (qs : List Key). qs ++ key ∷ []) (keys_beside ks cs long))
      (apart_pushed (zip ks cs) key own (subst (IsDistinct key_eq) (sym (keys_beside ks cs long)) apart) none)

  -- the value that is there already, and one value after another
  pub with_same : (es : List (Key × Own)) (key : Key) (own : Own) → value_of es key ≡ Some own → with_value es key own ≡ es
  with_same [] key own h = absurd cc
  with_same (e ∷ es) key own h = go (key_eq key e.0) h (with_same es key own) where
    go : (b : Bool) → cond b (Some e.1) (value_of es key) ≡ Some own → (value_of es key ≡ Some own → with_value es key own ≡ es) →
        cond b ((e.0, own) ∷ es) (e ∷ with_value es key own) ≡ e ∷ es
    go true h rest = let same : e.1 ≡ own = cc in ap (λ (o : Own). (e.0, o) ∷ es) (sym same)
    go false h rest = ap (λ (fs : List (Key × Own)). e ∷ fs) (rest h)

  pub with_again : (es : List (Key × Own)) (key : Key) (a b : Own) → with_value (with_value es key a) key b ≡ with_value es key b
  with_again [] key a b = ap (λ t. cond t ((key, b) ∷ []) ((key, a) ∷ (key, b) ∷ [])) (key_eq_equiv.refl key)
  with_again (e ∷ es) key a b = go (key_eq key e.0) refl (with_again es key a b) where
    go : (t : Bool) → key_eq key e.0 ≡ t → with_value (with_value es key a) key b ≡ with_value es key b →
        with_value (cond t ((e.0, a) ∷ es) (e ∷ with_value es key a)) key b ≡ cond t ((e.0, b) ∷ es) (e ∷ with_value es key b)
    go true here rest = ap (λ t. cond t ((e.0, b) ∷ es) ((e.0, a) ∷ with_value es key b)) here
    go false here rest =
        ap (λ t. cond t ((e.0, b) ∷ with_value es key a) (e ∷ with_value (with_value es key a) key b)) here ∙
        ap (λ (fs : List (Key × Own)). e ∷ fs) rest

  pub value_set : (es : List (Key × Own)) (key : Key) (own : Own) → value_of (with_value es key own) key ≡ Some own
  value_set es key own = value_of-with_value es key own key ∙ ap (λ b. cond b (Some own) (value_of es key)) (key_eq_equiv.refl key)
