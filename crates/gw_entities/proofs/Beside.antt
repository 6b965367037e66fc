-- Values, each beside its key.
use Rattle.std.proofs.Common.{◌≡◌, ℕ, zero, suc, ◌<◌, ◌≤◌, false, cond, List, [], ◌∷◌, ◌++◌, length, set, Some, None, refl, sym, ap, subst, ◌∙◌, arith}
use Rattle.std.specs.Prelude.{slice_get}
use Rattle.std.specs.List.{IsDistinct, list_any, zip}
use Rattle.std.proofs.lemmas.Map.Entries.{length-keys_of, lookup_from_place}
use Rattle.std.proofs.lemmas.Map.Made.{keys_of-zip}
use Rattle.indexmap.specs.IndexMap.{set_value_at}
use Rattle.indexmap.specs.IndexSet.{insert_key}
use Rattle.gw_names.specs.declared.key.Key.{Key}
use Rattle.gw_names.specs.Keys.{key_eq}
use Rattle.gw_meaning.specs.Tables.{value_of, with_value, AreApart, IsPlace}
use Rattle.gw_entities.proofs.Entries.{none_of_keys, no_key, pushed_is, apart_pushed}
use Rattle.gw_entities.proofs.Lookups.{Some_same, written_at}
use Rattle.gw_entities.proofs.TableLaws.{key_eq_equiv, set_value_is}

long_pushed : {A : Type 0} (xs : List A) (x : A) → length (xs ++ x ∷ []) ≡ suc (length xs)
long_pushed [] x = refl
long_pushed (y ∷ ys) x = ap suc (long_pushed ys x)

module _ {V : Type 0} where
  pub long_beside : (ks : List Key) (vs : List V) → length vs ≡ length ks → length vs ≡ length (zip ks vs)
  long_beside ks vs long = long ∙ (ap (λ (l : List Key). length l) (sym (keys_of-zip ks vs long)) ∙ length-keys_of (zip ks vs))

  pub nothing_beside : (ks : List Key) (vs : List V) (i : ℕ) → length vs ≤ i → slice_get (zip ks vs) i ≡ None
  nothing_beside [] vs i beyond = refl
  nothing_beside (k ∷ ks) [] i beyond = refl
  nothing_beside (k ∷ ks) (v ∷ vs) zero beyond = absurd (omega (arith, beyond))
  nothing_beside (k ∷ ks) (v ∷ vs) (suc i) beyond = nothing_beside ks vs i (omega (arith, beyond))

  pub apart_beside : (ks : List Key) (vs : List V) → length vs ≡ length ks → IsDistinct key_eq ks → AreApart (zip ks vs)
  apart_beside ks vs long apart = subst (IsDistinct key_eq) (sym (keys_of-zip ks vs long)) apart

  -- a key has the value beside it
  pub value_beside : (ks : List Key) (vs : List V) (i : ℕ) (key : Key) (value : V) → slice_get ks i ≡ Some key → slice_get vs i ≡ Some value →
      slice_get (zip ks vs) i ≡ Some (key, value)
  value_beside [] vs i key value at there = absurd cc
  value_beside (k ∷ ks) [] i key value at there = absurd cc
  value_beside (k ∷ ks) (v ∷ vs) zero key value at there =
      ap (λ (q : Key). Some (q, v)) (Some_same at) ∙ ap (λ (w : V). Some (key, w)) (Some_same there)
  value_beside (k ∷ ks) (v ∷ vs) (suc i) key value at there = value_beside ks vs i key value at there

  pub found_beside : (ks : List Key) (vs : List V) (i : ℕ) (key : Key) (value : V) → length vs ≡ length ks → IsDistinct key_eq ks →
      slice_get ks i ≡ Some key → slice_get vs i ≡ Some value → value_of (zip ks vs) key ≡ Some value
  found_beside ks vs i key value long apart at there =
      lookup_from_place key_eq_equiv (zip ks vs) i key value (apart_beside ks vs long apart) (value_beside ks vs i key value at there)

  pub none_beside : (ks : List Key) (vs : List V) (key : Key) → length vs ≡ length ks → list_any (key_eq key) ks ≡ false →
      value_of (zip ks vs) key ≡ None
  none_beside ks vs key long none =
      none_of_keys (zip ks vs) key (ap (λ (qs : List Key). list_any (key_eq key) qs) (keys_of-zip ks vs long) ∙ none)

  -- where a key lies, its value lies
  pub place_beside : (ks : List Key) (vs : List V) (i : ℕ) (key : Key) (value : V) → length vs ≡ length ks → IsDistinct key_eq ks →
      slice_get ks i ≡ Some key → slice_get vs i ≡ Some value → IsPlace (zip ks vs) key (Some i)
  place_beside ks vs i key value long apart at there =
      (value, value_beside ks vs i key value at there, found_beside ks vs i key value long apart at there)

  -- a value stands at each index
  value_at : (vs : List V) (i : ℕ) → i < length vs → (v : V) × (slice_get vs i ≡ Some v)
  value_at [] i within = absurd (omega (arith, within))
  value_at (v ∷ vs) zero within = (v, refl)
  value_at (v ∷ vs) (suc i) within = value_at vs i (omega (arith, within))

  set_at : (ks : List Key) (vs : List V) (i : ℕ) (value : V) → zip ks (set vs i value) ≡ set_value_at (zip ks vs) i value
  set_at [] vs i value = refl
  set_at (k ∷ ks) [] i value = refl
  set_at (k ∷ ks) (v ∷ vs) zero value = refl
  set_at (k ∷ ks) (v ∷ vs) (suc i) value = ap (λ (l : List (Key × V)). (k, v) ∷ l) (set_at ks vs i value)

  -- a value that is written beside its key
  pub set_beside : (ks : List Key) (vs : List V) (i : ℕ) (key : Key) (value : V) → length vs ≡ length ks → IsDistinct key_eq ks →
      slice_get ks i ≡ Some key → i < length ks → zip ks (set vs i value) ≡ with_value (zip ks vs) key value
  set_beside ks vs i key value long apart at within =
      let was = value_at vs i (omega (arith, long, within)) in
      let there = place_beside ks vs i key was.0 long apart at was.1 in
      set_at ks vs i value
      ∙ (written_at key_eq key_eq_equiv (zip ks vs) i key there.0 value (apart_beside ks vs long apart) there.1
      ∙ set_value_is (zip ks vs) key value there.0 there.2)

  -- a further key with its value
  zip_pushed : (ks : List Key) (vs : List V) (key : Key) (value : V) → length vs ≡ length ks →
      zip (ks ++ key ∷ []) (vs ++ value ∷ []) ≡ zip ks vs ++ (key, value) ∷ []
  zip_pushed [] [] key value long = refl
  zip_pushed [] (v ∷ vs) key value long = absurd (omega (arith, long))
  zip_pushed (k ∷ ks) [] key value long = absurd (omega (arith, long))
  zip_pushed (k ∷ ks) (v ∷ vs) key value long =
      ap (λ (l : List (Key × V)). (k, v) ∷ l) (zip_pushed ks vs key value (omega (arith, long)))

  keys_pushed : (ks : List Key) (vs : List V) (key : Key) → length vs ≡ length ks → value_of (zip ks vs) key ≡ None →
      insert_key key_eq ks key ≡ ks ++ key ∷ []
  keys_pushed ks vs key long none =
      let absent : list_any (key_eq key) ks ≡ false =
      ap (λ (qs : List Key). list_any (key_eq key) qs) (sym (keys_of-zip ks vs long)) ∙ no_key (zip ks vs) key none in
      ap (λ b. cond b ks (ks ++ key ∷ [])) absent

  -- what holds of keys and the values beside them
  abbrev pub AreBeside : List Key → List V → Type 0
  AreBeside ks vs = (length vs ≡ length ks) × IsDistinct key_eq ks

  pub pushed_beside : (ks qs : List Key) (vs ws : List V) (key : Key) (value : V) → AreBeside ks vs → value_of (zip ks vs) key ≡ None →
      qs ≡ insert_key key_eq ks key → ws ≡ vs ++ value ∷ [] → AreBeside qs ws × (zip qs ws ≡ with_value (zip ks vs) key value)
  pushed_beside ks qs vs ws key value (long, apart) none keys values =
      let now : qs ≡ ks ++ key ∷ [] = keys ∙ keys_pushed ks vs key long none in
      let joined : zip qs ws ≡ zip ks vs ++ (key, value) ∷ [] =
      ap (λ (l : List Key). zip l ws) now ∙ (ap (λ (l : List V). zip (ks ++ key ∷ []) l) values ∙ zip_pushed ks vs key value long) in
      let same : length ws ≡ length qs =
      ap (λ (l : List V). length l) values ∙ (long_pushed vs value ∙ (ap suc long ∙ (sym (long_pushed ks key) ∙ ap (λ (l : List Key). length l) (sym now)))) in
      let distinct : AreApart (zip qs ws) =
      subst AreApart (sym joined) (apart_pushed (zip ks vs) key value (apart_beside ks vs long apart) none) in
      ((same, subst (IsDistinct key_eq) (keys_of-zip qs ws same) distinct), joined ∙ sym (pushed_is (zip ks vs) key value none))
