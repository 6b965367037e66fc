-- Lists that were read, as a set keeps them.
use Rattle.std.proofs.Common.{◌≡◌, ℕ, zero, suc, Bool, true, false, cond, List, [], ◌∷◌, ◌++◌, slice_get, Some, refl, sym, ap, ap₂, subst, ◌∙◌}
use Rattle.std.proofs.lemmas.Option.{slice_get-map}
use Rattle.std.specs.Option.{option_map}
use Rattle.std.specs.Cmp.Lexicographic.{pointwise}
use Rattle.std.specs.List.{AllZip, list_any}
use Rattle.std.specs.Global.{Vec}
use Rattle.std.specs.Prelude.{vec_len}
use Rattle.std.proofs.lemmas.List.Elements.{same_from_all_zip}
use Rattle.gw_meaning.specs.contracts.watched.WatchedClone.TheImpl as cloning
use Rattle.indexmap.specs.IndexSet.{insert_key}
use Rattle.gw_meaning.specs.declared.watched.Watched.{Watched}
use Rattle.gw_meaning.specs.Watching.{same_watched}
use Rattle.gw_retry.specs.Readings.{all_items, Keeps}
use Rattle.gw_retry.proofs.Things.{list_same, thing_copied}

pub stored_is : (vs : List (Vec Watched)) (i : ℕ) (v : Vec Watched) (list : List Watched) → slice_get vs i ≡ Some v →
    pointwise same_watched list v.items ≡ true → slice_get (all_items vs) i ≡ Some list
stored_is vs i v list there same =
    slice_get-map (λ (u : Vec Watched). u.items) vs i ∙
    (ap (option_map (λ (u : Vec Watched). u.items)) there ∙ ap (λ l. Some l) (sym (list_same list v.items same)))

get_front : {A : Type 0} (xs ys : List A) (i : ℕ) (x : A) → slice_get xs i ≡ Some x → slice_get (xs ++ ys) i ≡ Some x
get_front [] ys i x h = absurd cc
get_front (y ∷ xs) ys zero x h = h
get_front (y ∷ xs) ys (suc i) x h = get_front xs ys i x h

pub keeps_same : (old new : List (List Watched)) → new ≡ old → Keeps old new
keeps_same old new same i list there = ap (λ ls. slice_get ls i) same ∙ there

keeps_pushed : (vs : List (Vec Watched)) (v : Vec Watched) → Keeps (all_items vs) (all_items (vs ++ v ∷ []))
keeps_pushed vs v i list there = subst (λ ls. slice_get ls i ≡ Some list) (sym (pushed vs)) (get_front (all_items vs) (v.items ∷ []) i list there) where
  pushed : (us : List (Vec Watched)) → all_items (us ++ v ∷ []) ≡ all_items us ++ v.items ∷ []
  pushed [] = refl
  pushed (u ∷ us) = ap (λ ls. u.items ∷ ls) (pushed us)

-- a list that is inserted
pub keeps_inserted : (vs us : List (Vec Watched)) (v : Vec Watched) →
    us ≡ insert_key (λ (x y : Vec Watched). pointwise same_watched x.items y.items) vs v → Keeps (all_items vs) (all_items us)
keeps_inserted vs us v is = subst (λ ls. Keeps (all_items vs) (all_items ls)) (sym is) (go (list_any (λ (y : Vec Watched). pointwise same_watched v.items y.items) vs)) where
  go : (b : Bool) → Keeps (all_items vs) (all_items (cond b vs (vs ++ v ∷ [])))
  go true = keeps_same (all_items vs) (all_items vs) refl
  go false = keeps_pushed vs v

-- copies of lists
abbrev pub IsCopy : Vec Watched → Vec Watched → Type 0
IsCopy v u = AllZip cloning.ghosts.is_clone v.items u.items × (vec_len u ≡ vec_len v)

pub lists_copied : (vs us : List (Vec Watched)) → AllZip IsCopy vs us → all_items us ≡ all_items vs
lists_copied [] [] all = refl
lists_copied [] (u ∷ us) all = absurd all
lists_copied (v ∷ vs) [] all = absurd all
lists_copied (v ∷ vs) (u ∷ us) all =
    ap₂ (λ x xs. x ∷ xs) (same_from_all_zip cloning.ghosts.is_clone v.items u.items all.0.0 thing_copied) (lists_copied vs us all.1)
