-- Laws of the lists after the chains.
use Rattle.std.proofs.Common.{◌≡◌, ℕ, ◌+◌, ◌<◌, arith, drop_of_length-le, ◌-◌, true, false, List, [], ◌∷◌, Option, None, Some, option_to_list, ◌++◌, length, get_or, take, drop, insert, slice_get, refl, sym, ap, subst, ◌∙◌, append_assoc}
use Rattle.std.proofs.lemmas.List.{drop_more, take_more, take-append-drop}
use Rattle.std.proofs.lemmas.List.Edits.{insert_end}
use Rattle.std.proofs.lemmas.Option.{slice_get_within, get_or_from_slice_get}
use Rattle.gw_nums.specs.Range.{is_below}
use Rattle.gw_meaning.specs.declared.transaction.Transaction.{Transaction}
use Rattle.gw_meaning.specs.Machine.{AreInOrder}
use Rattle.gw_meaning.specs.Changes.{lined_up}
use Rattle.gw_meaning.proofs.Chains.{IsOrdered, ordered, in_order, ordered_lined, lined_up_behind}

-- what is left of a list begins with the item there
pub item_drop : {X : Type 0} (xs : List X) (i : ℕ) (x : X) → i < length xs → x ≡ get_or xs i x → drop i xs ≡ x ∷ drop (i + 1) xs
item_drop xs i x h is = drop_more xs i x h ∙ ap (λ y. y ∷ drop (i + 1) xs) (sym is)

-- a chain in order stays in order when one lines up, and when its first one goes
pub lined_up_in_order : (x : Transaction) (xs : List Transaction) → AreInOrder xs → AreInOrder (lined_up x xs)
lined_up_in_order x xs h = in_order (lined_up x xs) (ordered_lined x xs (ordered xs h))

pub rest_in_order : (first : Option Transaction) (xs whole : List Transaction) → whole ≡ option_to_list first ++ xs → AreInOrder whole → AreInOrder xs
rest_in_order None xs whole is h = subst AreInOrder is h
rest_in_order (Some x) xs whole is h = in_order xs (ordered (x ∷ xs) (subst AreInOrder is h)).1

item_at : (xs : List Transaction) (i : ℕ) (y : Transaction) → slice_get xs i ≡ Some y → drop i xs ≡ y ∷ drop (i + 1) xs
item_at xs i y there = item_drop xs i y (slice_get_within xs i y there) (sym (get_or_from_slice_get xs i y y there))

-- after the item at i of a chain in order, where it is not of lower priority and those after it are
pub lined_up_at : (x : Transaction) (xs : List Transaction) (i : ℕ) (y : Transaction) → AreInOrder xs → slice_get xs i ≡ Some y →
    is_below y.priority x.priority ≡ false → lined_up x (drop (i + 1) xs) ≡ x ∷ drop (i + 1) xs → lined_up x xs ≡ insert xs (i + 1) x
lined_up_at x xs i y order there above rest =
    let h = slice_get_within xs i y there in
    let is = get_or_from_slice_get xs i y y there in
    let whole : xs ≡ take i xs ++ y ∷ drop (i + 1) xs = sym (take-append-drop i xs) ∙ ap (λ zs. take i xs ++ zs) (item_at xs i y there) in
    let front : take (i + 1) xs ≡ take i xs ++ y ∷ [] = take_more xs i y h ∙ ap (λ z. take i xs ++ z ∷ []) is in
    let split : take (i + 1) xs ++ x ∷ drop (i + 1) xs ≡ take i xs ++ y ∷ x ∷ drop (i + 1) xs =
    ap (λ zs. zs ++ x ∷ drop (i + 1) xs) front ∙ append_assoc (take i xs) (y ∷ []) (x ∷ drop (i + 1) xs) in
    ap (lined_up x) whole ∙ (lined_up_behind x (take i xs) y (drop (i + 1) xs) (subst IsOrdered whole (ordered xs order)) above rest ∙ sym split)

-- in front of one of lower priority, where it would come first of those from there on
pub comes_first : (x : Transaction) (xs : List Transaction) (i : ℕ) (y : Transaction) → slice_get xs i ≡ Some y → is_below y.priority x.priority ≡ true →
    lined_up x (drop i xs) ≡ x ∷ drop i xs
comes_first x xs i y there below =
    let item = item_at xs i y there in
    ap (lined_up x) item ∙ (rw below refl ∙ ap (λ l. x ∷ l) (sym item))

-- after the last one
pub nobody_left : (x : Transaction) (xs : List Transaction) (n : ℕ) → n ≡ length xs → lined_up x (drop n xs) ≡ x ∷ drop n xs
nobody_left x xs n all =
    let none : drop n xs ≡ [] = drop_of_length-le xs (omega (arith, all)) in
    rw none refl

-- after the last one of a chain in order, where that is not of lower priority
pub lined_up_last : (x : Transaction) (xs : List Transaction) (n : ℕ) (y : Transaction) → AreInOrder xs → n ≡ length xs → 0 < n → slice_get xs (n - 1) ≡ Some y →
    is_below y.priority x.priority ≡ false → lined_up x xs ≡ xs ++ x ∷ []
lined_up_last x xs n y order all some there above =
    let one : n - 1 + 1 ≡ n = omega (arith, some) in
    lined_up_at x xs (n - 1) y order there above (nobody_left x xs (n - 1 + 1) (omega (arith, some, all))) ∙
    (ap (λ k. insert xs k x) (one ∙ all) ∙ insert_end xs x)
