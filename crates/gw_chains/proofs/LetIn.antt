-- Whom an update lets in: those with a grant are let in, and the others go on waiting, in their order.
use Rattle.std.proofs.Common.{◌≡◌, ℕ, zero, suc, ◌+◌, ◌≤◌, ◌<◌, true, false, List, [], ◌∷◌, ◌++◌, length, drop, get_or, min, slice_get, remove, Option, Some, None, refl, sym, ap, subst, ◌∙◌, arith, append_assoc, add-one}
use Rattle.std.proofs.lemmas.Grind.{common_steps}
use Rattle.std.proofs.lemmas.List.{drop_more, length-append, length-drop}
use Rattle.gw_names.specs.declared.key.Key.{Key}
use Rattle.gw_meaning.specs.Tables.{value_of, with_value}
use Rattle.gw_entities.proofs.Lookups.{Some_same}
use Rattle.gw_meaning.specs.declared.transaction.Transaction.{Transaction}
use Rattle.gw_meaning.specs.Machine.{Machine, AreInOrder}
use Rattle.gw_meaning.specs.Changes.{let_in, some_let_in}
use Rattle.gw_meaning.proofs.Chains.{AreNotAbove, IsOrdered, ordered, in_order}
use Rattle.gw_chains.specs.Chains.{has_grant, with_grant, without_grant, IsWithin, AreWithin, HasRoomToLetAllIn, all_let_in}
use Rattle.gw_entities.proofs.Keyed.{value_set, with_same, with_again}

abbrev Grants : Type 0
Grants = List (Option ℕ)

abbrev Delays : Type 0
Delays = List (Key × List Transaction)

-- nobody is left of a chain
pub with_nobody : (grants : Grants) → with_grant grants [] ≡ []
with_nobody [] = refl
with_nobody (None ∷ grants) = refl
with_nobody (Some units ∷ grants) = refl

pub without_nobody : (grants : Grants) → without_grant grants [] ≡ []
without_nobody [] = refl
without_nobody (None ∷ grants) = refl
without_nobody (Some units ∷ grants) = refl

-- the first of the rest of a chain
with_first_suc : (grants : Grants) (i : ℕ) (x : Transaction) (xs : List Transaction) → has_grant grants i ≡ true →
    with_grant (drop i grants) (x ∷ xs) ≡ x ∷ with_grant (drop (suc i) grants) xs
with_first_suc [] zero x xs h = absurd cc
with_first_suc [] (suc i) x xs h = absurd cc
with_first_suc (None ∷ grants) zero x xs h = absurd cc
with_first_suc (Some units ∷ grants) zero x xs h = refl
with_first_suc (grant ∷ grants) (suc i) x xs h = with_first_suc grants i x xs h

pub with_first : (grants : Grants) (i : ℕ) (x : Transaction) (xs : List Transaction) → has_grant grants i ≡ true →
    with_grant (drop i grants) (x ∷ xs) ≡ x ∷ with_grant (drop (i + 1) grants) xs
with_first grants i x xs h = rw (add-one i) (with_first_suc grants i x xs h)

with_rest_suc : (grants : Grants) (i : ℕ) (x : Transaction) (xs : List Transaction) → has_grant grants i ≡ false →
    with_grant (drop i grants) (x ∷ xs) ≡ with_grant (drop (suc i) grants) xs
with_rest_suc [] zero x xs h = refl
with_rest_suc [] (suc i) x xs h = refl
with_rest_suc (None ∷ grants) zero x xs h = refl
with_rest_suc (Some units ∷ grants) zero x xs h = absurd cc
with_rest_suc (grant ∷ grants) (suc i) x xs h = with_rest_suc grants i x xs h

pub with_rest : (grants : Grants) (i : ℕ) (x : Transaction) (xs : List Transaction) → has_grant grants i ≡ false →
    with_grant (drop i grants) (x ∷ xs) ≡ with_grant (drop (i + 1) grants) xs
with_rest grants i x xs h = rw (add-one i) (with_rest_suc grants i x xs h)

without_first_suc : (grants : Grants) (i : ℕ) (x : Transaction) (xs : List Transaction) → has_grant grants i ≡ false →
    without_grant (drop i grants) (x ∷ xs) ≡ x ∷ without_grant (drop (suc i) grants) xs
without_first_suc [] zero x xs h = refl
without_first_suc [] (suc i) x xs h = refl
without_first_suc (None ∷ grants) zero x xs h = refl
without_first_suc (Some units ∷ grants) zero x xs h = absurd cc
without_first_suc (grant ∷ grants) (suc i) x xs h = without_first_suc grants i x xs h

pub without_first : (grants : Grants) (i : ℕ) (x : Transaction) (xs : List Transaction) → has_grant grants i ≡ false →
    without_grant (drop i grants) (x ∷ xs) ≡ x ∷ without_grant (drop (i + 1) grants) xs
without_first grants i x xs h = rw (add-one i) (without_first_suc grants i x xs h)

without_rest_suc : (grants : Grants) (i : ℕ) (x : Transaction) (xs : List Transaction) → has_grant grants i ≡ true →
    without_grant (drop i grants) (x ∷ xs) ≡ without_grant (drop (suc i) grants) xs
without_rest_suc [] zero x xs h = absurd cc
without_rest_suc [] (suc i) x xs h = absurd cc
without_rest_suc (None ∷ grants) zero x xs h = absurd cc
without_rest_suc (Some units ∷ grants) zero x xs h = refl
without_rest_suc (grant ∷ grants) (suc i) x xs h = without_rest_suc grants i x xs h

pub without_rest : (grants : Grants) (i : ℕ) (x : Transaction) (xs : List Transaction) → has_grant grants i ≡ true →
    without_grant (drop i grants) (x ∷ xs) ≡ without_grant (drop (i + 1) grants) xs
without_rest grants i x xs h = rw (add-one i) (without_rest_suc grants i x xs h)

-- neither are more than wait
pub with_fewer : (grants : Grants) (chain : List Transaction) → length (with_grant grants chain) ≤ length chain
with_fewer [] chain = omega arith
with_fewer (grant ∷ grants) [] = omega arith
with_fewer (None ∷ grants) (x ∷ xs) = let rest = with_fewer grants xs in omega (arith, rest)
with_fewer (Some units ∷ grants) (x ∷ xs) = let rest = with_fewer grants xs in omega (arith, rest)

pub without_fewer : (grants : Grants) (chain : List Transaction) → length (without_grant grants chain) ≤ length chain
without_fewer [] chain = omega arith
without_fewer (grant ∷ grants) [] = omega arith
without_fewer (None ∷ grants) (x ∷ xs) = let rest = without_fewer grants xs in omega (arith, rest)
without_fewer (Some units ∷ grants) (x ∷ xs) = let rest = without_fewer grants xs in omega (arith, rest)

-- who is let in leaves the delay chains as they are
let_in_beside : (x : Transaction) (to : Option ℕ) (s : Machine) (ds : Delays) →
    let_in x to (record s { delays = ds }) ≡ record (let_in x to s) { delays = ds }
let_in_beside x None s ds = refl
let_in_beside x (Some id) s ds = refl

all_beside : (xs : List Transaction) (s : Machine) (ds : Delays) →
    all_let_in xs (record s { delays = ds }) ≡ record (all_let_in xs s) { delays = ds }
all_beside [] s ds = refl
all_beside (x ∷ xs) s ds =
    ap (all_let_in xs) (let_in_beside x x.destination s ds) ∙ all_beside xs (let_in x x.destination s) ds

-- nobody waits, so nobody is let in
pub nobody_let_in : (key : Key) (grants : Grants) (passed : List Transaction) (s : Machine) → some_let_in key grants passed [] s ≡ s
nobody_let_in key [] passed s = refl
nobody_let_in key (None ∷ grants) passed s = refl
nobody_let_in key (Some units ∷ grants) passed s = refl

-- the same chain again changes nothing
same_again : (s : Machine) (key : Key) (xs : List Transaction) → value_of s.delays key ≡ Some xs → s ≡ record s { delays = with_value s.delays key xs }
same_again s key xs h = ap (λ (ds : Delays). record s { delays = ds }) (sym (with_same s.delays key xs h))

-- those with a grant, taken off the chain first and let in then, one by one
pub some_let_in_is : (key : Key) (grants : Grants) (passed chain : List Transaction) (s : Machine) → value_of s.delays key ≡ Some (passed ++ chain) →
    some_let_in key grants passed chain s ≡
    record (all_let_in (with_grant grants chain) s) { delays = with_value s.delays key (passed ++ without_grant grants chain) }
some_let_in_is key [] passed chain s h = same_again s key (passed ++ chain) h
some_let_in_is key (None ∷ grants) passed [] s h = same_again s key (passed ++ []) h
some_let_in_is key (Some units ∷ grants) passed [] s h = same_again s key (passed ++ []) h
some_let_in_is key (None ∷ grants) passed (x ∷ xs) s h =
    let group = append_assoc passed (x ∷ []) xs in
    some_let_in_is key grants (passed ++ x ∷ []) xs s (h ∙ ap (λ ys. Some ys) (sym group)) ∙
    ap (λ ys. record (all_let_in (with_grant grants xs) s) { delays = with_value s.delays key ys })
    (append_assoc passed (x ∷ []) (without_grant grants xs))
some_let_in_is key (Some units ∷ grants) passed (x ∷ xs) s h =
    let ds : Delays = with_value s.delays key (passed ++ xs) in
    let t : Machine = let_in x x.destination s in
    let kept : List Transaction = passed ++ without_grant grants xs in
    let in_now : let_in x x.destination (record s { delays = ds }) ≡ record t { delays = ds } = let_in_beside x x.destination s ds in
    ap (some_let_in key grants passed xs) in_now ∙
    (some_let_in_is key grants passed xs (record t { delays = ds }) (value_set s.delays key (passed ++ xs)) ∙
    (ap (λ (u : Machine). record u { delays = with_value ds key kept }) (all_beside (with_grant grants xs) t ds) ∙
    ap (λ (es : Delays). record (all_let_in (with_grant grants xs) t) { delays = es }) (with_again s.delays key (passed ++ xs) kept)))

-- After i of a chain F: those that were kept stand in front of the rest of it.
pub record Sifting (grants : Grants) (F : List Transaction) (i kept : ℕ) (items : List Transaction) : Type 0 where
  pub passed : List Transaction
  pub number : kept ≡ length passed
  pub items_are : items ≡ passed ++ drop i F
  pub left : passed ++ without_grant (drop i grants) (drop i F) ≡ without_grant grants F

-- the next one
next : (F : List Transaction) (i : ℕ) → i < length F → (x : Transaction) × (drop i F ≡ x ∷ drop (i + 1) F)
next [] i h = absurd (omega (arith, h))
next (x ∷ xs) i h = (get_or (x ∷ xs) i x, drop_more (x ∷ xs) i x h)

get_behind : (ps rest : List Transaction) (x : Transaction) → slice_get (ps ++ x ∷ rest) (length ps) ≡ Some x
get_behind [] rest x = refl
get_behind (p ∷ ps) rest x = get_behind ps rest x

remove_behind : (ps rest : List Transaction) (x : Transaction) → remove (ps ++ x ∷ rest) (length ps) ≡ ps ++ rest
remove_behind [] rest x = refl
remove_behind (p ∷ ps) rest x = ap (λ l. p ∷ l) (remove_behind ps rest x)

pub within_items : (grants : Grants) (F items : List Transaction) (i kept : ℕ) → i < length F → Sifting grants F i kept items → kept < length items
within_items grants F items i kept h s =
    let more = next F i h in
    let long = ap length (s.items_are ∙ ap (λ l. s.passed ++ l) more.1) ∙ length-append s.passed (more.0 ∷ drop (i + 1) F) in
    let number = s.number in
    omega (arith, long, number)

-- the one that is taken off, and what is left
taken : (grants : Grants) (F items : List Transaction) (i kept : ℕ) (x : Transaction) → i < length F → Sifting grants F i kept items →
    slice_get items kept ≡ Some x → drop i F ≡ x ∷ drop (i + 1) F
taken grants F items i kept x h s there =
    let more = next F i h in
    let are = s.items_are ∙ ap (λ l. s.passed ++ l) more.1 in
    let same : x ≡ more.0 = Some_same (sym there ∙ (ap (λ k. slice_get items k) s.number ∙ (ap (λ l. slice_get l (length s.passed)) are ∙ get_behind s.passed (drop (i + 1) F) more.0))) in
    more.1 ∙ ap (λ y. y ∷ drop (i + 1) F) (sym same)

pub first_in : (grants : Grants) (F items : List Transaction) (i kept : ℕ) (x : Transaction) → i < length F → has_grant grants i ≡ true →
    slice_get items kept ≡ Some x → Sifting grants F i kept items →
    with_grant (drop i grants) (drop i F) ≡ x ∷ with_grant (drop (i + 1) grants) (drop (i + 1) F)
first_in grants F items i kept x h some there s =
    ap (with_grant (drop i grants)) (taken grants F items i kept x h s there) ∙ with_first grants i x (drop (i + 1) F) some

pub first_out : (grants : Grants) (F : List Transaction) (i : ℕ) → i < length F → has_grant grants i ≡ false →
    with_grant (drop i grants) (drop i F) ≡ with_grant (drop (i + 1) grants) (drop (i + 1) F)
first_out grants F i h none =
    let more = next F i h in
    ap (with_grant (drop i grants)) more.1 ∙ with_rest grants i more.0 (drop (i + 1) F) none

pub room_to_go : (grants : Grants) (F : List Transaction) (i room : ℕ) → i < length F → has_grant grants i ≡ true →
    length (with_grant (drop i grants) (drop i F)) ≤ room → 0 < room
room_to_go grants F i room h some all =
    let more = next F i h in
    let front = ap length (ap (with_grant (drop i grants)) more.1 ∙ with_first grants i more.0 (drop (i + 1) F) some) in
    omega (arith, front, all)

pub sifted_in : (grants : Grants) (F items rest : List Transaction) (i kept : ℕ) (x : Transaction) → i < length F → has_grant grants i ≡ true →
    slice_get items kept ≡ Some x → rest ≡ remove items kept → Sifting grants F i kept items → Sifting grants F (i + 1) kept rest
sifted_in grants F items rest i kept x h some there is s =
    let more = taken grants F items i kept x h s there in
    record {
      passed = s.passed;
      number = s.number;
      items_are = is ∙ (ap (λ k. remove items k) s.number ∙
          (ap (λ l. remove l (length s.passed)) (s.items_are ∙ ap (λ l. s.passed ++ l) more) ∙ remove_behind s.passed (drop (i + 1) F) x));
      left = ap (λ ys. s.passed ++ ys) (sym (ap (without_grant (drop i grants)) more ∙ without_rest grants i x (drop (i + 1) F) some)) ∙ s.left;
    }

pub sifted_out : (grants : Grants) (F items : List Transaction) (i kept : ℕ) → i < length F → has_grant grants i ≡ false →
    Sifting grants F i kept items → Sifting grants F (i + 1) (kept + 1) items
sifted_out grants F items i kept h none s =
    let more = next F i h in
    let x = more.0 in
    let number = s.number in
    let first : without_grant (drop i grants) (drop i F) ≡ x ∷ without_grant (drop (i + 1) grants) (drop (i + 1) F) =
    ap (without_grant (drop i grants)) more.1 ∙ without_first grants i x (drop (i + 1) F) none in
    record {
      passed = s.passed ++ x ∷ [];
      number = omega (arith, number, length-append s.passed (x ∷ []));
      items_are = s.items_are ∙ (ap (λ l. s.passed ++ l) more.1 ∙ sym (append_assoc s.passed (x ∷ []) (drop (i + 1) F)));
      left = append_assoc s.passed (x ∷ []) (without_grant (drop (i + 1) grants) (drop (i + 1) F)) ∙
          (ap (λ ys. s.passed ++ ys) (sym first) ∙ s.left);
    }

ends : (grants : Grants) (F : List Transaction) (i : ℕ) (s : Option ℕ) (x : Transaction) (ss : Grants) (xs : List Transaction) →
    i ≡ min (length F) (length grants) → drop i grants ≡ s ∷ ss → drop i F ≡ x ∷ xs → ⊥
ends grants F i s x ss xs all grants_are are =
    let a = ap length grants_are in
    let b = ap length are in
    let c = length-drop i grants in
    let d = length-drop i F in
    grind (arith, common_steps)

-- no share is left, or nobody
pub with_none : (grants : Grants) (F : List Transaction) (i : ℕ) → i ≡ min (length F) (length grants) → with_grant (drop i grants) (drop i F) ≡ []
with_none grants F i all = go (drop i grants) (drop i F) refl refl where
  go : (ss : Grants) (xs : List Transaction) → drop i grants ≡ ss → drop i F ≡ xs → with_grant ss xs ≡ []
  go [] xs none is = refl
  go (s ∷ ss) [] none is = with_nobody (s ∷ ss)
  go (s ∷ ss) (x ∷ xs) none is = absurd (ends grants F i s x ss xs all none is)

pub without_none : (grants : Grants) (F : List Transaction) (i : ℕ) → i ≡ min (length F) (length grants) → without_grant (drop i grants) (drop i F) ≡ drop i F
without_none grants F i all = go (drop i grants) (drop i F) refl refl where
  go : (ss : Grants) (xs : List Transaction) → drop i grants ≡ ss → drop i F ≡ xs → without_grant ss xs ≡ xs
  go [] xs none is = refl
  go (s ∷ ss) [] none is = without_nobody (s ∷ ss)
  go (s ∷ ss) (x ∷ xs) none is = absurd (ends grants F i s x ss xs all none is)

pub sifted : (grants : Grants) (F items : List Transaction) (i kept : ℕ) → i ≡ min (length F) (length grants) → Sifting grants F i kept items →
    items ≡ without_grant grants F
sifted grants F items i kept all s = s.items_are ∙ (ap (λ ys. s.passed ++ ys) (sym (without_none grants F i all)) ∙ s.left)

-- in order, where the chain was
behind : (x : Transaction) (grants : Grants) (chain : List Transaction) → AreNotAbove x chain → AreNotAbove x (without_grant grants chain)
behind x [] chain h = h
behind x (None ∷ grants) [] h = tt
behind x (Some units ∷ grants) [] h = tt
behind x (None ∷ grants) (y ∷ ys) h = (h.0, behind x grants ys h.1)
behind x (Some units ∷ grants) (y ∷ ys) h = behind x grants ys h.1

without_ordered : (grants : Grants) (chain : List Transaction) → IsOrdered chain → IsOrdered (without_grant grants chain)
without_ordered [] chain h = h
without_ordered (None ∷ grants) [] h = tt
without_ordered (Some units ∷ grants) [] h = tt
without_ordered (None ∷ grants) (x ∷ xs) h = (behind x grants xs h.0, without_ordered grants xs h.1)
without_ordered (Some units ∷ grants) (x ∷ xs) h = without_ordered grants xs h.1

pub without_in_order : (grants : Grants) (chain : List Transaction) → AreInOrder chain → AreInOrder (without_grant grants chain)
without_in_order grants chain h = in_order (without_grant grants chain) (without_ordered grants chain (ordered chain h))

-- the room for the first of those who are let in, and for the others after it
pub room_first : (xs ys : List Transaction) (x : Transaction) (room limit : ℕ) → ys ≡ x ∷ xs → HasRoomToLetAllIn ys room limit →
    (0 < room) × IsWithin x.destination limit
room_first xs ys x room limit is h =
    let G : HasRoomToLetAllIn (x ∷ xs) room limit = subst (λ zs. HasRoomToLetAllIn zs room limit) is h in
    let some = G.0 in
    (omega (arith, some), G.1.0)

pub room_rest : (xs ys : List Transaction) (x : Transaction) (room more limit same : ℕ) → ys ≡ x ∷ xs → room ≤ more + 1 → same ≡ limit →
    HasRoomToLetAllIn ys room limit → HasRoomToLetAllIn xs more same
room_rest xs ys x room more limit same is left is_same h =
    let G : HasRoomToLetAllIn (x ∷ xs) room limit = subst (λ zs. HasRoomToLetAllIn zs room limit) is h in
    let some = G.0 in
    (omega (arith, some, left), subst (AreWithin xs) (sym is_same) G.1.1)

-- where there is room for a block's count, there is where there is more
pub within_more : (to : Option ℕ) (limit more : ℕ) → limit ≤ more → IsWithin to limit → IsWithin to more
within_more None limit more h within = tt
within_more (Some id) limit more h within = omega (arith, h, within)
