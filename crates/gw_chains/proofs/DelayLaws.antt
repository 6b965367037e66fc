-- The delay chains by key, and how many wait.
use Rattle.std.proofs.Common.{◌≡◌, ◌+◌, ◌≤◌, Bool, true, false, cond, List, [], ◌∷◌, length, Bor}
use Rattle.std.proofs.Common.{refl, Option, Some, None, option_copied, option_map, unwrap_or, ap, ◌∙◌, arith}
use Rattle.std.specs.Prelude.{Result, Ok, Err, OnErr}
use Rattle.std.proofs.lemmas.List.{length-append}
use Rattle.std.proofs.lemmas.Bool.{cond_both}
use Rattle.std.specs.Slice.{IsItemAt}
use Rattle.gw_nums.specs.Range.{is_below}
use Rattle.gw_names.specs.declared.key.Key.{Key}
use Rattle.gw_names.specs.Keys.{key_eq}
use Rattle.gw_meaning.specs.Tables.{value_of, with_value}
use Rattle.gw_meaning.specs.declared.transaction.Transaction.{Transaction}
use Rattle.gw_meaning.specs.Machine.{delay_at, waiting}
use Rattle.gw_meaning.specs.Changes.{lined_up}
use Rattle.gw_chains.specs.Chains.{Chain, delays_of, items_of, first_of}

abbrev Own : Type 0
Own = Chain Transaction

abbrev Chains : Type 0
Chains = List (Key × Own)

abbrev Delays : Type 0
Delays = List (Key × List Transaction)

-- what holds holds after an error
pub on_err : {A E : Type 0} (r : Result A E) (P : Type 0) → P → OnErr r P
on_err (Ok x) P p = tt
on_err (Err e) P p = p

-- who waits for a facility or a storage
pub value_is : (cs : Chains) (key : Key) →
    value_of (delays_of cs) key ≡ option_map (λ (c : Own). c.items) (value_of cs key)
value_is [] key = refl
value_is (c ∷ cs) key = go (key_eq key c.0) (value_is cs key) where
  go : (b : Bool) → value_of (delays_of cs) key ≡ option_map (λ (o : Own). o.items) (value_of cs key) →
      cond b (Some c.1.items) (value_of (delays_of cs) key) ≡
      option_map (λ (o : Own). o.items) (cond b (Some c.1) (value_of cs key))
  go true h = refl
  go false h = h

pub delay_is : (cs : Chains) (key : Key) (o : Option Own) → value_of cs key ≡ o →
    delay_at (delays_of cs) key ≡ items_of o
delay_is cs key None is = ap (λ p. unwrap_or p []) (value_is cs key ∙ ap (option_map (λ (c : Own). c.items)) is)
delay_is cs key (Some c) is = ap (λ p. unwrap_or p []) (value_is cs key ∙ ap (option_map (λ (d : Own). d.items)) is)

-- a chain that is set
pub with_delay : (cs : Chains) (key : Key) (chain : Own) →
    delays_of (with_value cs key chain) ≡ with_value (delays_of cs) key chain.items
with_delay [] key chain = refl
with_delay (c ∷ cs) key chain = go (key_eq key c.0) (with_delay cs key chain) where
  go : (b : Bool) → delays_of (with_value cs key chain) ≡ with_value (delays_of cs) key chain.items →
      delays_of (cond b ((c.0, chain) ∷ cs) (c ∷ with_value cs key chain)) ≡
      cond b ((c.0, chain.items) ∷ delays_of cs) ((c.0, c.1.items) ∷ with_value (delays_of cs) key chain.items)
  go true h = refl
  go false h = ap (λ (ds : Delays). (c.0, c.1.items) ∷ ds) h

-- how many wait, with another chain in the place of one
pub waiting_with : (ds : Delays) (key : Key) (xs : List Transaction) →
    length (waiting (with_value ds key xs)) + length (delay_at ds key) ≡ length (waiting ds) + length xs
waiting_with [] key xs = omega (arith, length-append xs [])
waiting_with (d ∷ ds) key xs = go (key_eq key d.0) (waiting_with ds key xs) where
  go : (b : Bool) →
      length (waiting (with_value ds key xs)) + length (delay_at ds key) ≡ length (waiting ds) + length xs →
      length (waiting (cond b ((d.0, xs) ∷ ds) (d ∷ with_value ds key xs))) +
      length (unwrap_or (cond b (Some d.1) (value_of ds key)) []) ≡
      length (waiting (d ∷ ds)) + length xs
  go true h = omega (arith, length-append xs (waiting ds), length-append d.1 (waiting ds))
  go false h =
      omega (arith, h, length-append d.1 (waiting (with_value ds key xs)), length-append d.1 (waiting ds))

-- no more wait for one than for all
pub fewer_wait : (ds : Delays) (key : Key) → length (delay_at ds key) ≤ length (waiting ds)
fewer_wait ds key = omega (arith, waiting_with ds key [])

pub nobody_left : (xs : List Transaction) → length xs ≤ 0 → xs ≡ []
nobody_left [] h = refl
nobody_left (x ∷ xs) h = absurd (omega (arith, h))

pub lined_up_length : (x : Transaction) (ys : List Transaction) → length (lined_up x ys) ≡ length ys + 1
lined_up_length x [] = refl
lined_up_length x (y ∷ ys) =
    cond_both (is_below y.priority x.priority) (x ∷ y ∷ ys) (y ∷ lined_up x ys)
    (λ zs. length zs ≡ length (y ∷ ys) + 1)
    (λ below. omega arith) (λ above. (let rest = lined_up_length x ys in omega (arith, rest)))

-- the first of a chain
pub first_is : (xs : List Transaction) (o : Option (Bor Transaction)) → IsItemAt xs 0 o →
    option_copied o ≡ first_of xs
first_is [] None h = refl
first_is [] (Some x) h = let none = h.0 in absurd cc
first_is (y ∷ ys) None h = let some = h.2 (omega arith) in absurd cc
first_is (y ∷ ys) (Some x) h = ap (λ (z : Transaction). Some z) h.1
