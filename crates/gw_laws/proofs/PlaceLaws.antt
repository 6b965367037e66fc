-- Each living transaction stands in one place, and in no other.
use Rattle.std.proofs.Common.{◌≡◌, ℕ, ◌+◌, ◌≤◌, Bool, true, false, cond, List, [], ◌∷◌, ◌++◌, map, Some, unwrap_or, refl, sym, ap, subst, ◌∙◌, inl, inr, arith}
use Rattle.std.specs.Prelude.{Contains, option_to_list}
use Rattle.std.proofs.lemmas.Bool.{cases_Bool, eq-eqb}
use Rattle.std.proofs.lemmas.List.Elements.{Contains-append_cases}
use Rattle.gw_names.specs.declared.key.Key.{Key}
use Rattle.gw_names.specs.Keys.{key_eq}
use Rattle.gw_meaning.specs.Tables.{value_of, with_value}
use Rattle.gw_entities.proofs.QueueArrivalLaws.{key_same}
use Rattle.gw_entities.proofs.TableLaws.{key_eq_equiv}
use Rattle.gw_meaning.specs.declared.transaction.Transaction.{Transaction}
use Rattle.gw_meaning.specs.declared.transaction.Event.{Event}
use Rattle.gw_meaning.specs.declared.moves.Change.{Change}
use Rattle.gw_meaning.specs.declared.moves.Fate.{Fate}
use Rattle.gw_meaning.specs.declared.moves.Fate.TheVariants as fates
use Rattle.gw_meaning.specs.declared.moves.Move.{Move}
use Rattle.gw_meaning.specs.declared.moves.Move.TheVariants as moves
use Rattle.gw_meaning.specs.Listing.{Listing}
use Rattle.gw_meaning.specs.Machine.{Machine, UserChain, delay_at, waiting, members_of, user_chain_at}
use Rattle.gw_meaning.specs.Changes.{refused, moved, watching}
use Rattle.gw_meaning.specs.Watching.{transactions_of}
use Rattle.gw_frame.proofs.Known.{IsDecided}
use Rattle.gw_frame.proofs.Moves.{settled, with_active_has, entered_has, picked_has}
use Rattle.gw_frame.proofs.UserChains.{members_at, members_with}
use Rattle.gw_frame.proofs.Running.{over_run}
use Rattle.gw_laws.specs.Places.{Place, Active, OnCurrent, OnFuture, OnDelay, OnRetry, OnUserChain, who_stands, EachHasAPlace, EachHasOnePlace}
use Rattle.gw_laws.proofs.Entries.{AreOnce, with_once}
use Rattle.gw_laws.proofs.Waiting.{let_in_is}
use Rattle.gw_laws.proofs.Crowd.{many, many_has, many_append, active_many, many_active, future_many, many_future, crowd}
use Rattle.gw_laws.proofs.NumberLaws.{has_number, all_numbered}
use Rattle.gw_laws.specs.Living.{living}
use Rattle.gw_laws.proofs.Anew.{members_anew}

-- ---- in no other place

has_one : (k : ℕ) (xs : List Transaction) (x : Transaction) → Contains xs x → x.number ≡ k → 1 ≤ many (has_number k) xs
has_one k xs x there is = many_has (has_number k) xs x there (eq-eqb x.number k is)

module _ (test : Transaction → Bool) where
  -- how many stand in a place
  abbrev share : Machine → Place → ℕ
  share s Active = active_many test s.active
  share s OnCurrent = many test s.current
  share s OnFuture = future_many test s.future
  share s (OnDelay key) = many test (delay_at s.delays key)
  share s OnRetry = many test (transactions_of s.retry)
  share s (OnUserChain key) = many test (user_chain_at s.linked key).members

  share_is : (s : Machine) (p : Place) → many test (who_stands s p) ≡ share s p
  share_is s Active = many_active test s.active
  share_is s OnCurrent = refl
  share_is s OnFuture = many_future test s.future
  share_is s (OnDelay key) = refl
  share_is s OnRetry = refl
  share_is s (OnUserChain key) = refl

  -- those on one delay chain, and on two of them, are among those who wait
  delay_share : (ds : List (Key × List Transaction)) (key : Key) → many test (delay_at ds key) ≤ many test (waiting ds)
  delay_share [] key = omega arith
  delay_share (d ∷ ds) key = go (key_eq key d.0) (delay_share ds key) where
    go : (b : Bool) → many test (delay_at ds key) ≤ many test (waiting ds) →
        many test (unwrap_or (cond b (Some d.1) (value_of ds key)) []) ≤ many test (waiting (d ∷ ds))
    go true rest = let both = many_append test d.1 (waiting ds) in omega arith
    go false rest = let both = many_append test d.1 (waiting ds) in omega arith

  two_grants : (ds : List (Key × List Transaction)) (key other : Key) → key_eq key other ≡ false →
      many test (delay_at ds key) + many test (delay_at ds other) ≤ many test (waiting ds)
  two_grants [] key other apart = omega arith
  two_grants (d ∷ ds) key other apart =
      go (key_eq key d.0) refl (key_eq other d.0) refl (delay_share ds key) (delay_share ds other) (two_grants ds key other apart)
    where
      go : (a : Bool) → key_eq key d.0 ≡ a → (b : Bool) → key_eq other d.0 ≡ b → many test (delay_at ds key) ≤ many test (waiting ds) →
          many test (delay_at ds other) ≤ many test (waiting ds) → many test (delay_at ds key) + many test (delay_at ds other) ≤ many test (waiting ds) →
          many test (unwrap_or (cond a (Some d.1) (value_of ds key)) []) + many test (unwrap_or (cond b (Some d.1) (value_of ds other)) [])
          ≤ many test (waiting (d ∷ ds))
      go true f true g first second rest =
          absurd (let same : key ≡ other = key_same key d.0 f ∙ sym (key_same other d.0 g) in
          let is : key_eq key other ≡ true = ap (key_eq key) (sym same) ∙ key_eq_equiv.refl key in
          let clash : false ≡ true = sym apart ∙ is in cc)
      go true f false g first second rest = let both = many_append test d.1 (waiting ds) in omega arith
      go false f true g first second rest = let both = many_append test d.1 (waiting ds) in omega arith
      go false f false g first second rest = let both = many_append test d.1 (waiting ds) in omega arith

  -- the same of user chains
  chain_share : (cs : List (Key × UserChain)) (key : Key) → many test (user_chain_at cs key).members ≤ many test (waiting (members_of cs))
  chain_share cs key =
      let chain = ap (many test) (members_at cs key) in
      let some = delay_share (members_of cs) key in
      omega arith

  two_chains : (cs : List (Key × UserChain)) (key other : Key) → key_eq key other ≡ false →
      many test (user_chain_at cs key).members + many test (user_chain_at cs other).members ≤ many test (waiting (members_of cs))
  two_chains cs key other apart =
      let chain = ap (many test) (members_at cs key) in
      let second = ap (many test) (members_at cs other) in
      let some = two_grants (members_of cs) key other apart in
      omega arith

  -- those in a place are among those in all places of its kind
  abbrev part : Machine → Place → ℕ
  part s (OnDelay key) = many test (waiting s.delays)
  part s (OnUserChain key) = many test (waiting (members_of s.linked))
  part s p = share s p

  share_in : (s : Machine) (p : Place) → share s p ≤ part s p
  share_in s (OnDelay key) = delay_share s.delays key
  share_in s (OnUserChain key) = chain_share s.linked key
  share_in s p = omega arith

  -- where at most one passes, the place of one who passes is the only one
  one_place : (s : Machine) (p q : Place) → crowd test s ≤ 1 → 1 ≤ share s p → 1 ≤ share s q → p ≡ q
  one_place s Active Active once here there = refl
  one_place s OnCurrent OnCurrent once here there = refl
  one_place s OnFuture OnFuture once here there = refl
  one_place s OnRetry OnRetry once here there = refl
  one_place s (OnDelay key) (OnDelay other) once here there =
      elim (cases_Bool (key_eq key other)) [
        | inl is ↦ ap (λ k. OnDelay k) (key_same key other is)
        | inr apart ↦ absurd (let some = two_grants s.delays key other apart in omega (arith, once, here, there, some))
      ]
  one_place s (OnUserChain key) (OnUserChain other) once here there =
      elim (cases_Bool (key_eq key other)) [
        | inl is ↦ ap (λ k. OnUserChain k) (key_same key other is)
        | inr apart ↦ absurd (let some = two_chains s.linked key other apart in omega (arith, once, here, there, some))
      ]
  one_place s p q once here there =
      absurd (let first = share_in s p in let second = share_in s q in omega (arith, once, here, there, first, second))

pub each_has_one_place : EachHasOnePlace
each_has_one_place t seed n s well within is p q x y here there same =
    let k = x.number in
    let once = (all_numbered t seed well n s is within).apart k in
    let first = has_one k (who_stands s p) x here refl in
    let second = has_one k (who_stands s q) y there (sym same) in
    let one_grant = share_is (has_number k) s p in
    let other_grant = share_is (has_number k) s q in
    one_place (has_number k) s p q once (omega arith) (omega arith)

-- ---- in some place: no key has two delay chains, and none two user chains

chain_once : (cs : List (Key × UserChain)) (key : Key) (c : UserChain) → AreOnce (members_of cs) → AreOnce (members_of (with_value cs key c))
chain_once cs key c all = rw (members_with cs key c) (with_once (members_of cs) key c.members all)

abbrev ChainsAreOnce : Machine → Type 0
ChainsAreOnce s = AreOnce s.delays × AreOnce (members_of s.linked)

settled_once : (s : Machine) (x : Transaction) (id : ℕ) (change : Change) (fate : Fate) → ChainsAreOnce s → ChainsAreOnce (settled s x id change fate)
settled_once s x id change (fates.Linked key discipline) h = (h.0, chain_once s.linked key _ h.1)
settled_once s x id change fate h = h

moved_once : (t : Listing) (s : Machine) (m : Move) → IsDecided t s m → ChainsAreOnce s → ChainsAreOnce (moved s m)
moved_once t s moves.Reset decided h = (h.0, subst AreOnce (sym (members_anew s.linked)) h.1)
moved_once t s moves.Clear decided h = (tt, tt)
moved_once t s (moves.Enter id change fate) decided h =
    entered_has ChainsAreOnce ChainsAreOnce t s id change fate decided.1 h (λ x is. settled_once s x id change fate h)
    (λ v. record {
      nothing = λ k. k;
      one = λ a coming k. k;
      lets = λ w key x passed xs is k.
          (let same = let_in_is key x (passed ++ xs) w in rw (same.delays, same.linked) (with_once w.delays key (passed ++ xs) k.0, k.1));
      copies = λ w to x values copying k. k;
      unlinks = λ w key to x xs named is k. (k.0, chain_once w.linked key _ k.1);
    })
moved_once t s (moves.Refuse id key units) decided h =
    with_active_has ChainsAreOnce s.active (λ x. refused s x id key units) s h (λ x is. (with_once s.delays key _ h.0, h.1))
moved_once t s (moves.Watch read) decided h = with_active_has ChainsAreOnce s.active (λ x. watching s x read) s h (λ x is. h)
moved_once t s moves.Pick decided h = picked_has ChainsAreOnce s s.current h (λ x xs is. h)
moved_once t s m decided h = h

-- whoever waits stands on the delay chain of some key
who_waits : (ds : List (Key × List Transaction)) (x : Transaction) → AreOnce ds → Contains (waiting ds) x → (key : Key) × Contains (delay_at ds key) x
who_waits [] x all there = absurd (omega (arith, there.1))
who_waits (d ∷ ds) x all there =
    elim (Contains-append_cases d.1 (waiting ds) x there) [
      | inl here ↦ (d.0, rw (key_eq_equiv.refl d.0) here)
      | inr behind ↦ go (who_waits ds x all.1 behind)
    ]
  where
    go : ((key : Key) × Contains (delay_at ds key) x) → (key : Key) × Contains (delay_at (d ∷ ds) key) x
    go (key, stands) =
        elim (cases_Bool (key_eq key d.0)) [
          | inl is ↦ absurd (
              let none : delay_at ds key ≡ [] = ap (delay_at ds) (key_same key d.0 is) ∙ ap (λ o. unwrap_or o []) all.0 in
              let gone : Contains [] x = subst (λ ys. Contains ys x) none stands in
              omega (arith, gone.1))
          | inr other ↦ (key, rw other stands)
        ]

some_place : (s : Machine) (x : Transaction) → ChainsAreOnce s → Contains (living s) x → (p : Place) × Contains (who_stands s p) x
some_place s x once there =
    let events = map (λ (e : Event). e.transaction) s.future in
    let change = transactions_of s.retry ++ waiting (members_of s.linked) in
    let wait = waiting s.delays ++ change in
    elim (Contains-append_cases (option_to_list s.active) (s.current ++ (events ++ wait)) x there) [
      | inl here ↦ (Active, here)
      | inr behind ↦ elim (Contains-append_cases s.current (events ++ wait) x behind) [
        | inl here ↦ (OnCurrent, here)
        | inr further ↦ elim (Contains-append_cases events wait x further) [
          | inl here ↦ (OnFuture, here)
          | inr waits ↦ elim (Contains-append_cases (waiting s.delays) change x waits) [
            | inl delayed ↦ let chain = who_waits s.delays x once.0 delayed in (OnDelay chain.0, chain.1)
            | inr last ↦ elim (Contains-append_cases (transactions_of s.retry) (waiting (members_of s.linked)) x last) [
              | inl retries ↦ (OnRetry, retries)
              | inr linked ↦
                  let chain = who_waits (members_of s.linked) x once.1 linked in
                  (OnUserChain chain.0, subst (λ xs. Contains xs x) (members_at s.linked chain.0) chain.1)
            ]
          ]
        ]
      ]
    ]

pub each_has_a_place : EachHasAPlace
each_has_a_place t seed n s is x there =
    some_place s x (over_run t seed (λ n v. ChainsAreOnce v) (tt, tt) (λ n v m streams at decided h. moved_once t v m decided h) n s is) there
