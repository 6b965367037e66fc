-- How many of the living transactions pass a test: what a move does to the chains, it does not do to their number.
use Rattle.std.proofs.Common.{◌≡◌, ℕ, ℤ, zero, suc, ◌+◌, Bool, true, false, cond, not, ◌≤◌, List, [], ◌∷◌, ◌++◌, map, filter, Option, Some, None, unwrap_or, refl, ap, ◌∙◌, inl, inr, arith}
use Rattle.std.specs.Prelude.{Contains, option_to_list, count_by}
use Rattle.std.proofs.lemmas.Bool.{cond_both, cases_Bool}
use Rattle.std.proofs.lemmas.List.Recursion.{is_count_by}
use Rattle.gw_nums.specs.Range.{is_below}
use Rattle.gw_names.specs.declared.key.Key.{Key}
use Rattle.gw_names.specs.Keys.{key_eq}
use Rattle.gw_meaning.specs.Tables.{value_of, with_value}
use Rattle.gw_meaning.specs.declared.transaction.Transaction.{Transaction}
use Rattle.gw_meaning.specs.declared.transaction.Event.{Event}
use Rattle.gw_meaning.specs.declared.moves.Change.{Change}
use Rattle.gw_meaning.specs.declared.moves.Fate.{Fate}
use Rattle.gw_meaning.specs.declared.moves.Fate.TheVariants as fates
use Rattle.gw_expr.specs.declared.expr.Discipline.{Discipline}
use Rattle.gw_expr.specs.declared.expr.Discipline.TheVariants as disciplines
use Rattle.gw_meaning.specs.Machine.{Machine, UserChain, delay_at, waiting, members_of, user_chain_at}
use Rattle.gw_meaning.specs.Changes.{lined_up, all_lined_up, is_due, due, placed, marked, joined, linked_to, fated, let_in, one_let_in, copied, one_copied, sent, one_unlinked, with_members, bound, refused, picked, advanced, watching, is_woken, woken}
use Rattle.gw_meaning.specs.declared.watched.Watched.{Watched}
use Rattle.gw_meaning.specs.Watching.{Waiter, transactions_of}
use Rattle.gw_frame.proofs.Moves.{settled}
use Rattle.gw_frame.proofs.UserChains.{members_at, members_with}
use Rattle.gw_laws.specs.Living.{living}
use Rattle.gw_laws.proofs.Waiting.{leaving, let_in_as}

-- 1 where a test is passed
abbrev pub one : Bool → ℕ
one b = cond b 1 0

-- what a fate leaves of a number that counts the transaction
abbrev pub remains : Fate → ℕ → ℕ
remains (fates.Destroyed count) n = 0
remains fate n = n

pub remains_less : (fate : Fate) (n : ℕ) → remains fate n ≤ n
remains_less fates.Active n = omega arith
remains_less fate n = omega arith

module _ (test : Transaction → Bool) where
  -- of a list
  abbrev pub many : List Transaction → ℕ
  many [] = 0
  many (x ∷ xs) = one (test x) + many xs

  -- of the active one, where there is one
  abbrev pub active_many : Option Transaction → ℕ
  active_many None = 0
  active_many (Some x) = one (test x)

  -- of the future chain
  abbrev pub future_many : List Event → ℕ
  future_many [] = 0
  future_many (e ∷ es) = one (test e.transaction) + future_many es

  -- of all the living but the active one, and of all
  abbrev pub others : Machine → ℕ
  others s =
      many s.current + future_many s.future + many (waiting s.delays) + many (transactions_of s.retry) + many (waiting (members_of s.linked))

  abbrev pub crowd : Machine → ℕ
  crowd s = active_many s.active + others s

  -- where there is an active one
  pub active_crowd : (s : Machine) (x : Transaction) → s.active ≡ Some x → crowd s ≡ one (test x) + others s
  active_crowd s x is = let here = ap active_many is in omega arith

  -- whoever is on a list and passes is counted
  pub many_has : (xs : List Transaction) (x : Transaction) → Contains xs x → test x ≡ true → 1 ≤ many xs
  many_has [] x there passes = absurd (omega (arith, there.1))
  many_has (y ∷ ys) x (zero, within, same) passes =
      let here : one (test y) ≡ 1 = ap one (ap test same ∙ passes) in
      omega arith
  many_has (y ∷ ys) x (suc i, within, same) passes =
      let rest = many_has ys x (i, omega (arith, within), same) passes in omega arith

  pub many_append : (xs ys : List Transaction) → many (xs ++ ys) ≡ many xs + many ys
  many_append [] ys = omega arith
  many_append (x ∷ xs) ys = let rest = many_append xs ys in omega arith

  pub many_active : (o : Option Transaction) → many (option_to_list o) ≡ active_many o
  many_active None = refl
  many_active (Some x) = omega arith

  pub many_future : (es : List Event) → many (map (λ (e : Event). e.transaction) es) ≡ future_many es
  many_future [] = refl
  many_future (e ∷ es) = let rest = many_future es in omega arith

  pub many_living : (s : Machine) → many (living s) ≡ crowd s
  many_living s =
      let events = map (λ (e : Event). e.transaction) s.future in
      let change = transactions_of s.retry ++ waiting (members_of s.linked) in
      let wait = waiting s.delays ++ change in
      let whole = many_append (option_to_list s.active) (s.current ++ (events ++ wait)) in
      let chains = many_append s.current (events ++ wait) in
      let behind = many_append events wait in
      let delayed = many_append (waiting s.delays) change in
      let last = many_append (transactions_of s.retry) (waiting (members_of s.linked)) in
      let one' = many_active s.active in
      let future = many_future s.future in
      omega arith

  one_or_not : (b : Bool) (n : ℕ) → one b + n ≡ cond b (1 + n) n
  one_or_not true n = refl
  one_or_not false n = omega arith

  pub many_is : (xs : List Transaction) → many xs ≡ count_by test xs
  many_is = is_count_by many test refl (λ x xs. one_or_not (test x) (many xs))

  pub many_lined : (x : Transaction) (ys : List Transaction) → many (lined_up x ys) ≡ one (test x) + many ys
  many_lined x [] = refl
  many_lined x (y ∷ ys) =
      let rest = many_lined x ys in
      cond_both (is_below y.priority x.priority) (x ∷ y ∷ ys) (y ∷ lined_up x ys) (λ zs. many zs ≡ one (test x) + (one (test y) + many ys)) (λ _. refl)
      (λ _. omega arith)

  pub many_all_lined : (xs ys : List Transaction) → many (all_lined_up xs ys) ≡ many xs + many ys
  many_all_lined [] ys = omega arith
  many_all_lined (x ∷ xs) ys =
      let first = many_lined x ys in
      let rest = many_all_lined xs (lined_up x ys) in
      omega arith

  pub future_push : (es : List Event) (e : Event) → future_many (es ++ e ∷ []) ≡ future_many es + one (test e.transaction)
  future_push [] e = omega arith
  future_push (d ∷ ds) e = let rest = future_push ds e in omega arith

  pub future_parts : (time : ℕ) (es : List Event) → many (due time es) + future_many (filter (λ e. not (is_due time e)) es) ≡ future_many es
  future_parts time [] = refl
  future_parts time (e ∷ es) =
      let rest = future_parts time es in
      elim (cases_Bool (is_due time e)) [ inl now ↦ rw now (omega arith) | inr later ↦ rw later (omega arith) ]

  -- picking and the clock move transactions about
  pub picked_crowd : (s : Machine) (x : Transaction) (xs : List Transaction) → s.active ≡ None → s.current ≡ x ∷ xs → crowd (picked s (x ∷ xs)) ≡ crowd s
  picked_crowd s x xs none is = rw (none, is) (omega arith)

  pub advanced_crowd : (s : Machine) (time : ℕ) → crowd (advanced s time) ≡ crowd s
  advanced_crowd s time =
      let chains = many_all_lined (due time s.future) s.current in
      let parts = future_parts time s.future in
      omega arith

  -- those who wait, with another delay chain in the place of one
  pub waiting_with : (ds : List (Key × List Transaction)) (key : Key) (xs : List Transaction) →
      many (waiting (with_value ds key xs)) + many (delay_at ds key) ≡ many (waiting ds) + many xs
  waiting_with [] key xs = let whole = many_append xs [] in omega arith
  waiting_with (d ∷ ds) key xs = go (key_eq key d.0) (waiting_with ds key xs) where
    go : (b : Bool) → many (waiting (with_value ds key xs)) + many (delay_at ds key) ≡ many (waiting ds) + many xs →
        many (waiting (cond b ((d.0, xs) ∷ ds) (d ∷ with_value ds key xs))) + many (unwrap_or (cond b (Some d.1) (value_of ds key)) [])
        ≡ many (waiting (d ∷ ds)) + many xs
    go true rest =
        let before = many_append d.1 (waiting ds) in
        let after = many_append xs (waiting ds) in
        omega arith
    go false rest =
        let before = many_append d.1 (waiting ds) in
        let after = many_append d.1 (waiting (with_value ds key xs)) in
        omega arith

  -- those who are linked, with another user chain in the place of one
  pub linked_with : (cs : List (Key × UserChain)) (key : Key) (c : UserChain) →
      many (waiting (members_of (with_value cs key c))) + many (user_chain_at cs key).members ≡ many (waiting (members_of cs)) + many c.members
  linked_with cs key c =
      let chains = waiting_with (members_of cs) key c.members in
      let all = ap (λ ds. many (waiting ds)) (members_with cs key c) in
      let was = ap many (members_at cs key) in
      omega arith

  many_joined : (discipline : Discipline) (x : Transaction) (xs : List Transaction) → many (joined discipline x xs) ≡ one (test x) + many xs
  many_joined disciplines.Fifo x xs = let push = many_append xs (x ∷ []) in omega arith
  many_joined disciplines.Lifo x xs = refl

  -- one more copy is one more
  pub copied_crowd : (to : Option ℕ) (x : Transaction) (values : List (Key × ℤ)) (s : Machine) →
      crowd (one_copied to x values s) ≡ one (test (copied x s.next to)) + crowd s
  copied_crowd to x values s = let more = many_lined (copied x s.next to) s.current in omega arith

  -- whoever is unlinked leaves a user chain for the current one
  pub less_linked : (s : Machine) (key : Key) (x : Transaction) (xs : List Transaction) → (user_chain_at s.linked key).members ≡ x ∷ xs →
      many (waiting (members_of (with_members s.linked key xs))) + one (test x) ≡ many (waiting (members_of s.linked))
  less_linked s key x xs is =
      let chains = linked_with s.linked key (record { entries = (user_chain_at s.linked key).entries; members = xs }) in
      let chain = ap many is in
      omega arith

  pub sent_crowd : (s : Machine) (key : Key) (to : Option ℕ) (x : Transaction) (xs : List Transaction) → (user_chain_at s.linked key).members ≡ x ∷ xs →
      crowd (one_unlinked key to x xs s) + one (test x) ≡ crowd s + one (test (sent to x))
  sent_crowd s key to x xs is =
      let more = many_lined (sent to x) s.current in
      let less = less_linked s key x xs is in
      omega arith

  pub unlinked_crowd : (s : Machine) (key : Key) (to : Option ℕ) (x : Transaction) (xs : List Transaction) →
      (user_chain_at s.linked key).members ≡ x ∷ xs → test (sent to x) ≡ test x → crowd (one_unlinked key to x xs s) ≡ crowd s
  unlinked_crowd s key to x xs is same =
      let whole = sent_crowd s key to x xs is in
      let one' = ap one same in
      omega arith

  -- so does refusing the active one, who waits from then on
  pub refused_crowd : (s : Machine) (x : Transaction) (id : ℕ) (key : Key) (units : ℕ) → s.active ≡ Some x → test (bound x id units) ≡ test x →
      crowd (refused s x id key units) ≡ crowd s
  refused_crowd s x id key units is same =
      let was = active_crowd s x is in
      let one' = ap one same in
      let more = many_lined (bound x id units) (delay_at s.delays key) in
      let chains = waiting_with s.delays key (lined_up (bound x id units) (delay_at s.delays key)) in
      omega arith

  -- so do waiting for a change, and waking
  many_push : (ws : List Waiter) (w : Waiter) → many (transactions_of (ws ++ w ∷ [])) ≡ many (transactions_of ws) + one (test w.transaction)
  many_push [] w = omega arith
  many_push (v ∷ vs) w = let rest = many_push vs w in omega arith

  pub watching_crowd : (s : Machine) (x : Transaction) (read : List Watched) → s.active ≡ Some x → crowd (watching s x read) ≡ crowd s
  watching_crowd s x read is =
      let was = active_crowd s x is in
      let push = many_push s.retry (record { transaction = x; read = read }) in
      omega arith

  pub waiters_parts : (p : Waiter → Bool) (ws : List Waiter) →
      many (transactions_of (filter p ws)) + many (transactions_of (filter (λ w. not (p w)) ws)) ≡ many (transactions_of ws)
  waiters_parts p [] = refl
  waiters_parts p (w ∷ ws) =
      let rest = waiters_parts p ws in
      elim (cases_Bool (p w)) [ inl is ↦ rw is (omega arith) | inr other ↦ rw other (omega arith) ]

  pub woken_crowd : (list : List Watched) (s : Machine) → crowd (woken list s) ≡ crowd s
  woken_crowd list s =
      let chains = many_all_lined (transactions_of (filter (is_woken list) s.retry)) s.current in
      let parts = waiters_parts (is_woken list) s.retry in
      omega arith

  -- so does letting in one of a delay chain, who leaves it and comes onto the current chain
  pub many_without : (passed : List Transaction) (x : Transaction) (xs : List Transaction) → many (passed ++ x ∷ xs) ≡ one (test x) + many (passed ++ xs)
  many_without passed x xs =
      let whole = many_append passed (x ∷ xs) in
      let rest = many_append passed xs in
      omega arith

  pub leaving_crowd : (s : Machine) (key : Key) (x : Transaction) (passed xs : List Transaction) → delay_at s.delays key ≡ passed ++ x ∷ xs →
      crowd s ≡ one (test x) + crowd (leaving s key (passed ++ xs))
  leaving_crowd s key x passed xs is =
      let chains = waiting_with s.delays key (passed ++ xs) in
      let chain = ap many is in
      let less = many_without passed x xs in
      omega arith

  pub let_in_crowd : (x : Transaction) (to : Option ℕ) (s : Machine) → crowd (let_in x to s) ≡ one (test (let_in_as x to)) + crowd s
  let_in_crowd x None s = let more = many_lined x s.current in omega arith
  let_in_crowd x (Some id) s = let more = many_lined (placed x id) s.current in omega arith

  pub lets_crowd : (s : Machine) (key : Key) (x : Transaction) (passed xs : List Transaction) → delay_at s.delays key ≡ passed ++ x ∷ xs →
      test (let_in_as x x.destination) ≡ test x → crowd (one_let_in key x (passed ++ xs) s) ≡ crowd s
  lets_crowd s key x passed xs is same =
      let before = leaving_crowd s key x passed xs is in
      let after = let_in_crowd x x.destination (leaving s key (passed ++ xs)) in
      let one' = ap one same in
      omega arith

  -- so does entering a block, but for a transaction that is destroyed
  fated_crowd : (fate : Fate) (x : Transaction) (s : Machine) → crowd (fated fate x s) ≡ remains fate (one (test x)) + others s
  fated_crowd fates.Active x s = omega arith
  fated_crowd fates.Current x s = let more = many_lined x s.current in omega arith
  fated_crowd (fates.Delayed until) x s = let push = future_push s.future (record { time = until; transaction = x }) in omega arith
  fated_crowd (fates.Linked key discipline) x s =
      let chains = linked_with s.linked key (linked_to discipline x (user_chain_at s.linked key)) in
      let more = many_joined discipline x (user_chain_at s.linked key).members in
      omega arith
  fated_crowd (fates.Destroyed count) x s = omega arith

  pub settled_crowd : (s : Machine) (x : Transaction) (id : ℕ) (change : Change) (fate : Fate) → crowd (settled s x id change fate) ≡
      remains fate (one (test (marked change s.clock (placed x id)))) + others s
  settled_crowd s x id change fate = fated_crowd fate (marked change s.clock (placed x id)) _

  -- whoever is linked comes onto a user chain
  pub settled_linked : (s : Machine) (x : Transaction) (id : ℕ) (change : Change) (fate : Fate) →
      many (waiting (members_of (settled s x id change fate).linked)) ≤
      one (test (marked change s.clock (placed x id))) + many (waiting (members_of s.linked))
  settled_linked s x id change (fates.Linked key discipline) =
      let y = marked change s.clock (placed x id) in
      let chains = linked_with s.linked key (linked_to discipline y (user_chain_at s.linked key)) in
      let more = many_joined discipline y (user_chain_at s.linked key).members in
      omega arith
  settled_linked s x id change fate = omega arith

  pub settled_fewer : (s : Machine) (x : Transaction) (id : ℕ) (change : Change) (fate : Fate) → s.active ≡ Some x →
      test (marked change s.clock (placed x id)) ≡ test x → crowd (settled s x id change fate) ≤ crowd s
  settled_fewer s x id change fate is same =
      let was = active_crowd s x is in
      let now = settled_crowd s x id change fate in
      let less = remains_less fate (one (test (marked change s.clock (placed x id)))) in
      let one' = ap one same in
      omega arith
