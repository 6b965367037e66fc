-- The user chains by key: what linking and unlinking makes of them.
use Rattle.std.proofs.Common.{◌≡◌, ℕ, zero, suc, ◌+◌, ◌-◌, ◌≤◌, Bool, true, false, cond, List, [], ◌∷◌, ◌++◌, length, map, take, drop, set, Option, Some, None, unwrap_or, get_or, refl, sym, ap, ◌∙◌, arith}
use Rattle.std.proofs.lemmas.List.{length-append, length-drop, length-map, length-set}
use Rattle.std.specs.List.{IsDistinct, zip}
use Rattle.indexmap.specs.IndexSet.{insert_key}
use Rattle.gw_expr.specs.declared.expr.Discipline.{Discipline}
use Rattle.gw_expr.specs.declared.expr.Discipline.TheVariants as disciplines
use Rattle.gw_names.specs.declared.key.Key.{Key}
use Rattle.gw_names.specs.Keys.{key_eq}
use Rattle.gw_meaning.specs.Tables.{value_of, with_value, IsPlace}
use Rattle.gw_entities.proofs.Anew.{zip_anew}
use Rattle.gw_entities.proofs.Entries.{pushed_is}
use Rattle.gw_entities.proofs.TableLaws.{set_value_is}
use Rattle.gw_meaning.specs.declared.transaction.Transaction.{Transaction}
use Rattle.gw_meaning.specs.Changes.{lined_up, all_lined_up, joined, linked_to, sent, one_unlinked, some_unlinked, user_chain_anew}
use Rattle.gw_meaning.specs.Machine.{Machine, UserChain, no_chain, user_chain_at, members_of, delay_at, waiting}
use Rattle.gw_chains.specs.UserChains.{AreLinked}
use Rattle.gw_chains.proofs.DelayLaws.{waiting_with}
use Rattle.gw_entities.proofs.Keyed.{value_there, set_beside, no_key_beside, zip_more, apart_beside, with_same, with_again, value_set}

abbrev Linked : Type 0
Linked = List (Key × UserChain)

-- ---- who is on each, as on delay chains

pub members_with : (l : Linked) (key : Key) (c : UserChain) → members_of (with_value l key c) ≡ with_value (members_of l) key c.members
members_with [] key c = refl
members_with (d ∷ ds) key c = go (key_eq key d.0) (members_with ds key c) where
  go : (b : Bool) → members_of (with_value ds key c) ≡ with_value (members_of ds) key c.members →
      members_of (cond b ((d.0, c) ∷ ds) (d ∷ with_value ds key c)) ≡
      cond b ((d.0, c.members) ∷ members_of ds) ((d.0, d.1.members) ∷ with_value (members_of ds) key c.members)
  go true h = refl
  go false h = ap (λ (m : List (Key × List Transaction)). (d.0, d.1.members) ∷ m) h

pub members_at : (l : Linked) (key : Key) → delay_at (members_of l) key ≡ (user_chain_at l key).members
members_at [] key = refl
members_at (d ∷ ds) key = go (key_eq key d.0) (members_at ds key) where
  go : (b : Bool) → delay_at (members_of ds) key ≡ (user_chain_at ds key).members →
      unwrap_or (cond b (Some d.1.members) (value_of (members_of ds) key)) [] ≡ (unwrap_or (cond b (Some d.1) (value_of ds key)) no_chain).members
  go true h = refl
  go false h = h

-- how many are on all, with another chain in the place of one
pub count_with : (l : Linked) (key : Key) (c : UserChain) →
    length (waiting (members_of (with_value l key c))) + length (user_chain_at l key).members ≡ length (waiting (members_of l)) + length c.members
count_with l key c = rw (members_with l key c, ← members_at l key) (waiting_with (members_of l) key c.members)

-- ---- one that is linked

joined_length : (d : Discipline) (x : Transaction) (xs : List Transaction) → length (joined d x xs) ≡ length xs + 1
joined_length disciplines.Fifo x xs = length-append xs (x ∷ [])
joined_length disciplines.Lifo x xs = omega arith

pub one_more : (l : Linked) (key : Key) (d : Discipline) (x : Transaction) (n : ℕ) → n ≡ length (waiting (members_of l)) →
    n + 1 ≡ length (waiting (members_of (with_value l key (linked_to d x (user_chain_at l key)))))
one_more l key d x n is =
    let both = count_with l key (linked_to d x (user_chain_at l key)) in
    let longer = joined_length d x (user_chain_at l key).members in
    omega (arith, both, longer, is)

-- the chain at an index
pub chain_there : (ks : List Key) (cs : List UserChain) (i : ℕ) (key : Key) (c : UserChain) → IsPlace (zip ks cs) key (Some i) → c ≡ get_or cs i c →
    user_chain_at (zip ks cs) key ≡ c
chain_there ks cs i key c there read = ap (λ o. unwrap_or o no_chain) (value_there ks cs i key c there read)

pub written_chain : (ks : List Key) (cs : List UserChain) (i : ℕ) (key : Key) (c : UserChain) → IsDistinct key_eq ks → length cs ≡ length ks →
    IsPlace (zip ks cs) key (Some i) → zip ks (set cs i c) ≡ with_value (zip ks cs) key c
written_chain ks cs i key c apart long there =
    set_beside ks cs i key c apart (omega (arith, long)) there ∙ set_value_is (zip ks cs) key c there.0 there.2

pub written_linked : (ks : List Key) (cs : List UserChain) (i : ℕ) (key : Key) (c : UserChain) (before after : ℕ) → AreLinked ks cs before →
    IsPlace (zip ks cs) key (Some i) → after ≡ length (waiting (members_of (with_value (zip ks cs) key c))) → AreLinked ks (set cs i c) after
written_linked ks cs i key c before after kept there counted = record {
  apart = kept.apart;
  beside = length-set cs i c ∙ kept.beside;
  counted = counted ∙ ap (λ l. length (waiting (members_of l))) (sym (written_chain ks cs i key c kept.apart kept.beside there));
}

-- the first that is linked to a chain
pub record Begun (ks js : List Key) (cs ds : List UserChain) (key : Key) (c : UserChain) (count : ℕ) : Type 0 where
  pub chains : zip js ds ≡ with_value (zip ks cs) key c
  pub kept : AreLinked js ds count

pub begun : (ks js : List Key) (cs : List UserChain) (key : Key) (c : UserChain) (before after : ℕ) → AreLinked ks cs before →
    value_of (zip ks cs) key ≡ None → js ≡ insert_key key_eq ks key → after ≡ length (waiting (members_of (with_value (zip ks cs) key c))) →
    Begun ks js cs (cs ++ c ∷ []) key c after
begun ks js cs key c before after kept none keys counted =
    let beside = kept.beside in
    let long : length ks ≤ length cs = omega (arith, beside) in
    let new : js ≡ ks ++ key ∷ [] = keys ∙ ap (λ b. cond b ks (ks ++ key ∷ [])) (no_key_beside ks cs key long none) in
    let chains : zip (ks ++ key ∷ []) (cs ++ c ∷ []) ≡ with_value (zip ks cs) key c = zip_more ks cs key c beside ∙ sym (pushed_is (zip ks cs) key c none) in
    rw new (record {
      chains = chains;
      kept = record {
        apart = apart_beside ks cs key c kept.apart long none;
        beside = omega (arith, length-append cs (c ∷ []), length-append ks (key ∷ []), beside);
        counted = counted ∙ ap (λ l. length (waiting (members_of l))) (sym chains);
      };
    })

pub none_linked : (ks : List Key) (cs : List UserChain) → ks ≡ [] → cs ≡ [] → AreLinked ks cs 0
unfolding IsDistinct
none_linked ks cs no_key no_chain = rw (no_key, no_chain) (record { apart = tt; beside = refl; counted = refl })

-- ---- those who leave

-- nobody is on it
pub nobody_leaves : (n : ℕ) (key : Key) (to : Option ℕ) (s : Machine) → some_unlinked n key to [] s ≡ s
nobody_leaves zero key to s = refl
nobody_leaves (suc n) key to s = refl

-- the chain that is there again changes nothing
same_chain : (s : Machine) (key : Key) (c : UserChain) → value_of s.linked key ≡ Some c → s ≡ record s { linked = with_value s.linked key c }
same_chain s key c h = ap (λ (l : Linked). record s { linked = l }) (sym (with_same s.linked key c h))

-- taken off first, and lined up then
some_leave : (n : ℕ) (key : Key) (to : Option ℕ) (e : ℕ) (xs : List Transaction) (s : Machine) → value_of s.linked key ≡ Some (record { entries = e; members = xs }) →
    some_unlinked n key to xs s ≡ record s {
      current = all_lined_up (map (sent to) (take n xs)) s.current;
      linked = with_value s.linked key (record { entries = e; members = drop n xs });
    }
some_leave zero key to e [] s h = same_chain s key _ h
some_leave zero key to e (x ∷ xs) s h = same_chain s key _ h
some_leave (suc n) key to e [] s h = same_chain s key _ h
some_leave (suc n) key to e (x ∷ xs) s h =
    let c : UserChain = record { entries = e; members = xs } in
    let chain : Linked = with_value s.linked key c in
    let t : Machine = record s { current = lined_up (sent to x) s.current; linked = chain } in
    let first : one_unlinked key to x xs s ≡ t =
    ap (λ (o : Option UserChain). record s {
      current = lined_up (sent to x) s.current;
      linked = with_value s.linked key (record { entries = (unwrap_or o no_chain).entries; members = xs });
    }) h in
    ap (some_unlinked n key to xs) first ∙
    (some_leave n key to e xs t (value_set s.linked key c) ∙
    ap (λ (l : Linked). record s { current = all_lined_up (map (sent to) (take n xs)) t.current; linked = l }) (with_again s.linked key c (record { entries = e; members = drop n xs })))

pub some_unlinked_is : (n : ℕ) (key : Key) (to : Option ℕ) (c : UserChain) (s : Machine) → value_of s.linked key ≡ Some c →
    some_unlinked n key to c.members s ≡ record s {
      current = all_lined_up (map (sent to) (take n c.members)) s.current;
      linked = with_value s.linked key (record { entries = c.entries; members = drop n c.members });
    }
some_unlinked_is n key to c s h = some_leave n key to c.entries c.members s h

pub no_more_leave : (n : ℕ) → (◌≡◌ {A = List Transaction} (drop n []) []) × (◌≡◌ {A = List Transaction} (take n []) [])
no_more_leave zero = (refl, refl)
no_more_leave (suc n) = (refl, refl)

-- how many are on all after it
pub fewer : (l : Linked) (key : Key) (c : UserChain) (n count gone : ℕ) → value_of l key ≡ Some c → count ≡ length (waiting (members_of l)) →
    gone ≡ length c.members - length (drop n c.members) →
    (gone ≤ count) × (count - gone ≡ length (waiting (members_of (with_value l key (record { entries = c.entries; members = drop n c.members })))))
fewer l key c n count gone h is less =
    let both = count_with l key (record { entries = c.entries; members = drop n c.members }) in
    let there : length (user_chain_at l key).members ≡ length c.members = ap (λ (o : Option UserChain). length (unwrap_or o no_chain).members) h in
    let short = length-drop n c.members in
    (omega (arith, both, there, is, less, short), omega (arith, both, there, is, less, short))

-- ---- counted anew

-- who is on each stays
pub members_anew : (l : Linked) → members_of (map (λ c. (c.0, user_chain_anew c.1)) l) ≡ members_of l
members_anew [] = refl
members_anew (c ∷ cs) = ap (λ (m : List (Key × List Transaction)). (c.0, c.1.members) ∷ m) (members_anew cs)

pub anew_linked : (ks : List Key) (cs ds : List UserChain) (count : ℕ) → AreLinked ks cs count → ds ≡ map user_chain_anew cs →
    (zip ks ds ≡ map (λ (c : Key × UserChain). (c.0, user_chain_anew c.1)) (zip ks cs)) × AreLinked ks ds count
anew_linked ks cs ds count kept is =
    let all = ap (zip ks) is ∙ zip_anew user_chain_anew ks cs in (
      all,
      record {
        apart = kept.apart;
        beside = ap length is ∙ (length-map cs user_chain_anew ∙ kept.beside);
        counted = kept.counted ∙ ap (λ m. length (waiting m)) (sym (ap members_of all ∙ members_anew (zip ks cs)));
      },
    )
