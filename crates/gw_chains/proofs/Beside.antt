-- The delay chains, each beside its key.
use Rattle.std.proofs.Common.{◌≡◌, ℕ, zero, suc, ◌+◌, ◌<◌, ◌≤◌, ◌==◌, true, false, cond}
use Rattle.std.proofs.Common.{List, [], ◌∷◌, ◌++◌, length, length-append, set, take, max, slice_get, get_or}
use Rattle.std.proofs.Common.{Some, None, inl, inr, refl, sym, ap, subst, ◌∙◌, arith, rules}
use Rattle.std.proofs.lemmas.Bool.{cases_lt}
use Rattle.std.proofs.lemmas.List.{length-map, length-set, length-take, get_or-set_same, get_or_past, get_or_read}
use Rattle.std.proofs.lemmas.Map.Entries.{lookup_from_place}
use Rattle.std.proofs.Math.Seq.{map-set_same}
use Rattle.std.specs.List.{IsDistinct, list_any}
use Rattle.std.specs.Map.{keys_of}
use Rattle.indexmap.specs.IndexMap.{set_value_at}
use Rattle.indexmap.specs.IndexSet.{insert_key}
use Rattle.gw_names.specs.declared.key.Key.{Key}
use Rattle.gw_names.specs.Keys.{key_eq}
use Rattle.gw_meaning.specs.Tables.{value_of, with_value}
use Rattle.gw_entities.proofs.Entries.{none_of_keys, pushed_is, apart_pushed}
use Rattle.gw_entities.proofs.Keyed.{keys_pushed}
use Rattle.gw_entities.proofs.Lookups.{written_at}
use Rattle.gw_entities.proofs.TableLaws.{key_eq_equiv, set_value_is}
use Rattle.gw_meaning.specs.declared.transaction.Transaction.{Transaction}
use Rattle.gw_meaning.specs.Changes.{lined_up}
use Rattle.gw_meaning.specs.Machine.{delay_at, waiting}
use Rattle.gw_chains.specs.Chains.{Chain, delays_of}
use Rattle.gw_chains.specs.Delays.{queues_of, nobody, chains_of, AreKept}
use Rattle.gw_chains.proofs.DelayLaws.{delay_is, fewer_wait, lined_up_length}
use Rattle.gw_chains.proofs.DelayLaws.{nobody_left, waiting_with, with_delay}

abbrev Own : Type 0
Own = Chain Transaction

abbrev Pairs : Type 0
Pairs = List (Key × Own)

abbrev Delays : Type 0
Delays = List (Key × List Transaction)

pub keys_are : (ks : List Key) (cs : List Own) → keys_of (chains_of ks cs) ≡ ks
keys_are [] cs = refl
keys_are (k ∷ ks) [] = let rest = keys_are ks [] in cc
keys_are (k ∷ ks) (c ∷ cs) = let rest = keys_are ks cs in cc

-- the chain at a place
chain_at : (ks : List Key) (cs : List Own) (i : ℕ) (key : Key) → slice_get ks i ≡ Some key →
    slice_get (chains_of ks cs) i ≡ Some (key, get_or cs i nobody)
chain_at [] cs i key placed = absurd cc
chain_at (k ∷ ks) [] zero key placed = cc
chain_at (k ∷ ks) [] (suc i) key placed = chain_at ks [] i key placed
chain_at (k ∷ ks) (c ∷ cs) zero key placed = cc
chain_at (k ∷ ks) (c ∷ cs) (suc i) key placed = chain_at ks cs i key placed

apart : (ks : List Key) (cs : List Own) → IsDistinct key_eq ks → IsDistinct key_eq (keys_of (chains_of ks cs))
apart ks cs = subst (IsDistinct key_eq) (sym (keys_are ks cs))

found : (ks : List Key) (cs : List Own) (i : ℕ) (key : Key) → IsDistinct key_eq ks →
    slice_get ks i ≡ Some key → value_of (chains_of ks cs) key ≡ Some (get_or cs i nobody)
found ks cs i key distinct placed =
    lookup_from_place key_eq_equiv (chains_of ks cs) i key _ (apart ks cs distinct) (chain_at ks cs i key placed)

pub not_found : (ks : List Key) (cs : List Own) (key : Key) → list_any (key_eq key) ks ≡ false →
    value_of (chains_of ks cs) key ≡ None
not_found ks cs key new =
    none_of_keys (chains_of ks cs) key (ap (λ (qs : List Key). list_any (key_eq key) qs) (keys_are ks cs) ∙ new)

-- what is known of a chain that is read at its place
pub record There (ks : List Key) (cs : List Own) (i : ℕ) (key : Key) (was : Own) (count : ℕ) : Type 0 where
  pub kept : AreKept ks cs count
  pub placed : slice_get ks i ≡ Some key
  pub within : i < length cs
  pub read : was ≡ get_or cs i was
  pub value : value_of (chains_of ks cs) key ≡ Some was
  pub queue : delay_at (delays_of (chains_of ks cs)) key ≡ was.items
  pub most : length was.items ≤ count

pub there : {ks : List Key} {cs : List Own} {i : ℕ} {key : Key} {was : Own} {count : ℕ} → AreKept ks cs count →
    slice_get ks i ≡ Some key → i < length cs → was ≡ get_or cs i was → There ks cs i key was count
there {ks} {cs} {i} {key} {was} kept placed inside read =
    let is = get_or_read cs i was inside read nobody in
    let value = found ks cs i key kept.apart placed ∙ ap (λ o. Some o) (sym is) in
    let queue = delay_is (chains_of ks cs) key (Some was) value in
    let fewer = fewer_wait (delays_of (chains_of ks cs)) key in
    let all = kept.counted in
    record {
      kept = kept;
      placed = placed;
      within = inside;
      read = read;
      value = value;
      queue = queue;
      most = omega (arith, fewer, all, ap length queue);
    }

-- after the last chain nobody waits, so where somebody does, there is one
pub nobody_behind : (ks : List Key) (cs : List Own) (i : ℕ) (key : Key) → IsDistinct key_eq ks →
    slice_get ks i ≡ Some key → length cs ≤ i → delay_at (delays_of (chains_of ks cs)) key ≡ []
nobody_behind ks cs i key distinct placed behind =
    delay_is (chains_of ks cs) key _ (found ks cs i key distinct placed) ∙
    ap (λ (o : Own). o.items) (get_or_past cs i nobody behind)

-- the same for the entries that a contract sees
key_there : (ks : List Key) (cs : List Own) (es : Pairs) (i : ℕ) (key : Key) → chains_of ks cs ≡ es →
    slice_get (keys_of es) i ≡ Some key → slice_get ks i ≡ Some key
key_there ks cs es i key seen placed = ap (λ qs. slice_get qs i) (sym (keys_are ks cs) ∙ ap keys_of seen) ∙ placed

pub within : {ks : List Key} {cs : List Own} {es : Pairs} {i : ℕ} {key : Key} {count n : ℕ} →
    AreKept ks cs count → chains_of ks cs ≡ es → slice_get (keys_of es) i ≡ Some key →
    0 < length (delay_at (delays_of es) key) → n ≡ length cs → i < n
within {ks} {cs} {es} {i} {key} kept seen placed some long =
    let here = key_there ks cs es i key seen placed in
    let same = ap (λ (fs : Pairs). length (delay_at (delays_of fs) key)) seen in
    let none : length cs ≤ i → delay_at (delays_of (chains_of ks cs)) key ≡ [] =
    nobody_behind ks cs i key kept.apart here in
    elim (cases_lt i (length cs)) [
      | inl below ↦ omega (arith, below, long)
      | inr behind ↦ absurd (omega (arith, some, same, ap length (none behind)))
    ]

pub waits : {ks : List Key} {cs : List Own} {es : Pairs} {i : ℕ} {key : Key} {was : Own} {count : ℕ} →
    AreKept ks cs count → chains_of ks cs ≡ es → slice_get (keys_of es) i ≡ Some key →
    0 < length (delay_at (delays_of es) key) → was ≡ get_or cs i was → There ks cs i key was count
waits {ks} {cs} {es} {i} {key} kept seen placed some =
    there kept (key_there ks cs es i key seen placed) (within kept seen placed some refl)

-- what is known of chains with another one written at its place
pub record Written (ks : List Key) (cs : List Own) (i : ℕ) (key : Key) (own : Own) (count : ℕ) : Type 0 where
  pub kept : AreKept ks (set cs i own) count
  pub delays : delays_of (chains_of ks (set cs i own)) ≡ with_value (delays_of (chains_of ks cs)) key own.items

set_at : (ks : List Key) (cs : List Own) (i : ℕ) (own : Own) → i < length cs →
    chains_of ks (set cs i own) ≡ set_value_at (chains_of ks cs) i own
set_at [] cs i own inside = refl
set_at (k ∷ ks) [] i own inside = absurd (omega (arith, inside))
set_at (k ∷ ks) (c ∷ cs) zero own inside = refl
set_at (k ∷ ks) (c ∷ cs) (suc i) own inside = let rest = set_at ks cs i own (omega (arith, inside)) in cc

pub written : {ks : List Key} {cs : List Own} {i : ℕ} {key : Key} {was own : Own} {before after : ℕ} →
    There ks cs i key was before → before + length own.items ≡ after + length was.items →
    Written ks cs i key own after
written {ks} {cs} {i} {key} {was} {own} at gone =
    let es = chains_of ks cs in
    let short = at.kept.short in
    let all = at.kept.counted in
    let pair = chain_at ks cs i key at.placed in
    let here = written_at key_eq key_eq_equiv es i key _ own (apart ks cs at.kept.apart) pair in
    let one = set_at ks cs i own at.within ∙ (here ∙ set_value_is es key own was at.value) in
    let delays : delays_of (chains_of ks (set cs i own)) ≡ with_value (delays_of es) key own.items =
    ap delays_of one ∙ with_delay es key own in
    let both = waiting_with (delays_of es) key own.items in
    let queue = ap length at.queue in
    record {
      kept = record {
        apart = at.kept.apart;
        short = omega (arith, length-set cs i own, short);
        counted = rw delays (omega (arith, gone, all, both, queue));
      };
      delays = delays;
    }

pub read_again : {ks : List Key} {cs : List Own} {i : ℕ} {key : Key} {was : Own} {count : ℕ} (own : Own) →
    There ks cs i key was count → value_of (chains_of ks (set cs i own)) key ≡ Some own
read_again {ks} {cs} {i} {key} own at =
    found ks (set cs i own) i key at.kept.apart at.placed ∙
    ap (λ o. Some o) (get_or-set_same cs i own nobody at.within)

-- what is known of chains on which the same transactions wait
pub record Same (ks : List Key) (cs ds : List Own) (count : ℕ) : Type 0 where
  pub kept : AreKept ks ds count
  pub delays : delays_of (chains_of ks ds) ≡ delays_of (chains_of ks cs)

same : {ks : List Key} {cs ds : List Own} {count : ℕ} → AreKept ks cs count → length ds ≤ length ks →
    delays_of (chains_of ks ds) ≡ delays_of (chains_of ks cs) → Same ks cs ds count
same kept short delays = record {
  kept = record {
    apart = kept.apart;
    short = short;
    counted = kept.counted ∙ ap (λ (es : Delays). length (waiting es)) (sym delays);
  };
  delays = delays;
}

-- where there is one for each key
pub filled : {ks : List Key} {cs ds : List Own} {n count : ℕ} → AreKept ks cs count → n ≡ length ks →
    length ds ≤ max (length cs) n →
    ((qs : List Key) → delays_of (chains_of qs ds) ≡ delays_of (chains_of qs cs)) → Same ks cs ds count
filled {ks} kept all long delays =
    let short = kept.short in
    same kept (omega (arith, short, all, long)) (delays ks)

same_delays : (ks : List Key) (cs ds : List Own) → queues_of cs ≡ queues_of ds →
    delays_of (chains_of ks cs) ≡ delays_of (chains_of ks ds)
same_delays [] cs ds queues = refl
same_delays (k ∷ ks) [] [] queues = refl
same_delays (k ∷ ks) [] (d ∷ ds) queues = absurd cc
same_delays (k ∷ ks) (c ∷ cs) [] queues = absurd cc
same_delays (k ∷ ks) (c ∷ cs) (d ∷ ds) queues = let rest = same_delays ks cs ds (cc) in cc

pub same_items : {ks : List Key} {cs ds : List Own} {count : ℕ} → AreKept ks cs count →
    queues_of ds ≡ queues_of cs → Same ks cs ds count
same_items {ks} {cs} {ds} kept queues =
    let short = kept.short in
    let as_many : length ds ≡ length cs =
    sym (length-map ds (λ (c : Own). c.items)) ∙ (ap length queues ∙ length-map cs (λ (c : Own). c.items)) in
    same kept (omega (arith, as_many, short)) (same_delays ks ds cs queues)

-- where fewer are kept of them, since nobody waits on the others
pub fewer : {ks : List Key} {cs ds : List Own} {count : ℕ} (m : ℕ) → AreKept ks cs count →
    delays_of (chains_of ks (take m cs)) ≡ delays_of (chains_of ks cs) → queues_of ds ≡ queues_of (take m cs) →
    Same ks cs ds count
fewer {ks} {cs} {ds} {count} m kept delays queues =
    let short = kept.short in
    let less = length-take m cs in
    let front : Same ks cs (take m cs) count = same kept (omega (arith, less, short)) delays in
    let all : Same ks (take m cs) ds count = same_items front.kept queues in
    record { kept = all.kept; delays = all.delays ∙ front.delays }

-- one of them written again with the same transactions
pub same_queues : (cs : List Own) (i : ℕ) (was own : Own) → was ≡ get_or cs i was → own.items ≡ was.items →
    queues_of (set cs i own) ≡ queues_of cs
same_queues cs i was own read items =
    map-set_same (λ (c : Own). c.items) cs i own was (items ∙ ap (λ (c : Own). c.items) read)

pub same_written : {ks : List Key} {cs : List Own} {i : ℕ} {key : Key} {was : Own} {count : ℕ} (own : Own) →
    There ks cs i key was count → own.items ≡ was.items → Same ks cs (set cs i own) count
same_written own at items = same_items at.kept (same_queues _ _ _ _ at.read items)

-- one more at the end, on which nobody waits, and one less
pub one_more : (ks : List Key) (cs : List Own) (own : Own) → own.items ≡ [] →
    delays_of (chains_of ks (cs ++ own ∷ [])) ≡ delays_of (chains_of ks cs)
one_more [] cs own none = refl
one_more (k ∷ ks) [] own none = cc
one_more (k ∷ ks) (c ∷ cs) own none = let rest = one_more ks cs own none in cc

pub one_less : (ks : List Key) (cs : List Own) (i : ℕ) (own : Own) → i < length cs → own ≡ get_or cs i own →
    own.items ≡ [] → delays_of (chains_of ks (take i cs)) ≡ delays_of (chains_of ks (take (suc i) cs))
one_less [] cs i own inside read none = refl
one_less (k ∷ ks) [] i own inside read none = absurd (omega (arith, inside))
one_less (k ∷ ks) (c ∷ cs) zero own inside read none = cc
one_less (k ∷ ks) (c ∷ cs) (suc i) own inside read none =
    let rest = one_less ks cs i own (omega (arith, inside)) read none in cc

pub no_items : (xs : List Transaction) → (length xs == 0) ≡ true → xs ≡ []
no_items xs h = let none : length xs ≡ 0 = search rules in nobody_left xs (omega (arith, none))

-- one who waits where nobody waited yet
pub record Pushed (ks js : List Key) (cs ds : List Own) (key : Key) (x : Transaction) (count : ℕ) : Type 0 where
  pub kept : AreKept js ds (count + 1)
  pub delays : delays_of (chains_of js ds) ≡
      with_value (delays_of (chains_of ks cs)) key (lined_up x (delay_at (delays_of (chains_of ks cs)) key))

push_at : (ks : List Key) (cs : List Own) (key : Key) (own : Own) → length cs ≡ length ks →
    chains_of (ks ++ key ∷ []) (cs ++ own ∷ []) ≡ chains_of ks cs ++ (key, own) ∷ []
push_at [] [] key own long = refl
push_at [] (c ∷ cs) key own long = absurd (omega (arith, long))
push_at (k ∷ ks) [] key own long = absurd (omega (arith, long))
push_at (k ∷ ks) (c ∷ cs) key own long = let rest = push_at ks cs key own (omega (arith, long)) in cc

pub pushed : (ks js : List Key) (cs : List Own) (key : Key) (own : Own) (x : Transaction) (count : ℕ) →
    AreKept ks cs count → length ks ≤ length cs → list_any (key_eq key) ks ≡ false →
    js ≡ insert_key key_eq ks key → own.items ≡ lined_up x [] → Pushed ks js cs (cs ++ own ∷ []) key x count
pushed ks js cs key own x count kept long new keys alone =
    let short = kept.short in
    let es = chains_of ks cs in
    let none = not_found ks cs key new in
    let behind : js ≡ ks ++ key ∷ [] = keys ∙ ap (λ b. cond b ks (ks ++ key ∷ [])) new in
    let first : own.items ≡ lined_up x (delay_at (delays_of es) key) =
    alone ∙ ap (lined_up x) (sym (delay_is es key None none)) in
    let delays : delays_of (chains_of (ks ++ key ∷ []) (cs ++ own ∷ [])) ≡
    with_value (delays_of es) key (lined_up x (delay_at (delays_of es) key)) =
    ap delays_of (push_at ks cs key own (omega (arith, short, long)) ∙ sym (pushed_is es key own none)) ∙
    (with_delay es key own ∙ ap (with_value (delays_of es) key) first) in
    let all = kept.counted in
    let both = waiting_with (delays_of es) key (lined_up x (delay_at (delays_of es) key)) in
    let longer = lined_up_length x (delay_at (delays_of es) key) in
    rw behind (record {
      kept = record {
        apart = subst (IsDistinct key_eq)
            (keys_pushed es key own ∙ ap (λ (qs : List Key). qs ++ key ∷ []) (keys_are ks cs))
            (apart_pushed es key own (apart ks cs kept.apart) none);
        short = omega (arith, length-append cs (own ∷ []), length-append ks (key ∷ []), short);
        counted = rw delays (omega (arith, all, both, longer));
      };
      delays = delays;
    })

-- where nobody waited yet
pub none_kept : (ks : List Key) (cs : List Own) → ks ≡ [] → cs ≡ [] → AreKept ks cs 0
unfolding IsDistinct
none_kept ks cs no_key no_chain = rw (no_key, no_chain) (record { apart = tt; short = omega arith; counted = refl })
