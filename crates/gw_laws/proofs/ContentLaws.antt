-- Each block's content is the number of the transactions that stand in it, move by move and over a run.
use Rattle.std.proofs.Common.{◌≡◌, ℕ, ℤ, ◌+◌, ◌-◌, ◌<◌, ◌≤◌, ◌^◌, nat_eq, Bool, true, false, List, [], ◌∷◌, ◌++◌, Option, Some, None, Ok, refl, ap, sym, ◌∙◌, arith}
use Rattle.std.proofs.lemmas.Bool.{ne_eqb}
use Rattle.gw_names.specs.declared.key.Key.{Key}
use Rattle.gw_meaning.specs.declared.transaction.Transaction.{Transaction}
use Rattle.gw_meaning.specs.declared.moves.Arrival.{Arrival}
use Rattle.gw_meaning.specs.declared.moves.Change.{Change}
use Rattle.gw_meaning.specs.declared.moves.Fate.{Fate}
use Rattle.gw_meaning.specs.declared.moves.Fate.TheVariants as fates
use Rattle.gw_meaning.specs.declared.moves.Move.{Move}
use Rattle.gw_meaning.specs.declared.moves.Move.TheVariants as moves
use Rattle.gw_meaning.specs.Listing.{Listing}
use Rattle.gw_meaning.specs.Machine.{Machine, delay_at, user_chain_at}
use Rattle.gw_meaning.specs.Changes.{Making, made, all_made, making_of, with_making, newcomer, placed, started, let_in, one_copied, one_unlinked, moved, written}
use Rattle.gw_meaning.specs.Step.{run}
use Rattle.gw_model.specs.Well.{Well}
use Rattle.gw_laws.specs.Living.{living}
use Rattle.gw_laws.specs.Contents.{ContentsAreCounts}
use Rattle.gw_frame.proofs.Known.{IsDecided}
use Rattle.gw_frame.proofs.Moves.{settled, settled_is, marked_same, entered_has}
use Rattle.gw_frame.proofs.Running.{over_run}
use Rattle.gw_laws.proofs.Waiting.{leaving, let_in_is}
use Rattle.gw_laws.proofs.Counts.{content, content_crossed, content_made, content_stood}
use Rattle.gw_laws.proofs.Crowd.{one, remains, many, others, crowd, many_living, many_is, active_crowd, future_push, settled_crowd, settled_fewer, leaving_crowd, let_in_crowd, lets_crowd, copied_crowd, unlinked_crowd, woken_crowd}
use Rattle.gw_laws.proofs.Room.{anyone, all_within}
use Rattle.gw_laws.proofs.Anew.{all_stay}

abbrev pub stands_in : ℕ → Transaction → Bool
stands_in p x = nat_eq x.current p

abbrev pub IsCounted : Machine → Type 0
IsCounted s = (p : ℕ) → 0 < p → content s.counts p ≡ crowd (stands_in p) s

-- not all of the living stand in one block
many_fewer : (test : Transaction → Bool) (xs : List Transaction) → many test xs ≤ many anyone xs
many_fewer test [] = omega arith
many_fewer test (x ∷ xs) =
    let rest = many_fewer test xs in elim (test x) as (λ b. one b + many test xs ≤ 1 + many anyone xs) [ true ↦ omega arith | false ↦ omega arith ]

pub crowd_fewer : (test : Transaction → Bool) (s : Machine) → crowd test s ≤ crowd anyone s
crowd_fewer test s =
    let fewer = many_fewer test (living s) in
    let here = many_living test s in
    let all = many_living anyone s in
    omega arith

-- a new transaction stands in no block
made_counted : (a : Arrival) (w : Making) (s : Machine) → IsCounted (with_making w s) → IsCounted (with_making (made a w) s)
made_counted a w s h p some =
    let before = h p some in
    let same = content_made w.counts a.id p in
    let push = future_push (stands_in p) w.future (newcomer w.next a) in
    let nowhere : nat_eq 0 p ≡ false = ne_eqb 0 p (λ is. omega arith) in
    let none : one (stands_in p (newcomer w.next a).transaction) ≡ 0 = rw nowhere refl in
    omega arith

all_made_counted : (arrivals : List Arrival) (w : Making) (s : Machine) → IsCounted (with_making w s) → IsCounted (with_making (all_made arrivals w) s)
all_made_counted [] w s h = h
all_made_counted (a ∷ rest) w s h = all_made_counted rest (made a w) s (made_counted a w s h)

-- the active transaction goes into a block
settled_counted : (s : Machine) (x : Transaction) (id : ℕ) (change : Change) (fate : Fate) → crowd anyone s < 2 ^ 64 - 1 → s.active ≡ Some x →
    IsCounted s → IsCounted (settled s x id change fate)
settled_counted s x id change fate room is h p some =
    let rest = others (stands_in p) s in
    let was = active_crowd (stands_in p) s x is in
    let fewer = crowd_fewer (stands_in p) s in
    let before = h p some in
    let now = settled_crowd (stands_in p) s x id change fate in
    let here = ap (λ n. remains fate (one (nat_eq n p))) (marked_same change s.clock (placed x id)).1 in
    let whole = content_crossed fate s.counts x.current id p rest (omega arith) (omega arith) in
    ap (λ cs. content cs p) (settled_is s x id change fate).counts ∙ omega arith

-- who waited and is let in goes into the block that it waited for
lets_counted : (w : Machine) (key : Key) (x : Transaction) (passed xs : List Transaction) (to : Option ℕ) → delay_at w.delays key ≡ passed ++ x ∷ xs →
    crowd anyone w < 2 ^ 64 - 1 → IsCounted w → IsCounted (let_in x to (leaving w key (passed ++ xs)))
lets_counted w key x passed xs None is room h p some =
    let before = leaving_crowd (stands_in p) w key x passed xs is in
    let after = let_in_crowd (stands_in p) x None (leaving w key (passed ++ xs)) in
    let was = h p some in
    omega arith
lets_counted w key x passed xs (Some id) is room h p some =
    let before = leaving_crowd (stands_in p) w key x passed xs is in
    let after = let_in_crowd (stands_in p) x (Some id) (leaving w key (passed ++ xs)) in
    let fewer = crowd_fewer (stands_in p) w in
    let was = h p some in
    let whole = content_crossed fates.Active w.counts x.current id p (crowd (stands_in p) (leaving w key (passed ++ xs))) (omega arith) (omega arith) in
    omega arith

-- a copy stands where the one stands of which it is a copy
copied_counted : (to : Option ℕ) (x : Transaction) (values : List (Key × ℤ)) (w : Machine) → crowd anyone w < 2 ^ 64 - 1 → IsCounted w →
    IsCounted (one_copied to x values w)
copied_counted to x values w room h p some =
    let more = copied_crowd (stands_in p) to x values w in
    let fewer = crowd_fewer (stands_in p) w in
    let was = h p some in
    let whole = content_stood w.counts x.current p (omega arith) in
    omega arith

-- whoever is unlinked stays in his block
unlinked_counted : (w : Machine) (key : Key) (to : Option ℕ) (x : Transaction) (xs : List Transaction) → (user_chain_at w.linked key).members ≡ x ∷ xs →
    IsCounted w → IsCounted (one_unlinked key to x xs w)
unlinked_counted w key to x xs is h p some = h p some ∙ sym (unlinked_crowd (stands_in p) w key to x xs is refl)

-- each move
moved_counted : (t : Listing) (s : Machine) (m : Move) → s.next + 100000 < 2 ^ 64 - 1 → crowd anyone s < s.next → IsDecided t s m → IsCounted s →
    IsCounted (moved s m)
moved_counted t s (moves.Start count arrivals) room few decided h = all_made_counted arrivals (making_of s) (started count s) h
moved_counted t s moves.Clear room few decided h = λ p some. refl
moved_counted t s (moves.Enter id change fate) room few decided h =
    let P : Machine → Type 0 = λ v. (v.next ≡ s.next) × (crowd anyone v < v.next) × IsCounted v in
    let Q : Machine → Type 0 = λ v. (v.next ≤ s.next + 100000) × (crowd anyone v < v.next) × IsCounted v in
    let whole =
    entered_has P Q t s id change fate decided.1 (omega arith, few, h)
    (λ x is.
    let next = (settled_is s x id change fate).next in
    let fewer = settled_fewer anyone s x id change fate is refl in
    (next, omega (arith, next, fewer, few), settled_counted s x id change fate (omega (arith, room, few)) is h))
    (λ v. record {
      nothing = λ k. (omega (arith, k.0), k.1, k.2);
      one = λ a coming k. (
        omega (arith, k.0),
        let push = future_push anyone v.future (newcomer v.next a) in omega (arith, push, room, k.0, k.1),
        made_counted a (making_of v) v k.2,
      );
      lets = λ w key x passed xs is k.
          let same = lets_crowd anyone w key x passed xs is refl in
          let next = (let_in_is key x (passed ++ xs) w).next in (
            omega (arith, next, k.0),
            omega (arith, next, same, k.1),
            lets_counted w key x passed xs x.destination is (omega (arith, room, k.0, k.1)) k.2,
          );
      copies = λ w to x values copying k. (
        omega (arith, copying.below),
        let more = copied_crowd anyone to x values w in omega (arith, more, room, copying.below, k.1),
        copied_counted to x values w (omega (arith, room, k.0, k.1)) k.2,
      );
      unlinks = λ w key to x xs named is k. (
        k.0,
        let same = unlinked_crowd anyone w key to x xs is refl in omega (arith, same, k.1),
        unlinked_counted w key to x xs is k.2,
      );
    }) in
    whole.2
moved_counted t s m room few decided h = λ p some.
    (let stay = all_stay (stands_in p) t s m decided tt (λ x id units. refl) in stay.contents p ∙ (h p some ∙ sym stay.crowd))

-- over a run
pub all_counted : (t : Listing) (seed : ℕ) → Well t → (n : ℕ) (s : Machine) → run t seed n ≡ Ok s → n ≤ t.limit → IsCounted s
all_counted t seed well =
    over_run t seed (λ n s. n ≤ t.limit → IsCounted s) (λ within p some. refl)
    (λ n s m streams there decided h within.
    let room = all_within t seed n s well (omega (arith, within)) there in
    let k = moved_counted t s m (omega (arith, room.next, within, well.greatest_limit)) room.crowd decided (h (omega arith)) in
    λ p some. k p some ∙ sym (woken_crowd (stands_in p) (written s m) (moved s m)))

pub contents_are_counts : ContentsAreCounts
contents_are_counts t seed n s well within is id some =
    all_counted t seed well n s is within id some ∙ (sym (many_living (stands_in id) s) ∙ many_is (stands_in id) (living s))
