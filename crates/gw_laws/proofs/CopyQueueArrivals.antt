-- Nobody is kept as one who came to a queue whose number is still to be given: so a copy has come to none.
use Rattle.std.proofs.Common.{◌≡◌, ℕ, ◌^◌, ◌<◌, ◌≤◌, nat_eq, nat_lt, ◌&&◌, ◌||◌, true, false, cond, List, [], ◌∷◌, ◌++◌, Ok, refl, ap, ◌∙◌, arith, inl, inr}
use Rattle.std.specs.List.{AllByRecursion}
use Rattle.std.proofs.lemmas.Bool.{cases_Bool, ne_eqb}
use Rattle.gw_names.specs.declared.key.Key.{Key}
use Rattle.gw_names.specs.Keys.{key_eq}
use Rattle.gw_meaning.specs.QueueArrivals.{came, with_queue_arrival}
use Rattle.gw_meaning.specs.declared.entity_change.Update.{Update}
use Rattle.gw_meaning.specs.declared.entity_change.Update.TheVariants as updates
use Rattle.gw_meaning.specs.declared.entity_change.QueueUpdate.TheVariants as of_queue
use Rattle.gw_meaning.specs.declared.moves.Arrival.{Arrival}
use Rattle.gw_meaning.specs.declared.moves.Change.{Change}
use Rattle.gw_meaning.specs.declared.moves.Change.TheVariants as changes
use Rattle.gw_meaning.specs.declared.moves.Move.{Move}
use Rattle.gw_meaning.specs.declared.moves.Move.TheVariants as moves
use Rattle.gw_meaning.specs.Entities.{Entities, done, touched, later}
use Rattle.gw_meaning.specs.Listing.{Listing}
use Rattle.gw_meaning.specs.Machine.{Machine}
use Rattle.gw_meaning.specs.Changes.{Making, made, all_made, making_of, refused, watching, moved}
use Rattle.gw_meaning.specs.Step.{run}
use Rattle.gw_model.specs.Well.{Well}
use Rattle.gw_frame.proofs.Known.{IsDecided}
use Rattle.gw_frame.proofs.Moves.{settled_is, with_active_has, entered_has, picked_has}
use Rattle.gw_frame.proofs.Running.{over_run}
use Rattle.gw_laws.specs.Copies.{CopiesCameToNoQueue}
use Rattle.gw_laws.proofs.CopyLaws.{Splits, splits_so, after}
use Rattle.gw_laws.proofs.DestinationLaws.{is_given}
use Rattle.gw_laws.proofs.NumberLaws.{IsNumbered, all_numbered}
use Rattle.gw_laws.proofs.Room.{all_low}
use Rattle.gw_laws.proofs.Waiting.{let_in_is}

-- each who came has a number below this one
abbrev AreBelow : ℕ → List (Key × ℕ) → Type 0
AreBelow next = AllByRecursion (λ (c : Key × ℕ). c.1 < next)

below_more : (low high : ℕ) (cs : List (Key × ℕ)) → low ≤ high → AreBelow low cs → AreBelow high cs
below_more low high [] less all = tt
below_more low high (c ∷ cs) less all = (omega (arith, less, all.0), below_more low high cs less all.1)

with_below : (next : ℕ) (cs : List (Key × ℕ)) (key : Key) (number : ℕ) → number < next → AreBelow next cs → AreBelow next (with_queue_arrival cs key number)
with_below next [] key number one' all = (one', tt)
with_below next (c ∷ cs) key number one' all =
    let rest = with_below next cs key number one' all.1 in
    elim (cases_Bool (nat_lt number c.1)) [
      | inl front ↦ rw front (one', all)
      | inr behind ↦ rw behind (elim (cases_Bool (key_eq key c.0 && nat_eq number c.1)) [ inl same ↦ rw same all | inr other ↦ rw other (all.0, rest) ])
    ]

not_come : (next : ℕ) (cs : List (Key × ℕ)) (key : Key) (number : ℕ) → next ≤ number → AreBelow next cs → came cs key number ≡ false
not_come next [] key number above all = refl
not_come next (c ∷ cs) key number above all =
    let apart = ne_eqb number c.1 (λ same. omega (arith, above, all.0, same)) in
    let rest = not_come next cs key number above all.1 in
    rw (apart, rest) (elim (key_eq key c.0) as (λ b. ((b && false) || false) ≡ false) [ true ↦ refl | false ↦ refl ])

abbrev ComersAreGiven : Machine → Type 0
ComersAreGiven s = AreBelow s.next s.entities.queue_arrivals

done_below : (key : Key) (update : Update) (clock number next : ℕ) (e : Entities) → number < next → AreBelow next e.queue_arrivals →
    AreBelow next (done key update clock number e).queue_arrivals
done_below key (updates.Queue (of_queue.Queue units)) clock number next e one' all = with_below next e.queue_arrivals key number one' all
done_below key update clock number next e one' all = all

touched_below : (change : Change) (clock number next : ℕ) (e : Entities) → number < next → AreBelow next e.queue_arrivals →
    AreBelow next (touched change clock number e).queue_arrivals
touched_below (changes.Entity change) clock number next e one' all = done_below change.0 change.1 clock number next e one' all
touched_below change clock number next e one' all = all

later_below : (before now next : ℕ) (e : Entities) → AreBelow next e.queue_arrivals → AreBelow next (later before now e).queue_arrivals
later_below before now next e all =
    elim (nat_eq before now) as (λ b. AreBelow next (cond b e.queue_arrivals [])) [ true ↦ all | false ↦ tt ]

all_made_more : (arrivals : List Arrival) (w : Making) → w.next < 2 ^ 64 → w.next ≤ (all_made arrivals w).next
all_made_more [] w low = omega arith
all_made_more (a ∷ rest) w low = let more = all_made_more rest (made a w) (omega arith) in omega (arith, low, more)

moved_given : (t : Listing) (s : Machine) (m : Move) → s.next < 2 ^ 64 → IsNumbered s → IsDecided t s m → ComersAreGiven s → ComersAreGiven (moved s m)
moved_given t s (moves.Start count arrivals) low numbered decided h =
    below_more s.next (all_made arrivals (making_of s)).next s.entities.queue_arrivals (all_made_more arrivals (making_of s) low) h
moved_given t s moves.Command low numbered decided h = h
moved_given t s moves.Reset low numbered decided h = h
moved_given t s moves.Clear low numbered decided h = tt
moved_given t s (moves.Enter id change fate) low numbered decided h =
    let Q : Machine → Type 0 = λ v. (v.next < 2 ^ 64) × ComersAreGiven v in
    let whole =
    entered_has Q Q t s id change fate decided.1 (low, h)
    (λ x is. let same = settled_is s x id change fate in
    rw (same.next, same.entities) (low, touched_below change s.clock x.number s.next s.entities (is_given s x is numbered) h))
    (λ v. record {
      nothing = λ k. k;
      one = λ a coming k. (omega arith, below_more v.next _ v.entities.queue_arrivals (omega (arith, k.0)) k.1);
      lets = λ w key x passed xs is k. (let same = let_in_is key x (passed ++ xs) w in rw (same.next, same.entities) k);
      copies = λ w to x values copying k. (omega arith, below_more w.next _ w.entities.queue_arrivals (omega (arith, k.0)) k.1);
      unlinks = λ w key to x xs named is k. k;
    }) in
    whole.1
moved_given t s (moves.Refuse id key units) low numbered decided h =
    with_active_has ComersAreGiven s.active (λ x. refused s x id key units) s h (λ x is. h)
moved_given t s (moves.Watch read) low numbered decided h = with_active_has ComersAreGiven s.active (λ x. watching s x read) s h (λ x is. h)
moved_given t s moves.Pick low numbered decided h = picked_has ComersAreGiven s s.current h (λ x xs is. h)
moved_given t s (moves.Clock time) low numbered decided h = later_below s.clock time s.next s.entities h

all_given : (t : Listing) (seed : ℕ) → Well t → (n : ℕ) (s : Machine) → run t seed n ≡ Ok s → n ≤ t.limit → ComersAreGiven s
all_given t seed well =
    over_run t seed (λ n s. n ≤ t.limit → ComersAreGiven s) (λ within. tt)
    (λ n s m streams there decided h within.
    moved_given t s m (all_low t seed n s there) (all_numbered t seed well n s there (omega (arith, within))) decided (h (omega (arith, within))))

pub copies_came_to_no_queue : CopiesCameToNoQueue
copies_came_to_no_queue t seed s v id count to split number key new =
    let h : Splits s v id count to = splits_so t seed s v id count to split in
    let all = all_given t seed split.well split.moment s split.before split.within in
    ap (λ (w : Machine). came w.entities.queue_arrivals key number) h.is
    ∙ (ap (λ (e : Entities). came e.queue_arrivals key number) (after s v id count to h).entities
    ∙ not_come s.next s.entities.queue_arrivals key number new all)
