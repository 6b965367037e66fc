-- The queues, move by move and over a run.
use Rattle.std.proofs.Common.{ℕ, ◌≤◌, Bool, true, false, List, [], ◌∷◌, refl, arith}
use Rattle.std.proofs.lemmas.List.Elements.{All-from_recursion}
use Rattle.gw_names.specs.declared.key.Key.{Key}
use Rattle.gw_meaning.specs.Records.{Line, no_line, queued, departed}
use Rattle.gw_meaning.specs.declared.entity_change.Update.{Update}
use Rattle.gw_meaning.specs.declared.entity_change.Update.TheVariants as updates
use Rattle.gw_meaning.specs.declared.entity_change.QueueUpdate.TheVariants as of_queue
use Rattle.gw_meaning.specs.Listing.{Listing}
use Rattle.gw_meaning.specs.Entities.{Entities, line_at, done}
use Rattle.gw_meaning.specs.Machine.{Machine}
use Rattle.gw_frame.proofs.Known.{IsDecidedUpdate, Fits, Leaves}
use Rattle.gw_laws.specs.Queues.{IsWithin, QueuesAreWithin}
use Rattle.gw_laws.proofs.Entries.{Each, at_has, with_has}
use Rattle.gw_laws.proofs.EntityLaws.{KeepsEntities, over_entities}
use Rattle.gw_meaning.specs.Entities.{all_anew}
use Rattle.gw_meaning.specs.Records.{queue_anew}

abbrev AreWithin : ℕ → List (Key × Line) → Type 0
AreWithin clock = Each (IsWithin clock)

-- a queue that nothing touched
none_within : (clock : ℕ) → IsWithin clock no_line
none_within clock =
    record { entries = omega arith; zero_entries = omega arith; greatest = omega arith; content = omega arith; at = omega arith }

line_within : (clock : ℕ) (e : Entities) (key : Key) → AreWithin clock e.queues → IsWithin clock (line_at e key)
line_within clock e key all = at_has (IsWithin clock) no_line e.queues key (none_within clock) all

-- what a block makes of one
queued_within : (clock units : ℕ) (q : Line) → Fits q units → IsWithin clock q → IsWithin clock (queued units clock q)
queued_within clock units q fits h = record {
  entries = omega (arith, fits.entries);
  zero_entries = h.zero_entries;
  greatest = omega (arith, fits.content, h.greatest);
  content = omega (arith, fits.content);
  at = omega (arith, h.at);
}

departed_within : (clock units : ℕ) (at_once : Bool) (q : Line) → Leaves q units at_once → IsWithin clock q →
    IsWithin clock (departed units clock at_once q)
departed_within clock units true q leaves h = record {
  entries = h.entries;
  zero_entries = omega (arith, leaves refl);
  greatest = h.greatest;
  content = omega (arith, h.content);
  at = omega (arith, h.at);
}
departed_within clock units false q leaves h =
    record {
      entries = h.entries;
      zero_entries = h.zero_entries;
      greatest = h.greatest;
      content = omega (arith, h.content);
      at = omega (arith, h.at);
    }

done_within : (t : Listing) (s : Machine) (key : Key) (update : Update) (number : ℕ) → IsDecidedUpdate t s key update → AreWithin s.clock s.entities.queues →
    AreWithin s.clock (done key update s.clock number s.entities).queues
done_within t s key (updates.Queue (of_queue.Queue units)) number fits all =
    with_has (IsWithin s.clock) s.entities.queues key _ (queued_within s.clock units _ fits (line_within s.clock s.entities key all)) all
done_within t s key (updates.Queue (of_queue.Depart units at_once)) number leaves all =
    with_has (IsWithin s.clock) s.entities.queues key _ (departed_within s.clock units at_once _ leaves (line_within s.clock s.entities key all)) all
done_within t s key update number decided all = all

-- a later clock
later_within : (clock later : ℕ) (qs : List (Key × Line)) → clock ≤ later → AreWithin clock qs → AreWithin later qs
later_within clock later [] on all = tt
later_within clock later (q ∷ qs) on all = (
  record {
    entries = all.0.entries;
    zero_entries = all.0.zero_entries;
    greatest = all.0.greatest;
    content = all.0.content;
    at = omega (arith, on, all.0.at);
  },
  later_within clock later qs on all.1,
)

-- counted anew
anew_within : (clock : ℕ) (qs : List (Key × Line)) → AreWithin clock qs → AreWithin clock (all_anew (queue_anew clock) qs)
anew_within clock [] all = tt
anew_within clock (q ∷ qs) all = (
  record {
    entries = omega arith;
    zero_entries = omega arith;
    greatest = all.0.content;
    content = all.0.content;
    at = omega arith;
  },
  anew_within clock qs all.1,
)

-- over a run
keeps_queues : (t : Listing) → KeepsEntities t (λ n clock e. AreWithin clock e.queues)
keeps_queues t = record {
  none = λ n. tt;
  further = λ n clock e all. all;
  does = λ n s key update number decided all. done_within t s key update number decided all;
  goes_on = λ n before now e on all. later_within before now e.queues on all;
  anew = λ n clock e all. anew_within clock e.queues all;
}

pub queues_are_within : QueuesAreWithin
queues_are_within t seed n s is =
    All-from_recursion (λ (q : Key × Line). IsWithin s.clock q.1) s.entities.queues
    (over_entities t (λ n clock e. AreWithin clock e.queues) (keeps_queues t) seed n s is)
