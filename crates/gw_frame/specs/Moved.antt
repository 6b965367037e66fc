-- The ids of blocks given other names, wherever they stand: in questions, answers and states; and what it is for a
-- version to answer accordingly. Operands, ends and streams name no id. (Our own.)
use Rattle.std.specs.Prelude.{◌≡◌, ℕ, List, map, option_map, Result, Ok, Err}
use Rattle.gw_names.specs.declared.key.Key.{Key}
use Rattle.gw_meaning.specs.declared.item.Item.{Item}
use Rattle.gw_meaning.specs.declared.item.Asked.TheVariants as asking
use Rattle.gw_meaning.specs.declared.item.Item.TheVariants as items
use Rattle.gw_expr.specs.declared.halt.End.{End}
use Rattle.gw_meaning.specs.declared.transaction.Transaction.{Transaction}
use Rattle.gw_meaning.specs.declared.transaction.Event.{Event}
use Rattle.gw_meaning.specs.declared.transaction.Count.{Count}
use Rattle.gw_meaning.specs.declared.watched.Watched.{Watched}
use Rattle.gw_meaning.specs.declared.watched.Watched.TheVariants as watched
use Rattle.gw_meaning.specs.Listing.{Listing}
use Rattle.gw_meaning.specs.Watching.{Waiter}
use Rattle.gw_meaning.specs.Machine.{Machine, UserChain}
use Rattle.gw_meaning.specs.Questions.{Answer, ask}

-- a way to number ids anew: 0, which is no block, stays, and no two ids become one
pub record IsMove (move : ℕ → ℕ) : Type 0 where
  pub none : move 0 ≡ 0
  pub apart : (p q : ℕ) → move p ≡ move q → p ≡ q

module _ (move : ℕ → ℕ) where
  -- a question: those of a block name an id, and no other does
  abbrev pub moved_item : Item → Item
  moved_item (items.Block id) = items.Block (move id)
  moved_item (items.After id) = items.After (move id)
  moved_item item = item

  -- its answer: what comes after a block, the block with a label and the list of GENERATEs name ids, and no other does
  abbrev pub moved_answer : (i : Item) → Answer i → Answer (moved_item i)
  moved_answer (items.After id) after = option_map move after
  moved_answer (items.Named asking.Label name) id = option_map move id
  moved_answer items.Generates ids = map move ids
  moved_answer item answer = answer

  -- a state
  abbrev pub moved_transaction : Transaction → Transaction
  moved_transaction x = record x { current = move x.current; destination = option_map move x.destination }

  abbrev pub moved_event : Event → Event
  moved_event e = record e { transaction = moved_transaction e.transaction }

  abbrev pub moved_delay : Key × List Transaction → Key × List Transaction
  moved_delay d = (d.0, map moved_transaction d.1)

  abbrev pub moved_chain : UserChain → UserChain
  moved_chain c = record { entries = c.entries; members = map moved_transaction c.members }

  abbrev pub moved_linked : Key × UserChain → Key × UserChain
  moved_linked c = (c.0, moved_chain c.1)

  abbrev pub moved_watched : Watched → Watched
  moved_watched (watched.Entity kind key) = watched.Entity kind key
  moved_watched (watched.Counts id) = watched.Counts (move id)

  abbrev pub moved_waiter : Waiter → Waiter
  moved_waiter w = record { transaction = moved_transaction w.transaction; read = map moved_watched w.read }

  abbrev pub moved_count : ℕ × Count → ℕ × Count
  moved_count c = (move c.0, c.1)

  abbrev pub moved_machine : Machine → Machine
  moved_machine s =
      record s {
        active = option_map moved_transaction s.active;
        current = map moved_transaction s.current;
        future =
            map moved_event s.future;
        delays = map moved_delay s.delays;
        retry = map moved_waiter s.retry;
        linked = map moved_linked s.linked;
        counts = map moved_count s.counts;
      }

  -- what a run comes to
  abbrev pub moved_result : Result Machine End → Result Machine End
  moved_result (Ok s) = Ok (moved_machine s)
  moved_result (Err end) = Err end

  -- the second version answers the moved question as the first answers the question, moved
  abbrev pub MovedAnswer : Listing → ℕ → Listing → ℕ → Item → Type 0
  MovedAnswer t seed u new_seed i = ask u new_seed (moved_item i) ≡ moved_answer i (ask t seed i)
