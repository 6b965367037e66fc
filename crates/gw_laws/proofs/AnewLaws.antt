-- What a RESET, a CLEAR and a TABULATE do in a step.
use Rattle.std.proofs.Common.{◌≡◌, ℕ, ℤ, cond, List, [], ◌∷◌, ◌++◌, Some, Ok, refl, sym, ap, subst, ◌∙◌, inl, inr, arith}
use Rattle.std.proofs.lemmas.Bool.{cases_Bool}
use Rattle.gw_names.specs.declared.key.Key.{Key}
use Rattle.gw_names.specs.Keys.{key_eq}
use Rattle.gw_meaning.specs.Levels.{sum_up_to}
use Rattle.gw_meaning.specs.Records.{Ownership, never_owned, facility_anew, Line, no_line, queue_anew, Store, never_used, storage_anew}
use Rattle.gw_entities.proofs.QueueArrivalLaws.{key_same}
use Rattle.gw_entities.proofs.TableLaws.{key_eq_equiv}
use Rattle.gw_meaning.specs.declared.entity_change.Update.TheVariants as updates
use Rattle.gw_meaning.specs.declared.moves.Change.TheVariants as changes
use Rattle.gw_meaning.specs.declared.moves.Move.{Move}
use Rattle.gw_meaning.specs.declared.moves.Move.TheVariants as moves
use Rattle.gw_meaning.specs.declared.moves.Fate.TheVariants as fates
use Rattle.gw_meaning.specs.declared.statement.Command.{Command}
use Rattle.gw_meaning.specs.declared.statement.Command.TheVariants as commands
use Rattle.gw_meaning.specs.declared.transaction.Count.{Count}
use Rattle.gw_meaning.specs.declared.transaction.Transaction.{Transaction}
use Rattle.gw_meaning.specs.Entities.{Entities, table_at, done}
use Rattle.gw_meaning.specs.Listing.{Listing}
use Rattle.gw_meaning.specs.Machine.{Machine}
use Rattle.gw_meaning.specs.Questions.{result_of}
use Rattle.gw_meaning.specs.Changes.{reset, entering, with_active, moved, decided}
use Rattle.gw_meaning.specs.Step.{command_prog, move_prog, step}
use Rattle.gw_laws.specs.Anew.{IsNextCommand, ClearBeginsAnew, NobodyMoved, ResetMovesNobody, IsCountedAnew, ResetCountsAnew, OneValueMore, TabulateAddsOneValue}
use Rattle.gw_laws.proofs.Anew.{all_look, all_hold, keys_anew, just_restarted, chain_members, chain_entries, owner_reset, queue_reset, storage_reset, count_reset}
use Rattle.gw_laws.proofs.Entries.{at_with}
use Rattle.gw_laws.proofs.EndLaws.{goes_on}
use Rattle.gw_laws.proofs.UserChainLaws.{same_behind, who_is_active}
use Rattle.gw_laws.proofs.Waking.{nobody_wakes}

-- ---- a command that is next is done

done_next : (t : Listing) (seed : ℕ) (s : Machine) (command : Command) (m : Move) → IsNextCommand t s command →
    result_of t seed (command_prog s (Some command) s.streams) ≡ Ok (m, s.streams) → step t seed s ≡ Ok (decided s m s.streams)
done_next t seed s command m next gives' =
    goes_on t seed s (m, s.streams)
    (ap (λ n. result_of t seed (move_prog s n s.streams)) next.idle
    ∙ (ap (λ o. result_of t seed (command_prog s o s.streams)) next.next ∙ gives'))

behind_is : (s v : Machine) (m : Move) (t : Listing) (seed : ℕ) → step t seed s ≡ Ok (decided s m s.streams) → step t seed s ≡ Ok v →
    decided s m s.streams ≡ v
behind_is s v m t seed goes is = let both : Ok (decided s m s.streams) ≡ Ok v = sym goes ∙ is in cc

pub clear_begins_anew : ClearBeginsAnew
clear_begins_anew t seed s v next is = sym (behind_is s v moves.Clear t seed (done_next t seed s commands.Clear moves.Clear next refl) is)

-- after a RESET nobody wakes
reset_is : (t : Listing) (seed : ℕ) (s v : Machine) → IsNextCommand t s commands.Reset → step t seed s ≡ Ok v →
    (let w : Machine = record (reset s) { streams = s.streams } in w) ≡ v
reset_is t seed s v next is =
    sym (ap (λ (u : Machine). let w : Machine = record u { streams = s.streams } in w) (nobody_wakes (reset s)))
    ∙ behind_is s v moves.Reset t seed (done_next t seed s commands.Reset moves.Reset next refl) is

pub reset_moves_nobody : ResetMovesNobody
reset_moves_nobody t seed s v next is = subst (NobodyMoved s) (reset_is t seed s v next is) (record {
  clock = refl;
  complete = refl;
  primed = refl;
  next = refl;
  streams = refl;
  active = refl;
  current = refl;
  future = refl;
  delays = refl;
  retry = refl;
  linked = chain_members s;
  parameters = refl;
  contents = λ id. ap (λ (c : Count). c.content) (count_reset s id);
  made = λ id. ap (λ (c : Count). c.made) (count_reset s id);
  owners = owner_reset s;
  queues = queue_reset s;
  storages = storage_reset s;
  savevalues = refl;
  switches = refl;
  queue_arrivals = refl;
  facility_lines = keys_anew (facility_anew s.clock) s.entities.facilities;
  queue_lines = keys_anew (queue_anew s.clock) s.entities.queues;
  storage_lines = keys_anew (storage_anew s.clock) s.entities.storages;
  table_lines = keys_anew (λ (values : List ℤ). []) s.entities.tables;
})

pub reset_counts_anew : ResetCountsAnew
reset_counts_anew t seed s v next is = subst IsCountedAnew (reset_is t seed s v next is) (record {
  since = refl;
  blocks = λ id. ap (λ (c : Count). c.entries) (count_reset s id);
  linked = chain_entries s;
  captures = all_look (facility_anew s.clock) (λ (f : Ownership). f.captures) never_owned 0 (λ f. refl) refl s.entities.facilities;
  queues = all_look (queue_anew s.clock) (λ (q : Line). q.entries) no_line 0 (λ q. refl) refl s.entities.queues;
  zero_entries = all_look (queue_anew s.clock) (λ (q : Line). q.zero_entries) no_line 0 (λ q. refl) refl s.entities.queues;
  storages = all_look (storage_anew s.clock) (λ (q : Store). q.entries) never_used 0 (λ q. refl) refl s.entities.storages;
  tables = all_look (λ (values : List ℤ). []) (λ (values : List ℤ). values) [] [] (λ values. refl) refl s.entities.tables;
  owned =
      all_look (facility_anew s.clock) (λ (f : Ownership). sum_up_to f.level s.clock) never_owned 0
      (λ f. just_restarted s.clock f.level) (omega arith) s.entities.facilities;
  stood =
      all_look (queue_anew s.clock) (λ (q : Line). sum_up_to q.level s.clock) no_line 0 (λ q. just_restarted s.clock q.level) (omega arith)
      s.entities.queues;
  used =
      all_look (storage_anew s.clock) (λ (q : Store). sum_up_to q.level s.clock) never_used 0 (λ q. just_restarted s.clock q.level)
      (omega arith) s.entities.storages;
  longest = all_hold (queue_anew s.clock) (λ (q : Line). q.greatest ≡ q.level.content) no_line (λ q. refl) refl s.entities.queues;
  least = all_hold (storage_anew s.clock) (λ (q : Store). q.least ≡ q.level.content) never_used (λ q. refl) refl s.entities.storages;
  most = all_hold (storage_anew s.clock) (λ (q : Store). q.greatest ≡ q.level.content) never_used (λ q. refl) refl s.entities.storages;
})

-- ---- one value more

added : (key : Key) (value : ℤ) (clock number : ℕ) (e : Entities) → OneValueMore key value e (done key (updates.Table value) clock number e)
added key value clock number e =
    let more : List ℤ = table_at e key ++ value ∷ [] in
    record {
      here = at_with [] e.tables key more key ∙ ap (λ b. cond b more (table_at e key)) (key_eq_equiv.refl key);
      elsewhere = λ other apart. elim (cases_Bool (key_eq other key)) [
        | inl is ↦ absurd (apart (key_same other key is))
        | inr differs ↦ at_with [] e.tables key more other ∙ ap (λ b. cond b more (table_at e other)) differs
      ];
      facilities = refl;
      queues = refl;
      storages = refl;
      savevalues = refl;
      switches = refl;
      queue_arrivals = refl;
    }

pub tabulate_adds_one_value : TabulateAddsOneValue
tabulate_adds_one_value t seed s v m streams key value goes is tabulates =
    let id = tabulates.0 in
    let change = changes.Entity (key, updates.Table value) in
    let who = who_is_active t seed s m streams id change fates.Active goes tabulates.1 in
    let P : Machine → Type 0 = λ w. OneValueMore key value s.entities w.entities × (w.linked ≡ s.linked) in
    let f : Transaction → Machine = λ x. entering s x id change fates.Active in
    let here : P (f who.0) = (added key value s.clock who.0.number s.entities, refl) in
    let there : P (moved s (moves.Enter id change fates.Active)) = subst (λ o. P (with_active o f s)) (sym who.1) here in
    let behind : P (decided s m streams) = subst (λ n. P (moved s n)) (sym tabulates.1) there in
    subst P (same_behind t seed s v m streams goes is) behind
