use Rattle.std.proofs.Common.{◌≡◌, [], ℤ, List}
use Rattle.gw_meaning.specs.Records.{facility_anew, queue_anew, storage_anew}
use Rattle.gw_meaning.specs.Entities.{Entities, all_anew}
use Rattle.gw_state.proofs.entities.Entities.count_anew.Goals as goal

pub returns-clause-ok : goal.returns-clause-ok
returns-clause-ok c =
    let e = c.self.inside in
    let clock = c.args.clock in
    let facilities : c.in_ok-facilities.facilities ≡ all_anew (facility_anew clock) e.facilities = c.in_ok-facilities.ensures in
    let queues : c.in_ok-queues.queues ≡ all_anew (queue_anew clock) e.queues = c.in_ok-queues.ensures in
    let storages : c.in_ok-storages.storages ≡ all_anew (storage_anew clock) e.storages = c.in_ok-storages.ensures in
    let tables : c.in_ok-tables.tables ≡ all_anew (λ (values : List ℤ). []) e.tables = c.in_ok-tables.ensures in
    rw (← c.self.view_is) (λ i. let now : Entities = record {
      facilities = facilities i;
      queues = queues i;
      storages = storages i;
      savevalues = e.savevalues;
      switches = e.switches;
      tables = tables i;
      queue_arrivals = e.queue_arrivals.queue_arrivals;
    } in now)
