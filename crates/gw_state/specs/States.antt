-- What a contract sees of a state: the machine that its parts are. (Our own.)
use Rattle.gw_meaning.specs.Machine.{Machine}
use Rattle.gw_chains.specs.Chains.{delays_of}
use Rattle.gw_state.specs.Parts.{entities_of}
use Rattle.gw_state.specs.declared.parts.Parts.{Parts}

abbrev pub machine_of : Parts → Machine
machine_of p = record {
  clock = p.clocks.clock;
  since = p.clocks.since;
  remaining = p.progress.remaining;
  commands = p.progress.commands;
  complete = p.progress.complete;
  primed = p.progress.primed;
  streams = p.streams;
  next = p.next;
  active = p.active;
  current = p.current.items;
  future = p.future.items;
  delays = delays_of p.delays;
  retry = p.retry.waiters;
  linked = p.linked;
  counts = p.counts.entries;
  entities = entities_of p.entities;
  parameters = p.parameters;
}
