use Rattle.std.proofs.Common.{◌≡◌, suc, ◌+◌, ◌-◌, [], sym, ap, ◌∙◌, arith}
use Rattle.gw_meaning.specs.Changes.{all_copied}
use Rattle.gw_state.specs.declared.parts.Parts.{Parts}
use Rattle.gw_state.specs.States.{machine_of}
use Rattle.gw_state.proofs.parts.Parts.copy_all.Goals as goal

pub loop-copy-preserved : goal.loop-copy-preserved
loop-copy-preserved c =
    let left = c.args.count - (c.loop-copy._copy + 1) in
    let more : c.args.count - c.loop-copy._copy ≡ suc left = omega (arith, c.loop-copy-test.true) in
    record {
      limit = c.stand.ensures.limit ∙ c.loop-copy.invariant.limit;
      room = omega (arith, c.line_up.ensures.room, c.loop-copy.invariant.room);
      copied = rw (c.saturating_add-self.ensures, c.line_up.ensures.items, c.stand.ensures.entries)
          (ap (λ n. all_copied n c.args.to c.args.x [] (machine_of c.loop-copy.self)) (sym more) ∙ c.loop-copy.invariant.copied);
      rest = ap (λ (p : Parts). record p { next = c.saturating_add-self.result; current = c.line_up.new.self; counts = c.stand.new.self })
          c.loop-copy.invariant.rest;
    }
