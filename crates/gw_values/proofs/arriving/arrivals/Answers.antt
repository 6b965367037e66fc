use Rattle.std.proofs.Common.{◌≡◌, ◌+◌, ◌<◌, [], Ok, drop, length, ap, sym, arith, rules}
use Rattle.std.proofs.lemmas.Result.{err_from_is_err_and}
use Rattle.std.proofs.Math.Seq.{drop-length}
use Rattle.gw_meaning.specs.Evaluation.{◌~>◌}
use Rattle.gw_meaning.specs.Step.{arrivals_prog, prime_prog, with_arrival}
use Rattle.gw_chains.proofs.ChainLaws.{item_drop}
use Rattle.std.specs.Prelude.{Err}
use Rattle.gw_expr.specs.declared.halt.Halt.TheVariants as halts
use Rattle.gw_asking.proofs.Binding.{decides_exit, decides_whole, decides_gives, decides_memory, reads_keep}
use Rattle.gw_values.proofs.arriving.arrivals.Goals as goal

pub returns-in_err-arrival : goal.returns-in_err-arrival
returns-in_err-arrival c =
    let p = err_from_is_err_and c.from_residual.result c.from_residual.ensures.1 in
    let s = c.args.context.state.now in
    let ids = c.args.ids.now in
    let i = c.loop-id.id-index in
    let made = c.loop-id.arrivals.items in
    let id = c.id-item.result in
    let h : i < length ids = search rules in
    let whole : arrivals_prog s c.args.context.asker.now (drop i ids) made ≡
    (prime_prog s c.args.context.asker.now id ~> (λ a. arrivals_prog s c.args.context.asker.now (drop (i + 1) ids) (with_arrival a made))) =
    ap (λ ps. arrivals_prog s c.args.context.asker.now ps made) (item_drop ids i id h c.id-item.is) in
    c.loop-id.invariant c.from_residual.result _ (decides_exit c.args.context.run.version.now c.args.context.run.seed (prime_prog s c.args.context.asker.now id)
    (λ a. arrivals_prog s c.args.context.asker.now (drop (i + 1) ids) (with_arrival a made)) _ _ _ c.in_err-arrival.field-0.0 _ _ whole p.1 p.2
    c.in_err-arrival.ensures)

pub loop-id-preserved : goal.loop-id-preserved
loop-id-preserved c = λ r all rest.
    let s = c.args.context.state.now in
    let ids = c.args.ids.now in
    let i = c.loop-id.id-index in
    let made = c.loop-id.arrivals.items in
    let id = c.id-item.result in
    let h : i < length ids = search rules in
    let whole : arrivals_prog s c.args.context.asker.now (drop i ids) made ≡
    (prime_prog s c.args.context.asker.now id ~> (λ a. arrivals_prog s c.args.context.asker.now (drop (i + 1) ids) (with_arrival a made))) =
    ap (λ ps. arrivals_prog s c.args.context.asker.now ps made) (item_drop ids i id h c.id-item.is) in
    let put : with_arrival c.in_ok-arrival.arrival made ≡ c.put_if.new.arrivals.items = sym c.in_ok-put_if.ensures in
    c.loop-id.invariant r all (decides_whole c.args.context.run.version.now c.args.context.run.seed (prime_prog s c.args.context.asker.now id)
    (λ a. arrivals_prog s c.args.context.asker.now (drop (i + 1) ids) (with_arrival a made))
    _ c.in_ok-arrival.arrival r c.loop-id.notes c.prime.new.notes all whole c.in_ok-arrival.ensures (rw put rest))

pub returns : goal.returns
returns c =
    let last : c.loop-id.id-index ≡ length c.args.ids.now = omega arith in
    let end : drop c.loop-id.id-index c.args.ids.now ≡ [] = rw last (drop-length c.args.ids.now) in
    rw c.from_vec.ensures (c.loop-id.invariant (Ok c.loop-id.arrivals.items) c.loop-id.notes
    (rw end (decides_gives c.args.context.run.version.now c.args.context.run.seed c.loop-id.arrivals.items c.loop-id.notes)))

pub returns-in_err-put_if : goal.returns-in_err-put_if
returns-in_err-put_if c =
    let t = c.args.context.run.version.now in
    let seed = c.args.context.run.seed in
    let p = err_from_is_err_and c.from_residual-in_err-put_if.result c.from_residual-in_err-put_if.ensures.1 in
    let kept = c.loop-id.invariant (Err halts.Memory) c.prime.new.notes (reads_keep c.loop-id.notes c.prime.new.notes _ c.in_ok-arrival.ensures.1) in
    decides_memory t seed (arrivals_prog c.args.context.state.now c.args.context.asker.now c.args.ids.now []) _ _ c.args.notes.now c.prime.new.notes p.1 p.2 kept
