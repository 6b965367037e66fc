use Rattle.std.proofs.Common.{◌≡◌, ℕ, ◌+◌, ◌<◌, Bool, List, [], ◌∷◌, ◌++◌, Option, Ok, drop, length, sym, ap, subst, arith, drop_of_length-le}
use Rattle.gw_meaning.specs.declared.item.Asked.TheVariants as asking
use Rattle.gw_meaning.specs.declared.item.Item.TheVariants as items
use Rattle.gw_meaning.specs.Evaluation.{Eval, asks}
use Rattle.gw_meaning.specs.Step.{beside, grant_of, in_use, grants_prog}
use Rattle.gw_asking.specs.Deciding.{Decides}
use Rattle.gw_chains.proofs.ChainLaws.{item_drop}
use Rattle.std.specs.Prelude.{Err}
use Rattle.std.proofs.lemmas.Result.{err_from_is_err_and}
use Rattle.gw_expr.specs.declared.halt.Halt.TheVariants as halts
use Rattle.gw_asking.proofs.Binding.{decides_asked, decides_gives, decides_memory, reads_one, reads_keep}
use Rattle.gw_verbs.proofs.grants.grants_of_chain.Goals as goal

pub loop-i-preserved : goal.loop-i-preserved
loop-i-preserved c = λ r all rest.
    let t = c.args.run.version.now in
    let seed = c.args.run.seed in
    let name = c.args.name.now in
    let F = c.args.chain.now.items in
    let i = c.loop-i.i in
    let content = c.loop-i.content in
    let grants = c.loop-i.grants.items in
    let x = c.in-Some.x.now in
    let h : i < length F = omega arith in
    let rest_of : Bool → Eval (List (Option ℕ)) =
    λ fits. grants_prog name (in_use content x.asked fits) (grants ++ grant_of x.asked fits ∷ []) (drop (i + 1) F) in
    let whole : grants_prog name content grants (drop i F) ≡ asks (items.Named (asking.Fits (beside x.asked content)) name) rest_of =
    ap (grants_prog name content grants) (item_drop F i x h c.in-Some.ensures.1) in
    let noted = rw (c.beside.ensures, c.from-asked.ensures) at c.in_ok-fits.ensures.ok in
    let answer = rw (c.beside.ensures, c.from-asked.ensures) at c.in_ok-fits.ensures.answer in
    let next = rw (c.in_use-content.ensures, c.in_ok-push.ensures.items, c.grant_of.ensures, c.from-asked.ensures, answer) at rest in
    c.loop-i.invariant r all (subst (λ (p : Eval (List (Option ℕ))). Decides t seed p r c.loop-i.notes all) (sym whole)
    (decides_asked t seed (items.Named (asking.Fits (beside x.asked content)) name) rest_of r c.loop-i.notes c.ask_fits.new.notes all noted next))

pub returns : goal.returns
returns c =
    let F = c.args.chain.now.items in
    let last : c.loop-i.i ≡ length F = omega arith in
    let end : drop c.loop-i.i F ≡ [] = drop_of_length-le F (omega (arith, last)) in
    rw c.from_vec.ensures (c.loop-i.invariant (Ok c.loop-i.grants.items) c.loop-i.notes
    (rw end (decides_gives c.args.run.version.now c.args.run.seed c.loop-i.grants.items c.loop-i.notes)))

pub returns-in_err-push : goal.returns-in_err-push
returns-in_err-push c =
    let t = c.args.run.version.now in
    let seed = c.args.run.seed in
    let p = err_from_is_err_and c.from_residual-in_err-push.result c.from_residual-in_err-push.ensures.1 in
    let noted = c.in_ok-fits.ensures.ok in
    let read = reads_one c.loop-i.notes _ c.ask_fits.new.notes noted in
    let kept = c.loop-i.invariant (Err halts.Memory) c.ask_fits.new.notes (reads_keep c.loop-i.notes c.ask_fits.new.notes _ read) in
    decides_memory t seed (grants_prog c.args.name.now c.args.content [] c.args.chain.now.items) _ _ c.args.notes.now c.ask_fits.new.notes p.1 p.2 kept
