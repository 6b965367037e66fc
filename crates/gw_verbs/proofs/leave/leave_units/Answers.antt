use Rattle.std.proofs.Common.{◌≡◌, ℕ, ◌-◌, List, [], Option, Ok, Err, nat_lt, false, refl, ap, subst, ◌∙◌, arith, rules, option_copied}
use Rattle.std.proofs.lemmas.Bool.Decides.{nat_tests}
use Rattle.std.proofs.lemmas.Result.{err_from_is_err_and}
use Rattle.gw_names.specs.declared.key.Key.{Key}
use Rattle.gw_names.specs.declared.key.Key.TheVariants as keys
use Rattle.gw_meaning.specs.declared.moves.Move.{Move}
use Rattle.gw_meaning.specs.declared.transaction.Transaction.{Transaction}
use Rattle.gw_chains.specs.Chains.{items_of}
use Rattle.gw_meaning.specs.Machine.{delay_at}
use Rattle.gw_meaning.specs.Evaluation.{Eval, ◌~>◌}
use Rattle.gw_meaning.specs.Step.{grants_prog, leave_for, leave_units}
use Rattle.gw_asking.specs.Deciding.{Decides, Comes}
use Rattle.gw_asking.proofs.Binding.{decides_exit, decides_whole, decides_comes}
use Rattle.gw_verbs.proofs.leave.leave_units.Goals as goal

pub returns-in_err-grants : goal.returns-in_err-grants
returns-in_err-grants c =
    let t = c.args.context.run.version.now in
    let seed = c.args.context.run.seed in
    let s = c.args.context.state.now in
    let name = c.args.name.now in
    let store = c.args.storage in
    let units = c.args.units in
    let content : c.content-content.result ≡ store.level.content = search rules in
    let enough : nat_lt store.level.content units ≡ false = rw (← content) (grind (arith, nat_tests)) in
    let grants = grants_prog name (store.level.content - units) [] (delay_at s.delays (keys.Defined name)) in
    let rest : List (Option ℕ) → Eval Move = λ given. leave_for c.args.id (keys.Defined name) store units given in
    let whole : leave_units s c.args.id name store units ≡ (grants ~> rest) = rw enough refl in
    let chain = items_of (option_copied c.chain-chain.result) in
    let line : chain ≡ delay_at s.delays (keys.Defined name) = search rules in
    let asked : grants_prog c.name.result.now (c.content-content.result - units) [] chain ≡ grants =
    ap (λ (n : List ℕ). grants_prog n (c.content-content.result - units) [] chain) c.name.ensures ∙
    ap (λ n. grants_prog name (n - units) [] chain) content ∙
    ap (λ (xs : List Transaction). grants_prog name (store.level.content - units) [] xs) line in
    let why = c.in_err-grants.field-0.0 in
    let p = err_from_is_err_and c.from_residual.result c.from_residual.ensures.1 in
    let said = subst (λ (p : Eval (List (Option ℕ))). Decides t seed p (Err why) c.args.notes.now c.grants_of.new.notes) asked c.in_err-grants.ensures in
    decides_exit t seed grants rest _ _ _ why _ _ whole p.1 p.2 said

pub returns : goal.returns
returns c =
    let t = c.args.context.run.version.now in
    let seed = c.args.context.run.seed in
    let s = c.args.context.state.now in
    let name = c.args.name.now in
    let store = c.args.storage in
    let units = c.args.units in
    let content : c.content-content.result ≡ store.level.content = search rules in
    let enough : nat_lt store.level.content units ≡ false = rw (← content) (grind (arith, nat_tests)) in
    let grants = grants_prog name (store.level.content - units) [] (delay_at s.delays (keys.Defined name)) in
    let rest : List (Option ℕ) → Eval Move = λ given. leave_for c.args.id (keys.Defined name) store units given in
    let whole : leave_units s c.args.id name store units ≡ (grants ~> rest) = rw enough refl in
    let chain = items_of (option_copied c.chain-chain.result) in
    let line : chain ≡ delay_at s.delays (keys.Defined name) = search rules in
    let asked : grants_prog c.name.result.now (c.content-content.result - units) [] chain ≡ grants =
    ap (λ (n : List ℕ). grants_prog n (c.content-content.result - units) [] chain) c.name.ensures ∙
    ap (λ n. grants_prog name (n - units) [] chain) content ∙
    ap (λ (xs : List Transaction). grants_prog name (store.level.content - units) [] xs) line in
    let given = c.in_ok-grants.grants in
    let said = subst (λ (p : Eval (List (Option ℕ))). Decides t seed p (Ok given) c.args.notes.now c.grants_of.new.notes) asked c.in_ok-grants.ensures in
    let own : c.in_ok-clone.field-0 ≡ keys.Defined name = search rules in
    let left = subst (λ (k : Key). Comes (leave_for c.args.id k store units given) c.leave_for.result) own c.leave_for.ensures in
    decides_whole t seed grants rest _ given _ _ _ _ whole said (decides_comes t seed (rest given) c.leave_for.result _ left)
