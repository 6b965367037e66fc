use Rattle.std.proofs.Common.{◌≡◌, ℕ, Ok, Err, length, option_copied, subst, rules}
use Rattle.gw_names.specs.declared.key.Key.{Key}
use Rattle.gw_meaning.specs.declared.moves.Move.{Move}
use Rattle.gw_meaning.specs.Evaluation.{Eval, entity_prog, ◌~>◌}
use Rattle.gw_meaning.specs.Machine.{user_chain_at}
use Rattle.gw_meaning.specs.Step.{leaving_prog, unlink_count}
use Rattle.gw_asking.specs.Deciding.{Decides}
use Rattle.gw_asking.proofs.Binding.{decides_left, decides_then}
use Rattle.gw_verbs.proofs.unlink.decide_unlink.Goals as goal

pub returns-in_err-key : goal.returns-in_err-key
returns-in_err-key c =
    let t = c.args.context.run.version.now in
    let seed = c.args.context.run.seed in
    let s = c.args.context.state.now in
    let q = c.args.context.asker.now in
    let last : Key → ℕ → Eval Move = λ key n. unlink_count c.args.id key (option_copied c.args.label) n in
    let rest : Key → Eval Move = λ key. leaving_prog s q (option_copied c.args.count) (length (user_chain_at s.linked key).members) ~> last key in
    decides_left t seed (entity_prog s q (option_copied c.args.entity)) rest _ c.in_err-key.field-0.0 _ _ c.from_residual.ensures.1 c.in_err-key.ensures

pub returns-in_err-count : goal.returns-in_err-count
returns-in_err-count c =
    let t = c.args.context.run.version.now in
    let seed = c.args.context.run.seed in
    let s = c.args.context.state.now in
    let q = c.args.context.asker.now in
    let last : Key → ℕ → Eval Move = λ key n. unlink_count c.args.id key (option_copied c.args.label) n in
    let rest : Key → Eval Move = λ key. leaving_prog s q (option_copied c.args.count) (length (user_chain_at s.linked key).members) ~> last key in
    let key = c.in_ok-key.key in
    let F : ℕ → Type 0 = λ n. Decides t seed (leaving_prog s q (option_copied c.args.count) n) (Err c.in_err-count.field-0.0) c.key_of.new.notes c.leaving.new.notes in
    let there : c.len-there.result ≡ length (user_chain_at s.linked key).members = search rules in
    decides_then t seed (entity_prog s q (option_copied c.args.entity)) rest key _ _ _ _ c.in_ok-key.ensures
    (decides_left t seed (leaving_prog s q (option_copied c.args.count) (length (user_chain_at s.linked key).members)) (last key) _ c.in_err-count.field-0.0 _ _
    c.from_residual-in_err-count.ensures.1 (subst F there c.in_err-count.ensures))

pub returns : goal.returns
returns c =
    let t = c.args.context.run.version.now in
    let seed = c.args.context.run.seed in
    let s = c.args.context.state.now in
    let q = c.args.context.asker.now in
    let last : Key → ℕ → Eval Move = λ key n. unlink_count c.args.id key (option_copied c.args.label) n in
    let rest : Key → Eval Move = λ key. leaving_prog s q (option_copied c.args.count) (length (user_chain_at s.linked key).members) ~> last key in
    let key = c.in_ok-key.key in
    let F : ℕ → Type 0 = λ n. Decides t seed (leaving_prog s q (option_copied c.args.count) n) (Ok c.in_ok-count.count) c.key_of.new.notes c.leaving.new.notes in
    let there : c.len-there.result ≡ length (user_chain_at s.linked key).members = search rules in
    decides_then t seed (entity_prog s q (option_copied c.args.entity)) rest key _ _ _ _ c.in_ok-key.ensures
    (decides_then t seed (leaving_prog s q (option_copied c.args.count) (length (user_chain_at s.linked key).members)) (last key) c.in_ok-count.count _ _ _ _
    (subst F there c.in_ok-count.ensures) c.unlink_count.ensures)
