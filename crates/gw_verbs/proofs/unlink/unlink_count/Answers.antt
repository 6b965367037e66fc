use Rattle.std.proofs.Common.{◌≡◌, Ok, None, Some, option_copied, sym, ap, ◌∙◌, subst, rules}
use Rattle.gw_expr.specs.declared.expr.Expr.TheVariants.{Label}
use Rattle.gw_meaning.specs.declared.item.Asked.TheVariants as asking
use Rattle.gw_meaning.specs.declared.item.Item.TheVariants as items
use Rattle.gw_meaning.specs.Listing.{label_at}
use Rattle.gw_meaning.specs.Step.{unlink_count, unlink_some, unlink_to}
use Rattle.gw_asking.specs.Deciding.{Comes, Decides}
use Rattle.gw_asking.proofs.Binding.{decides_asked, decides_comes}
use Rattle.gw_verbs.proofs.Counting.{unlink_none, unlink_away}
use Rattle.gw_verbs.proofs.unlink.unlink_count.Goals as goal

pub returns-then-count-eq0 : goal.returns-then-count-eq0
returns-then-count-eq0 c =
    let t = c.args.run.version.now in
    let seed = c.args.run.seed in
    let label = option_copied c.args.label in
    let made : Comes (unlink_some c.args.id c.args.key 0 None) (Ok c.unlink_some.result) = search rules in
    decides_comes t seed (unlink_count c.args.id c.args.key label c.args.count) (Ok c.unlink_some.result) c.args.notes.now
    (unlink_none c.args.id c.args.key label c.args.count c.if-count-eq0.true ∙ made)

pub returns-in_ok-to-in-Label : goal.returns-in_ok-to-in-Label
returns-in_ok-to-in-Label c =
    let t = c.args.run.version.now in
    let seed = c.args.run.seed in
    let label : option_copied c.args.label ≡ Some (Label c.in-Label.name) = search rules in
    let away = ap (λ o. unlink_count c.args.id c.args.key o c.args.count) label ∙ unlink_away c.args.id c.args.key c.in-Label.name c.args.count c.if-count-eq0.false in
    let there : Decides t seed (unlink_to c.args.id c.args.key c.args.count (label_at t c.in-Label.name)) c.unlink_to.result c.ask_label.new.notes c.ask_label.new.notes =
    search rules in
    subst (λ p. Decides t seed p c.unlink_to.result c.args.notes.now c.ask_label.new.notes) (sym away)
    (decides_asked t seed (items.Named asking.Label c.in-Label.name) (unlink_to c.args.id c.args.key c.args.count) c.unlink_to.result c.args.notes.now
    c.ask_label.new.notes c.ask_label.new.notes c.in_ok-to-in-Label.ensures.ok there)
