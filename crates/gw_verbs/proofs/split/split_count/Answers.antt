use Rattle.std.proofs.Common.{◌≡◌, Ok, None, Some, option_copied, sym, ap, ◌∙◌, subst, rules}
use Rattle.gw_expr.specs.declared.expr.Expr.TheVariants.{Label}
use Rattle.gw_meaning.specs.declared.item.Asked.TheVariants as asking
use Rattle.gw_meaning.specs.declared.item.Item.TheVariants as items
use Rattle.gw_meaning.specs.Listing.{label_at}
use Rattle.gw_meaning.specs.Step.{split_count, split_into, split_to}
use Rattle.gw_asking.specs.Deciding.{Comes, Decides}
use Rattle.gw_asking.proofs.Binding.{decides_asked, decides_comes}
use Rattle.gw_verbs.proofs.Counting.{split_none, split_on, split_away, split_else}
use Rattle.gw_verbs.proofs.split.split_count.Goals as goal

pub returns-then-count-eq0 : goal.returns-then-count-eq0
returns-then-count-eq0 c =
    let t = c.args.run.version.now in
    let seed = c.args.run.seed in
    let label = option_copied c.args.label in
    let made : Comes (split_into c.args.id 0 None) (Ok c.split_into.result) = search rules in
    decides_comes t seed (split_count c.args.id label c.args.count) (Ok c.split_into.result) c.args.notes.now
    (split_none c.args.id label c.args.count c.if-count-eq0.true ∙ made)

pub returns-in_default : goal.returns-in_default
returns-in_default c =
    let t = c.args.run.version.now in
    let seed = c.args.run.seed in
    let none : option_copied c.args.label ≡ None = search rules in
    let made : Comes (split_into c.args.id c.args.count None) (Ok c.split_into-in_default.result) = search rules in
    decides_comes t seed (split_count c.args.id (option_copied c.args.label) c.args.count) (Ok c.split_into-in_default.result) c.args.notes.now
    (ap (λ o. split_count c.args.id o c.args.count) none ∙ (split_on c.args.id c.args.count c.if-count-eq0.false ∙ made))

pub returns-in_ok-to-in-Label : goal.returns-in_ok-to-in-Label
returns-in_ok-to-in-Label c =
    let t = c.args.run.version.now in
    let seed = c.args.run.seed in
    let label : option_copied c.args.label ≡ Some (Label c.in-Label.name) = search rules in
    let away = ap (λ o. split_count c.args.id o c.args.count) label ∙ split_away c.args.id c.in-Label.name c.args.count c.if-count-eq0.false in
    let there : Decides t seed (split_to c.args.id c.args.count (label_at t c.in-Label.name)) c.split_to.result c.ask_label.new.notes c.ask_label.new.notes =
    search rules in
    subst (λ p. Decides t seed p c.split_to.result c.args.notes.now c.ask_label.new.notes) (sym away)
    (decides_asked t seed (items.Named asking.Label c.in-Label.name) (split_to c.args.id c.args.count) c.split_to.result c.args.notes.now
    c.ask_label.new.notes c.ask_label.new.notes c.in_ok-to-in-Label.ensures.ok there)

pub returns-in_default-expr : goal.returns-in_default-expr
returns-in_default-expr c =
    let t = c.args.run.version.now in
    let seed = c.args.run.seed in
    let label : option_copied c.args.label ≡ Some c.in-Some.expr.now = search rules in
    let made : Comes (split_into c.args.id c.args.count None) (Ok c.split_into-in_default-expr.result) = search rules in
    decides_comes t seed (split_count c.args.id (option_copied c.args.label) c.args.count) (Ok c.split_into-in_default-expr.result) c.args.notes.now
    (ap (λ o. split_count c.args.id o c.args.count) label ∙
    (split_else c.args.id c.in-Some.expr.now c.args.count c.if-count-eq0.false (λ name is. c.in_default-expr.not-Label name is) ∙ made))
