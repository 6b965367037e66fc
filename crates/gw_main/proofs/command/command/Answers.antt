use Rattle.std.proofs.Common.{◌≡◌, ◌∙◌, ap, ap₂}
use Rattle.std.specs.Prelude.{codes, true}
use Rattle.std.proofs.lemmas.Result.{IfOk-weaker}
use Rattle.clap.specs.Words.{Shape, app_of, new_app, with_rule}
use Rattle.clap.specs.Simple.{app_of_fields, on_top}
use Rattle.gw_main.specs.Words.{behind_name}
use Rattle.gw_main.proofs.command.command.Goals as goal

pub returns : goal.returns
returns c =
    let nameless : Shape → Shape = λ s. record s { no_binary_name = true } in
    let versioned : Shape → Shape = λ s. record s { has_version = true } in
    let named : app_of c.no_binary_name.result ≡ on_top nameless (new_app (codes "gpssbench")) =
    ap app_of_fields c.no_binary_name.ensures ∙ ap (on_top nameless) c.new.ensures.app in
    let dated : app_of c.version.result ≡ on_top behind_name (new_app (codes "gpssbench")) =
    ap app_of_fields c.version.ensures ∙ ap (on_top versioned) named in
    let told : app_of c.after_help.result ≡ on_top behind_name (new_app (codes "gpssbench")) =
    ap app_of_fields c.after_help.ensures ∙ ap app_of_fields c.about.ensures ∙ dated in
    let one = c.in_ok-arg.ensures.shape c.model.ensures.local ∙ ap₂ with_rule told c.model.ensures.rule in
    let two = c.in_ok-arg-2.ensures.shape c.option.ensures.local ∙ ap₂ with_rule one c.option.ensures.rule in
    let three = c.in_ok-arg-3.ensures.shape c.option-2.ensures.local ∙ ap₂ with_rule two c.option-2.ensures.rule in
    let four = c.in_ok-arg-4.ensures.shape c.option-3.ensures.local ∙ ap₂ with_rule three c.option-3.ensures.rule in
    let five = c.in_ok-arg-5.ensures.shape c.option-4.ensures.local ∙ ap₂ with_rule four c.option-4.ensures.rule in
    IfOk-weaker c.arg-6.result _ _ (λ r h. h.shape c.option-5.ensures.local ∙ ap₂ with_rule five c.option-5.ensures.rule) c.arg-6.ensures
