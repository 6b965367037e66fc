use Rattle.std.proofs.Common.{rules, ◌≡◌, ◌≤◌, List, length, true, subst}
use Rattle.gw_meaning.specs.Listing.{Listing}
use Rattle.gw_meaning.specs.declared.statement.Numbered.{Numbered}
use Rattle.gw_model.specs.Spliced.{spliced}
use Rattle.gw_model.proofs.Numbers.{numbered_spliced}
use Rattle.gw_model.proofs.version.Version.with_splice.Goals as goal

pub from_lines-requires : goal.from_lines-requires
from_lines-requires c =
    let lines = c.self.inside.tabled.value.lines.items in
    let t : Listing = c.args.self.now in
    let same : t.lines ≡ lines = search rules in
    let there : c.args.deletes ≡ true → c.args.place ≤ length lines =
    λ h. subst (λ (ls : List Numbered). c.args.place ≤ length ls) same (c.requires.there h) in
    let made : c.in_ok-lines.lines.items ≡ spliced lines c.args.place c.args.deletes c.args.inserts = search rules in
    rw made (numbered_spliced lines c.args.place c.args.deletes c.args.inserts c.requires.first there c.self.invariant.numbered)
