use Rattle.std.proofs.Common.{◌≡◌, Some, None, length, refl, sym, ap, subst, ◌∙◌, rules}
use Rattle.gw_meaning.specs.Listing.{seed_at}
use Rattle.gw_record.specs.Tape.{Records}
use Rattle.gw_desk.specs.Book.{Book}
use Rattle.gw_desk.specs.Fates.{IsUseless}
use Rattle.gw_desk.proofs.FateLaws.{IsStillRun}
use Rattle.gw_desk.proofs.PostLaws.{alive_at, useless, still, posted_so}
use Rattle.gw_desk.proofs.desk.Desk.post_own.Goals as goal

pub returns-then-not-is_home_of-clause-posts : goal.returns-then-not-is_home_of-clause-posts
returns-then-not-is_home_of-clause-posts c = (refl, IsUseless.of_another (c.if-not-is_home_of.ensures.no refl))

pub returns-in_default-clause-posts : goal.returns-in_default-clause-posts
returns-in_default-clause-posts c =
    let b = c.args.self.now in
    let l = c.args.leg in
    let home = c.if-not-is_home_of.ensures.yes refl in
    let whole : c.as_slice.result.now ≡ b.edits = c.as_slice.ensures.value ∙ ap (λ (b : Book). b.edits) c.self.view_is in
    let front : c.len.result ≡ length l.edits = search rules in
    (refl, useless b l c.lemma_is_book.ensures c.is_leg.ensures home.0 home.1 c.as_slice.result.now c.len.result c.in_ok-run.field-0 whole front c.in_ok-run.ensures c.in_default.is)

pub unreachable-requires : goal.unreachable-requires
unreachable-requires c =
    let b = c.args.self.now in
    let l = c.args.leg in
    let home = c.if-not-is_home_of.ensures.yes refl in
    let whole : c.as_slice.result.now ≡ b.edits = c.as_slice.ensures.value ∙ ap (λ (b : Book). b.edits) c.self.view_is in
    let front : c.len.result ≡ length l.edits = search rules in
    let alive = alive_at b l c.lemma_is_book.ensures c.is_leg.ensures home.0 home.1 c.as_slice.result.now c.len.result c.in_ok-run.field-0 whole front
    c.in_ok-run.ensures c.in-Some.run' c.in-Some.is in
    let run = still b l c.lemma_is_book.ensures c.is_leg.ensures home.0 home.1 alive.0 c.in-Some.run' alive.1 in
    let none : seed_at c.args.self.now.version c.args.leg.replication ≡ None = search rules in
    let both : Some run.seed ≡ None = sym run.with_seed ∙ none in
    absurd cc

-- what is left of the leg is still the run of its replication
left : (c : goal.After-record-arg-1) → IsStillRun c.args.self.now.version c.args.leg.replication c.args.leg.run c.in-Some.run'
left c =
    let b = c.args.self.now in
    let l = c.args.leg in
    let home = c.if-not-is_home_of.ensures.yes refl in
    let whole : c.as_slice.result.now ≡ b.edits = c.as_slice.ensures.value ∙ ap (λ (b : Book). b.edits) c.self.view_is in
    let front : c.len.result ≡ length l.edits = search rules in
    let alive = alive_at b l c.lemma_is_book.ensures c.is_leg.ensures home.0 home.1 c.as_slice.result.now c.len.result c.in_ok-run.field-0 whole front
    c.in_ok-run.ensures c.in-Some.run' c.in-Some.is in
    still b l c.lemma_is_book.ensures c.is_leg.ensures home.0 home.1 alive.0 c.in-Some.run' alive.1

pub record-requires-clause-records : goal.record-requires-clause-records
record-requires-clause-records c =
    let run = left c in
    let with_seed : seed_at c.args.self.now.version c.args.leg.replication ≡ Some c.in-Some-seed.seed = search rules in
    let both : Some run.seed ≡ Some c.in-Some-seed.seed = sym run.with_seed ∙ with_seed in
    let same : run.seed ≡ c.in-Some-seed.seed = cc in
    subst (λ s. Records c.args.self.now.version s c.in-Some.run') same run.records

pub record-requires-clause-every : goal.record-requires-clause-every
record-requires-clause-every c = (left c).every ∙ (c.if-not-is_home_of.ensures.yes refl).1.every

pub returns-clause-posts : goal.returns-clause-posts
returns-clause-posts c =
    let b = c.args.self.now in
    let l = c.args.leg in
    let home = c.if-not-is_home_of.ensures.yes refl in
    let whole : c.as_slice.result.now ≡ b.edits = c.as_slice.ensures.value ∙ ap (λ (b : Book). b.edits) c.self.view_is in
    let front : c.len.result ≡ length l.edits = search rules in
    posted_so b l c.lemma_is_book.ensures c.is_leg.ensures home.0 home.1 c.as_slice.result.now c.len.result c.in_ok-run.field-0 whole front
    c.in_ok-run.ensures c.in-Some.run' c.in-Some.is c.record.result c.record.new.self (search rules)
