use Rattle.std.proofs.Common.{◌≡◌, ◌≤◌, ◌+◌, ◌%◌, ℕ, Bool, ap, ap₂, ◌∙◌, ◌++◌, List, take, filter, rules, subst, sym}
use Rattle.std.proofs.lemmas.Fn.{filter_same}
use Rattle.gw_meaning.specs.Machine.{Machine}
use Rattle.gw_record.specs.declared.kept.Kept.{Kept}
use Rattle.gw_record.specs.Parting.{AreInOrder}
use Rattle.gw_record.specs.Adopting.{AreUnder, is_adopted, keeps_start}
use Rattle.gw_record.specs.Keeping.{IsDue}
use Rattle.gw_record.specs.Tape.{Tape}
use Rattle.gw_record.proofs.AdoptLaws.{adopts}
use Rattle.gw_record.proofs.KeepLaws.{due_all}
use Rattle.gw_record.proofs.recorded.Recorded.adopt.Goals as goal

pub invariant_of-self : goal.invariant_of-self
invariant_of-self c =
    let (within, multiple, due, streams) = c.self.invariant in
    let same = subst (λ (kept : List Kept). IsDue c.self.inside.start c.self.inside.every c.self.inside.moment kept c.self.inside.ends.items c.self.inside.due)
    (sym c.reserve.ensures.items) due in
    (within, multiple, same, streams)

pub returns-then-is_err-clause-err : goal.returns-then-is_err-clause-err
returns-then-is_err-clause-err c =
    let was : List Kept → Tape = λ kept. record {
      every = c.self.inside.every;
      start = c.self.inside.start;
      moment = c.self.inside.moment;
      tip = c.self.inside.tip;
      kept = kept;
      ends = c.self.inside.ends.items;
      firsts = c.self.inside.notes.firsts;
    } in
    ap was c.reserve.ensures.items ∙ c.self.view_is

pub invariant_of-self-2 : goal.invariant_of-self-2
invariant_of-self-2 c =
    let (within, multiple, due, streams) = c.branch.invariant in
    let of_branch : c.branch.inside.every ≡ c.args.branch.every = ap (λ (r : Tape). r.every) c.branch.view_is in
    let of_own : c.self.inside.every ≡ c.args.self.now.every = ap (λ (r : Tape). r.every) c.self.view_is in
    let every : c.branch.inside.every ≡ c.self.inside.every = of_branch ∙ (c.requires.every ∙ sym of_own) in
    let (some, most) = within in (
      (some, subst (λ n. c.branch.inside.ahead ≤ n) every most),
      subst (λ n. (c.branch.inside.moment + c.branch.inside.ahead) % n ≡ 0) every multiple,
      due_all _ _ _ _ _,
      streams ∙ sym (ap (λ (s : Machine). s.streams) c.replace.ensures.after),
    )

pub returns-clause-adopts : goal.returns-clause-adopts
returns-clause-adopts c =
    let own = c.args.self.now in
    let branch = c.args.branch in
    let count = c.count_under-count.result in
    let p : Kept → Bool = is_adopted own.moment branch.start (keeps_start branch) in
    let over : c.retain.new.self.items ≡ filter p c.branch.inside.kept.items = filter_same _ _ _ (λ x b f' k. search rules) _ _ c.retain.ensures.filtered in
    let same : c.branch.inside.kept.items ≡ branch.kept = ap (λ (r : Tape). r.kept) c.branch.view_is in
    let whole : c.reserve.new.self.items ≡ own.kept = c.reserve.ensures.items ∙ ap (λ (r : Tape). r.kept) c.self.view_is in
    let joined : c.append.new.self.items ≡ take count own.kept ++ filter p branch.kept =
    c.in-Ok.ensures.items ∙ ap₂ (λ (xs ys : List Kept). xs ++ ys) (c.truncate.ensures.items ∙ ap (λ xs. take count xs) whole) (over ∙ ap (filter p) same) in
    let slice : c.as_slice.result.now ≡ own.kept = c.as_slice.ensures.value ∙ whole in
    let parts = subst (λ (xs : List Kept). AreInOrder xs → AreUnder xs c.self.inside.moment count) slice c.count_under-count.ensures.parts in
    let at : c.self.inside.moment ≡ own.moment = ap (λ (r : Tape). r.moment) c.self.view_is in
    let before = subst (λ (n : ℕ). AreInOrder own.kept → AreUnder own.kept n count) at parts in
    let made : Machine → List Kept → Tape = λ tip kept. record {
      every = c.self.inside.every;
      start = c.self.inside.start;
      moment = c.branch.inside.moment;
      tip = tip;
      kept = kept;
      ends = c.branch.inside.ends.items;
      firsts = c.branch.inside.notes.firsts;
    } in
    let told : Tape → Tape → Tape = λ (v w : Tape).
    record v { moment = w.moment; tip = w.tip; kept = take count own.kept ++ filter p branch.kept; ends = w.ends; firsts = w.firsts } in
    record { count = count; before = before; is = ap₂ made c.replace.ensures.after joined ∙ ap₂ told c.self.view_is c.branch.view_is }

pub returns-clause-records : goal.returns-clause-records
returns-clause-records c = λ t seed h g.
    adopts t seed c.args.self.now c.args.branch _ c.requires.zero c.requires.every c.requires.from c.requires.beyond (returns-clause-adopts c) h g
