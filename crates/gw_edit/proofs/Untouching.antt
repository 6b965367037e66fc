-- What an edit does not touch is answered alike.
use Rattle.std.proofs.Common.{◌≡◌, ℕ, ◌+◌, ◌-◌, ◌≤◌, Bool, true, false, List, [], ◌∷◌, ◌++◌, Option, Some, None, Ok, length, take, drop, nat_le, refl, ap, sym, subst, ◌∙◌, ⊎_elim, arith, append-nil}
use Rattle.std.proofs.lemmas.List.{take-append-drop}
use Rattle.gw_meaning.specs.declared.item.Item.{Item}
use Rattle.gw_meaning.specs.declared.item.Item.TheVariants as items
use Rattle.gw_meaning.specs.declared.statement.Statement.{Statement}
use Rattle.gw_meaning.specs.declared.statement.Numbered.{Numbered}
use Rattle.gw_meaning.specs.Listing.{Listing, line_in, seed_at, nth}
use Rattle.gw_meaning.specs.Numbers.{AreNumbered}
use Rattle.gw_meaning.specs.Questions.{ask}
use Rattle.gw_model.specs.Spliced.{spliced, with_splice}
use Rattle.gw_model.proofs.Numbers.{new_absent, absent_gone}
use Rattle.gw_meaning.specs.declared.edit.Edit.{Edit}
use Rattle.gw_touch.specs.declared.touch.Probe.{Probe}
use Rattle.gw_touch.specs.Touching.{touch_of, is_touched, lines_before, line_probes, splice_probes}
use Rattle.gw_edit.specs.Applied.{applied}
use Rattle.gw_edit.specs.Untouched.{UntouchedAlike}
use Rattle.gw_edit.proofs.ByLines.{untouched_both, changed_line}
use Rattle.gw_edit.proofs.LineLaws.{line_alike}
use Rattle.gw_edit.proofs.ChangeLaws.{change_alike}
use Rattle.gw_touch.proofs.Splits.{nth_between, fresh_line, come_parts, gone_at}
use Rattle.gw_edit.proofs.Made.{deleted_at, inserted_at, IsSpliced, IsLeft, made_by, one_seed}

-- what two versions answer alike in a replication, where this is touched
abbrev pub IsAlike : Listing → Listing → ℕ → List Probe → Type 0
IsAlike t u r touched = (a b : ℕ) → seed_at t r ≡ Some a → seed_at u r ≡ Some b → (i : Item) → is_touched touched i ≡ false → ask u b i ≡ ask t a i

-- a statement is inserted
insert_alike : (t : Listing) (place : ℕ) (s : Statement) (r : ℕ) → 1 ≤ place → place ≤ length t.lines + 1 →
    IsAlike t (with_splice t place false (Some s)) r (splice_probes t place None (nth (with_splice t place false (Some s)).lines place))
insert_alike t place s r least last a b was is i h =
    let line = fresh_line t.lines s in
    let u = with_splice t place false (Some s) in
    let back = drop (place - 1) t.lines in
    let new : u.lines ≡ lines_before t place ++ line ∷ back = come_parts t.lines place s in
    let there : nth u.lines place ≡ Some line = ap (λ ls. nth ls place) new ∙ nth_between t.lines back place line least last in
    let old : t.lines ≡ lines_before t place ++ back = sym (take-append-drop (place - 1) t.lines) in
    let absent : line_in (lines_before t place ++ back) line.number ≡ None =
    subst (λ (ls : List Numbered). line_in ls line.number ≡ None) old (new_absent t.lines) in
    line_alike t place line back u t (record { has = new; lacks = old; horizon = refl; absent = absent }) a b (one_seed (seed_at t r) a b was is) i
    (subst (λ (o : Option Numbered). is_touched (splice_probes t place None o) i ≡ false) there h)

-- a statement is deleted
delete_alike : (t : Listing) (place r : ℕ) → AreNumbered t.lines → 1 ≤ place → place ≤ length t.lines →
    IsAlike t (with_splice t place true None) r (splice_probes t place (nth t.lines place) None)
delete_alike t place r numbered least last a b was is i h =
    let gone = gone_at t.lines place None least last in
    let line = gone.0 in
    let back = drop place t.lines in
    let u = with_splice t place true None in
    let absent = absent_gone (lines_before t place) back line (subst (λ (ls : List Numbered). AreNumbered ls) gone.1.old numbered) in
    sym (line_alike t place line back t u (record { has = gone.1.old; lacks = gone.1.new; horizon = refl; absent = absent }) b a
    (sym (one_seed (seed_at t r) a b was is)) i
    ((untouched_both (line_probes t place line) [] i (subst (λ (o : Option Numbered). is_touched (splice_probes t place o None) i ≡ false) gone.1.found h)).0))

-- another one takes its place
change_made_alike : (t : Listing) (place : ℕ) (s : Statement) (r : ℕ) → AreNumbered t.lines → 1 ≤ place → place ≤ length t.lines →
    IsAlike t (with_splice t place true (Some s)) r (splice_probes t place (nth t.lines place) (nth (with_splice t place true (Some s)).lines place))
change_made_alike t place s r numbered least last a b was is i h =
    let gone = gone_at t.lines place (Some s) least last in
    let line = gone.0 in
    let back = drop place t.lines in
    let u = with_splice t place true (Some s) in
    let here : nth u.lines place ≡ Some (changed_line line s) =
    ap (λ ls. nth ls place) gone.1.new ∙ nth_between t.lines back place (changed_line line s) least (omega arith) in
    let absent = absent_gone (lines_before t place) back line (subst (λ (ls : List Numbered). AreNumbered ls) gone.1.old numbered) in
    change_alike t u place line s back (record { old = gone.1.old; new = gone.1.new; horizon = refl }) a b (one_seed (seed_at t r) a b was is) absent i
    (subst (λ (o : Option Numbered). is_touched (splice_probes t place (Some line) o) i ≡ false) here
    (subst (λ (o : Option Numbered). is_touched (splice_probes t place o (nth u.lines place)) i ≡ false) gone.1.found h))

-- the statements are left: the seeds and the horizon alone may be others
lines_alike : (t u : Listing) (a b : ℕ) → u.lines ≡ t.lines → (i : Item) → (i ≡ items.Seed → b ≡ a) →
    ((time : ℕ) → i ≡ items.Within time → nat_le time u.horizon ≡ nat_le time t.horizon) → ask u b i ≡ ask t a i
lines_alike t u a b lines items.Seed seeds clock = seeds refl
lines_alike t u a b lines (items.Within time) seeds clock = clock time refl
lines_alike t u a b lines i seeds clock = ap (λ ls. ask (record t { lines = ls }) a i) lines

left_alike : (t : Listing) (e : Edit) (u : Listing) (r : ℕ) → IsLeft t e u → IsAlike t u r (touch_of t e u r)
left_alike t e u r left a b was is i h =
    lines_alike t u a b left.lines i (λ same. left.seeds r a b was is (subst (λ (j : Item). is_touched (touch_of t e u r) j ≡ false) same h))
    (λ time same. left.clock r time (subst (λ (j : Item). is_touched (touch_of t e u r) j ≡ false) same h))

-- a splice
splice_alike : (t : Listing) (place : ℕ) (deletes : Bool) (inserts : Option Statement) (r : ℕ) → AreNumbered t.lines → 1 ≤ place → place ≤ length t.lines + 1 →
    (deletes ≡ true → place ≤ length t.lines) → IsAlike t (with_splice t place deletes inserts) r
    (splice_probes t place (deleted_at t.lines place deletes) (inserted_at (spliced t.lines place deletes inserts) place inserts))
splice_alike t place false None r numbered least last there = λ a b was is i h.
    let i' = place - 1 in
    lines_alike t (with_splice t place false None) a b (ap (λ xs. xs ++ drop i' t.lines) (append-nil (take i' t.lines)) ∙ take-append-drop i' t.lines) i
    (λ same. one_seed (seed_at t r) a b was is) (λ time same. refl)
splice_alike t place false (Some s) r numbered least last there = insert_alike t place s r least last
splice_alike t place true None r numbered least last there = delete_alike t place r numbered least (there refl)
splice_alike t place true (Some s) r numbered least last there = change_made_alike t place s r numbered least (there refl)

-- each edit
edit_alike : (t : Listing) (e : Edit) (u : Listing) (r : ℕ) → AreNumbered t.lines → applied t e ≡ Ok u → IsAlike t u r (touch_of t e u r)
edit_alike t e u r numbered made = ⊎_elim spliced_alike (left_alike t e u r) (made_by t e u made) where
  spliced_alike : IsSpliced t e u → IsAlike t u r (touch_of t e u r)
  spliced_alike s =
      subst (λ (ps : List Probe). IsAlike t u r ps) (sym (s.touch r))
      (subst (λ (v : Listing). IsAlike t v r (splice_probes t s.place (deleted_at t.lines s.place s.deletes) (inserted_at v.lines s.place s.inserts))) s.made
      (splice_alike t s.place s.deletes s.inserts r numbered s.least s.last s.there))

pub untouched_alike : UntouchedAlike
untouched_alike t e u r a b numbered made was is i h = edit_alike t e u r numbered made a b was is i h
