use Rattle.std.proofs.Common.{◌≡◌, ◌<◌, ◌++◌, ◌∷◌, [], List, length, subst, ap, ◌∙◌, rules, filter, is_some}
use Rattle.std.specs.Prelude.{Result, Ok, Err, IfOk}
use Rattle.std.specs.Result.{result_and}
use Rattle.gw_meaning.specs.Listing.{seed_at}
use Rattle.gw_meaning.specs.declared.edit.Edit.{Edit}
use Rattle.gw_touch.specs.Touching.{touching_of}
use Rattle.gw_desk.specs.declared.recording.Recording.{Recording}
use Rattle.gw_desk.specs.Book.{Book}
use Rattle.gw_desk.specs.Rebasing.{AreRebased}
use Rattle.gw_desk.proofs.EditLaws.{IsMade, accepts, still_desk, still_texts, refuses}
use Rattle.gw_desk.proofs.desk.Desk.edit.Goals as goal

pub returns-in-Err-clause-refused : goal.returns-in-Err-clause-refused
returns-in-Err-clause-refused c =
    let room : length c.self.inside.edits.items < 4096 = search rules in
    let b : Book = record {
      opening = c.self.inside.opening;
      version = c.self.inside.version;
      every = c.self.inside.every;
      edits = c.self.inside.edits.items;
      runs =
          c.self.inside.runs.items;
      made = c.self.inside.tally;
    } in
    rw (← c.self.view_is) (refuses b c.args.edit c.in-Err.fault room c.in-Err.ensures)

-- what holds of a result that is handed on after another
handed_on : {T U E : Type 0} (r : Result T E) (s : Result U E) (y : U) (P : U → Type 0) → Ok y ≡ result_and r s → IfOk s P → P y
handed_on (Ok x) (Ok z) y P is h =
    let same : z ≡ y = cc in
    subst P same h
handed_on (Ok x) (Err e) y P is h = absurd cc
handed_on (Err e) s y P is h = absurd cc

-- the desk before an edit that is made, and what that leaves
abbrev before : goal.After-len-2 → Book
before c =
    record {
      opening = c.self.inside.opening;
      version = c.self.inside.version;
      every = c.self.inside.every;
      edits = c.self.inside.edits.items;
      runs = c.self.inside.runs.items;
      made = c.self.inside.tally;
    }

is_made : (c : goal.After-len-2) →
    IsMade (before c) c.args.edit c.in-Ok.new c.rebase_all.new.runs.items c.keep_those_of.new.runs.items c.push_reserved.new.self.items
is_made c = record {
  room = search rules;
  made = c.in-Ok.ensures;
  desk = c.self.invariant.0;
  rebased =
      subst (λ xs. AreRebased c.self.inside.version c.args.edit c.in-Ok.new xs c.rebase_all.new.runs.items)
      c.reserve-room.ensures.items (c.rebase_all.ensures.rebased c.args.edit c.in-Ok.new
      (handed_on c.and-room.result c.touch_of.result c.in_ok-touch.touch (λ t. t ≡ touching_of c.self.inside.version c.args.edit c.in-Ok.new)
      c.in_ok-touch.ensures c.touch_of.ensures));
  behind =
      c.keep_those_of.ensures ∙
      ap (λ (xs : List Recording). filter (λ (r : Recording). is_some (seed_at c.in-Ok.new r.number)) xs)
      (rw c.replications-2.ensures at c.add_missing.ensures);
  more = c.push_reserved.ensures.items ∙ ap (λ (es : List Edit). es ++ c.args.edit ∷ []) c.reserve.ensures.items;
}

pub invariant_of-self : goal.invariant_of-self
invariant_of-self c = rw (c.reserve-room.ensures.items, c.reserve.ensures.items) c.self.invariant

pub invariant_of-self-2 : goal.invariant_of-self-2
invariant_of-self-2 c = (still_desk _ _ _ _ _ _ (is_made c) c.lemma_ids_are_distinct.ensures, tt, still_texts _ _ _ _ _ _ (is_made c) c.self.inside.texts c.self.invariant.2)

pub returns-clause-accepted : goal.returns-clause-accepted
returns-clause-accepted c = rw (← c.self.view_is) (accepts _ _ _ _ _ _ (is_made c) c.len-2.result (search rules))

pub returns-clause-desk : goal.returns-clause-desk
returns-clause-desk c = still_desk _ _ _ _ _ _ (is_made c) c.lemma_ids_are_distinct.ensures
