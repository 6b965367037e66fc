use Rattle.std.proofs.Common.{◌≡◌, ◌++◌, ◌∷◌, ◌+◌, [], List, length, take, drop, Option, ap, sym, ◌∙◌, refl, subst, rules, append_assoc, append-nil, length-append, arith}
use Rattle.std.proofs.lemmas.List.{take_at}
use Rattle.std.specs.Vec.Iter.{into_iter_items}
use Rattle.gw_desk.specs.declared.play.Event.{Event}
use Rattle.gw_desk.specs.declared.play.Reply.{Reply}
use Rattle.gw_desk.specs.Legs.{Leg}
use Rattle.gw_desk.specs.Ledger.{begun}
use Rattle.gw_desk.specs.Playing.{Follows, Plays}
use Rattle.gw_desk.proofs.HeadlineLaws.{reports_are_right, reports_are_of_printed}
use Rattle.gw_desk.proofs.PlayLaws.{follows_more, none_of}
use Rattle.gw_desk.proofs.desk.Desk.play.Goals as goal

pub loop-event-init : goal.loop-event-init
loop-event-init c = record {
  all = search rules;
  left = search rules;
  count = search rules;
  room = search rules;
  many = ap length c.in_ok-legs.ensures;
  follows = rw (c.in_ok-legs.ensures, c.in_ok-replies.ensures.items) (Follows.nothing (begun c.args.self.now));
}

pub loop-event-preserved : goal.loop-event-preserved
loop-event-preserved c =
    let at = c.loop-event in
    let known = at.invariant in
    let e = c.in-Some.event in
    let legs = c.play_one-reply.new.legs in
    let steps : into_iter_items at.event-iterator ≡ e ∷ into_iter_items c.next.new.self = c.in-Some.ensures.steps.0 in
    let many : length legs ≡ 16 = c.play_one-reply.ensures.count in
    let long : length legs ≡ at.legs.len = search rules in
    let written : take at.legs.len (legs ++ drop (length legs) at.legs.items) ≡ legs = take_at legs (drop (length legs) at.legs.items) at.legs.len long in
    let more = follows_more (begun c.args.self.now) (record { book = at.self; legs = at.legs.items })
    (record { book = c.play_one-reply.new.self; legs = legs }) at.yielded at.replies.items e c.play_one-reply.result known.follows
    (rw c.as_mut_slice.ensures.value at c.play_one-reply.ensures.moves) in
    record {
      all = append_assoc at.yielded (e ∷ []) _ ∙ rw (← steps) known.all;
      left = let was = known.left in let gone = c.in-Some.ensures.steps.1 in let short = ap length steps in omega arith;
      count = c.in-Ok.ensures.len ∙ (ap (λ n. n + 1) known.count ∙ sym (length-append at.yielded (e ∷ [])));
      room = search rules;
      many = ap (λ (xs : List (Option Leg)). length xs) written ∙ many;
      follows = subst (λ (xs : List (Option Leg)). Follows (begun c.args.self.now) (at.yielded ++ e ∷ []) c.push.new.self.items
          (record { book = c.play_one-reply.new.self; legs = xs })) (sym written)
          (subst (λ (rs : List Reply). Follows (begun c.args.self.now) (at.yielded ++ e ∷ []) rs (record { book = c.play_one-reply.new.self; legs = legs }))
          (sym c.in-Ok.ensures.items) more);
    }

pub returns : goal.returns
returns c =
    let at = c.loop-event in
    let known = at.invariant in
    let empty : into_iter_items at.event-iterator ≡ [] = none_of _ (sym known.left ∙ c.in-None.ensures.steps.0) in
    let all : at.yielded ≡ c.args.events.items = sym (append-nil at.yielded) ∙ rw empty at known.all in
    let plays : Plays c.args.self.now c.args.events.items at.replies.items at.self = record {
      last = record { book = at.self; legs = at.legs.items };
      follows = subst (λ (es : List Event). Follows (begun c.args.self.now) es at.replies.items (record { book = at.self; legs = at.legs.items })) all known.follows;
      book = refl;
    } in
    record {
      plays = plays;
      right = reports_are_right c.args.self.now at.self c.args.events.items at.replies.items c.lemma_is_book.ensures plays;
      printed = λ spelled. reports_are_of_printed c.args.self.now at.self c.args.events.items at.replies.items c.lemma_is_book.ensures spelled plays;
      err = tt;
    }
