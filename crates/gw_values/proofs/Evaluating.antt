-- An evaluation of operands that a state answers is the evaluation in that state.
use Rattle.std.proofs.Common.{◌≡◌, ℕ, ℤ, Option, Result, Ok, Err, refl, sym, subst}
use Rattle.gw_expr.specs.declared.halt.Halt.{Halt}
use Rattle.gw_expr.specs.declared.halt.Halt.TheVariants as halts
use Rattle.gw_expr.specs.declared.function.Function.{Function}
use Rattle.gw_expr.specs.Evaluation.{Question, NumberOf, AttributeOf, PartOf, VariableOf, FunctionOf, Reply, Evaluation, Wants, value_of, value_by, value_of_atom}
use Rattle.gw_expr.specs.Term.{Term}
use Rattle.gw_expr.specs.declared.expr.Expr.TheVariants.{Value}
use Rattle.gw_expr.specs.declared.atom.Atom.TheVariants as atoms
use Rattle.gw_expr.specs.Worlds.{Says, Evaluates, yields, stops, refused, replied, failed}
use Rattle.gw_meaning.specs.declared.asker.Asker.{Asker}
use Rattle.gw_expr.specs.declared.halt.End.TheVariants as ends
use Rattle.gw_meaning.specs.declared.item.Item.{Item}
use Rattle.gw_meaning.specs.declared.item.Asked.TheVariants as asking
use Rattle.gw_meaning.specs.declared.item.Item.TheVariants as items
use Rattle.gw_meaning.specs.Evaluation.{Eval, ends_with, reply_prog, evaluated, value_prog}
use Rattle.gw_meaning.specs.Listing.{Listing, variable_at, function_at}
use Rattle.gw_meaning.specs.Machine.{Machine}
use Rattle.gw_asking.specs.Deciding.{Decides}
use Rattle.gw_asking.specs.Noted.{Noted}
use Rattle.gw_values.specs.Seeing.{Marks, Replied, IsStill, Replies}
use Rattle.gw_values.specs.declared.seen.Seen.{Seen}
use Rattle.gw_asking.proofs.Binding.{keeps_all, decides_then, decides_halt, decides_asked, decides_gives, decides_comes}

-- what the definitions of a version reply
abbrev pub Replying : Listing → (question : Question) → Reply question → Type 0
Replying t question reply = Says (variable_at t) (function_at t) question reply

module _ (t : Listing) (seed : ℕ) (s : Machine) (q : Asker) where
  -- a question with its reply, and what comes after it
  reply_goes : {A : Type 0} (question : Question) (k : Reply question → Evaluation A) (reply : Reply question) (r : Result A Halt) (old between new : Noted) →
      Replying t question reply → Replied t seed s q question old (Ok reply) between → Decides t seed (evaluated s q (k reply)) r between new →
      Decides t seed (evaluated s q (Wants question k)) r old new
  reply_goes (NumberOf name) k reply r old between new said there rest =
      decides_then t seed (reply_prog s q (NumberOf name)) (λ x. evaluated s q (k x)) reply r old between new there rest
  reply_goes (AttributeOf class of) k reply r old between new said there rest =
      decides_then t seed (reply_prog s q (AttributeOf class of)) (λ x. evaluated s q (k x)) reply r old between new there rest
  reply_goes (PartOf of) k reply r old between new said there rest =
      decides_then t seed (reply_prog s q (PartOf of)) (λ x. evaluated s q (k x)) reply r old between new there rest
  reply_goes (VariableOf name) k reply r old between new said there rest =
      let here = subst (λ (x : Option Term). Decides t seed (evaluated s q (k x)) r between new) said rest in
      decides_asked t seed (items.Named asking.Variable name) (λ x. evaluated s q (k x)) r old between new there here
  reply_goes (FunctionOf name) k reply r old between new said there rest =
      let here = subst (λ (x : Option Function). Decides t seed (evaluated s q (k x)) r between new) said rest in
      decides_asked t seed (items.Named asking.Function name) (λ x. evaluated s q (k x)) r old between new there here

  -- a question that got none; where memory is refused, nothing is noted
  pub mark_fails : {A : Type 0} (B : Type 0) (i : Item) (p : Eval A) (fault : Halt) (old new : Noted) → Marks {A = B} i old (Err fault) new →
      Decides t seed p (Err fault) old new
  mark_fails B i p halts.Memory old new same = rw same (keeps_all old)
  mark_fails B i p (halts.End end) old new h = absurd h

  reply_fails : {A : Type 0} (question : Question) (k : Reply question → Evaluation A) (fault : Halt) (old new : Noted) →
      Replied t seed s q question old (Err fault) new → Decides t seed (evaluated s q (Wants question k)) (Err fault) old new
  reply_fails (NumberOf name) k fault old new there =
      decides_halt t seed (reply_prog s q (NumberOf name)) (λ x. evaluated s q (k x)) fault old new there
  reply_fails (AttributeOf class of) k fault old new there =
      decides_halt t seed (reply_prog s q (AttributeOf class of)) (λ x. evaluated s q (k x)) fault old new there
  reply_fails (PartOf of) k fault old new there =
      decides_halt t seed (reply_prog s q (PartOf of)) (λ x. evaluated s q (k x)) fault old new there
  reply_fails (VariableOf name) k fault old new there =
      mark_fails (Option Term) (items.Named asking.Variable name) (evaluated s q (Wants (VariableOf name) k)) fault old new there
  reply_fails (FunctionOf name) k fault old new there =
      mark_fails (Option Function) (items.Named asking.Function name) (evaluated s q (Wants (FunctionOf name) k)) fault old new there

  evaluation_decides : {A : Type 0} {p : Evaluation A} {r : Result A Halt} {old new : Noted} →
      Evaluates (Replying t) (Replied t seed s q) p r old new → Decides t seed (evaluated s q p) r old new
  evaluation_decides (yields a notes) = decides_gives t seed a notes
  evaluation_decides (stops stop notes) = decides_comes t seed (ends_with (ends.Error stop)) (Err (halts.End (ends.Error stop))) notes refl
  evaluation_decides (refused p notes) = keeps_all notes
  evaluation_decides (replied question k reply r old between new said there rest) =
      reply_goes question k reply r old between new said there (evaluation_decides rest)
  evaluation_decides (failed question k fault old new there) = reply_fails question k fault old new there

module _ {says : (question : Question) → Reply question → Type 0} where
  -- what is seen stays over an evaluation, and its notes are those of the replies
  noted : {A : Type 0} {p : Evaluation A} {r : Result A Halt} {old new : Seen} → Evaluates says Replies p r old new →
      Evaluates says (Replied old.context.run.version.now old.context.run.seed old.context.state.now old.context.asker.now) p r old.notes.now new.notes.now × IsStill old new
  noted (yields a w) = (yields a _, (refl, refl))
  noted (stops stop w) = (stops stop _, (refl, refl))
  noted (refused p w) = (refused p _, (refl, refl))
  noted (replied question k reply r old between new said (there, (still, name)) rest) =
      let (h, (still2, name2)) = noted rest in (
        replied question k reply r _ _ _ said there (rw still at h),
        (rw still2 still, rw name2 name),
      )
  noted (failed question k fault old new (there, still)) = (failed question k fault _ _ there, still)

-- what an evaluation over what is seen came to, where it borrows the notes up to here
pub seen_decides : {A : Type 0} {p : Evaluation A} {r : Result A Halt} {old new : Seen} {notes : Noted} →
    Evaluates (Replying old.context.run.version.now) Replies p r old new →
    (old.notes.ghost_name ≡ new.notes.ghost_name → notes ≡ new.notes.now) →
    Decides old.context.run.version.now old.context.run.seed (evaluated old.context.state.now old.context.asker.now p) r old.notes.now notes
seen_decides {old} h ends =
    let (of_notes, (still, name)) = noted h in
    rw (ends (sym name)) (evaluation_decides old.context.run.version.now old.context.run.seed old.context.state.now old.context.asker.now of_notes)

-- of the value of an operand
pub value_decides : (operand : Term) {r : Result ℤ Halt} {old new : Seen} {notes : Noted} →
    Evaluates (Replying old.context.run.version.now) Replies (value_of operand) r old new →
    (old.notes.ghost_name ≡ new.notes.ghost_name → notes ≡ new.notes.now) →
    Decides old.context.run.version.now old.context.run.seed (value_prog old.context.state.now old.context.asker.now operand) r old.notes.now notes
unfolding value_prog
value_decides operand h ends = seen_decides h ends

-- a constant is its value
pub constant_decides : (t : Listing) (seed : ℕ) (s : Machine) (q : Asker) (v : ℤ) (notes : Noted) →
    Decides t seed (value_prog s q (Value (atoms.Constant v))) (Ok v) notes notes
unfolding value_prog value_of value_by value_of_atom
constant_decides t seed s q v notes = decides_gives t seed v notes
