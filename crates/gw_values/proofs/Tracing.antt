-- An evaluation of operands that a state answers, with what it reads, is the traced evaluation in that state.
use Rattle.std.proofs.Common.{◌≡◌, ℕ, ℤ, List, Option, Result, Ok, Err, refl, sym, ap, subst, ◌∙◌}
use Rattle.std.proofs.Math.Path.{fun_ext}
use Rattle.gw_names.specs.declared.class.Class.{Class}
use Rattle.gw_expr.specs.declared.attribute.Subject.{Subject}
use Rattle.gw_expr.specs.declared.halt.Halt.{Halt}
use Rattle.gw_expr.specs.declared.function.Function.{Function}
use Rattle.gw_expr.specs.Evaluation.{Question, NumberOf, AttributeOf, PartOf, VariableOf, FunctionOf, Reply, Evaluation, Wants}
use Rattle.gw_expr.specs.Term.{Term}
use Rattle.gw_expr.specs.Worlds.{Evaluates, yields, stops, refused, replied, failed}
use Rattle.gw_meaning.specs.declared.asker.Asker.{Asker}
use Rattle.gw_expr.specs.declared.halt.End.TheVariants as ends
use Rattle.gw_meaning.specs.declared.item.Asked.TheVariants as asking
use Rattle.gw_meaning.specs.declared.item.Item.TheVariants as items
use Rattle.gw_meaning.specs.declared.watched.Watched.{Watched}
use Rattle.gw_meaning.specs.Evaluation.{Eval, gives, ends_with, attribute_prog, reply_prog, traced, watched_prog, ◌~>◌}
use Rattle.gw_meaning.specs.Listing.{Listing}
use Rattle.gw_meaning.specs.Machine.{Machine}
use Rattle.gw_meaning.specs.Questions.{Prog, Gives, Ends, Asks, ◌>>=◌}
use Rattle.gw_meaning.specs.Watching.{with_all_watched}
use Rattle.gw_expr.specs.declared.halt.Halt.TheVariants as halts
use Rattle.gw_asking.specs.Deciding.{Decides, Comes}
use Rattle.gw_asking.specs.Noted.{Noted}
use Rattle.gw_values.specs.Tracing.{attribute_traced, with_read, TracedReplied, IsTracedStill, TracedReplies}
use Rattle.gw_values.specs.declared.traced.Traced.{Traced}
use Rattle.gw_asking.proofs.Binding.{keeps_all, decides_then, decides_halt, decides_asked, decides_gives, decides_comes}
use Rattle.gw_values.proofs.Evaluating.{Replying, mark_fails}

-- three programs one after another, however they are put together
bind_bind : {A B C : Type 0} (p : Prog A) (f : A → Prog B) (g : B → Prog C) → ((p >>= f) >>= g) ≡ (p >>= (λ a. f a >>= g))
bind_bind (Gives a) f g = refl
bind_bind (Ends end) f g = refl
bind_bind (Asks i k) f g = ap (Asks i) (fun_ext (λ x. bind_bind (k x) f g))

then_then : {A B C : Type 0} (p : Eval A) (f : A → Eval B) (g : B → Eval C) → ((p ~> f) ~> g) ≡ (p ~> (λ a. f a ~> g))
then_then p f g = fun_ext (λ streams. bind_bind (p streams) _ _)

-- What was read, up to here.
abbrev Trace : Type 0
Trace = Noted × List Watched

module _ (t : Listing) (seed : ℕ) (s : Machine) (q : Asker) where
  -- an attribute, and what comes after it
  wants_attribute : {A : Type 0} (class : Class) (of : Subject) (k : ℤ → Evaluation A) (read : List Watched) →
      (attribute_traced s q read class of ~> (λ (r : ℤ × List Watched). traced s q r.1 (k r.0))) ≡ traced s q read (Wants (AttributeOf class of) k)
  wants_attribute {A} class of k read =
      let rest : ℤ × List Watched → Eval (A × List Watched) = λ r. traced s q r.1 (k r.0) in
      let valued : List Watched → Eval (ℤ × List Watched) = λ more. attribute_prog s q class of ~> (λ v. gives (v, with_all_watched read more)) in
      then_then (watched_prog class of) valued rest
      ∙ ap (λ (f : List Watched → Eval (A × List Watched)). watched_prog class of ~> f)
      (fun_ext (λ more. then_then (attribute_prog s q class of) (λ v. gives (v, with_all_watched read more)) rest))

  -- a question with its reply, and what comes after it
  reply_goes : {A : Type 0} (question : Question) (k : Reply question → Evaluation A) (reply : Reply question) (r : Result (A × List Watched) Halt)
      (old between : Trace) (new : Noted) → Replying t question reply → TracedReplied t seed s q question old (Ok reply) between →
      Decides t seed (traced s q between.1 (k reply)) r between.0 new → Decides t seed (traced s q old.1 (Wants question k)) r old.0 new
  reply_goes (NumberOf name) k reply r old between new said (there, same) rest =
      let here = subst (λ (read : List Watched). Decides t seed (traced s q read (k reply)) r between.0 new) same rest in
      decides_then t seed (reply_prog s q (NumberOf name)) (λ x. traced s q old.1 (k x)) reply r old.0 between.0 new there here
  reply_goes {A} (AttributeOf class of) k reply r old between new said there rest =
      subst (λ (p : Eval (A × List Watched)). Decides t seed p r old.0 new) (wants_attribute class of k old.1)
      (decides_then t seed (attribute_traced s q old.1 class of) (λ (r : ℤ × List Watched). traced s q r.1 (k r.0)) (reply, between.1) r old.0 between.0 new
      there rest)
  reply_goes (PartOf of) k reply r old between new said (there, same) rest =
      let here = subst (λ (read : List Watched). Decides t seed (traced s q read (k reply)) r between.0 new) same rest in
      decides_then t seed (reply_prog s q (PartOf of)) (λ x. traced s q old.1 (k x)) reply r old.0 between.0 new there here
  reply_goes (VariableOf name) k reply r old between new said (there, same) rest =
      let here = subst (λ (read : List Watched). Decides t seed (traced s q read (k reply)) r between.0 new) same rest in
      let meant = subst (λ (x : Option Term). Decides t seed (traced s q old.1 (k x)) r between.0 new) said here in
      decides_asked t seed (items.Named asking.Variable name) (λ x. traced s q old.1 (k x)) r old.0 between.0 new there meant
  reply_goes (FunctionOf name) k reply r old between new said (there, same) rest =
      let here = subst (λ (read : List Watched). Decides t seed (traced s q read (k reply)) r between.0 new) same rest in
      let meant = subst (λ (x : Option Function). Decides t seed (traced s q old.1 (k x)) r between.0 new) said here in
      decides_asked t seed (items.Named asking.Function name) (λ x. traced s q old.1 (k x)) r old.0 between.0 new there meant

  -- a question that got none
  reply_fails : {A : Type 0} (question : Question) (k : Reply question → Evaluation A) (fault : Halt) (old new : Trace) →
      TracedReplied t seed s q question old (Err fault) new →
      Decides t seed (traced s q old.1 (Wants question k)) (Err fault) old.0 new.0
  reply_fails (NumberOf name) k fault old new (there, same) =
      decides_halt t seed (reply_prog s q (NumberOf name)) (λ x. traced s q old.1 (k x)) fault old.0 new.0 there
  reply_fails {A} (AttributeOf class of) k fault old new there =
      subst (λ (p : Eval (A × List Watched)). Decides t seed p (Err fault) old.0 new.0) (wants_attribute class of k old.1)
      (decides_halt t seed (attribute_traced s q old.1 class of) (λ (r : ℤ × List Watched). traced s q r.1 (k r.0)) fault old.0 new.0 there)
  reply_fails (PartOf of) k fault old new (there, same) =
      decides_halt t seed (reply_prog s q (PartOf of)) (λ x. traced s q old.1 (k x)) fault old.0 new.0 there
  reply_fails (VariableOf name) k fault old new (there, same) = mark_fails t seed s q (Option Term) (items.Named asking.Variable name)
      (traced s q old.1 (Wants (VariableOf name) k)) fault old.0 new.0 there
  reply_fails (FunctionOf name) k fault old new (there, same) = mark_fails t seed s q (Option Function) (items.Named asking.Function name)
      (traced s q old.1 (Wants (FunctionOf name) k)) fault old.0 new.0 there

  evaluation_decides : {A : Type 0} {p : Evaluation A} {r : Result A Halt} {old new : Trace} →
      Evaluates (Replying t) (TracedReplied t seed s q) p r old new → Decides t seed (traced s q old.1 p) (with_read r new.1) old.0 new.0
  evaluation_decides (yields a trace) = decides_gives t seed (a, trace.1) trace.0
  evaluation_decides (stops stop trace) = decides_comes t seed (ends_with (ends.Error stop)) (Err (halts.End (ends.Error stop))) trace.0 refl
  evaluation_decides (refused p trace) = keeps_all trace.0
  evaluation_decides (replied question k reply r old between new said there rest) =
      reply_goes question k reply (with_read r new.1) old between new.0 said there (evaluation_decides rest)
  evaluation_decides (failed question k fault old new there) = reply_fails question k fault old new there

-- what neither asks nor draws, beside what was read
pub comes_with : {A : Type 0} (t : Listing) (seed : ℕ) (p : Eval A) (r : Result A Halt) (read : List Watched) (xs : Noted) → Comes p r →
    Decides t seed (p ~> (λ a. gives (a, read))) (with_read r read) xs xs
comes_with t seed p (Ok a) read xs h =
    decides_then t seed p (λ x. gives (x, read)) a (Ok (a, read)) xs xs xs (decides_comes t seed p (Ok a) xs h) (decides_gives t seed (a, read) xs)
comes_with t seed p (Err halt) read xs h = decides_halt t seed p (λ x. gives (x, read)) halt xs xs (decides_comes t seed p (Err halt) xs h)

abbrev trace_of : Traced → Trace
trace_of w = (w.seen.notes.now, w.read.now.items)

module _ {says : (question : Question) → Reply question → Type 0} where
  -- what is seen stays over an evaluation, and its notes and what it read are those of the replies
  noted : {A : Type 0} {p : Evaluation A} {r : Result A Halt} {old new : Traced} → Evaluates says TracedReplies p r old new →
      Evaluates says (TracedReplied old.seen.context.run.version.now old.seen.context.run.seed old.seen.context.state.now old.seen.context.asker.now) p r (trace_of old) (trace_of new) ×
      IsTracedStill old new
  noted (yields a w) = (yields a _, ((refl, refl), refl))
  noted (stops stop w) = (stops stop _, ((refl, refl), refl))
  noted (refused p w) = (refused p _, ((refl, refl), refl))
  noted (replied question k reply r old between new said (there, ((still, name), list)) rest) =
      let (h, ((still2, name2), list2)) = noted rest in (
        replied question k reply r _ _ _ said there (rw still at h),
        ((rw still2 still, rw name2 name), rw list2 list),
      )
  noted (failed question k fault old new (there, still)) = (failed question k fault _ _ there, still)

-- what an evaluation over what is seen came to, where it borrows the notes and the list of what was read up to here
pub traced_decides : {A : Type 0} {p : Evaluation A} {r : Result A Halt} {old new : Traced} {notes : Noted} {read : List Watched} →
    Evaluates (Replying old.seen.context.run.version.now) TracedReplies p r old new →
    (old.seen.notes.ghost_name ≡ new.seen.notes.ghost_name → notes ≡ new.seen.notes.now) →
    (old.read.ghost_name ≡ new.read.ghost_name → read ≡ new.read.now.items) →
    Decides old.seen.context.run.version.now old.seen.context.run.seed (traced old.seen.context.state.now old.seen.context.asker.now old.read.now.items p) (with_read r read)
    old.seen.notes.now notes
traced_decides {old} h ends lists =
    let (of_notes, ((still, name), list)) = noted h in
    rw (ends (sym name), lists (sym list))
    (evaluation_decides old.seen.context.run.version.now old.seen.context.run.seed old.seen.context.state.now old.seen.context.asker.now of_notes)
