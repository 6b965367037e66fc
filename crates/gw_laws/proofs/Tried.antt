-- What an evaluation comes to, whatever it asks; what a block's change brings; and what each step of a run keeps.
use Rattle.std.proofs.Common.{◌≡◌, ℕ, ℤ, List, [], ◌∷◌, Option, Some, None, Result, Ok, Err, refl, sym, subst, ◌∙◌, arith}
use Rattle.gw_streams.specs.declared.stream.Stream.{Stream}
use Rattle.gw_names.specs.declared.key.Key.{Key}
use Rattle.gw_meaning.specs.Parameters.{values_at}
use Rattle.gw_meaning.specs.declared.entity_change.Update.{Update}
use Rattle.gw_meaning.specs.declared.moves.Arrival.{Arrival}
use Rattle.gw_meaning.specs.declared.moves.Change.{Change}
use Rattle.gw_meaning.specs.declared.moves.Change.TheVariants as changes
use Rattle.gw_meaning.specs.declared.moves.Move.{Move}
use Rattle.gw_meaning.specs.declared.item.Item.{Item}
use Rattle.gw_expr.specs.declared.halt.End.{End}
use Rattle.gw_meaning.specs.declared.transaction.Transaction.{Transaction}
use Rattle.gw_meaning.specs.Listing.{Listing}
use Rattle.gw_meaning.specs.Machine.{Machine, delay_at, user_chain_at, zero_state}
use Rattle.gw_meaning.specs.Changes.{update_grants, making_of, with_making, made, admitted, one_copied, all_copied, one_unlinked, with_active, changed, decided}
use Rattle.gw_meaning.specs.Questions.{Answer, ask, result_of}
use Rattle.gw_meaning.specs.Evaluation.{Eval, gives, ends_with, asks, ◌~>◌}
use Rattle.gw_meaning.specs.Step.{run}
use Rattle.gw_meaning.proofs.Programs.{bind_gives, bind_ends}
use Rattle.gw_frame.proofs.Moves.{LetsIn, some_have, all_copied_keep, some_unlinked_keep}
use Rattle.gw_frame.proofs.Running.{over_steps}
use Rattle.gw_frame.proofs.Decided.{move_is_step}
use Rattle.gw_frame.proofs.Known.{IsStep}

-- what an evaluation comes to, from any streams, has the property Q
pub record Comes {A : Type 0} (t : Listing) (seed : ℕ) (Q : A → Type 0) (p : Eval A) : Type 0 where
  pub from : (streams : List Stream) (r : A × List Stream) → result_of t seed (p streams) ≡ Ok r → Q r.0

pub comes_gives : {A : Type 0} {t : Listing} {seed : ℕ} {Q : A → Type 0} {a : A} → Q a → Comes t seed Q (gives a)
comes_gives {A} {t} {seed} {Q} {a} h =
    record { from = λ streams r is. (let same : (a, streams) ≡ r = cc in subst (λ (c : A × List Stream). Q c.0) same h) }

pub comes_ends : {A : Type 0} {t : Listing} {seed : ℕ} {Q : A → Type 0} {end : End} → Comes t seed Q (ends_with end)
comes_ends = record { from = λ streams r is. absurd cc }

pub comes_asks : {A : Type 0} {t : Listing} {seed : ℕ} {Q : A → Type 0} (i : Item) {k : Answer i → Eval A} → Comes t seed Q (k (ask t seed i)) →
    Comes t seed Q (asks i k)
comes_asks i rest = record { from = λ streams r is. rest.from streams r is }

-- whatever the first comes to
pub comes_bind : {A B : Type 0} {t : Listing} {seed : ℕ} {R : B → Type 0} (p : Eval A) {k : A → Eval B} → ((a : A) → Comes t seed R (k a)) →
    Comes t seed R (p ~> k)
comes_bind {A} {B} {t} {seed} {R} p {k} second = record { from = λ streams r is. go streams r is (result_of t seed (p streams)) refl } where
  go : (streams : List Stream) (r : B × List Stream) → result_of t seed ((p ~> k) streams) ≡ Ok r → (first : Result (A × List Stream) End) →
      result_of t seed (p streams) ≡ first → R r.0
  go streams r is (Ok a) there = (second a.0).from a.1 r (sym (bind_gives t seed (p streams) (λ b. k b.0 b.1) a there).0 ∙ is)
  go streams r is (Err end) there = absurd (let whole : Err end ≡ Ok r = sym (bind_ends t seed (p streams) (λ b. k b.0 b.1) end there).0 ∙ is in cc)

-- where something is known of what the first comes to
pub comes_then : {A B : Type 0} {t : Listing} {seed : ℕ} {Q : A → Type 0} {R : B → Type 0} {p : Eval A} {k : A → Eval B} → Comes t seed Q p →
    ((a : A) → Q a → Comes t seed R (k a)) → Comes t seed R (p ~> k)
comes_then {A} {B} {t} {seed} {Q} {R} {p} {k} first second = record { from = λ streams r is. go streams r is (result_of t seed (p streams)) refl } where
  go : (streams : List Stream) (r : B × List Stream) → result_of t seed ((p ~> k) streams) ≡ Ok r → (one : Result (A × List Stream) End) →
      result_of t seed (p streams) ≡ one → R r.0
  go streams r is (Ok a) there =
      (second a.0 (first.from streams a there)).from a.1 r (sym (bind_gives t seed (p streams) (λ b. k b.0 b.1) a there).0 ∙ is)
  go streams r is (Err end) there = absurd (let whole : Err end ≡ Ok r = sym (bind_ends t seed (p streams) (λ b. k b.0 b.1) end there).0 ∙ is in cc)

-- what has a property has what follows from it, and what each has
pub comes_more : {A : Type 0} {t : Listing} {seed : ℕ} {Q R : A → Type 0} {p : Eval A} → ((a : A) → Q a → R a) → Comes t seed Q p → Comes t seed R p
comes_more more h = record { from = λ streams r is. more r.0 (h.from streams r is) }

pub comes_any : {A : Type 0} {t : Listing} {seed : ℕ} {Q : A → Type 0} {p : Eval A} → ((a : A) → Q a) → Comes t seed Q p
comes_any each = record { from = λ streams r is. each r.0 }

-- one more transaction
abbrev pub Makes : (Machine → Type 0) → Type 0
Makes Q = (a : Arrival) (w : Machine) → Q w → Q (with_making (made a (making_of w)) w)

-- what a change brings keeps Q: one more transaction that is made, one that is let in, a copy, and one that is unlinked
pub record AllKeep (Q : Machine → Type 0) : Type 0 where
  pub makes : Makes Q
  pub lets : LetsIn Q
  pub copies : (w : Machine) (to : Option ℕ) (x : Transaction) (values : List (Key × ℤ)) → Q w → Q (one_copied to x values w)
  pub unlinks : (w : Machine) (key : Key) (to : Option ℕ) (x : Transaction) (xs : List Transaction) → (user_chain_at w.linked key).members ≡ x ∷ xs →
      Q w → Q (one_unlinked key to x xs w)

admitted_keeps : (Q : Machine → Type 0) (key : Key) (update : Update) (v : Machine) → LetsIn Q → Q v → Q (admitted key update v)
admitted_keeps Q key update v lets h = some_have Q key (update_grants update) [] (delay_at v.delays key) v refl lets h

pub changed_keeps : (Q : Machine → Type 0) (change : Change) (v : Machine) → AllKeep Q → Q v → Q (changed change v)
changed_keeps Q (changes.Generate (Some a)) v keep h = keep.makes a v h
changed_keeps Q (changes.Split count to) v keep h = go v.active where
  go : (o : Option Transaction) → Q (with_active o (λ x. all_copied count to x (values_at v.parameters x.number) v) v)
  go None = h
  go (Some x) =
      all_copied_keep (λ n w. Q w) to x (values_at v.parameters x.number) (λ n w k. keep.copies w to x (values_at v.parameters x.number) k) count v h
changed_keeps Q (changes.Unlink key count to) v keep h =
    some_unlinked_keep Q key to (λ w x xs is k. keep.unlinks w key to x xs is k) count (user_chain_at v.linked key).members v refl h
changed_keeps Q (changes.Entity change) v keep h = admitted_keeps Q change.0 change.1 v keep.lets h
changed_keeps Q change v keep h = h

-- what the start has and each step keeps, each run from zero has
pub over_moves : (t : Listing) (seed : ℕ) (P : Machine → Type 0) → P zero_state →
    ((s : Machine) (m : Move) (streams : List Stream) → IsStep t seed s m → P s → P (decided s m streams)) →
    (n : ℕ) (s : Machine) → run t seed n ≡ Ok s → P s
over_moves t seed P start keeps n s is =
    over_steps t seed (λ n v. P v) 0 zero_state refl start
    (λ n u m streams from there goes h. keeps u m streams (move_is_step t seed u u.streams (m, streams) goes) h) n s (omega arith) is
