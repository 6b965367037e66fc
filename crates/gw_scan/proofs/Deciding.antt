-- What was decided can be made, and is made.
use Rattle.std.specs.Prelude.{IsErrAnd}
use Rattle.std.proofs.Common.{◌≡◌, ℕ, arith, List, [], ◌∷◌, length, Option, Some, None, Result, Ok, Err, refl, sym, subst}
use Rattle.gw_meaning.specs.declared.item.Item.TheVariants as items
use Rattle.gw_meaning.specs.declared.moves.Change.{Change}
use Rattle.gw_meaning.specs.declared.moves.Fate.{Fate}
use Rattle.gw_meaning.specs.declared.moves.Fate.TheVariants as fates
use Rattle.gw_meaning.specs.declared.moves.Move.{Move}
use Rattle.gw_meaning.specs.declared.moves.Move.TheVariants as moves
use Rattle.gw_meaning.specs.declared.transaction.Transaction.{Transaction}
use Rattle.gw_meaning.specs.Listing.{Listing}
use Rattle.gw_meaning.specs.Machine.{Machine}
use Rattle.gw_meaning.specs.Evaluation.{Eval}
use Rattle.gw_meaning.specs.Step.{try_prog, attempt_prog, pick_prog, clock_prog, least_time, move_prog}
use Rattle.gw_frame.proofs.Known.{IsDecided, IsDecidedFate}
use Rattle.gw_frame.proofs.Decided.{move_is_decided}
use Rattle.gw_expr.specs.declared.halt.Halt.{Halt}
use Rattle.gw_expr.specs.declared.halt.Halt.TheVariants as halts
use Rattle.gw_asking.specs.Noted.{Noted, Tries}
use Rattle.gw_asking.specs.Deciding.{Decides}
use Rattle.gw_asking.proofs.Binding.{decides_asked}
use Rattle.gw_state.specs.Making.{IsAlone, IsMade}
use Rattle.gw_scan.specs.Stepping.{Acts}
use Rattle.gw_scan.proofs.StepLaws.{decides_keeps}

-- where none waits on the current chain, the clock moves on
pub clock_is_next : (s : Machine) (xs : List Transaction) → length xs ≡ 0 → pick_prog s xs ≡ clock_prog (least_time s.future)
clock_is_next s [] none = refl
clock_is_next s (x ∷ xs) none = absurd (omega (arith, none))

alone : (s : Machine) (change : Change) (fate : Fate) → IsDecidedFate s change fate → IsAlone change fate
alone s change fates.Active h = tt
alone s change fates.Current h = h
alone s change (fates.Delayed until) h = h.0
alone s change (fates.Linked key discipline) h = h
alone s change (fates.Destroyed count) h = h

pub made : (t : Listing) (s : Machine) (m : Move) → IsDecided t s m → IsMade s m
made t s (moves.Start count arrivals) h = tt
made t s moves.Command h = tt
made t s moves.Reset h = tt
made t s moves.Clear h = tt
made t s (moves.Enter id change fate) h = alone s change fate h.2
made t s (moves.Refuse id key units) h = tt
made t s (moves.Watch read) h = tt
made t s moves.Pick h = tt
made t s (moves.Clock time) h = h.0

module _ (t : Listing) (seed : ℕ) where
  -- a move that was decided can be made
  pub is_made : (s : Machine) (m : Move) (old new : Noted) → Decides t seed (move_prog s s.remaining) (Ok m) old new → IsMade s m
  is_made s m old new h = made t s m (move_is_decided t seed s old.streams (m, new.streams) h.0)

  -- a block is tried: the one that a transaction goes to, or the one after its own, for which it asked
  pub decides_tried : (s : Machine) (x : Transaction) (to id : Option ℕ) (r : Result Move Halt) (xs ys zs : Noted) →
      Tries t x to id xs ys → Decides t seed (try_prog s x id) r ys zs → Decides t seed (attempt_prog s x to) r xs zs
  decides_tried s x (Some to) id r xs ys zs tried h =
      let here = subst (λ (n : Noted). Decides t seed (try_prog s x id) r n zs) tried.1 h in
      subst (λ (o : Option ℕ). Decides t seed (try_prog s x o) r xs zs) tried.0 here
  decides_tried s x None id r xs ys zs tried h =
      decides_asked t seed (items.After x.current) (try_prog s x) r xs ys zs tried.1
      (subst (λ (o : Option ℕ). Decides t seed (try_prog s x o) r ys zs) tried.0 h)

  -- where no move was decided, or memory is refused to make it, nothing changes
  pub acts_left : (p : Eval Move) (r : Result (Unit {0}) Halt) (halt : Halt) (s : Machine) (xs ys : Noted) → IsErrAnd r (λ e. e ≡ halt) →
      Decides t seed p (Err halt) xs ys → Acts t seed p r s s xs ys
  acts_left p (Ok u) halt s xs ys exit h = absurd exit
  acts_left p (Err e) halt s xs ys exit h = (subst (λ (f : Halt). Decides t seed p (Err f) xs ys) (sym exit) h, refl)

  pub acts_refused : (p : Eval Move) (m : Move) (r : Result (Unit {0}) Halt) (before after : Machine) (xs ys : Noted) →
      IsErrAnd r (λ e. e ≡ halts.Memory) → after ≡ before → Decides t seed p (Ok m) xs ys → Acts t seed p r before after xs ys
  acts_refused p m r before after xs ys exit same h =
      subst (λ (s : Machine). Acts t seed p r before s xs ys) (sym same)
      (acts_left p r halts.Memory before xs ys exit (decides_keeps t seed p (Ok m) xs ys h))
