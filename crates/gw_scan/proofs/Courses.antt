-- What was decided can be made where it is the step's, and a course goes on as the evaluation that was decided says.
use Rattle.std.proofs.Common.{◌≡◌, ℕ, List, Option, Some, Result, Ok, Err, refl, sym, subst, ◌∙◌}
use Rattle.gw_streams.specs.declared.stream.Stream.{Stream}
use Rattle.gw_expr.specs.declared.halt.Halt.{Halt}
use Rattle.gw_meaning.specs.declared.item.Item.TheVariants as items
use Rattle.gw_meaning.specs.declared.moves.Move.{Move}
use Rattle.gw_meaning.specs.declared.statement.Block.{Block}
use Rattle.gw_meaning.specs.declared.transaction.Transaction.{Transaction}
use Rattle.gw_meaning.specs.Listing.{Listing, block_at}
use Rattle.gw_meaning.specs.Machine.{Machine}
use Rattle.gw_meaning.specs.Evaluation.{Eval}
use Rattle.gw_meaning.specs.Step.{move_prog, scan_prog, meet_prog}
use Rattle.gw_frame.proofs.Decided.{move_is_decided}
use Rattle.gw_asking.specs.Noted.{Noted, Asks, Tries}
use Rattle.gw_asking.specs.Deciding.{Decides}
use Rattle.gw_asking.proofs.Binding.{decides_asked}
use Rattle.gw_scan.specs.Courses.{CanBeMade, Taken, Goes, met_by, IsNext}
use Rattle.gw_scan.proofs.Deciding.{made, decides_tried}
use Rattle.gw_scan.proofs.StepLaws.{decides_keeps}

module _ (t : Listing) (seed : ℕ) where
  -- what the step comes to can be made
  pub can_be_made : (s : Machine) (p : Eval Move) (r : Result Move Halt) (xs ys : Noted) → IsNext t seed s p → Decides t seed p r xs ys → CanBeMade s r
  can_be_made s p (Ok m) xs ys next h = made t s m (move_is_decided t seed s xs.streams (m, ys.streams) (next xs.streams ∙ h.0))
  can_be_made s p (Err halt) xs ys next h = tt

  -- what the step comes to where no START is under way
  pub idle_next : (s : Machine) → s.remaining ≡ 0 → IsNext t seed s (move_prog s 0)
  idle_next s idle streams = rw idle refl

  module _ {S : Type 0} (makes : Move → List Stream → S → S → Type 0) where
    -- what was decided is taken
    pub goes : (p : Eval Move) (r : Result Move Halt) (u : Result (Unit {0}) Halt) (before after : S) (xs ys : Noted) → Decides t seed p r xs ys →
        Taken makes r ys.streams u before after → Goes makes t seed p u before after xs ys
    goes p (Ok m) (Ok u) before after xs ys h taken = (m, h, taken)
    goes p (Ok m) (Err halt) before after xs ys h taken =
        (subst (λ (f : Halt). Decides t seed p (Err f) xs ys) (sym taken.0) (decides_keeps t seed p (Ok m) xs ys h), taken.1)
    goes p (Err halt) (Ok u) before after xs ys h taken = absurd taken
    goes p (Err halt) (Err other) before after xs ys h taken =
        (subst (λ (f : Halt). Decides t seed p (Err f) xs ys) (sym taken.0) h, taken.1)

    -- one evaluation stands for another
    pub goes_so : (p q : Eval Move) (u : Result (Unit {0}) Halt) (before after : S) (xs ys zs : Noted) →
        ((r : Result Move Halt) → Decides t seed p r ys zs → Decides t seed q r xs zs) →
        Goes makes t seed p u before after ys zs → Goes makes t seed q u before after xs zs
    goes_so p q (Ok u) before after xs ys zs so h = (h.0, so (Ok h.0) h.1, h.2)
    goes_so p q (Err halt) before after xs ys zs so h = (so (Err halt) h.0, h.1)

    -- the block that is met is the one that is tried
    pub goes_tried : (s : Machine) (x : Transaction) (id : ℕ) (b : Block) (u : Result (Unit {0}) Halt) (before after : S) (xs ys ws zs : Noted) →
        s.active ≡ Some x → Tries t x x.destination (Some id) xs ys → block_at t id ≡ Some b → Asks ys (items.Block id) ws →
        Goes makes t seed (met_by s s.active id b) u before after ws zs → Goes makes t seed (scan_prog s s.active) u before after xs zs
    goes_tried s x id b u before after xs ys ws zs active tried there asked h =
        goes_so (met_by s s.active id b) (scan_prog s s.active) u before after xs ws zs
        (λ r met.
        let here = subst (λ (o : Option Transaction). Decides t seed (met_by s o id b) r ws zs) active met in
        let block = subst (λ (o : Option Block). Decides t seed (meet_prog s x id o) r ws zs) (sym there) here in
        let try = decides_asked t seed (items.Block id) (meet_prog s x id) r ys ws zs asked block in
        subst (λ (o : Option Transaction). Decides t seed (scan_prog s o) r xs zs) (sym active)
        (decides_tried t seed s x x.destination (Some id) r xs ys zs tried try)) h
