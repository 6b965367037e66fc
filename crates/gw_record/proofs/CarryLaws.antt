-- The record of one version's run is that of a version that answers alike what the run read.
use Rattle.std.proofs.Common.{◌≡◌, ℕ, zero, suc, ◌+◌, ◌<◌, ◌≤◌, Bool, true, false, cond, nat_eq, List, Option, Some, None, Ok, inl, inr, ⊎_elim, refl, sym, ap, ◌∙◌, arith}
use Rattle.std.specs.List.{list_any}
use Rattle.std.proofs.lemmas.Bool.Decides.{nat_tests}
use Rattle.gw_meaning.specs.declared.item.Item.{Item}
use Rattle.gw_meaning.specs.Listing.{Listing}
use Rattle.gw_meaning.specs.Machine.{Machine}
use Rattle.gw_meaning.specs.Step.{run}
use Rattle.gw_meaning.specs.Reads.{reads, or_later, first_reading, is_use}
use Rattle.gw_frame.specs.Alike.{AnswersAlike}
use Rattle.gw_frame.proofs.ReadLaws.{run_before, unseen_reads}
use Rattle.gw_record.specs.Tape.{Tape, Records, IsStartEnd, IsWanted}
use Rattle.gw_record.specs.Carrying.{Carries}

-- a run that comes so far came to a state before
pub run_to : (t : Listing) (seed n : ℕ) (s : Machine) (m : ℕ) → run t seed n ≡ Ok s → m ≤ n → (u : Machine) × (run t seed m ≡ Ok u)
run_to t seed zero s m is less = let at : m ≡ 0 = omega (arith, less) in (s, ap (λ n. run t seed n) at ∙ is)
run_to t seed (suc n) s m is less = go (nat_eq m (suc n)) refl (λ low. run_to t seed n before.0 m before.1 low) where
  before : (u : Machine) × (run t seed n ≡ Ok u)
  before = run_before t seed n s is

  go : (b : Bool) → nat_eq m (suc n) ≡ b → (m ≤ n → (u : Machine) × (run t seed m ≡ Ok u)) → (u : Machine) × (run t seed m ≡ Ok u)
  go true e rest = let at : m ≡ suc n = grind (arith, nat_tests) in (s, ap (λ n. run t seed n) at ∙ is)
  go false e rest = rest (grind (arith, nat_tests))

-- runs that read the same have the same first readings
pub same_readings :
    (p : Item → Bool) (t : Listing) (seed : ℕ) (u : Listing) (new_seed n : ℕ) →
    ((j : ℕ) → j < n → reads u new_seed j ≡ reads t seed j) → first_reading p u new_seed n ≡ first_reading p t seed n
same_readings p t seed u new_seed zero same = refl
same_readings p t seed u new_seed (suc n) same =
    let before = same_readings p t seed u new_seed n (λ j less. same j (omega (arith, less))) in
    let last = same n (omega arith) in
    let later : List Item → Option ℕ = λ is. cond (list_any p is) (Some n) None in
    ap (λ o. or_later o (later (reads u new_seed n))) before ∙ ap (λ is. or_later (first_reading p t seed n) (later is)) last

module _ (t : Listing) (seed : ℕ) (u : Listing) (new_seed : ℕ) (r : Tape)
    (h : Records t seed r) (limit : u.limit ≡ t.limit)
    (alike : (j : ℕ) → j < r.moment → AnswersAlike t seed u new_seed (reads t seed j)) where
  there : (m : ℕ) (s : Machine) → m ≤ r.moment → run t seed m ≡ Ok s → run u new_seed m ≡ Ok s
  there m s low is = (unseen_reads t seed u new_seed m s is (λ j less. alike j (omega (arith, less, low)))).0

  back : (m : ℕ) (s : Machine) → m ≤ r.moment → run u new_seed m ≡ Ok s → run t seed m ≡ Ok s
  back m s low is =
      let (v, was) = run_to t seed r.moment r.tip m h.tip low in
      let found : Ok v ≡ Ok s = sym (there m v low was) ∙ is in
      let same : v ≡ s = cc in
      was ∙ ap (λ x. Ok x) same

  end_there : (k m : ℕ) → m ≤ r.moment → IsStartEnd t seed k m → IsStartEnd u new_seed k m
  end_there k m low e = record {
    state = e.state;
    there = there m e.state low e.there;
    complete = e.complete;
    some = e.some;
    first = λ i s less is done. e.first i s less (back i s (omega (arith, less, low)) is) done;
  }

  end_back : (k m : ℕ) → m ≤ r.moment → IsStartEnd u new_seed k m → IsStartEnd t seed k m
  end_back k m low e = record {
    state = e.state;
    there = back m e.state low e.there;
    complete = e.complete;
    some = e.some;
    first = λ i s less is done. e.first i s less (there i s (omega (arith, less, low)) is) done;
  }

  wanted_there : (m : ℕ) → m ≤ r.moment → IsWanted t seed r.every r.start m → IsWanted u new_seed r.every r.start m
  wanted_there m low = ⊎_elim (λ at. inl at) (λ other. inr (⊎_elim (λ n. inl n) (λ (k, end). inr (k, end_there k m low end)) other))

  wanted_back : (m : ℕ) → m ≤ r.moment → IsWanted u new_seed r.every r.start m → IsWanted t seed r.every r.start m
  wanted_back m low = ⊎_elim (λ at. inl at) (λ other. inr (⊎_elim (λ n. inl n) (λ (k, end). inr (k, end_back k m low end)) other))

  pub carried : Records u new_seed r
  carried =
      let same = unseen_reads t seed u new_seed r.moment r.tip h.tip alike in
      record {
        tip = same.0;
        from = h.from;
        within = let w = h.within in omega (arith, w, limit);
        kept = λ i e is.
            let o = h.kept i e is in
            let wanted = wanted_there e.moment o.below o.wanted in
            record { there = there e.moment e.state o.below o.there; wanted = wanted; from = o.from; below = o.below };
        rising = h.rising;
        all_kept = λ m from less want. h.all_kept m from less (wanted_back m (omega (arith, less)) want);
        ends = λ i m is. let o = h.ends i m is in record { end = end_there (i + 1) m o.below o.end; below = o.below; kept = o.kept };
        ends_rise = h.ends_rise;
        all_ends = λ m s less is. h.all_ends m s less (back m s (omega (arith, less)) is);
        tip_end = h.tip_end;
        firsts = record {
          each = λ item. h.firsts.each item ∙ sym (same_readings (is_use item) t seed u new_seed r.moment same.1);
          clock = h.firsts.clock;
        };
      }

pub carries : (r : Tape) → Carries r
carries r t seed u new_seed h limit alike = carried t seed u new_seed r h limit alike
