-- A changed version is made, or refused for its fault; a number within or outside of 1 to the last one; and the statements
-- after a splice.
use Rattle.std.proofs.Common.{◌≡◌, ◌≢◌, ℕ, ◌<◌, ◌≤◌, ◌||◌, true, false, List, [], ◌∷◌, ◌++◌, Some, None, Result, Ok, Err, take, drop, nat_lt, refl, ap, ap₂, sym, ◌∙◌, append_assoc}
use Rattle.std.proofs.Math.Bool.{or-true}
use Rattle.std.proofs.lemmas.Bool.{le-ltb, lt-ltb}
use Rattle.std.proofs.lemmas.List.{drop-map, map-append, take-map}
use Rattle.gw_meaning.specs.declared.statement.Numbered.{Numbered}
use Rattle.gw_meaning.specs.declared.statement.Statement.{Statement}
use Rattle.gw_meaning.specs.Listing.{Listing}
use Rattle.gw_frame.specs.Renamed.{statements_of}
use Rattle.gw_model.specs.declared.fault.ModelFault.{ModelFault}
use Rattle.gw_model.specs.declared.fault.ModelFault.TheVariants as models
use Rattle.gw_model.specs.Faults.{fault_of, is_outside}
use Rattle.gw_model.specs.Spliced.{inserted}
use Rattle.gw_edit.specs.declared.fault.EditFault.{EditFault}
use Rattle.gw_edit.specs.declared.fault.EditFault.TheVariants.{BadModel}
use Rattle.gw_edit.specs.Applied.{checked, unless_faulty}
use Rattle.gw_edit.specs.Faults.{of_model}
use Rattle.gw_edit.specs.Outcomes.{ChangesTo}

-- ---- a changed version is made, or refused for its fault

bad_model : (f : ModelFault) → f ≢ models.Memory → of_model f ≡ BadModel f
bad_model models.Memory other = absurd (other refl)
bad_model f other = refl

none_made : (v : Listing) → fault_of v ≡ None → checked v ≡ Ok v
unfolding checked
none_made v h = ap (λ o. unless_faulty o v) h

fault_refused : (v : Listing) (f : ModelFault) → fault_of v ≡ Some f → f ≢ models.Memory → checked v ≡ Err (BadModel f)
unfolding checked
fault_refused v f h other = ap (λ o. unless_faulty o v) h ∙ ap (λ (e : EditFault). Err e) (bad_model f other)

pub changes_to : (facts : Listing → Type 0) (v : Listing) (answer : Result Listing EditFault) → facts v → answer ≡ checked v → ChangesTo facts answer
changes_to facts v answer holds is = record {
  version = v;
  changed = holds;
  made = λ h. is ∙ none_made v h;
  refused = λ f h other. is ∙ fault_refused v f h other;
}

-- ---- a number within or outside of 1 to the last one

pub inside : (last n : ℕ) → 1 ≤ n → n ≤ last → is_outside 1 last n ≡ false
inside last n least within = ap₂ (λ a b. a || b) (le-ltb n 1 least) (le-ltb last n within)

pub outside_below : (last n : ℕ) → n < 1 → is_outside 1 last n ≡ true
outside_below last n low = ap (λ b. b || nat_lt last n) (lt-ltb n 1 low)

pub outside_above : (last n : ℕ) → last < n → is_outside 1 last n ≡ true
outside_above last n high = ap (λ b. nat_lt n 1 || b) (lt-ltb last n high) ∙ or-true (nat_lt n 1)

-- ---- the statements after a splice

pub statements_spliced : (lines middle : List Numbered) (i j : ℕ) →
    statements_of (take i lines ++ middle ++ drop j lines) ≡ take i (statements_of lines) ++ statements_of middle ++ drop j (statements_of lines)
statements_spliced lines middle i j =
    map-append (λ (l : Numbered). l.statement) (take i lines ++ middle) (drop j lines)
    ∙ ap₂ (λ a b. a ++ b)
    (map-append (λ (l : Numbered). l.statement) (take i lines) middle
    ∙ ap (λ a. a ++ statements_of middle) (sym (take-map (λ (l : Numbered). l.statement) i lines)))
    (sym (drop-map (λ (l : Numbered). l.statement) j lines))

-- one statement between them
pub one_between : (lines : List Numbered) (s : Statement) (number i j : ℕ) →
    statements_of (take i lines ++ inserted number (Some s) ++ drop j lines) ≡ take i (statements_of lines) ++ s ∷ drop j (statements_of lines)
one_between lines s number i j =
    statements_spliced lines (inserted number (Some s)) i j
    ∙ append_assoc (take i (statements_of lines)) (s ∷ []) (drop j (statements_of lines))
