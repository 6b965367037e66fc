-- What is left to keep at the tip.
use Rattle.std.proofs.Common.{◌≡◌, ℕ, ◌+◌, ◌%◌, ◌<◌, ◌≤◌, Bool, true, false, nat_le, List, [], ◌∷◌, ◌++◌, length, inl, inr, ⊎_elim, refl, sym, ◌∙◌, arith}
use Rattle.std.proofs.Math.Nat.{add-mod_right}
use Rattle.std.proofs.lemmas.Bool.Decides.{nat_tests}
use Rattle.gw_meaning.specs.Listing.{Listing}
use Rattle.gw_record.specs.declared.kept.Kept.{Kept}
use Rattle.gw_record.specs.Keeping.{IsDue}
use Rattle.gw_record.specs.Tape.{Tape, Records, IsKeptUp, IsWanted, IsThere}
use Rattle.gw_record.proofs.RecordLaws.{end_is_there, there_more}

-- where a multiple lies less than a spacing ahead, there is none here
pub between : (every moment ahead : ℕ) → (moment + ahead) % every ≡ 0 → 1 ≤ ahead → ahead < every → moment % every ≡ 0 → ⊥
between every moment ahead next some less here = grind (arith, nat_tests, next, some, less, here)

-- where it lies all of a spacing ahead, there is one here
pub at_multiple : (every moment : ℕ) → (moment + every) % every ≡ 0 → moment % every ≡ 0
at_multiple every moment next = sym (add-mod_right moment every) ∙ next

-- where nothing is due, nothing is left to keep
pub kept_up :
    (t : Listing) (seed due : ℕ) (r : Tape) → Records t seed r → IsDue r.start r.every r.moment r.kept r.ends due → r.tip.complete < due →
    IsKeptUp t seed r
kept_up t seed due r h d fewer = record { state = kept; end = few } where
  few : r.tip.complete ≤ length r.ends
  few = let most = d.few in omega (arith, most, fewer)

  at_start : r.moment ≤ r.start → IsThere r.kept r.moment
  at_start low = ⊎_elim (λ none. absurd (omega (arith, none, fewer))) (λ there. there.1) (d.at_start low)

  kept : IsWanted t seed r.every r.start r.moment → IsThere r.kept r.moment
  kept want = go (nat_le r.moment r.start) refl where
    go : (b : Bool) → nat_le r.moment r.start ≡ b → IsThere r.kept r.moment
    go true low = at_start (grind (arith, nat_tests))
    go false behind =
        ⊎_elim (λ at. at_start (omega (arith, at)))
        (λ rest. ⊎_elim (λ multiple. ⊎_elim (λ none. absurd (omega (arith, none, fewer))) (λ there. there) (d.at_multiple multiple))
        (λ end. end_is_there t seed end.0 r h (grind (arith, nat_tests)) few end.1) rest)
        want

-- all may be left to keep
pub due_all : (start every m : ℕ) (kept : List Kept) (ends : List ℕ) → IsDue start every m kept ends 0
due_all start every m kept ends = record { few = omega arith; at_start = λ low. inl refl; at_multiple = λ multiple. inl refl }

-- one more state is kept
pub due_kept : (start every m due : ℕ) (kept : List Kept) (x : Kept) (ends : List ℕ) → IsDue start every m kept ends due →
    IsDue start every m (kept ++ x ∷ []) ends due
due_kept start every m due kept x ends d = record {
  few = d.few;
  at_start = λ low. ⊎_elim (λ none. inl none) (λ there. inr (there.0, there_more kept x m there.1)) (d.at_start low);
  at_multiple = λ multiple. ⊎_elim (λ none. inl none) (λ there. inr (there_more kept x m there)) (d.at_multiple multiple);
}

-- the tip is kept up
pub due_next : (start every m : ℕ) (kept : List Kept) (ends : List ℕ) → start ≤ m → (m ≡ start → IsThere kept m) → (m % every ≡ 0 → IsThere kept m) →
    IsDue start every m kept ends (length ends + 1)
due_next start every m kept ends from there at_multiple = record {
  few = omega arith;
  at_start = λ low. let at : m ≡ start = omega (arith, from, low) in inr (at, there at);
  at_multiple = λ multiple. inr (at_multiple multiple);
}

-- one step further, at no multiple, with nothing left to keep at the start
pub due_later : (start every m due : ℕ) (kept : List Kept) (ends : List ℕ) → IsDue start every m kept ends due → ((m + 1) % every ≡ 0 → ⊥) →
    IsDue start every (m + 1) kept ends due
due_later start every m due kept ends d other = record {
  few = d.few;
  at_start = λ low. ⊎_elim (λ none. inl none) (λ there. absurd (let at = there.0 in omega (arith, low, at))) (d.at_start (omega (arith, low)));
  at_multiple = λ multiple. absurd (other multiple);
}
