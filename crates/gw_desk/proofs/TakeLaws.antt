-- What is taken, or why nothing is.
use Rattle.std.proofs.Common.{◌≡◌, ℕ, ◌<◌, is_some, Option, Some, Result, Ok, Err, MatchBool, refl, sym, ap, subst, ◌∙◌}
use Rattle.gw_expr.specs.declared.halt.End.{End}
use Rattle.gw_meaning.specs.Numbers.{AreNumbered}
use Rattle.gw_meaning.specs.Listing.{Listing, seed_at}
use Rattle.gw_meaning.specs.Machine.{Machine}
use Rattle.gw_meaning.specs.Step.{step}
use Rattle.gw_scan.specs.Stepping.{EndsAs}
use Rattle.gw_record.specs.Tape.{Tape}
use Rattle.gw_desk.specs.Book.{Book, IsBook, run_in}
use Rattle.gw_desk.specs.Legs.{Leg, IsLeg, IsAtEnd, GoesOn, IsOver, IsBranchOf, IsTaken}

-- a run below the limit ends where an end is found, and goes on where none is
module _ (t : Listing) (seed : ℕ) (run : Tape) (below : run.moment < t.limit) (found : Option End) where
  abbrev Verdict : Option End → Type 0
  Verdict o = MatchBool (is_some o) (IsAtEnd t seed run) (GoesOn t seed run)

  ends_as : (r : Result Machine End) → step t seed run.tip ≡ r → EndsAs r found → Verdict found
  ends_as (Ok next) is none = subst Verdict (sym none) (record { below = below; next = next; goes = is })
  ends_as (Err end) is some = subst Verdict (sym some) (IsAtEnd.end (end, is))

  pub decided : EndsAs (step t seed run.tip) found → Verdict found
  decided looked = ends_as (step t seed run.tip) refl looked

module _ (b : Book) (rep seed : ℕ) (run : Tape) (with_seed : seed_at b.version rep ≡ Some seed) (there : run_in b.runs rep ≡ Some run) where
  pub over : IsAtEnd b.version seed run → IsOver b rep
  over (IsAtEnd.limit at) = IsOver.at_limit run there at
  over (IsAtEnd.end ends) = IsOver.at_end seed run with_seed there ends

  pub is_leg : IsBook b → (branch : Tape) → IsBranchOf b rep seed branch → (l : Leg) → l.opening ≡ b.opening → l.edits ≡ b.edits → l.version ≡ b.version →
      l.replication ≡ rep → l.seed ≡ seed → l.run ≡ branch → IsLeg l
  is_leg book branch is l opening edits version replication seeded made = record {
    numbered = subst (λ (t : Listing). AreNumbered t.lines) (sym version) book.numbered;
    leads = rw (opening, edits, version) book.leads;
    with_seed = rw (version, replication, seeded) with_seed;
    records = rw (version, seeded, made) is.records;
  }

  pub taken : IsBook b → GoesOn b.version seed run → (branch : Tape) → IsBranchOf b rep seed branch → (l : Leg) → l.opening ≡ b.opening → l.edits ≡ b.edits →
      l.version ≡ b.version → l.replication ≡ rep → l.seed ≡ seed → l.run ≡ branch → l.made ≡ 0 → IsTaken b rep l
  taken book on branch is l opening edits version replication seeded made unmade =
      let both : Some is.run ≡ Some run = sym is.there ∙ there in
      let same : is.run ≡ run = cc in
      record {
        leg = is_leg book branch is l opening edits version replication seeded made;
        opening = opening;
        edits = edits;
        version = version;
        replication = replication;
        run = is.run;
        there = is.there;
        from = made ∙ is.from;
        unmade = unmade;
        below = subst (λ (r : Tape). r.moment < b.version.limit) (sym same) on.below;
        next = on.next;
        goes = ap (λ s. step b.version s is.run.tip) seeded ∙ (ap (λ (r : Tape). step b.version seed r.tip) same ∙ on.goes);
      }
