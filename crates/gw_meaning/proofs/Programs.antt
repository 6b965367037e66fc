-- What two programs of questions, one after the other, come to and ask; and so what a run of one step more does.
use Rattle.std.proofs.Common.{◌≡◌, ℕ, suc, ◌∷◌, ◌++◌, Ok, Err, refl, ap}
use Rattle.gw_expr.specs.declared.halt.End.{End}
use Rattle.gw_meaning.specs.Listing.{Listing}
use Rattle.gw_meaning.specs.Machine.{Machine}
use Rattle.gw_meaning.specs.Questions.{ask, Prog, Gives, Ends, Asks, result_of, items_of, ◌>>=◌}
use Rattle.gw_meaning.specs.Step.{step, step_prog, run, run_prog}

-- the first program gives a: the result and the questions are those of the second on a, after its own
pub bind_gives : {A B : Type 0} (t : Listing) (seed : ℕ) (p : Prog A) (k : A → Prog B) (a : A) → result_of t seed p ≡ Ok a →
    (result_of t seed (p >>= k) ≡ result_of t seed (k a)) × (items_of t seed (p >>= k) ≡ items_of t seed p ++ items_of t seed (k a))
bind_gives t seed (Gives b) k a is = let same : b ≡ a = cc in rw same (refl, refl)
bind_gives t seed (Ends end) k a is = absurd cc
bind_gives t seed (Asks i f) k a is = let h = bind_gives t seed (f (ask t seed i)) k a is in (h.0, ap (λ is. i ∷ is) h.1)

-- the first program ends the run: so does the whole
pub bind_ends : {A B : Type 0} (t : Listing) (seed : ℕ) (p : Prog A) (k : A → Prog B) (end : End) → result_of t seed p ≡ Err end →
    (result_of t seed (p >>= k) ≡ Err end) × (items_of t seed (p >>= k) ≡ items_of t seed p)
bind_ends t seed (Gives b) k end is = absurd cc
bind_ends t seed (Ends e) k end is = let same : e ≡ end = cc in rw same (refl, refl)
bind_ends t seed (Asks i f) k end is = let h = bind_ends t seed (f (ask t seed i)) k end is in (h.0, ap (λ is. i ∷ is) h.1)

-- the run is one step longer
pub run_on : (t : Listing) (seed n : ℕ) (s : Machine) → run t seed n ≡ Ok s → run t seed (suc n) ≡ step t seed s
run_on t seed n s is = (bind_gives t seed (run_prog n) step_prog s is).0
