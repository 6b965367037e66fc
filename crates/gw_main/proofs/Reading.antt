-- From what `clap` says of the program's command line to what the words ask for.
use Rattle.std.proofs.Common.{◌≡◌, ◌⊎◌, inl, inr, ℕ, List, [], true, ap, sym, subst, refl, ◌∙◌}
use Rattle.std.specs.Prelude.{Option, codes}
use Rattle.clap.specs.Words.{App, HasMatchesOf, IsAmong, Text, first_of, first_value, found_of, is_simple, is_simple_and_free, matches_of}
use Rattle.clap.specs.declared.error.kind.ErrorKind.{ErrorKind}
use Rattle.clap.specs.declared.error.kind.ErrorKind.TheVariants as kinds
use Rattle.clap.specs.declared.parser.matches.ArgMatches.{ArgMatches}
use Rattle.clap.proofs.OnLiterals.{clap_on_literals}
use Rattle.clap.proofs.WalkLemmas.{first_value-rows}
use Rattle.gw_script.specs.declared.opening.Options.{Options}
use Rattle.gw_main.specs.declared.words.Refusal.{Refusal}
use Rattle.gw_main.specs.declared.words.Refusal.TheVariants as refusals
use Rattle.gw_main.specs.Words.{HasBadNumber, IsNumberRefusal, IsRefusalAt, IsRefusedBy, SaysOptions, every, faults_of, gpssbench, horizon, limit, said, seed, word_of, workers}

-- the program's command line is of those whose matches and faults clap says exactly
gpssbench_is_simple : is_simple gpssbench ≡ true
unfolding clap_on_literals
gpssbench_is_simple = refl

gpssbench_is_free : is_simple_and_free gpssbench ≡ true
unfolding clap_on_literals
gpssbench_is_free = refl

-- a fact of every simple command is one of the program's
pub at_gpssbench : (a : App) (P : App → Type 0) → a ≡ gpssbench → (is_simple_and_free a ≡ true → P a) → P gpssbench
at_gpssbench a P e h = subst P e (h (ap is_simple_and_free e ∙ gpssbench_is_free))

-- the matches give for a name the word that the words give for it
pub given_by_words : (a : App) (words : List Text) (m : ArgMatches) → a ≡ gpssbench → HasMatchesOf a words m → (name : Text) →
    first_value (found_of m) name ≡ word_of words name
given_by_words a words m e h name =
    let rows = (h (ap is_simple e ∙ gpssbench_is_simple)).0 in
    first_value-rows (found_of m) name ∙ ap (first_of name) (rows ∙ ap (λ (v : App). matches_of v words) e)

-- what is said does not depend on how the words are looked up
pub says_same : (given given' : Text → Option Text) (o : Options) (n : ℕ) → ((name : Text) → given name ≡ given' name) → SaysOptions given o n →
    SaysOptions given' o n
says_same given given' o n same h = record {
  seed = ap (said 1 2147483646 1) (sym (same (codes "seed"))) ∙ h.seed;
  horizon = ap (said 1 1000000000000 1000000000) (sym (same (codes "horizon"))) ∙ h.horizon;
  every = ap (said 1 1000000 1000) (sym (same (codes "every"))) ∙ h.every;
  limit = ap (said 1 1000000 1000000) (sym (same (codes "limit"))) ∙ h.limit;
  workers = ap (said 0 16 0) (sym (same (codes "workers"))) ∙ h.workers;
}

pub bad_same : (given given' : Text → Option Text) → ((name : Text) → given name ≡ given' name) → HasBadNumber given → HasBadNumber given'
bad_same given given' same (seed e) = seed (ap (said 1 2147483646 1) (sym (same (codes "seed"))) ∙ e)
bad_same given given' same (horizon e) = horizon (ap (said 1 1000000000000 1000000000) (sym (same (codes "horizon"))) ∙ e)
bad_same given given' same (every e) = every (ap (said 1 1000000 1000) (sym (same (codes "every"))) ∙ e)
bad_same given given' same (limit e) = limit (ap (said 1 1000000 1000000) (sym (same (codes "limit"))) ∙ e)
bad_same given given' same (workers e) = workers (ap (said 0 16 0) (sym (same (codes "workers"))) ∙ e)

-- clap refused the words by one of their faults, or out of memory
pub refused_by_clap : (words : List Text) (kind : ErrorKind) (refusal : Refusal) → IsRefusalAt kind refusal → (kind ≡ kinds.OutOfMemory) ⊎
    IsAmong kind (faults_of words) → IsRefusedBy words refusal
refused_by_clap words kind (refusals.Help text) (inl is) (inl memory) = absurd cc
refused_by_clap words kind (refusals.Help text) (inr is) (inl memory) = absurd cc
refused_by_clap words kind (refusals.Help text) (inl is) (inr among) =
    let P : ErrorKind → Type 0 = λ k. IsAmong k (faults_of words) in inl (subst P is among)
refused_by_clap words kind (refusals.Help text) (inr is) (inr among) =
    let P : ErrorKind → Type 0 = λ k. IsAmong k (faults_of words) in inr (subst P is among)
refused_by_clap words kind (refusals.Bad text) is (inl memory) = absurd (is.2 memory)
refused_by_clap words kind (refusals.Bad text) is (inr among) = inl (record { kind = kind; found = among; no_help = is.0; no_version = is.1 })
refused_by_clap words kind refusals.Memory is among = tt

-- the words were refused for a number
pub refused_by_number : (words : List Text) (refusal : Refusal) → IsNumberRefusal refusal → faults_of words ≡ [] → HasBadNumber (word_of words) →
    IsRefusedBy words refusal
refused_by_number words (refusals.Help text) is taken bad = absurd is
refused_by_number words (refusals.Bad text) is taken bad = inr (taken, bad)
refused_by_number words refusals.Memory is taken bad = tt
