-- A run without words: the model on standard input, under the usual options.
use Rattle.std.proofs.Common.{◌≡◌, ◌⊎◌, inl, inr, ℕ, List, [], ◌∷◌, length, map, ap, sym, subst, refl, ◌∙◌, arith}
use Rattle.std.specs.Prelude.{Option, Some, None, Result, Ok, Err, codes}
use Rattle.clap.specs.Words.{IsAmong, Text}
use Rattle.clap.specs.declared.error.kind.ErrorKind.TheVariants as kinds
use Rattle.clap.specs.Kinds.{Kinds}
use Rattle.clap.proofs.OnLiterals.{clap_on_literals}
use Rattle.gw_io.specs.declared.budget.ReadFault.{ReadFault}
use Rattle.gw_io.specs.declared.budget.ReadFault.TheVariants as causes
use Rattle.gw_io.specs.Model.{IsModelPart}
use Rattle.gw_io.specs.Reading.{Breaks}
use Rattle.gw_io.proofs.Models.{no_lines, whole_part}
use Rattle.gw_script.specs.declared.fault.Fault.TheVariants as faults
use Rattle.gw_script.specs.declared.opening.Options.{Options}
use Rattle.gw_script.specs.declared.opening.TheConstants as constants
use Rattle.gw_main.specs.declared.words.Wanted.{Wanted}
use Rattle.gw_main.specs.declared.words.ModelAt.{ModelAt}
use Rattle.gw_main.specs.declared.words.ModelAt.TheVariants as places
use Rattle.gw_main.specs.declared.words.Refusal.{Refusal}
use Rattle.gw_main.specs.declared.words.Refusal.TheVariants as refusals
use Rattle.gw_main.specs.Conversations.{Fails, Runs, in_model, stopped}
use Rattle.gw_main.specs.Programs.{Declines, Does, Proceeds, RunsAt}
use Rattle.gw_main.specs.Words.{HasBadNumber, IsBadLine, IsModelAt, IsReadAs, SaysOptions, every, faults_of, horizon, limit, said, seed, word_of, workers}

-- clap finds nothing wrong in no words, and they give no word for a name
no_faults : faults_of [] ≡ []
unfolding clap_on_literals
no_faults = refl

no_word : (name : Text) → word_of [] name ≡ None
unfolding clap_on_literals
no_word name = refl

-- an option that no word is given for says its usual number
says_usual : (least greatest usual n : ℕ) (name : Text) → said least greatest usual (word_of [] name) ≡ Some n → n ≡ usual
says_usual least greatest usual n name h =
    let e : Some usual ≡ Some n = sym (ap (said least greatest usual) (no_word name)) ∙ h in
    cc

no_bad_number : HasBadNumber (word_of []) → ⊥
no_bad_number (seed h) =
    let e : Some 1 ≡ None = sym (ap (said 1 2147483646 1) (no_word (codes "seed"))) ∙ h in cc
no_bad_number (horizon h) =
    let e : Some 1000000000 ≡ None = sym (ap (said 1 1000000000000 1000000000) (no_word (codes "horizon"))) ∙ h in cc
no_bad_number (every h) =
    let e : Some 1000 ≡ None = sym (ap (said 1 1000000 1000) (no_word (codes "every"))) ∙ h in cc
no_bad_number (limit h) =
    let e : Some 1000000 ≡ None = sym (ap (said 1 1000000 1000000) (no_word (codes "limit"))) ∙ h in cc
no_bad_number (workers h) =
    let e : Some 0 ≡ None = sym (ap (said 0 16 0) (no_word (codes "workers"))) ∙ h in cc

abbrev options_with : ℕ → ℕ → ℕ → ℕ → Options
options_with s t k l = record { seed = s; horizon = t; every = k; limit = l }

usual_options : (o : Options) (n : ℕ) → SaysOptions (word_of []) o n → o ≡ constants.Options.USUAL
usual_options o n h =
    let s : o.seed ≡ 1 = says_usual 1 2147483646 1 o.seed (codes "seed") h.seed in
    let t : o.horizon ≡ 1000000000 = says_usual 1 1000000000000 1000000000 o.horizon (codes "horizon") h.horizon in
    let k : o.every ≡ 1000 = says_usual 1 1000000 1000 o.every (codes "every") h.every in
    let l : o.limit ≡ 1000000 = says_usual 1 1000000 1000000 o.limit (codes "limit") h.limit in
    ap (λ v. options_with v o.horizon o.every o.limit) s ∙
    (ap (λ v. options_with 1 v o.every o.limit) t ∙ (ap (λ v. options_with 1 1000000000 v o.limit) k ∙ ap (options_with 1 1000000000 1000) l))

usual_workers : (o : Options) (n : ℕ) → SaysOptions (word_of []) o n → n ≡ 0
usual_workers o n h = says_usual 0 16 0 n (codes "workers") h.workers

usual_place : (m : ModelAt) → IsModelAt None m → m ≡ places.Input
usual_place places.Input h = refl
usual_place (places.File path) h = absurd h

-- words that are none ask for a run under the usual options, or out of memory
is_usual : (meant : Result Wanted Refusal) → IsReadAs [] meant →
    ((wanted : Wanted) × (meant ≡ Ok wanted) × (wanted.model ≡ places.Input) × (wanted.workers ≡ 0) × (wanted.options ≡ constants.Options.USUAL)) ⊎ (meant ≡ Err refusals.Memory)
is_usual (Ok wanted) h =
    let At : Option Text → Type 0 = λ w. IsModelAt w wanted.model in
    inl (
      wanted,
      refl,
      usual_place wanted.model (subst At (no_word (codes "model")) h.model),
      usual_workers wanted.options wanted.workers h.options,
      usual_options wanted.options wanted.workers h.options,
    )
is_usual (Err (refusals.Help text)) (inl h) = let Among : Kinds → Type 0 = λ ks. IsAmong kinds.DisplayHelp ks in absurd (subst Among no_faults h)
is_usual (Err (refusals.Help text)) (inr h) = let Among : Kinds → Type 0 = λ ks. IsAmong kinds.DisplayVersion ks in absurd (subst Among no_faults h)
is_usual (Err (refusals.Bad text)) (inl line) = absurd (subst IsBadLine no_faults line).found
is_usual (Err (refusals.Bad text)) (inr number) = absurd (no_bad_number number.1)
is_usual (Err refusals.Memory) h = inr refl

module _ {S K : Type 0} (took : S → List ℕ → S → Type 0) (ended : S → Type 0) (reads : S → ℕ) (wrote : K → List ℕ → K → Type 0) (writes : K → ℕ)
    (nothing : (a : S) → took a [] a) (reader reader' : S) (writer writer' : K) where
  -- out of memory before anything is read is a conversation that stopped out of memory within its model
  stops_unread : (n : ℕ) (o : Options) → reader' ≡ reader → writer' ≡ writer →
      Fails took ended reads wrote writes n o reader reader' writer writer' faults.Memory
  stops_unread n o unread unwritten =
      let P : S → Type 0 = λ v. Breaks took reads IsModelPart reader v 16777216 16777216 causes.Memory in
      let breaks : Breaks took reads IsModelPart reader reader 16777216 16777216 causes.Memory =
      record {
        bytes = [];
        part = whole_part [] (no_lines [] refl);
        taken = nothing reader;
        idle = 0;
        spent = omega arith;
        idle_calls =
            omega arith;
        counted = refl;
        limit = tt;
      } in
      in_model 16777216 causes.Memory (subst P (sym unread) breaks) refl unwritten

  -- so a run without words is one with its model on standard input, under the usual options
  module _ {F E : Type 0} (opens : List ℕ → Result F ReadFault → Type 0) (took_file : F → List ℕ → F → Type 0) (ended_file : F → Type 0) (reads_file : F → ℕ)
      (told : E → List ℕ → E → Type 0) (losses : E → ℕ) (errors errors' : E) (status : ℕ) where
    abbrev IsUsualRun : Type 0
    IsUsualRun = Runs took ended reads wrote writes told losses 0 constants.Options.USUAL reader reader' writer writer' errors errors' status

    unread_run : Declines told losses (codes "stopped: F6\n") 3 reader reader' writer writer' errors errors' status → IsUsualRun
    unread_run h = stopped faults.Memory (stops_unread 0 constants.Options.USUAL h.unread h.unwritten) h.tells h.status_is

    pub usual_run : (words : List Text) → words ≡ [] → Does opens took_file ended_file reads_file took ended reads wrote writes told losses words reader reader'
        writer writer' errors errors' status → IsUsualRun
    usual_run words none d = go (is_usual d.meant (subst (λ (ws : List Text). IsReadAs ws d.meant) none d.reading)) where
      Done : Result Wanted Refusal → Type 0
      Done meant =
          Proceeds opens took_file ended_file reads_file took ended reads wrote writes told losses meant reader reader' writer writer' errors errors' status

      At : ModelAt → ℕ → Options → Type 0
      At m n o = RunsAt opens took_file ended_file reads_file took ended reads wrote writes told losses m n o reader reader' writer writer' errors errors' status

      go : ((wanted : Wanted) × (d.meant ≡ Ok wanted) × (wanted.model ≡ places.Input) × (wanted.workers ≡ 0) × (wanted.options ≡ constants.Options.USUAL)) ⊎
          (d.meant ≡ Err refusals.Memory) → IsUsualRun
      go (inl h) =
          subst (At places.Input 0) h.4 (subst (λ (n : ℕ). At places.Input n h.0.options) h.3
          (subst (λ (m : ModelAt). At m h.0.workers h.0.options) h.2 (subst Done h.1 d.done)))
      go (inr memory) = unread_run (subst Done memory d.done)

-- no words have no texts
pub no_texts : {W : Type 0} (text : W → Text) (words : List W) → length words ≡ 0 → map text words ≡ []
no_texts text [] none = refl
no_texts text (word ∷ words) none = absurd (omega arith)
