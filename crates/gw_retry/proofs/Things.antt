-- Things that are told to be the same are one, and so are lists of them; a copy is what it is a copy of.
use denote.Enum.Bare.{same_true, sameb}
use Rattle.std.proofs.Common.{◌≡◌, true, List, [], ◌∷◌, refl, ap, ap₂, rules}
use Rattle.std.proofs.lemmas.Bool.{and_parts, eqb-true}
use Rattle.std.specs.Cmp.Lexicographic.{pointwise}
use Rattle.gw_entities.proofs.QueueArrivalLaws.{key_same}
use Rattle.gw_names.specs.Keys.{key_eq}
use Rattle.gw_meaning.specs.contracts.watched.EntityKind as kinds
use Rattle.gw_meaning.specs.contracts.watched.WatchedClone.TheImpl as cloning
use Rattle.gw_meaning.specs.contracts.watched.WatchedEq.TheImpl.Laws as laws
use Rattle.gw_meaning.specs.declared.watched.EntityKind.{EntityKind}
use Rattle.gw_meaning.specs.declared.watched.Watched.{Watched}
use Rattle.gw_meaning.specs.declared.watched.Watched.TheVariants as watched
use Rattle.gw_meaning.specs.Watching.{same_watched}

kind_same : (j k : EntityKind) → sameb kinds.the_type j k ≡ true → j ≡ k
kind_same j k h = same_true kinds.the_type (search rules) j k h

pub thing_same : (v w : Watched) → same_watched v w ≡ true → v ≡ w
thing_same (watched.Entity j k) (watched.Entity l m) h =
    let parts = and_parts (sameb kinds.the_type j l) (key_eq k m) h in
    ap₂ (λ kind key. watched.Entity kind key) (kind_same j l parts.0) (key_same k m parts.1)
thing_same (watched.Entity j k) (watched.Counts n) h = absurd cc
thing_same (watched.Counts m) (watched.Entity l k) h = absurd cc
thing_same (watched.Counts m) (watched.Counts n) h = ap (λ id. watched.Counts id) (eqb-true m n h)

pub thing_turned : (v w : Watched) → same_watched v w ≡ same_watched w v
thing_turned v w = laws.laws-law.symm v w

pub list_same : (vs ws : List Watched) → pointwise same_watched vs ws ≡ true → vs ≡ ws
list_same [] [] h = refl
list_same [] (w ∷ ws) h = absurd cc
list_same (v ∷ vs) [] h = absurd cc
list_same (v ∷ vs) (w ∷ ws) h =
    let parts = and_parts (same_watched v w) (pointwise same_watched vs ws) h in
    ap₂ (λ x xs. x ∷ xs) (thing_same v w parts.0) (list_same vs ws parts.1)

pub thing_copied : (v w : Watched) → cloning.ghosts.is_clone v w → w ≡ v
thing_copied (watched.Entity j k) (watched.Entity l m) h = grind rules
thing_copied (watched.Entity j k) (watched.Counts n) h = grind rules
thing_copied (watched.Counts m) (watched.Entity l k) h = grind rules
thing_copied (watched.Counts m) (watched.Counts n) h = grind rules
