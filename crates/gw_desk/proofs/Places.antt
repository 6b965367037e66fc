-- Two places that compare as one are one; and what is kept is among what was, or was put.
use Rattle.std.proofs.Common.{◌≡◌, ◌⊎◌, ℕ, Bool, true, List, Contains, IfSome, Option, Some, None, Result, Ok, Err, OnOk, OnErr, Bor, option_copied, inl, inr, ⊎_elim, sym, ap, subst, ◌∙◌, arith}
use Rattle.std.proofs.lemmas.Bool.Decides.{nat_tests}
use Rattle.std.specs.Map.{lookup}
use Rattle.gw_desk.specs.contracts.texts.PlacePartialEq.TheImpl as comparison
use Rattle.gw_desk.specs.declared.texts.Place.{Place}
use Rattle.lru.specs.LruCache.{LruCache, lru_cache, put_entries}
use Rattle.lru.proofs.CallerLemmas.{Contains-lookup, Contains-put_entries}

abbrev pub same_place : Place → Place → Bool
same_place = comparison.ghosts.eq

pub place_same : (a b : Place) → same_place a b ≡ true → a ≡ b
place_same a b h =
    let edits : a.edits ≡ b.edits = grind (arith, nat_tests, h) in
    let replication : a.replication ≡ b.replication = grind (arith, nat_tests, h) in
    let start : a.start ≡ b.start = grind (arith, nat_tests, h) in
    ap (λ n. record a { edits = n }) edits ∙ (ap (λ n. record a { edits = b.edits; replication = n }) replication
    ∙ ap (λ n. record b { start = n }) start)

pub text_there : (es : List (Place × List ℕ)) (place : Place) (o : Option (Bor (List ℕ))) → option_copied o ≡ lookup (same_place place) es →
    IfSome o (λ text. Contains es (place, text.now))
text_there es place None is = tt
text_there es place (Some text) is =
    let (k, there, same) = Contains-lookup (same_place place) es text.now (sym is) in
    subst (λ j. Contains es (j, text.now)) (sym (place_same place k same)) there

pub text_put : (c : LruCache Place (List ℕ)) (place : Place) (text : List ℕ) (e : Place × List ℕ) →
    Contains (put_entries same_place c place text) e → Contains c.entries e ⊎ (e ≡ (place, text))
text_put c place text e there = ⊎_elim
    (λ old. inl old)
    (λ put. ⊎_elim
    (λ key. inr (pair e place text key put.0))
    (λ found. inr (pair e place text (sym (place_same place e.0 found.2)) put.0))
    put.1)
    (Contains-put_entries same_place c place text e there) where
      pair : (e : Place × List ℕ) (place : Place) (text : List ℕ) → e.0 ≡ place → e.1 ≡ text → e ≡ (place, text)
      pair e place text key value = ap (λ k. (k, e.1)) key ∙ ap (λ v. (place, v)) value

pub text_after : {X Y : Type 0} (r : Result X Y) (old new : LruCache Place (List ℕ)) (place : Place) (text : List ℕ) →
    OnOk r (new ≡ lru_cache (put_entries same_place old place text) old.cap) → OnErr r (new ≡ old) → (e : Place × List ℕ) →
    Contains new.entries e → Contains old.entries e ⊎ (e ≡ (place, text))
text_after (Ok x) old new place text ok err e there =
    text_put old place text e (subst (λ (l : LruCache Place (List ℕ)). Contains l.entries e) ok there)
text_after (Err y) old new place text ok err e there = inl (subst (λ (l : LruCache Place (List ℕ)). Contains l.entries e) err there)
