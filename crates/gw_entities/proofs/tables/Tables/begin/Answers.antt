use Rattle.std.proofs.Common.{◌≡◌, ℤ, ◌++◌, ◌∷◌, [], List, None, cond, sym, ap, ◌∙◌, arith, rules}
use Rattle.std.proofs.lemmas.List.{length-append}
use Rattle.std.specs.List.{zip}
use Rattle.indexmap.specs.IndexSet.{insert_key}
use Rattle.gw_names.specs.Keys.{key_eq}
use Rattle.gw_meaning.specs.Tables.{value_of}
use Rattle.gw_entities.proofs.Entries.{pushed_is}
use Rattle.gw_entities.proofs.Keyed.{no_key_beside, zip_more, apart_beside}
use Rattle.gw_entities.proofs.tables.Tables.begin.Goals as goal

-- the keys and the values after it
record Begun (c : goal.After-push_reserved) : Type 0 where
  keys : c.insert.new.self.keys ≡ c.self.inside.keys.keys ++ c.args.key.now ∷ []
  values : c.push_reserved.new.self.items ≡ c.self.inside.values.items ++ (c.args.value ∷ []) ∷ []
  none : value_of (zip c.self.inside.keys.keys c.self.inside.values.items) c.args.key.now ≡ None

begun : (c : goal.After-push_reserved) → Begun c
begun c =
    let ks = c.self.inside.keys.keys in
    let vs = c.self.inside.values.items in
    let key = c.args.key.now in
    let (long, apart) = c.self.invariant in
    let none : value_of (zip ks vs) key ≡ None = rw (← c.self.view_is) at c.requires in
    let same : c.in_ok-own.own ≡ key = search rules in
    let first : c.push.new.self ≡ c.args.value ∷ [] = c.in_ok-push.ensures.ok ∙ ap (λ l. l ++ c.args.value ∷ []) c.new-values.ensures in
    record {
      keys =
          c.insert.ensures.keys ∙ (ap (λ l. insert_key key_eq l c.in_ok-own.own) c.reserve.ensures.keys ∙
          (ap (λ k. insert_key key_eq ks k) same ∙ ap (λ b. cond b ks (ks ++ key ∷ [])) (no_key_beside ks vs key (omega (arith, long)) none)));
      values = c.push_reserved.ensures.items ∙ (ap (λ l. l ++ c.push.new.self ∷ []) c.reserve-2.ensures.items ∙ ap (λ (l : List ℤ). vs ++ l ∷ []) first);
      none = none;
    }

pub invariant_of-self-2 : goal.invariant_of-self-2
invariant_of-self-2 c =
    let ks = c.self.inside.keys.keys in
    let vs = c.self.inside.values.items in
    let key = c.args.key.now in
    let values : List ℤ = c.args.value ∷ [] in
    let (long, apart) = c.self.invariant in
    let b = begun c in
    rw (b.keys, b.values)
    (omega (arith, length-append vs (values ∷ []), length-append ks (key ∷ []), long), apart_beside ks vs key values apart (omega (arith, long)) b.none)

pub returns-clause-ok : goal.returns-clause-ok
returns-clause-ok c =
    let ks = c.self.inside.keys.keys in
    let vs = c.self.inside.values.items in
    let key = c.args.key.now in
    let values : List ℤ = c.args.value ∷ [] in
    let (long, apart) = c.self.invariant in
    let b = begun c in
    rw (← c.self.view_is, b.keys, b.values, b.none) (zip_more ks vs key values long ∙ sym (pushed_is (zip ks vs) key values b.none))
