-- What is left where each of a list of names is inserted in turn: each once, where it stands first.
use Rattle.std.proofs.Common.{◌≡◌, ℕ, Bool, true, false, cond, not, ◌&&◌, ◌||◌, List, [], ◌∷◌, ◌++◌, filter, refl, ap, sym, ◌∙◌, inl, inr, append-nil, append_assoc}
use Rattle.std.specs.List.{list_any}
use Rattle.std.specs.Str.{bytes_eq}
use Rattle.std.specs.Cmp.Lexicographic.{bytes_decides}
use Rattle.std.proofs.lemmas.Bool.{cases_Bool}
use Rattle.std.proofs.lemmas.List.Folds.{list_any-append}
use Rattle.indexmap.specs.IndexSet.{insert_key, insert_all}
use Rattle.gw_names.specs.declared.key.Key.TheVariants.{Named}
use Rattle.gw_names.specs.Keys.{key_eq}
use Rattle.gw_report.specs.Names.{each_once}
use Rattle.gw_report.specs.NameKeys.{as_keys, names_among}

-- the names among keys made of names
pub among_keys : (names : List (List ℕ)) → names_among (as_keys names) ≡ names
among_keys [] = refl
among_keys (name ∷ names) = ap (λ ns. name ∷ ns) (among_keys names)

-- keys made of names are one where the names are
any_named : (name : List ℕ) (names : List (List ℕ)) → list_any (key_eq (Named name)) (as_keys names) ≡ list_any (bytes_eq name) names
any_named name [] = refl
any_named name (n ∷ ns) = ap (λ b. bytes_eq name n || b) (any_named name ns)

pushed : (names : List (List ℕ)) (name : List ℕ) → as_keys names ++ Named name ∷ [] ≡ as_keys (names ++ name ∷ [])
pushed [] name = refl
pushed (n ∷ ns) name = ap (λ ks. Named n ∷ ks) (pushed ns name)

one_named : (names : List (List ℕ)) (name : List ℕ) → insert_key key_eq (as_keys names) (Named name) ≡ as_keys (insert_key bytes_eq names name)
one_named names name =
    ap (λ b. cond b (as_keys names) (as_keys names ++ Named name ∷ [])) (any_named name names) ∙
    elim (list_any (bytes_eq name) names) as (λ b. cond b (as_keys names) (as_keys names ++ Named name ∷ []) ≡ as_keys (cond b names (names ++ name ∷ [])))
    [ true ↦ refl | false ↦ pushed names name ]

all_named : (names more : List (List ℕ)) → insert_all key_eq (as_keys names) (as_keys more) ≡ as_keys (insert_all bytes_eq names more)
all_named names [] = refl
all_named names (m ∷ ms) = ap (λ ks. insert_all key_eq ks (as_keys ms)) (one_named names m) ∙ all_named (insert_key bytes_eq names m) ms

-- two filters are one
filter_both : {X : Type 0} (p q r : X → Bool) → ((x : X) → (q x && p x) ≡ r x) → (xs : List X) → filter p (filter q xs) ≡ filter r xs
filter_both p q r h [] = refl
filter_both p q r h (x ∷ xs) =
    let rest = filter_both p q r h xs in
    let both = h x in
    elim (cases_Bool (q x)) [
      | inl e ↦ let here = rw e at both in rw (e, here, rest) refl
      | inr e ↦ let here = rw e at both in rw (e, ← here, rest) refl
    ]

-- a name is not among names
abbrev absent : List (List ℕ) → List ℕ → Bool
absent names name = not (list_any (bytes_eq name) names)

filter_all : (xs : List (List ℕ)) → filter (absent []) xs ≡ xs
filter_all [] = refl
filter_all (x ∷ xs) = ap (λ ys. x ∷ ys) (filter_all xs)

old_name : (names : List (List ℕ)) (m : List ℕ) → list_any (bytes_eq m) names ≡ true →
    (x : List ℕ) → (not (bytes_eq x m) && absent names x) ≡ absent names x
old_name names m there x = elim (cases_Bool (bytes_eq x m)) [
  | inl e ↦
      let same : m ≡ x = sym ((bytes_decides x m).0 e) in
      let here : list_any (bytes_eq x) names ≡ true = ap (λ n. list_any (bytes_eq n) names) (sym same) ∙ there in
      rw (e, here) refl
  | inr e ↦ rw e refl
]

not_either : (a b : Bool) → (not b && not a) ≡ not (a || (b || false))
not_either true true = refl
not_either true false = refl
not_either false true = refl
not_either false false = refl

new_name : (names : List (List ℕ)) (m x : List ℕ) → (not (bytes_eq x m) && absent names x) ≡ absent (names ++ m ∷ []) x
new_name names m x = not_either (list_any (bytes_eq x) names) (bytes_eq x m) ∙ ap not (sym (list_any-append (bytes_eq x) names (m ∷ [])))

inserted : (names more : List (List ℕ)) → insert_all bytes_eq names more ≡ names ++ filter (absent names) (each_once more)
inserted names [] = sym (append-nil names)
inserted names (m ∷ ms) =
    let others = λ (other : List ℕ). not (bytes_eq other m) in
    let rest = each_once ms in
    elim (cases_Bool (list_any (bytes_eq m) names)) [
      | inl e ↦
          let kept = filter_both (absent names) others (absent names) (old_name names m e) rest in
          rw (e, kept) (inserted names ms)
      | inr e ↦
          let both = names ++ m ∷ [] in
          let kept = filter_both (absent names) others (absent both) (new_name names m) rest in
          rw (e, kept) (inserted both ms ∙ append_assoc names (m ∷ []) (filter (absent both) rest))
    ]

pub kept_once : (names : List (List ℕ)) → insert_all key_eq [] (as_keys names) ≡ as_keys (each_once names)
kept_once names = all_named [] names ∙ ap as_keys (inserted [] names ∙ filter_all (each_once names))
