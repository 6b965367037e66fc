-- Laws of transactions with their times: the least time, who is due and who stays.
use Rattle.std.proofs.Common.{◌≡◌, ◌≢◌, ℕ, zero, suc, ◌+◌, ◌<◌, ◌≤◌, Bool, cond, arith, true, false, not, List, [], ◌∷◌, Option, None, Some, ◌++◌, length, append-nil, take, refl, ap, ◌∙◌, filter, min, inl, inr}
use Rattle.std.specs.Prelude.{nat_le, nat_lt}
use Rattle.std.proofs.lemmas.Bool.{cases_eq}
use Rattle.std.proofs.lemmas.Bool.Decides.{nat_tests}
use Rattle.std.proofs.lemmas.List.Elements.{filter-append}
use Rattle.gw_meaning.specs.declared.transaction.Transaction.{Transaction}
use Rattle.gw_meaning.specs.declared.transaction.Event.{Event}
use Rattle.gw_meaning.specs.Changes.{lined_up, all_lined_up, due, is_due}
use Rattle.gw_meaning.specs.Step.{least_time, sooner}
use Rattle.gw_meaning.proofs.Chains.{length_lined}
use Rattle.gw_chains.specs.Blocks.{IsNoneBefore, since, after}

-- the sooner of two times, where there are any
abbrev pub soonest : Option ℕ → Option ℕ → Option ℕ
soonest None other = other
soonest (Some time) other = sooner time other

-- the least time
sooner_swap : (a b : ℕ) (o : Option ℕ) → sooner a (sooner b o) ≡ sooner b (sooner a o)
sooner_swap a b None = let e : min a b ≡ min b a = grind (arith, nat_tests) in ap (λ n. Some n) e
sooner_swap a b (Some c) = let e : min a (min b c) ≡ min b (min a c) = grind (arith, nat_tests) in ap (λ n. Some n) e

sooner_both : (a : ℕ) (o p : Option ℕ) → sooner a (soonest o p) ≡ soonest (sooner a o) p
sooner_both a None p = refl
sooner_both a (Some b) None = refl
sooner_both a (Some b) (Some c) = let e : min a (min b c) ≡ min (min a b) c = grind (arith, nat_tests) in ap (λ n. Some n) e

pub least_put : (es : List Event) (e : Event) → least_time (es ++ e ∷ []) ≡ sooner e.time (least_time es)
least_put [] e = refl
least_put (x ∷ xs) e = ap (sooner x.time) (least_put xs e) ∙ sooner_swap x.time e.time (least_time xs)

pub least_append : (xs ys : List Event) → least_time (xs ++ ys) ≡ soonest (least_time xs) (least_time ys)
least_append [] ys = refl
least_append (x ∷ xs) ys = ap (sooner x.time) (least_append xs ys) ∙ sooner_both x.time (least_time xs) (least_time ys)

-- those that are due
pub due_append : (t : ℕ) (xs ys : List Event) → due t (xs ++ ys) ≡ due t xs ++ due t ys
due_append t [] ys = refl
due_append t (x ∷ xs) ys = go (is_due t x) refl (due_append t xs ys) where
  go : (b : Bool) → is_due t x ≡ b → due t (xs ++ ys) ≡ due t xs ++ due t ys → due t (x ∷ xs ++ ys) ≡ due t (x ∷ xs) ++ due t ys
  go true h rest = rw h (ap (λ zs. x.transaction ∷ zs) rest)
  go false h rest = rw h rest

pub all_lined_append : (xs ys chain : List Transaction) → all_lined_up (xs ++ ys) chain ≡ all_lined_up ys (all_lined_up xs chain)
all_lined_append [] ys chain = refl
all_lined_append (x ∷ xs) ys chain = all_lined_append xs ys (lined_up x chain)

-- one more is gone through
module _ (es : List Event) (i : ℕ) (e : Event) (more : take (i + 1) es ≡ take i es ++ e ∷ []) where
  pub one_kept : (p : Event → Bool) → p e ≡ true → filter p (take (i + 1) es) ≡ filter p (take i es) ++ e ∷ []
  one_kept p is = ap (filter p) more ∙ (filter-append p (take i es) (e ∷ []) ∙ rw is refl)

  pub one_left : (p : Event → Bool) → p e ≡ false → filter p (take (i + 1) es) ≡ filter p (take i es)
  one_left p is = ap (filter p) more ∙ (filter-append p (take i es) (e ∷ []) ∙ rw is (append-nil (filter p (take i es))))

  pub one_due : (t : ℕ) → e.time ≡ t → due t (take (i + 1) es) ≡ due t (take i es) ++ e.transaction ∷ []
  one_due t same =
      let now : is_due t e ≡ true = grind (arith, nat_tests) in
      ap (due t) more ∙ (due_append t (take i es) (e ∷ []) ∙ rw now refl)

  pub none_more_due : (t : ℕ) → e.time ≢ t → due t (take (i + 1) es) ≡ due t (take i es)
  none_more_due t other =
      let later : is_due t e ≡ false = grind (arith, nat_tests) in
      ap (due t) more ∙ (due_append t (take i es) (e ∷ []) ∙ rw later (append-nil (due t (take i es))))

pub due_within : (t i : ℕ) (es : List Event) → length (due t (take i es)) ≤ length (due t es)
due_within t zero es = omega arith
due_within t (suc i) [] = omega arith
due_within t (suc i) (e ∷ es) = go (is_due t e) refl (due_within t i es) where
  go : (b : Bool) → is_due t e ≡ b → length (due t (take i es)) ≤ length (due t es) →
      length (due t (take (suc i) (e ∷ es))) ≤ length (due t (e ∷ es))
  go true now rest = rw now (omega (arith, rest))
  go false later rest = rw later rest

-- how many there are
pub length_all_lined : (xs chain : List Transaction) → length (all_lined_up xs chain) ≡ length xs + length chain
length_all_lined [] chain = omega arith
length_all_lined (x ∷ xs) chain = omega (arith, length_all_lined xs (lined_up x chain), length_lined x chain)

pub kept_and_due : (t : ℕ) (es : List Event) → length (filter (λ e. not (is_due t e)) es) + length (due t es) ≡ length es
kept_and_due t [] = refl
kept_and_due t (e ∷ es) = go (is_due t e) refl (kept_and_due t es) where
  go : (b : Bool) → is_due t e ≡ b → length (filter (λ e. not (is_due t e)) es) + length (due t es) ≡ length es →
      length (filter (λ e. not (is_due t e)) (e ∷ es)) + length (due t (e ∷ es)) ≡ suc (length es)
  go true h rest = rw h (omega (arith, rest))
  go false h rest = rw h (omega (arith, rest))

pub none_leaves : (t : ℕ) (es : List Event) → due t es ≡ [] → filter (λ e. not (is_due t e)) es ≡ es
none_leaves t [] none = refl
none_leaves t (e ∷ es) none = go (is_due t e) refl none (λ h. none_leaves t es h) where
  go : (b : Bool) → is_due t e ≡ b → due t (e ∷ es) ≡ [] → (due t es ≡ [] → filter (λ e. not (is_due t e)) es ≡ es) →
      filter (λ e. not (is_due t e)) (e ∷ es) ≡ e ∷ es
  go true h none rest = let some : e.transaction ∷ due t es ≡ [] = rw h at none in grind arith
  go false h none rest = let others : due t es ≡ [] = rw h at none in rw h (ap (λ zs. e ∷ zs) (rest others))

pub due_leave : (t : ℕ) (es : List Event) → due t (filter (λ e. not (is_due t e)) es) ≡ []
due_leave t [] = refl
due_leave t (e ∷ es) = go (is_due t e) refl (due_leave t es) where
  go : (b : Bool) → is_due t e ≡ b → due t (filter (λ e. not (is_due t e)) es) ≡ [] → due t (filter (λ e. not (is_due t e)) (e ∷ es)) ≡ []
  go true h rest = rw h rest
  go false h rest = rw (h, h) rest

-- none is before the least time
pub none_without : (t : ℕ) (es : List Event) → least_time es ≡ None → IsNoneBefore t es
none_without t [] is = tt
none_without t (e ∷ es) is = absurd (go (least_time es) is) where
  go : (o : Option ℕ) → sooner e.time o ≡ None → ⊥
  go None is = cc
  go (Some m) is = cc

none_before_le : (t n : ℕ) (es : List Event) → least_time es ≡ Some n → t ≤ n → IsNoneBefore t es
none_before_le t n [] is le = tt
none_before_le t n (e ∷ es) is le = go (least_time es) refl is (λ m there low. none_before_le t m es there low) where
  go : (o : Option ℕ) → least_time es ≡ o → sooner e.time o ≡ Some n → ((m : ℕ) → least_time es ≡ Some m → t ≤ m → IsNoneBefore t es) →
      IsNoneBefore t (e ∷ es)
  go None none is rest = let same : e.time ≡ n = cc in (omega (arith, same, le), none_without t es none)
  go (Some m) there is rest =
      let least : min e.time m ≡ n = cc in
      (omega (arith, least, le), rest m there (omega (arith, least, le)))

pub none_before : (t : ℕ) (es : List Event) → least_time es ≡ Some t → IsNoneBefore t es
none_before t es is = none_before_le t t es is (omega arith)

pub before_front : (t : ℕ) (xs ys : List Event) → IsNoneBefore t (xs ++ ys) → IsNoneBefore t xs
before_front t [] ys h = tt
before_front t (x ∷ xs) ys h = (h.0, before_front t xs ys h.1)

pub before_back : (t : ℕ) (xs ys : List Event) → IsNoneBefore t (xs ++ ys) → IsNoneBefore t ys
before_back t [] ys h = h
before_back t (x ∷ xs) ys h = before_back t xs ys h.1

pub before_both : (t : ℕ) (xs ys : List Event) → IsNoneBefore t xs → IsNoneBefore t ys → IsNoneBefore t (xs ++ ys)
before_both t [] ys front back = back
before_both t (x ∷ xs) ys front back = (front.0, before_both t xs ys front.1 back)

pub before_stay : (t : ℕ) (es : List Event) → IsNoneBefore t es → IsNoneBefore t (filter (λ e. not (is_due t e)) es)
before_stay t [] h = tt
before_stay t (e ∷ es) h = go (is_due t e) refl (before_stay t es h.1) where
  go : (b : Bool) → is_due t e ≡ b → IsNoneBefore t (filter (λ e. not (is_due t e)) es) → IsNoneBefore t (filter (λ e. not (is_due t e)) (e ∷ es))
  go true now rest = rw now rest
  go false later rest = rw later (h.0, rest)

-- where none is before a time, and it is not the least time, none is due
pub none_due : (t : ℕ) (es : List Event) → IsNoneBefore t es → least_time es ≢ Some t → due t es ≡ []
none_due t [] h other = refl
none_due t (e ∷ es) h other =
    let later : is_due t e ≡ false = elim (cases_eq e.time t) [
      | inl same ↦ absurd (other (first e.time same (least_time es) (least_le t es h.1)))
      | inr apart ↦ grind (arith, nat_tests)
    ] in
    rw later (none_due t es h.1 (λ is. other (rest e.time (least_time es) is h.0)))
  where
    IsWithin : ℕ → Option ℕ → Type 0
    IsWithin t None = Unit {0}
    IsWithin t (Some m) = t ≤ m

    within_sooner : (t a : ℕ) (o : Option ℕ) → t ≤ a → IsWithin t o → IsWithin t (sooner a o)
    within_sooner t a None le h = le
    within_sooner t a (Some m) le h = omega (arith, le, h)

    least_le : (t : ℕ) (es : List Event) → IsNoneBefore t es → IsWithin t (least_time es)
    least_le t [] h = tt
    least_le t (e ∷ es) h = within_sooner t e.time (least_time es) h.0 (least_le t es h.1)

    first : (a : ℕ) → a ≡ t → (o : Option ℕ) → IsWithin t o → sooner a o ≡ Some t
    first a same None h = ap (λ n. Some n) same
    first a same (Some m) h = let e : min a m ≡ t = grind (arith, nat_tests) in ap (λ n. Some n) e

    rest : (a : ℕ) (o : Option ℕ) → o ≡ Some t → t ≤ a → sooner a o ≡ Some t
    rest a None is le = absurd cc
    rest a (Some m) is le =
        let same : m ≡ t = cc in
        let e : min a m ≡ t = grind (arith, nat_tests) in
        ap (λ n. Some n) e

-- those from a time on, and those after it
pub since_all : (t : ℕ) (es : List Event) → IsNoneBefore t es → since t es ≡ es
since_all t [] h = refl
since_all t (e ∷ es) h =
    let le : t ≤ e.time = h.0 in
    let there : nat_le t e.time ≡ true = grind (arith, nat_tests) in
    rw there (ap (λ zs. e ∷ zs) (since_all t es h.1))

pub due_since : (t : ℕ) (es : List Event) → due t (since t es) ≡ due t es
due_since t [] = refl
due_since t (e ∷ es) = go (nat_le t e.time) refl (due_since t es) where
  go : (b : Bool) → nat_le t e.time ≡ b → due t (since t es) ≡ due t es → due t (since t (e ∷ es)) ≡ due t (e ∷ es)
  go true there rest = rw there (ap (λ xs. cond (is_due t e) (e.transaction ∷ xs) xs) rest)
  go false gone rest = let other : is_due t e ≡ false = grind (arith, nat_tests) in rw (gone, other) rest

pub stay_since : (t : ℕ) (es : List Event) → filter (λ e. not (is_due t e)) (since t es) ≡ after t es
stay_since t [] = refl
stay_since t (e ∷ es) = go (nat_le t e.time) (nat_lt t e.time) refl refl (stay_since t es) where
  go : (b c : Bool) → nat_le t e.time ≡ b → nat_lt t e.time ≡ c → filter (λ e. not (is_due t e)) (since t es) ≡ after t es →
      filter (λ e. not (is_due t e)) (since t (e ∷ es)) ≡ after t (e ∷ es)
  go true true there later rest =
      let other : is_due t e ≡ false = grind (arith, nat_tests) in
      rw (there, later, other) (ap (λ zs. e ∷ zs) rest)
  go true false there later rest = let now : is_due t e ≡ true = grind (arith, nat_tests) in rw (there, later, now) rest
  go false true gone later rest = absurd (grind (arith, nat_tests))
  go false false gone later rest = rw (gone, later) rest

pub since_after : (t m : ℕ) (es : List Event) → t < m → IsNoneBefore m (after t es) → since m es ≡ after t es
since_after t m [] lt h = refl
since_after t m (e ∷ es) lt h = go (nat_lt t e.time) refl h (since_after t m es lt) where
  go : (b : Bool) → nat_lt t e.time ≡ b → IsNoneBefore m (after t (e ∷ es)) → (IsNoneBefore m (after t es) → since m es ≡ after t es) →
      since m (e ∷ es) ≡ after t (e ∷ es)
  go true later h rest =
      let both : IsNoneBefore m (e ∷ after t es) = rw later at h in
      let le : m ≤ e.time = both.0 in
      let there : nat_le m e.time ≡ true = grind (arith, nat_tests) in
      rw (later, there) (ap (λ zs. e ∷ zs) (rest both.1))
  go false later h rest =
      let others : IsNoneBefore m (after t es) = rw later at h in
      let gone : nat_le m e.time ≡ false = grind (arith, nat_tests) in
      rw (later, gone) (rest others)

-- those who stay tell whether one comes before a time
pub before_stays : (t : ℕ) (es : List Event) → IsNoneBefore t es → IsNoneBefore t (filter (λ e. not (is_due t e)) es)
before_stays t [] h = tt
before_stays t (e ∷ es) h = go (is_due t e) refl (before_stays t es h.1) where
  go : (b : Bool) → is_due t e ≡ b → IsNoneBefore t (filter (λ e. not (is_due t e)) es) →
      IsNoneBefore t (filter (λ e. not (is_due t e)) (e ∷ es))
  go true now rest = rw now rest
  go false later rest = rw later (h.0, rest)

pub before_all : (t : ℕ) (es : List Event) → IsNoneBefore t (filter (λ e. not (is_due t e)) es) → IsNoneBefore t es
before_all t [] h = tt
before_all t (e ∷ es) h = go (is_due t e) refl h (λ rest. before_all t es rest) where
  go : (b : Bool) → is_due t e ≡ b → IsNoneBefore t (filter (λ e. not (is_due t e)) (e ∷ es)) →
      (IsNoneBefore t (filter (λ e. not (is_due t e)) es) → IsNoneBefore t es) → IsNoneBefore t (e ∷ es)
  go true now h all = let rest : IsNoneBefore t (filter (λ e. not (is_due t e)) es) = rw now at h in (grind (arith, nat_tests, now), all rest)
  go false later h all =
      let rest : IsNoneBefore t (e ∷ filter (λ e. not (is_due t e)) es) = rw later at h in (rest.0, all rest.1)
