-- What leaving and entering does to the content of each block, and that it changes no entries and no content elsewhere.
use Rattle.std.proofs.Common.{◌≡◌, ℕ, ◌+◌, ◌-◌, ◌<◌, ◌^◌, nat_eq, false, cond, List, [], ◌∷◌, Option, Some, None, refl, ap, sym, ◌∙◌, arith, inl, inr}
use Rattle.std.proofs.lemmas.Bool.{cases_eq, eq-eqb, ne_eqb, false≢true}
use Rattle.gw_meaning.specs.declared.transaction.Count.{Count}
use Rattle.gw_meaning.specs.declared.moves.Fate.{Fate}
use Rattle.gw_meaning.specs.declared.moves.Fate.TheVariants as fates
use Rattle.gw_meaning.specs.Machine.{count_in, count_at, or_no_count, with_count, raised}
use Rattle.gw_meaning.specs.Changes.{left_at, left, content_behind, entered, crossed, made_one, stood}
use Rattle.gw_laws.proofs.Crowd.{one, remains, remains_less}

-- the count that was set, and the others
set_here : (cs : List (ℕ × Count)) (q : ℕ) (c : Count) → count_in (with_count cs q c) q ≡ Some c
set_here [] q c = rw (eq-eqb q q refl) refl
set_here (d ∷ ds) q c =
    elim (cases_eq q d.0) [
      | inl same ↦ let e = eq-eqb q d.0 same in rw e (rw e refl)
      | inr apart ↦ let e = ne_eqb q d.0 apart in rw e (rw e (set_here ds q c))
    ]

set_there : (cs : List (ℕ × Count)) (q p : ℕ) (c : Count) → (q ≡ p → ⊥) → count_in (with_count cs q c) p ≡ count_in cs p
set_there [] q p c apart = rw (ne_eqb p q (λ same. apart (sym same))) refl
set_there (d ∷ ds) q p c apart =
    elim (cases_eq q d.0) [
      | inl same ↦ rw (eq-eqb q d.0 same, ne_eqb p d.0 (λ is. apart (same ∙ sym is))) refl
      | inr other ↦ rw (ne_eqb q d.0 other) (ap (λ o. cond (nat_eq p d.0) (Some d.1) o) (set_there ds q p c apart))
    ]

abbrev pub content : List (ℕ × Count) → ℕ → ℕ
content cs p = (count_at cs p).content

content_here : (cs : List (ℕ × Count)) (q : ℕ) (c : Count) → content (with_count cs q c) q ≡ c.content
content_here cs q c = ap (λ o. (or_no_count o).content) (set_here cs q c)

content_there : (cs : List (ℕ × Count)) (q p : ℕ) (c : Count) → (q ≡ p → ⊥) → content (with_count cs q c) p ≡ content cs p
content_there cs q p c apart = ap (λ o. (or_no_count o).content) (set_there cs q p c apart)

-- a count set to one of the same content
content_same : (cs : List (ℕ × Count)) (q p : ℕ) (c : Count) → c.content ≡ content cs q → content (with_count cs q c) p ≡ content cs p
content_same cs q p c same =
    elim (cases_eq q p) [
      | inl here ↦ rw (← here) (content_here cs q c ∙ same)
      | inr apart ↦ content_there cs q p c apart
    ]

left_here : (o : Option Count) (cs : List (ℕ × Count)) (q : ℕ) → count_in cs q ≡ o → content (left_at o cs q) q ≡ content cs q - 1
left_here None cs q is = let none : content cs q ≡ 0 = ap (λ o. (or_no_count o).content) is in omega arith
left_here (Some c) cs q is = content_here cs q (record c { content = c.content - 1 }) ∙ sym (ap (λ o. (or_no_count o).content - 1) is)

left_there : (o : Option Count) (cs : List (ℕ × Count)) (q p : ℕ) → (q ≡ p → ⊥) → content (left_at o cs q) p ≡ content cs p
left_there None cs q p apart = refl
left_there (Some c) cs q p apart = content_there cs q p (record c { content = c.content - 1 }) apart

content_left : (cs : List (ℕ × Count)) (q p : ℕ) → content (left cs q) p ≡ content cs p - one (nat_eq q p)
content_left cs q p =
    elim (cases_eq q p) [
      | inl here ↦ rw (eq-eqb q p here) (rw (← here) (left_here (count_in cs q) cs q refl))
      | inr apart ↦ let same = left_there (count_in cs q) cs q p apart in rw (ne_eqb q p apart) (omega arith)
    ]

behind_is : (fate : Fate) (n : ℕ) → n < 2 ^ 64 - 1 → content_behind fate n ≡ n + remains fate 1
behind_is fates.Active n room = omega arith
behind_is fate n room = omega arith

content_entered : (fate : Fate) (cs : List (ℕ × Count)) (q p : ℕ) → content cs p < 2 ^ 64 - 1 →
    content (entered fate cs q) p ≡ content cs p + remains fate (one (nat_eq q p))
content_entered fate cs q p room =
    let new : Count = record (count_at cs q) { entries = raised (count_at cs q).entries; content = content_behind fate (content cs q) } in
    elim (cases_eq q p) [
      | inl here ↦
          let fits : content cs q < 2 ^ 64 - 1 = rw here room in
          rw (eq-eqb q p here) (rw (← here) (content_here cs q new ∙ behind_is fate (content cs q) fits))
      | inr apart ↦
          let same = content_there cs q p new apart in
          let none = remains_less fate 0 in
          rw (ne_eqb q p apart) (omega arith)
    ]

-- from a block into another: others stand as they stood
pub content_crossed : (fate : Fate) (cs : List (ℕ × Count)) (from to p rest : ℕ) → content cs p ≡ one (nat_eq from p) + rest → rest < 2 ^ 64 - 1 →
    content (crossed fate cs from to) p ≡ remains fate (one (nat_eq to p)) + rest
content_crossed fate cs from to p rest is room =
    let less = content_left cs from p in
    let was : content (left cs from) p ≡ rest = omega arith in
    let more = content_entered fate (left cs from) to p (omega arith) in
    omega arith

pub content_made : (cs : List (ℕ × Count)) (q p : ℕ) → content (made_one cs q) p ≡ content cs p
content_made cs q p = content_same cs q p _ refl

-- one more stands in a block
pub content_stood : (cs : List (ℕ × Count)) (q p : ℕ) → content cs p < 2 ^ 64 - 1 → content (stood cs q) p ≡ content cs p + one (nat_eq q p)
content_stood cs q p room =
    let new : Count = record (count_at cs q) { content = raised (content cs q) } in
    elim (cases_eq q p) [
      | inl here ↦
          let fits : content cs q < 2 ^ 64 - 1 = rw here room in
          rw (eq-eqb q p here) (rw (← here) (content_here cs q new ∙ behind_is fates.Active (content cs q) fits))
      | inr apart ↦
          let same = content_there cs q p new apart in
          rw (ne_eqb q p apart) (omega arith)
    ]

-- the entries of a block, where one leaves another for it, and where one more stands in it
set_entries : (cs : List (ℕ × Count)) (q p : ℕ) (c : Count) → c.entries ≡ (count_at cs q).entries →
    (count_at (with_count cs q c) p).entries ≡ (count_at cs p).entries
set_entries cs q p c same =
    elim (cases_eq q p) [
      | inl here ↦ rw (← here) (ap (λ o. (or_no_count o).entries) (set_here cs q c) ∙ same)
      | inr apart ↦ ap (λ o. (or_no_count o).entries) (set_there cs q p c apart)
    ]

entries_left_at : (o : Option Count) (cs : List (ℕ × Count)) (q p : ℕ) → count_in cs q ≡ o →
    (count_at (left_at o cs q) p).entries ≡ (count_at cs p).entries
entries_left_at None cs q p is = refl
entries_left_at (Some c) cs q p is = set_entries cs q p (record c { content = c.content - 1 }) (sym (ap (λ o. (or_no_count o).entries) is))

entries_left : (cs : List (ℕ × Count)) (q p : ℕ) → (count_at (left cs q) p).entries ≡ (count_at cs p).entries
entries_left cs q p = entries_left_at (count_in cs q) cs q p refl

pub entries_crossed_here : (fate : Fate) (cs : List (ℕ × Count)) (from to : ℕ) →
    (count_at (crossed fate cs from to) to).entries ≡ raised (count_at cs to).entries
entries_crossed_here fate cs from to =
    ap (λ o. (or_no_count o).entries) (set_here (left cs from) to _) ∙ ap raised (entries_left cs from to)

pub entries_crossed_there : (fate : Fate) (cs : List (ℕ × Count)) (from to p : ℕ) → (to ≡ p → ⊥) →
    (count_at (crossed fate cs from to) p).entries ≡ (count_at cs p).entries
entries_crossed_there fate cs from to p apart =
    ap (λ o. (or_no_count o).entries) (set_there (left cs from) to p _ apart) ∙ entries_left cs from p

pub entries_stood : (cs : List (ℕ × Count)) (q p : ℕ) → (count_at (stood cs q) p).entries ≡ (count_at cs p).entries
entries_stood cs q p = set_entries cs q p _ refl

-- ---- the entries and the content of a block

abbrev pub tally : List (ℕ × Count) → ℕ → ℕ × ℕ
tally cs p = ((count_at cs p).entries, (count_at cs p).content)

count_there : (o : Option Count) (cs : List (ℕ × Count)) (q p : ℕ) → (q ≡ p → ⊥) → count_in (left_at o cs q) p ≡ count_in cs p
count_there None cs q p apart = refl
count_there (Some c) cs q p apart = set_there cs q p (record c { content = c.content - 1 }) apart

pub tally_elsewhere : (fate : Fate) (cs : List (ℕ × Count)) (from to p : ℕ) → nat_eq p from ≡ false → nat_eq p to ≡ false →
    tally (crossed fate cs from to) p ≡ tally cs p
tally_elsewhere fate cs from to p left_apart apart =
    ap (λ o. ((or_no_count o).entries, (or_no_count o).content))
    (set_there (left cs from) to p _ (λ same. differs p to (sym same) apart)
    ∙ count_there (count_in cs from) cs from p (λ same. differs p from (sym same) left_apart)) where
      differs : (a b : ℕ) → a ≡ b → nat_eq a b ≡ false → ⊥
      differs a b same apart = false≢true (sym apart ∙ eq-eqb a b same)

pub tally_stood : (cs : List (ℕ × Count)) (q p : ℕ) → nat_eq p q ≡ false → tally (stood cs q) p ≡ tally cs p
tally_stood cs q p apart =
    ap (λ o. ((or_no_count o).entries, (or_no_count o).content))
    (set_there cs q p _ (λ same. false≢true (sym apart ∙ eq-eqb p q (sym same))))

pub tally_made : (cs : List (ℕ × Count)) (q p : ℕ) → tally (made_one cs q) p ≡ tally cs p
tally_made cs q p =
    let c : Count = record (count_at cs q) { made = raised (count_at cs q).made } in
    elim (cases_eq q p) [
      | inl here ↦ rw (← here) (ap (λ o. ((or_no_count o).entries, (or_no_count o).content)) (set_here cs q c))
      | inr apart ↦ ap (λ o. ((or_no_count o).entries, (or_no_count o).content)) (set_there cs q p c apart)
    ]
