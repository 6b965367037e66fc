-- A line is cut at its first blank, and what has no blank is not cut.
use Rattle.std.proofs.Common.{◌≡◌, ℕ, suc, ◌+◌, ◌==◌, Bool, true, false, cond, List, [], ◌∷◌, ◌++◌, length, Option, Some, None, option_map, refl, ap, sym, subst, ◌∙◌, arith}
use Rattle.std.specs.Prelude.{position, nat_lt}
use Rattle.std.specs.List.{list_all, position_or_len, AllByRecursion}
use Rattle.std.proofs.lemmas.Bool.{eqb-true}
use Rattle.std.proofs.lemmas.Bool.Decides.{nat_tests}
use Rattle.std.proofs.lemmas.List.Elements.{All-weaker, recursion_from_All}
use Rattle.std.proofs.lemmas.List.Sums.{AllPass-from_list_all}
use Rattle.gw_request.specs.Words.{is_blank, cut_at, cut}

-- a line with one byte more in front, which is no blank, is cut one place further
one_further : (x : ℕ) (line : List ℕ) (o : Option ℕ) → cut_at (x ∷ line) (option_map suc o) ≡ option_map (λ p. (x ∷ p.0, p.1)) (cut_at line o)
one_further x line None = refl
one_further x line (Some i) = let e : suc i + 1 ≡ suc (i + 1) = omega arith in rw e refl

less_further : (a n : ℕ) → nat_lt (1 + a) (suc n) ≡ nat_lt a n
less_further a n = grind (arith, nat_tests)

first_less : (n : ℕ) → nat_lt 0 (suc n) ≡ true
first_less n = grind (arith, nat_tests)

index_further : (a n : ℕ) → cond (nat_lt (1 + a) (suc n)) (Some (1 + a)) None ≡ option_map suc (cond (nat_lt a n) (Some a) None)
index_further a n = let e : 1 + a ≡ suc a = omega arith in rw (less_further a n) (go (nat_lt a n) (1 + a) e) where
  go : (b : Bool) (k : ℕ) → k ≡ suc a → cond b (Some k) None ≡ option_map suc (cond b (Some a) None)
  go true k e = ap (λ (i : ℕ). Some i) e
  go false k e = refl

blank_further : (x : ℕ) (line : List ℕ) → is_blank x ≡ false → position is_blank (x ∷ line) ≡ option_map suc (position is_blank line)
blank_further x line h = rw h (index_further (position_or_len is_blank line) (length line))

abbrev with_front : ℕ → Option (List ℕ × List ℕ) → Option (List ℕ × List ℕ)
with_front x o = option_map (λ p. (x ∷ p.0, p.1)) o

cut_further : (x : ℕ) (line : List ℕ) → is_blank x ≡ false → cut (x ∷ line) ≡ with_front x (cut line)
cut_further x line h = ap (cut_at (x ∷ line)) (blank_further x line h) ∙ one_further x line (position is_blank line)

cut_here : (x : ℕ) (line : List ℕ) → is_blank x ≡ true → cut (x ∷ line) ≡ Some ([], line)
cut_here x line h = rw (h, first_less (length line)) refl

-- no blank among bytes
abbrev pub Solid : List ℕ → Type 0
Solid bytes = AllByRecursion (λ b. is_blank b ≡ false) bytes

-- what a line is cut into
pub record IsCut (line : List ℕ) (p : List ℕ × List ℕ) : Type 0 where
  pub blank : ℕ
  pub is : is_blank blank ≡ true
  pub whole : line ≡ p.0 ++ blank ∷ p.1
  pub solid : Solid p.0

same_cut : (o p : List ℕ × List ℕ) → Some o ≡ Some p → o ≡ p
same_cut o p h = cc

found_further : (x : ℕ) (line : List ℕ) (o : Option (List ℕ × List ℕ)) (p : List ℕ × List ℕ) → is_blank x ≡ false →
    ((q : List ℕ × List ℕ) → o ≡ Some q → IsCut line q) →
    with_front x o ≡ Some p → IsCut (x ∷ line) p
found_further x line None p out on h = absurd cc
found_further x line (Some q) p out on h =
    let c = on q refl in
    subst (IsCut (x ∷ line)) (same_cut (x ∷ q.0, q.1) p h)
    (record { blank = c.blank; is = c.is; whole = ap (λ l. x ∷ l) c.whole; solid = (out, c.solid) })

found_by : (x : ℕ) (line : List ℕ) (p : List ℕ × List ℕ) → cut (x ∷ line) ≡ Some p →
    ((q : List ℕ × List ℕ) → cut line ≡ Some q → IsCut line q) →
    (b : Bool) → is_blank x ≡ b → IsCut (x ∷ line) p
found_by x line p e on true h =
    subst (IsCut (x ∷ line)) (same_cut ([], line) p (sym (cut_here x line h) ∙ e)) (record { blank = x; is = h; whole = refl; solid = tt })
found_by x line p e on false h = found_further x line (cut line) p h on (sym (cut_further x line h) ∙ e)

pub cut_found : (line : List ℕ) (p : List ℕ × List ℕ) → cut line ≡ Some p → IsCut line p
cut_found [] p e = absurd cc
cut_found (x ∷ line) p e = found_by x line p e (λ q h. cut_found line q h) (is_blank x) refl

pub cut_again : (word : List ℕ) (b : ℕ) (rest : List ℕ) → Solid word → is_blank b ≡ true → cut (word ++ b ∷ rest) ≡ Some (word, rest)
cut_again [] b rest solid h = cut_here b rest h
cut_again (x ∷ word) b rest solid h = cut_further x (word ++ b ∷ rest) solid.0 ∙ ap (with_front x) (cut_again word b rest solid.1 h)

pub cut_none : (word : List ℕ) → Solid word → cut word ≡ None
cut_none [] solid = refl
cut_none (x ∷ word) solid = cut_further x word solid.0 ∙ ap (with_front x) (cut_none word solid.1)

uncut_by : (x : ℕ) (line : List ℕ) → cut (x ∷ line) ≡ None → (cut line ≡ None → Solid line) → (b : Bool) → is_blank x ≡ b → Solid (x ∷ line)
uncut_by x line e on true h = absurd (let f = sym (cut_here x line h) ∙ e in cc)
uncut_by x line e on false h = (h, on (uncut (cut line) (sym (cut_further x line h) ∙ e))) where
  uncut : (o : Option (List ℕ × List ℕ)) → with_front x o ≡ None → o ≡ None
  uncut None f = refl
  uncut (Some p) f = absurd cc

pub uncut_solid : (line : List ℕ) → cut line ≡ None → Solid line
uncut_solid [] e = tt
uncut_solid (x ∷ line) e = uncut_by x line e (uncut_solid line) (is_blank x) refl

-- bytes of a kind that has no blank
clash : (p : ℕ → Bool) (a b : ℕ) → p a ≡ false → p b ≡ true → a ≡ b → ⊥
clash p a b out in_it same = let f : p a ≡ p b = ap p same in cc

pub no_blank : (p : ℕ → Bool) → p 32 ≡ false → p 9 ≡ false → (b : ℕ) → p b ≡ true → is_blank b ≡ false
no_blank p space tab b h = go (b == 32) (b == 9) refl refl where
  go : (s t : Bool) → (b == 32) ≡ s → (b == 9) ≡ t → is_blank b ≡ false
  go true t hs ht = absurd (clash p 32 b space h (sym (eqb-true b 32 hs)))
  go false true hs ht = absurd (clash p 9 b tab h (sym (eqb-true b 9 ht)))
  go false false hs ht = rw (hs, ht) refl

pub solid_all : (p : ℕ → Bool) → p 32 ≡ false → p 9 ≡ false → (xs : List ℕ) → list_all p xs ≡ true → Solid xs
solid_all p space tab xs h =
    recursion_from_All (λ b. is_blank b ≡ false) xs
    (All-weaker (λ b. p b ≡ true) (λ b. is_blank b ≡ false) (no_blank p space tab) xs (AllPass-from_list_all p xs h))
