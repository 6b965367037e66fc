-- What stands at the front of a text, and what is left after it.
use Rattle.std.proofs.Common.{◌≡◌, ◌≢◌, ℕ, suc, ◌+◌, ◌==◌, true, false, not, List, [], ◌∷◌, ◌++◌, length, refl, sym, ap, ◌∙◌, inl, inr, arith}
use Rattle.std.specs.List.{prefix_len, list_all}
use Rattle.std.proofs.lemmas.Bool.Decides.{nat_tests}
use Rattle.std.proofs.lemmas.List.{append-nil, nil_from_length, take-append-drop}
use Rattle.std.proofs.lemmas.Bool.{and_from, and_parts, both_ways, cases_Bool, eqb-true, not-true, not-false}
use Rattle.gw_lines.specs.declared.class.Class.{Class}
use Rattle.gw_lines.specs.declared.class.Class.TheVariants as class
use Rattle.gw_lines.specs.Classes.{is_in, is_blank, is_nothing, front_of, rest_of, with_byte}
use Rattle.gw_lines.specs.Spelling.{AreIn, Stops}

pub nonzero : (n : ℕ) → (suc n == 0) ≡ false
nonzero n = grind (arith, nat_tests)

one_plus : (n : ℕ) → 1 + n ≡ suc n
one_plus n = omega arith

pub front_yes : (class : Class) (b : ℕ) (bs : List ℕ) → is_in class b ≡ true → front_of class (b ∷ bs) ≡ b ∷ front_of class bs
front_yes class b bs h = rw (h, one_plus (prefix_len (is_in class) bs)) refl

front_no : (class : Class) (b : ℕ) (bs : List ℕ) → is_in class b ≡ false → front_of class (b ∷ bs) ≡ []
front_no class b bs h = rw h refl

pub rest_yes : (class : Class) (b : ℕ) (bs : List ℕ) → is_in class b ≡ true → rest_of class (b ∷ bs) ≡ rest_of class bs
rest_yes class b bs h = rw (h, one_plus (prefix_len (is_in class) bs)) refl

rest_no : (class : Class) (b : ℕ) (bs : List ℕ) → is_in class b ≡ false → rest_of class (b ∷ bs) ≡ b ∷ bs
rest_no class b bs h = rw h refl

-- a byte of the class before the first piece, where the pieces after that are a function of what it leaves
pub put_before : (class : Class) (behind : List ℕ → List (List ℕ)) (b : ℕ) (bs : List ℕ) → is_in class b ≡ true
    → front_of class (b ∷ bs) ∷ behind (rest_of class (b ∷ bs)) ≡ with_byte b (front_of class bs ∷ behind (rest_of class bs))
put_before class behind b bs h =
    ap (λ (x : List ℕ). x ∷ behind (rest_of class (b ∷ bs))) (front_yes class b bs h)
    ∙ ap (λ (x : List ℕ). (b ∷ front_of class bs) ∷ behind x) (rest_yes class b bs h)

-- what was put before a byte of another class stands at the front
pub front_again : (class : Class) (text rest : List ℕ) → AreIn class text → Stops class rest → front_of class (text ++ rest) ≡ text
front_again class [] [] h s = refl
front_again class [] (b ∷ bs) h s = front_no class b bs s
front_again class (t ∷ ts) rest h s =
    let a = and_parts (is_in class t) (list_all (is_in class) ts) h in
    front_yes class t (ts ++ rest) a.0 ∙ ap (λ (x : List ℕ). t ∷ x) (front_again class ts rest a.1 s)

pub rest_again : (class : Class) (text rest : List ℕ) → AreIn class text → Stops class rest → rest_of class (text ++ rest) ≡ rest
rest_again class [] [] h s = refl
rest_again class [] (b ∷ bs) h s = rest_no class b bs s
rest_again class (t ∷ ts) rest h s =
    let a = and_parts (is_in class t) (list_all (is_in class) ts) h in
    rest_yes class t (ts ++ rest) a.0 ∙ rest_again class ts rest a.1 s

-- the parts of a text
pub parts : (class : Class) (bytes : List ℕ) → bytes ≡ front_of class bytes ++ rest_of class bytes
parts class bytes = sym (take-append-drop (prefix_len (is_in class) bytes) bytes)

pub front_all : (class : Class) (bytes : List ℕ) → AreIn class (front_of class bytes)
front_all class [] = refl
front_all class (b ∷ bs) =
    elim (cases_Bool (is_in class b)) [
      | inl y ↦ rw (front_yes class b bs y) (and_from (is_in class b) (list_all (is_in class) (front_of class bs)) y (front_all class bs))
      | inr n ↦ rw (front_no class b bs n) refl
    ]

pub rest_stops : (class : Class) (bytes : List ℕ) → Stops class (rest_of class bytes)
rest_stops class [] = tt
rest_stops class (b ∷ bs) =
    elim (cases_Bool (is_in class b)) [
      | inl y ↦ rw (rest_yes class b bs y) (rest_stops class bs)
      | inr n ↦ rw (rest_no class b bs n) n
    ]

-- blanks are no bytes of words
pub blank_no_mark : (blanks text : List ℕ) → AreIn class.Blank blanks → blanks ≢ [] → Stops class.Mark (blanks ++ text)
blank_no_mark [] text h some = absurd (some refl)
blank_no_mark (b ∷ bs) text h some = ap not (and_parts (is_blank b) (list_all (is_in class.Blank) bs) h).0

pub none_behind : (blanks : List ℕ) → AreIn class.Blank blanks → Stops class.Mark blanks
none_behind [] h = tt
none_behind (b ∷ bs) h = ap not (and_parts (is_blank b) (list_all (is_in class.Blank) bs) h).0

-- bytes of words are no blanks
pub mark_no_blank : (word behind : List ℕ) → AreIn class.Mark word → word ≢ [] → Stops class.Blank (word ++ behind)
mark_no_blank [] behind h some = absurd (some refl)
mark_no_blank (b ∷ bs) behind h some = not-true (is_blank b) (and_parts (not (is_blank b)) (list_all (is_in class.Mark) bs) h).0

pub both_stop : (text : List ℕ) → Stops class.Mark text → Stops class.Blank text → text ≡ []
both_stop [] m s = refl
both_stop (b ∷ bs) m s = absurd (both_ways (is_blank b) s (not-false (is_blank b) m))

-- ---- nothing

pub none_is : (text : List ℕ) → is_nothing text ≡ true → text ≡ []
none_is text h = nil_from_length text (eqb-true (length text) 0 h)

pub some_is_not : (text : List ℕ) → text ≢ [] → is_nothing text ≡ false
some_is_not [] h = absurd (h refl)
some_is_not (b ∷ bs) h = nonzero (length bs)

pub not_none : (text : List ℕ) → is_nothing text ≡ false → text ≢ []
not_none [] h e = absurd cc
not_none (b ∷ bs) h e = absurd cc

-- nothing is left of blanks
pub all_blank : (blanks : List ℕ) → AreIn class.Blank blanks → rest_of class.Blank blanks ≡ []
all_blank blanks h = ap (rest_of class.Blank) (sym (append-nil blanks)) ∙ rest_again class.Blank blanks [] h tt
