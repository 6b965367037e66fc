-- The pieces of a text, one after the other.
use Rattle.std.proofs.Common.{◌≡◌, ◌≢◌, ℕ, true, false, List, [], ◌∷◌, ◌++◌, refl, sym, ap, ◌∙◌, inl, inr}
use Rattle.std.specs.List.{list_all}
use Rattle.std.proofs.lemmas.Bool.{and_parts, cases_Bool}
use Rattle.gw_lines.specs.declared.class.Class.{Class}
use Rattle.gw_lines.specs.Classes.{is_in, front_of, rest_of, tail_of, with_byte, pieces_of}
use Rattle.gw_lines.specs.Spelling.{AreIn}
use Rattle.gw_lines.proofs.Fronts.{put_before}

one_more : (class : Class) (b : ℕ) (bs : List ℕ) → is_in class b ≡ true → pieces_of class (b ∷ bs) ≡ with_byte b (pieces_of class bs)
one_more class b bs e = rw e refl

-- the pieces after the first, of what it leaves
abbrev behind : Class → List ℕ → List (List ℕ)
behind class rest = pieces_of class (tail_of rest)

first_is : (class : Class) (b : ℕ) (bs : List ℕ)
    → pieces_of class (b ∷ bs) ≡ front_of class (b ∷ bs) ∷ behind class (rest_of class (b ∷ bs))
first_is class b [] =
    elim (cases_Bool (is_in class b)) [
      | inr ends ↦ rw ends refl
      | inl part ↦ one_more class b [] part ∙ sym (put_before class (behind class) b [] part)
    ]
first_is class b (c ∷ cs) =
    elim (cases_Bool (is_in class b)) [
      | inr ends ↦ rw ends refl
      | inl part ↦
          one_more class b (c ∷ cs) part ∙ ap (with_byte b) (first_is class c cs) ∙ sym (put_before class (behind class) b (c ∷ cs) part)
    ]

-- the first piece of a text that is not empty, and the pieces after it
pub first_part : (class : Class) (text : List ℕ) → text ≢ []
    → pieces_of class text ≡ front_of class text ∷ pieces_of class (tail_of (rest_of class text))
first_part class [] some = absurd (some refl)
first_part class (b ∷ bs) some = first_is class b bs

-- a text with no end in it is one piece
pub alone : (class : Class) (text : List ℕ) → AreIn class text → text ≢ [] → pieces_of class text ≡ text ∷ []
alone class [] h some = absurd (some refl)
alone class (b ∷ []) h some = one_more class b [] (and_parts (is_in class b) true h).0
alone class (b ∷ c ∷ cs) h some =
    let a = and_parts (is_in class b) (list_all (is_in class) (c ∷ cs)) h in
    one_more class b (c ∷ cs) a.0 ∙ ap (with_byte b) (alone class (c ∷ cs) a.1 (λ e. absurd cc))

-- a piece with its end before others
pub before : (class : Class) (text : List ℕ) (b : ℕ) (rest : List ℕ) → AreIn class text → is_in class b ≡ false
    → pieces_of class (text ++ b ∷ rest) ≡ text ∷ pieces_of class rest
before class [] b rest h ends = rw ends refl
before class (t ∷ ts) b rest h ends =
    let a = and_parts (is_in class t) (list_all (is_in class) ts) h in
    one_more class t (ts ++ b ∷ rest) a.0 ∙ ap (with_byte t) (before class ts b rest a.1 ends)
