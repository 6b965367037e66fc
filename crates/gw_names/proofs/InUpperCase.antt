-- A name in upper case spells itself.
use Rattle.std.proofs.Common.{◌≡◌, ℕ, true, false, List, [], ◌∷◌, Some, length, suc, ap, refl, inl, inr, arith}
use Rattle.std.specs.Char.{to_ascii_uppercase, is_ascii_alphabetic}
use Rattle.std.specs.List.{list_all}
use Rattle.std.proofs.lemmas.Bool.Decides.{nat_tests}
use Rattle.std.proofs.lemmas.Str.Ascii.{uppercase-uppercase}
use Rattle.std.proofs.lemmas.Bool.{cases_Bool}
use Rattle.gw_names.specs.Words.{upper_of}
use Rattle.gw_names.specs.Names.{name_of, is_name_text, is_name_byte, is_barred}

pub upper_of-upper_of : (text : List ℕ) → upper_of (upper_of text) ≡ upper_of text
upper_of-upper_of [] = refl
upper_of-upper_of (b ∷ bs) = rw (uppercase-uppercase b, upper_of-upper_of bs) refl

letter_stays : (b : ℕ) → is_ascii_alphabetic (to_ascii_uppercase b) ≡ is_ascii_alphabetic b
letter_stays b = grind (arith, nat_tests)

name_byte_stays : (b : ℕ) → is_name_byte (to_ascii_uppercase b) ≡ is_name_byte b
name_byte_stays b = grind (arith, nat_tests)

name_bytes_stay : (bs : List ℕ) → list_all is_name_byte (upper_of bs) ≡ list_all is_name_byte bs
name_bytes_stay [] = refl
name_bytes_stay (b ∷ bs) = rw (name_byte_stays b, name_bytes_stay bs) refl

pub length-upper_of : (bs : List ℕ) → length (upper_of bs) ≡ length bs
length-upper_of [] = refl
length-upper_of (b ∷ bs) = ap (λ n. suc n) (length-upper_of bs)

pub is_name_text-upper_of : (text : List ℕ) → is_name_text (upper_of text) ≡ is_name_text text
is_name_text-upper_of [] = refl
is_name_text-upper_of (b ∷ bs) = rw (letter_stays b, length-upper_of bs, name_bytes_stay bs) refl

-- what is not barred in upper case is a name there
pub name_of_upper : (text : List ℕ) → is_name_text text ≡ true → is_barred (upper_of text) ≡ false → name_of (upper_of text) ≡ Some (upper_of text)
unfolding name_of
name_of_upper text is_text free = rw (is_name_text-upper_of text, upper_of-upper_of text, is_text, free) refl

-- what is a name has the form of one
pub is_text : (text name : List ℕ) → name_of text ≡ Some name → is_name_text text ≡ true
unfolding name_of
is_text text name e =
    elim (cases_Bool (is_name_text text)) [
      | inl holds ↦ holds
      | inr other ↦ absurd (let f = rw other at e in cc)
    ]
