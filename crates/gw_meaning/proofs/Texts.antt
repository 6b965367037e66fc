-- The text of a statement: how long a label is.
use Rattle.std.proofs.Common.{◌≡◌, ℕ, ◌≤◌, true, List, [], ◌∷◌, length, Some, inl, inr, arith}
use Rattle.std.specs.Prelude.{nat_le}
use Rattle.std.specs.List.{list_all}
use Rattle.std.specs.Char.{is_ascii_alphabetic}
use Rattle.std.proofs.lemmas.Bool.Decides.{nat_tests}
use Rattle.std.proofs.lemmas.Bool.{and_parts, cases_Bool}
use Rattle.gw_names.specs.Names.{name_of, is_name_text, is_name_byte}

short_text : (text : List ℕ) → is_name_text text ≡ true → length text ≤ 200
short_text [] h = absurd cc
short_text (b ∷ bs) h =
    let a = and_parts (is_ascii_alphabetic b) _ h in
    let k : nat_le (length bs) 199 ≡ true = (and_parts (nat_le (length bs) 199) (list_all is_name_byte bs) a.1).0 in
    grind (arith, nat_tests)

-- a text that spells a name has at most 200 bytes
pub name_is_short : (text name : List ℕ) → name_of text ≡ Some name → length text ≤ 200
unfolding name_of
name_is_short text name e =
    elim (cases_Bool (is_name_text text)) [
      | inl y ↦ short_text text y
      | inr n ↦ absurd (let f = rw n at e in cc)
    ]
