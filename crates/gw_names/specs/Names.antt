-- Names of labels, entities and definitions. (Manual; letters, lengths and upper case are our own.)
use Rattle.std.specs.Prelude.{ℕ, Bool, false, ◌||◌, ◌&&◌, ◌==◌, List, [], ◌∷◌, Option, Some, None, is_some, if◌then◌else◌, length, nat_le}
use Rattle.std.specs.List.{list_all}
use Rattle.std.specs.Char.{is_ascii_alphabetic, is_ascii_alphanumeric}
use Rattle.gw_names.specs.Words.{upper_of, verb_of, is_class}

-- a letter, a digit or `_`
abbrev pub is_name_byte : ℕ → Bool
is_name_byte b = is_ascii_alphanumeric b || b == 95

-- a letter and up to 199 letters, digits and `_` after it
abbrev pub is_name_text : List ℕ → Bool
is_name_text [] = false
is_name_text (b ∷ bs) = is_ascii_alphabetic b && (nat_le (length bs) 199 && list_all is_name_byte bs)

-- a word that is no name: a verb, or the class of an attribute
abbrev pub is_barred : List ℕ → Bool
is_barred word = is_some (verb_of word) || is_class word

-- the name that a text spells, in upper case, if it spells one
unfoldable pub name_of : List ℕ → Option (List ℕ)
name_of text = if is_name_text text then (if is_barred (upper_of text) then None else Some (upper_of text)) else None
