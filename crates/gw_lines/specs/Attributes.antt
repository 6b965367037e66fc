-- Numerical attributes as they are read: the word of a class, and after it what the attribute is of. (Manual; the
-- forms of the profile. The greatest number is our own.)
use Rattle.std.specs.Prelude.{ℕ, ◌==◌, List, [], ◌∷◌, length, drop, Option, Some, None, option_map, if◌then◌else◌, nat_eq}
use Rattle.std.specs.List.{starts_with}
use Rattle.gw_names.specs.declared.class.Class.{Class}
use Rattle.gw_names.specs.declared.class.Class.TheVariants as class
use Rattle.gw_names.specs.Words.{class_word, classes}
use Rattle.gw_names.specs.Names.{name_of}
use Rattle.gw_expr.specs.declared.attribute.Subject.{Subject}
use Rattle.gw_expr.specs.declared.attribute.Subject.TheVariants as subjects
use Rattle.gw_expr.specs.declared.atom.Atom.{Atom}
use Rattle.gw_expr.specs.declared.atom.Atom.TheVariants as atoms
use Rattle.gw_lines.specs.declared.attribute.Scope.{Scope}
use Rattle.gw_lines.specs.declared.attribute.Scope.TheVariants as scopes
use Rattle.gw_lines.specs.Numbers.{number_of, from_one}

-- what a class's attributes are of; a storage, a table, a parameter, a VARIABLE and a FUNCTION are entities here
abbrev pub scope_of : Class → Scope
scope_of class.C1 = scopes.Alone
scope_of class.Ac1 = scopes.Alone
scope_of class.Tg1 = scopes.Alone
scope_of class.M1 = scopes.Alone
scope_of class.Xn1 = scopes.Alone
scope_of class.Pr = scopes.Alone
scope_of class.P = scopes.Entity
scope_of class.F = scopes.Entity
scope_of class.Fc = scopes.Entity
scope_of class.S = scopes.Entity
scope_of class.R = scopes.Entity
scope_of class.Sc = scopes.Entity
scope_of class.Sm = scopes.Entity
scope_of class.Q = scopes.Entity
scope_of class.Qc = scopes.Entity
scope_of class.Qm = scopes.Entity
scope_of class.Qz = scopes.Entity
scope_of class.N = scopes.Block
scope_of class.W = scopes.Block
scope_of class.X = scopes.Entity
scope_of class.Ls = scopes.Entity
scope_of class.Ch = scopes.Entity
scope_of class.Cc = scopes.Entity
scope_of class.Tc = scopes.Entity
scope_of class.Rn = scopes.Stream
scope_of class.V = scopes.Entity
scope_of class.Fn = scopes.Entity

-- the subject of an attribute that stands alone: the text is empty
abbrev pub own_in : List ℕ → Option Subject
own_in [] = Some subjects.Own
own_in (b ∷ bs) = None

-- the subject that a number from 1 is
abbrev pub number_in : ℕ → List ℕ → Option Subject
number_in most text = option_map (λ n. subjects.Number n) (from_one (number_of most text))

-- the subject that `$` and a name are
abbrev pub name_in : List ℕ → Option Subject
name_in [] = None
name_in (b ∷ bs) = if b == 36 then option_map (λ name. subjects.Name name) (name_of bs) else None

-- the subject that was read, or the one that `$` and a name are
abbrev pub or_name : Option Subject → List ℕ → Option Subject
or_name None text = name_in text
or_name (Some of) text = Some of

-- the subject that a text is after the word of a class
abbrev pub subject_of : Scope → List ℕ → Option Subject
subject_of scopes.Alone text = own_in text
subject_of scopes.Entity text = or_name (number_in 1000000000 text) text
subject_of scopes.Block text = name_in text
subject_of scopes.Stream text = number_in 7 text

-- the attribute of a class that a text is
abbrev pub of_class : Class → List ℕ → Option Atom
of_class class text =
    if starts_with nat_eq text (class_word class)
    then option_map (λ of. atoms.Attribute class of)
    (subject_of (scope_of class) (drop (length (class_word class)) text))
    else None

-- what was read first, or else the other
abbrev pub or_atom : Option Atom → Option Atom → Option Atom
or_atom None other = other
or_atom (Some atom) other = Some atom

-- the attribute of the first of these classes that a text is one of
abbrev pub attribute_in : List Class → List ℕ → Option Atom
attribute_in [] text = None
attribute_in (class ∷ others) text = or_atom (of_class class text) (attribute_in others text)

-- the attribute that a text is
unfoldable pub attribute_of : List ℕ → Option Atom
attribute_of text = attribute_in classes text
