-- Values without parentheses as they are read. (Manual.)
use Rattle.std.specs.Prelude.{ℕ, List, Option, Some, None, option_map}
use Rattle.gw_names.specs.Names.{name_of}
use Rattle.gw_expr.specs.declared.atom.Atom.{Atom}
use Rattle.gw_expr.specs.declared.atom.Atom.TheVariants as atoms
use Rattle.gw_lines.specs.Numbers.{value_of}
use Rattle.gw_lines.specs.Attributes.{or_atom, attribute_of}

-- the constant that a text is
abbrev pub constant_of : List ℕ → Option Atom
constant_of text = option_map (λ z. atoms.Constant z) (value_of text)

abbrev pub or_constant : Option (List ℕ) → List ℕ → Option Atom
or_constant None text = constant_of text
or_constant (Some name) text = Some (atoms.Number name)

-- the value without parentheses that a text is: a name that stands for a number, a constant or an attribute
abbrev pub atom_of : List ℕ → Option Atom
atom_of text = or_atom (or_constant (name_of text) text) (attribute_of text)
