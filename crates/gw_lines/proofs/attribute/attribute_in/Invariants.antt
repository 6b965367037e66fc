use Rattle.std.proofs.Common.{◌≡◌, drop}
use Rattle.gw_lines.specs.Attributes.{attribute_in}
use Rattle.gw_lines.proofs.attribute.attribute_in.Given as goal

-- the classes that are left read what all of them read
abbrev pub invariant-loop-class : goal.invariant-loop-class
invariant-loop-class l = attribute_in (drop l.class-index l.classes) l.text ≡ attribute_in l.classes l.text
