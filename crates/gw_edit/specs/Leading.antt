-- The version to which edits lead, one after the other. (Our own.)
use Rattle.std.specs.Prelude.{◌≡◌, List, [], ◌∷◌, Result, Ok, Err}
use Rattle.gw_meaning.specs.Listing.{Listing}
use Rattle.gw_meaning.specs.declared.edit.Edit.{Edit}
use Rattle.gw_edit.specs.declared.fault.EditFault.{EditFault}
use Rattle.gw_edit.specs.Applied.{applied}

-- each is accepted of the version that those before it make
abbrev pub LeadsTo : Listing → List Edit → Listing → Type 0
LeadsTo t [] u = u ≡ t
LeadsTo t (e ∷ es) u = (v : Listing) × (applied t e ≡ Ok v) × LeadsTo v es u

-- the version after an edit; a refused one leaves it as it is
abbrev pub or_same : Listing → Result Listing EditFault → Listing
or_same t (Ok u) = u
or_same t (Err fault) = t

-- the version after a list of edits
abbrev pub version_of : Listing → List Edit → Listing
version_of t [] = t
version_of t (e ∷ es) = version_of (or_same t (applied t e)) es

-- those of these edits that are accepted
abbrev pub kept_if : Edit → List Edit → Result Listing EditFault → List Edit
kept_if e rest (Ok u) = e ∷ rest
kept_if e rest (Err fault) = rest

abbrev pub accepted : Listing → List Edit → List Edit
accepted t [] = []
accepted t (e ∷ es) = kept_if e (accepted (or_same t (applied t e)) es) (applied t e)
