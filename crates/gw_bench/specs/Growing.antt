-- What lies under the lock: the front of a row that it has taken in, and its desk's book; and how it grows. (Our own.)
use Rattle.std.specs.Prelude.{◌≡◌, ℕ, List, [], ◌∷◌, ◌++◌, Err}
use Rattle.gw_meaning.specs.Listing.{Listing}
use Rattle.gw_meaning.specs.declared.edit.Edit.{Edit}
use Rattle.gw_edit.specs.declared.fault.EditFault.{EditFault}
use Rattle.gw_edit.specs.declared.fault.EditFault.TheVariants as faults
use Rattle.gw_edit.specs.Applied.{applied}
use Rattle.gw_edit.specs.Leading.{accepted, version_of}
use Rattle.gw_desk.specs.Book.{Book}
use Rattle.gw_desk.specs.Editing.{Accepts}

pub record Kept : Type 0 where
  pub front : List Edit
  pub book : Book

-- its desk was opened with the version of the row's name, its version is that of the front, and its edits are those of the
-- front that are accepted
pub record IsHeld (t : Listing) (a : Kept) : Type 0 where
  pub opening : a.book.opening ≡ t
  pub version : a.book.version ≡ version_of t a.front
  pub edits : a.book.edits ≡ accepted t a.front

-- an edit of the row comes to the desk: it is accepted, or it is refused and the desk stays
pub data Settles (b : Book) (e : Edit) : Book → Type 0 where
  accepts : (n : ℕ) (c : Book) → Accepts b e c n → Settles b e c
  refuses : (fault : EditFault) → applied b.version e ≡ Err fault → Settles b e b

-- a refusal that is the edit's own, and not for want of memory
abbrev pub IsOwn : EditFault → Type 0
IsOwn faults.Memory = ⊥
IsOwn fault = Unit {0}

-- the next edit of the row is taken in
pub record TakesIn (a : Kept) (e : Edit) (b : Kept) : Type 0 where
  pub front : b.front ≡ a.front ++ e ∷ []
  pub book : Settles a.book e b.book

-- some edits of the row are taken in, in order
pub data Grows : Kept → List Edit → Kept → Type 0 where
  none : (a : Kept) → Grows a [] a
  one : (a b c : Kept) (e : Edit) (es : List Edit) → TakesIn a e b → Grows b es c → Grows a (e ∷ es) c

pub record IsGrown (before after : Kept) : Type 0 where
  pub edits : List Edit
  pub grows : Grows before edits after

-- and then the desk changes so
pub record GrowsThen (before : Kept) (change : Book → Book → Type 0) (after : Kept) : Type 0 where
  pub mid : Kept
  pub grown : IsGrown before mid
  pub front : after.front ≡ mid.front
  pub book : change mid.book after.book
