-- What notes know, one note longer.
use Rattle.std.proofs.Common.{◌≡◌, ℕ, ◌+◌, ◌<◌, ◌≤◌, List, [], ◌∷◌, ◌++◌, length, Some, None, slice_index, option_to_list, refl, sym, ap, ◌∙◌, arith, append_assoc, length-append}
use mathlib.Core.List.{IsPrefix}
use Rattle.std.proofs.lemmas.List.{append-nil}
use Rattle.once_cell.specs.declared.race.note.Note.{Note}
use Rattle.gw_meaning.specs.Listing.{Listing}
use Rattle.gw_meaning.specs.declared.edit.Edit.{Edit}
use Rattle.gw_edit.specs.Applied.{applied}
use Rattle.gw_edit.specs.Leading.{or_same, version_of}
use Rattle.gw_bench.specs.Fronts.{front_of, Stands, IsPass, Follows}

pub front_of-append : (ns : List (Note Edit)) (n : Note Edit) → front_of (ns ++ n ∷ []) ≡ front_of ns ++ option_to_list n.known
front_of-append [] n = append-nil (option_to_list n.known)
front_of-append (m ∷ ns) n = rw (front_of-append ns n) (sym (append_assoc (option_to_list m.known) (front_of ns) (option_to_list n.known)))

pub front_of-one_more : (ns : List (Note Edit)) (n : Note Edit) (e : Edit) → n.known ≡ Some e → front_of (ns ++ n ∷ []) ≡ front_of ns ++ e ∷ []
front_of-one_more [] n e h = rw h refl
front_of-one_more (m ∷ ns) n e h = rw (front_of-one_more ns n e h) (sym (append_assoc (option_to_list m.known) (front_of ns) (e ∷ [])))

pub version_of-one_more : (t : Listing) (es : List Edit) (e : Edit) → version_of t (es ++ e ∷ []) ≡ or_same (version_of t es) (applied (version_of t es) e)
version_of-one_more t [] e = refl
version_of-one_more t (x ∷ es) e = version_of-one_more (or_same t (applied t x)) es e

pub stands-one_more : (boxes : List ℕ) (ns : List (Note Edit)) (n : Note Edit) (e : Edit) → Stands boxes ns → length ns < length boxes →
    n.cell ≡ slice_index boxes (length ns) → n.known ≡ Some e → Stands boxes (ns ++ n ∷ [])
stands-one_more [] [] n e s lt c k = absurd (omega arith)
stands-one_more (b ∷ bs) [] n e s lt c k = (c, (e, k), tt)
stands-one_more [] (m ∷ ns) n e s lt c k = absurd s
stands-one_more (b ∷ bs) (m ∷ ns) n e s lt c k = (s.0, s.1, stands-one_more bs ns n e s.2 (omega arith) c k)

pub stands-length : (boxes : List ℕ) (ns : List (Note Edit)) → Stands boxes ns → length (front_of ns) ≡ length ns
stands-length boxes [] s = refl
stands-length [] (n ∷ ns) s = absurd s
stands-length (b ∷ bs) (n ∷ ns) s = let k : n.known ≡ Some s.1.0 = s.1.1 in rw k (omega (arith, stands-length bs ns s.2))

-- a pass with one note more is a pass
pub grows : (boxes : List ℕ) (opening : Listing) (capacity capacity' : ℕ) (ns ms : List (Note Edit)) (n : Note Edit) (v w : Listing) →
    IsPass boxes opening v capacity ns → Follows boxes opening (front_of ns) n w → capacity' ≡ capacity → ms ≡ ns ++ n ∷ [] →
    IsPass boxes opening w capacity' ms
grows boxes opening capacity capacity' ns ms n v w p f same all =
    let e : Edit = f.known.0 in
    let long : length (front_of ns) ≡ length ns = stands-length boxes ns p.stands in
    let version : w ≡ version_of opening (front_of ns ++ e ∷ []) = cc (f.known.2, version_of-one_more opening (front_of ns) e) in
    record {
      room = rw same p.room;
      stands = rw all (stands-one_more boxes ns n e p.stands (omega (arith, f.boxed)) (rw (← long) f.cell) f.known.1);
      same = rw (all, front_of-one_more ns n e f.known.1) version;
      fits = rw all (omega (arith, length-append ns (n ∷ []), f.room));
    }

pub front-grows : (ns ms : List (Note Edit)) (n : Note Edit) (front : List Edit) → front_of ns ≡ front → ms ≡ ns ++ n ∷ [] →
    front_of ms ≡ front ++ option_to_list n.known
front-grows ns ms n front is all = rw (all, front_of-append ns n, is) refl

-- a front that began with another, and then got one edit more, is longer
pub longer : (a b c d : List Edit) (e : Edit) → IsPrefix a b → IsPrefix b c → d ≡ c ++ e ∷ [] → length a < length d
longer a b c d e (s, is) (t, at) one =
    let first : length a + length s ≡ length b = sym (length-append a s) ∙ ap length is in
    let second : length b + length t ≡ length c = sym (length-append b t) ∙ ap length at in
    let last : length d ≡ length c + 1 = ap length one ∙ length-append c (e ∷ []) in
    omega (arith, first, second, last)
