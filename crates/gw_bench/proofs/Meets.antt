-- Two passes over one row.
use Rattle.std.proofs.Common.{◌≡◌, ℕ, zero, suc, ◌<◌, List, [], ◌∷◌, ◌⊎◌, inl, inr, length, Option, Some, None, IfSome, slice_get, slice_index, slice_set, get_or, refl, ap, sym, ◌∙◌, arith}
use mathlib.Core.List.{IsPrefix}
use Rattle.once_cell.specs.declared.race.note.Note.{Note}
use Rattle.once_cell.specs.Once.{Agrees}
use Rattle.gw_meaning.specs.declared.edit.Edit.{Edit}
use Rattle.gw_bench.specs.Fronts.{front_of, Stands, known_at}

pub set-same : {A : Type 0} (xs : List A) (k : ℕ) (x : A) → x ≡ get_or xs k x → slice_set xs k x ≡ xs
set-same [] k x h = refl
set-same (y ∷ ys) zero x h = ap (λ z. z ∷ ys) h
set-same (y ∷ ys) (suc k) x h = ap (λ zs. y ∷ zs) (set-same ys k x h)

-- the note of a number is of the box of that number, and knows its edit
pub stands-at : (boxes : List ℕ) (ns : List (Note Edit)) (k : ℕ) (n : Note Edit) → Stands boxes ns → k < length ns → n ≡ get_or ns k n
    → (n.cell ≡ slice_index boxes k) × (n.known ≡ known_at ns k) × ((e : Edit) × (n.known ≡ Some e))
stands-at boxes [] k n s lt h = absurd (omega arith)
stands-at [] (m ∷ ns) k n s lt h = absurd s
stands-at (b ∷ bs) (m ∷ ns) zero n s lt h = (ap (λ x. x.cell) h ∙ s.0, ap (λ x. x.known) h, (s.1.0, ap (λ x. x.known) h ∙ s.1.1))
stands-at (b ∷ bs) (m ∷ ns) (suc k) n s lt h = stands-at bs ns k n s.2 (omega arith) h

pub agree-known : (a b : Option Edit) (e f : Edit) → a ≡ Some e → b ≡ Some f → IfSome b (Agrees a) → a ≡ b
agree-known (Some x) (Some y) e f p q h = ap Some h
agree-known None b e f p q h = absurd (cc (p))
agree-known (Some x) None e f p q h = absurd (cc (q))

-- of two passes whose notes agree as far as the shorter goes, one front begins the other
pub meets : (boxes : List ℕ) (ms ns : List (Note Edit)) → Stands boxes ms → Stands boxes ns → ((k : ℕ) → k < length ms → k < length ns → known_at ms k ≡ known_at ns k)
    → IsPrefix (front_of ms) (front_of ns) ⊎ IsPrefix (front_of ns) (front_of ms)
meets boxes [] ns s t h = inl (front_of ns, refl)
meets boxes (m ∷ ms) [] s t h = inr (front_of (m ∷ ms), refl)
meets [] (m ∷ ms) (n ∷ ns) s t h = absurd s
meets (x ∷ xs) (m ∷ ms) (n ∷ ns) s t h =
    let e : Edit = s.1.0 in
    let p : m.known ≡ Some e = s.1.1 in
    let q : n.known ≡ Some e = sym (h zero (omega arith) (omega arith)) ∙ p in
    let rest = meets xs ms ns s.2 t.2 (λ k a b. h (suc k) (omega arith) (omega arith)) in
    rw (p, q) (elim rest [ inl r ↦ inl (r.0, ap (λ zs. e ∷ zs) r.1) | inr r ↦ inr (r.0, ap (λ zs. e ∷ zs) r.1) ])

-- what the note of a number knows is the edit of that number in the front
pub stands-get : (boxes : List ℕ) (ns : List (Note Edit)) (k : ℕ) → Stands boxes ns → slice_get (front_of ns) k ≡ known_at ns k
stands-get boxes [] k s = refl
stands-get [] (n ∷ ns) k s = absurd s
stands-get (b ∷ bs) (n ∷ ns) zero s = let p : n.known ≡ Some s.1.0 = s.1.1 in rw p refl
stands-get (b ∷ bs) (n ∷ ns) (suc k) s = let p : n.known ≡ Some s.1.0 = s.1.1 in rw p (stands-get bs ns k s.2)
