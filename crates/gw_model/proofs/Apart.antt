-- what the scans for a number or a label given twice find
use Rattle.std.proofs.Common.{◌≡◌, ℕ, zero, suc, List, [], ◌∷◌, refl, Bool, true, false, arith, ◌<◌, Option, Some, None, ◌≢◌, ◌==◌, sym, ap, ◌∙◌, subst}
use Rattle.std.specs.List.{list_any, slice_get}
use Rattle.std.specs.Str.{bytes_eq}
use Rattle.std.proofs.lemmas.Bool.{eq-eqb, ne_eqb, both_ways, false_from_ne_true, or_parts, or_from}
use Rattle.std.proofs.lemmas.Slice.Eq.{bytes_eq-Decides}
use Rattle.gw_meaning.specs.Listing.{has_label}
use Rattle.gw_meaning.specs.declared.statement.Numbered.{Numbered}
use Rattle.gw_meaning.specs.declared.statement.Replication.{Replication}
use Rattle.gw_model.specs.Listed.{counted_label}
use Rattle.gw_model.specs.Faults.{has_number, has_number_twice, has_label_twice, is_labelled}

pub none_of : {X : Type 0} (p : X → Bool) (xs : List X) → list_any p xs ≡ false → (i : ℕ) (x : X) → slice_get xs i ≡ Some x → p x ≡ false
none_of p [] h i x e = cc
none_of p (y ∷ ys) h zero x e =
    let same : y ≡ x = cc in
    subst (λ z. p z ≡ false) same ((or_parts (p y) (list_any p ys) h).0)
none_of p (y ∷ ys) h (suc i) x e = none_of p ys ((or_parts (p y) (list_any p ys) h).1) i x e

pub none_from : {X : Type 0} (p : X → Bool) (xs : List X) → ((i : ℕ) (x : X) → slice_get xs i ≡ Some x → p x ≡ false) → list_any p xs ≡ false
none_from p [] f = refl
none_from p (y ∷ ys) f = or_from (p y) (list_any p ys) (f zero y refl) (none_from p ys (λ i. f (suc i)))

-- the numbers of replications
abbrev pub NumbersApart : List Replication → Type 0
NumbersApart rs = (i j : ℕ) (r s : Replication) → i < j → slice_get rs i ≡ Some r → slice_get rs j ≡ Some s → r.number ≢ s.number

pub numbers_apart : (rs : List Replication) → has_number_twice rs ≡ false → NumbersApart rs
numbers_apart [] h i j r s less e k = cc
numbers_apart (q ∷ qs) h zero zero r s less e k = absurd (omega arith)
numbers_apart (q ∷ qs) h zero (suc j) r s less e k =
    let parts = or_parts (has_number q.number qs) (has_number_twice qs) h in
    let test : (s.number == q.number) ≡ false = none_of (λ (p : Replication). p.number == q.number) qs parts.0 j s k in
    let same : q ≡ r = cc in
    λ equal. both_ways (s.number == q.number) test (eq-eqb s.number q.number (sym equal ∙ ap (λ (p : Replication). p.number) (sym same)))
numbers_apart (q ∷ qs) h (suc i) zero r s less e k = absurd (omega arith)
numbers_apart (q ∷ qs) h (suc i) (suc j) r s less e k =
    numbers_apart qs ((or_parts (has_number q.number qs) (has_number_twice qs) h).1) i j r s (omega arith) e k

pub numbers_once : (rs : List Replication) → NumbersApart rs → has_number_twice rs ≡ false
numbers_once [] f = refl
numbers_once (q ∷ qs) f =
    or_from (has_number q.number qs) (has_number_twice qs)
    (none_from (λ (p : Replication). p.number == q.number) qs
    (λ i s e. ne_eqb s.number q.number (λ equal. f zero (suc i) q s (omega arith) refl e (sym equal))))
    (numbers_once qs (λ i j r s less. f (suc i) (suc j) r s (omega arith)))

-- the labels of blocks and definitions
abbrev pub LabelsApart : List Numbered → Type 0
LabelsApart lines = (i j : ℕ) (k l : Numbered) (m n : List ℕ) → i < j → slice_get lines i ≡ Some k → slice_get lines j ≡ Some l → counted_label k ≡ Some m →
    counted_label l ≡ Some n → m ≢ n

pub same_bytes : (name : List ℕ) → bytes_eq name name ≡ true
same_bytes name = (bytes_eq-Decides name name).1 refl

apart_bytes : (m n : List ℕ) → m ≢ n → bytes_eq m n ≡ false
apart_bytes m n ne = false_from_ne_true (bytes_eq m n) (λ h. ne ((bytes_eq-Decides m n).0 h))

-- a label that a line does not have
unlike : (name n : List ℕ) (label : Option (List ℕ)) → label ≡ Some n → has_label name label ≡ false → name ≢ n
unlike name n label e h equal =
    let test : bytes_eq n name ≡ false = subst (λ (o : Option (List ℕ)). has_label name o ≡ false) e h in
    let same : bytes_eq n name ≡ true = subst (λ (x : List ℕ). bytes_eq n x ≡ true) (sym equal) (same_bytes n) in
    both_ways (bytes_eq n name) test same

unlike_all : (name : List ℕ) (label : Option (List ℕ)) → ((n : List ℕ) → label ≡ Some n → name ≢ n) → has_label name label ≡ false
unlike_all name None f = refl
unlike_all name (Some n) f = apart_bytes n name (λ equal. f n refl (sym equal))

pub labels_apart : (lines : List Numbered) → has_label_twice lines ≡ false → LabelsApart lines
labels_apart [] h i j k l m n less e g p q = cc
labels_apart (line ∷ rest) h zero zero k l m n less e g p q = absurd (omega arith)
labels_apart (line ∷ rest) h zero (suc j) k l m n less e g p q =
    let parts = or_parts (is_labelled (counted_label line) rest) (has_label_twice rest) h in
    let same : line ≡ k = cc in
    let label : counted_label line ≡ Some m = subst (λ (x : Numbered). counted_label x ≡ Some m) (sym same) p in
    let none : is_labelled (Some m) rest ≡ false = subst (λ (o : Option (List ℕ)). is_labelled o rest ≡ false) label parts.0 in
    unlike m n (counted_label l) q (none_of (λ (x : Numbered). has_label m (counted_label x)) rest none j l g)
labels_apart (line ∷ rest) h (suc i) zero k l m n less e g p q = absurd (omega arith)
labels_apart (line ∷ rest) h (suc i) (suc j) k l m n less e g p q =
    labels_apart rest ((or_parts (is_labelled (counted_label line) rest) (has_label_twice rest) h).1) i j k l m n (omega arith) e g p q

labelled_by : (label : Option (List ℕ)) (rest : List Numbered) → ((m : List ℕ) → label ≡ Some m → is_labelled (Some m) rest ≡ false) →
    is_labelled label rest ≡ false
labelled_by None rest f = refl
labelled_by (Some m) rest f = f m refl

pub labels_once : (lines : List Numbered) → LabelsApart lines → has_label_twice lines ≡ false
labels_once [] f = refl
labels_once (line ∷ rest) f =
    or_from (is_labelled (counted_label line) rest) (has_label_twice rest)
    (labelled_by (counted_label line) rest
    (λ m e. none_from (λ (x : Numbered). has_label m (counted_label x)) rest
    (λ j l g. unlike_all m (counted_label l) (λ n q. f zero (suc j) line l m n (omega arith) refl g e q))))
    (labels_once rest (λ i j k l m n less. f (suc i) (suc j) k l m n (omega arith)))
