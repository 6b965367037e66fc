-- Histories of reading and writing, of which two that follow one another join to one.
use Rattle.std.proofs.Common.{◌≤◌, ℕ, ◌+◌, ◌-◌, List, [], ◌++◌, length, take, drop, subst, sym, arith, append-nil}
use Rattle.std.proofs.Math.Seq.{take-add}
use Rattle.std.proofs.lemmas.List.{take_rest, length-take, length-drop}

-- a step that moved no bytes
pub still : {S : Type 0} (took : S → List ℕ → S → Type 0) → ((a b c : S) (x y : List ℕ) → took a x b → took b y c → took a (x ++ y) c) →
    (a b c : S) (x : List ℕ) → took a x b → took b [] c → took a x c
still took onward a b c x p q =
    let P : List ℕ → Type 0 = λ v. took a v c in
    subst P (append-nil x) (onward a b c x [] p q)

-- m more bytes of a list after its first n
pub further : {S : Type 0} (took : S → List ℕ → S → Type 0) → ((a b c : S) (x y : List ℕ) → took a x b → took b y c → took a (x ++ y) c) →
    (a b c : S) (xs : List ℕ) (n m : ℕ) → took a (take n xs) b → took b (take m (take (length xs - n) (drop n xs))) c → took a (take (n + m) xs) c
further took onward a b c xs n m p q =
    let P : List ℕ → Type 0 = λ v. took a v c in
    let Q : List ℕ → Type 0 = λ v. took b (take m v) c in
    subst P (sym (take-add n m xs)) (onward a b c (take n xs) (take m (drop n xs)) p (subst Q (take_rest xs n) q))

-- so many more are within the list
pub within : (xs : List ℕ) (n m : ℕ) → n ≤ length xs → m ≤ length (take (length xs - n) (drop n xs)) → n + m ≤ length xs
within xs n m p q = omega (arith, length-take {A = ℕ}, length-drop {A = ℕ})
