-- Histories of std's readers and writers, in the words that std has for what it knows of their bytes.
use Rattle.std.specs.Prelude.{ℕ, List, [], ◌++◌, Option, None, Some, refl}
use Rattle.std.specs.Io.KnownBytes.{Consumes, Appends}
use Rattle.std.proofs.Common.{sym, ◌∙◌, ap, append_assoc, append-nil}

-- between a moment and itself known bytes lose nothing
pub Consumes-nothing : (a : Option (List ℕ)) → Consumes a a []
Consumes-nothing None = tt
Consumes-nothing (Some xs) = refl

-- known bytes lose x and then y
pub Consumes-onward : (a b c : Option (List ℕ)) (x y : List ℕ) → Consumes a b x → Consumes b c y → Consumes a c (x ++ y)
Consumes-onward None b c x y p q = tt
Consumes-onward (Some xs) None c x y p q = absurd p
Consumes-onward (Some xs) (Some ys) None x y p q = absurd q
Consumes-onward (Some xs) (Some ys) (Some zs) x y p q = p ∙ ap (λ v. x ++ v) q ∙ sym (append_assoc x y zs)

-- between a moment and itself known bytes gain nothing
pub Appends-nothing : (a : Option (List ℕ)) → Appends a a []
Appends-nothing None = tt
Appends-nothing (Some xs) = sym (append-nil xs)

-- known bytes gain x and then y
pub Appends-onward : (a b c : Option (List ℕ)) (x y : List ℕ) → Appends a b x → Appends b c y → Appends a c (x ++ y)
Appends-onward None b c x y p q = tt
Appends-onward (Some xs) None c x y p q = absurd p
Appends-onward (Some xs) (Some ys) None x y p q = absurd q
Appends-onward (Some xs) (Some ys) (Some zs) x y p q = q ∙ ap (λ v. v ++ y) p ∙ append_assoc xs x y
