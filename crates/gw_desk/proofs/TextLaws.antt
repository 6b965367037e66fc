-- What becomes of the kept texts.
use Rattle.std.proofs.Common.{◌≡◌, ◌⊎◌, ℕ, ◌+◌, List, [], ◌∷◌, Contains, ⊎_elim, refl, sym, subst, arith}
use Rattle.lru.proofs.Splits.{Contains-nil}
use Rattle.std.proofs.Math.Nat.{le_refl}
use Rattle.gw_meaning.specs.Listing.{Listing}
use Rattle.gw_desk.specs.declared.texts.Place.{Place}
use Rattle.gw_desk.specs.Texts.{ready, answer_at, IsText, AreTexts}

-- where no text is kept
pub no_texts : (t : Listing) (n : ℕ) (xs : List (Place × List ℕ)) → xs ≡ [] → AreTexts t n xs
no_texts t n [] is e kept = absurd (Contains-nil e kept)
no_texts t n (x ∷ xs) is e kept = absurd cc

-- after an accepted edit no kept text is of the version that is open
pub texts_past : (t u : Listing) (n m : ℕ) (xs : List (Place × List ℕ)) → m ≡ n + 1 → AreTexts t n xs → AreTexts u m xs
texts_past t u n m xs more are e kept =
    let low = (are e kept).past in
    record { past = omega (arith, low, more); present = λ same. absurd (omega (arith, same, low, more)) }

-- no other texts
pub texts_fewer : (t : Listing) (n : ℕ) (old new : List (Place × List ℕ)) → AreTexts t n old →
    ((e : Place × List ℕ) → Contains new e → Contains old e) → AreTexts t n new
texts_fewer t n old new are among e kept = are e (among e kept)

-- one more text, of the version that is open
pub texts_more : (t : Listing) (p : Place) (text : List ℕ) (old new : List (Place × List ℕ)) → AreTexts t p.edits old →
    answer_at t p ≡ ready p text → ((e : Place × List ℕ) → Contains new e → Contains old e ⊎ (e ≡ (p, text))) → AreTexts t p.edits new
texts_more t p text old new are answer among e kept = ⊎_elim
    (λ had. are e had)
    (λ put. subst (λ x. IsText t p.edits x) (sym put) (record { past = le_refl p.edits; present = λ same. answer }))
    (among e kept)

-- a text of the version that is open is what a query is answered
pub text_answers : (t : Listing) (p : Place) (text : List ℕ) (xs : List (Place × List ℕ)) → AreTexts t p.edits xs → Contains xs (p, text) →
    answer_at t p ≡ ready p text
text_answers t p text xs are kept = (are (p, text) kept).present refl
