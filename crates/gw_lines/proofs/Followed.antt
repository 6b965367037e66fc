-- What follows a verb: what is kept of it is written so, and what is written so is kept so.
use Rattle.std.proofs.Common.{◌≡◌, ◌≢◌, ℕ, true, List, [], ◌++◌, sym, ap, subst, ◌∙◌, inl, inr}
use Rattle.std.proofs.lemmas.Bool.{cases_Bool}
use Rattle.std.proofs.lemmas.List.{append-nil}
use Rattle.gw_names.specs.declared.verb.Verb.{Verb}
use Rattle.gw_lines.specs.declared.class.Class.TheVariants as class
use Rattle.gw_lines.specs.Classes.{front_of, rest_of, word_of, behind_word, is_nothing}
use Rattle.gw_lines.specs.Listed.{behind_text, listed_of}
use Rattle.gw_lines.specs.Auxiliaries.{takes_operator}
use Rattle.gw_lines.specs.Lines.{kept_with_operator, kept_behind}
use Rattle.gw_lines.specs.Spelling.{AreIn, Stops, Behind, Follows, without_operator, lacks_operator, with_operator}
use Rattle.gw_lines.proofs.Fronts.{all_blank, blank_no_mark, both_stop, front_again, front_all, mark_no_blank, none_behind, none_is, not_none, parts, rest_again, rest_stops}
use Rattle.gw_lines.proofs.Kept.{parted_of, behind_of}

-- ---- what is kept is written so

behind_all : (bytes : List ℕ) → Stops class.Mark bytes → Behind bytes (listed_of true 0 (rest_of class.Blank bytes))
behind_all bytes m =
    let e = parts class.Blank bytes in
    let b = behind_of (front_of class.Blank bytes) (rest_of class.Blank bytes) (front_all class.Blank bytes) (subst (λ (t : List ℕ). Stops class.Mark t) e m)
    (rest_stops class.Blank bytes) in
    subst (λ (t : List ℕ). Behind t (listed_of true 0 (rest_of class.Blank bytes))) (sym e) b

-- a text that begins with no blank and has no word at its front is empty
no_front : (text : List ℕ) → word_of text ≡ [] → Stops class.Blank text → text ≡ []
no_front text e s =
    let m = subst (λ (t : List ℕ). Stops class.Mark t) (sym (parts class.Mark text ∙ ap (λ (t : List ℕ). t ++ rest_of class.Mark text) e))
    (rest_stops class.Mark text) in both_stop text m s

lacking_follows : (verb : Verb) (bytes : List ℕ) → takes_operator verb ≡ true → rest_of class.Blank bytes ≡ []
    → Follows verb bytes (kept_with_operator (rest_of class.Blank bytes))
lacking_follows verb bytes takes nothing =
    let blanks = front_of class.Blank bytes in
    let whole : bytes ≡ blanks = parts class.Blank bytes ∙ ap (λ (t : List ℕ). blanks ++ t) nothing ∙ append-nil blanks in
    let keeps : kept_with_operator (rest_of class.Blank bytes) ≡ [] = ap kept_with_operator nothing in
    subst (λ (k : List ℕ). Follows verb bytes k) (sym keeps)
    (subst (λ (t : List ℕ). Follows verb t []) (sym whole) (lacks_operator verb blanks takes (front_all class.Blank bytes)))

word_follows : (verb : Verb) (bytes : List ℕ) → takes_operator verb ≡ true → Stops class.Mark bytes → word_of (rest_of class.Blank bytes) ≢ []
    → Follows verb bytes (kept_with_operator (rest_of class.Blank bytes))
word_follows verb bytes takes m some =
    let blanks = front_of class.Blank bytes in
    let text = rest_of class.Blank bytes in
    let behind = rest_of class.Mark text in
    let begins : blanks ≢ [] = λ (e : blanks ≡ []).
    (let same : bytes ≡ text = parts class.Blank bytes ∙ ap (λ (t : List ℕ). t ++ text) e in
    some (ap word_of (both_stop text (subst (λ (t : List ℕ). Stops class.Mark t) same m) (rest_stops class.Blank bytes)))) in
    let whole : bytes ≡ blanks ++ (word_of text ++ behind) = parts class.Blank bytes ∙ ap (λ (t : List ℕ). blanks ++ t) (parts class.Mark text) in
    subst (λ (t : List ℕ). Follows verb t (kept_with_operator text)) (sym whole)
    (with_operator verb blanks (word_of text) behind (listed_of true 0 (behind_word text)) takes (front_all class.Blank bytes) begins
    (front_all class.Mark text) some (behind_all behind (rest_stops class.Mark text)))

operator_follows : (verb : Verb) (bytes : List ℕ) → takes_operator verb ≡ true → Stops class.Mark bytes
    → Follows verb bytes (kept_with_operator (rest_of class.Blank bytes))
operator_follows verb bytes takes m =
    let text = rest_of class.Blank bytes in
    elim (cases_Bool (is_nothing (word_of text))) [
      | inl none ↦ lacking_follows verb bytes takes (no_front text (none_is (word_of text) none) (rest_stops class.Blank bytes))
      | inr some ↦ word_follows verb bytes takes m (not_none (word_of text) some)
    ]

pub follows_all : (verb : Verb) (bytes : List ℕ) → Stops class.Mark bytes → Follows verb bytes (kept_behind verb (rest_of class.Blank bytes))
follows_all verb bytes m =
    elim (cases_Bool (takes_operator verb)) [
      | inl takes ↦ rw takes (operator_follows verb bytes takes m)
      | inr free ↦ rw free (without_operator verb bytes (listed_of true 0 (rest_of class.Blank bytes)) free (behind_all bytes m))
    ]

-- ---- what is written so is kept

behind_is : {behind kept : List ℕ} → Behind behind kept → listed_of true 0 (rest_of class.Blank behind) ≡ kept
behind_is b =
    let p = parted_of b in
    ap (λ (t : List ℕ). listed_of true 0 (rest_of class.Blank t)) p.is ∙ ap (listed_of true 0) (rest_again class.Blank p.blanks p.text p.are_blanks p.begins)
    ∙ p.keeps

operator_is : (operator behind kept : List ℕ) → AreIn class.Mark operator → Behind behind kept
    → kept_with_operator (operator ++ behind) ≡ operator ++ behind_text kept
operator_is operator behind kept m b =
    let s = (parted_of b).parted in
    let rest : behind_word (operator ++ behind) ≡ rest_of class.Blank behind = ap (rest_of class.Blank) (rest_again class.Mark operator behind m s) in
    ap (λ (t : List ℕ). t ++ behind_text (listed_of true 0 (behind_word (operator ++ behind)))) (front_again class.Mark operator behind m s)
    ∙ ap (λ (t : List ℕ). operator ++ behind_text t) (ap (listed_of true 0) rest ∙ behind_is b)

pub follows_is : {verb : Verb} {behind kept : List ℕ} → Follows verb behind kept → kept_behind verb (rest_of class.Blank behind) ≡ kept
follows_is (without_operator verb behind kept free b) = rw free (behind_is b)
follows_is (lacks_operator verb blanks takes h) = rw takes (ap kept_with_operator (all_blank blanks h))
follows_is (with_operator verb blanks operator behind kept takes h some m more b) =
    rw takes (ap kept_with_operator (rest_again class.Blank blanks (operator ++ behind) h (mark_no_blank operator behind m more))
    ∙ operator_is operator behind kept m b)

pub follows_stops : {verb : Verb} {behind kept : List ℕ} → Follows verb behind kept → Stops class.Mark behind
follows_stops (without_operator verb behind kept free b) = (parted_of b).parted
follows_stops (lacks_operator verb blanks takes h) = none_behind blanks h
follows_stops (with_operator verb blanks operator behind kept takes h some m more b) = blank_no_mark blanks (operator ++ behind) h some
