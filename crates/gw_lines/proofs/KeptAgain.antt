-- What follows a verb as it is kept is kept again, and is no longer than it was written.
use Rattle.std.proofs.Common.{◌≡◌, ◌≢◌, ℕ, ◌+◌, ◌≤◌, not, true, List, [], ◌∷◌, ◌++◌, length, refl, sym, ap, subst, ◌∙◌, arith}
use Rattle.std.specs.Char.{to_ascii_uppercase}
use Rattle.std.specs.List.{list_all}
use Rattle.std.proofs.lemmas.Bool.{and_from, and_parts}
use Rattle.std.proofs.lemmas.Bool.Decides.{nat_tests}
use Rattle.std.proofs.lemmas.List.{append-nil, length-append, map-append}
use Rattle.gw_names.specs.Words.{upper_of}
use Rattle.gw_names.proofs.InUpperCase.{length-upper_of}
use Rattle.gw_names.specs.declared.verb.Verb.{Verb}
use Rattle.gw_lines.specs.declared.class.Class.TheVariants as class
use Rattle.gw_lines.specs.Classes.{is_in, is_blank}
use Rattle.gw_lines.specs.Listed.{behind_text}
use Rattle.gw_lines.specs.Auxiliaries.{takes_operator}
use Rattle.gw_lines.specs.Spelling.{is_part, Part, nothing, mark, opening, closing, stray, inner_comma, inner_blank, Written, none_written, last_written, never_closed, more_written, Behind, word_alone, word_operands, AreIn, Follows, without_operator, lacks_operator, with_operator}

-- ---- an operand list is kept as it is printed

pub part_upper : (b : ℕ) → is_part b ≡ true → is_part (to_ascii_uppercase b) ≡ true
part_upper b h = grind (arith, nat_tests)

pub part_again : {depth end : ℕ} {text kept : List ℕ} → Part depth text kept end → Part depth (upper_of kept) (upper_of kept) end
part_again (nothing depth) = nothing depth
part_again (mark depth b text kept end h p) =
    mark depth (to_ascii_uppercase b) (upper_of kept) (upper_of kept) end (part_upper b h) (part_again p)
part_again (opening depth text kept end p) = opening depth (upper_of kept) (upper_of kept) end (part_again p)
part_again (closing depth text kept end p) = closing depth (upper_of kept) (upper_of kept) end (part_again p)
part_again (stray text kept end p) = stray (upper_of kept) (upper_of kept) end (part_again p)
part_again (inner_comma depth text kept end p) = inner_comma depth (upper_of kept) (upper_of kept) end (part_again p)
part_again (inner_blank depth b text kept end h p) = part_again p

pub last_again : (kept : List ℕ) → Part 0 kept kept 0 → Written kept kept
last_again [] p = none_written
last_again (b ∷ bs) p =
    subst (λ (t : List ℕ). Written t (b ∷ bs)) (append-nil (b ∷ bs)) (last_written b bs (b ∷ bs) [] p tt)

pub written_again : {text kept : List ℕ} → Written text kept → Written (upper_of kept) (upper_of kept)
written_again none_written = none_written
written_again (last_written b bs kept comment p s) = last_again (upper_of kept) (part_again p)
written_again (never_closed text kept depth p) = never_closed (upper_of kept) (upper_of kept) depth (part_again p)
written_again (more_written operand part blanks text kept p k w) =
    subst (λ (t : List ℕ). Written t t) (sym (map-append to_ascii_uppercase part (44 ∷ kept)))
    (more_written (upper_of part) (upper_of part) [] (upper_of kept) (upper_of kept) (part_again p) refl (written_again w))

pub spaced : (kept : List ℕ) → Written kept kept → Behind (behind_text kept) kept
spaced [] w = word_alone
spaced (b ∷ bs) w = word_operands (32 ∷ []) (b ∷ bs) (b ∷ bs) refl (λ e. absurd cc) w

pub behind_again : {behind kept : List ℕ} → Behind behind kept → Written (upper_of kept) (upper_of kept)
behind_again word_alone = none_written
behind_again (word_operands blanks text kept h some w) = written_again w

-- ---- after a verb's operator

upper_text : (kept : List ℕ) → upper_of (behind_text kept) ≡ behind_text (upper_of kept)
upper_text [] = refl
upper_text (b ∷ bs) = refl

upper_behind : (operator kept : List ℕ) → upper_of (operator ++ behind_text kept) ≡ upper_of operator ++ behind_text (upper_of kept)
upper_behind operator kept = map-append to_ascii_uppercase operator (behind_text kept) ∙ ap (λ (t : List ℕ). upper_of operator ++ t) (upper_text kept)

upper_marks : (word : List ℕ) → AreIn class.Mark word → AreIn class.Mark (upper_of word)
upper_marks [] m = refl
upper_marks (b ∷ bs) m =
    let a = and_parts (not (is_blank b)) (list_all (is_in class.Mark) bs) m in
    and_from (not (is_blank (to_ascii_uppercase b))) (list_all (is_in class.Mark) (upper_of bs)) (upper_mark b a.0) (upper_marks bs a.1)
  where
    upper_mark : (b : ℕ) → not (is_blank b) ≡ true → not (is_blank (to_ascii_uppercase b)) ≡ true
    upper_mark b h = grind (arith, nat_tests)

upper_some : (word : List ℕ) → word ≢ [] → upper_of word ≢ []
upper_some [] some = absurd (some refl)
upper_some (b ∷ bs) some = λ e. absurd cc

operator_again : (verb : Verb) (operator kept : List ℕ) → takes_operator verb ≡ true → AreIn class.Mark operator → operator ≢ [] → Written kept kept
    → Follows verb (behind_text (operator ++ behind_text kept)) (operator ++ behind_text kept)
operator_again verb [] kept takes m some w = absurd (some refl)
operator_again verb (b ∷ bs) kept takes m some w =
    with_operator verb (32 ∷ []) (b ∷ bs) (behind_text kept) kept takes refl (λ e. absurd cc) m some (spaced kept w)

pub follows_again : {verb : Verb} {behind kept : List ℕ} → Follows verb behind kept → Follows verb (behind_text (upper_of kept)) (upper_of kept)
follows_again (without_operator verb behind kept free b) =
    without_operator verb (behind_text (upper_of kept)) (upper_of kept) free (spaced (upper_of kept) (behind_again b))
follows_again (lacks_operator verb blanks takes h) = lacks_operator verb [] takes refl
follows_again (with_operator verb blanks operator behind kept takes h some m more b) =
    subst (λ (t : List ℕ). Follows verb (behind_text t) t) (sym (upper_behind operator kept))
    (operator_again verb (upper_of operator) (upper_of kept) takes (upper_marks operator m) (upper_some operator more) (behind_again b))

-- ---- it is no longer than what was read

pub part_shorter : {depth end : ℕ} {text kept : List ℕ} → Part depth text kept end → length kept ≤ length text
part_shorter (nothing depth) = omega arith
part_shorter (mark depth b text kept end h p) = let k = part_shorter p in omega arith
part_shorter (opening depth text kept end p) = let k = part_shorter p in omega arith
part_shorter (closing depth text kept end p) = let k = part_shorter p in omega arith
part_shorter (stray text kept end p) = let k = part_shorter p in omega arith
part_shorter (inner_comma depth text kept end p) = let k = part_shorter p in omega arith
part_shorter (inner_blank depth b text kept end h p) = let k = part_shorter p in omega arith

pub written_shorter : {text kept : List ℕ} → Written text kept → length kept ≤ length text
written_shorter none_written = omega arith
written_shorter (last_written b bs kept comment p s) =
    let k = part_shorter p in
    let e = length-append (b ∷ bs) comment in omega arith
written_shorter (never_closed text kept depth p) = part_shorter p
written_shorter (more_written operand part blanks text kept p k w) =
    let h = part_shorter p in
    let i = written_shorter w in
    let e = length-append part (44 ∷ kept) in
    let f = length-append operand (44 ∷ (blanks ++ text)) in
    let g = length-append blanks text in omega arith

pub some_length : (text : List ℕ) → text ≢ [] → 1 ≤ length text
some_length [] some = absurd (some refl)
some_length (b ∷ bs) some = omega arith

pub spaced_length : (kept : List ℕ) → length (behind_text kept) ≤ length kept + 1
spaced_length [] = omega arith
spaced_length (b ∷ bs) = omega arith

pub behind_shorter : {behind kept : List ℕ} → Behind behind kept → length (behind_text (upper_of kept)) ≤ length behind
behind_shorter word_alone = omega arith
behind_shorter (word_operands blanks text kept h some w) =
    let a = spaced_length (upper_of kept) in
    let b = length-upper_of kept in
    let c = written_shorter w in
    let d = some_length blanks some in
    let e = length-append blanks text in omega arith

text_length : (kept : List ℕ) → length (behind_text (upper_of kept)) ≡ length (behind_text kept)
text_length [] = refl
text_length (b ∷ bs) = let e = length-upper_of bs in omega arith

pub follows_shorter : {verb : Verb} {behind kept : List ℕ} → Follows verb behind kept → length (behind_text (upper_of kept)) ≤ length behind
follows_shorter (without_operator verb behind kept free b) = behind_shorter b
follows_shorter (lacks_operator verb blanks takes h) = omega arith
follows_shorter (with_operator verb blanks operator behind kept takes h some m more b) =
    let a = spaced_length (upper_of (operator ++ behind_text kept)) in
    let c = length-upper_of (operator ++ behind_text kept) in
    let d = length-append operator (behind_text kept) in
    let e = text_length kept in
    let f = behind_shorter b in
    let g = some_length blanks some in
    let i = length-append blanks (operator ++ behind) in
    let j = length-append operator behind in omega arith
