-- The operand list as it is written and as it is kept.
use Rattle.std.proofs.Common.{◌≡◌, ℕ, zero, suc, ◌==◌, ◌&&◌, not, true, false, List, [], ◌∷◌, ◌++◌, refl, sym, ap, subst, ◌∙◌, inl, inr}
use Rattle.std.specs.List.{list_all}
use Rattle.std.proofs.lemmas.Bool.{and_from, and_parts, both_ways, cases_Bool, eqb-true, not-true, not-false}
use Rattle.std.proofs.lemmas.List.{append-nil}
use Rattle.gw_lines.specs.declared.class.Class.TheVariants as class
use Rattle.gw_lines.specs.Classes.{is_in, is_blank}
use Rattle.gw_lines.specs.Listed.{listed_of}
use Rattle.gw_lines.specs.Spelling.{AreIn, Stops, is_part, Part, nothing, mark, opening, closing, stray, inner_comma, inner_blank, Written, none_written, last_written, never_closed, more_written, Behind, word_alone, word_operands}
use Rattle.gw_lines.proofs.Fronts.{blank_no_mark}

-- ---- one byte

blank_skipped : (b : ℕ) (bs : List ℕ) → is_blank b ≡ true → listed_of true 0 (b ∷ bs) ≡ listed_of true 0 bs
blank_skipped b bs h = rw h refl

blank_ends : (b : ℕ) (bs : List ℕ) → is_blank b ≡ true → listed_of false 0 (b ∷ bs) ≡ []
blank_ends b bs h = rw h refl

blank_inside : (depth b : ℕ) (bs : List ℕ) → is_blank b ≡ true
    → listed_of false (suc depth) (b ∷ bs) ≡ listed_of false (suc depth) bs
blank_inside depth b bs h = rw h refl

-- a byte that is no blank is kept, whether or not blanks are skipped before it
mark_first : (b : ℕ) (bs : List ℕ) → is_blank b ≡ false → listed_of true 0 (b ∷ bs) ≡ listed_of false 0 (b ∷ bs)
mark_first b bs h = rw h refl

record IsPart (b : ℕ) : Type 0 where
  blank : is_blank b ≡ false
  comma : (b == 44) ≡ false
  opens : (b == 40) ≡ false
  closes : (b == 41) ≡ false

part_is : (b : ℕ) → is_part b ≡ true → IsPart b
part_is b h =
    let a = and_parts (not (is_blank b)) (not (b == 44) && (not (b == 40) && not (b == 41))) h in
    let c = and_parts (not (b == 44)) (not (b == 40) && not (b == 41)) a.1 in
    let d = and_parts (not (b == 40)) (not (b == 41)) c.1 in
    record {
      blank = not-true (is_blank b) a.0;
      comma = not-true (b == 44) c.0;
      opens = not-true (b == 40) d.0;
      closes = not-true (b == 41) d.1;
    }

part_kept : (depth b : ℕ) (bs : List ℕ) → is_part b ≡ true → listed_of false depth (b ∷ bs) ≡ b ∷ listed_of false depth bs
part_kept depth b bs h = let i = part_is b h in rw (i.blank, i.comma, i.opens, i.closes) refl

-- ---- what is written so is kept so

blanks_skipped : (blanks text : List ℕ) → AreIn class.Blank blanks → listed_of true 0 (blanks ++ text) ≡ listed_of true 0 text
blanks_skipped [] text h = refl
blanks_skipped (b ∷ bs) text h =
    let a = and_parts (is_blank b) (list_all (is_in class.Blank) bs) h in
    blank_skipped b (bs ++ text) a.0 ∙ blanks_skipped bs text a.1

ends : (comment : List ℕ) → Stops class.Mark comment → listed_of false 0 comment ≡ []
ends [] h = refl
ends (b ∷ bs) h = blank_ends b bs (not-false (is_blank b) h)

-- a part is kept as it is, and what follows it is kept after it
then_kept : {depth end : ℕ} {text kept : List ℕ} → Part depth text kept end → (rest : List ℕ)
    → listed_of false depth (text ++ rest) ≡ kept ++ listed_of false end rest
then_kept (nothing depth) rest = refl
then_kept (mark depth b text kept end h p) rest =
    part_kept depth b (text ++ rest) h ∙ ap (λ (t : List ℕ). b ∷ t) (then_kept p rest)
then_kept (opening depth text kept end p) rest = ap (λ (t : List ℕ). 40 ∷ t) (then_kept p rest)
then_kept (closing depth text kept end p) rest = ap (λ (t : List ℕ). 41 ∷ t) (then_kept p rest)
then_kept (stray text kept end p) rest = ap (λ (t : List ℕ). 41 ∷ t) (then_kept p rest)
then_kept (inner_comma depth text kept end p) rest = ap (λ (t : List ℕ). 44 ∷ t) (then_kept p rest)
then_kept (inner_blank depth b text kept end h p) rest = blank_inside depth b (text ++ rest) h ∙ then_kept p rest

-- what begins with a part begins with no blank
part_begins : {b end : ℕ} {bs kept : List ℕ} → Part 0 (b ∷ bs) kept end → is_blank b ≡ false
part_begins (mark depth b text kept end h p) = let i = part_is b h in i.blank
part_begins (opening depth text kept end p) = refl
part_begins (stray text kept end p) = refl

begin_kept : {end : ℕ} {text kept : List ℕ} → Part 0 text kept end → (rest : List ℕ) → Stops class.Blank (text ++ rest)
    → listed_of true 0 (text ++ rest) ≡ kept ++ listed_of false end rest
begin_kept {end} {text} {kept} p rest s = unskipped (text ++ rest) s ∙ then_kept p rest
  where
    unskipped : (all : List ℕ) → Stops class.Blank all → listed_of true 0 all ≡ listed_of false 0 all
    unskipped [] s = refl
    unskipped (b ∷ bs) s = mark_first b bs s

part_stops : {end : ℕ} {text kept : List ℕ} → Part 0 text kept end → (rest : List ℕ) → Stops class.Blank rest
    → Stops class.Blank (text ++ rest)
part_stops {text = []} p rest s = s
part_stops {text = b ∷ bs} p rest s = part_begins p

no_more : {depth : ℕ} {text kept : List ℕ} → Part 0 text kept (suc depth) → Stops class.Blank text
no_more {text = []} p = tt
no_more {text = b ∷ bs} p = part_begins p

pub written_kept : {text kept : List ℕ} → Written text kept → listed_of true 0 text ≡ kept
written_kept none_written = refl
written_kept (last_written b bs kept comment p s) =
    begin_kept p comment (part_begins p) ∙ ap (λ (t : List ℕ). kept ++ t) (ends comment s) ∙ append-nil kept
written_kept (never_closed text kept depth p) =
    ap (listed_of true 0) (sym (append-nil text))
    ∙ begin_kept p [] (subst (λ (t : List ℕ). Stops class.Blank t) (sym (append-nil text)) (no_more p)) ∙ append-nil kept
written_kept (more_written operand part blanks text kept p k w) =
    begin_kept p (44 ∷ (blanks ++ text)) (part_stops p (44 ∷ (blanks ++ text)) refl)
    ∙ ap (λ (t : List ℕ). part ++ 44 ∷ t) (blanks_skipped blanks text k ∙ written_kept w)

-- what Written text says of the text's beginning: no blank
written_begins : {text kept : List ℕ} → Written text kept → Stops class.Blank text
written_begins none_written = tt
written_begins (last_written b bs kept comment p s) = part_begins p
written_begins (never_closed text kept depth p) = no_more p
written_begins (more_written operand part blanks text kept p k w) = part_stops p (44 ∷ (blanks ++ text)) refl

-- what a word's blanks and operands are, with the blanks apart
pub record Parted (behind kept : List ℕ) : Type 0 where
  pub blanks : List ℕ
  pub text : List ℕ
  pub is : behind ≡ blanks ++ text
  pub are_blanks : AreIn class.Blank blanks
  pub begins : Stops class.Blank text
  pub keeps : listed_of true 0 text ≡ kept
  pub parted : Stops class.Mark behind

pub parted_of : {behind kept : List ℕ} → Behind behind kept → Parted behind kept
parted_of word_alone = record { blanks = []; text = []; is = refl; are_blanks = refl; begins = tt; keeps = refl; parted = tt }
parted_of (word_operands blanks text kept h some w) =
    record {
      blanks = blanks;
      text = text;
      is = refl;
      are_blanks = h;
      begins = written_begins w;
      keeps = written_kept w;
      parted =
          blank_no_mark blanks text h some;
    }

-- ---- what is kept so is written so

-- after some open parentheses: what is left of the operand, and what follows
data Inside : ℕ → List ℕ → List ℕ → Type 0 where
  last : (depth : ℕ) (text kept comment : List ℕ) → Part depth text kept 0 → Stops class.Mark comment
      → Inside depth (text ++ comment) kept
  open_to_the_end : (depth : ℕ) (text kept : List ℕ) (end : ℕ) → Part depth text kept (suc end) → Inside depth text kept
  goes_on : (depth : ℕ) (text part blanks others kept : List ℕ) → Part depth text part 0 → AreIn class.Blank blanks
      → Written others kept → Inside depth (text ++ 44 ∷ (blanks ++ others)) (part ++ 44 ∷ kept)

-- at the beginning of an operand, with blanks before it that are skipped
record Open (text kept : List ℕ) : Type 0 where
  pub blanks : List ℕ
  pub rest : List ℕ
  pub is : text ≡ blanks ++ rest
  pub are_blanks : AreIn class.Blank blanks
  pub written : Written rest kept

-- a byte before what stands inside, from what it is before a part
with_byte : {behind : ℕ} (depth b : ℕ) {text kept : List ℕ}
    → ((t k : List ℕ) (end : ℕ) → Part behind t k end → Part depth (b ∷ t) (b ∷ k) end)
    → Inside behind text kept → Inside depth (b ∷ text) (b ∷ kept)
with_byte depth b on (last behind text kept comment p s) = last depth (b ∷ text) (b ∷ kept) comment (on text kept 0 p) s
with_byte depth b on (open_to_the_end behind text kept end p) =
    open_to_the_end depth (b ∷ text) (b ∷ kept) end (on text kept (suc end) p)
with_byte depth b on (goes_on behind text part blanks others kept p h w) =
    goes_on depth (b ∷ text) (b ∷ part) blanks others kept (on text part 0 p) h w

with_blank : (depth b : ℕ) {text kept : List ℕ} → is_blank b ≡ true → Inside (suc depth) text kept
    → Inside (suc depth) (b ∷ text) kept
with_blank depth b k (last behind text kept comment p s) =
    last (suc depth) (b ∷ text) kept comment (inner_blank depth b text kept 0 k p) s
with_blank depth b k (open_to_the_end behind text kept end p) =
    open_to_the_end (suc depth) (b ∷ text) kept end (inner_blank depth b text kept (suc end) k p)
with_blank depth b k (goes_on behind text part blanks others kept p h w) =
    goes_on (suc depth) (b ∷ text) part blanks others kept (inner_blank depth b text part 0 k p) h w

-- the same where the byte begins an operand
begun : {behind : ℕ} (b : ℕ) {text kept : List ℕ}
    → ((t k : List ℕ) (end : ℕ) → Part behind t k end → Part 0 (b ∷ t) (b ∷ k) end)
    → Inside behind text kept → Written (b ∷ text) (b ∷ kept)
begun b on (last behind text kept comment p s) = last_written b text (b ∷ kept) comment (on text kept 0 p) s
begun b on (open_to_the_end behind text kept end p) = never_closed (b ∷ text) (b ∷ kept) end (on text kept (suc end) p)
begun b on (goes_on behind text part blanks others kept p h w) =
    more_written (b ∷ text) (b ∷ part) blanks others kept (on text part 0 p) h w

begins_open : (text kept : List ℕ) → Written text kept → Open text kept
begins_open text kept w = record { blanks = []; rest = text; is = refl; are_blanks = refl; written = w }

comma_open : (text kept : List ℕ) → Open text kept → Open (44 ∷ text) (44 ∷ kept)
comma_open text kept o =
    begins_open (44 ∷ text) (44 ∷ kept)
    (subst (λ (t : List ℕ). Written (44 ∷ t) (44 ∷ kept)) (sym o.is)
    (more_written [] [] o.blanks o.rest kept (nothing 0) o.are_blanks o.written))

comma_ends : (text kept : List ℕ) → Open text kept → Inside 0 (44 ∷ text) (44 ∷ kept)
comma_ends text kept o =
    subst (λ (t : List ℕ). Inside 0 (44 ∷ t) (44 ∷ kept)) (sym o.is)
    (goes_on 0 [] [] o.blanks o.rest kept (nothing 0) o.are_blanks o.written)

blank_open : (b : ℕ) (text kept : List ℕ) → is_blank b ≡ true → Open text kept → Open (b ∷ text) kept
blank_open b text kept k o = record {
  blanks = b ∷ o.blanks;
  rest = o.rest;
  is = ap (λ (t : List ℕ). b ∷ t) o.is;
  are_blanks = and_from (is_blank b) (list_all (is_in class.Blank) o.blanks) k o.are_blanks;
  written = o.written;
}

record Both (text : List ℕ) : Type 0 where
  pub inside : (depth : ℕ) → Inside depth text (listed_of false depth text)
  pub open_ : Open text (listed_of true 0 text)

at_end : (depth : ℕ) → Inside depth [] []
at_end zero = last 0 [] [] [] (nothing 0) tt
at_end (suc depth) = open_to_the_end (suc depth) [] [] depth (nothing (suc depth))

at_blank : (b : ℕ) (bs : List ℕ) → is_blank b ≡ true → Both bs → Both (b ∷ bs)
at_blank b bs k ih = record {
  inside = inside;
  open_ = subst (λ (t : List ℕ). Open (b ∷ bs) t) (sym (blank_skipped b bs k)) (blank_open b bs (listed_of true 0 bs) k ih.open_);
}
  where
    inside : (depth : ℕ) → Inside depth (b ∷ bs) (listed_of false depth (b ∷ bs))
    inside zero = subst (λ (t : List ℕ). Inside 0 (b ∷ bs) t) (sym (blank_ends b bs k)) (last 0 [] [] (b ∷ bs) (nothing 0) (ap not k))
    inside (suc depth) =
        subst (λ (t : List ℕ). Inside (suc depth) (b ∷ bs) t) (sym (blank_inside depth b bs k)) (with_blank depth b k (ih.inside (suc depth)))

at_comma : (bs : List ℕ) → Both bs → Both (44 ∷ bs)
at_comma bs ih = record { inside = inside; open_ = comma_open bs (listed_of true 0 bs) ih.open_ }
  where
    inside : (depth : ℕ) → Inside depth (44 ∷ bs) (listed_of false depth (44 ∷ bs))
    inside zero = comma_ends bs (listed_of true 0 bs) ih.open_
    inside (suc depth) = with_byte (suc depth) 44 (λ t k end p. inner_comma depth t k end p) (ih.inside (suc depth))

at_opening : (bs : List ℕ) → Both bs → Both (40 ∷ bs)
at_opening bs ih = record {
  inside = λ depth. with_byte depth 40 (λ t k end p. opening depth t k end p) (ih.inside (suc depth));
  open_ = begins_open (40 ∷ bs) (40 ∷ listed_of false 1 bs) (begun 40 (λ t k end p. opening 0 t k end p) (ih.inside 1));
}

at_closing : (bs : List ℕ) → Both bs → Both (41 ∷ bs)
at_closing bs ih = record {
  inside = inside;
  open_ = begins_open (41 ∷ bs) (41 ∷ listed_of false 0 bs) (begun 41 (λ t k end p. stray t k end p) (ih.inside 0));
}
  where
    inside : (depth : ℕ) → Inside depth (41 ∷ bs) (listed_of false depth (41 ∷ bs))
    inside zero = with_byte 0 41 (λ t k end p. stray t k end p) (ih.inside 0)
    inside (suc depth) = with_byte (suc depth) 41 (λ t k end p. closing depth t k end p) (ih.inside depth)

at_mark : (b : ℕ) (bs : List ℕ) → is_part b ≡ true → Both bs → Both (b ∷ bs)
at_mark b bs h ih = record {
  inside = λ depth. subst (λ (t : List ℕ). Inside depth (b ∷ bs) t) (sym (part_kept depth b bs h))
      (with_byte depth b (λ t k end p. mark depth b t k end h p) (ih.inside depth));
  open_ = begins_open (b ∷ bs) (listed_of true 0 (b ∷ bs)) (subst (λ (t : List ℕ). Written (b ∷ bs) t)
      (sym (let i = part_is b h in mark_first b bs i.blank ∙ part_kept 0 b bs h))
      (begun b (λ t k end p. mark 0 b t k end h p) (ih.inside 0)));
}

is_part_of : (b : ℕ) → is_blank b ≡ false → (b == 44) ≡ false → (b == 40) ≡ false → (b == 41) ≡ false → is_part b ≡ true
is_part_of b h k o c = rw (h, k, o, c) refl

kept_so : (text : List ℕ) → Both text
kept_so [] = record { inside = at_end; open_ = begins_open [] [] none_written }
kept_so (b ∷ bs) =
    let ih = kept_so bs in
    elim (cases_Bool (is_blank b)) [
      | inl blank ↦ at_blank b bs blank ih
      | inr printed ↦ elim (cases_Bool (b == 44)) [
        | inl comma ↦ subst (λ (c : ℕ). Both (c ∷ bs)) (sym (eqb-true b 44 comma)) (at_comma bs ih)
        | inr other ↦ elim (cases_Bool (b == 40)) [
          | inl opens ↦ subst (λ (c : ℕ). Both (c ∷ bs)) (sym (eqb-true b 40 opens)) (at_opening bs ih)
          | inr outside ↦ elim (cases_Bool (b == 41)) [
            | inl closes ↦ subst (λ (c : ℕ). Both (c ∷ bs)) (sym (eqb-true b 41 closes)) (at_closing bs ih)
            | inr neither ↦ at_mark b bs (is_part_of b printed other outside neither) ih
          ]
        ]
      ]
    ]

-- a text that begins with no blank is written as it is kept
written_from : (text blanks rest kept : List ℕ) → text ≡ blanks ++ rest → AreIn class.Blank blanks → Stops class.Blank text → Written rest kept
    → Written text kept
written_from text [] rest kept e h s w = subst (λ (t : List ℕ). Written t kept) (sym e) w
written_from [] (b ∷ bs) rest kept e h s w = absurd cc
written_from (c ∷ cs) (b ∷ bs) rest kept e h s w =
    let same : c ≡ b = cc in
    let holds : is_blank b ≡ true = (and_parts (is_blank b) (list_all (is_in class.Blank) bs) h).0 in
    let fails : is_blank b ≡ false = subst (λ (x : ℕ). is_blank x ≡ false) same s in
    absurd (both_ways (is_blank b) fails holds)

pub written_of : (text : List ℕ) → Stops class.Blank text → Written text (listed_of true 0 text)
written_of text s = let o = (kept_so text).open_ in written_from text o.blanks o.rest (listed_of true 0 text) o.is o.are_blanks s o.written

-- what follows a word, from its blanks and what is left after them
pub behind_of : (blanks text : List ℕ) → AreIn class.Blank blanks → Stops class.Mark (blanks ++ text) → Stops class.Blank text
    → Behind (blanks ++ text) (listed_of true 0 text)
behind_of [] [] h m s = word_alone
behind_of [] (b ∷ bs) h m s = absurd (both_ways (is_blank b) s (not-false (is_blank b) m))
behind_of (b ∷ bs) text h m s = word_operands (b ∷ bs) text (listed_of true 0 text) h (λ e. absurd cc) (written_of text s)
