-- Texts are cut at commas, at line feeds and at bars.
use Rattle.std.proofs.Common.{◌≡◌, ◌≢◌, ℕ, ◌==◌, ◌&&◌, false, List, [], ◌∷◌, ◌++◌, refl, ap, ◌∙◌}
use Rattle.std.proofs.lemmas.Bool.{and_right}
use Rattle.std.proofs.lemmas.List.Elements.{All-head, All-tail}
use Rattle.gw_lines.specs.declared.class.Class.TheVariants as class
use Rattle.gw_lines.specs.Classes.{with_byte, pieces_of}
use Rattle.gw_lines.specs.Models.{begins_line_feed, lines_of}
use Rattle.gw_lines.specs.Parts.{split}
use Rattle.gw_lines.specs.Cuts.{Lacks, CutsAtCommas, CutsAtLineFeeds, CutsAtBars}
use Rattle.gw_lines.proofs.Parts.{split_on}

module _ (byte : ℕ) where
  head_lacks : (b : ℕ) (bs : List ℕ) → Lacks byte (b ∷ bs) → (b == byte) ≡ false
  head_lacks b bs h = All-head (λ c. (c == byte) ≡ false) b bs h

  tail_lacks : (b : ℕ) (bs : List ℕ) → Lacks byte (b ∷ bs) → Lacks byte bs
  tail_lacks b bs h = All-tail (λ c. (c == byte) ≡ false) b bs h

-- ---- commas

last_part : (part : List ℕ) → Lacks 44 part → split part ≡ part ∷ []
last_part [] h = refl
last_part (b ∷ bs) h = split_on b bs (head_lacks 44 b bs h) ∙ ap (with_byte b) (last_part bs (tail_lacks 44 b bs h))

more_parts : (part rest : List ℕ) → Lacks 44 part → split (part ++ 44 ∷ rest) ≡ part ∷ split rest
more_parts [] rest h = refl
more_parts (b ∷ bs) rest h =
    split_on b (bs ++ 44 ∷ rest) (head_lacks 44 b bs h) ∙ ap (with_byte b) (more_parts bs rest (tail_lacks 44 b bs h))

pub cuts_at_commas : CutsAtCommas
cuts_at_commas = record { last = last_part; more = more_parts }

-- ---- line feeds

-- a byte that ends no line stands before the first one
line_on : (b : ℕ) (bs : List ℕ) → (b == 10) ≡ false → (b == 13 && begins_line_feed bs) ≡ false → lines_of (b ∷ bs) ≡ with_byte b (lines_of bs)
line_on b bs h k = rw (h, k) refl

no_feed : (bs : List ℕ) → Lacks 10 bs → begins_line_feed bs ≡ false
no_feed [] h = refl
no_feed (b ∷ bs) h = head_lacks 10 b bs h

last_line : (b : ℕ) (bs : List ℕ) → Lacks 10 (b ∷ bs) → lines_of (b ∷ bs) ≡ (b ∷ bs) ∷ []
last_line b [] h = line_on b [] (head_lacks 10 b [] h) (and_right (b == 13) false refl)
last_line b (c ∷ bs) h =
    let rest = tail_lacks 10 b (c ∷ bs) h in
    line_on b (c ∷ bs) (head_lacks 10 b (c ∷ bs) h) (and_right (b == 13) (begins_line_feed (c ∷ bs)) (no_feed (c ∷ bs) rest))
    ∙ ap (with_byte b) (last_line c bs rest)

some_line : (line : List ℕ) → line ≢ [] → Lacks 10 line → lines_of line ≡ line ∷ []
some_line [] some h = absurd (some refl)
some_line (b ∷ bs) some h = last_line b bs h

more_lines : (line rest : List ℕ) → Lacks 10 line → Lacks 13 line → lines_of (line ++ 10 ∷ rest) ≡ line ∷ lines_of rest
more_lines [] rest h k = refl
more_lines (b ∷ bs) rest h k =
    line_on b (bs ++ 10 ∷ rest) (head_lacks 10 b bs h) (ap (λ x. x && begins_line_feed (bs ++ 10 ∷ rest)) (head_lacks 13 b bs k))
    ∙ ap (with_byte b) (more_lines bs rest (tail_lacks 10 b bs h) (tail_lacks 13 b bs k))

-- in front of a carriage return no line feed begins, but after it
feed_later : (bs rest : List ℕ) → Lacks 10 bs → begins_line_feed (bs ++ 13 ∷ 10 ∷ rest) ≡ false
feed_later [] rest h = refl
feed_later (b ∷ bs) rest h = head_lacks 10 b bs h

returned_line : (line rest : List ℕ) → Lacks 10 line → lines_of (line ++ 13 ∷ 10 ∷ rest) ≡ line ∷ lines_of rest
returned_line [] rest h = refl
returned_line (b ∷ bs) rest h =
    let behind = tail_lacks 10 b bs h in
    line_on b (bs ++ 13 ∷ 10 ∷ rest) (head_lacks 10 b bs h)
    (and_right (b == 13) (begins_line_feed (bs ++ 13 ∷ 10 ∷ rest)) (feed_later bs rest behind))
    ∙ ap (with_byte b) (returned_line bs rest behind)

pub cuts_at_line_feeds : CutsAtLineFeeds
cuts_at_line_feeds = record { none = refl; last = some_line; more = more_lines; returned = returned_line }

-- ---- bars

bar_on : (b : ℕ) (bs : List ℕ) → (b == 124) ≡ false → pieces_of class.Part (b ∷ bs) ≡ with_byte b (pieces_of class.Part bs)
bar_on b bs h = rw h refl

last_piece : (b : ℕ) (bs : List ℕ) → Lacks 124 (b ∷ bs) → pieces_of class.Part (b ∷ bs) ≡ (b ∷ bs) ∷ []
last_piece b [] h = bar_on b [] (head_lacks 124 b [] h)
last_piece b (c ∷ bs) h = bar_on b (c ∷ bs) (head_lacks 124 b (c ∷ bs) h) ∙ ap (with_byte b) (last_piece c bs (tail_lacks 124 b (c ∷ bs) h))

some_piece : (line : List ℕ) → line ≢ [] → Lacks 124 line → pieces_of class.Part line ≡ line ∷ []
some_piece [] some h = absurd (some refl)
some_piece (b ∷ bs) some h = last_piece b bs h

more_pieces : (line rest : List ℕ) → Lacks 124 line → pieces_of class.Part (line ++ 124 ∷ rest) ≡ line ∷ pieces_of class.Part rest
more_pieces [] rest h = refl
more_pieces (b ∷ bs) rest h =
    bar_on b (bs ++ 124 ∷ rest) (head_lacks 124 b bs h) ∙ ap (with_byte b) (more_pieces bs rest (tail_lacks 124 b bs h))

pub cuts_at_bars : CutsAtBars
cuts_at_bars = record { none = refl; last = some_piece; more = more_pieces }
