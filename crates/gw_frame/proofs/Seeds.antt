-- The seed is read where a stream draws first: what draws do to the streams, one after another.
use Rattle.std.proofs.Common.{◌≡◌, ℕ, zero, suc, ◌<◌, Bool, true, false, not, ◌&&◌, ◌||◌, List, [], ◌∷◌, ◌++◌, length, Option, Some, None, refl, ap, ap₂, ◌∙◌, arith}
use Rattle.std.specs.Prelude.{slice_get, slice_set, unwrap_or}
use Rattle.std.specs.List.{list_any}
use Rattle.std.proofs.lemmas.List.Folds.{list_any-append}
use Rattle.gw_streams.specs.declared.stream.Stream.{Stream}
use Rattle.gw_streams.specs.declared.stream.Stream.TheVariants as streams
use Rattle.gw_streams.specs.Draws.{is_set, all_set, stream_at, with_stream}
use Rattle.gw_meaning.specs.declared.item.Item.{Item}
use Rattle.gw_meaning.specs.declared.item.Item.TheVariants as items
use Rattle.gw_meaning.specs.Reads.{is_use}
use Rattle.gw_frame.specs.Seeds.{draws_first}

abbrev pub uses_seed : List Item → Bool
uses_seed is = list_any (is_use items.Seed) is

-- each stream is set only where it was before
abbrev AreDrawn : List Stream → List Stream → Type 0
AreDrawn [] [] = Unit {0}
AreDrawn (b ∷ before) (a ∷ after) = (is_set a ≡ true → is_set b ≡ true) × AreDrawn before after
AreDrawn before after = ⊥

-- draws led from streams to others, and were all that read the seed
pub record HaveDrawn (before after : List Stream) (is : List Item) : Type 0 where
  pub seven : length after ≡ 7
  pub drawn : AreDrawn before after
  pub seed : uses_seed is ≡ draws_first before after

abbrev pub Drew : List Stream → List Stream → List Item → Type 0
Drew before after is = length before ≡ 7 → HaveDrawn before after is

-- what is left of that where a command may set streams
abbrev pub ReadsSeed : List Stream → List Stream → List Item → Type 0
ReadsSeed before after is = length before ≡ 7 → (length after ≡ 7) × (uses_seed is ≡ draws_first before after)

-- no draw
undrawn : (ss : List Stream) → AreDrawn ss ss
undrawn [] = tt
undrawn (s ∷ ss) = (λ h. h, undrawn ss)

none_first : (ss : List Stream) → false ≡ draws_first ss ss
none_first [] = refl
none_first (streams.Set value ∷ ss) = none_first ss
none_first (streams.At x ∷ ss) = none_first ss

pub none_drew : (ss : List Stream) → Drew ss ss []
none_drew ss seven = record { seven = seven; drawn = undrawn ss; seed = none_first ss }

-- one draw
one_drawn : (ss : List Stream) (i x : ℕ) → i < length ss → (s : Stream) → slice_get ss i ≡ Some s →
    AreDrawn ss (slice_set ss i (streams.At x)) × (is_set s ≡ draws_first ss (slice_set ss i (streams.At x))) ×
    (length (slice_set ss i (streams.At x)) ≡ length ss)
one_drawn [] i x within s is = absurd cc
one_drawn (streams.Set value ∷ ss) zero x within s is = let same : streams.Set value ≡ s = cc in rw (← same) ((λ h. refl, undrawn ss), refl, refl)
one_drawn (streams.At y ∷ ss) zero x within s is = let same : streams.At y ≡ s = cc in rw (← same) ((λ h. h, undrawn ss), none_first ss, refl)
one_drawn (streams.Set value ∷ ss) (suc i) x within s is =
    let rest = one_drawn ss i x (omega arith) s is in ((λ h. h, rest.0), rest.1, ap (λ n. suc n) rest.2)
one_drawn (streams.At y ∷ ss) (suc i) x within s is =
    let rest = one_drawn ss i x (omega arith) s is in ((λ h. h, rest.0), rest.1, ap (λ n. suc n) rest.2)

-- draws one after another
first_or : (b m a c d : Bool) → (m ≡ true → b ≡ true) → (a ≡ true → m ≡ true) →
    (((b && not m) || c) || ((m && not a) || d)) ≡ ((b && not a) || (c || d))
first_or true true true c d before after = refl
first_or true true false true d before after = refl
first_or true true false false d before after = refl
first_or true false true c d before after = absurd (let e = after refl in cc)
first_or true false false c d before after = refl
first_or false true a c d before after = absurd (let e = before refl in cc)
first_or false false true c d before after = absurd (let e = after refl in cc)
first_or false false false c d before after = refl

drawn_on : (before mid after : List Stream) → AreDrawn before mid → AreDrawn mid after →
    AreDrawn before after × ((draws_first before mid || draws_first mid after) ≡ draws_first before after)
drawn_on [] [] [] first second = (tt, refl)
drawn_on [] [] (a ∷ after) first second = absurd second
drawn_on [] (m ∷ mid) after first second = absurd first
drawn_on (b ∷ before) [] after first second = absurd first
drawn_on (b ∷ before) (m ∷ mid) [] first second = absurd second
drawn_on (b ∷ before) (m ∷ mid) (a ∷ after) first second =
    let rest = drawn_on before mid after first.1 second.1 in (
      (λ h. first.0 (second.0 h), rest.0),
      first_or (is_set b) (is_set m) (is_set a) (draws_first before mid) (draws_first mid after) first.0 second.0 ∙
          ap (λ c. (is_set b && not (is_set a)) || c) rest.1,
    )

pub both_drew : (before mid after : List Stream) (is js : List Item) → Drew before mid is → Drew mid after js → Drew before after (is ++ js)
both_drew before mid after is js first second seven =
    let one = first seven in
    let two = second one.seven in
    let whole = drawn_on before mid after one.drawn two.drawn in
    record {
      seven = two.seven;
      drawn = whole.0;
      seed = list_any-append (is_use items.Seed) is js ∙ (ap₂ ◌||◌ one.seed two.seed ∙ whole.1);
    }

pub asks_drew : (before after : List Stream) (i : Item) (is : List Item) → is_use items.Seed i ≡ false → Drew before after is → Drew before after (i ∷ is)
asks_drew before after i is other h seven =
    let rest = h seven in
    record { seven = rest.seven; drawn = rest.drawn; seed = rw other rest.seed }

-- streams that are set anew do not draw
pub set_first : (ss : List Stream) (values : List (Option ℕ)) → (false ≡ draws_first ss (all_set ss values)) × (length (all_set ss values) ≡ length ss)
set_first ss [] = (none_first ss, refl)
set_first [] (value ∷ values) = (refl, refl)
set_first (streams.Set y ∷ ss) (None ∷ values) = let rest = set_first ss values in (rest.0, ap (λ n. suc n) rest.1)
set_first (streams.At y ∷ ss) (None ∷ values) = let rest = set_first ss values in (rest.0, ap (λ n. suc n) rest.1)
set_first (streams.Set y ∷ ss) (Some value ∷ values) = let rest = set_first ss values in (rest.0, ap (λ n. suc n) rest.1)
set_first (streams.At y ∷ ss) (Some value ∷ values) = let rest = set_first ss values in (rest.0, ap (λ n. suc n) rest.1)

-- a draw from a stream that is kept
kept_there : (ss : List Stream) (i : ℕ) (d : Stream) → i < length ss → slice_get ss i ≡ Some (unwrap_or (slice_get ss i) d)
kept_there [] i d within = absurd (omega arith)
kept_there (s ∷ ss) zero d within = refl
kept_there (s ∷ ss) (suc i) d within = kept_there ss i d (omega arith)

pub one_drew : (before : List Stream) (i x : ℕ) (is : List Item) → i < 7 → uses_seed is ≡ is_set (stream_at before (suc i)) →
    Drew before (with_stream before (suc i) (streams.At x)) is
one_drew before i x is kept seed seven =
    let one = one_drawn before i x (omega arith) (stream_at before (suc i)) (kept_there before i (streams.Set (suc i)) (omega arith)) in
    record { seven = one.2 ∙ seven; drawn = one.0; seed = seed ∙ one.1 }
