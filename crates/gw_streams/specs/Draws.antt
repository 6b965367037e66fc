-- Random streams and their draws. (Park and Miller's generator. Our own: where a stream starts, and that it stays set
-- to a value until it draws, so that the seed is wanted at its first draw alone.)
use Rattle.std.specs.Prelude.{ℕ, zero, suc, ◌+◌, ◌-◌, ◌*◌, ◌%◌, Bool, true, false, List, [], ◌∷◌, Option, Some, None, unwrap_or, slice_get, slice_set}
use Rattle.gw_streams.specs.declared.stream.Stream.{Stream}
use Rattle.gw_streams.specs.declared.stream.Stream.TheVariants.{Set, At}

-- the number that the generator gives after x
abbrev pub next_of : ℕ → ℕ
next_of x = (16807 * x) % 2147483647

-- the number before the first draw of a stream that is set to a value, in a replication with this seed
abbrev pub start_of : ℕ → ℕ → ℕ
start_of value seed = 1 + (value + seed - 2) % 2147483646

-- the number that a stream draws
abbrev pub drawn_of : ℕ → Stream → ℕ
drawn_of seed (Set value) = next_of (start_of value seed)
drawn_of seed (At x) = next_of x

-- whether the seed is wanted for it
abbrev pub is_set : Stream → Bool
is_set (Set value) = true
is_set (At x) = false

-- the seven streams at the beginning, each set to its number
abbrev pub untouched : List Stream
untouched = Set 1 ∷ Set 2 ∷ Set 3 ∷ Set 4 ∷ Set 5 ∷ Set 6 ∷ Set 7 ∷ []

-- stream j, from 1, if it is kept
abbrev pub kept_at : List Stream → ℕ → Option Stream
kept_at streams zero = None
kept_at streams (suc i) = slice_get streams i

-- stream j; one that is not kept is set to its number
abbrev pub stream_at : List Stream → ℕ → Stream
stream_at streams j = unwrap_or (kept_at streams j) (Set j)

-- the streams with stream j, if it is kept, at another number
abbrev pub with_stream : List Stream → ℕ → Stream → List Stream
with_stream streams zero stream = streams
with_stream streams (suc i) stream = slice_set streams i stream

-- the streams set to values, in order; where no value is given a stream stays
abbrev pub set_stream : Stream → Option ℕ → Stream
set_stream s None = s
set_stream s (Some value) = Set value

abbrev pub all_set : List Stream → List (Option ℕ) → List Stream
all_set streams [] = streams
all_set [] (value ∷ values) = []
all_set (s ∷ ss) (value ∷ values) = set_stream s value ∷ all_set ss values
