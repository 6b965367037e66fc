-- Where streams stand at the beginning, and streams set to one value more.
use Rattle.std.proofs.Common.{◌≡◌, ℕ, zero, suc, ◌+◌, List, [], ◌∷◌, take, get_or, Option, Some, None, refl, ap, add-one}
use Rattle.gw_streams.specs.declared.stream.Stream.{Stream}
use Rattle.gw_streams.specs.declared.stream.Stream.TheVariants.{Set}
use Rattle.gw_streams.specs.Draws.{untouched, stream_at, with_stream, set_stream, all_set}

-- at the beginning each stream is set to its number
pub set_to_numbers : (j : ℕ) → stream_at untouched j ≡ Set j
set_to_numbers zero = refl
set_to_numbers (suc zero) = refl
set_to_numbers (suc (suc zero)) = refl
set_to_numbers (suc (suc (suc zero))) = refl
set_to_numbers (suc (suc (suc (suc zero)))) = refl
set_to_numbers (suc (suc (suc (suc (suc zero))))) = refl
set_to_numbers (suc (suc (suc (suc (suc (suc zero)))))) = refl
set_to_numbers (suc (suc (suc (suc (suc (suc (suc j))))))) = last j where
  last : (j : ℕ) → stream_at untouched (suc (suc (suc (suc (suc (suc (suc j))))))) ≡ Set (suc (suc (suc (suc (suc (suc (suc j)))))))
  last zero = refl
  last (suc j) = refl

some_more : (ss : List Stream) (values : List (Option ℕ)) (i value : ℕ) → get_or values i None ≡ Some value
    → all_set ss (take (suc i) values) ≡ with_stream (all_set ss (take i values)) (suc i) (Set value)
some_more ss [] i value e = cc
some_more [] (v ∷ vs) zero value e = refl
some_more [] (v ∷ vs) (suc i) value e = refl
some_more (s ∷ ss) (v ∷ vs) zero value e = ap (λ o. set_stream s o ∷ ss) e
some_more (s ∷ ss) (v ∷ vs) (suc i) value e = ap (λ l. set_stream s v ∷ l) (some_more ss vs i value e)

none_more : (ss : List Stream) (values : List (Option ℕ)) (i : ℕ) → get_or values i None ≡ None
    → all_set ss (take (suc i) values) ≡ all_set ss (take i values)
none_more ss [] zero e = refl
none_more ss [] (suc i) e = refl
none_more [] (v ∷ vs) zero e = refl
none_more [] (v ∷ vs) (suc i) e = refl
none_more (s ∷ ss) (v ∷ vs) zero e = ap (λ o. set_stream s o ∷ ss) e
none_more (s ∷ ss) (v ∷ vs) (suc i) e = ap (λ l. set_stream s v ∷ l) (none_more ss vs i e)

-- a value that is given sets its stream
pub some_sets : (ss : List Stream) (values : List (Option ℕ)) (i value : ℕ) → get_or values i None ≡ Some value
    → all_set ss (take (i + 1) values) ≡ with_stream (all_set ss (take i values)) (i + 1) (Set value)
some_sets ss values i value e = rw add-one (some_more ss values i value e)

-- where no value is given nothing changes
pub none_keeps : (ss : List Stream) (values : List (Option ℕ)) (i : ℕ) → get_or values i None ≡ None
    → all_set ss (take (i + 1) values) ≡ all_set ss (take i values)
none_keeps ss values i e = rw add-one (none_more ss values i e)
