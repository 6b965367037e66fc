-- The spacing of kept states that the words ask for is at least 1.
use Rattle.std.proofs.Common.{◌≡◌, ℕ, ◌≤◌, nat_le, Bool, true, false, List, refl, arith}
use Rattle.std.specs.Prelude.{Option, Some, None, Result, Ok, Err, IfOk, codes}
use Rattle.std.proofs.lemmas.Bool.Decides.{nat_tests}
use Rattle.clap.specs.Words.{Text}
use Rattle.gw_request.specs.Numbers.{number_of}
use Rattle.gw_main.specs.declared.words.Wanted.{Wanted}
use Rattle.gw_main.specs.declared.words.Refusal.{Refusal}
use Rattle.gw_main.specs.Words.{IsReadAs, said, within, word_of}

-- a number within limits is not below the least
within_least : (least greatest n : ℕ) (o : Option ℕ) → within least greatest o ≡ Some n → least ≤ n
within_least least greatest n None e = absurd cc
within_least least greatest n (Some m) e = go (nat_le least m) (nat_le m greatest) refl refl where
  go : (b c : Bool) → nat_le least m ≡ b → nat_le m greatest ≡ c → least ≤ n
  go true true low high =
      let is : Some m ≡ Some n = rw (low, high) at e in
      let same : m ≡ n = cc in
      grind (arith, nat_tests)
  go true false low high = let is : None ≡ Some n = rw (low, high) at e in absurd cc
  go false c low high = let is : None ≡ Some n = rw low at e in absurd cc

-- nor is the number that an option says
said_least : (least greatest usual n : ℕ) (word : Option Text) → least ≤ usual → said least greatest usual word ≡ Some n → least ≤ n
said_least least greatest usual n None enough e = let same : usual ≡ n = cc in omega (arith, enough, same)
said_least least greatest usual n (Some word) enough e = within_least least greatest n (number_of word) e

pub spacing : (words : List Text) (meant : Result Wanted Refusal) → IsReadAs words meant → IfOk meant (λ wanted. 1 ≤ wanted.options.every)
spacing words (Ok wanted) h =
    said_least 1 1000000 1000 wanted.options.every (word_of words (codes "every")) (omega arith) h.options.every
spacing words (Err refusal) h = tt
