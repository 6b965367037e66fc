-- No transaction but the active one ceases to live in a step.
use Rattle.std.proofs.Common.{◌≡◌, ℕ, ◌≤◌, ◌⊎◌, true, List, [], ◌∷◌, Some, refl, sym, ap, subst, ◌∙◌, arith, inl, inr}
use Rattle.std.proofs.lemmas.Bool.{cases_Bool, cases_eq, cases_lt, ne_eqb, false≢true}
use Rattle.gw_meaning.specs.declared.transaction.Transaction.{Transaction}
use Rattle.gw_meaning.specs.declared.moves.Arrival.{Arrival}
use Rattle.gw_meaning.specs.declared.moves.Move.{Move}
use Rattle.gw_meaning.specs.declared.moves.Move.TheVariants as moves
use Rattle.gw_meaning.specs.Listing.{Listing}
use Rattle.gw_meaning.specs.Machine.{Machine}
use Rattle.gw_meaning.specs.Changes.{Making, made, all_made, making_of, with_making, newcomer, started, moved, written, woken}
use Rattle.gw_meaning.proofs.Programs.{run_on}
use Rattle.gw_meaning.specs.declared.watched.Watched.{Watched}
use Rattle.gw_laws.specs.Living.{living}
use Rattle.gw_laws.specs.Numbering.{OnlyTheActiveGoes, lives}
use Rattle.gw_frame.proofs.Decided.{step_decides}
use Rattle.gw_frame.proofs.Known.{IsDecided}
use Rattle.gw_frame.proofs.Moves.{entered_has}
use Rattle.gw_laws.proofs.Crowd.{one, crowd, active_crowd, many_living, future_push, settled_crowd, copied_crowd, unlinked_crowd, woken_crowd}
use Rattle.gw_laws.proofs.NumberLaws.{has_number, lets_same, not_alive, alive}
use Rattle.gw_laws.proofs.Anew.{all_stay, no_clear}
use Rattle.gw_laws.specs.Anew.{Clears}

module _ (k : ℕ) where
  -- a transaction with this number lives, or was the active one before
  abbrev pub Lives : Machine → Type 0
  Lives s = 1 ≤ crowd (has_number k) s

  abbrev WasActive : Machine → Type 0
  WasActive s = (x : Transaction) × (s.active ≡ Some x) × (x.number ≡ k)

  abbrev LivesOn : Machine → Machine → Type 0
  LivesOn s v = Lives v ⊎ WasActive s

  pub made_lives : (a : Arrival) (w : Making) (s : Machine) → Lives (with_making w s) → Lives (with_making (made a w) s)
  made_lives a w s h = let push = future_push (has_number k) w.future (newcomer w.next a) in omega (arith, h, push)

  pub all_made_lives : (arrivals : List Arrival) (w : Making) (s : Machine) → Lives (with_making w s) → Lives (with_making (all_made arrivals w) s)
  all_made_lives [] w s h = h
  all_made_lives (a ∷ rest) w s h = all_made_lives rest (made a w) s (made_lives a w s h)

  moved_lives : (t : Listing) (s : Machine) (m : Move) → IsDecided t s m → (Clears m → ⊥) → Lives s → LivesOn s (moved s m)
  moved_lives t s (moves.Start count arrivals) decided apart h = inl (all_made_lives arrivals (making_of s) (started count s) h)
  moved_lives t s moves.Clear decided apart h = absurd (apart tt)
  moved_lives t s (moves.Enter id change fate) decided apart h =
      entered_has (LivesOn s) (LivesOn s) t s id change fate decided.1 (inl h)
      (λ x is.
      elim (cases_eq x.number k) [
        | inl same ↦ inr (x, is, same)
        | inr other ↦
            let not' : one (has_number k x) ≡ 0 = ap one (ne_eqb x.number k other) in
            let was = active_crowd (has_number k) s x is in
            let now = settled_crowd (has_number k) s x id change fate in
            inl (omega (arith, h, not', was, now))
      ])
      (λ v. record {
        nothing = λ g. g;
        one = λ a coming g. elim g [ inl here ↦ inl (made_lives a (making_of v) v here) | inr was ↦ inr was ];
        lets = λ w key x passed xs is g.
            (let same = lets_same k w key x passed xs is in elim g [ inl here ↦ inl (omega (arith, same, here)) | inr was ↦ inr was ]);
        copies = λ w to x values copying g.
            (let more = copied_crowd (has_number k) to x values w in elim g [ inl here ↦ inl (omega (arith, more, here)) | inr was ↦ inr was ]);
        unlinks = λ w key to x xs named is g.
            (let same = unlinked_crowd (has_number k) w key to x xs is refl in
            elim g [ inl here ↦ inl (omega (arith, same, here)) | inr was ↦ inr was ]);
      })
  moved_lives t s m decided apart h =
      let same = (all_stay (has_number k) t s m decided tt (λ x id units. refl)).crowd in inl (omega (arith, h, same))

  woken_lives : (list : List Watched) (s v : Machine) → LivesOn s v → LivesOn s (woken list v)
  woken_lives list s v (inl here) = let same = woken_crowd (has_number k) list v in inl (omega (arith, same, here))
  woken_lives list s v (inr was) = inr was

  -- what that says of the list of the living
  here_lives : (s : Machine) → lives s k ≡ true → Lives s
  here_lives s is =
      elim (cases_lt 0 (crowd (has_number k) s)) [
        | inl some ↦ some
        | inr none ↦
            absurd (let no = alive k (living s) (many_living (has_number k) s ∙ omega arith) in false≢true (sym no ∙ is))
      ]

  pub lives_here : (s : Machine) → Lives s → lives s k ≡ true
  lives_here s h =
      elim (cases_Bool (lives s k)) [
        | inl is ↦ is
        | inr gone ↦ absurd (let none = not_alive k (living s) gone in let same = many_living (has_number k) s in omega (arith, h, none, same))
      ]

pub only_the_active_goes : OnlyTheActiveGoes
only_the_active_goes t seed n s v there is none k here =
    let after = (step_decides t seed s v (sym (run_on t seed n s there) ∙ is)).0 in
    let on : LivesOn k s v = subst (LivesOn k s) (sym after.is)
    (woken_lives k (written s after.move) s (moved s after.move) (moved_lives k t s after.move after.is_decided
    (no_clear t s after.move after.is_decided none) (here_lives k s here))) in
    elim on [ inl lives' ↦ inl (lives_here k v lives') | inr was ↦ inr was ]
