-- The lists of a state under a move: the counts of blocks and the chains.
use Rattle.std.proofs.Common.{◌≡◌, ℕ, nat_eq, Bool, true, false, cond, not, List, [], ◌∷◌, map, filter, Option, Some, None, refl, ap, subst, ◌∙◌}
use Rattle.std.proofs.lemmas.Bool.Decides.{same_from_decides, Decides-like, Decides-eqb}
use Rattle.gw_nums.specs.Range.{is_below}
use Rattle.gw_meaning.specs.declared.transaction.Transaction.{Transaction}
use Rattle.gw_meaning.specs.declared.transaction.Event.{Event}
use Rattle.gw_meaning.specs.declared.transaction.Count.{Count}
use Rattle.gw_meaning.specs.declared.moves.Fate.{Fate}
use Rattle.gw_meaning.specs.Machine.{count_in, count_at, or_no_count, with_count}
use Rattle.gw_meaning.specs.Changes.{lined_up, all_lined_up, left_at, left, entered, crossed, made_one, stood, is_due, due}
use Rattle.gw_frame.specs.Moved.{IsMove, moved_count, moved_transaction, moved_event}

-- of two choices by one test, the moved is the choice of the moved
pub cond_under : {A B : Type 0} (f : A → B) (b : Bool) (x y : A) (v w : B) → v ≡ f x → w ≡ f y → cond b v w ≡ f (cond b x y)
cond_under f true x y v w yes' no' = yes'
cond_under f false x y v w yes' no' = no'

module _ (move : ℕ → ℕ) (is : IsMove move) where
  -- moved ids are equal where the ids are
  pub eq_moved : (p q : ℕ) → nat_eq (move p) (move q) ≡ nat_eq p q
  eq_moved p q = same_from_decides (nat_eq (move p) (move q)) (nat_eq p q)
      (Decides-like (nat_eq (move p) (move q)) (is.apart p q) (ap move) (Decides-eqb (move p) (move q))) (Decides-eqb p q)

  -- a moved id is no block where the id is none
  pub none_moved : (p : ℕ) → nat_eq (move p) 0 ≡ nat_eq p 0
  none_moved p = let P : ℕ → Type 0 = λ z. nat_eq (move p) z ≡ nat_eq p 0 in subst P is.none (eq_moved p 0)

  count_in_moved : (cs : List (ℕ × Count)) (id : ℕ) → count_in (map (moved_count move) cs) (move id) ≡ count_in cs id
  count_in_moved [] id = refl
  count_in_moved (c ∷ cs) id = rw (eq_moved id c.0) (ap (λ o. cond (nat_eq id c.0) (Some c.1) o) (count_in_moved cs id))

  pub count_at_moved : (cs : List (ℕ × Count)) (id : ℕ) → count_at (map (moved_count move) cs) (move id) ≡ count_at cs id
  count_at_moved cs id = ap or_no_count (count_in_moved cs id)

  with_count_moved : (cs : List (ℕ × Count)) (id : ℕ) (c : Count) →
      with_count (map (moved_count move) cs) (move id) c ≡ map (moved_count move) (with_count cs id c)
  with_count_moved [] id c = refl
  with_count_moved (d ∷ ds) id c = rw (eq_moved id d.0)
      (cond_under (map (moved_count move)) (nat_eq id d.0) _ _ _ _ refl (ap (λ cs. moved_count move d ∷ cs) (with_count_moved ds id c)))

  left_at_moved : (o : Option Count) (cs : List (ℕ × Count)) (id : ℕ) →
      left_at o (map (moved_count move) cs) (move id) ≡ map (moved_count move) (left_at o cs id)
  left_at_moved None cs id = refl
  left_at_moved (Some c) cs id = with_count_moved cs id _

  left_moved : (cs : List (ℕ × Count)) (id : ℕ) → left (map (moved_count move) cs) (move id) ≡ map (moved_count move) (left cs id)
  left_moved cs id = rw (count_in_moved cs id) (left_at_moved (count_in cs id) cs id)

  entered_moved : (fate : Fate) (cs : List (ℕ × Count)) (id : ℕ) →
      entered fate (map (moved_count move) cs) (move id) ≡ map (moved_count move) (entered fate cs id)
  entered_moved fate cs id = rw (count_at_moved cs id) (with_count_moved cs id _)

  pub crossed_moved : (fate : Fate) (cs : List (ℕ × Count)) (from to : ℕ) →
      crossed fate (map (moved_count move) cs) (move from) (move to) ≡ map (moved_count move) (crossed fate cs from to)
  crossed_moved fate cs from to = rw (left_moved cs from) (entered_moved fate (left cs from) to)

  pub made_one_moved : (cs : List (ℕ × Count)) (id : ℕ) → made_one (map (moved_count move) cs) (move id) ≡ map (moved_count move) (made_one cs id)
  made_one_moved cs id = rw (count_at_moved cs id) (with_count_moved cs id _)

  pub stood_moved : (cs : List (ℕ × Count)) (id : ℕ) → stood (map (moved_count move) cs) (move id) ≡ map (moved_count move) (stood cs id)
  stood_moved cs id = rw (count_at_moved cs id) (with_count_moved cs id _)

module _ (move : ℕ → ℕ) where
  pub lined_up_moved : (x : Transaction) (ys : List Transaction) →
      lined_up (moved_transaction move x) (map (moved_transaction move) ys) ≡ map (moved_transaction move) (lined_up x ys)
  lined_up_moved x [] = refl
  lined_up_moved x (y ∷ ys) =
      cond_under (map (moved_transaction move)) (is_below y.priority x.priority) _ _ _ _ refl (ap (λ zs. moved_transaction move y ∷ zs) (lined_up_moved x ys))

  pub all_lined_up_moved : (xs chain : List Transaction) →
      all_lined_up (map (moved_transaction move) xs) (map (moved_transaction move) chain) ≡ map (moved_transaction move) (all_lined_up xs chain)
  all_lined_up_moved [] chain = refl
  all_lined_up_moved (x ∷ xs) chain = ap (all_lined_up (map (moved_transaction move) xs)) (lined_up_moved x chain) ∙ all_lined_up_moved xs (lined_up x chain)

  pub due_moved : (time : ℕ) (es : List Event) → due time (map (moved_event move) es) ≡ map (moved_transaction move) (due time es)
  due_moved time [] = refl
  due_moved time (e ∷ es) = cond_under (map (moved_transaction move)) (is_due time e) _ _ _ _
      (ap (λ xs. moved_transaction move e.transaction ∷ xs) (due_moved time es)) (due_moved time es)

  pub later_moved : (time : ℕ) (es : List Event) → filter (λ e. not (is_due time e)) (map (moved_event move) es) ≡
      map (moved_event move) (filter (λ e. not (is_due time e)) es)
  later_moved time [] = refl
  later_moved time (e ∷ es) =
      cond_under (map (moved_event move)) (not (is_due time e)) _ _ _ _ (ap (λ fs. moved_event move e ∷ fs) (later_moved time es)) (later_moved time es)
