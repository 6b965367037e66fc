-- Full chunks at the front of a list: where an item of them stands, and what an edit leaves full.
use Rattle.std.proofs.Common.{◌≡◌, ℕ, zero, suc, ◌-◌, ◌*◌, ◌/◌, ◌%◌, ◌<◌, ◌≤◌, List, [], ◌∷◌, ◌++◌, length, map, get_or, set, take, insert, remove, refl, sym, ap, ◌∙◌, subst, arith}
use Rattle.std.proofs.lemmas.Nat.{div-add-mod', mod_below}
use Rattle.std.proofs.lemmas.List.{length-append}
use Rattle.gw_shared.specs.declared.chunk.Chunk.{Chunk}
use Rattle.gw_shared.specs.Lists.{chunk_items, joined, IsPlace, AreFull}

module _ {A : Type 0} where
  pub count : (n : ℕ) (cs : List (Chunk A)) → AreFull n cs → n ≤ length cs
  count zero cs full = omega arith
  count (suc n) [] full = absurd full
  count (suc n) (c ∷ cs) full = let rest = count n cs full.1 in omega (arith, rest)

  before : (n q : ℕ) (cs : List (Chunk A)) → AreFull n cs → q ≤ n → length (joined (take q cs)) ≡ q * 64
  before n zero cs full h = refl
  before zero (suc q) cs full h = absurd (omega (arith, h))
  before (suc n) (suc q) [] full h = absurd full
  before (suc n) (suc q) (c ∷ cs) full h =
      let here = full.0 in
      let rest = before n q cs full.1 (omega (arith, h)) in
      length-append (chunk_items c) (joined (take q cs)) ∙ omega (arith, here, rest)

  at : (n q : ℕ) (cs : List (Chunk A)) (c : Chunk A) → AreFull n cs → q < n → c ≡ get_or cs q c → length (chunk_items c) ≡ 64
  at zero q cs c full h there = absurd (omega (arith, h))
  at (suc n) q [] c full h there = absurd full
  at (suc n) zero (d ∷ cs) c full h there = ap (λ e. length (chunk_items e)) there ∙ full.0
  at (suc n) (suc q) (d ∷ cs) c full h there = at n q cs c full.1 (omega (arith, h)) there

  -- an item of them
  pub place : (n i : ℕ) (cs : List (Chunk A)) → AreFull n cs → i / 64 < n → IsPlace cs i (i / 64) (i % 64)
  place n i cs full h =
      let all = count n cs full in
      let front = before n (i / 64) cs full (omega (arith, h)) in
      let parts = div-add-mod' i 64 in
      let small = mod_below i 64 (omega arith) in
      record {
        within = omega (arith, h, all);
        before = omega (arith, front, parts);
        inside = λ c there. let whole = at n (i / 64) cs c full h there in omega (arith, whole, small);
      }

  -- one that is not full stands after them
  pub behind : (n q : ℕ) (cs : List (Chunk A)) (c : Chunk A) → AreFull n cs → c ≡ get_or cs q c → length (chunk_items c) < 64 → n ≤ q
  behind zero q cs c full there less = omega arith
  behind (suc n) q [] c full there less = absurd full
  behind (suc n) zero (d ∷ cs) c full there less = let whole = at (suc n) zero (d ∷ cs) c full (omega arith) there in absurd (omega (arith, whole, less))
  behind (suc n) (suc q) (d ∷ cs) c full there less = let rest = behind n q cs c full.1 there less in omega (arith, rest)

  -- fewer of them
  pub fewer : (n m : ℕ) (cs : List (Chunk A)) → AreFull n cs → m ≤ n → AreFull m cs
  fewer n zero cs full h = tt
  fewer zero (suc m) cs full h = absurd (omega (arith, h))
  fewer (suc n) (suc m) [] full h = absurd full
  fewer (suc n) (suc m) (c ∷ cs) full h = (full.0, fewer n m cs full.1 (omega (arith, h)))

  -- edits after them
  pub set_behind : (n q : ℕ) (cs : List (Chunk A)) (c : Chunk A) → AreFull n cs → n ≤ q → AreFull n (set cs q c)
  set_behind zero q cs c full h = tt
  set_behind (suc n) q [] c full h = absurd full
  set_behind (suc n) zero (d ∷ cs) c full h = absurd (omega (arith, h))
  set_behind (suc n) (suc q) (d ∷ cs) c full h = (full.0, set_behind n q cs c full.1 (omega (arith, h)))

  pub insert_behind : (n q : ℕ) (cs : List (Chunk A)) (c : Chunk A) → AreFull n cs → n ≤ q → AreFull n (insert cs q c)
  insert_behind zero q cs c full h = tt
  insert_behind (suc n) q [] c full h = absurd full
  insert_behind (suc n) zero (d ∷ cs) c full h = absurd (omega (arith, h))
  insert_behind (suc n) (suc q) (d ∷ cs) c full h = (full.0, insert_behind n q cs c full.1 (omega (arith, h)))

  pub remove_behind : (n q : ℕ) (cs : List (Chunk A)) → AreFull n cs → n ≤ q → AreFull n (remove cs q)
  remove_behind zero q cs full h = tt
  remove_behind (suc n) q [] full h = absurd full
  remove_behind (suc n) zero (d ∷ cs) full h = absurd (omega (arith, h))
  remove_behind (suc n) (suc q) (d ∷ cs) full h = (full.0, remove_behind n q cs full.1 (omega (arith, h)))

  pub push_behind : (n : ℕ) (cs : List (Chunk A)) (c : Chunk A) → AreFull n cs → AreFull n (cs ++ c ∷ [])
  push_behind zero cs c full = tt
  push_behind (suc n) [] c full = absurd full
  push_behind (suc n) (d ∷ cs) c full = (full.0, push_behind n cs c full.1)

  -- the next one is full too
  pub one_more : (n : ℕ) (cs : List (Chunk A)) (c : Chunk A) → AreFull n cs → n < length cs → c ≡ get_or cs n c → length (chunk_items c) ≡ 64 → AreFull (suc n) cs
  one_more n [] c full h there is = absurd (omega (arith, h))
  one_more zero (d ∷ cs) c full h there is = (sym (ap (λ e. length (chunk_items e)) there) ∙ is, tt)
  one_more (suc n) (d ∷ cs) c full h there is = (full.0, one_more n cs c full.1 (omega (arith, h)) there is)

  -- another of the same length
  pub same_length : (n q : ℕ) (cs : List (Chunk A)) (x y : Chunk A) → AreFull n cs → x ≡ get_or cs q x → length (chunk_items y) ≡ length (chunk_items x) →
      AreFull n (set cs q y)
  same_length zero q cs x y full there same = tt
  same_length (suc n) q [] x y full there same = absurd full
  same_length (suc n) zero (d ∷ cs) x y full there same = (same ∙ (ap (λ e. length (chunk_items e)) there ∙ full.0), full.1)
  same_length (suc n) (suc q) (d ∷ cs) x y full there same = (full.0, same_length n q cs x y full.1 there same)

  -- the first chunk goes
  pub without_first : (n : ℕ) (cs : List (Chunk A)) → AreFull n cs → AreFull (n - 1) (remove cs 0)
  without_first zero cs full = tt
  without_first (suc n) [] full = absurd full
  without_first (suc n) (c ∷ cs) full = subst (λ k. AreFull k cs) (omega arith) full.1

  -- the items tell it
  pub same : (n : ℕ) (cs ds : List (Chunk A)) → map chunk_items ds ≡ map chunk_items cs → AreFull n cs → AreFull n ds
  same zero cs ds is full = tt
  same (suc n) [] ds is full = absurd full
  same (suc n) (c ∷ cs) [] is full = absurd cc
  same (suc n) (c ∷ cs) (d ∷ ds) is full =
      let first : chunk_items d ≡ chunk_items c = cc in
      let rest : map chunk_items ds ≡ map chunk_items cs = cc in
      (ap (λ l. length l) first ∙ full.0, same n cs ds rest full.1)

  -- where the first chunk went, with k items, or stayed
  pub left : (n r k : ℕ) (cs ds : List (Chunk A)) → AreFull n cs → AreFull (n - 1) ds → (k ≡ 0 → ds ≡ cs) → (k ≡ 0 → r ≡ n) → (0 < k → r ≡ n - 1) → AreFull r ds
  left n r zero cs ds full fewer stays same less = subst (λ m. AreFull m ds) (sym (same refl)) (subst (λ es. AreFull n es) (sym (stays refl)) full)
  left n r (suc k) cs ds full fewer stays same less = subst (λ m. AreFull m ds) (sym (less (omega arith))) fewer
