-- Values in blocks, all of which are full but the last: where each one stands, and what a change leaves.
use Rattle.std.proofs.Common.{◌≡◌, ℕ, zero, suc, ◌+◌, ◌-◌, ◌*◌, ◌/◌, ◌%◌, ◌<◌, ◌≤◌, List, [], ◌∷◌, ◌++◌, length, map, get_or, set, take, ap, ◌∙◌, arith}
use Rattle.std.proofs.lemmas.Nat.{div-add-mod', mod_below}
use Rattle.std.proofs.lemmas.List.{length-append, length-set, set-set}
use Rattle.std.specs.List.{flat_map}
use Rattle.std.specs.Prelude.{None, option_map, unwrap_or}
use Rattle.gw_shared.specs.declared.values.Block.{Block}
use Rattle.gw_shared.proofs.Laws.{set_in}
use Rattle.gw_shared.specs.Values.{block_values, AreLaidOut, HasRoom}

module _ {X A : Type 0} (f : X → List A) where
  -- the value at i stands in the block at q, at r of it
  pub record Stands (bs : List X) (i q r : ℕ) : Type 0 where
    pub within : q < length bs
    pub before : length (flat_map f (take q bs)) + r ≡ i
    pub inside : (b : X) → b ≡ get_or bs q b → r < length (f b)

  at : (bs : List X) (i q r : ℕ) → AreLaidOut (map f bs) → q * 16 + r ≡ i → r < 16 → i < length (flat_map f bs) → Stands bs i q r
  at [] i q r laid is small h = absurd (omega (arith, h))
  at (b ∷ []) i zero r laid is small h =
      let long = length-append (f b) [] in
      record {
        within = omega arith;
        before = omega (arith, is);
        inside = λ c there. let same = ap (λ d. length (f d)) there in omega (arith, h, long, is, same);
      }
  at (b ∷ []) i (suc q) r laid is small h =
      let most = laid.1 in
      let long = length-append (f b) [] in
      absurd (omega (arith, h, long, is, most))
  at (b ∷ c ∷ bs) i zero r laid is small h =
      let full = laid.0 in
      record {
        within = omega arith;
        before = omega (arith, is);
        inside = λ d there. let same = ap (λ e. length (f e)) there in omega (arith, full, small, same);
      }
  at (b ∷ c ∷ bs) i (suc q) r laid is small h =
      let full = laid.0 in
      let long = length-append (f b) (flat_map f (c ∷ bs)) in
      let rest = at (c ∷ bs) (i - 16) q r laid.1 (omega (arith, is)) small (omega (arith, h, long, full, is)) in
      let front = length-append (f b) (flat_map f (take q (c ∷ bs))) in
      let within = rest.within in
      let before = rest.before in
      record {
        within = omega (arith, within);
        before = omega (arith, front, before, full, is);
        inside = rest.inside;
      }

  pub stands : (bs : List X) (i : ℕ) → AreLaidOut (map f bs) → i < length (flat_map f bs) → Stands bs i (i / 16) (i % 16)
  stands bs i laid h =
      let parts = div-add-mod' i 16 in
      at bs i (i / 16) (i % 16) laid (omega (arith, parts)) (mod_below i 16 (omega arith)) h

  -- a block of as many values in the place of another
  pub set_laid : (bs : List X) (q : ℕ) (x y : X) → x ≡ get_or bs q x → length (f y) ≡ length (f x) → AreLaidOut (map f bs) → AreLaidOut (map f (set bs q y))
  set_laid [] q x y there same laid = laid
  set_laid (b ∷ []) zero x y there same laid =
      let as_many = same ∙ ap (λ d. length (f d)) there in
      let some = laid.0 in
      let most = laid.1 in
      (omega (arith, as_many, some), omega (arith, as_many, most))
  set_laid (b ∷ []) (suc q) x y there same laid = laid
  set_laid (b ∷ c ∷ bs) zero x y there same laid = (same ∙ (ap (λ d. length (f d)) there ∙ laid.0), laid.1)
  set_laid (b ∷ c ∷ bs) (suc zero) x y there same laid = (laid.0, set_laid (c ∷ bs) zero x y there same laid.1)
  set_laid (b ∷ c ∷ bs) (suc (suc q)) x y there same laid = (laid.0, set_laid (c ∷ bs) (suc q) x y there same laid.1)

  -- the last block, and one more in it
  pub last_room : (bs : List X) (n : ℕ) (b : X) → n ≡ length bs → 0 < n → b ≡ get_or bs (n - 1) b →
      (length (f b) < 16 → HasRoom (map f bs)) × (HasRoom (map f bs) → length (f b) < 16)
  last_room [] n b all some there = absurd (omega (arith, all, some))
  last_room (c ∷ []) n b all some there =
      let none : n - 1 ≡ 0 = omega (arith, all) in
      let same = ap (λ d. length (f d)) (there ∙ ap (λ k. get_or (c ∷ []) k b) none) in
      (λ less. omega (arith, less, same), λ less. omega (arith, less, same))
  last_room (c ∷ d ∷ bs) n b all some there =
      let more : n - 1 ≡ suc (n - 1 - 1) = omega (arith, all) in
      last_room (d ∷ bs) (n - 1) b (omega (arith, all)) (omega (arith, all)) (there ∙ ap (λ k. get_or (c ∷ d ∷ bs) k b) more)

  pub no_room : (bs : List X) (n : ℕ) → n ≡ length bs → n ≡ 0 → HasRoom (map f bs) → ⊥
  no_room [] n all none room = room
  no_room (b ∷ bs) n all none room = absurd (omega (arith, all, none))

  pub some_room : (bs : List X) → HasRoom (map f bs) → 0 < length bs
  some_room [] room = absurd room
  some_room (b ∷ bs) room = omega arith

  pub grown : (bs : List X) (n : ℕ) (x y : X) → n ≡ length bs → 0 < n → x ≡ get_or bs (n - 1) x → length (f x) < 16 → length (f y) ≡ suc (length (f x)) →
      AreLaidOut (map f bs) → AreLaidOut (map f (set bs (n - 1) y))
  grown [] n x y all some there less is laid = laid
  grown (c ∷ []) n x y all some there less is laid =
      let none : n - 1 ≡ 0 = omega (arith, all) in
      rw none (omega (arith, is), omega (arith, is, less))
  grown (c ∷ d ∷ bs) n x y all some there less is laid =
      let more : n - 1 ≡ suc (n - 1 - 1) = omega (arith, all) in
      let rest = grown (d ∷ bs) (n - 1) x y (omega (arith, all)) (omega (arith, all)) (there ∙ ap (λ k. get_or (c ∷ d ∷ bs) k x) more) less is laid.1 in
      rw more (behind (n - 1 - 1) rest) where
        behind : (q : ℕ) → AreLaidOut (map f (set (d ∷ bs) q y)) → AreLaidOut (map f (c ∷ set (d ∷ bs) q y))
        behind zero rest = (laid.0, rest)
        behind (suc q) rest = (laid.0, rest)

  -- one more block, after those that are full
  pub begun : (bs : List X) (b : X) → AreLaidOut (map f bs) → (HasRoom (map f bs) → ⊥) → length (f b) ≡ 1 → AreLaidOut (map f (bs ++ b ∷ []))
  begun [] b laid full one = (omega (arith, one), omega (arith, one))
  begun (c ∷ []) b laid full one =
      let most = laid.1 in
      (full_one (length (f c)) most full, (omega (arith, one), omega (arith, one))) where
        full_one : (n : ℕ) → n ≤ 16 → (n < 16 → ⊥) → n ≡ 16
        full_one n most full = omega (arith, most, full)
  begun (c ∷ d ∷ bs) b laid full one = (laid.0, begun (d ∷ bs) b laid.1 full one)

  -- a value is changed in a block that was made the list's own before
  pub changed : (bs : List X) (i : ℕ) (x y z : X) (v : A) → AreLaidOut (map f bs) → i < length (flat_map f bs) → x ≡ get_or bs (i / 16) x →
      f z ≡ set (f x) (i % 16) v → (flat_map f (set (set bs (i / 16) y) (i / 16) z) ≡ set (flat_map f bs) i v) × AreLaidOut (map f (set (set bs (i / 16) y) (i / 16) z))
  changed bs i x y z v laid h there new =
      let q = i / 16 in
      let place = stands bs i laid h in
      let once : set (set bs q y) q z ≡ set bs q z = set-set bs q y z in
      let as_many = ap length new ∙ length-set (f x) (i % 16) v in
      rw once (
        set_in f bs q (i % 16) i x place.within there place.before z v (place.inside x there) new,
        set_laid bs q x z there as_many laid,
      )

  -- blocks of as many values
  pub same_laid : (bs cs : List X) → map f cs ≡ map f bs → AreLaidOut (map f bs) → AreLaidOut (map f cs)
  same_laid bs cs same laid = rw same laid

-- functions of the same values
pub alike : {A B : Type 0} (f g : A → B) → ((x : A) → f x ≡ g x) → f ≡ g
alike f g same = λ i x. same x i

-- the values of a block that has its own
pub own_values : {A : Type 0} (b : Block A) → b.shared ≡ None → block_values b ≡ b.own.items
own_values b alone = ap (λ o. unwrap_or (option_map (λ a. a.value.items) o) b.own.items) alone
