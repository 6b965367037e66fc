-- An edit of a list is an edit of the part in which it stands.
use Rattle.std.proofs.Common.{◌≡◌, ℕ, zero, suc, ◌+◌, ◌-◌, ◌<◌, ◌≤◌, List, [], ◌∷◌, ◌++◌, length, get_or, set, take, drop, insert, remove, map, Some, refl, sym, ap, ◌∙◌, append_assoc, append-nil, arith}
use Rattle.std.proofs.lemmas.List.{set-append_left, set-append_right, length-take-le, take-append-drop, drop_all, drop_more, drop-drop, drop-append-le, length-drop, length-map, map-append, take_more}
use Rattle.std.proofs.Math.ListN.{get_or-map}
use Rattle.std.proofs.Math.Seq.{map-set_same}
use Rattle.std.proofs.lemmas.List.Edits.{insert_end, insert-append_left, insert-append_right, remove-append_left, remove-append_right}
use Rattle.std.proofs.lemmas.List.Concat.{flat_map-append}
use Rattle.std.proofs.lemmas.Option.{slice_get_within, get_or_from_slice_get}
use Rattle.std.specs.List.{flat_map, slice_get}

-- in the middle one of three parts
module _ {A : Type 0} (b m e : List A) (i r : ℕ) (is : length b + r ≡ i) where
  less : i - length b ≡ r
  less = omega (arith, is)

  pub insert_mid : (v : A) → r ≤ length m → insert (b ++ (m ++ e)) i v ≡ b ++ (insert m r v ++ e)
  insert_mid v h =
      insert-append_right b (m ++ e) (length b) i v refl (omega (arith, is))
      ∙ (ap (λ k. b ++ insert (m ++ e) k v) less ∙ ap (λ l. b ++ l) (insert-append_left m e r v h))

  pub remove_mid : r < length m → remove (b ++ (m ++ e)) i ≡ b ++ (remove m r ++ e)
  remove_mid h =
      remove-append_right b (m ++ e) (length b) i refl (omega (arith, is))
      ∙ (ap (λ k. b ++ remove (m ++ e) k) less ∙ ap (λ l. b ++ l) (remove-append_left m e r h))

  pub set_mid : (v : A) → r < length m → set (b ++ (m ++ e)) i v ≡ b ++ (set m r v ++ e)
  set_mid v h =
      set-append_right b (m ++ e) (length b) i v refl (omega (arith, is))
      ∙ (ap (λ k. b ++ set (m ++ e) k v) less ∙ ap (λ l. b ++ l) (set-append_left m e r v h))

module _ {A : Type 0} where
  get_left : (xs ys : List A) (i : ℕ) → i < length xs → slice_get (xs ++ ys) i ≡ slice_get xs i
  get_left [] ys i h = absurd (omega (arith, h))
  get_left (x ∷ xs) ys zero h = refl
  get_left (x ∷ xs) ys (suc i) h = get_left xs ys i (omega (arith, h))

  get_right : (xs ys : List A) (i j : ℕ) → length xs + i ≡ j → slice_get (xs ++ ys) j ≡ slice_get ys i
  get_right [] ys i j is = ap (λ k. slice_get ys k) (omega (arith, is))
  get_right (x ∷ xs) ys i zero is = absurd (omega (arith, is))
  get_right (x ∷ xs) ys i (suc j) is = get_right xs ys i j (omega (arith, is))

  -- after those that are gone, so many in front
  pub insert_behind : (xs : List A) (g i j : ℕ) (v : A) → g + i ≡ j → g ≤ length xs → drop g (insert xs j v) ≡ insert (drop g xs) i v
  insert_behind xs zero i j v is h = ap (λ k. insert xs k v) (omega (arith, is))
  insert_behind [] (suc g) i j v is h = absurd (omega (arith, h))
  insert_behind (x ∷ xs) (suc g) i zero v is h = absurd (omega (arith, is))
  insert_behind (x ∷ xs) (suc g) i (suc j) v is h = insert_behind xs g i j v (omega (arith, is)) (omega (arith, h))

  pub remove_behind : (xs : List A) (g i j : ℕ) → g + i ≡ j → g ≤ length xs → drop g (remove xs j) ≡ remove (drop g xs) i
  remove_behind xs zero i j is h = ap (λ k. remove xs k) (omega (arith, is))
  remove_behind [] (suc g) i j is h = absurd (omega (arith, h))
  remove_behind (x ∷ xs) (suc g) i zero is h = absurd (omega (arith, is))
  remove_behind (x ∷ xs) (suc g) i (suc j) is h = remove_behind xs g i j (omega (arith, is)) (omega (arith, h))

  pub set_behind : (xs : List A) (g i j : ℕ) (v : A) → g + i ≡ j → g ≤ length xs → drop g (set xs j v) ≡ set (drop g xs) i v
  set_behind xs zero i j v is h = ap (λ k. set xs k v) (omega (arith, is))
  set_behind [] (suc g) i j v is h = absurd (omega (arith, h))
  set_behind (x ∷ xs) (suc g) i zero v is h = absurd (omega (arith, is))
  set_behind (x ∷ xs) (suc g) i (suc j) v is h = set_behind xs g i j v (omega (arith, is)) (omega (arith, h))

  pub get_behind : (xs : List A) (g i j : ℕ) → g + i ≡ j → slice_get xs j ≡ slice_get (drop g xs) i
  get_behind xs zero i j is = ap (λ k. slice_get xs k) (sym (omega (arith, is)))
  get_behind [] (suc g) i j is = refl
  get_behind (x ∷ xs) (suc g) i zero is = absurd (omega (arith, is))
  get_behind (x ∷ xs) (suc g) i (suc j) is = get_behind xs g i j (omega (arith, is))

  pub push_behind : (xs : List A) (g i : ℕ) (v : A) → g ≤ length xs → i ≡ length xs - g → drop g (xs ++ v ∷ []) ≡ insert (drop g xs) i v
  push_behind xs g i v h is =
      drop-append-le g xs (v ∷ []) h
      ∙ (sym (insert_end (drop g xs) v) ∙ ap (λ k. insert (drop g xs) k v) (length-drop g xs ∙ sym is))

  pub pop_behind : (xs ys : List A) (g n : ℕ) (x : A) → slice_get xs g ≡ Some x → ys ≡ drop n xs → n ≤ g + 1 → drop g xs ≡ x ∷ drop (g + 1 - n) ys
  pop_behind xs ys g n x there new below =
      let within = slice_get_within xs g x there in
      drop_more xs g x within
      ∙ (ap (λ y. y ∷ drop (g + 1) xs) (get_or_from_slice_get xs g x x there)
      ∙ ap (λ l. x ∷ l) (ap (λ k. drop k xs) (omega (arith, below)) ∙ (sym (drop-drop (g + 1 - n) n xs) ∙ ap (λ l. drop (g + 1 - n) l) (sym new))))

  -- a walk from the front
  pub one_more_taken : (xs : List A) (i : ℕ) (x : A) → slice_get xs i ≡ Some x → take i xs ++ x ∷ [] ≡ take (i + 1) xs
  one_more_taken xs i x there =
      sym (take_more xs i x (slice_get_within xs i x there) ∙ ap (λ z. take i xs ++ z ∷ []) (get_or_from_slice_get xs i x x there))

  -- in one of two halves
  pub insert_front : (xs : List A) (n i : ℕ) (v : A) → n ≤ length xs → i ≤ n → insert (take n xs) i v ++ drop n xs ≡ insert xs i v
  insert_front xs n i v h below =
      let long = length-take-le n xs h in
      sym (insert-append_left (take n xs) (drop n xs) i v (omega (arith, long, below))) ∙ ap (λ l. insert l i v) (take-append-drop n xs)

  pub insert_back : (xs : List A) (n i : ℕ) (v : A) → n ≤ length xs → n ≤ i → take n xs ++ insert (drop n xs) (i - n) v ≡ insert xs i v
  insert_back xs n i v h above =
      sym (insert-append_right (take n xs) (drop n xs) n i v (length-take-le n xs h) above) ∙ ap (λ l. insert l i v) (take-append-drop n xs)

module _ {X A : Type 0} (f : X → List A) where
  -- a list is what stands before a part, that part, and what stands after it
  pub cut : (xs : List X) (q : ℕ) (x : X) → q < length xs → x ≡ get_or xs q x →
      flat_map f xs ≡ flat_map f (take q xs) ++ (f x ++ flat_map f (drop (suc q) xs))
  cut [] q x h is = absurd (omega (arith, h))
  cut (y ∷ ys) zero x h is = ap (λ z. f z ++ flat_map f ys) (sym is)
  cut (y ∷ ys) (suc q) x h is =
      ap (λ l. f y ++ l) (cut ys q x (omega (arith, h)) is)
      ∙ sym (append_assoc (f y) (flat_map f (take q ys)) (f x ++ flat_map f (drop (suc q) ys)))

  pub put : (xs : List X) (q : ℕ) (y : X) → q < length xs →
      flat_map f (set xs q y) ≡ flat_map f (take q xs) ++ (f y ++ flat_map f (drop (suc q) xs))
  put [] q y h = absurd (omega (arith, h))
  put (x ∷ xs) zero y h = refl
  put (x ∷ xs) (suc q) y h =
      ap (λ l. f x ++ l) (put xs q y (omega (arith, h)))
      ∙ sym (append_assoc (f x) (flat_map f (take q xs)) (f y ++ flat_map f (drop (suc q) xs)))

  pub put_two : (xs : List X) (q p : ℕ) (y z : X) → q < length xs → p ≡ suc q →
      flat_map f (insert (set xs q y) p z) ≡ flat_map f (take q xs) ++ ((f y ++ f z) ++ flat_map f (drop (suc q) xs))
  put_two xs q zero y z h is = absurd (omega (arith, is))
  put_two [] q (suc p) y z h is = absurd (omega (arith, h))
  put_two (x ∷ xs) zero (suc p) y z h is =
      let none : p ≡ zero = omega (arith, is) in
      ap (λ k. flat_map f (insert (y ∷ xs) (suc k) z)) none ∙ sym (append_assoc (f y) (f z) (flat_map f xs))
  put_two (x ∷ xs) (suc q) (suc p) y z h is =
      ap (λ l. f x ++ l) (put_two xs q p y z (omega (arith, h)) (omega (arith, is)))
      ∙ sym (append_assoc (f x) (flat_map f (take q xs)) ((f y ++ f z) ++ flat_map f (drop (suc q) xs)))

  pub taken_out : (xs : List X) (q : ℕ) → flat_map f (remove xs q) ≡ flat_map f (take q xs) ++ flat_map f (drop (suc q) xs)
  taken_out xs q = flat_map-append f (take q xs) (drop (suc q) xs)

  -- edits in the part at q
  module _ (xs : List X) (q r i : ℕ) (x : X) (h : q < length xs) (there : x ≡ get_or xs q x) (is : length (flat_map f (take q xs)) + r ≡ i) where
    pub insert_in : (y : X) (v : A) → r ≤ length (f x) → f y ≡ insert (f x) r v → flat_map f (set xs q y) ≡ insert (flat_map f xs) i v
    insert_in y v below new =
        let b = flat_map f (take q xs) in
        let e = flat_map f (drop (suc q) xs) in
        put xs q y h ∙ (ap (λ l. b ++ (l ++ e)) new ∙ (sym (insert_mid b (f x) e i r is v below) ∙ ap (λ l. insert l i v) (sym (cut xs q x h there))))

    pub split_in : (p : ℕ) (y z : X) (v : A) → p ≡ suc q → r ≤ length (f x) → f y ++ f z ≡ insert (f x) r v →
        flat_map f (insert (set xs q y) p z) ≡ insert (flat_map f xs) i v
    split_in p y z v next below new =
        let b = flat_map f (take q xs) in
        let e = flat_map f (drop (suc q) xs) in
        put_two xs q p y z h next ∙ (ap (λ l. b ++ (l ++ e)) new ∙ (sym (insert_mid b (f x) e i r is v below) ∙ ap (λ l. insert l i v) (sym (cut xs q x h there))))

    pub set_in : (y : X) (v : A) → r < length (f x) → f y ≡ set (f x) r v → flat_map f (set xs q y) ≡ set (flat_map f xs) i v
    set_in y v below new =
        let b = flat_map f (take q xs) in
        let e = flat_map f (drop (suc q) xs) in
        put xs q y h ∙ (ap (λ l. b ++ (l ++ e)) new ∙ (sym (set_mid b (f x) e i r is v below) ∙ ap (λ l. set l i v) (sym (cut xs q x h there))))

    pub remove_in : (y : X) → r < length (f x) → f y ≡ remove (f x) r → flat_map f (set xs q y) ≡ remove (flat_map f xs) i
    remove_in y below new =
        let b = flat_map f (take q xs) in
        let e = flat_map f (drop (suc q) xs) in
        put xs q y h ∙ (ap (λ l. b ++ (l ++ e)) new ∙ (sym (remove_mid b (f x) e i r is below) ∙ ap (λ l. remove l i) (sym (cut xs q x h there))))

    pub get_in : r < length (f x) → slice_get (flat_map f xs) i ≡ slice_get (f x) r
    get_in below =
        let b = flat_map f (take q xs) in
        let e = flat_map f (drop (suc q) xs) in
        ap (λ l. slice_get l i) (cut xs q x h there) ∙ (get_right b (f x ++ e) r i is ∙ get_left (f x) e r below)

  -- an empty part goes
  pub empty_out : (xs : List X) (q : ℕ) (y : X) → q < length xs → y ≡ get_or xs q y → f y ≡ [] → flat_map f (remove xs q) ≡ flat_map f xs
  empty_out xs q y h there none =
      let b = flat_map f (take q xs) in
      let e = flat_map f (drop (suc q) xs) in
      taken_out xs q ∙ (ap (λ l. b ++ (l ++ e)) (sym none) ∙ sym (cut xs q y h there))

  tail_push : (b m n e : List A) (v : A) → e ≡ [] → n ≡ m ++ v ∷ [] → b ++ (n ++ e) ≡ (b ++ (m ++ e)) ++ v ∷ []
  tail_push b m n e v none new = rw (none, new) (simp (append-nil, append_assoc))

  -- one more at the end of the last part
  pub push_last : (xs : List X) (n : ℕ) (x y : X) (v : A) → n ≡ length xs → 0 < n → x ≡ get_or xs (n - 1) x → f y ≡ f x ++ v ∷ [] →
      flat_map f (set xs (n - 1) y) ≡ flat_map f xs ++ v ∷ []
  push_last xs n x y v all some there new =
      let q : ℕ = n - 1 in
      let h : q < length xs = omega (arith, all, some) in
      let b = flat_map f (take q xs) in
      let e = flat_map f (drop (suc q) xs) in
      let none : e ≡ [] = ap (λ l. flat_map f l) (drop_all (suc q) xs (omega (arith, all, some))) in
      put xs q y h ∙ (tail_push b (f x) (f y) e v none new ∙ ap (λ l. l ++ v ∷ []) (sym (cut xs q x h there)))

  -- by the parts alone
  of_parts : (xs : List X) → flat_map f xs ≡ flat_map (λ l. l) (map f xs)
  of_parts [] = refl
  of_parts (x ∷ xs) = ap (λ l. f x ++ l) (of_parts xs)

  pub same_parts : (xs ys : List X) → map f xs ≡ map f ys → flat_map f xs ≡ flat_map f ys
  same_parts xs ys same = of_parts xs ∙ (ap (λ ls. flat_map (λ l. l) ls) same ∙ sym (of_parts ys))

  -- a part in the place of an equal one
  pub same_set : (xs : List X) (q : ℕ) (x y : X) → x ≡ get_or xs q x → f y ≡ f x → map f (set xs q y) ≡ map f xs
  same_set xs q x y there same = map-set_same f xs q y x (same ∙ ap f there)

  -- one more twin
  pub twins_more : (cs xs : List X) (q : ℕ) (x y : X) (ps : List (List A)) → q < length xs → map f xs ≡ ps → map f cs ≡ take q ps →
      x ≡ get_or xs q x → f y ≡ f x → map f (cs ++ y ∷ []) ≡ take (q + 1) ps
  twins_more cs xs q x y ps h all so_far there same =
      let long = sym (length-map xs f) ∙ ap length all in
      let at : get_or ps q (f x) ≡ f x = ap (λ l. get_or l q (f x)) (sym all) ∙ (get_or-map f xs q x ∙ ap f (sym there)) in
      map-append f cs (y ∷ [])
      ∙ (ap (λ l. l ++ f y ∷ []) so_far ∙ (ap (λ p. take q ps ++ p ∷ []) (same ∙ sym at) ∙ sym (take_more ps q (f x) (omega (arith, h, long)))))
