-- Laws of the future chain in blocks.
use Rattle.std.proofs.Common.{◌≡◌, ℕ, zero, suc, ◌+◌, ◌<◌, ◌≤◌, Bool, arith, not, List, [], ◌∷◌, ◌++◌, None, length, length-append, length-set, refl, sym, ap, subst, ◌∙◌, filter, append_assoc, append-nil, take, drop, get_or, set, min}
use Rattle.std.specs.Prelude.{remove}
use Rattle.std.proofs.lemmas.List.{take_more, take_all}
use Rattle.std.proofs.lemmas.List.Elements.{filter-append}
use Rattle.gw_meaning.specs.declared.transaction.Transaction.{Transaction}
use Rattle.gw_meaning.specs.declared.transaction.Event.{Event}
use Rattle.gw_meaning.specs.Changes.{all_lined_up, due, is_due}
use Rattle.gw_meaning.specs.Step.{least_time}
use Rattle.gw_chains.specs.Blocks.{Full, all_items, time_of, IsNoneBefore}
use Rattle.gw_chains.proofs.EventLaws.{due_append, all_lined_append, length_all_lined, kept_and_due, none_leaves, due_leave, before_front, before_back, before_both, before_stay}
use Rattle.gw_chains.proofs.Leasts.{least_both}

-- the blocks one after the other
pub all_items_append : (bs cs : List Full) → all_items (bs ++ cs) ≡ all_items bs ++ all_items cs
all_items_append [] cs = refl
all_items_append (b ∷ bs) cs = ap (λ es. b.items ++ es) (all_items_append bs cs) ∙ sym (append_assoc b.items (all_items bs) (all_items cs))

pub all_items_more : (bs : List Full) (u : Full) → all_items (bs ++ u ∷ []) ≡ all_items bs ++ u.items
all_items_more bs u = all_items_append bs (u ∷ []) ∙ ap (λ es. all_items bs ++ es) (append-nil u.items)

-- what stands before a block, on it, and after it
pub cut : (bs : List Full) (i : ℕ) (b : Full) → i < length bs → b ≡ get_or bs i b →
    all_items bs ≡ all_items (take i bs) ++ (b.items ++ all_items (drop (suc i) bs))
cut [] i b h is = absurd (omega (arith, h))
cut (c ∷ cs) zero b h is = ap (λ (x : Full). x.items ++ all_items cs) (sym is)
cut (c ∷ cs) (suc i) b h is =
    ap (λ es. c.items ++ es) (cut cs i b (omega (arith, h)) is)
    ∙ sym (append_assoc c.items (all_items (take i cs)) (b.items ++ all_items (drop (suc i) cs)))

pub put : (bs : List Full) (i : ℕ) (u : Full) → i < length bs →
    all_items (set bs i u) ≡ all_items (take i bs) ++ (u.items ++ all_items (drop (suc i) bs))
put [] i u h = absurd (omega (arith, h))
put (c ∷ cs) zero u h = refl
put (c ∷ cs) (suc i) u h =
    ap (λ es. c.items ++ es) (put cs i u (omega (arith, h)))
    ∙ sym (append_assoc c.items (all_items (take i cs)) (u.items ++ all_items (drop (suc i) cs)))

pub on_block : (bs : List Full) (i : ℕ) (b : Full) → i < length bs → b ≡ get_or bs i b → length b.items ≤ length (all_items bs)
on_block bs i b h is =
    omega (
      arith,
      ap length (cut bs i b h is),
      length-append (all_items (take i bs)) (b.items ++ all_items (drop (suc i) bs)),
      length-append b.items (all_items (drop (suc i) bs)),
    )

pub sizes : (bs : List Full) (i : ℕ) (b u : Full) → i < length bs → b ≡ get_or bs i b →
    length (all_items bs) + length u.items ≡ length (all_items (set bs i u)) + length b.items
sizes bs i b u h is =
    let front = all_items (take i bs) in
    let back = all_items (drop (suc i) bs) in
    omega (
      arith,
      ap length (cut bs i b h is),
      ap length (put bs i u h),
      length-append front (b.items ++ back),
      length-append front (u.items ++ back),
      length-append b.items back,
      length-append u.items back,
    )

-- one more is read
pub next_read : (bs : List Full) (i : ℕ) (b : Full) (es : List Event) → i < length bs → b ≡ get_or bs i b → es ≡ all_items (take i bs) →
    es ++ b.items ≡ all_items (take (i + 1) bs)
next_read bs i b es h is read =
    let more : take (i + 1) bs ≡ take i bs ++ b ∷ [] = take_more bs i b h ∙ ap (λ x. take i bs ++ x ∷ []) (sym is) in
    ap (λ xs. xs ++ b.items) read ∙ (ap (λ xs. all_items (take i bs) ++ xs) (sym (append-nil b.items)) ∙
    sym (ap all_items more ∙ all_items_append (take i bs) (b ∷ [])))

-- one more is copied
pub copied_block : (bs copies : List Full) (k : ℕ) (b u : Full) → k < length bs → b ≡ get_or bs k b → u.items ≡ b.items →
    all_items copies ≡ all_items (take k bs) → all_items (copies ++ u ∷ []) ≡ all_items (take (k + 1) bs)
copied_block bs copies k b u h is same done =
    let more : take (k + 1) bs ≡ take k bs ++ b ∷ [] = take_more bs k b h ∙ ap (λ x. take k bs ++ x ∷ []) (sym is) in
    all_items_append copies (u ∷ []) ∙ (ap (λ es. es ++ (u.items ++ [])) done ∙ (ap (λ es. all_items (take k bs) ++ (es ++ [])) same ∙
    sym (ap all_items more ∙ all_items_append (take k bs) (b ∷ []))))

-- the last block is full, and an empty one stands after it
pub full_is : (bs : List Full) (full : Full) (last fresh : List Event) → full.items ≡ last → fresh ≡ [] →
    all_items (bs ++ full ∷ []) ++ fresh ≡ all_items bs ++ last
full_is bs full last fresh same none =
    ap (λ es. all_items (bs ++ full ∷ []) ++ es) none ∙ (append-nil (all_items (bs ++ full ∷ [])) ∙
    (all_items_more bs full ∙ ap (λ es. all_items bs ++ es) same))

-- a clock step over the full blocks and then over the last: who is on the current chain, and who stays
pub record Stepped (t : ℕ) (all : List Event) (start : List Transaction) (left : List Event) (new : List Transaction) : Type 0 where
  pub come : new ≡ all_lined_up (due t all) start
  pub stay : left ≡ filter (λ e. not (is_due t e)) all
  pub more : length start ≤ length new
  pub counts : length new + length left ≡ length start + length all

pub stepped : (t : ℕ) (full last left rest : List Event) (start mid new : List Transaction) →
    mid ≡ all_lined_up (due t full) start → left ≡ filter (λ e. not (is_due t e)) full →
    new ≡ all_lined_up (due t last) mid → rest ≡ filter (λ e. not (is_due t e)) last → Stepped t (full ++ last) start (left ++ rest) new
stepped t full last left rest start mid new come stay then others =
    let p : Event → Bool = λ e. not (is_due t e) in
    let taken : new ≡ all_lined_up (due t (full ++ last)) start =
    then ∙ (ap (all_lined_up (due t last)) come ∙ sym (ap (λ xs. all_lined_up xs start) (due_append t full last) ∙
    all_lined_append (due t full) (due t last) start)) in
    let kept : left ++ rest ≡ filter p (full ++ last) =
    ap (λ es. es ++ rest) stay ∙ (ap (λ es. filter p full ++ es) others ∙ sym (filter-append p full last)) in
    let long = ap length taken ∙ length_all_lined (due t (full ++ last)) start in
    record {
      come = taken;
      stay = kept;
      more = omega (arith, long);
      counts = omega (arith, long, ap length kept, kept_and_due t (full ++ last));
    }

-- after some of the blocks of a clock step: who is due on the others waits, and who is not stays
pub record Taking (t : ℕ) (all : List Event) (start : List Transaction) (now : List Event) (current : List Transaction) : Type 0 where
  pub stay : filter (λ e. not (is_due t e)) now ≡ filter (λ e. not (is_due t e)) all
  pub come : all_lined_up (due t now) current ≡ all_lined_up (due t all) start
  pub before : IsNoneBefore t now

-- one part of the chain is gone through, in front of which none is due
module _ (t : ℕ) (A M E : List Event) (none : due t A ≡ []) where
  stay : Event → Bool
  stay e = not (is_due t e)

  due_all : (N : List Event) → due t (A ++ (N ++ E)) ≡ due t N ++ due t E
  due_all N = due_append t A (N ++ E) ∙ (ap (λ xs. xs ++ due t (N ++ E)) none ∙ due_append t N E)

  pub part_taken : (all : List Event) (start current : List Transaction) (M' now now' : List Event) → M' ≡ filter (λ e. not (is_due t e)) M →
      now ≡ A ++ (M ++ E) → now' ≡ A ++ (M' ++ E) → Taking t all start now current → Taking t all start now' (all_lined_up (due t M) current)
  part_taken all start current M' now now' is old new k =
      let p : Event → Bool = λ e. not (is_due t e) in
      let gone : due t M' ≡ [] = ap (due t) is ∙ due_leave t M in
      let twice : filter p M' ≡ filter p M = ap (filter p) is ∙ none_leaves t (filter p M) (due_leave t M) in
      let both : (N : List Event) → filter p (A ++ (N ++ E)) ≡ filter p A ++ (filter p N ++ filter p E) =
      λ N. filter-append p A (N ++ E) ∙ ap (λ es. filter p A ++ es) (filter-append p N E) in
      let behind : due t now' ≡ due t E = ap (due t) new ∙ (due_all M' ∙ ap (λ xs. xs ++ due t E) gone) in
      let whole : due t now ≡ due t M ++ due t E = ap (due t) old ∙ due_all M in
      let before : IsNoneBefore t (A ++ (M ++ E)) = subst (IsNoneBefore t) old k.before in
      let back : IsNoneBefore t (M ++ E) = before_back t A (M ++ E) before in
      record {
        stay = ap (filter p) new ∙ (both M' ∙ (ap (λ es. filter p A ++ (es ++ filter p E)) twice ∙ (sym (ap (filter p) old ∙ both M) ∙ k.stay)));
        come = ap (λ xs. all_lined_up xs (all_lined_up (due t M) current)) behind
            ∙ (sym (all_lined_append (due t M) (due t E) current) ∙ (ap (λ xs. all_lined_up xs current) (sym whole) ∙ k.come));
        before = subst (IsNoneBefore t) (sym new)
            (before_both t A (M' ++ E) (before_front t A (M ++ E) before)
            (before_both t M' E (subst (IsNoneBefore t) (sym is) (before_stay t M (before_front t M E back))) (before_back t M E back)));
      }

-- a block in a list
taken_here : (bs : List Full) (i : ℕ) (u : Full) → i < length bs → take (suc i) (set bs i u) ≡ take i bs ++ u ∷ []
taken_here [] i u h = absurd (omega (arith, h))
taken_here (c ∷ cs) zero u h = refl
taken_here (c ∷ cs) (suc i) u h = ap (λ ds. c ∷ ds) (taken_here cs i u (omega (arith, h)))

taken_in : (bs : List Full) (i : ℕ) (u : Full) → i < length bs → take (i + 1) (set bs i u) ≡ take i bs ++ u ∷ []
taken_in bs i u h = let next : i + 1 ≡ suc i = omega arith in ap (λ n. take n (set bs i u)) next ∙ taken_here bs i u h

pub removed : (bs : List Full) (i : ℕ) (u : Full) → i < length bs → u.items ≡ [] → all_items (remove (set bs i u) i) ≡ all_items (set bs i u)
removed [] i u h none = absurd (omega (arith, h))
removed (c ∷ cs) zero u h none = rw none refl
removed (c ∷ cs) (suc i) u h none = ap (λ es. c.items ++ es) (removed cs i u (omega (arith, h)) none)

front_kept : (bs : List Full) (i : ℕ) (u : Full) → i < length bs → take i (remove (set bs i u) i) ≡ take i bs
front_kept [] i u h = absurd (omega (arith, h))
front_kept (c ∷ cs) zero u h = refl
front_kept (c ∷ cs) (suc i) u h = ap (λ ds. c ∷ ds) (front_kept cs i u (omega (arith, h)))

pub one_less : (bs : List Full) (i : ℕ) (u : Full) → i < length bs → length (remove (set bs i u) i) + 1 ≡ length bs
one_less [] i u h = absurd (omega (arith, h))
one_less (c ∷ cs) zero u h = omega arith
one_less (c ∷ cs) (suc i) u h = omega (arith, one_less cs i u (omega (arith, h)))

-- in the middle of a clock step: the blocks in front of an index are gone through, and what is the least time on them
pub record Passed (t : ℕ) (all : List Event) (start : List Transaction) (bs : List Full) (i n : ℕ) (current : List Transaction) : Type 0 where
  pub taking : Taking t all start (all_items bs) current
  pub within : i ≤ length bs
  pub none : due t (all_items (take i bs)) ≡ []
  pub least : time_of n ≡ least_time (all_items (take i bs))

pub passing : (t : ℕ) (bs : List Full) (start : List Transaction) (least : ℕ) → IsNoneBefore t (all_items bs) → time_of least ≡ None →
    Passed t (all_items bs) start bs 0 least start
passing t bs start least before none = record {
  taking = record { stay = refl; come = refl; before = before };
  within = omega arith;
  none = refl;
  least = none;
}

module _ (t : ℕ) (all : List Event) (start : List Transaction) (bs : List Full) (i least : ℕ) (current : List Transaction)
    (k : Passed t all start bs i least current) (b : Full) (within : i < length bs) (is : b ≡ get_or bs i b) where
  pub before_block : IsNoneBefore t b.items
  before_block =
      let parts = subst (IsNoneBefore t) (cut bs i b within is) k.taking.before in
      before_front t b.items (all_items (drop (suc i) bs)) (before_back t (all_items (take i bs)) (b.items ++ all_items (drop (suc i) bs)) parts)

  module _ (u : Full) (kept : u.items ≡ filter (λ e. not (is_due t e)) b.items) where
    taken : Taking t all start (all_items (set bs i u)) (all_lined_up (due t b.items) current)
    taken =
        part_taken t (all_items (take i bs)) b.items (all_items (drop (suc i) bs)) k.none all start current u.items (all_items bs) (all_items (set bs i u))
        kept (cut bs i b within is) (put bs i u within) k.taking

    -- the block stays
    pub block_stays : (n : ℕ) → time_of n ≡ least_time u.items → Passed t all start (set bs i u) (i + 1) (min least n) (all_lined_up (due t b.items) current)
    block_stays n time =
        let front : all_items (take (i + 1) (set bs i u)) ≡ all_items (take i bs) ++ u.items =
        ap all_items (taken_in bs i u within) ∙ all_items_more (take i bs) u in
        let gone : due t u.items ≡ [] = ap (due t) kept ∙ due_leave t b.items in
        record {
          taking = taken;
          within = omega (arith, within, length-set bs i u);
          none = ap (due t) front ∙ (due_append t (all_items (take i bs)) u.items ∙ rw (k.none, gone) refl);
          least = least_both least n (all_items (take i bs)) u.items k.least time ∙ ap least_time (sym front);
        }

    -- the block goes
    pub block_goes : u.items ≡ [] → Passed t all start (remove (set bs i u) i) i least (all_lined_up (due t b.items) current)
    block_goes none =
        let front : all_items (take i (remove (set bs i u) i)) ≡ all_items (take i bs) = ap all_items (front_kept bs i u within) in
        record {
          taking = subst (λ es. Taking t all start es (all_lined_up (due t b.items) current)) (sym (removed bs i u within none)) taken;
          within = omega (arith, within, one_less bs i u within);
          none = ap (due t) front ∙ k.none;
          least = k.least ∙ ap least_time (sym front);
        }

pub passed_all : (t : ℕ) (all : List Event) (start : List Transaction) (bs : List Full) (i least : ℕ) (current : List Transaction) →
    Passed t all start bs i least current → length bs ≤ i →
    (current ≡ all_lined_up (due t all) start) × (all_items bs ≡ filter (λ e. not (is_due t e)) all) × (time_of least ≡ least_time (all_items bs))
passed_all t all start bs i least current k end =
    let whole : take i bs ≡ bs = take_all i bs end in
    let none : due t (all_items bs) ≡ [] = ap (λ (cs : List Full). due t (all_items cs)) (sym whole) ∙ k.none in (
      ap (λ xs. all_lined_up xs current) (sym none) ∙ k.taking.come,
      sym (none_leaves t (all_items bs) none) ∙ k.taking.stay,
      k.least ∙ ap (λ (cs : List Full). least_time (all_items cs)) whole,
    )
