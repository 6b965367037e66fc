-- Why the sum of a level is that over all ticks.
use Rattle.std.proofs.Common.{◌≡◌, ℕ, zero, suc, ◌+◌, ◌-◌, ◌*◌, ◌<◌, ◌≤◌, true, false, nat_le, max, List, [], ◌∷◌, refl, sym, ap, ◌∙◌, arith}
use Rattle.std.specs.List.{sum_by, range_with_len}
use Rattle.std.proofs.lemmas.List.Sums.{sum_by-cons}
use Rattle.std.proofs.Math.Nat.{mul-zero, mul-suc}
use Rattle.std.proofs.lemmas.Bool.Decides.{nat_tests}
use Rattle.gw_meaning.specs.Levels.{Course, Change, sum_up_to, changed, behind, GoOn, content_in, SumIsOverTicks}

-- the sum over n ticks from a on
over : (ℕ → ℕ) → ℕ → ℕ → ℕ
over f a n = sum_by f (range_with_len a n)

over_more : (f : ℕ → ℕ) (a n : ℕ) → over f a (suc n) ≡ f a + over f (a + 1) n
unfolding over
over_more f a n = sum_by-cons f a (range_with_len (a + 1) n)

over_none : (f : ℕ → ℕ) (a : ℕ) → over f a 0 ≡ 0
unfolding over
over_none f a = refl

over_split : (f : ℕ → ℕ) (a m n k b : ℕ) → k ≡ m + n → b ≡ a + m → over f a k ≡ over f a m + over f b n
over_split f a zero n k b e h =
    let right : k ≡ n = omega arith in
    let here : b ≡ a = omega arith in
    rw (right, here, over_none f a) (omega arith)
over_split f a (suc m) n k b e h =
    let next : k ≡ suc (m + n) = omega arith in
    let rest = over_split f (a + 1) m n (m + n) b refl (omega arith) in
    let whole = over_more f a (m + n) in
    let first = over_more f a m in
    rw next (omega (arith, rest, whole, first))

over_same :
    (f g : ℕ → ℕ) (a n : ℕ) → ((t : ℕ) → a ≤ t → t < a + n → f t ≡ g t) → over f a n ≡ over g a n
over_same f g a zero same = over_none f a ∙ sym (over_none g a)
over_same f g a (suc n) same =
    let first = same a (omega arith) (omega arith) in
    let rest = over_same f g (a + 1) n (λ t l h. same t (omega (arith, l)) (omega (arith, h))) in
    omega (arith, first, rest, over_more f a n, over_more g a n)

over_constant : (f : ℕ → ℕ) (c a n : ℕ) → ((t : ℕ) → a ≤ t → t < a + n → f t ≡ c) → over f a n ≡ c * n
over_constant f c a zero same = over_none f a ∙ sym (mul-zero c)
over_constant f c a (suc n) same =
    let first = same a (omega arith) (omega arith) in
    let rest = over_constant f c (a + 1) n (λ t l h. same t (omega (arith, l)) (omega (arith, h))) in
    omega (arith, first, rest, over_more f a n, mul-suc c n)

reaches : (from : ℕ) (cs : List Change) (to : ℕ) → GoOn from cs to → from ≤ to
reaches from [] to go = go
reaches from (c ∷ cs) to go =
    let first = go.0 in
    let rest = reaches c.clock cs to go.1 in
    omega (arith, first, rest)

earlier : (before : ℕ) (c : Change) (cs : List Change) (t : ℕ) → t < c.clock → content_in before (c ∷ cs) t ≡ before
earlier before c cs t l = let no : nat_le c.clock t ≡ false = grind (arith, nat_tests) in rw no refl

later : (before : ℕ) (c : Change) (cs : List Change) (t : ℕ) → c.clock ≤ t → content_in before (c ∷ cs) t ≡ content_in c.content cs t
later before c cs t l = let yes : nat_le c.clock t ≡ true = grind (arith, nat_tests) in rw yes refl

-- up to the first change the content is the old one, and from there on what the rest says
one_more :
    (before at : ℕ) (c : Change) (cs : List Change) (clock : ℕ) → at ≤ c.clock → c.clock ≤ clock →
    over (content_in before (c ∷ cs)) at (clock - at)
    ≡ before * (c.clock - at) + over (content_in c.content cs) c.clock (clock - c.clock)
one_more before at c cs clock l m =
    let split = over_split (content_in before (c ∷ cs)) at (c.clock - at) (clock - c.clock) (clock - at) c.clock
    (omega (arith, l, m)) (omega (arith, l)) in
    let first = over_constant (content_in before (c ∷ cs)) before at (c.clock - at)
    (λ t low h. earlier before c cs t (omega (arith, h, l))) in
    let rest = over_same (content_in before (c ∷ cs)) (content_in c.content cs) c.clock (clock - c.clock)
    (λ t low h. later before c cs t low) in
    split ∙ (ap (λ n. n + over (content_in before (c ∷ cs)) c.clock (clock - c.clock)) first
    ∙ ap (λ n. before * (c.clock - at) + n) rest)

regrouped : (a b r : ℕ) → (a + b) + r ≡ a + (b + r)
regrouped a b r = omega arith

-- a change that goes on with the clock stands where it says
on_with : (course : Course) (c : Change) → Course
on_with course c = record { content = c.content; sum = sum_up_to course c.clock; at = c.clock }

changed_on : (course : Course) (c : Change) → course.at ≤ c.clock → changed c.content c.clock course ≡ on_with course c
unfolding on_with
changed_on course c l =
    let same : max course.at c.clock ≡ c.clock = omega (arith, l) in
    ap (λ (n : ℕ). let k : Course = record { content = c.content; sum = sum_up_to course c.clock; at = n } in k) same

sum_is_over : (course : Course) (changes : List Change) (clock : ℕ) → GoOn course.at changes clock →
    sum_up_to (behind course changes) clock
    ≡ course.sum + over (content_in course.content changes) course.at (clock - course.at)
unfolding on_with
sum_is_over course [] clock go =
    ap (λ n. course.sum + n)
    (sym (over_constant (content_in course.content []) course.content course.at (clock - course.at) (λ t l h. refl)))
sum_is_over course (c ∷ cs) clock go =
    ap (λ k. sum_up_to (behind k cs) clock) (changed_on course c go.0)
    ∙ (sum_is_over (on_with course c) cs clock go.1
    ∙ regrouped course.sum (course.content * (c.clock - course.at)) (over (content_in c.content cs) c.clock (clock - c.clock))
    ∙ ap (λ n. course.sum + n) (sym (one_more course.content course.at c cs clock go.0 (reaches c.clock cs clock go.1))))

pub sum_is_over_ticks : SumIsOverTicks
unfolding over
sum_is_over_ticks course changes clock go = sum_is_over course changes clock go
