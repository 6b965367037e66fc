-- A function that calls two functions that ask stands for one evaluation and then the other.
use Rattle.std.proofs.Common.{◌≡◌, ℕ, List, [], ◌∷◌, ◌++◌, Bool, true, false, cond, ◌||◌, Option, Some, None, Result, Ok, Err, refl, sym, ap, ◌∙◌, subst, arith}
use Rattle.std.specs.Prelude.{IsErrAnd}
use Rattle.std.specs.List.{list_any}
use Rattle.std.proofs.lemmas.List.Folds.{list_any-append}
use Rattle.gw_streams.specs.declared.stream.Stream.{Stream}
use Rattle.gw_meaning.specs.declared.item.Item.{Item}
use Rattle.gw_meaning.specs.Listing.{Listing}
use Rattle.gw_meaning.specs.Questions.{Answer, ask, items_of}
use Rattle.gw_meaning.specs.Reads.{or_later, is_use}
use Rattle.gw_meaning.specs.Evaluation.{Eval, gives, asks, ◌~>◌}
use Rattle.gw_meaning.proofs.Programs.{bind_gives, bind_ends}
use Rattle.gw_uses.specs.Steps.{below}
use Rattle.gw_uses.specs.Uses.{first_in}
use Rattle.gw_uses.proofs.UseLaws.{or_later_more, below_later}
use Rattle.gw_expr.specs.declared.halt.Halt.{Halt}
use Rattle.gw_expr.specs.declared.halt.Halt.TheVariants as halts
use Rattle.gw_asking.specs.Noted.{Noted, Reads, Asks, Keeps}
use Rattle.gw_asking.specs.Deciding.{Decides, Comes}

-- nothing is read
reads_none : (xs : Noted) → Reads xs [] xs
reads_none xs = record { now = refl; each = λ q. go (first_in xs.firsts q) } where
  go : (o : Option ℕ) → o ≡ or_later o None
  go None = refl
  go (Some n) = refl

pub keeps_all : (xs : Noted) → Keeps xs xs
keeps_all xs = record { now = refl; each = λ q. refl }

-- one item is read
pub reads_one : (xs : Noted) (i : Item) (ys : Noted) → Asks xs i ys → Reads xs (i ∷ []) ys
reads_one xs i ys asked = record {
  now = asked.now;
  each = λ q. asked.each q ∙ ap (λ b. or_later (first_in xs.firsts q) (cond b (Some xs.step) None)) (go (is_use q i));
} where
  go : (b : Bool) → b ≡ (b || false)
  go true = refl
  go false = refl

-- the items of two evaluations, one after the other
reads_then : (xs ys zs : Noted) (first second whole : List Item) → Reads xs first ys → Reads ys second zs → whole ≡ first ++ second → Reads xs whole zs
reads_then xs ys zs first second whole a b both = record {
  now = b.now ∙ a.now;
  each = λ q.
      let old = first_in xs.firsts q in
      let one : Bool → Option ℕ = λ c. cond c (Some xs.step) None in
      let early = list_any (is_use q) first in
      let late = list_any (is_use q) second in
      let F : ℕ → Type 0 = λ n. first_in zs.firsts q ≡ or_later (first_in ys.firsts q) (cond late (Some n) None) in
      let any : (early || late) ≡ list_any (is_use q) whole = sym (list_any-append (is_use q) first second) ∙ ap (λ is. list_any (is_use q) is) (sym both) in
      subst F a.now (b.each q) ∙
      (ap (λ o. or_later o (one late)) (a.each q) ∙ (or_later_more old early late xs.step ∙ ap (λ c. or_later old (one c)) any));
}

-- what is read leaves what earlier steps read
pub reads_keep : (xs ys : Noted) (items : List Item) → Reads xs items ys → Keeps xs ys
reads_keep xs ys items read = record {
  now = read.now;
  each = λ q.
      ap (λ o. below xs.step o) (read.each q) ∙
      below_later xs.step xs.step (first_in xs.firsts q) (list_any (is_use q) items) (omega arith);
}

keeps_then : (xs ys zs : Noted) → Keeps xs ys → Keeps ys zs → Keeps xs zs
keeps_then xs ys zs a b = record {
  now = b.now ∙ a.now;
  each = λ q.
      let F : ℕ → Type 0 = λ n. below n (first_in zs.firsts q) ≡ below n (first_in ys.firsts q) in
      subst F a.now (b.each q) ∙ a.each q;
}

module _ (t : Listing) (seed : ℕ) where
  pub decides_then : {A B : Type 0} (p : Eval A) (k : A → Eval B) (a : A) (r : Result B Halt) (xs ys zs : Noted) →
      Decides t seed p (Ok a) xs ys → Decides t seed (k a) r ys zs → Decides t seed (p ~> k) r xs zs
  decides_then {A} {B} p k a (Ok b) xs ys zs first second =
      let both = bind_gives t seed (p xs.streams) (λ (r : A × List Stream). k r.0 r.1) (a, ys.streams) first.0 in
      (both.0 ∙ second.0, reads_then xs ys zs _ _ _ first.1 second.1 both.1)
  decides_then {A} {B} p k a (Err (halts.End end)) xs ys zs first second =
      let both = bind_gives t seed (p xs.streams) (λ (r : A × List Stream). k r.0 r.1) (a, ys.streams) first.0 in
      (both.0 ∙ second.0, reads_then xs ys zs _ _ _ first.1 second.1 both.1)
  decides_then p k a (Err halts.Memory) xs ys zs first second = keeps_then xs ys zs (reads_keep xs ys (items_of t seed (p xs.streams)) first.1) second

  pub decides_halt : {A B : Type 0} (p : Eval A) (k : A → Eval B) (halt : Halt) (xs ys : Noted) → Decides t seed p (Err halt) xs ys →
      Decides t seed (p ~> k) (Err halt) xs ys
  decides_halt {A} p k (halts.End end) xs ys h =
      let both = bind_ends t seed (p xs.streams) (λ (r : A × List Stream). k r.0 r.1) end h.0 in
      (both.0, subst (λ is. Reads xs is ys) (sym both.1) h.1)
  decides_halt p k halts.Memory xs ys h = h

  -- after a question that was noted
  pub decides_asked : {B : Type 0} (i : Item) (k : Answer i → Eval B) (r : Result B Halt) (xs ys zs : Noted) →
      Asks xs i ys → Decides t seed (k (ask t seed i)) r ys zs → Decides t seed (asks i k) r xs zs
  decides_asked {B} i k r xs ys zs asked h =
      let same : Ok (ask t seed i, xs.streams) ≡ Ok (ask t seed i, ys.streams) = ap (λ s. Ok (ask t seed i, s)) (sym asked.drawn) in
      decides_then (asks i (λ x. gives x)) k (ask t seed i) r xs ys zs (same, reads_one xs i ys asked) h

  -- the exit by `?` after the first evaluation
  pub decides_exit : {A B : Type 0} (p : Eval A) (k : A → Eval B) (q : Eval B) (r : Result B Halt) (e halt : Halt) (xs ys : Noted) →
      q ≡ (p ~> k) → r ≡ Err e → e ≡ halt → Decides t seed p (Err halt) xs ys → Decides t seed q r xs ys
  decides_exit {A} {B} p k q r e halt xs ys whole is same h =
      let exit : r ≡ Err halt = is ∙ ap (λ f. Err f) same in
      let F : Eval B → Type 0 = λ m. Decides t seed m r xs ys in
      let G : Result B Halt → Type 0 = λ m. Decides t seed (p ~> k) m xs ys in
      subst F (sym whole) (subst G (sym exit) (decides_halt p k halt xs ys h))

  -- the same, of what the exit says
  pub decides_left : {A B : Type 0} (p : Eval A) (k : A → Eval B) (r : Result B Halt) (halt : Halt) (xs ys : Noted) →
      IsErrAnd r (λ e. e ≡ halt) → Decides t seed p (Err halt) xs ys → Decides t seed (p ~> k) r xs ys
  decides_left p k (Ok b) halt xs ys exit h = absurd exit
  decides_left p k (Err e) halt xs ys exit h =
      subst (λ (f : Halt). Decides t seed (p ~> k) (Err f) xs ys) (sym exit) (decides_halt p k halt xs ys h)

  -- the rest after the first evaluation
  pub decides_whole : {A B : Type 0} (p : Eval A) (k : A → Eval B) (q : Eval B) (a : A) (r : Result B Halt) (xs ys zs : Noted) →
      q ≡ (p ~> k) → Decides t seed p (Ok a) xs ys → Decides t seed (k a) r ys zs → Decides t seed q r xs zs
  decides_whole {A} {B} p k q a r xs ys zs whole first second =
      let F : Eval B → Type 0 = λ m. Decides t seed m r xs zs in
      subst F (sym whole) (decides_then p k a r xs ys zs first second)

  -- what neither asks nor draws
  pub decides_comes : {B : Type 0} (p : Eval B) (r : Result B Halt) (xs : Noted) → Comes p r → Decides t seed p r xs xs
  decides_comes {B} p (Ok b) xs is =
      let F : Eval B → Type 0 = λ q. Decides t seed q (Ok b) xs xs in
      subst F (sym is) (refl, reads_none xs)
  decides_comes {B} p (Err (halts.End end)) xs is =
      let F : Eval B → Type 0 = λ q. Decides t seed q (Err (halts.End end)) xs xs in
      subst F (sym is) (refl, reads_none xs)
  decides_comes p (Err halts.Memory) xs is = keeps_all xs

  -- what gives b at once
  pub decides_gives : {B : Type 0} (b : B) (xs : Noted) → Decides t seed (gives b) (Ok b) xs xs
  decides_gives b xs = (refl, reads_none xs)

  -- the exit where memory is refused
  pub decides_memory : {B : Type 0} (q : Eval B) (r : Result B Halt) (e : Halt) (xs ys : Noted) → r ≡ Err e → e ≡ halts.Memory → Keeps xs ys →
      Decides t seed q r xs ys
  decides_memory {B} q r e xs ys is same h =
      let exit : r ≡ Err halts.Memory = is ∙ ap (λ f. Err f) same in
      subst (λ (m : Result B Halt). Decides t seed q m xs ys) (sym exit) h
