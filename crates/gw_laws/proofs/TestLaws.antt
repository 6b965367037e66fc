-- A TEST that is read holds of two values where its operator says so.
use Rattle.std.proofs.Common.{◌≡◌, ◌≢◌, ◌↔◌, ℕ, ℤ, pos, negsuc, ◌≤ℤ◌, true, List, Some, refl, ap, sym, subst, ◌∙◌, arith}
use Rattle.std.specs.Str.{bytes_eq}
use Rattle.std.proofs.lemmas.Bool.Decides.{nat_tests}
use Rattle.gw_names.specs.declared.verb.BlockVerb.TheVariants as blocks
use Rattle.gw_names.specs.declared.verb.Verb.{Verb}
use Rattle.gw_names.specs.declared.verb.Verb.TheVariants as verbs
use Rattle.gw_meaning.specs.declared.auxiliary.Auxiliary.{Auxiliary}
use Rattle.gw_meaning.specs.declared.auxiliary.Auxiliary.TheVariants as auxiliaries
use Rattle.gw_meaning.specs.declared.statement.Block.{Block}
use Rattle.gw_meaning.specs.declared.statement.Body.{Body}
use Rattle.gw_meaning.specs.declared.statement.Body.TheVariants as bodies
use Rattle.gw_meaning.specs.Statements.{verb_of_body}
use Rattle.gw_meaning.specs.Step.{holds}
use Rattle.gw_lines.specs.Auxiliaries.{operators, operator_word, operator_of, auxiliary_of, HasAuxiliary}
use Rattle.gw_lines.specs.Classes.{word_of}
use Rattle.gw_lines.proofs.Results.{found_so, some_is}
use Rattle.std.proofs.lemmas.Slice.Eq.{bytes_eq-Decides}
use Rattle.gw_laws.specs.Tests.{Relates, HoldsAsItSays, EachIsAnOperator, equal, not_equal, greater, greater_or_equal, less, less_or_equal}

is_equal : (a b : ℤ) → (holds auxiliaries.Equal a b ≡ true) ↔ (a ≡ b)
is_equal (pos m) (pos n) = grind (arith, nat_tests)
is_equal (pos m) (negsuc n) = grind (arith, nat_tests)
is_equal (negsuc m) (pos n) = grind (arith, nat_tests)
is_equal (negsuc m) (negsuc n) = grind (arith, nat_tests)

is_not_equal : (a b : ℤ) → (holds auxiliaries.NotEqual a b ≡ true) ↔ (a ≢ b)
is_not_equal (pos m) (pos n) = grind (arith, nat_tests)
is_not_equal (pos m) (negsuc n) = grind (arith, nat_tests)
is_not_equal (negsuc m) (pos n) = grind (arith, nat_tests)
is_not_equal (negsuc m) (negsuc n) = grind (arith, nat_tests)

at_most : (a b : ℤ) → (holds auxiliaries.LessOrEqual a b ≡ true) ↔ (a ≤ℤ b)
at_most (pos m) (pos n) = grind (arith, nat_tests)
at_most (pos m) (negsuc n) = grind (arith, nat_tests)
at_most (negsuc m) (pos n) = grind (arith, nat_tests)
at_most (negsuc m) (negsuc n) = grind (arith, nat_tests)

above : (a b : ℤ) → (holds auxiliaries.Greater a b ≡ true) ↔ (a ≤ℤ b → ⊥)
above (pos m) (pos n) = grind (arith, nat_tests)
above (pos m) (negsuc n) = grind (arith, nat_tests)
above (negsuc m) (pos n) = grind (arith, nat_tests)
above (negsuc m) (negsuc n) = grind (arith, nat_tests)

says : (o : Auxiliary) (a b : ℤ) → holds o a b ≡ true → Relates (operator_word o) a b
says auxiliaries.Equal a b h = equal a b ((is_equal a b).0 h)
says auxiliaries.NotEqual a b h = not_equal a b ((is_not_equal a b).0 h)
says auxiliaries.Greater a b h = greater a b ((above a b).0 h)
says auxiliaries.GreaterOrEqual a b h = greater_or_equal a b ((at_most b a).0 h)
says auxiliaries.Less a b h = less a b ((above b a).0 h)
says auxiliaries.LessOrEqual a b h = less_or_equal a b ((at_most a b).0 h)
says auxiliaries.Absent a b h = absurd cc
says auxiliaries.Plus a b h = absurd cc
says auxiliaries.Minus a b h = absurd cc
says (auxiliaries.Gate condition) a b h = absurd cc
says (auxiliaries.Logic switching) a b h = absurd cc

holds_as : (o p : Auxiliary) (a b : ℤ) → Some o ≡ Some p → holds o a b ≡ true → holds p a b ≡ true
holds_as o p a b e h = subst (λ (x : Auxiliary). holds x a b ≡ true) (some_is o p e) h

said : (word : List ℕ) (o : Auxiliary) (a b : ℤ) → operator_of (verbs.Block blocks.Test) word ≡ Some o → Relates word a b → holds o a b ≡ true
unfolding operator_of
said word o a b e (equal x y h) = holds_as auxiliaries.Equal o a b e ((is_equal a b).1 h)
said word o a b e (not_equal x y h) = holds_as auxiliaries.NotEqual o a b e ((is_not_equal a b).1 h)
said word o a b e (greater x y h) = holds_as auxiliaries.Greater o a b e ((above a b).1 h)
said word o a b e (greater_or_equal x y h) = holds_as auxiliaries.GreaterOrEqual o a b e ((at_most b a).1 h)
said word o a b e (less x y h) = holds_as auxiliaries.Less o a b e ((above b a).1 h)
said word o a b e (less_or_equal x y h) = holds_as auxiliaries.LessOrEqual o a b e ((at_most a b).1 h)

word_is : (word : List ℕ) (o : Auxiliary) → operator_of (verbs.Block blocks.Test) word ≡ Some o → operator_word o ≡ word
unfolding operator_of
word_is word o e = (bytes_eq-Decides (operator_word o) word).0 (found_so (λ o. bytes_eq (operator_word o) word) (operators (verbs.Block blocks.Test)) o e)

of_body : (body : Body) (block : Block) (verb : Verb) (x : Auxiliary) (text : List ℕ)
    → body ≡ bodies.Block block → block.verb ≡ blocks.Test → verb_of_body body ≡ verb
    → HasAuxiliary body x → auxiliary_of verb text ≡ Some x → operator_of (verbs.Block blocks.Test) (word_of text) ≡ Some block.auxiliary
of_body body block verb x text is tests of has e =
    let v : verb ≡ verbs.Block blocks.Test = sym of ∙ ap verb_of_body is ∙ ap verbs.Block tests in
    let y : block.auxiliary ≡ x = subst (λ (b : Body). HasAuxiliary b x) is has in
    let f : auxiliary_of (verbs.Block blocks.Test) text ≡ Some x = ap (λ (w : Verb). auxiliary_of w text) (sym v) ∙ e in
    f ∙ ap Some (sym y)

pub holds_as_it_says : HoldsAsItSays
holds_as_it_says line s block spells is tests a b =
    let c = spells.coded in
    let o = of_body s.body block c.verb c.auxiliary s.operands is tests c.body.of_verb c.body.has_auxiliary c.is_auxiliary in (
      λ h. subst (λ (w : List ℕ). Relates w a b) (word_is (word_of s.operands) block.auxiliary o) (says block.auxiliary a b h),
      λ r. said (word_of s.operands) block.auxiliary a b o r,
    )

pub each_is_an_operator : EachIsAnOperator
unfolding operator_of
each_is_an_operator word a b (equal x y h) = refl
each_is_an_operator word a b (not_equal x y h) = refl
each_is_an_operator word a b (greater x y h) = refl
each_is_an_operator word a b (greater_or_equal x y h) = refl
each_is_an_operator word a b (less x y h) = refl
each_is_an_operator word a b (less_or_equal x y h) = refl
