-- The ids of the GENERATEs of a version are blocks of it.
use Rattle.std.proofs.Common.{◌≡◌, ℕ, nat_eq, true, List, [], ◌∷◌, Some, None, option_and_then, inl, inr, refl, ap, subst}
use Rattle.std.specs.List.{AllByRecursion}
use Rattle.std.proofs.lemmas.Bool.{cases_Bool, cond_both, eq-eqb, eqb-true}
use Rattle.gw_meaning.specs.declared.statement.Body.{Body}
use Rattle.gw_meaning.specs.declared.statement.Body.TheVariants as bodies
use Rattle.gw_meaning.specs.declared.statement.Block.{Block}
use Rattle.gw_meaning.specs.declared.statement.Numbered.{Numbered}
use Rattle.gw_meaning.specs.Listing.{block_of, block_of_body, is_generate_body, is_generate, line_in, generates_in}
use Rattle.gw_meaning.specs.Numbers.{AreNumbered}

pub found_behind : (line : Numbered) (lines : List Numbered) (n : ℕ) (block : Block) → line_in lines line.number ≡ None →
    option_and_then block_of (line_in lines n) ≡ Some block → option_and_then block_of (line_in (line ∷ lines) n) ≡ Some block
found_behind line lines n block apart there =
    elim (cases_Bool (nat_eq line.number n)) [
      | inl is ↦ absurd (let none : line_in lines n ≡ None = subst (λ m. line_in lines m ≡ None) (eqb-true line.number n is) apart in
          let gone : option_and_then block_of (line_in lines n) ≡ None = ap (option_and_then block_of) none in cc)
      | inr other ↦ rw other there
    ]

abbrev pub IsBlockIn : List Numbered → ℕ → Type 0
IsBlockIn lines n = (block : Block) × (option_and_then block_of (line_in lines n) ≡ Some block)

all_behind : (line : Numbered) (lines : List Numbered) (ns : List ℕ) → line_in lines line.number ≡ None → AllByRecursion (IsBlockIn lines) ns →
    AllByRecursion (IsBlockIn (line ∷ lines)) ns
all_behind line lines [] apart h = tt
all_behind line lines (n ∷ ns) apart h = ((h.0.0, found_behind line lines n h.0.0 apart h.0.1), all_behind line lines ns apart h.1)

generate_there : (line : Numbered) (lines : List Numbered) (body : Body) → line.statement.body ≡ body → is_generate_body body ≡ true →
    IsBlockIn (line ∷ lines) line.number
generate_there line lines (bodies.Block block) is there = (block, rw (eq-eqb line.number line.number refl) (ap block_of_body is))
generate_there line lines (bodies.Definition definition) is there = absurd cc
generate_there line lines (bodies.Command command) is there = absurd cc

pub generates_there : (lines : List Numbered) → AreNumbered lines → AllByRecursion (IsBlockIn lines) (generates_in lines)
generates_there [] numbered = tt
generates_there (line ∷ lines) numbered =
    let rest = all_behind line lines (generates_in lines) numbered.1 (generates_there lines numbered.2) in
    cond_both (is_generate line) (line.number ∷ generates_in lines) (generates_in lines) (AllByRecursion (IsBlockIn (line ∷ lines)))
    (λ is. (generate_there line lines line.statement.body refl is, rest)) (λ _. rest)
