-- The id that a label leads to is that of a block of the version.
use Rattle.std.proofs.Common.{◌≡◌, ℕ, Bool, true, false, cond, ◌&&◌, List, [], ◌∷◌, Some, is_some, refl, ap, subst}
use Rattle.std.proofs.lemmas.Bool.{and_parts, eq-eqb}
use Rattle.gw_meaning.specs.declared.statement.Body.{Body}
use Rattle.gw_meaning.specs.declared.statement.Body.TheVariants as bodies
use Rattle.gw_meaning.specs.declared.statement.Numbered.{Numbered}
use Rattle.gw_meaning.specs.Listing.{is_block, block_of_body, has_label, labelled_in}
use Rattle.gw_meaning.specs.Numbers.{AreNumbered}
use Rattle.gw_frame.proofs.Generates.{IsBlockIn, found_behind}

block_there : (line : Numbered) (lines : List Numbered) (body : Body) → line.statement.body ≡ body → is_some (block_of_body body) ≡ true →
    IsBlockIn (line ∷ lines) line.number
block_there line lines (bodies.Block block) is there = (block, rw (eq-eqb line.number line.number refl) (ap block_of_body is))
block_there line lines (bodies.Definition definition) is there = absurd cc
block_there line lines (bodies.Command command) is there = absurd cc

pub label_there : (lines : List Numbered) (name : List ℕ) (id : ℕ) → AreNumbered lines → labelled_in name lines ≡ Some id → IsBlockIn lines id
label_there [] name id numbered is = absurd cc
label_there (line ∷ lines) name id numbered is = go (is_block line && has_label name line.statement.label) refl (label_there lines name id numbered.2) where
  go : (b : Bool) → (is_block line && has_label name line.statement.label) ≡ b → (labelled_in name lines ≡ Some id → IsBlockIn lines id) →
      IsBlockIn (line ∷ lines) id
  go true both rest =
      let there : Some line.number ≡ Some id = subst (λ c. cond c (Some line.number) (labelled_in name lines) ≡ Some id) both is in
      let same : line.number ≡ id = cc in
      subst (λ n. IsBlockIn (line ∷ lines) n) same
      (block_there line lines line.statement.body refl (and_parts (is_block line) (has_label name line.statement.label) both).0)
  go false other rest =
      let found = rest (subst (λ c. cond c (Some line.number) (labelled_in name lines) ≡ Some id) other is) in
      (found.0, found_behind line lines id found.0 numbered.1 found.1)
