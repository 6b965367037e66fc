-- what the maps of names answer beside the labels of the lines, and a label that stands twice
use Rattle.std.proofs.Common.{◌≡◌, ℕ, zero, suc, List, [], ◌∷◌, drop, refl, Bool, true, false, arith, ◌-◌, ◌+◌, ◌<◌, ◌≤◌, length, get_or, Option, Some, None, is_some, ◌||◌, subst, sym, ap₂, ◌∙◌}
use Rattle.std.specs.BTreeMap as tree
use Rattle.std.specs.Ordering.{nat_cmp}
use Rattle.std.specs.Cmp.Lexicographic.{slice_cmp}
use Rattle.std.proofs.lemmas.Grind.{common_steps}
use Rattle.std.proofs.lemmas.List.{drop_more}
use Rattle.gw_meaning.specs.Listing.{defined_in, labelled_in}
use Rattle.gw_meaning.specs.declared.statement.Body.{Body}
use Rattle.gw_meaning.specs.declared.statement.Body.TheVariants as bodies
use Rattle.gw_meaning.specs.declared.statement.Numbered.{Numbered}
use Rattle.gw_model.specs.Faults.{has_label_twice, is_labelled}
use Rattle.gw_model.specs.Listed.{counted_label}
use Rattle.gw_model.specs.Tables.{is_told}
use Rattle.gw_model.specs.declared.names.Names.{Names}

-- a label that stands twice after the first lines stands twice
pub twice_behind : (n : ℕ) (lines : List Numbered) → has_label_twice (drop n lines) ≡ true → has_label_twice lines ≡ true
twice_behind zero lines h = h
twice_behind (suc n) [] h = h
twice_behind (suc n) (line ∷ lines) h = grind (arith, common_steps, twice_behind n lines h)

-- the line in front of what is left
pub drop_back : (lines : List Numbered) (i : ℕ) (line : Numbered) → 0 < i → i ≤ length lines → line ≡ get_or lines (i - 1) line →
    drop (i - 1) lines ≡ line ∷ drop i lines
drop_back lines i line above within is =
    let e : i - 1 + 1 ≡ i = omega arith in
    let less : i - 1 < length lines = omega arith in
    let split : drop (i - 1) lines ≡ get_or lines (i - 1) line ∷ drop (i - 1 + 1) lines = drop_more lines (i - 1) line less in
    rw (split, e, ← is)

-- one line's label, before the others are looked at
label_first : (name : List ℕ) (line : Numbered) (label : Option (List ℕ)) (body : Body) → label ≡ line.statement.label → body ≡ line.statement.body →
    (lines : List Numbered) → is_labelled (Some name) lines ≡ (is_some (labelled_in name lines) || is_some (defined_in name lines)) →
    is_labelled (Some name) (line ∷ lines) ≡ (is_some (labelled_in name (line ∷ lines)) || is_some (defined_in name (line ∷ lines)))
label_first name line label (bodies.Block block) e b lines h = grind (arith, common_steps)
label_first name line label (bodies.Definition definition) e b lines h = grind (arith, common_steps)
label_first name line label (bodies.Command command) e b lines h = grind (arith, common_steps)

-- a label is that of a block or of a definition where one of the maps answers
pub labelled_either : (name : List ℕ) (lines : List Numbered) →
    is_labelled (Some name) lines ≡ (is_some (labelled_in name lines) || is_some (defined_in name lines))
labelled_either name [] = refl
labelled_either name (line ∷ lines) = label_first name line line.statement.label line.statement.body refl refl lines (labelled_either name lines)

-- whether a label stands for something, where the maps are those of the lines
pub told_is : (names : Names) (lines : List Numbered) → ((name : List ℕ) → tree.get (slice_cmp nat_cmp) names.labels name ≡ labelled_in name lines) →
    ((name : List ℕ) → tree.get (slice_cmp nat_cmp) names.definitions name ≡ defined_in name lines) → (label : Option (List ℕ)) →
    is_told names label ≡ is_labelled label lines
told_is names lines l d None = refl
told_is names lines l d (Some name) = ap₂ (λ a b. is_some a || is_some b) (l name) (d name) ∙ sym (labelled_either name lines)

-- a line in front whose label stands twice, and one whose label does not
pub twice_here : (line : Numbered) (rest : List Numbered) → is_labelled (counted_label line) rest ≡ true → has_label_twice (line ∷ rest) ≡ true
twice_here line rest h = subst (λ (b : Bool). (b || has_label_twice rest) ≡ true) (sym h) refl

pub once_here : (line : Numbered) (rest : List Numbered) → is_labelled (counted_label line) rest ≡ false → has_label_twice rest ≡ false →
    has_label_twice (line ∷ rest) ≡ false
once_here line rest h t = subst (λ (b : Bool). (b || has_label_twice rest) ≡ false) (sym h) t
