-- What lines answer of one line among them: by its number, by its label, and by what it defines.
use Rattle.std.proofs.Common.{◌≡◌, ℕ, ◌==◌, ◌&&◌, Bool, true, false, cond, List, [], ◌∷◌, ◌++◌, All, Option, Some, None, is_some, length, refl, sym, ap, subst, ◌∙◌, arith, append_assoc}
use Rattle.std.specs.Str.{bytes_eq}
use Rattle.std.proofs.lemmas.Bool.{and_from, and_left, and_right, both_ways, eq-eqb, false_from_ne_true, or_from, or_parts}
use Rattle.std.proofs.lemmas.List.Elements.{All-head, All-tail}
use Rattle.std.proofs.lemmas.List.Folds.{list_any-append}
use Rattle.std.proofs.lemmas.Slice.Eq.{bytes_eq-Decides}
use Rattle.gw_meaning.specs.declared.statement.Body.{Body}
use Rattle.gw_meaning.specs.declared.statement.Body.TheVariants as bodies
use Rattle.gw_meaning.specs.declared.statement.Definition.{Definition}
use Rattle.gw_meaning.specs.declared.statement.Numbered.{Numbered}
use Rattle.gw_meaning.specs.Listing.{after_in, block_of_body, command_of_body, defined_in, defines, definition_if, definition_of, definition_of_body, first_block, generates_in, has_label, is_block, is_generate, labelled_in, line_in, or_next}
use Rattle.gw_meaning.specs.Numbers.{AreNumbered}
use Rattle.gw_model.specs.Faults.{has_label_twice, is_labelled}
use Rattle.gw_model.specs.Listed.{counted_label}
use Rattle.gw_model.proofs.Numbers.{absent_first, absent_from, absent_gone}
use Rattle.gw_model.proofs.Apart.{same_bytes}
use Rattle.gw_touch.specs.Touches.{Defines, LastBlock}

-- ---- by its number

-- after lines that have not the number
line_past : (front rest : List Numbered) (k : ℕ) → line_in front k ≡ None → line_in (front ++ rest) k ≡ line_in rest k
line_past [] rest k none = refl
line_past (y ∷ front) rest k none =
    let parts = absent_first y front k none in
    ap (λ b. cond b (Some y) (line_in (front ++ rest) k)) parts.0 ∙ line_past front rest k parts.1

after_past : (front rest : List Numbered) (k : ℕ) → line_in front k ≡ None → after_in (front ++ rest) k ≡ after_in rest k
after_past [] rest k none = refl
after_past (y ∷ front) rest k none =
    let parts = absent_first y front k none in
    ap (λ b. cond b (cond (is_block y) (first_block (front ++ rest)) None) (after_in (front ++ rest) k)) parts.0 ∙ after_past front rest k parts.1

-- what no line has, no line in front has, and none after
pub absent_front : (front back : List Numbered) (k : ℕ) → line_in (front ++ back) k ≡ None → line_in front k ≡ None
absent_front [] back k none = refl
absent_front (y ∷ front) back k none =
    let parts = absent_first y (front ++ back) k none in absent_from y front k parts.0 (absent_front front back k parts.1)

pub absent_back : (front back : List Numbered) (k : ℕ) → line_in (front ++ back) k ≡ None → line_in back k ≡ None
absent_back [] back k none = none
absent_back (y ∷ front) back k none = absent_back front back k ((absent_first y (front ++ back) k none).1)

-- the line itself, and what comes after it
pub own_line : (front rest : List Numbered) (x : Numbered) (k : ℕ) → x.number ≡ k → line_in front k ≡ None → line_in (front ++ x ∷ rest) k ≡ Some x
own_line front rest x k is none = line_past front (x ∷ rest) k none ∙ ap (λ b. cond b (Some x) (line_in rest k)) (eq-eqb x.number k is)

pub own_after : (front rest : List Numbered) (x : Numbered) (k : ℕ) → x.number ≡ k → line_in front k ≡ None →
    after_in (front ++ x ∷ rest) k ≡ cond (is_block x) (first_block rest) None
own_after front rest x k is none =
    after_past front (x ∷ rest) k none ∙ ap (λ b. cond b (cond (is_block x) (first_block rest) None) (after_in rest k)) (eq-eqb x.number k is)

pub no_after : (lines : List Numbered) (k : ℕ) → line_in lines k ≡ None → after_in lines k ≡ None
no_after [] k none = refl
no_after (y ∷ lines) k none =
    let parts = absent_first y lines k none in
    ap (λ b. cond b (cond (is_block y) (first_block lines) None) (after_in lines k)) parts.0 ∙ no_after lines k parts.1

-- after the last block in front comes the first of the rest
first_past : (behind rest : List Numbered) → All (λ line. is_block line ≡ false) behind → first_block (behind ++ rest) ≡ first_block rest
first_past [] rest none = refl
first_past (y ∷ behind) rest none =
    ap (λ b. cond b (Some y.number) (first_block (behind ++ rest))) (All-head (λ line. is_block line ≡ false) y behind none)
    ∙ first_past behind rest (All-tail (λ line. is_block line ≡ false) y behind none)

pub after_last : (front rest : List Numbered) (k : ℕ) → AreNumbered (front ++ rest) → LastBlock front k → after_in (front ++ rest) k ≡ first_block rest
after_last front rest k apart last =
    let more = last.behind ++ rest in
    let parts : front ++ rest ≡ last.front ++ last.block ∷ more =
    ap (λ xs. xs ++ rest) last.parts ∙ append_assoc last.front (last.block ∷ last.behind) rest in
    let parted : AreNumbered (last.front ++ last.block ∷ more) = subst (λ (ls : List Numbered). AreNumbered ls) parts apart in
    let gone : line_in (last.front ++ more) last.block.number ≡ None = absent_gone last.front more last.block parted in
    let none : line_in last.front k ≡ None =
    absent_front last.front more k (subst (λ (n : ℕ). line_in (last.front ++ more) n ≡ None) last.number_is gone) in
    ap (λ ls. after_in ls k) parts
    ∙ (own_after last.front more last.block k last.number_is none
    ∙ (ap (λ b. cond b (first_block more) None) last.is_one ∙ first_past last.behind rest last.is_last))

-- what is answered is the number of a line
pub first_there : (lines : List Numbered) (k : ℕ) → line_in lines k ≡ None → first_block lines ≡ Some k → ⊥
first_there [] k none h = cc
first_there (y ∷ lines) k none h = go (is_block y) h (first_there lines k parts.1) where
  parts : ((y.number == k) ≡ false) × (line_in lines k ≡ None)
  parts = absent_first y lines k none

  go : (b : Bool) → cond b (Some y.number) (first_block lines) ≡ Some k → (first_block lines ≡ Some k → ⊥) → ⊥
  go true e rest = let same : y.number ≡ k = cc in both_ways (y.number == k) parts.0 (eq-eqb y.number k same)
  go false e rest = rest e

pub label_there : (name : List ℕ) (lines : List Numbered) (k : ℕ) → line_in lines k ≡ None → labelled_in name lines ≡ Some k → ⊥
label_there name [] k none h = cc
label_there name (y ∷ lines) k none h = go (is_block y && has_label name y.statement.label) h (label_there name lines k parts.1) where
  parts : ((y.number == k) ≡ false) × (line_in lines k ≡ None)
  parts = absent_first y lines k none

  go : (b : Bool) → cond b (Some y.number) (labelled_in name lines) ≡ Some k → (labelled_in name lines ≡ Some k → ⊥) → ⊥
  go true e rest = let same : y.number ≡ k = cc in both_ways (y.number == k) parts.0 (eq-eqb y.number k same)
  go false e rest = rest e

-- ---- among the GENERATEs

pub generates_past : (front xs ys : List Numbered) → generates_in (front ++ xs) ≡ generates_in (front ++ ys) → generates_in xs ≡ generates_in ys
generates_past [] xs ys h = h
generates_past (y ∷ front) xs ys h = go (is_generate y) h (generates_past front xs ys) where
  go : (b : Bool) → cond b (y.number ∷ generates_in (front ++ xs)) (generates_in (front ++ xs)) ≡
      cond b (y.number ∷ generates_in (front ++ ys)) (generates_in (front ++ ys)) →
      (generates_in (front ++ xs) ≡ generates_in (front ++ ys) → generates_in xs ≡ generates_in ys) → generates_in xs ≡ generates_in ys
  go true e rest = rest cc
  go false e rest = rest e

pub one_more : (n : ℕ) (ns : List ℕ) → n ∷ ns ≡ ns → ⊥
one_more n ns h = let longer : length (n ∷ ns) ≡ length ns = ap length h in omega (arith, longer)

-- ---- by its label

-- two names are other ones in either order
other_bytes : (m n : List ℕ) → bytes_eq m n ≡ false → bytes_eq n m ≡ false
other_bytes m n h =
    false_from_ne_true (bytes_eq n m)
    (λ same. both_ways (bytes_eq m n) h ((bytes_eq-Decides m n).1 (sym ((bytes_eq-Decides n m).0 same))))

-- one that stands once has another name
other_name : (label : Option (List ℕ)) (front back : List Numbered) (x : Numbered) (name : List ℕ) → is_labelled label (front ++ x ∷ back) ≡ false →
    counted_label x ≡ Some name → has_label name label ≡ false
other_name None front back x name h is = refl
other_name (Some m) front back x name h is =
    let test : Numbered → Bool = λ (l : Numbered). has_label m (counted_label l) in
    let split = or_parts _ _ (sym (list_any-append test front (x ∷ back)) ∙ h) in
    let here : has_label m (counted_label x) ≡ false = (or_parts (test x) _ split.1).0 in
    other_bytes name m (subst (λ (o : Option (List ℕ)). has_label m o ≡ false) is here)

pub once : (front back : List Numbered) (x : Numbered) (name : List ℕ) → has_label_twice (front ++ x ∷ back) ≡ false → counted_label x ≡ Some name →
    (is_labelled (Some name) front ≡ false) × (is_labelled (Some name) back ≡ false)
once [] back x name h is =
    (refl, subst (λ (o : Option (List ℕ)). is_labelled o back ≡ false) is (or_parts (is_labelled (counted_label x) back) (has_label_twice back) h).0)
once (y ∷ front) back x name h is =
    let parts = or_parts (is_labelled (counted_label y) (front ++ x ∷ back)) (has_label_twice (front ++ x ∷ back)) h in
    let rest = once front back x name parts.1 is in
    (or_from (has_label name (counted_label y)) (is_labelled (Some name) front) (other_name (counted_label y) front back x name parts.0 is) rest.0, rest.1)

module _ (name : List ℕ) where
  -- a statement with another counted label is no block with that label, and defines nothing of it
  unlabelled : (y : Numbered) → has_label name (counted_label y) ≡ false → (is_block y && has_label name y.statement.label) ≡ false
  unlabelled y h = go y.statement.body refl where
    go : (body : Body) → y.statement.body ≡ body → (is_block y && has_label name y.statement.label) ≡ false
    go (bodies.Block block) is =
        let label : has_label name y.statement.label ≡ false = rw is at h in and_right (is_block y) (has_label name y.statement.label) label
    go (bodies.Definition d) is = and_left (is_block y) (has_label name y.statement.label) (rw is refl)
    go (bodies.Command c) is = and_left (is_block y) (has_label name y.statement.label) (rw is refl)

  no_definition : (b : Bool) → definition_if b None ≡ None
  no_definition true = refl
  no_definition false = refl

  undefined : (y : Numbered) → has_label name (counted_label y) ≡ false → defines name y ≡ None
  undefined y h = go y.statement.body refl where
    go : (body : Body) → y.statement.body ≡ body → defines name y ≡ None
    go (bodies.Block block) is =
        ap (λ b. definition_if (has_label name y.statement.label) (definition_of_body b)) is ∙ no_definition (has_label name y.statement.label)
    go (bodies.Definition d) is =
        let label : has_label name y.statement.label ≡ false = rw is at h in
        ap (λ b. definition_if b (definition_of y)) label
    go (bodies.Command c) is =
        ap (λ b. definition_if (has_label name y.statement.label) (definition_of_body b)) is ∙ no_definition (has_label name y.statement.label)

  -- after lines without the name
  pub label_past : (front rest : List Numbered) → is_labelled (Some name) front ≡ false → labelled_in name (front ++ rest) ≡ labelled_in name rest
  label_past [] rest h = refl
  label_past (y ∷ front) rest h =
      let parts = or_parts (has_label name (counted_label y)) (is_labelled (Some name) front) h in
      ap (λ b. cond b (Some y.number) (labelled_in name (front ++ rest))) (unlabelled y parts.0) ∙ label_past front rest parts.1

  pub defined_past : (front rest : List Numbered) → is_labelled (Some name) front ≡ false → defined_in name (front ++ rest) ≡ defined_in name rest
  defined_past [] rest h = refl
  defined_past (y ∷ front) rest h =
      let parts = or_parts (has_label name (counted_label y)) (is_labelled (Some name) front) h in
      ap (λ o. or_next o (defined_in name (front ++ rest))) (undefined y parts.0) ∙ defined_past front rest parts.1

  pub defined_nowhere : (lines : List Numbered) → is_labelled (Some name) lines ≡ false → defined_in name lines ≡ None
  defined_nowhere [] h = refl
  defined_nowhere (y ∷ lines) h =
      let parts = or_parts (has_label name (counted_label y)) (is_labelled (Some name) lines) h in
      ap (λ o. or_next o (defined_in name lines)) (undefined y parts.0) ∙ defined_nowhere lines parts.1

  -- with a statement that is no block of that label, and without it
  pub label_without : (front back : List Numbered) (y : Numbered) → (is_block y && has_label name y.statement.label) ≡ false →
      labelled_in name (front ++ y ∷ back) ≡ labelled_in name (front ++ back)
  label_without [] back y h = ap (λ b. cond b (Some y.number) (labelled_in name back)) h
  label_without (x ∷ front) back y h =
      ap (λ o. cond (is_block x && has_label name x.statement.label) (Some x.number) o) (label_without front back y h)

  -- the block with the label
  pub label_here : (rest : List Numbered) (x : Numbered) → is_block x ≡ true → x.statement.label ≡ Some name → labelled_in name (x ∷ rest) ≡ Some x.number
  label_here rest x is label =
      ap (λ b. cond b (Some x.number) (labelled_in name rest))
      (and_from (is_block x) (has_label name x.statement.label) is (ap (has_label name) label ∙ same_bytes name))

  -- what a definition of the name says
  pub own_definition : (x : Numbered) (d : Definition) → Defines x name d → defines name x ≡ Some d
  own_definition x d is =
      ap (λ l. definition_if (has_label name l) (definition_of x)) is.label
      ∙ (ap (λ b. definition_if b (definition_of x)) (same_bytes name) ∙ ap definition_of_body is.body)

  of_body : (body : Body) (d : Definition) → definition_of_body body ≡ Some d → body ≡ bodies.Definition d
  of_body (bodies.Block block) d h = absurd cc
  of_body (bodies.Definition definition) d h = let same : definition ≡ d = cc in ap (λ x. bodies.Definition x) same
  of_body (bodies.Command command) d h = absurd cc

  pub of_label : (label : Option (List ℕ)) → has_label name label ≡ true → label ≡ Some name
  of_label None h = absurd cc
  of_label (Some other) h = ap (λ n. Some n) ((bytes_eq-Decides other name).0 h)

  pub defined_by : (x : Numbered) (d : Definition) → defines name x ≡ Some d → Defines x name d
  defined_by x d h = go (has_label name x.statement.label) refl h where
    go : (b : Bool) → has_label name x.statement.label ≡ b → definition_if b (definition_of x) ≡ Some d → Defines x name d
    go true is k = record { label = of_label x.statement.label is; body = of_body x.statement.body d k }
    go false is k = absurd cc

-- the counted label of a block, and of a definition
no_command : (body : Body) → is_some (block_of_body body) ≡ true → is_some (command_of_body body) ≡ false
no_command (bodies.Block block) h = refl
no_command (bodies.Definition d) h = absurd cc
no_command (bodies.Command c) h = absurd cc

pub block_label : (x : Numbered) (name : List ℕ) → is_block x ≡ true → x.statement.label ≡ Some name → counted_label x ≡ Some name
block_label x name is label =
    ap (λ b. cond b None x.statement.label) (no_command x.statement.body is) ∙ label

pub definition_label : (x : Numbered) (name : List ℕ) (d : Definition) → Defines x name d → counted_label x ≡ Some name
definition_label x name d is =
    ap (λ b. cond b None x.statement.label) (ap (λ b. is_some (command_of_body b)) is.body) ∙ is.label

-- what the name of a definition that stands once is
pub defined_at : (front back : List Numbered) (x : Numbered) (name : List ℕ) (d : Definition) → has_label_twice (front ++ x ∷ back) ≡ false →
    Defines x name d → defined_in name (front ++ x ∷ back) ≡ Some d
defined_at front back x name d twice is =
    defined_past name front (x ∷ back) (once front back x name twice (definition_label x name d is)).0
    ∙ ap (λ o. or_next o (defined_in name back)) (own_definition name x d is)
