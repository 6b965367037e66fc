-- Lines after the same lines in front: what they are asked, they answer alike as far as their rests do.
use Rattle.std.proofs.Common.{◌≡◌, ℕ, zero, suc, ◌+◌, ◌<◌, Bool, true, false, cond, List, [], ◌∷◌, ◌++◌, Option, Some, None, is_some, option_and_then, ◌==◌, length, filter, nat_le, refl, ap, sym, subst, ◌∙◌, arith, ⊎_elim}
use Rattle.std.specs.List.{filter_map, cons_option, slice_get}
use Rattle.std.proofs.lemmas.Bool.{cases_Bool, leb-false}
use Rattle.std.proofs.lemmas.List.Elements.{filter_map-append}
use Rattle.gw_meaning.specs.declared.statement.Body.{Body}
use Rattle.gw_meaning.specs.declared.statement.Body.TheVariants as bodies
use Rattle.gw_meaning.specs.declared.statement.Block.{Block}
use Rattle.gw_meaning.specs.declared.statement.Command.{Command}
use Rattle.gw_meaning.specs.declared.statement.Numbered.{Numbered}
use Rattle.gw_meaning.specs.Listing.{line_in, block_of, is_block, command_of, command_of_body, first_block, after_in, nth, is_command}
use Rattle.gw_touch.specs.Touching.{last_block}

-- whether a number is this one
abbrev pub is_at : Option ℕ → ℕ → Bool
is_at None number = false
is_at (Some other) number = other == number

-- the block with a number
abbrev pub block_in : List Numbered → ℕ → Option Block
block_in lines number = option_and_then block_of (line_in lines number)

pub block_behind : (front xs ys : List Numbered) (k : ℕ) → block_in xs k ≡ block_in ys k → block_in (front ++ xs) k ≡ block_in (front ++ ys) k
block_behind [] xs ys k h = h
block_behind (line ∷ front) xs ys k h =
    elim (line.number == k) as (λ b. option_and_then block_of (cond b (Some line) (line_in (front ++ xs) k)) ≡
    option_and_then block_of (cond b (Some line) (line_in (front ++ ys) k)))
    [ true ↦ refl | false ↦ block_behind front xs ys k h ]

pub first_behind : (front xs ys : List Numbered) → first_block xs ≡ first_block ys → first_block (front ++ xs) ≡ first_block (front ++ ys)
first_behind [] xs ys h = h
first_behind (line ∷ front) xs ys h =
    elim (is_block line) as (λ b. cond b (Some line.number) (first_block (front ++ xs)) ≡ cond b (Some line.number) (first_block (front ++ ys)))
    [ true ↦ refl | false ↦ first_behind front xs ys h ]

-- where the same block comes first
pub after_behind : (front xs ys : List Numbered) (k : ℕ) → first_block xs ≡ first_block ys → after_in xs k ≡ after_in ys k →
    after_in (front ++ xs) k ≡ after_in (front ++ ys) k
after_behind [] xs ys k e h = h
after_behind (line ∷ front) xs ys k e h =
    elim (line.number == k) as (λ b. cond b (cond (is_block line) (first_block (front ++ xs)) None) (after_in (front ++ xs) k) ≡
    cond b (cond (is_block line) (first_block (front ++ ys)) None) (after_in (front ++ ys) k))
    [ true ↦ ap (λ o. cond (is_block line) o None) (first_behind front xs ys e) | false ↦ after_behind front xs ys k e h ]

-- lines with a block, and lines without one
first_here : (front xs ys : List Numbered) → is_some (first_block front) ≡ true → first_block (front ++ xs) ≡ first_block (front ++ ys)
first_here [] xs ys h = absurd cc
first_here (line ∷ front) xs ys h =
    (elim (is_block line) as (λ b. is_some (cond b (Some line.number) (first_block front)) ≡ true →
    cond b (Some line.number) (first_block (front ++ xs)) ≡ cond b (Some line.number) (first_block (front ++ ys)))
    [ true ↦ λ some. refl | false ↦ λ some. first_here front xs ys some ]) h

last_here : (o p : Option ℕ) (front : List Numbered) → is_some (first_block front) ≡ true → last_block o front ≡ last_block p front
last_here o p [] h = absurd cc
last_here o p (line ∷ front) h =
    (elim (is_block line) as (λ b. is_some (cond b (Some line.number) (first_block front)) ≡ true →
    last_block (cond b (Some line.number) o) front ≡ last_block (cond b (Some line.number) p) front)
    [ true ↦ λ some. refl | false ↦ λ some. last_here o p front some ]) h

last_none : (o : Option ℕ) (front : List Numbered) → is_some (first_block front) ≡ false → last_block o front ≡ o
last_none o [] h = refl
last_none o (line ∷ front) h =
    (elim (is_block line) as (λ b. is_some (cond b (Some line.number) (first_block front)) ≡ false → last_block (cond b (Some line.number) o) front ≡ o)
    [ true ↦ λ none. absurd cc | false ↦ λ none. last_none o front none ]) h

-- a line in front with no block after it there
last_step : (b : Bool) (n k : ℕ) (f g x y : Option ℕ) → is_at (cond b (Some n) None) k ≡ false → x ≡ y →
    cond (n == k) (cond b f None) x ≡ cond (n == k) (cond b g None) y
last_step true n k f g x y mine rest = subst (λ (c : Bool). cond c f x ≡ cond c g y) (sym mine) rest
last_step false n k f g x y mine rest = elim (n == k) as (λ c. cond c None x ≡ cond c None y) [ true ↦ refl | false ↦ rest ]

-- the block with this number is not the last one in front: a block comes after it there
pub after_in_front : (front xs ys : List Numbered) (k : ℕ) → is_at (last_block None front) k ≡ false → after_in xs k ≡ after_in ys k →
    after_in (front ++ xs) k ≡ after_in (front ++ ys) k
after_in_front [] xs ys k last h = h
after_in_front (line ∷ front) xs ys k last h =
    let own = cond (is_block line) (Some line.number) None in
    ⊎_elim
    (λ (some : is_some (first_block front) ≡ true).
    let rest : after_in (front ++ xs) k ≡ after_in (front ++ ys) k =
    after_in_front front xs ys k (subst (λ (o : Option ℕ). is_at o k ≡ false) (last_here own None front some) last) h in
    elim (line.number == k) as (λ b. cond b (cond (is_block line) (first_block (front ++ xs)) None) (after_in (front ++ xs) k) ≡
    cond b (cond (is_block line) (first_block (front ++ ys)) None) (after_in (front ++ ys) k))
    [ true ↦ ap (λ o. cond (is_block line) o None) (first_here front xs ys some) | false ↦ rest ])
    (λ (none : is_some (first_block front) ≡ false).
    let rest : after_in (front ++ xs) k ≡ after_in (front ++ ys) k =
    after_in_front front xs ys k (subst (λ (o : Option ℕ). is_at o k ≡ false) (sym (last_none None front none)) refl) h in
    let mine : is_at own k ≡ false = subst (λ (o : Option ℕ). is_at o k ≡ false) (last_none own front none) last in
    last_step (is_block line) line.number k (first_block (front ++ xs)) (first_block (front ++ ys)) (after_in (front ++ xs) k) (after_in (front ++ ys) k)
    mine rest)
    (cases_Bool (is_some (first_block front)))

-- commands where the same commands come
pub commands_behind : (front xs ys : List Numbered) → filter_map command_of xs ≡ filter_map command_of ys →
    filter_map command_of (front ++ xs) ≡ filter_map command_of (front ++ ys)
commands_behind front xs ys h =
    filter_map-append command_of front xs ∙ ap (λ cs. filter_map command_of front ++ cs) h ∙ sym (filter_map-append command_of front ys)

-- the first of a list, whatever comes after
get_front : {X : Type 0} (cs xs ys : List X) (j : ℕ) → j < length cs → slice_get (cs ++ xs) j ≡ slice_get (cs ++ ys) j
get_front [] xs ys j less = absurd (omega arith)
get_front (c ∷ cs) xs ys zero less = refl
get_front (c ∷ cs) xs ys (suc j) less = get_front cs xs ys j (omega arith)

nth_front : {X : Type 0} (cs xs ys : List X) (j : ℕ) → j < length cs + 1 → nth (cs ++ xs) j ≡ nth (cs ++ ys) j
nth_front cs xs ys zero less = refl
nth_front cs xs ys (suc j) less = get_front cs xs ys j (omega arith)

-- as many as there are statements that are commands
length_step : (body : Body) (line : Numbered) (cs : List Command) (lines : List Numbered) → length cs ≡ length lines →
    length (cons_option (command_of_body body) cs) ≡ length (cond (is_some (command_of_body body)) (line ∷ lines) lines)
length_step (bodies.Block block) line cs lines h = h
length_step (bodies.Definition definition) line cs lines h = h
length_step (bodies.Command command) line cs lines h = ap suc h

length_commands : (lines : List Numbered) → length (filter_map command_of lines) ≡ length (filter is_command lines)
length_commands [] = refl
length_commands (line ∷ lines) =
    length_step line.statement.body line (filter_map command_of lines) (filter is_command lines) (length_commands lines)

-- the commands in front
pub commands_front : (front xs ys : List Numbered) (j : ℕ) → nat_le (length (filter is_command front) + 1) j ≡ false →
    nth (filter_map command_of (front ++ xs)) j ≡ nth (filter_map command_of (front ++ ys)) j
commands_front front xs ys j h =
    let cs = filter_map command_of front in
    let count : length cs ≡ length (filter is_command front) = length_commands front in
    let below : j < length (filter is_command front) + 1 = leb-false _ j h in
    let less : j < length cs + 1 = omega arith in
    rw (filter_map-append command_of front xs, filter_map-append command_of front ys)
    (nth_front cs (filter_map command_of xs) (filter_map command_of ys) j less)

-- what is no block has no block after it
pub after_none : (lines : List Numbered) (k : ℕ) → block_in lines k ≡ None → after_in lines k ≡ None
after_none [] k h = refl
after_none (line ∷ lines) k h =
    (elim (line.number == k) as (λ b. option_and_then block_of (cond b (Some line) (line_in lines k)) ≡ None →
    cond b (cond (is_block line) (first_block lines) None) (after_in lines k) ≡ None)
    [ true ↦ λ none. ap (λ o. cond (is_some o) (first_block lines) None) none | false ↦ λ none. after_none lines k none ]) h
