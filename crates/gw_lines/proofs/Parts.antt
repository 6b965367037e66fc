-- The parts of an operand list: the first part and those after it, and the operands that they are.
use Rattle.std.proofs.Common.{◌≡◌, ℕ, ◌+◌, ◌<◌, ◌≤◌, ◌==◌, not, Bool, true, false, List, [], ◌∷◌, ◌++◌, length, drop, get_or, Option, Some, None, Result, Ok, Err, refl, sym, ap, ◌∙◌, inl, inr, add-one, drop-cons, append_assoc}
use Rattle.std.specs.Prelude.{if◌then◌else◌}
use Rattle.std.proofs.lemmas.Bool.{cases_Bool}
use Rattle.std.proofs.Math.ListN.{drop_of_length-le}
use Rattle.gw_lines.specs.declared.class.Class.TheVariants as class
use Rattle.gw_lines.specs.declared.fault.LineFault.{LineFault}
use Rattle.gw_lines.specs.declared.form.Form.{Form}
use Rattle.gw_lines.specs.declared.operand.Operand.{Operand}
use Rattle.gw_lines.specs.Reading.{◌>>=◌, Fails}
use Rattle.gw_lines.specs.Classes.{front_of, rest_of, tail_of, is_nothing, with_byte}
use Rattle.gw_lines.specs.Operands.{left, listed_here, added, each_of, missing_of, missing_after, has_more}
use Rattle.gw_lines.specs.Parts.{split, parts_of, goes_on, part_of, others_of, is_missing}
use Rattle.gw_lines.proofs.Results.{ok_is, or_memory}
use Rattle.gw_lines.proofs.Fronts.{nonzero, put_before}

-- what is left after the first part, where this stands after it
abbrev pub behind : List ℕ → List (List ℕ)
behind rest = left (not (is_nothing rest)) (tail_of rest)

pub split_on : (b : ℕ) (bs : List ℕ) → (b == 44) ≡ false → split (b ∷ bs) ≡ with_byte b (split bs)
split_on b bs e = rw e refl

-- the first part of a text, and those after it
pub split_first : (text : List ℕ)
    → split text ≡ front_of class.Operand text ∷ behind (rest_of class.Operand text)
split_first [] = refl
split_first (b ∷ bs) =
    elim (cases_Bool (b == 44)) [
      | inl comma ↦ rw (comma, nonzero (length bs)) refl
      | inr other ↦ split_on b bs other ∙ ap (with_byte b) (split_first bs) ∙ sym (put_before class.Operand behind b bs (ap not other))
    ]

-- what is left of a text that was not begun are its parts
pub left_whole : (text : List ℕ) → left (not (is_nothing text)) text ≡ parts_of text
left_whole [] = refl
left_whole (b ∷ bs) = rw (nonzero (length bs)) refl

-- operands before those that reading gives
abbrev pub with_operands : List (Option Operand) → Result (List (Option Operand)) LineFault
    → Result (List (Option Operand)) LineFault
with_operands os read = read >>= λ others. Ok (os ++ others)

-- the first that is missing, of those so far and the others
abbrev pub first_missing : Option ℕ → Option ℕ → Option ℕ
first_missing None others = others
first_missing (Some n) others = Some n

pub part_first : (more : Bool) (rest : List ℕ) → more ≡ true → front_of class.Operand rest ≡ part_of (left more rest)
part_first more rest h = rw (h, split_first rest) refl

pub others_first : (more : Bool) (rest : List ℕ) → more ≡ true → behind (rest_of class.Operand rest) ≡ others_of (left more rest)
others_first more rest h = rw (h, split_first rest) refl

-- where a loop over the forms stands: the operands so far and those of the forms that are left are those of all forms, and the
-- same of what is missing
pub record IsAt (forms : List Form) (parts : List (List ℕ)) (i n : ℕ) (rest : List (List ℕ))
    (os : List (Option Operand)) (m : Option ℕ) : Type 0 where
  pub counts : n ≡ i
  pub operands : with_operands os (each_of (n + 1) (drop i forms) rest) ≡ each_of 1 forms parts
  pub missing : first_missing m (missing_of (n + 1) (drop i forms) rest) ≡ missing_of 1 forms parts
  pub more : has_more (drop i forms) rest ≡ has_more forms parts

pub form_at : (forms : List Form) (i : ℕ) (d : Form) → i < length forms
    → drop i forms ≡ get_or forms i d ∷ drop (i + 1) forms
form_at forms i d h = rw (add-one, drop-cons forms i d) refl

joined : (r : Result (List (Option Operand)) LineFault) (os os' : List (Option Operand))
    (next : Result (List (Option Operand)) LineFault) → (r >>= λ here. Ok (os ++ here)) ≡ Ok os'
    → with_operands os (r >>= λ here. next >>= λ others. Ok (here ++ others)) ≡ with_operands os' next
joined (Err f) os os' next e = absurd cc
joined (Ok here) os os' (Err f) e = refl
joined (Ok here) os os' (Ok others) e =
    let i = ok_is (os ++ here) os' e in rw (← i, append_assoc os here others) refl

stopped : (r : Result (List (Option Operand)) LineFault) (os : List (Option Operand)) (f : LineFault)
    (next : Result (List (Option Operand)) LineFault) → (r >>= λ here. Ok (os ++ here)) ≡ Err f
    → with_operands os (r >>= λ here. next >>= λ others. Ok (here ++ others)) ≡ Err f
stopped (Ok here) os f next e = absurd cc
stopped (Err g) os f next e = e

first_after : (m : Option ℕ) (form : Form) (n : ℕ) (part : List ℕ) (others : Option ℕ)
    → first_missing m (if is_missing form part then Some n else others) ≡ first_missing (missing_after m form n part) others
first_after (Some k) form n part others = refl
first_after None form n part others =
    elim (cases_Bool (is_missing form part)) [
      | inl holds ↦ rw holds refl
      | inr fails ↦ rw fails refl
    ]

-- the loop goes on by one form
pub next_form : {forms : List Form} {parts : List (List ℕ)} {i n : ℕ} {rest rest' : List (List ℕ)}
    {os os' : List (Option Operand)} {m m' : Option ℕ} {form : Form} {more : Bool} {part : List ℕ}
    → IsAt forms parts i n rest os m → drop i forms ≡ form ∷ drop (i + 1) forms
    → goes_on rest ≡ more → part ≡ part_of rest → rest' ≡ others_of rest
    → added form (n + 1) more part os ≡ Ok os' → m' ≡ missing_after m form (n + 1) part
    → IsAt forms parts (i + 1) (n + 1) rest' os' m'
next_form {forms} {parts} {i} {n} {rest} {rest'} {os} {os'} {m} {m'} {form} {more} {part} at d g p o a k = record {
  counts = ap (λ (x : ℕ). x + 1) at.counts;
  operands =
      rw (o)
      (sym (joined (listed_here form (n + 1) (goes_on rest) (part_of rest)) os os'
      (each_of (n + 1 + 1) (drop (i + 1) forms) (others_of rest)) (rw (g, ← p) a))
      ∙ rw d at at.operands);
  missing =
      rw (k, o, p)
      (sym (first_after m form (n + 1) (part_of rest) (missing_of (n + 1 + 1) (drop (i + 1) forms) (others_of rest)))
      ∙ rw d at at.missing);
  more = rw o (rw d at at.more);
}

-- it stops at a form
pub form_fails : {forms : List Form} {parts : List (List ℕ)} {i n : ℕ} {rest : List (List ℕ)}
    {os : List (Option Operand)} {m : Option ℕ} {form : Form} {more : Bool} {part : List ℕ} (f : LineFault)
    → IsAt forms parts i n rest os m → drop i forms ≡ form ∷ drop (i + 1) forms
    → goes_on rest ≡ more → part ≡ part_of rest → Fails f (added form (n + 1) more part os)
    → Fails f (each_of 1 forms parts)
form_fails {forms} {parts} {i} {n} {rest} {os} {m} {form} {more} {part} f at d g p a =
    or_memory f (λ e.
    sym at.operands ∙ rw d
    (stopped (listed_here form (n + 1) (goes_on rest) (part_of rest)) os f
    (each_of (n + 1 + 1) (drop (i + 1) forms) (others_of rest)) (rw (g, ← p) e))) a

-- whether parts are left
pub goes_on_left : (more : Bool) (rest : List ℕ) → goes_on (left more rest) ≡ more
goes_on_left true rest = rw (split_first rest) refl
goes_on_left false rest = refl

pub none_left : (forms : List Form) (i : ℕ) → length forms ≤ i → drop i forms ≡ []
none_left forms i h = drop_of_length-le forms h
