-- The text of an edit: what is read is spelled so, what is spelled so is read, and the same of its first fault.
use Rattle.std.proofs.Common.{◌≡◌, ℕ, suc, ◌<◌, ◌≤◌, ◌==◌, false, List, [], ◌∷◌, length, Result, Ok, Err, refl, sym, ap, subst, ◌∙◌, ◌⊎◌, inl, inr, arith}
use Rattle.std.specs.Prelude.{◌↔◌, All, Any, nat_lt}
use Rattle.std.proofs.lemmas.Bool.{both_ways, cases_Bool}
use Rattle.std.proofs.lemmas.List.Elements.{All-cons, All-head, All-nil, All-tail}
use Rattle.gw_meaning.specs.declared.statement.Statement.{Statement}
use Rattle.gw_lines.specs.declared.fault.LineFault.{LineFault}
use Rattle.gw_lines.specs.declared.fault.LineFault.TheVariants as faults
use Rattle.gw_lines.specs.Reading.{◌>>=◌}
use Rattle.gw_lines.specs.Classes.{are_plain}
use Rattle.gw_lines.specs.Lines.{statement_of}
use Rattle.gw_lines.specs.Pairs.{wants_pairs, kept_of, further_of}
use Rattle.gw_lines.specs.Spelling.{Spells}
use Rattle.gw_lines.specs.Faulty as faulty
use Rattle.gw_lines.specs.Faulty.{FirstFault}
use Rattle.gw_lines.specs.Points.{HasPairs, Completes, complete, past_remark, past_pairs, SpellsLines, spells_lines, PairsFault, too_long, wrong_byte, bad_pairs}
use Rattle.gw_lines.specs.Edits as edits
use Rattle.gw_lines.specs.Edits.{edit_lines, SpellsEdit, HasWrongText, HasWrongByte, in_first_line, in_further_line, AreClean, names_function, is_missing, MayMiss, no_further, pairs_behind, may_miss, FaultOfLines, no_line, long_line, in_first, not_wanted, short_lines, byte_fault, plain_further, completed_by, followed, behind_first, plain_behind, first_of, edit_in, edit_of}
use Rattle.gw_lines.specs.Read.{EditsAreRead, EditsAreRefused}
use Rattle.gw_lines.proofs.Results.{done, failed, ok_is, err_is}
use Rattle.gw_lines.proofs.Fronts.{nonzero}
use Rattle.gw_lines.proofs.Lines.{long_is, short_is, spells_found, spells_again}
use Rattle.gw_lines.proofs.Faults.{fault_found, fault_again}
use Rattle.gw_lines.proofs.PairsRead.{bind_ok}
use Rattle.gw_lines.proofs.OpenPairs.{IsClean, may_be_found, may_be_again, open_fault}
use Rattle.gw_lines.proofs.Further as further
use Rattle.gw_lines.proofs.Further.{kept_is, is_long, is_none, is_wrong, is_kept}

-- ---- each line, and some line

any_here : {X : Type 0} (P : X → Type 0) (x : X) (xs : List X) → P x → Any P (x ∷ xs)
any_here P x xs p = (0, x, omega arith, refl, p)

any_there : {X : Type 0} (P : X → Type 0) (x : X) (xs : List X) → Any P xs → Any P (x ∷ xs)
any_there P x xs a = let lt = a.2 in (suc a.0, a.1, omega arith, a.3, a.4)

clash : {X : Type 0} (P Q : X → Type 0) (xs : List X) → All P xs → Any Q xs → ((x : X) → P x → Q x → ⊥) → ⊥
clash P Q xs all any never = never any.1 (subst P any.3 (all any.0 any.1 any.2)) any.4

abbrev IsShort : List ℕ → Type 0
IsShort line = length line ≤ 250

abbrev IsLong : List ℕ → Type 0
IsLong line = 250 < length line

abbrev IsRight : List ℕ → Type 0
IsRight line = FirstFault line faults.BadByte → ⊥

-- what a check of each line gives, by what it gives of the first: none fails, or some line does
each_cases : {X : Type 0} (P Q : X → Type 0) (check : List X → Result (Unit {0}) LineFault) (f : LineFault) → check [] ≡ Ok tt
    → ((x : X) (xs : List X) → ((check (x ∷ xs) ≡ check xs) × P x) ⊎ ((check (x ∷ xs) ≡ Err f) × Q x))
    → (xs : List X) → ((check xs ≡ Ok tt) × All P xs) ⊎ ((check xs ≡ Err f) × Any Q xs)
each_cases P Q check f none first [] = inl (none, All-nil P)
each_cases P Q check f none first (x ∷ xs) =
    elim (first x xs) [
      | inr here ↦ inr (here.0, any_here Q x xs here.1)
      | inl here ↦ elim (each_cases P Q check f none first xs) [
        | inl others ↦ inl (here.0 ∙ others.0, All-cons P x xs here.1 others.1)
        | inr others ↦ inr (here.0 ∙ others.0, any_there Q x xs others.1)
      ]
    ]

short_cases : (lines : List (List ℕ)) → ((short_lines lines ≡ Ok tt) × All IsShort lines) ⊎ ((short_lines lines ≡ Err faults.TooLong) × Any IsLong lines)
short_cases =
    each_cases IsShort IsLong short_lines faults.TooLong refl
    (λ line lines. elim (cases_Bool (nat_lt 250 (length line))) [
      | inl long ↦ inr (rw long refl, long_is (length line) long)
      | inr short ↦ inl (rw short refl, short_is (length line) short)
    ])

-- a wrong byte, or none
byte_cases : (r : Result Statement LineFault) → (r ≡ Err faults.BadByte) ⊎ (r ≡ Err faults.BadByte → ⊥)
byte_cases (Ok x) = inr (λ e. cc)
byte_cases (Err faults.BadByte) = inl refl
byte_cases (Err faults.TooLong) = inr (λ e. cc)
byte_cases (Err faults.UnknownVerb) = inr (λ e. cc)
byte_cases (Err faults.BadLabel) = inr (λ e. cc)
byte_cases (Err (faults.BadOperand n)) = inr (λ e. cc)
byte_cases (Err (faults.MissingOperand n)) = inr (λ e. cc)
byte_cases (Err (faults.ExtraOperand n)) = inr (λ e. cc)
byte_cases (Err faults.BadPairs) = inr (λ e. cc)
byte_cases (Err faults.Memory) = inr (λ e. cc)

kept_byte_cases : (line : List ℕ) → ((byte_fault (kept_of line) ≡ Err faults.BadByte) × HasWrongText line)
    ⊎ ((byte_fault (kept_of line) ≡ Ok tt) × (HasWrongText line → ⊥))
kept_byte_cases line =
    elim (kept_is line) [
      | is_long long given ↦ inr (rw given refl, λ w. (let c = w.1.cut.short in absurd (omega arith)))
      | is_none remark given ↦ inr (rw given refl, λ w. further.remark_plain remark w.1)
      | is_wrong text has wrong given ↦ inl (rw given refl, (text, has, wrong))
      | is_kept text has plain given ↦
          inr (rw given refl, λ w. both_ways (are_plain text) (ap are_plain (further.one_text has w.1) ∙ w.2) plain)
    ]

further_cases : (lines : List (List ℕ)) → ((plain_further lines ≡ Ok tt) × All (λ line. HasWrongText line → ⊥) lines)
    ⊎ ((plain_further lines ≡ Err faults.BadByte) × Any HasWrongText lines)
further_cases =
    each_cases (λ line. HasWrongText line → ⊥) HasWrongText plain_further faults.BadByte refl
    (λ line lines. elim (kept_byte_cases line) [
      | inl wrong ↦ inr (rw wrong.0 refl, wrong.1)
      | inr right ↦ inl (rw right.0 refl, right.1)
    ])

first_right : (line : List ℕ) (further : List (List ℕ)) → (FirstFault line faults.BadByte → ⊥) → All (λ l. HasWrongText l → ⊥) further
    → HasWrongByte (line ∷ further) → ⊥
first_right line further first others (in_first_line l f w) = first w
first_right line further first others (in_further_line l f w) =
    clash (λ l. HasWrongText l → ⊥) HasWrongText further others w (λ l right wrong. right wrong)

none_wrong : {lines : List (List ℕ)} → HasWrongByte lines → lines ≡ [] → ⊥
none_wrong (in_first_line line more w) e = cc
none_wrong (in_further_line line more w) e = cc

-- a first line with a wrong byte tells it as it is read, unless a further one did before
followed_wrong : (m : Result (Unit {0}) LineFault) → followed m faults.BadByte ≡ faults.BadByte
followed_wrong (Ok u) = refl
followed_wrong (Err f) = refl

first_wrong : (line : List ℕ) (more : List (List ℕ)) → statement_of line ≡ Err faults.BadByte →
    (plain_further more >>= λ u. first_of (line ∷ more)) ≡ failed {A = Statement} faults.BadByte
first_wrong line more wrong =
    elim (further_cases more) [
      | inl plain ↦ rw (plain.0, wrong, followed_wrong (may_miss line more)) refl
      | inr others ↦ rw others.0 refl
    ]

plain_cases : (lines : List (List ℕ)) → ((plain_behind lines ≡ Ok tt) × (HasWrongByte lines → ⊥))
    ⊎ (((plain_behind lines >>= λ u. first_of lines) ≡ failed {A = Statement} faults.BadByte) × HasWrongByte lines)
plain_cases [] = inl (refl, λ h. none_wrong h refl)
plain_cases (line ∷ more) =
    elim (byte_cases (statement_of line)) [
      | inl wrong ↦ inr (first_wrong line more wrong, in_first_line line more (fault_found line faults.BadByte wrong))
      | inr right ↦ elim (further_cases more) [
        | inl others ↦ inl (others.0, first_right line more (λ h. right (fault_again h)) others.1)
        | inr others ↦ inr (rw others.0 refl, in_further_line line more others.1)
      ]
    ]

no_long : (line : List ℕ) → IsShort line → IsLong line → ⊥
no_long line short long = omega arith

-- clean lines give what they do from the first on
clean_gives : {lines : List (List ℕ)} → AreClean lines → edit_in lines ≡ first_of lines
clean_gives {lines} c =
    elim (short_cases lines) [
      | inr p ↦ absurd (clash IsShort IsLong lines c.short p.1 no_long)
      | inl p ↦ elim (plain_cases lines) [
        | inr q ↦ absurd (c.plain q.1)
        | inl q ↦ rw (p.0, q.0) refl
      ]
    ]

-- ---- further lines

completes_is : {s t : Statement} {lines : List (List ℕ)} → Completes s lines t → completed_by s lines ≡ Ok t
completes_is (complete s whole) = rw whole refl
completes_is (past_remark s line lines t wants r c) = rw (wants, further.remark_leaves s r) (completes_is c)
completes_is (past_pairs s line lines more t wants a c) = rw (wants, further.adds_again a) (completes_is c)

completed_found : (lines : List (List ℕ)) (s t : Statement) → completed_by s lines ≡ Ok t → Completes s lines t
completed_found [] s t e =
    elim (cases_Bool (wants_pairs s)) [
      | inl wants ↦ absurd (let f = rw wants at e in cc)
      | inr whole ↦ subst (λ (x : Statement). Completes s [] x) (ok_is s t (rw whole at e)) (complete s whole)
    ]
completed_found (line ∷ lines) s t e =
    elim (cases_Bool (wants_pairs s)) [
      | inr whole ↦ absurd (let f = rw whole at e in cc)
      | inl wants ↦
          let b = bind_ok (further_of s line) (λ more. completed_by more lines) t (rw wants at e) in
          let c = completed_found lines b.0 t b.2 in
          elim (further.further_found s line b.0 b.1) [
            | inl remark ↦ past_remark s line lines t wants remark.0 (subst (λ (x : Statement). Completes x lines t) (sym remark.1) c)
            | inr adds ↦ past_pairs s line lines b.0 t wants adds c
          ]
    ]

adds_clean : {s t : Statement} {line : List ℕ} → HasPairs s line t → IsClean line
adds_clean a = (a.has_text.cut.short, λ w. both_ways (are_plain a.text) (ap are_plain (further.one_text a.has_text w.1) ∙ w.2) a.plain)

completes_clean : {s t : Statement} {lines : List (List ℕ)} → Completes s lines t → All IsClean lines
completes_clean (complete s whole) = All-nil IsClean
completes_clean (past_remark s line lines t wants r c) =
    All-cons IsClean line lines (r.cut.short, λ w. further.remark_plain r w.1) (completes_clean c)
completes_clean (past_pairs s line lines more t wants a c) = All-cons IsClean line lines (adds_clean a) (completes_clean c)

clean_further : (lines : List (List ℕ)) → All IsClean lines → All IsShort lines × All (λ line. HasWrongText line → ⊥) lines
clean_further [] h = (All-nil IsShort, All-nil (λ line. HasWrongText line → ⊥))
clean_further (line ∷ lines) h =
    let here = All-head IsClean line lines h in
    let others = clean_further lines (All-tail IsClean line lines h) in
    (All-cons IsShort line lines here.0 others.0, All-cons (λ line. HasWrongText line → ⊥) line lines here.1 others.1)

pairs_fault : {s : Statement} {line : List ℕ} {f : LineFault} → IsClean line → PairsFault s line f → f ≡ faults.BadPairs
pairs_fault c (too_long s line long) = absurd (no_long line c.0 long)
pairs_fault c (wrong_byte s line text has wrong) = absurd (c.1 (text, has, wrong))
pairs_fault c (bad_pairs s line text has plain never) = refl

bind_err : (r : Result Statement LineFault) (next : Statement → Result Statement LineFault) (f : LineFault) → (r >>= next) ≡ Err f
    → (r ≡ Err f) ⊎ ((t : Statement) × (next t ≡ Err f))
bind_err (Ok t) next f e = inr (t, e)
bind_err (Err g) next f e = inl (ap failed (err_is (failed {A = Statement} g) g f refl e))

completed_fault : (lines : List (List ℕ)) (s : Statement) (f : LineFault) → All IsClean lines → completed_by s lines ≡ Err f → f ≡ faults.BadPairs
completed_fault [] s f c e =
    elim (cases_Bool (wants_pairs s)) [
      | inl wants ↦ err_is (failed {A = Statement} faults.BadPairs) f faults.BadPairs (rw wants at e) refl
      | inr whole ↦ absurd (let g = rw whole at e in cc)
    ]
completed_fault (line ∷ lines) s f c e =
    elim (cases_Bool (wants_pairs s)) [
      | inr whole ↦ err_is (failed {A = Statement} faults.BadPairs) f faults.BadPairs (rw whole at e) refl
      | inl wants ↦ elim (bind_err (further_of s line) (λ more. completed_by more lines) f (rw wants at e)) [
        | inl here ↦ pairs_fault (All-head IsClean line lines c) (further.further_fault s line f here).1
        | inr later ↦ completed_fault lines later.0 f (All-tail IsClean line lines c) later.1
      ]
    ]

-- clean lines are clean one by one
each_clean : (lines : List (List ℕ)) → All IsShort lines → (Any HasWrongText lines → ⊥) → All IsClean lines
each_clean [] short plain = All-nil IsClean
each_clean (line ∷ lines) short plain =
    All-cons IsClean line lines (All-head IsShort line lines short, λ w. plain (any_here HasWrongText line lines w))
    (each_clean lines (All-tail IsShort line lines short) (λ w. plain (any_there HasWrongText line lines w)))

further_clean : {line : List ℕ} {further : List (List ℕ)} → AreClean (line ∷ further) → All IsClean further
further_clean {line} {further} c =
    each_clean further (All-tail IsShort line further c.short) (λ w. c.plain (in_further_line line further w))

-- ---- what is spelled

spelled_first : (line : List ℕ) (more : List (List ℕ)) (s : Statement) → first_of (line ∷ more) ≡ Ok s → SpellsLines (line ∷ more) s
spelled_first line more s e = by_result (statement_of line) refl
  where
    by_result : (r : Result Statement LineFault) → statement_of line ≡ r → SpellsLines (line ∷ more) s
    by_result (Err f) is = absurd (let g = rw is at e in cc)
    by_result (Ok t) is = spells_lines line more t s (spells_found line t is) (completed_found more t s (rw is at e))

lines_spell : (lines : List (List ℕ)) (s : Statement) → first_of lines ≡ Ok s → SpellsLines lines s
lines_spell [] s e = absurd cc
lines_spell (line ∷ more) s e = spelled_first line more s e

in_lines : (lines : List (List ℕ)) (s : Statement) → edit_in lines ≡ Ok s → SpellsLines lines s
in_lines lines s e =
    elim (short_cases lines) [
      | inr p ↦ absurd (let f = rw p.0 at e in cc)
      | inl p ↦ elim (plain_cases lines) [
        | inr q ↦ absurd (let f = rw (p.0, q.0) at e in cc)
        | inl q ↦ lines_spell lines s (rw (p.0, q.0) at e)
      ]
    ]

edit_spells : (text : List ℕ) (s : Statement) → edit_of text ≡ Ok s → SpellsEdit text s
unfolding edit_of
edit_spells text s e = in_lines (edit_lines text) s e

-- the one line of some line is it
of_one : (Q : List ℕ → Type 0) (line : List ℕ) → Any Q (line ∷ []) → Q line
of_one Q line a =
    let all : All (λ l. l ≡ line) (line ∷ []) = All-cons (λ l. l ≡ line) line [] refl (All-nil (λ l. l ≡ line)) in
    subst Q (subst (λ (l : List ℕ). l ≡ line) a.3 (all a.0 a.1 a.2)) a.4

none_of : (Q : List ℕ → Type 0) → Any Q [] → ⊥
none_of Q a = let lt = a.2 in omega arith

-- a line alone
edit_alone : (line : List ℕ) → edit_in (line ∷ []) ≡ first_of (line ∷ [])
edit_alone line =
    elim (short_cases (line ∷ [])) [
      | inr p ↦ rw (p.0, fault_again (faulty.too_long line (of_one IsLong line p.1))) refl
      | inl p ↦ rw p.0 refl
    ]

no_wrong : (line : List ℕ) (s : Statement) → Spells line s → FirstFault line faults.BadByte → ⊥
no_wrong line s h w = let f : Ok s ≡ failed faults.BadByte = sym (spells_again line s h) ∙ fault_again w in cc

spelled_again : {lines : List (List ℕ)} {s : Statement} → SpellsLines lines s → edit_in lines ≡ Ok s
spelled_again (spells_lines line more s t h c) =
    let clean = clean_further more (completes_clean c) in
    clean_gives (record {
      short = All-cons IsShort line more h.has_words.cut.short clean.0;
      plain = first_right line more (no_wrong line s h) clean.1;
    })
    ∙ rw (spells_again line s h) (completes_is c)

edit_again : (text : List ℕ) (s : Statement) → SpellsEdit text s → edit_of text ≡ Ok s
unfolding edit_of
edit_again text s h = spelled_again h

-- ---- the first fault

-- where a missing operand is the fault
may_found : (line : List ℕ) (more : List (List ℕ)) → may_miss line more ≡ Ok tt → MayMiss line more
may_found line [] e = no_further line
may_found line (next ∷ others) e =
    elim (cases_Bool (names_function line)) [
      | inl function ↦
          pairs_behind line (next ∷ others) function
          (may_be_found (next ∷ others) (λ n. absurd cc) (rw (nonzero (length others), function) at e))
      | inr other ↦ absurd (let f = rw (nonzero (length others), other) at e in cc)
    ]

may_again : {line : List ℕ} {more : List (List ℕ)} → MayMiss line more → may_miss line more ≡ Ok tt
may_again (no_further line) = refl
may_again (pairs_behind line further function m) =
    elim (cases_Bool (length further == 0)) [
      | inl none ↦ rw none refl
      | inr some ↦ rw (some, function) (may_be_again m)
    ]

may_fault : (line : List ℕ) (more : List (List ℕ)) (f : LineFault) → All IsClean more → may_miss line more ≡ Err f → f ≡ faults.BadPairs
may_fault line more f c e =
    elim (cases_Bool (length more == 0)) [
      | inl none ↦ absurd (let g = rw none at e in cc)
      | inr some ↦ elim (cases_Bool (names_function line)) [
        | inl function ↦ open_fault more [] f c (rw (some, function) at e)
        | inr other ↦ err_is (failed {A = Unit {0}} faults.BadPairs) f faults.BadPairs (rw (some, other) at e) refl
      ]
    ]

-- what follows of the fault of a first line
data Followed (may : Result (Unit {0}) LineFault) (g f : LineFault) : Type 0 where
  stays : g ≡ f → (is_missing f ≡ false) ⊎ (may ≡ Ok tt) → Followed may g f
  turns : (n : ℕ) → g ≡ faults.MissingOperand n → may ≡ Err f → Followed may g f

is_followed : (may : Result (Unit {0}) LineFault) (g f : LineFault) → followed may g ≡ f → Followed may g f
is_followed (Ok u) g f e = stays e (inr refl)
is_followed (Err bad) (faults.MissingOperand n) f e = turns n refl (ap failed e)
is_followed (Err bad) g f e = stays e (inl (ap is_missing (sym e)))

stays_so : (may : Result (Unit {0}) LineFault) (f : LineFault) → (is_missing f ≡ false) ⊎ (may ≡ Ok tt) → followed may f ≡ f
stays_so (Ok u) f h = refl
stays_so (Err bad) (faults.MissingOperand n) (inl h) = absurd cc
stays_so (Err bad) (faults.MissingOperand n) (inr h) = absurd cc
stays_so (Err bad) f h = refl

turns_so : (may : Result (Unit {0}) LineFault) (n : ℕ) (f : LineFault) → may ≡ Err f → followed may (faults.MissingOperand n) ≡ f
turns_so may n f h = rw h refl

either_so : {A B C : Type 0} → (B → C) → A ⊎ B → A ⊎ C
either_so on (inl a) = inl a
either_so on (inr b) = inr (on b)

fault_is : (g f : LineFault) → failed {A = Statement} g ≡ Err f → g ≡ f
fault_is g f e = err_is (failed {A = Statement} g) g f refl e

fault_behind : (line : List ℕ) (more : List (List ℕ)) (f : LineFault) → AreClean (line ∷ more) → first_of (line ∷ more) ≡ Err f
    → FaultOfLines (line ∷ more) f
fault_behind line more f c e = by_result (statement_of line) refl
  where
    never : (s : Statement) → completed_by s more ≡ Err f → (t : Statement) → Completes s more t → ⊥
    never s h t d = let g : done t ≡ Err f = sym (completes_is d) ∙ h in absurd cc

    never_miss : may_miss line more ≡ Err f → MayMiss line more → ⊥
    never_miss h m = let g : done tt ≡ Err f = sym (may_again m) ∙ h in absurd cc

    by_result : (r : Result Statement LineFault) → statement_of line ≡ r → FaultOfLines (line ∷ more) f
    by_result (Ok s) is =
        let h : completed_by s more ≡ Err f = rw is at e in
        subst (FaultOfLines (line ∷ more)) (sym (completed_fault more s f (further_clean c) h))
        (edits.bad_pairs line more s c (spells_found line s is) (never s h))
    by_result (Err g) is =
        elim (is_followed (may_miss line more) g f (fault_is (followed (may_miss line more) g) f (rw is at e))) [
          | stays same h ↦ in_first line more f c (fault_found line f (is ∙ ap failed same)) (either_so (may_found line more) h)
          | turns n same bad ↦
              subst (FaultOfLines (line ∷ more)) (sym (may_fault line more f (further_clean c) bad))
              (not_wanted line more n c (fault_found line (faults.MissingOperand n) (is ∙ ap failed same)) (never_miss bad))
        ]

first_fault : (lines : List (List ℕ)) (f : LineFault) → AreClean lines → first_of lines ≡ Err f → FaultOfLines lines f
first_fault [] f c e = subst (FaultOfLines []) (fault_is faults.UnknownVerb f e) no_line
first_fault (line ∷ more) f c e = fault_behind line more f c e

lines_fault : (lines : List (List ℕ)) (f : LineFault) → edit_in lines ≡ Err f → FaultOfLines lines f
lines_fault lines f e =
    elim (short_cases lines) [
      | inr p ↦
          let h : failed {A = Statement} faults.TooLong ≡ Err f = rw p.0 at e in
          subst (FaultOfLines lines) (fault_is faults.TooLong f h) (long_line lines p.1)
      | inl p ↦ elim (plain_cases lines) [
        | inr q ↦
            let h : failed {A = Statement} faults.BadByte ≡ Err f = rw (p.0, q.0) at e in
            subst (FaultOfLines lines) (fault_is faults.BadByte f h) (edits.wrong_byte lines p.1 q.1)
        | inl q ↦ first_fault lines f (record { short = p.1; plain = q.1 }) (rw (p.0, q.0) at e)
      ]
    ]

never_completed : (s : Statement) (more : List (List ℕ)) → All IsClean more → ((t : Statement) → Completes s more t → ⊥)
    → completed_by s more ≡ Err faults.BadPairs
never_completed s more c never = by_result (completed_by s more) refl
  where
    by_result : (r : Result Statement LineFault) → completed_by s more ≡ r → completed_by s more ≡ Err faults.BadPairs
    by_result (Ok t) is = absurd (never t (completed_found more s t is))
    by_result (Err f) is = is ∙ ap failed (completed_fault more s f c is)

never_missed : (line : List ℕ) (more : List (List ℕ)) → All IsClean more → (MayMiss line more → ⊥) → may_miss line more ≡ Err faults.BadPairs
never_missed line more c never = by_result (may_miss line more) refl
  where
    by_result : (r : Result (Unit {0}) LineFault) → may_miss line more ≡ r → may_miss line more ≡ Err faults.BadPairs
    by_result (Ok tt) is = absurd (never (may_found line more is))
    by_result (Err f) is = is ∙ ap failed (may_fault line more f c is)

fault_in : {lines : List (List ℕ)} {f : LineFault} → FaultOfLines lines f → edit_in lines ≡ Err f
fault_in no_line = refl
fault_in (long_line lines long) =
    elim (short_cases lines) [
      | inl p ↦ absurd (clash IsShort IsLong lines p.1 long no_long)
      | inr p ↦ rw p.0 refl
    ]
fault_in (edits.wrong_byte lines short wrong) =
    elim (short_cases lines) [
      | inr p ↦ absurd (clash IsShort IsLong lines short p.1 no_long)
      | inl p ↦ elim (plain_cases lines) [
        | inl q ↦ absurd (q.1 wrong)
        | inr q ↦ rw (p.0, q.0) refl
      ]
    ]
fault_in (in_first line more f c h m) = clean_gives c ∙ rw (fault_again h) (ap failed (stays_so (may_miss line more) f (either_so may_again m)))
fault_in (not_wanted line more n c h m) =
    clean_gives c
    ∙ rw (fault_again h) (ap failed (turns_so (may_miss line more) n faults.BadPairs (never_missed line more (further_clean c) m)))
fault_in (edits.bad_pairs line more s c h never) =
    clean_gives c ∙ rw (spells_again line s h) (never_completed s more (further_clean c) never)

-- ---- a line alone

pub alone_is_read : (line : List ℕ) (s : Statement) → (first_of (line ∷ []) ≡ Ok s) ↔ SpellsLines (line ∷ []) s
alone_is_read line s = (lines_spell (line ∷ []) s, λ h. sym (edit_alone line) ∙ spelled_again h)

pub alone_is_refused : (line : List ℕ) (f : LineFault) → (first_of (line ∷ []) ≡ Err f) ↔ FaultOfLines (line ∷ []) f
alone_is_refused line f = (λ e. lines_fault (line ∷ []) f (edit_alone line ∙ e), λ h. sym (edit_alone line) ∙ fault_in h)

-- ---- the laws

pub edits_are_read : EditsAreRead
edits_are_read text s = (edit_spells text s, edit_again text s)

pub edits_are_refused : EditsAreRefused
unfolding edit_of
edits_are_refused text f = (lines_fault (edit_lines text) f, λ h. fault_in h)
