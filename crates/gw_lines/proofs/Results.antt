-- What a step of reading gives: one thing, or one fault.
use Rattle.std.proofs.Common.{◌≡◌, Bool, true, List, [], ◌∷◌, Option, Some, Result, Ok, Err, sym, subst, ◌∙◌, inl, inr}
use Rattle.std.specs.Prelude.{find, IfOk, IfErr}
use Rattle.std.proofs.lemmas.Bool.{cases_Bool}
use Rattle.gw_meaning.specs.declared.statement.Statement.{Statement}
use Rattle.gw_lines.specs.declared.fault.LineFault.{LineFault}
use Rattle.gw_lines.specs.declared.fault.LineFault.TheVariants as faults
use Rattle.gw_lines.specs.Reading.{Gives, OrMemory}

abbrev pub some : {A : Type 0} → A → Option A
some x = Some x

pub some_is : {A : Type 0} (x y : A) → some x ≡ some y → x ≡ y
some_is x y e = cc

-- what is found in a list passes the test
pub found_so : {A : Type 0} (p : A → Bool) (xs : List A) (x : A) → find p xs ≡ Some x → p x ≡ true
found_so p [] x e = absurd cc
found_so p (y ∷ ys) x e =
    elim (cases_Bool (p y)) [
      | inl holds ↦ subst (λ z. p z ≡ true) (some_is y x (rw holds at e)) holds
      | inr fails ↦ found_so p ys x (rw fails at e)
    ]

abbrev pub done : {A : Type 0} → A → Result A LineFault
done x = Ok x

abbrev pub failed : {A : Type 0} → LineFault → Result A LineFault
failed f = Err f

pub ok_is : {A : Type 0} (x y : A) → done x ≡ done y → x ≡ y
ok_is x y e = cc

pub err_is : {A : Type 0} (r : Result A LineFault) (f g : LineFault) → r ≡ Err f → r ≡ Err g → f ≡ g
err_is {A} r f g h k = let e : failed {A = A} f ≡ failed g = sym h ∙ k in cc

pub not_both : {A B : Type 0} (r : Result A LineFault) (x : A) (f : LineFault) → r ≡ Ok x → r ≡ Err f → B
not_both r x f h k = absurd (let e : done x ≡ Err f = sym h ∙ k in cc)

-- what follows from a fact follows, or out of memory
pub or_memory : (f : LineFault) {P Q : Type 0} → (P → Q) → OrMemory f P → OrMemory f Q
or_memory faults.Memory on h = tt
or_memory faults.TooLong on h = on h
or_memory faults.BadByte on h = on h
or_memory faults.UnknownVerb on h = on h
or_memory faults.BadLabel on h = on h
or_memory (faults.BadOperand n) on h = on h
or_memory (faults.MissingOperand n) on h = on h
or_memory (faults.ExtraOperand n) on h = on h
or_memory faults.BadPairs on h = on h

-- what follows of the statement that a function answers, or of its fault, from what reading gives
pub gives_found : (P : Statement → Type 0) (r read : Result Statement LineFault) → ((s : Statement) → read ≡ Ok s → P s) → Gives (λ s. s) r read → IfOk r P
gives_found P (Ok s) read on h = on s h
gives_found P (Err f) read on h = tt

pub gives_fault : (P : LineFault → Type 0) (r read : Result Statement LineFault) → ((f : LineFault) → read ≡ Err f → P f) → Gives (λ s. s) r read
    → IfErr r (λ f. OrMemory f (P f))
gives_fault P (Ok s) read on h = tt
gives_fault P (Err f) read on h = or_memory f (on f) h

pub gives_same : (r read other : Result Statement LineFault) → read ≡ other → Gives (λ s. s) r read → Gives (λ s. s) r other
gives_same r read other e h = subst (λ (x : Result Statement LineFault). Gives (λ s. s) r x) e h
