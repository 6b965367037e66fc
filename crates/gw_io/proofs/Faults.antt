-- A fault after bytes that were read before it.
use Rattle.std.proofs.Common.{◌≡◌, ℕ, ◌+◌, ◌≤◌, List, ◌++◌, length, arith, subst, ap, sym, ◌∙◌, length-append}
use Rattle.gw_io.specs.Reading.{Breaks, failures_at}
use Rattle.gw_io.specs.declared.budget.ReadFault.{ReadFault}
use Rattle.gw_io.specs.declared.budget.ReadFault.TheVariants.{Memory}

-- the calls for two parts together, and for some calls more
pub calls : (x y : List ℕ) (k m n t : ℕ) → k ≡ m + length x → m ≡ n + (length y + t) → k ≡ n + (length (x ++ y) + t)
calls x y k m n t p q = omega (arith, length-append x y)

-- a fault after the bytes x
pub behind : {S : Type 0} (took : S → List ℕ → S → Type 0) (failures : S → ℕ) → ((a b c : S) (x y : List ℕ) → took a x b → took b y c → took a (x ++ y) c) →
    (P Q : List ℕ → Type 0) (a b c : S) (x : List ℕ) (k m n : ℕ) (fault : ReadFault) → took a x b → k ≡ m + length x → failures b ≡ failures a →
    ((y : List ℕ) → Q y → P (x ++ y)) → Breaks took failures Q b c m n fault → Breaks took failures P a c k n fault
behind took failures onward P Q a b c x k m n fault t p f whole h = record {
  bytes = x ++ h.bytes;
  part = whole h.bytes h.part;
  taken = onward a b c x h.bytes t h.taken;
  idle = h.idle;
  spent = calls x h.bytes k m n h.idle p h.spent;
  idle_calls = h.idle_calls;
  counted = h.counted ∙ ap (failures_at fault) f;
  limit = h.limit;
}

-- out of memory after the bytes x, after `idle` calls that gave none
pub out_of_memory : {S : Type 0} (took : S → List ℕ → S → Type 0) (failures : S → ℕ) (P : List ℕ → Type 0) (a b : S) (x : List ℕ) (k n idle : ℕ)
    (fault : ReadFault) → fault ≡ Memory → idle ≤ 1 → took a x b → k ≡ n + (length x + idle) → failures b ≡ failures a → P x →
    Breaks took failures P a b k n fault
out_of_memory took failures P a b x k n idle fault e i t p f h =
    let R : ReadFault → Type 0 = λ v. Breaks took failures P a b k n v in
    subst R (sym e) (record { bytes = x; part = h; taken = t; idle = idle; spent = p; idle_calls = i; counted = f; limit = tt })
