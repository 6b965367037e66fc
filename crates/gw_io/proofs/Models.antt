-- The text of a model, read line by line.
use Rattle.std.proofs.Common.{◌≡◌, ◌≢◌, ℕ, ◌+◌, true, false, List, [], ◌∷◌, ◌++◌, length, codes, refl, arith, subst, ap, sym, ◌∙◌, length-append, append-nil}
use Rattle.std.proofs.lemmas.List.{flat_map_more}
use Rattle.std.proofs.lemmas.List.Elements.{All-push, All-nil}
use Rattle.gw_io.specs.Line.{IsUnended}
use Rattle.gw_io.proofs.Faults.{calls}
use Rattle.gw_io.specs.Model.{IsOtherLines, IsModelPart, before_end, before_last_end, without_end, TakesModel, IsEnd, with_feed}

-- no text is whole lines, none of which ends the model
pub no_lines : (text : List ℕ) → text ≡ [] → IsOtherLines text
no_lines text e = record { lines = []; joined = e; unended = All-nil IsUnended; others = All-nil (λ line. IsEnd line → ⊥) }

-- one more line that does not end the model
pub with_line : (text line : List ℕ) → IsOtherLines text → IsUnended line → (IsEnd line → ⊥) → IsOtherLines (text ++ with_feed line)
with_line text line h u e = record {
  lines = h.lines ++ line ∷ [];
  joined = ap (λ v. v ++ with_feed line) h.joined ∙ flat_map_more with_feed [] h.lines line;
  unended = All-push IsUnended h.lines line h.unended u;
  others = All-push (λ v. IsEnd v → ⊥) h.lines line h.others e;
}

-- whole lines and a part of the next one
pub part_of : (text rest : List ℕ) → IsOtherLines text → IsUnended rest → IsModelPart (text ++ rest)
part_of text rest h u = record { text = text; rest = rest; others = h; unended = u; parts = refl }

-- whole lines and nothing of the next one
pub whole_part : (text : List ℕ) → IsOtherLines text → IsModelPart text
whole_part text h = record { text = text; rest = []; others = h; unended = All-nil (λ b. b ≢ 10); parts = sym (append-nil text) }

module _ {S : Type 0} (took : S → List ℕ → S → Type 0) (ended : S → Type 0) (onward : (a b c : S) (x y : List ℕ) → took a x b → took b y c → took a (x ++ y) c)
    (a b c : S) (text : List ℕ) (k m n : ℕ) (before : took a text b) (spent : k ≡ m + length text) (others : IsOtherLines text) where
  -- the model ends before a line `end`
  pub at_end : (line : List ℕ) → IsUnended line → IsEnd line → took b (with_feed line) c → m ≡ n + length (with_feed line) → TakesModel took ended a c k n text
  at_end line u e t s = record {
    input = text ++ with_feed line;
    is_all = false;
    taken = onward a b c text (with_feed line) before t;
    is_model = before_end line others u e refl refl;
    at_end = λ (h : false ≡ true). absurd cc;
    spent = calls text (with_feed line) k m n 0 spent (omega arith);
  }

  -- the model ends before a last line `end`
  pub at_last_end : (line : List ℕ) → line ≡ codes "end" → took b line c → m ≡ n + (length line + 1) → ended c → TakesModel took ended a c k n text
  at_last_end line e t s h = record {
    input = text ++ line;
    is_all = true;
    taken = onward a b c text line before t;
    is_model = before_last_end others (ap (λ v. text ++ v) e) refl;
    at_end = λ _. h;
    spent = calls text line k m n 1 spent s;
  }

  -- the model ends with the input, after an unended line
  pub at_last : (line : List ℕ) → IsUnended line → line ≢ codes "end" → took b line c → m ≡ n + (length line + 1) → ended c →
      TakesModel took ended a c k n (text ++ line)
  at_last line u e t s h = record {
    input = text ++ line;
    is_all = true;
    taken = onward a b c text line before t;
    is_model = without_end text line others u e refl refl refl;
    at_end = λ _. h;
    spent = calls text line k m n 1 spent s;
  }

  -- the model ends with the input, after its last line feed
  pub at_nothing : took b [] c → m ≡ n + 1 → ended c → TakesModel took ended a c k n text
  at_nothing t s h =
      let P : List ℕ → Type 0 = λ v. TakesModel took ended a c k n v in
      let e : [] ≢ codes "end" = λ (p : [] ≡ codes "end"). absurd cc in
      subst P (append-nil text) (at_last [] (All-nil (λ b. b ≢ 10)) e t (omega arith) h)
