-- A line for whose reading memory may be wanted does not end the session.
use Rattle.std.proofs.Common.{◌≡◌, ℕ, Bool, true, false, IsTrue, List, Option, Some, None, refl}
use Rattle.std.specs.Prelude.{◌&&◌, if◌then◌else◌, option_and_then, length, nat_lt, nat_le, unwrap_or}
use Rattle.std.specs.List.{list_all}
use Rattle.gw_names.specs.Names.{name_of}
use Rattle.gw_request.specs.declared.command.Command.{Command}
use Rattle.gw_request.specs.declared.command.Command.TheVariants as commands
use Rattle.gw_request.specs.declared.command.Bare.TheVariants as bares
use Rattle.gw_request.specs.declared.command.Single.TheVariants as singles
use Rattle.gw_request.specs.declared.command.Pair.TheVariants as pairs
use Rattle.gw_request.specs.declared.command.Text.TheVariants as texts
use Rattle.gw_request.specs.declared.request.Request.{Request}
use Rattle.gw_request.specs.declared.request.Request.TheVariants as requests
use Rattle.gw_request.specs.declared.request.Reason.TheVariants as reasons
use Rattle.gw_meaning.specs.declared.edit.Edit.{Edit}
use Rattle.gw_meaning.specs.declared.edit.Edit.TheVariants as edits
use Rattle.gw_request.specs.Words.{is_blank, first_word, cut}
use Rattle.gw_request.specs.Numbers.{number_of, next_number}
use Rattle.gw_request.specs.Commands.{command_of}
use Rattle.gw_request.specs.Requests.{request_of, request_with, may_want_memory, copies}
use Rattle.gw_script.specs.Replying.{is_quit}

text_goes_on : (f : ℕ → List ℕ → Edit) (o : Option (ℕ × List ℕ)) →
    is_quit (unwrap_or (option_and_then (λ p. Some (requests.Edit (f p.0 p.1))) o) (requests.Bad reasons.Arguments)) ≡ false
text_goes_on f None = refl
text_goes_on f (Some p) = refl

name_goes_on : (n : ℕ) (o : Option (List ℕ)) → is_quit
    (unwrap_or (option_and_then (λ name. Some (requests.Edit (edits.Capacity name n))) o) (requests.Bad reasons.Arguments)) ≡ false
name_goes_on n None = refl
name_goes_on n (Some name) = refl

amount_goes_on : (word : List ℕ) (o : Option ℕ) → is_quit
    (unwrap_or (option_and_then (λ n. option_and_then (λ name. Some (requests.Edit (edits.Capacity name n))) (name_of word)) o)
    (requests.Bad reasons.Arguments)) ≡ false
amount_goes_on word None = refl
amount_goes_on word (Some n) = name_goes_on n (name_of word)

capacity_goes_on : (o : Option (List ℕ × List ℕ)) → is_quit
    (unwrap_or (option_and_then (λ p. option_and_then (λ n. option_and_then (λ name. Some (requests.Edit (edits.Capacity name n))) (name_of p.0))
    (number_of p.1)) o) (requests.Bad reasons.Arguments)) ≡ false
capacity_goes_on None = refl
capacity_goes_on (Some p) = amount_goes_on p.0 (number_of p.1)

with_goes_on : (o : Option Command) (words : Option (List ℕ)) → IsTrue (copies o words) → is_quit (request_with o words) ≡ false
with_goes_on None words h = absurd cc
with_goes_on (Some c) None h = absurd cc
with_goes_on (Some (commands.Bare bares.List)) (Some words) h = absurd cc
with_goes_on (Some (commands.Bare bares.Quit)) (Some words) h = absurd cc
with_goes_on (Some (commands.Single singles.Delete)) (Some words) h = absurd cc
with_goes_on (Some (commands.Single singles.Drop)) (Some words) h = absurd cc
with_goes_on (Some (commands.Single singles.Horizon)) (Some words) h = absurd cc
with_goes_on (Some (commands.Single singles.All)) (Some words) h = absurd cc
with_goes_on (Some (commands.Pair pairs.Seed)) (Some words) h = absurd cc
with_goes_on (Some (commands.Pair pairs.Replicate)) (Some words) h = absurd cc
with_goes_on (Some (commands.Pair pairs.Report)) (Some words) h = absurd cc
with_goes_on (Some (commands.Pair pairs.Peek)) (Some words) h = absurd cc
with_goes_on (Some (commands.Pair pairs.Work)) (Some words) h = absurd cc
with_goes_on (Some (commands.Text texts.Insert)) (Some words) h = text_goes_on (λ n text. edits.Insert n text) (next_number words)
with_goes_on (Some (commands.Text texts.Change)) (Some words) h = text_goes_on (λ n text. edits.Change n text) (next_number words)
with_goes_on (Some commands.Capacity) (Some words) h = capacity_goes_on (cut words)

both : (a b : Bool) → IsTrue (a && b) → IsTrue b
both true b h = h
both false b h = absurd cc

tests_go_on : (long blank : Bool) (r : Request) → is_quit r ≡ false →
    is_quit (if long then requests.Bad reasons.Long else (if blank then requests.Nothing else r)) ≡ false
tests_go_on true blank r h = refl
tests_go_on false true r h = refl
tests_go_on false false r h = h

pub unread_goes_on : (line : List ℕ) → IsTrue (may_want_memory line) → is_quit (request_of line) ≡ false
unfolding request_of
unread_goes_on line h = tests_go_on (nat_lt 65536 (length line)) (list_all is_blank line) (request_with (command_of (first_word line).0) (first_word line).1)
    (with_goes_on (command_of (first_word line).0) (first_word line).1 (both (nat_le (length line) 65536) (copies (command_of (first_word line).0) (first_word line).1) h))
