-- What an evaluation reads is told without changing it: with the trace it has the same result, the same end and the same
-- streams after it, and it asks the same.
use Rattle.std.proofs.Common.{◌≡◌, ◌⊎◌, ℤ, pos, ℕ, Bool, true, false, ◌||◌, List, [], ◌∷◌, ◌++◌, append-nil, Option, Some, None, Result, Ok, Err, refl, sym, ap, ap₂, ◌∙◌, inl, inr}
use Rattle.std.specs.List.{list_any}
use Rattle.std.proofs.lemmas.List.Folds.{list_any-append}
use Rattle.gw_nums.specs.Range.{is_below}
use Rattle.gw_names.specs.declared.class.Class.{Class}
use Rattle.gw_names.specs.declared.class.Class.TheVariants as class
use Rattle.gw_names.specs.declared.key.Key.{Key}
use Rattle.gw_names.specs.declared.key.Key.TheVariants as keys
use Rattle.gw_expr.specs.declared.attribute.Subject.{Subject}
use Rattle.gw_expr.specs.declared.attribute.Subject.TheVariants as subjects
use Rattle.gw_expr.specs.declared.stop.Stop.TheVariants.{Range}
use Rattle.gw_expr.specs.Term.{Term}
use Rattle.gw_expr.specs.declared.expr.Expr.TheVariants.{Named}
use Rattle.gw_expr.specs.Evaluation.{value_of, Question, NumberOf, AttributeOf, PartOf, VariableOf, FunctionOf, Reply, Evaluation, Yields, Stops, Wants}
use Rattle.gw_streams.specs.declared.stream.Stream.{Stream}
use Rattle.gw_expr.specs.declared.halt.End.{End}
use Rattle.gw_expr.specs.declared.halt.End.TheVariants as ends
use Rattle.gw_meaning.specs.declared.item.Item.{Item}
use Rattle.gw_meaning.specs.declared.item.Asked.TheVariants as asking
use Rattle.gw_meaning.specs.declared.item.Item.TheVariants as items
use Rattle.gw_meaning.specs.declared.asker.Asker.{Asker}
use Rattle.gw_meaning.specs.declared.watched.EntityKind.{EntityKind}
use Rattle.gw_meaning.specs.declared.watched.EntityKind.TheVariants as kinds
use Rattle.gw_meaning.specs.declared.watched.Watched.{Watched}
use Rattle.gw_meaning.specs.declared.watched.Watched.TheVariants as watched
use Rattle.gw_meaning.specs.Listing.{Listing, label_at, number_at}
use Rattle.gw_meaning.specs.Watching.{with_all_watched}
use Rattle.gw_meaning.specs.Machine.{Machine}
use Rattle.gw_meaning.specs.Questions.{result_of, items_of}
use Rattle.gw_meaning.specs.Evaluation.{Eval, gives, asks, ◌~>◌, value_prog, value_there, entity_prog, value_traced, entity_traced, stops_if, numbered, named, subject_prog, defined_prog, left_prog, counted, block_count, block_value, entity_value, storage_value, table_value, attribute_prog, reply_prog, evaluated, entity_watched, defined_watched, counts_of, counts_watched, watched_prog, watched_by, traced}
use Rattle.gw_meaning.proofs.Programs.{bind_gives, bind_ends}

-- the result without what was read
abbrev pub value_alone : {A : Type 0} → Result ((A × List Watched) × List Stream) End → Result (A × List Stream) End
value_alone (Ok r) = Ok (r.0.0, r.1)
value_alone (Err end) = Err end

-- asking the same again adds nothing
or_same : (a : Bool) → (a || a) ≡ a
or_same true = refl
or_same false = refl

regrouped : (w r a b : Bool) → (w || r) ≡ r → a ≡ b → (w || (r || a)) ≡ (r || b)
regrouped true true a b is same = refl
regrouped true false a b is same = absurd cc
regrouped false r a b is same = ap (λ c. r || c) same

or_again : (a b : Bool) → (a || (a || b)) ≡ (a || b)
or_again true b = refl
or_again false b = refl

module _ (t : Listing) (seed : ℕ) where
  abbrev pub of : {A : Type 0} → Eval A → List Stream → Result (A × List Stream) End
  of p streams = result_of t seed (p streams)

  abbrev pub asked : {A : Type 0} → Eval A → List Stream → List Item
  asked p streams = items_of t seed (p streams)

  -- whether some of what is asked passes a test
  abbrev pub asks_some : {A : Type 0} → (Item → Bool) → Eval A → List Stream → Bool
  asks_some p q streams = list_any p (asked q streams)

  -- what watches draws nothing and asks no more than the reply; where it ends, the reply ends so
  pub record Watches {B : Type 0} (w : Eval (List Watched)) (r : Eval B) (streams : List Stream) : Type 0 where
    pub comes : ((more : List Watched) × (of w streams ≡ Ok (more, streams))) ⊎ ((end : End) × (of w streams ≡ Err end) × (of r streams ≡ Err end)
        × (asked w streams ≡ asked r streams))
    pub no_more : (p : Item → Bool) → (asks_some p w streams || asks_some p r streams) ≡ asks_some p r streams

  nothing_watched : {B : Type 0} (r : Eval B) (streams : List Stream) → Watches (gives []) r streams
  nothing_watched r streams = record { comes = inl ([], refl); no_more = λ p. refl }

  -- a part that draws nothing
  abbrev IsQuiet : {A : Type 0} → Eval A → List Stream → Type 0
  IsQuiet {A} p streams = ((a : A) × (of p streams ≡ Ok (a, streams))) ⊎ ((end : End) × (of p streams ≡ Err end))

  numbered_quiet : (n : ℤ) (streams : List Stream) → IsQuiet (numbered n) streams
  numbered_quiet n streams = go (is_below n (pos 1)) _ where
    go : (b : Bool) (key : Key) → IsQuiet (stops_if b Range (gives key)) streams
    go true key = inr (ends.Error Range, refl)
    go false key = inl (key, refl)

  named_quiet : (name : List ℕ) (number : Option ℤ) (streams : List Stream) → IsQuiet (named name number) streams
  named_quiet name None streams = inl (keys.Named name, refl)
  named_quiet name (Some n) streams = numbered_quiet n streams

  subject_quiet : (of : Subject) (streams : List Stream) → IsQuiet (subject_prog of) streams
  subject_quiet subjects.Own streams = inr (ends.Error Range, refl)
  subject_quiet (subjects.Number n) streams = numbered_quiet (pos n) streams
  subject_quiet (subjects.Name name) streams = named_quiet name (number_at t name) streams

  entity_watches : (kind : EntityKind) (f : Key → Eval ℤ) (subject : Subject) (streams : List Stream) →
      Watches (entity_watched kind subject) (subject_prog subject ~> f) streams
  entity_watches kind f subject streams = go (subject_quiet subject streams) where
    p : Eval Key
    p = subject_prog subject

    w : Key → Eval (List Watched)
    w key = gives (watched.Entity kind key ∷ [])

    go : IsQuiet (subject_prog subject) streams → Watches (entity_watched kind subject) (subject_prog subject ~> f) streams
    go (inl (key, is)) =
        let first = bind_gives t seed (subject_prog subject streams) (λ r. gives (watched.Entity kind r.0 ∷ []) r.1) (key, streams) is in
        let second = bind_gives t seed (subject_prog subject streams) (λ r. f r.0 r.1) (key, streams) is in
        record {
          comes = inl (watched.Entity kind key ∷ [], first.0);
          no_more = λ p.
              (let few = ap (list_any p) (first.1 ∙ append-nil (asked (subject_prog subject) streams)) in
              let all = ap (list_any p) second.1 ∙ list_any-append p (asked (subject_prog subject) streams) (asked (f key) streams) in
              rw (few, all) (or_again (asks_some p (subject_prog subject) streams) (asks_some p (f key) streams)));
        }
    go (inr (end, is)) =
        let first = bind_ends t seed (subject_prog subject streams) (λ r. gives (watched.Entity kind r.0 ∷ []) r.1) end is in
        let second = bind_ends t seed (subject_prog subject streams) (λ r. f r.0 r.1) end is in
        record {
          comes = inr (end, first.0, second.0, first.1 ∙ sym second.1);
          no_more = λ p.
              (let same = ap (list_any p) first.1 in
              let all = ap (list_any p) second.1 in
              rw (same, all) (or_same (asks_some p (subject_prog subject) streams)));
        }

  defined_watches : {B : Type 0} (kind : EntityKind) (r : Eval B) (subject : Subject) (streams : List Stream) →
      Watches (defined_watched kind subject) r streams
  defined_watches kind r subjects.Own streams = nothing_watched r streams
  defined_watches kind r (subjects.Number n) streams = nothing_watched r streams
  defined_watches kind r (subjects.Name name) streams = record {
    comes = inl (watched.Entity kind (keys.Defined name) ∷ [], refl);
    no_more = λ p. refl;
  }

  again : (a b : Bool) → ((a || false) || (a || b)) ≡ (a || b)
  again true b = refl
  again false b = refl

  counts_watches : (f : ℕ → Eval ℤ) (subject : Subject) (streams : List Stream) → Watches (counts_watched subject) (block_count subject f) streams
  counts_watches f subjects.Own streams = nothing_watched (block_count subjects.Own f) streams
  counts_watches f (subjects.Number n) streams = nothing_watched (block_count (subjects.Number n) f) streams
  counts_watches f (subjects.Name name) streams = record {
    comes = inl (counts_of (label_at t name), refl);
    no_more = λ p. again (p (items.Named asking.Label name)) (asks_some p (counted (label_at t name) f) streams);
  }

  module _ (s : Machine) (q : Asker) where
    attribute_watches : (class : Class) (subject : Subject) (streams : List Stream) → Watches (watched_prog class subject) (attribute_prog s q class subject) streams
    unfolding attribute_prog watched_prog
    attribute_watches class.F subject streams = entity_watches kinds.Facility (entity_value s class.F) subject streams
    attribute_watches class.Fc subject streams = entity_watches kinds.Facility (entity_value s class.Fc) subject streams
    attribute_watches class.Q subject streams = entity_watches kinds.Queue (entity_value s class.Q) subject streams
    attribute_watches class.Qc subject streams = entity_watches kinds.Queue (entity_value s class.Qc) subject streams
    attribute_watches class.Qm subject streams = entity_watches kinds.Queue (entity_value s class.Qm) subject streams
    attribute_watches class.Qz subject streams = entity_watches kinds.Queue (entity_value s class.Qz) subject streams
    attribute_watches class.X subject streams = entity_watches kinds.Savevalue (entity_value s class.X) subject streams
    attribute_watches class.Ls subject streams = entity_watches kinds.Switch (entity_value s class.Ls) subject streams
    attribute_watches class.Ch subject streams = entity_watches kinds.UserChain (entity_value s class.Ch) subject streams
    attribute_watches class.Cc subject streams = entity_watches kinds.UserChain (entity_value s class.Cc) subject streams
    attribute_watches class.S subject streams = defined_watches kinds.Storage (defined_prog subject (λ key. storage_value s class.S key)) subject streams
    attribute_watches class.R subject streams = defined_watches kinds.Storage (left_prog s subject) subject streams
    attribute_watches class.Sc subject streams = defined_watches kinds.Storage (defined_prog subject (λ key. storage_value s class.Sc key)) subject streams
    attribute_watches class.Sm subject streams = defined_watches kinds.Storage (defined_prog subject (λ key. storage_value s class.Sm key)) subject streams
    attribute_watches class.Tc subject streams = defined_watches kinds.Table (defined_prog subject (λ key. table_value s key)) subject streams
    attribute_watches class.N subject streams = counts_watches (λ id. block_value s class.N id) subject streams
    attribute_watches class.W subject streams = counts_watches (λ id. block_value s class.W id) subject streams
    attribute_watches class subject streams = nothing_watched _ streams

    pub question_watches : (question : Question) (streams : List Stream) → Watches (watched_by question) (reply_prog s q question) streams
    question_watches (NumberOf name) streams = nothing_watched (reply_prog s q (NumberOf name)) streams
    question_watches (AttributeOf class subject) streams = attribute_watches class subject streams
    question_watches (PartOf subject) streams = nothing_watched (reply_prog s q (PartOf subject)) streams
    question_watches (VariableOf name) streams = nothing_watched (reply_prog s q (VariableOf name)) streams
    question_watches (FunctionOf name) streams = nothing_watched (reply_prog s q (FunctionOf name)) streams

    -- an evaluation with its trace, and without
    pub record IsAlike {A : Type 0} (p : Eval (A × List Watched)) (r : Eval A) (streams : List Stream) : Type 0 where
      pub value : value_alone (of p streams) ≡ of r streams
      pub same : (test : Item → Bool) → asks_some test p streams ≡ asks_some test r streams

    pub traced_alike : {A : Type 0} (read : List Watched) (e : Evaluation A) (streams : List Stream) →
        IsAlike (traced s q read e) (evaluated s q e) streams
    traced_alike read (Yields a) streams = record { value = refl; same = λ test. refl }
    traced_alike read (Stops stop) streams = record { value = refl; same = λ test. refl }
    traced_alike {A} read (Wants question k) streams =
        go (question_watches question streams).comes (of (reply_prog s q question) streams) refl
        (λ more reply behind. traced_alike (with_all_watched read more) (k reply) behind)
      where
        w : Eval (List Watched)
        w = watched_by question

        r : Eval (Reply question)
        r = reply_prog s q question

        with_more : List Watched → Eval (A × List Watched)
        with_more more = r ~> (λ reply. traced s q (with_all_watched read more) (k reply))

        whole : Eval (A × List Watched)
        whole = traced s q read (Wants question k)

        plain : Eval A
        plain = evaluated s q (Wants question k)

        go : ((more : List Watched) × (of (watched_by question) streams ≡ Ok (more, streams)))
            ⊎ ((end : End) × (of (watched_by question) streams ≡ Err end) × (of (reply_prog s q question) streams ≡ Err end)
            × (asked (watched_by question) streams ≡ asked (reply_prog s q question) streams)) →
            (reply : Result (Reply question × List Stream) End) → of (reply_prog s q question) streams ≡ reply →
            ((more : List Watched) (x : Reply question) (behind : List Stream) →
            IsAlike (traced s q (with_all_watched read more) (k x)) (evaluated s q (k x)) behind) →
            IsAlike (traced s q read (Wants question k)) (evaluated s q (Wants question k)) streams
        go (inl (more, is)) (Ok x) there rest =
            let watch = bind_gives t seed (w streams) (λ m. with_more m.0 m.1) (more, streams) is in
            let first = bind_gives t seed (r streams) (λ y. traced s q (with_all_watched read more) (k y.0) y.1) x there in
            let second = bind_gives t seed (r streams) (λ y. evaluated s q (k y.0) y.1) x there in
            let alike = rest more x.0 x.1 in
            record {
              value = ap value_alone (watch.0 ∙ first.0) ∙ (alike.value ∙ sym second.0);
              same = λ test.
                  (let one' = ap (list_any test) (watch.1 ∙ ap (λ is. asked w streams ++ is) first.1)
                  ∙ (list_any-append test (asked w streams) (asked r streams ++ asked (traced s q (with_all_watched read more) (k x.0)) x.1)
                  ∙ ap (λ b. asks_some test w streams || b)
                  (list_any-append test (asked r streams) (asked (traced s q (with_all_watched read more) (k x.0)) x.1))) in
                  let two = ap (list_any test) second.1 ∙ list_any-append test (asked r streams) (asked (evaluated s q (k x.0)) x.1) in
                  rw (one', two)
                  (regrouped (asks_some test w streams) (asks_some test r streams) _ _ ((question_watches question streams).no_more test) (alike.same test)));
            }
        go (inl (more, is)) (Err end) there rest =
            let watch = bind_gives t seed (w streams) (λ m. with_more m.0 m.1) (more, streams) is in
            let first = bind_ends t seed (r streams) (λ y. traced s q (with_all_watched read more) (k y.0) y.1) end there in
            let second = bind_ends t seed (r streams) (λ y. evaluated s q (k y.0) y.1) end there in
            record {
              value = ap value_alone (watch.0 ∙ first.0) ∙ sym second.0;
              same = λ test.
                  (let one' = ap (list_any test) (watch.1 ∙ ap (λ is. asked w streams ++ is) first.1)
                  ∙ list_any-append test (asked w streams) (asked r streams) in
                  let two = ap (list_any test) second.1 in
                  rw (one', two) ((question_watches question streams).no_more test));
            }
        go (inr (end, is, also, alike)) reply there rest =
            let first = bind_ends t seed (w streams) (λ m. with_more m.0 m.1) end is in
            let second = bind_ends t seed (r streams) (λ y. evaluated s q (k y.0) y.1) end also in
            record {
              value = ap value_alone first.0 ∙ sym second.0;
              same = λ test.
                  ap (list_any test) (first.1 ∙ (alike ∙ sym second.1));
            }

    -- one evaluation, and with its result another
    alike_bind : {A B : Type 0} (p : Eval (A × List Watched)) (r : Eval A) (k : A × List Watched → Eval (B × List Watched)) (l : A → Eval B)
        (streams : List Stream) → IsAlike p r streams → ((a : A × List Watched) (behind : List Stream) → IsAlike (k a) (l a.0) behind) →
        IsAlike (p ~> k) (r ~> l) streams
    alike_bind {A} {B} p r k l streams first rest = go (of p streams) refl where
      go : (one : Result ((A × List Watched) × List Stream) End) → of p streams ≡ one → IsAlike (p ~> k) (r ~> l) streams
      go (Ok x) is =
          let also : of r streams ≡ Ok (x.0.0, x.1) = sym first.value ∙ ap value_alone is in
          let traced' = bind_gives t seed (p streams) (λ y. k y.0 y.1) x is in
          let plain = bind_gives t seed (r streams) (λ y. l y.0 y.1) (x.0.0, x.1) also in
          let alike = rest x.0 x.1 in
          record {
            value = ap value_alone traced'.0 ∙ (alike.value ∙ sym plain.0);
            same = λ test.
                (let one' = ap (list_any test) traced'.1 ∙ list_any-append test (asked p streams) (asked (k x.0) x.1) in
                let two = ap (list_any test) plain.1 ∙ list_any-append test (asked r streams) (asked (l x.0.0) x.1) in
                rw (one', two) (ap₂ (λ b c. b || c) (first.same test) (alike.same test)));
          }
      go (Err end) is =
          let also : of r streams ≡ Err end = sym first.value ∙ ap value_alone is in
          let traced' = bind_ends t seed (p streams) (λ y. k y.0 y.1) end is in
          let plain = bind_ends t seed (r streams) (λ y. l y.0 y.1) end also in
          record {
            value = ap value_alone traced'.0 ∙ sym plain.0;
            same = λ test. ap (list_any test) traced'.1 ∙ (first.same test ∙ sym (ap (list_any test) plain.1));
          }

    -- an evaluation that reads nothing further
    alike_with : {B : Type 0} (p : Eval B) (read : List Watched) (streams : List Stream) → IsAlike (p ~> (λ b. gives (b, read))) p streams
    alike_with {B} p read streams = go (of p streams) refl where
      go : (one : Result (B × List Stream) End) → of p streams ≡ one → IsAlike (p ~> (λ b. gives (b, read))) p streams
      go (Ok x) is =
          let both = bind_gives t seed (p streams) (λ y. gives (y.0, read) y.1) x is in
          record { value = ap value_alone both.0 ∙ sym is; same = λ test. ap (list_any test) (both.1 ∙ append-nil (asked p streams)) }
      go (Err end) is =
          let both = bind_ends t seed (p streams) (λ y. gives (y.0, read) y.1) end is in
          record { value = ap value_alone both.0 ∙ sym is; same = λ test. ap (list_any test) both.1 }

    -- the value of an operand, and the entity that one names
    pub value_alike : (read : List Watched) (term : Option Term) (streams : List Stream) → IsAlike (value_traced s q read term) (value_there s q term) streams
    unfolding value_prog
    value_alike read None streams = record { value = refl; same = λ test. refl }
    value_alike read (Some term) streams = traced_alike read (value_of term) streams

    pub entity_alike : (term : Option Term) (streams : List Stream) → IsAlike (entity_traced s q term) (entity_prog s q term) streams
    unfolding value_prog
    entity_alike None streams = record { value = refl; same = λ test. refl }
    entity_alike (Some (Named name)) streams = alike_with (asks (items.Named asking.Number name) (named name)) [] streams
    entity_alike (Some term) streams =
        alike_bind (traced s q [] (value_of term)) (evaluated s q (value_of term)) (λ r. numbered r.0 ~> (λ key. gives (key, r.1))) numbered streams
        (traced_alike [] (value_of term) streams) (λ r behind. alike_with (numbered r.0) r.1 behind)
