-- Values, attributes and draws. An evaluation goes from the streams before it to its result and the streams after it,
-- so draws come in the order of evaluation. (Manual: operands, numerical attributes, and a time of A plus or minus B.
-- Our own: whole numbers, what a draw stands for, and that the seed is asked for at a stream's first draw alone.)
use Rattle.std.specs.Prelude.{ℕ, zero, suc, ◌+◌, ◌-◌, ◌*◌, ◌/◌, Bool, true, false, not, ◌&&◌, nat_le, List, [], ◌∷◌, length, Option, unwrap_or, Some, None, Result, Ok, Err, ℤ, pos, ◌+ℤ◌, ◌-ℤ◌, if◌then◌else◌}
use Rattle.gw_nums.specs.declared.val.ArithmeticFault.{ArithmeticFault}
use Rattle.gw_nums.specs.declared.val.ArithmeticFault.TheVariants as arithmetic_faults
use Rattle.gw_nums.specs.Millionths.{times}
use Rattle.gw_nums.specs.Range.{is_value, is_negative, is_below, magnitude}
use Rattle.gw_names.specs.declared.key.Key.{Key}
use Rattle.gw_names.specs.declared.key.Key.TheVariants as keys
use Rattle.gw_expr.specs.Term.{Term}
use Rattle.gw_expr.specs.declared.expr.Expr.TheVariants.{Value, Named}
use Rattle.gw_expr.specs.declared.atom.Atom.TheVariants as atoms
use Rattle.gw_expr.specs.declared.stop.Stop.{Stop}
use Rattle.gw_names.specs.declared.class.Class.{Class}
use Rattle.gw_names.specs.declared.class.Class.TheVariants as class
use Rattle.gw_expr.specs.declared.attribute.Subject.{Subject}
use Rattle.gw_expr.specs.declared.attribute.Subject.TheVariants as subjects
use Rattle.gw_expr.specs.declared.stop.Stop.TheVariants.{Range, BadCount, NoParameter, ZeroDivisor}
use Rattle.gw_expr.specs.Evaluation.{Question, NumberOf, AttributeOf, PartOf, VariableOf, FunctionOf, Reply, Evaluation, Yields, Stops, Wants, is_of_function, value_of, function_of}
use Rattle.gw_streams.specs.declared.stream.Stream.{Stream}
use Rattle.gw_streams.specs.declared.stream.Stream.TheVariants as streams
use Rattle.gw_streams.specs.Draws.{next_of, start_of, stream_at, with_stream}
use Rattle.gw_meaning.specs.declared.item.Item.{Item}
use Rattle.gw_meaning.specs.declared.item.Asked.TheVariants as asking
use Rattle.gw_meaning.specs.declared.item.Item.TheVariants as items
use Rattle.gw_expr.specs.declared.halt.End.{End}
use Rattle.gw_expr.specs.declared.halt.End.TheVariants as ends
use Rattle.gw_meaning.specs.declared.asker.Asker.{Asker}
use Rattle.gw_meaning.specs.Parameters.{parameter_at}
use Rattle.gw_meaning.specs.declared.watched.EntityKind.{EntityKind}
use Rattle.gw_meaning.specs.declared.watched.EntityKind.TheVariants as kinds
use Rattle.gw_meaning.specs.declared.watched.Watched.{Watched}
use Rattle.gw_meaning.specs.declared.watched.Watched.TheVariants as watched
use Rattle.gw_meaning.specs.Watching.{with_all_watched}
use Rattle.gw_meaning.specs.Entities.{facility_at, line_at, store_at, savevalue_at, switch_at, table_at}
use Rattle.gw_meaning.specs.Machine.{Machine, count_at, user_chain_at}
use Rattle.gw_meaning.specs.Questions.{Answer, Prog, Gives, Ends, Asks, ◌>>=◌}

-- an evaluation
abbrev pub Eval : Type 0 → Type 0
Eval A = List Stream → Prog (A × List Stream)

-- a result without a draw, an end, and a question with what its answer leads to
abbrev pub gives : {A : Type 0} → A → Eval A
gives a = λ streams. Gives (a, streams)

abbrev pub ends_with : {A : Type 0} → End → Eval A
ends_with end = λ streams. Ends end

abbrev pub asks : {A : Type 0} → (i : Item) → (Answer i → Eval A) → Eval A
asks i k = λ streams. Asks i (λ answer. k answer streams)

infixl 10 ◌~>◌
-- one evaluation, and with its result another
abbrev pub ◌~>◌ : {A B : Type 0} → Eval A → (A → Eval B) → Eval B
p ~> f = λ streams. p streams >>= (λ r. f r.0 r.1)

-- an end where a test holds
abbrev pub stops_if : {A : Type 0} → Bool → Stop → Eval A → Eval A
stops_if true stop p = ends_with (ends.Error stop)
stops_if false stop p = p

-- the number that a stream draws
abbrev pub number_of_draw : Stream → Prog ℕ
number_of_draw (streams.Set value) = Asks items.Seed (λ seed. Gives (next_of (start_of value seed)))
number_of_draw (streams.At x) = Gives (next_of x)

-- a draw from stream j
abbrev pub draw : ℕ → Eval ℕ
draw j = λ before. number_of_draw (stream_at before j) >>= (λ x. Gives (x, with_stream before j (streams.At x)))

-- where x, from 1 to 2,147,483,646, falls when these are spread evenly over the whole numbers from mean - range to
-- mean + range
abbrev pub spread : ℤ → ℕ → ℕ → ℤ
spread mean range x = (mean -ℤ pos range) +ℤ pos ((x - 1) * (2 * range + 1) / 2147483646)

-- the same x as a part of a million, from 0 to 999,999
abbrev pub millionths : ℕ → ℕ
millionths x = (x - 1) * 1000000 / 2147483646

-- a number, where it is a value
abbrev pub in_range : ℤ → Eval ℤ
in_range z = if is_value z then gives z else ends_with (ends.Error Range)

-- the same x as a random number, from 0 to 999
abbrev pub thousandth : ℕ → ℕ
thousandth x = (x - 1) * 1000 / 2147483646

-- ---- attributes

-- a number of the state
abbrev pub amount : ℕ → Eval ℤ
amount n = in_range (pos n)

-- what is evaluated for a transaction alone
abbrev pub for_transaction : Asker → Eval ℤ → Eval ℤ
for_transaction q p = stops_if (not q.is_transaction) NoParameter p

-- of the run and of the transaction: the relative and the absolute clock, what is left of the termination count, the
-- transit time since the mark, the number and the priority
abbrev pub own_value : Machine → Asker → Class → Eval ℤ
own_value s q class.C1 = amount (s.clock - s.since)
own_value s q class.Ac1 = amount s.clock
own_value s q class.Tg1 = amount q.remaining
own_value s q class.M1 = for_transaction q (amount (s.clock - q.mark))
own_value s q class.Xn1 = for_transaction q (amount q.number)
own_value s q class.Pr = for_transaction q (gives q.priority)
own_value s q class = ends_with (ends.Error Range)

-- the entity with a number, from 1
abbrev pub numbered : ℤ → Eval Key
numbered n = stops_if (is_below n (pos 1)) Range (gives (keys.Num (magnitude n)))

-- the entity with a name, which may stand for a number
abbrev pub named : List ℕ → Option ℤ → Eval Key
named name None = gives (keys.Named name)
named name (Some n) = numbered n

-- the facility, the queue or the parameter that an attribute is of
abbrev pub subject_prog : Subject → Eval Key
subject_prog subjects.Own = ends_with (ends.Error Range)
subject_prog (subjects.Number n) = numbered (pos n)
subject_prog (subjects.Name name) = asks (items.Named asking.Number name) (named name)

-- the storage or the table that an attribute is of, which each version has
abbrev pub defined_prog : Subject → (Key → Eval ℤ) → Eval ℤ
defined_prog (subjects.Name name) f = f (keys.Defined name)
defined_prog subject f = ends_with (ends.Error Range)

-- the units of a storage that are left, of as many as it has
abbrev pub units_left : Machine → Key → ℕ → Eval ℤ
units_left s key capacity = amount (capacity - (store_at s.entities key).level.content)

abbrev pub left_prog : Machine → Subject → Eval ℤ
left_prog s (subjects.Name name) = asks (items.Named asking.Storage name) (units_left s (keys.Defined name))
left_prog s subject = ends_with (ends.Error Range)

-- the block that an attribute is of, which each version has
abbrev pub counted : Option ℕ → (ℕ → Eval ℤ) → Eval ℤ
counted None f = ends_with (ends.Error Range)
counted (Some id) f = f id

abbrev pub block_count : Subject → (ℕ → Eval ℤ) → Eval ℤ
block_count (subjects.Name name) f = asks (items.Named asking.Label name) (λ id. counted id f)
block_count subject f = ends_with (ends.Error Range)

-- the number that is drawn from the stream that an attribute is of, 1 to 7
abbrev pub drawn_prog : Subject → Eval ℕ
drawn_prog (subjects.Number j) = stops_if (not (nat_le 1 j && nat_le j 7)) Range (draw j)
drawn_prog subject = ends_with (ends.Error Range)

-- it as a random number, and as a part of a million
abbrev pub random_prog : Subject → Eval ℤ
random_prog of = drawn_prog of ~> (λ x. gives (pos (thousandth x)))

abbrev pub random_part : Subject → Eval ℤ
random_part of = drawn_prog of ~> (λ x. gives (pos (millionths x)))

-- 1 while a facility is owned, else 0
abbrev pub owned : Option ℕ → ℕ
owned None = 0
owned (Some number) = 1

-- 1 where it holds, else 0
abbrev pub one_if : Bool → ℕ
one_if true = 1
one_if false = 0

-- of a facility: whether it is owned, and its captures; of a queue: its content, its entries, the greatest content and
-- the zero entries; of a savevalue: its value; of a switch: whether it is set; of a user chain: its content, and how
-- many were linked to it. One that nothing touched yet reads 0.
abbrev pub entity_value : Machine → Class → Key → Eval ℤ
entity_value s class.F key = amount (owned (facility_at s.entities key).owner)
entity_value s class.Fc key = amount (facility_at s.entities key).captures
entity_value s class.Q key = amount (line_at s.entities key).level.content
entity_value s class.Qc key = amount (line_at s.entities key).entries
entity_value s class.Qm key = amount (line_at s.entities key).greatest
entity_value s class.Qz key = amount (line_at s.entities key).zero_entries
entity_value s class.X key = gives (unwrap_or (savevalue_at s.entities key) (pos 0))
entity_value s class.Ls key = amount (one_if (switch_at s.entities key))
entity_value s class.Ch key = amount (length (user_chain_at s.linked key).members)
entity_value s class.Cc key = amount (user_chain_at s.linked key).entries
entity_value s class key = ends_with (ends.Error Range)

-- of a storage: the units in use, the units that came, and the greatest content
abbrev pub storage_value : Machine → Class → Key → Eval ℤ
storage_value s class.S key = amount (store_at s.entities key).level.content
storage_value s class.Sc key = amount (store_at s.entities key).entries
storage_value s class.Sm key = amount (store_at s.entities key).greatest
storage_value s class key = ends_with (ends.Error Range)

-- of a table: how many values it has
abbrev pub table_value : Machine → Key → Eval ℤ
table_value s key = amount (length (table_at s.entities key))

-- of a block: its entries and its content
abbrev pub block_value : Machine → Class → ℕ → Eval ℤ
block_value s class.N id = amount (count_at s.counts id).entries
block_value s class.W id = amount (count_at s.counts id).content
block_value s class id = ends_with (ends.Error Range)

-- the value of a parameter, which its transaction has to have
abbrev pub value_held : Option ℤ → Eval ℤ
value_held None = ends_with (ends.Error NoParameter)
value_held (Some v) = gives v

abbrev pub parameter_value : Machine → Asker → Key → Eval ℤ
parameter_value s q key = for_transaction q (value_held (parameter_at s.parameters q.number key))

-- the value of an attribute other than that of a VARIABLE or of a FUNCTION
unfoldable pub attribute_prog : Machine → Asker → Class → Subject → Eval ℤ
attribute_prog s q class.C1 of = own_value s q class.C1
attribute_prog s q class.Ac1 of = own_value s q class.Ac1
attribute_prog s q class.Tg1 of = own_value s q class.Tg1
attribute_prog s q class.M1 of = own_value s q class.M1
attribute_prog s q class.Xn1 of = own_value s q class.Xn1
attribute_prog s q class.Pr of = own_value s q class.Pr
attribute_prog s q class.P of = subject_prog of ~> (λ key. parameter_value s q key)
attribute_prog s q class.F of = subject_prog of ~> (λ key. entity_value s class.F key)
attribute_prog s q class.Fc of = subject_prog of ~> (λ key. entity_value s class.Fc key)
attribute_prog s q class.Q of = subject_prog of ~> (λ key. entity_value s class.Q key)
attribute_prog s q class.Qc of = subject_prog of ~> (λ key. entity_value s class.Qc key)
attribute_prog s q class.Qm of = subject_prog of ~> (λ key. entity_value s class.Qm key)
attribute_prog s q class.Qz of = subject_prog of ~> (λ key. entity_value s class.Qz key)
attribute_prog s q class.X of = subject_prog of ~> (λ key. entity_value s class.X key)
attribute_prog s q class.Ls of = subject_prog of ~> (λ key. entity_value s class.Ls key)
attribute_prog s q class.Ch of = subject_prog of ~> (λ key. entity_value s class.Ch key)
attribute_prog s q class.Cc of = subject_prog of ~> (λ key. entity_value s class.Cc key)
attribute_prog s q class.S of = defined_prog of (λ key. storage_value s class.S key)
attribute_prog s q class.R of = left_prog s of
attribute_prog s q class.Sc of = defined_prog of (λ key. storage_value s class.Sc key)
attribute_prog s q class.Sm of = defined_prog of (λ key. storage_value s class.Sm key)
attribute_prog s q class.Tc of = defined_prog of (λ key. table_value s key)
attribute_prog s q class.N of = block_count of (λ id. block_value s class.N id)
attribute_prog s q class.W of = block_count of (λ id. block_value s class.W id)
attribute_prog s q class.Rn of = random_prog of
attribute_prog s q class.V of = ends_with (ends.Error Range)
attribute_prog s q class.Fn of = ends_with (ends.Error Range)

-- what an operator comes to: a value, or the stop that says why there is none
abbrev pub arithmetic : Result ℤ ArithmeticFault → Eval ℤ
arithmetic (Ok z) = gives z
arithmetic (Err arithmetic_faults.Range) = ends_with (ends.Error Range)
arithmetic (Err arithmetic_faults.ZeroDivisor) = ends_with (ends.Error ZeroDivisor)

-- ---- operands

-- what a state replies to what an evaluation wants, for whoever asks: a version is asked for what it says
abbrev pub reply_prog : Machine → Asker → (q : Question) → Eval (Reply q)
reply_prog s q (NumberOf name) = asks (items.Named asking.Number name) (λ number. gives number)
reply_prog s q (AttributeOf class of) = attribute_prog s q class of
reply_prog s q (PartOf of) = random_part of
reply_prog s q (VariableOf name) = asks (items.Named asking.Variable name) (λ expression. gives expression)
reply_prog s q (FunctionOf name) = asks (items.Named asking.Function name) (λ function. gives function)

-- an evaluation in a state
abbrev pub evaluated : {A : Type 0} → Machine → Asker → Evaluation A → Eval A
evaluated s q (Yields a) = gives a
evaluated s q (Stops stop) = ends_with (ends.Error stop)
evaluated s q (Wants question k) = reply_prog s q question ~> (λ reply. evaluated s q (k reply))

-- the value of an operand in a state
unfoldable pub value_prog : Machine → Asker → Term → Eval ℤ
value_prog s q term = evaluated s q (value_of term)

-- the value of an operand that is there: no form leaves it out
abbrev pub value_there : Machine → Asker → Option Term → Eval ℤ
value_there s q None = ends_with (ends.Error Range)
value_there s q (Some term) = value_prog s q term

-- the value of an operand that may be absent, which then counts as 0
abbrev pub value_or_zero : Machine → Asker → Option Term → Eval ℤ
value_or_zero s q None = gives (pos 0)
value_or_zero s q (Some term) = value_prog s q term

-- the entity that an operand names: by a name, by its number from 1, or by an attribute whose value is its number (no
-- form leaves it out)
abbrev pub entity_prog : Machine → Asker → Option Term → Eval Key
entity_prog s q None = ends_with (ends.Error Range)
entity_prog s q (Some (Named name)) = asks (items.Named asking.Number name) (named name)
entity_prog s q (Some term) = value_prog s q term ~> numbered

-- how many units an operand says: from 1, and 1 where it is absent
abbrev pub units_prog : Machine → Asker → Option Term → Eval ℕ
units_prog s q None = gives 1
units_prog s q (Some term) =
    value_prog s q term ~> (λ n. stops_if (is_below n (pos 1)) BadCount (gives (magnitude n)))

-- ---- sampled times

-- a time of mean plus or minus range, which is drawn from stream 1 where the range is above 0
abbrev pub sample_within : ℤ → ℕ → Eval ℤ
sample_within mean zero = gives mean
sample_within mean (suc n) = draw 1 ~> (λ x. in_range (spread mean (suc n) x))

-- where the range is below 0 there is no such time: it counts as one below 0, at which what is to come there stops
abbrev pub sample : ℤ → ℤ → Eval ℤ
sample mean range = if is_negative range then gives range else sample_within mean (magnitude range)

-- the FUNCTION by which a mean is multiplied, where that stands in the place of a range as it is written
abbrev pub modifier_of : Option Term → Option Subject
modifier_of (Some (Value (atoms.Attribute class of))) = if is_of_function class then Some of else None
modifier_of range = None

abbrev pub time_by : Machine → Asker → Option Term → Option Term → Option Subject → Eval ℤ
time_by s q mean range None =
    value_or_zero s q mean ~> (λ m. value_or_zero s q range ~> (λ r. sample m r))
time_by s q mean range (Some of) =
    value_or_zero s q mean ~> (λ m. evaluated s q (function_of of) ~> (λ y. in_range (times m y)))

-- a time of a mean plus or minus a range, or times a FUNCTION
abbrev pub time_prog : Machine → Asker → Option Term → Option Term → Eval ℤ
time_prog s q mean range = time_by s q mean range (modifier_of range)

-- ---- what an evaluation reads (Our own: once each, in the order of reading)

-- the entity of a kind that an attribute is of
abbrev pub entity_watched : EntityKind → Subject → Eval (List Watched)
entity_watched kind of = subject_prog of ~> (λ key. gives (watched.Entity kind key ∷ []))

abbrev pub defined_watched : EntityKind → Subject → Eval (List Watched)
defined_watched kind (subjects.Name name) = gives (watched.Entity kind (keys.Defined name) ∷ [])
defined_watched kind subject = gives []

-- the counts of the block that an attribute is of
abbrev pub counts_of : Option ℕ → List Watched
counts_of None = []
counts_of (Some id) = watched.Counts id ∷ []

abbrev pub counts_watched : Subject → Eval (List Watched)
counts_watched (subjects.Name name) = asks (items.Named asking.Label name) (λ id. gives (counts_of id))
counts_watched subject = gives []

-- what an attribute reads that a block may write. The clocks, the termination count, random numbers, and what a
-- transaction has of its own wake nobody.
unfoldable pub watched_prog : Class → Subject → Eval (List Watched)
watched_prog class.F of = entity_watched kinds.Facility of
watched_prog class.Fc of = entity_watched kinds.Facility of
watched_prog class.Q of = entity_watched kinds.Queue of
watched_prog class.Qc of = entity_watched kinds.Queue of
watched_prog class.Qm of = entity_watched kinds.Queue of
watched_prog class.Qz of = entity_watched kinds.Queue of
watched_prog class.X of = entity_watched kinds.Savevalue of
watched_prog class.Ls of = entity_watched kinds.Switch of
watched_prog class.Ch of = entity_watched kinds.UserChain of
watched_prog class.Cc of = entity_watched kinds.UserChain of
watched_prog class.S of = defined_watched kinds.Storage of
watched_prog class.R of = defined_watched kinds.Storage of
watched_prog class.Sc of = defined_watched kinds.Storage of
watched_prog class.Sm of = defined_watched kinds.Storage of
watched_prog class.Tc of = defined_watched kinds.Table of
watched_prog class.N of = counts_watched of
watched_prog class.W of = counts_watched of
watched_prog class.C1 of = gives []
watched_prog class.Ac1 of = gives []
watched_prog class.Tg1 of = gives []
watched_prog class.M1 of = gives []
watched_prog class.Xn1 of = gives []
watched_prog class.Pr of = gives []
watched_prog class.P of = gives []
watched_prog class.Rn of = gives []
watched_prog class.V of = gives []
watched_prog class.Fn of = gives []

abbrev pub watched_by : Question → Eval (List Watched)
watched_by (AttributeOf class of) = watched_prog class of
watched_by question = gives []

-- an evaluation in a state, with what it read after what was read before. Its result, its end and its draws are those
-- of `evaluated`, and it asks nothing more.
abbrev pub traced : {A : Type 0} → Machine → Asker → List Watched → Evaluation A → Eval (A × List Watched)
traced s q read (Yields a) = gives (a, read)
traced s q read (Stops stop) = ends_with (ends.Error stop)
traced s q read (Wants question k) = watched_by question ~> (λ more. reply_prog s q question ~>
    (λ reply. traced s q (with_all_watched read more) (k reply)))

-- the value of an operand that is there, and the entity that an operand names, with what they read
abbrev pub value_traced : Machine → Asker → List Watched → Option Term → Eval (ℤ × List Watched)
value_traced s q read None = ends_with (ends.Error Range)
value_traced s q read (Some term) = traced s q read (value_of term)

abbrev pub entity_traced : Machine → Asker → Option Term → Eval (Key × List Watched)
entity_traced s q None = ends_with (ends.Error Range)
entity_traced s q (Some (Named name)) =
    asks (items.Named asking.Number name) (named name) ~> (λ key. gives (key, []))
entity_traced s q (Some term) =
    traced s q [] (value_of term) ~> (λ r. numbered r.0 ~> (λ key. gives (key, r.1)))
