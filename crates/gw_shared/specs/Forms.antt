-- How a list lies in memory. (Our own.)
use Rattle.std.specs.Prelude.{ℕ, ◌-◌, List, []}
use Rattle.std.specs.VecDeque.{deque_len, deque_capacity}
use Rattle.gw_shared.specs.declared.list.Form.{Form}
use Rattle.gw_shared.specs.declared.list.Form.TheVariants.{Empty, Plain, Long}

abbrev pub form_items : {A : Type 0} → Form A → List A
form_items (Empty a) = []
form_items (Plain b) = b.value.items
form_items (Long b) = b.value.items

abbrev pub form_room : {A : Type 0} → Form A → ℕ
form_room (Empty a) = 0
form_room (Plain b) = deque_capacity b.value - deque_len b.value
form_room (Long b) = b.value.room
