use Rattle.std.proofs.Common.{◌≡◌, ◌+◌, ◌-◌, ◌%◌, ◌≤◌, ◌<◌, ℕ, ap, ◌∙◌, arith}
use Rattle.std.proofs.Math.Nat.{add-mod_right}
use Rattle.gw_record.proofs.KeepLaws.{between, due_all, due_later}
use Rattle.gw_record.proofs.recorded.Recorded.move_on.Goals as goal

-- one step further, a multiple that lies ahead is one step nearer
nearer : (every moment ahead less : ℕ) → (moment + ahead) % every ≡ 0 → less + 1 ≡ ahead → (moment + 1 + less) % every ≡ 0
nearer every moment ahead less at is =
    let there : moment + 1 + less ≡ moment + ahead = omega (arith, is) in
    ap (λ n. n % every) there ∙ at

pub invariant_of-self : goal.invariant_of-self
invariant_of-self c =
    let (within, multiple, due, streams) = c.self.invariant in
    let every = c.self.inside.every in
    let moment = c.self.inside.moment in
    let here : moment + 1 ≡ moment + c.self.inside.ahead = omega arith in
    let next = add-mod_right (moment + 1) every ∙ (ap (λ n. n % every) here ∙ multiple) in
    ((omega arith, omega arith), next, due_all _ _ _ _ _, streams)

pub invariant_of-self-else-self-eq0 : goal.invariant_of-self-else-self-eq0
invariant_of-self-else-self-eq0 c =
    let (within, multiple, due, streams) = c.self.invariant in
    let every = c.self.inside.every in
    let moment = c.self.inside.moment in
    let ahead = c.self.inside.ahead in
    let some : 1 ≤ ahead - 1 = omega arith in
    let less : ahead - 1 < every = omega arith in
    let next = nearer every moment ahead (ahead - 1) multiple (omega arith) in
    ((some, omega arith), next, due_later _ _ _ _ _ _ due (between every (moment + 1) (ahead - 1) next some less), streams)
