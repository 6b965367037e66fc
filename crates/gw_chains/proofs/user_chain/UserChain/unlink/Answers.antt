use Rattle.std.proofs.Common.{◌≡◌, suc, ◌+◌, ◌-◌, ◌∷◌, drop, map, take, sym, ap, ◌∙◌, arith}
use Rattle.gw_meaning.specs.Changes.{all_lined_up, sent}
use Rattle.gw_chains.proofs.user_chain.UserChain.unlink.Goals as goal

pub loop-one-preserved : goal.loop-one-preserved
loop-one-preserved c =
    let count = c.args.count - c.loop-one._one in
    let left = c.args.count - (c.loop-one._one + 1) in
    let more : count ≡ suc left = omega (arith, c.loop-one-test.true) in
    let x = c.in-Some.x in
    let rest = c.pop_front.new.self.items in
    let members = c.loop-one.self-inside.members.items in
    let is : members ≡ x ∷ rest = c.in-Some.ensures.items in
    let dropped : drop count members ≡ drop left rest = ap (λ n. drop n members) more ∙ ap (drop (suc left)) is in
    let taken : take count members ≡ x ∷ take left rest = ap (λ n. take n members) more ∙ ap (take (suc left)) is in
    let all : all_lined_up (map (sent c.args.to) (take count members)) c.loop-one.current.items ≡ all_lined_up (map (sent c.args.to) (take left rest)) c.line_up.new.self.items =
    ap (λ l. all_lined_up (map (sent c.args.to) l) c.loop-one.current.items) taken ∙
    ap (all_lined_up (map (sent c.args.to) (take left rest))) (sym c.line_up.ensures.items) in
    record {
      entries = c.loop-one.invariant.entries;
      members = sym dropped ∙ c.loop-one.invariant.members;
      current = sym all ∙ c.loop-one.invariant.current;
      room = omega (arith, c.line_up.ensures.room, c.loop-one.invariant.room);
    }
