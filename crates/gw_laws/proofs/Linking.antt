-- The user chains where one is linked and where some are unlinked: the chain of the key, and each other one.
use Rattle.std.proofs.Common.{◌≡◌, ℕ, zero, suc, false, cond, List, [], ◌∷◌, ◌++◌, Option, refl, ap, subst, ◌∙◌, arith}
use Rattle.std.specs.Prelude.{Contains, drop, take}
use Rattle.gw_names.specs.declared.key.Key.{Key}
use Rattle.gw_names.specs.Keys.{key_eq}
use Rattle.gw_meaning.specs.Tables.{with_value}
use Rattle.gw_meaning.specs.declared.transaction.Transaction.{Transaction}
use Rattle.gw_meaning.specs.declared.entity_change.Update.{Update}
use Rattle.gw_meaning.specs.Machine.{Machine, UserChain, no_chain, delay_at, user_chain_at}
use Rattle.gw_meaning.specs.Changes.{update_grants, admitted, sent, one_unlinked, some_unlinked}
use Rattle.gw_frame.proofs.Moves.{some_have, some_unlinked_keep}
use Rattle.gw_frame.proofs.UserChains.{chain_set, members_set}
use Rattle.gw_laws.proofs.Entries.{at_with}
use Rattle.gw_laws.proofs.Waiting.{let_in_is, lined_keeps, lined_has}

-- where a user chain is set, each other one stays
pub chain_there : (cs : List (Key × UserChain)) (q key : Key) (c : UserChain) → key_eq q key ≡ false →
    user_chain_at (with_value cs key c) q ≡ user_chain_at cs q
chain_there cs q key c other = at_with no_chain cs key c q ∙ ap (λ b. cond b c (user_chain_at cs q)) other

-- who is let in is on none of them
pub admitted_chain : (key : Key) (update : Update) (v : Machine) (q : Key) → user_chain_at (admitted key update v).linked q ≡ user_chain_at v.linked q
admitted_chain key update v q =
    some_have (λ w. user_chain_at w.linked q ≡ user_chain_at v.linked q) key (update_grants update) [] (delay_at v.delays key) v refl
    (λ w other y passed ys is same. ap (λ cs. user_chain_at cs q) (let_in_is other y (passed ++ ys) w).linked ∙ same) refl

-- where some are unlinked
pub unlinked_there : (count : ℕ) (key : Key) (to : Option ℕ) (v : Machine) (q : Key) → key_eq q key ≡ false →
    user_chain_at (some_unlinked count key to (user_chain_at v.linked key).members v).linked q ≡ user_chain_at v.linked q
unlinked_there count key to v q other =
    some_unlinked_keep (λ w. user_chain_at w.linked q ≡ user_chain_at v.linked q) key to
    (λ w y ys is same. chain_there w.linked q key _ other ∙ same) count (user_chain_at v.linked key).members v refl refl

pub unlinked_here : (count : ℕ) (key : Key) (to : Option ℕ) (chain : List Transaction) (w : Machine) → (user_chain_at w.linked key).members ≡ chain →
    (user_chain_at (some_unlinked count key to chain w).linked key).members ≡ drop count chain
unlinked_here zero key to chain w is = is
unlinked_here (suc n) key to [] w is = is
unlinked_here (suc n) key to (x ∷ xs) w is = unlinked_here n key to xs (one_unlinked key to x xs w) (members_set w.linked key xs)

pub unlinked_entries : (count : ℕ) (key : Key) (to : Option ℕ) (v : Machine) →
    (user_chain_at (some_unlinked count key to (user_chain_at v.linked key).members v).linked key).entries ≡ (user_chain_at v.linked key).entries
unlinked_entries count key to v =
    some_unlinked_keep (λ w. (user_chain_at w.linked key).entries ≡ (user_chain_at v.linked key).entries) key to
    (λ w y ys is same. ap (λ (c : UserChain). c.entries) (chain_set w.linked key _) ∙ same) count (user_chain_at v.linked key).members v refl refl

-- whoever is unlinked stands on the current chain
pub unlinked_stands : (count : ℕ) (key : Key) (to : Option ℕ) (chain : List Transaction) (w : Machine) (x : Transaction) →
    (user_chain_at w.linked key).members ≡ chain → Contains (take count chain) x → Contains (some_unlinked count key to chain w).current (sent to x)
unlinked_stands zero key to chain w x is there = absurd (omega (arith, there.1))
unlinked_stands (suc n) key to [] w x is there = absurd (omega (arith, there.1))
unlinked_stands (suc n) key to (y ∷ ys) w x is (zero, within, same) =
    some_unlinked_keep (λ v. Contains v.current (sent to x)) key to (λ v z zs also stands. lined_keeps (sent to z) v.current (sent to x) stands) n ys
    (one_unlinked key to y ys w) (members_set w.linked key ys)
    (subst (λ z. Contains (one_unlinked key to y ys w).current (sent to z)) same (lined_has (sent to y) w.current))
unlinked_stands (suc n) key to (y ∷ ys) w x is (suc i, within, same) =
    unlinked_stands n key to ys (one_unlinked key to y ys w) x (members_set w.linked key ys) (i, omega (arith, within), same)
