-- The user chains, in each step from any state. (Manual: LINK and UNLINK.)
use Rattle.std.specs.Prelude.{◌≡◌, ◌⊎◌, ◌<◌, ℕ, List, [], ◌∷◌, ◌++◌, Option, Some, Ok, Contains, drop, length}
use Rattle.gw_names.specs.declared.key.Key.{Key}
use Rattle.gw_names.specs.declared.verb.BlockVerb.TheVariants as blocks
use Rattle.gw_expr.specs.declared.expr.Discipline.{Discipline}
use Rattle.gw_expr.specs.declared.expr.Discipline.TheVariants as disciplines
use Rattle.gw_expr.specs.declared.expr.Expr.TheVariants.{Order}
use Rattle.gw_streams.specs.declared.stream.Stream.{Stream}
use Rattle.gw_meaning.specs.declared.statement.Block.{Block}
use Rattle.gw_meaning.specs.declared.transaction.Transaction.{Transaction}
use Rattle.gw_meaning.specs.declared.moves.Change.TheVariants as changes
use Rattle.gw_meaning.specs.declared.moves.Fate.TheVariants as fates
use Rattle.gw_meaning.specs.declared.moves.Move.{Move}
use Rattle.gw_meaning.specs.declared.moves.Move.TheVariants as moves
use Rattle.gw_meaning.specs.Statements.{B, operand}
use Rattle.gw_meaning.specs.Listing.{Listing, block_at}
use Rattle.gw_meaning.specs.Machine.{Machine, no_chain, UserChain, raised, user_chain_at}
use Rattle.gw_meaning.specs.Questions.{result_of}
use Rattle.gw_meaning.specs.Step.{decide, step}
use Rattle.gw_laws.specs.Living.{IsActive}
use Rattle.gw_laws.specs.Anew.{Resets, Clears}

-- a user chain, and who is on it, from the front
abbrev pub chain_of : Machine → Key → UserChain
chain_of s key = user_chain_at s.linked key

abbrev pub on_chain : Machine → Key → List Transaction
on_chain s key = (chain_of s key).members

-- a step's move is an UNLINK of this chain, which sends so many to a block
abbrev pub IsUnlink : Key → ℕ → Option ℕ → Move → Type 0
IsUnlink key count to m = (id : ℕ) × (m ≡ moves.Enter id (changes.Unlink key count to) fates.Active)

-- or a LINK to it
abbrev pub IsLink : Key → Discipline → Move → Type 0
IsLink key discipline m = (id : ℕ) × (m ≡ moves.Enter id changes.Nothing (fates.Linked key discipline))

-- so many were taken from the front
pub record TookFromTheFront (m : Move) (key : Key) (before after : UserChain) : Type 0 where
  pub count : ℕ
  pub to : Option ℕ
  pub unlinks : IsUnlink key count to m
  pub members : after.members ≡ drop count before.members
  pub entries : after.entries ≡ before.entries

-- by FIFO one comes to the back, and by LIFO to the front
abbrev pub IsPlacedBy : Discipline → Transaction → List Transaction → List Transaction → Type 0
IsPlacedBy disciplines.Fifo x before after = after ≡ before ++ x ∷ []
IsPlacedBy disciplines.Lifo x before after = after ≡ x ∷ before

-- the one who was active came, and is counted
pub record OneCame (s : Machine) (m : Move) (key : Key) (before after : UserChain) : Type 0 where
  pub discipline : Discipline
  pub who : Transaction
  pub was_active : IsActive s who.number
  pub links : IsLink key discipline m
  pub members : IsPlacedBy discipline who before.members after.members
  pub entries : after.entries ≡ raised before.entries

-- a RESET counts it anew, and moves nobody
pub record CountedAnew (m : Move) (before after : UserChain) : Type 0 where
  pub resets : Resets m
  pub members : after.members ≡ before.members
  pub entries : after.entries ≡ 0

-- a CLEAR empties it
pub record Emptied (m : Move) (after : UserChain) : Type 0 where
  pub clears : Clears m
  pub empty : after ≡ no_chain

-- in a step a user chain stays as it is, an UNLINK of it takes some from its front, a LINK to it brings one, a RESET
-- counts it anew, or a CLEAR empties it
abbrev pub UserChainsChangeByLinkAndUnlink : Type 0
UserChainsChangeByLinkAndUnlink =
    (t : Listing) (seed : ℕ) (s v : Machine) (m : Move) (streams : List Stream) →
    result_of t seed (decide s) ≡ Ok (m, streams) → step t seed s ≡ Ok v → (key : Key) →
    (chain_of v key ≡ chain_of s key)
    ⊎ (TookFromTheFront m key (chain_of s key) (chain_of v key)
    ⊎ (OneCame s m key (chain_of s key) (chain_of v key)
    ⊎ (CountedAnew m (chain_of s key) (chain_of v key) ⊎ Emptied m (chain_of v key))))

-- so where fewer are on it, the step was an UNLINK of it, unless it was a CLEAR
abbrev pub FewerByUnlinkAlone : Type 0
FewerByUnlinkAlone =
    (t : Listing) (seed : ℕ) (s v : Machine) (m : Move) (streams : List Stream) →
    result_of t seed (decide s) ≡ Ok (m, streams) → step t seed s ≡ Ok v → (Clears m → ⊥) →
    (key : Key) → length (on_chain v key) < length (on_chain s key) →
    TookFromTheFront m key (chain_of s key) (chain_of v key)

-- whoever is on a user chain stays on it, or an UNLINK of it sends him to its block: then he is on the current chain.
-- So it is unless a CLEAR removes all; a RESET moves nobody.
abbrev pub WhoLeavesIsUnlinked : Type 0
WhoLeavesIsUnlinked =
    (t : Listing) (seed : ℕ) (s v : Machine) (m : Move) (streams : List Stream) →
    result_of t seed (decide s) ≡ Ok (m, streams) → step t seed s ≡ Ok v → (Clears m → ⊥) →
    (key : Key) (x : Transaction) → Contains (on_chain s key) x →
    Contains (on_chain v key) x
    ⊎ ((count : ℕ) × (to : Option ℕ) × IsUnlink key count to m
    × Contains v.current (let y : Transaction = record x { destination = to } in y))

-- each LINK of the version has the order FIFO
abbrev pub EachLinkIsFifo : Listing → Type 0
EachLinkIsFifo t =
    (id : ℕ) (b : Block) → block_at t id ≡ Some b → b.verb ≡ blocks.Link →
    operand b B ≡ Some (Order disciplines.Fifo)

-- nobody, or the one who was active
abbrev pub IsAtMostTheActive : Machine → List Transaction → Type 0
IsAtMostTheActive s come = (come ≡ []) ⊎ ((x : Transaction) × (come ≡ x ∷ []) × IsActive s x.number)

-- then each user chain is first in, first out: the first ones go, those after them keep their order, and at most the
-- one who was active comes after these
abbrev pub UserChainsAreFirstInFirstOut : Type 0
UserChainsAreFirstInFirstOut =
    (t : Listing) (seed : ℕ) (s v : Machine) → EachLinkIsFifo t → step t seed s ≡ Ok v → (key : Key) →
    (gone : ℕ) × (come : List Transaction) × (on_chain v key ≡ drop gone (on_chain s key) ++ come)
    × IsAtMostTheActive s come
