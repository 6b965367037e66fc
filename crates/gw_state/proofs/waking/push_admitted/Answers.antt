use Rattle.std.proofs.Common.{◌≡◌, ◌++◌, ℕ, List, [], ◌∷◌, Option, refl, sym, ap, ◌∙◌, append-nil}
use Rattle.gw_meaning.specs.declared.watched.Watched.{Watched}
use Rattle.gw_meaning.specs.Changes.{crossings}
use Rattle.gw_state.proofs.waking.push_admitted.Goals as goal

none_admitted : (grants : List (Option ℕ)) → crossings grants [] ≡ []
none_admitted [] = refl
none_admitted (grant ∷ grants) = refl

pub returns-in-None : goal.returns-in-None
returns-in-None c =
    let old : List Watched = c.args.written.now.items in
    rw c.in-None.is (sym (ap (λ ws. old ++ ws) (none_admitted c.args.grants.now) ∙ append-nil old))
