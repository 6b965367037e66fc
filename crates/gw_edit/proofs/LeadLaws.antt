-- Where edits lead: one edit more, a front and what comes after it, and that they lead to one version.
use Rattle.std.proofs.Common.{◌≡◌, List, [], ◌∷◌, ◌++◌, Result, Ok, Err, refl, sym, ap, subst, ◌∙◌}
use Rattle.gw_meaning.specs.Listing.{Listing}
use Rattle.gw_meaning.specs.declared.edit.Edit.{Edit}
use Rattle.gw_edit.specs.declared.fault.EditFault.{EditFault}
use Rattle.gw_edit.specs.Applied.{applied}
use Rattle.gw_edit.specs.Leading.{LeadsTo, version_of, accepted, or_same, kept_if}

-- one edit more
pub leads_more : (t u v : Listing) (es : List Edit) (e : Edit) → LeadsTo t es u → applied u e ≡ Ok v → LeadsTo t (es ++ e ∷ []) v
leads_more t u v [] e is made = (v, ap (λ x. applied x e) (sym is) ∙ made, refl)
leads_more t u v (f ∷ es) e (w, first, rest) made = (w, first, leads_more w u v es e rest made)

-- the version after a front, and after what comes after it
pub leads_on : (t v u : Listing) (front later : List Edit) → LeadsTo t front v → LeadsTo t (front ++ later) u → LeadsTo v later u
leads_on t v u [] later is all = subst (λ x. LeadsTo x later u) (sym is) all
leads_on t v u (e ∷ front) later (w, made, rest) (w', made', rest') =
    let same : Ok w' ≡ Ok w = sym made' ∙ made in
    let one : w' ≡ w = cc in
    leads_on w v u front later rest (subst (λ x. LeadsTo x (front ++ later) u) one rest')

-- edits lead to one version
pub leads_once : (t u v : Listing) (es : List Edit) → LeadsTo t es u → LeadsTo t es v → u ≡ v
leads_once t u v [] is also = is ∙ sym also
leads_once t u v (e ∷ es) (w, made, rest) (w', made', rest') =
    let same : Ok w' ≡ Ok w = sym made' ∙ made in
    let one : w' ≡ w = cc in
    leads_once w u v es rest (subst (λ x. LeadsTo x es v) one rest')

-- those of a front that are accepted lead to its version
pub front_leads : (t : Listing) (es : List Edit) → LeadsTo t (accepted t es) (version_of t es)
front_leads t [] = refl
front_leads t (e ∷ es) = go (applied t e) refl (λ u. front_leads u es) where
  go : (r : Result Listing EditFault) → applied t e ≡ r → ((u : Listing) → LeadsTo u (accepted u es) (version_of u es)) →
      LeadsTo t (kept_if e (accepted (or_same t r) es) r) (version_of (or_same t r) es)
  go (Ok u) is rest = (u, is, rest u)
  go (Err fault) is rest = rest t
