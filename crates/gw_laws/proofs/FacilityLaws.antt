-- The facilities, move by move and over a run.
use Rattle.std.proofs.Common.{◌≡◌, ℕ, suc, ◌-◌, ◌*◌, ◌≤◌, List, [], ◌∷◌, Option, Some, None, refl, arith}
use Rattle.std.proofs.lemmas.List.Elements.{All-from_recursion}
use Rattle.gw_names.specs.declared.key.Key.{Key}
use Rattle.gw_meaning.specs.Levels.{Course, changed}
use Rattle.gw_meaning.specs.Records.{Ownership, never_owned, seized, released}
use Rattle.gw_meaning.specs.declared.entity_change.Update.{Update}
use Rattle.gw_meaning.specs.declared.entity_change.Update.TheVariants as updates
use Rattle.gw_meaning.specs.declared.entity_change.FacilityUpdate.TheVariants as of_facility
use Rattle.gw_meaning.specs.Listing.{Listing}
use Rattle.gw_meaning.specs.Entities.{Entities, facility_at, given_back, done}
use Rattle.gw_meaning.specs.Machine.{Machine}
use Rattle.gw_laws.specs.Facilities.{owners, IsUsed, FacilitiesAreUsed}
use Rattle.gw_laws.proofs.Entries.{Each, at_has, with_has}
use Rattle.gw_laws.proofs.EntityLaws.{KeepsEntities, over_entities}
use Rattle.gw_meaning.specs.Entities.{all_anew}
use Rattle.gw_meaning.specs.Records.{facility_anew}

abbrev AreUsed : ℕ → ℕ → List (Key × Ownership) → Type 0
AreUsed clock steps = Each (IsUsed clock steps)

-- a facility that nothing touched
never_used : (clock steps : ℕ) → IsUsed clock steps never_owned
never_used clock steps = record { captures = omega arith; content = refl; sum = omega arith; at = omega arith }

facility_used : (clock steps : ℕ) (e : Entities) (key : Key) → AreUsed clock steps e.facilities → IsUsed clock steps (facility_at e key)
facility_used clock steps e key all = at_has (IsUsed clock steps) never_owned e.facilities key (never_used clock steps) all

-- it is owned for no longer than the clock runs
sum_goes_on : (o : Option ℕ) (content clock : ℕ) (l : Course) → l.content ≡ owners o → l.sum ≤ l.at → l.at ≤ clock →
    (changed content clock l).sum ≤ (changed content clock l).at
sum_goes_on None content clock l is sum at =
    let still : l.content * (clock - l.at) ≡ 0 = rw is (omega arith) in omega arith
sum_goes_on (Some number) content clock l is sum at =
    let on : l.content * (clock - l.at) ≡ clock - l.at = rw is (omega arith) in omega arith

-- what a block makes of one
seized_used : (clock steps number : ℕ) (f : Ownership) → IsUsed clock steps f → IsUsed clock (suc steps) (seized number clock f)
seized_used clock steps number f h = record {
  captures = omega (arith, h.captures);
  content = refl;
  sum = sum_goes_on f.owner 1 clock f.level h.content h.sum h.at;
  at = omega (arith, h.at);
}

released_used : (clock steps : ℕ) (f : Ownership) → IsUsed clock steps f → IsUsed clock steps (released clock f)
released_used clock steps f h = record {
  captures = h.captures;
  content = refl;
  sum = sum_goes_on f.owner 0 clock f.level h.content h.sum h.at;
  at = omega (arith, h.at);
}

-- a later clock and a further step
used_later : (clock later steps more : ℕ) (f : Ownership) → clock ≤ later → steps ≤ more → IsUsed clock steps f → IsUsed later more f
used_later clock later steps more f on further h =
    record { captures = omega (arith, further, h.captures); content = h.content; sum = h.sum; at = omega (arith, on, h.at) }

all_later : (clock later steps more : ℕ) (fs : List (Key × Ownership)) → clock ≤ later → steps ≤ more → AreUsed clock steps fs → AreUsed later more fs
all_later clock later steps more [] on further all = tt
all_later clock later steps more (f ∷ fs) on further all =
    (used_later clock later steps more f.1 on further all.0, all_later clock later steps more fs on further all.1)

given_back_used : (clock steps : ℕ) (next : Option ℕ) (f : Ownership) → IsUsed clock steps f → IsUsed clock (suc steps) (given_back next clock f)
given_back_used clock steps None f h =
    used_later clock clock steps (suc steps) (released clock f) (omega arith) (omega arith) (released_used clock steps f h)
given_back_used clock steps (Some number) f h = seized_used clock steps number (released clock f) (released_used clock steps f h)

again : (clock steps : ℕ) (fs : List (Key × Ownership)) → AreUsed clock steps fs → AreUsed clock (suc steps) fs
again clock steps fs all = all_later clock clock steps (suc steps) fs (omega arith) (omega arith) all

done_used : (steps : ℕ) (s : Machine) (key : Key) (update : Update) (number : ℕ) → AreUsed s.clock steps s.entities.facilities →
    AreUsed s.clock (suc steps) (done key update s.clock number s.entities).facilities
done_used steps s key (updates.Facility of_facility.Seize) number all =
    with_has (IsUsed s.clock (suc steps)) s.entities.facilities key _
    (seized_used s.clock steps number (facility_at s.entities key) (facility_used s.clock steps s.entities key all))
    (again s.clock steps s.entities.facilities all)
done_used steps s key (updates.Facility (of_facility.Release next)) number all =
    with_has (IsUsed s.clock (suc steps)) s.entities.facilities key _
    (given_back_used s.clock steps next (facility_at s.entities key) (facility_used s.clock steps s.entities key all))
    (again s.clock steps s.entities.facilities all)
done_used steps s key update number all = again s.clock steps s.entities.facilities all

-- counted anew
anew_used : (steps clock : ℕ) (fs : List (Key × Ownership)) → AreUsed clock steps fs → AreUsed clock (suc steps) (all_anew (facility_anew clock) fs)
anew_used steps clock [] all = tt
anew_used steps clock (f ∷ fs) all =
    (record { captures = omega arith; content = all.0.content; sum = omega arith; at = omega arith }, anew_used steps clock fs all.1)

-- over a run
keeps_facilities : (t : Listing) → KeepsEntities t (λ n clock e. AreUsed clock n e.facilities)
keeps_facilities t = record {
  none = λ n. tt;
  further = λ n clock e all. again clock n e.facilities all;
  does = λ n s key update number decided all. done_used n s key update number all;
  goes_on = λ n before now e on all. all_later before now n (suc n) e.facilities on (omega arith) all;
  anew = λ n clock e all. anew_used n clock e.facilities all;
}

pub facilities_are_used : FacilitiesAreUsed
facilities_are_used t seed n s is =
    All-from_recursion (λ (f : Key × Ownership). IsUsed s.clock n f.1) s.entities.facilities
    (over_entities t (λ n clock e. AreUsed clock n e.facilities) (keeps_facilities t) seed n s is)
