-- The fault that a version is refused with is the refusal of its edit.
use Rattle.std.proofs.Common.{ap, Option}
use Rattle.gw_meaning.specs.Listing.{Listing}
use Rattle.gw_model.specs.declared.fault.ModelFault.{ModelFault}
use Rattle.gw_model.specs.declared.fault.ModelFault.TheVariants.{TooMany, BadSeed, BadHorizon, LabelTwice, NoSuchLabel, NoSuchDefinition, EquNamedDefinition, Memory}
use Rattle.gw_model.specs.Faults.{IsFault}
use Rattle.gw_edit.specs.Applied.{unless_faulty}
use Rattle.gw_edit.specs.Faults.{Refuses, of_model}

pub refused_by : (first : Option ModelFault) (t : Listing) (f : ModelFault) → IsFault first f → Refuses (of_model f) (unless_faulty first t)
refused_by first t TooMany h = ap (λ o. unless_faulty o t) h
refused_by first t BadSeed h = ap (λ o. unless_faulty o t) h
refused_by first t BadHorizon h = ap (λ o. unless_faulty o t) h
refused_by first t LabelTwice h = ap (λ o. unless_faulty o t) h
refused_by first t NoSuchLabel h = ap (λ o. unless_faulty o t) h
refused_by first t NoSuchDefinition h = ap (λ o. unless_faulty o t) h
refused_by first t EquNamedDefinition h = ap (λ o. unless_faulty o t) h
refused_by first t Memory h = tt
