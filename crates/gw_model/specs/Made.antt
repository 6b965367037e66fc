-- What making a version answers. (Our own.)
use Rattle.std.specs.Prelude.{◌≡◌, Result, None, IfOk, OnOk, IfErr}
use Rattle.gw_meaning.specs.Listing.{Listing}
use Rattle.gw_model.specs.Faults.{fault_of, IsFault}
use Rattle.gw_model.specs.Well.{Well}
use Rattle.gw_model.specs.declared.fault.ModelFault.{ModelFault}
use Rattle.gw_model.specs.declared.fault.ModelFault.TheVariants.{Memory}

-- this version, which is well-formed and has no fault; or its first fault, or out of memory
pub record Makes (t : Listing) (result : Result Listing ModelFault) : Type 0 where
  pub value : IfOk result (λ v. v ≡ t)
  pub found : IfOk result (λ v. Well v)
  pub none : OnOk result (fault_of t ≡ None)
  pub fault : IfErr result (λ f. IsFault (fault_of t) f)
  pub only : Well t → IfErr result (λ f. f ≡ Memory)
