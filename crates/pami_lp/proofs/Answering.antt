-- An answer that is the outcome of a text, as a model and as a first fault.
use Rattle.std.proofs.Common.{ℕ, List, Result, Ok, Err, IfOk, sym, ◌∙◌}
use Rattle.pami_frac.specs.Answers.{FollowsBy}
use Rattle.pami_frac.specs.declared.fault.Fault.{Fault}
use Rattle.pami_frac.specs.declared.fault.Fault.TheVariants as faults
use Rattle.pami_model.specs.declared.fault.FileFault.{FileFault}
use Rattle.pami_model.specs.declared.model.Model.{Model}
use Rattle.pami_model.specs.Contents.{Contents, contents}
use Rattle.pami_lp.specs.Lp.{FirstFault, IsReadAs, IsRefused, IsRefusedAs, Lp}
use Rattle.pami_lp.specs.Outcome.{outcome}
use Rattle.pami_lp.proofs.Joins.{fault_of, fault_outcome, fault_same, lp_of_outcome, lp_outcome, no_fault, value_same}

module _ (bytes : List ℕ) where
  pub accepted : (r : Result Model (Fault FileFault)) → FollowsBy contents (outcome bytes) r → IfOk r (λ m. Lp bytes (contents m))
  accepted (Ok m) h = lp_of_outcome bytes (contents m) h
  accepted (Err f) h = tt

  pub refused : (r : Result Model (Fault FileFault)) → FollowsBy contents (outcome bytes) r → IsRefused bytes r
  refused (Ok m) h = tt
  refused (Err (faults.Named f)) h = fault_of bytes f h
  refused (Err faults.OutOfMemory) h = tt

  pub only_model : (r : Result Model (Fault FileFault)) → FollowsBy contents (outcome bytes) r → (c : Contents) → Lp bytes c → IsReadAs c r
  only_model (Ok m) h c l = value_same (sym h ∙ lp_outcome bytes c l)
  only_model (Err (faults.Named f)) h c l = no_fault (sym h ∙ lp_outcome bytes c l)
  only_model (Err faults.OutOfMemory) h c l = tt

  pub only_fault : (r : Result Model (Fault FileFault)) → FollowsBy contents (outcome bytes) r → (f : FileFault) → FirstFault bytes f → IsRefusedAs f r
  only_fault (Ok m) h f l = no_fault (sym (fault_outcome bytes f l) ∙ h)
  only_fault (Err (faults.Named g)) h f l = fault_same (sym h ∙ fault_outcome bytes f l)
  only_fault (Err faults.OutOfMemory) h f l = tt
