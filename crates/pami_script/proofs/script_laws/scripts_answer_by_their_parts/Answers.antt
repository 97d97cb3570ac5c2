use Rattle.pami_script.proofs.Scripts.{then_ok, then_ok_from, then_err, then_err_from}
use Rattle.pami_script.proofs.script_laws.scripts_answer_by_their_parts.Goals as goal

pub returns : goal.returns
returns c = record {
  value = λ r f s. (then_ok r f s, then_ok_from r f s);
  refused = λ r f e. (then_err r f e, then_err_from r f e);
}
