use Rattle.pami_script.proofs.Scripts.{same_ok, same_err, ok_or_err}
use Rattle.pami_script.proofs.follows_laws.answers_exclude_each_other.Goals as goal

pub returns : goal.returns
returns c = record {
  one_value = same_ok;
  one_refusal = same_err;
  not_both = ok_or_err;
}
