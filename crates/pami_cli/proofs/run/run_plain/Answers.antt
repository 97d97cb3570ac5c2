use Rattle.std.proofs.Common.{subst}
use Rattle.pami_cli.specs.Run.{Ends}
use Rattle.pami_cli.proofs.Runs.{ends_exactly, ends_complete, ends_bad_words, ends_refused, ends_judged}
use Rattle.pami_cli.proofs.run.run_plain.Goals as goal

pub returns-clause-exact : goal.returns-clause-exact
returns-clause-exact g c = λ files command bytes written status told asks stands answer. ends_exactly _ files command bytes written status told asks stands answer c.run_words.result c.run_words.ensures.ends

pub returns-clause-complete : goal.returns-clause-complete
returns-clause-complete g c = λ command asks read wrote. ends_complete _ command asks read wrote c.run_words.result c.run_words.ensures.ends

pub returns-clause-words : goal.returns-clause-words
returns-clause-words g c = λ bad. ends_bad_words _ bad c.run_words.result c.run_words.ensures.ends

pub returns-clause-file_only : goal.returns-clause-file_only
returns-clause-file_only g c = λ e. ends_refused _ (subst (Ends _) e c.run_words.ensures.ends)

pub returns-clause-judged_only : goal.returns-clause-judged_only
returns-clause-judged_only g c = λ judgement. ends_judged _ c.run_words.result judgement c.run_words.ensures.ends
