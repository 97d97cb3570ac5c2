use Rattle.std.proofs.Common.{◌≡◌, ℕ, List, Result, ap, subst, ◌∙◌}
use Rattle.std.specs.Option.{option_map}
use Rattle.pami_frac.specs.declared.fault.Fault.{Fault}
use Rattle.pami_frac.specs.Answers.{FollowsBy}
use Rattle.pami_model.specs.declared.fault.FileKind.{FileKind}
use Rattle.pami_lp.specs.Acts.{Seen, end_named}
use Rattle.pami_lp.specs.Rules.{name_by}
use Rattle.pami_lp.specs.Run.{seen_by_reader}
use Rattle.pami_lp.proofs.reader.Reader.end_row.Goals as goal

named : (s : Seen) (A : Type 0) (r : Result A (Fault FileKind)) (f : A → Seen) (n m : List ℕ) → n ≡ m → FollowsBy f (end_named s n) r → FollowsBy f (end_named s m) r
named s A r f n m e g = subst (λ (k : List ℕ). FollowsBy f (end_named s k) r) e g

pub returns : goal.returns
returns c =
    named (seen_by_reader c.args.self.now) _ c.end_named.result _ _ _
    (c.as_slice.ensures.value ∙ c.in_ok-name.ensures ∙ ap (λ (n : ℕ). name_by n (option_map (λ v. v.items) c.args.self.now.label)) c.row_count.ensures) c.end_named.ensures
