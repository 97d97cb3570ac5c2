-- One line of ROWS, and what a name stands for.
use Rattle.std.proofs.Common.{◌≡◌, ◌≤◌, ◌||◌, ℕ, Bool, false, List, length, Option, None, Result, Err, sym, ap, subst, ◌∙◌}
use Rattle.std.specs.List.{list_any}
use Rattle.std.specs.Str.{bytes_eq}
use Rattle.std.proofs.lemmas.Bool.{le-ltb}
use Rattle.pami_frac.specs.declared.fault.Fault.{Fault}
use Rattle.pami_frac.specs.Answers.{Follows}
use Rattle.pami_model.specs.declared.fault.FileKind.{FileKind}
use Rattle.pami_model.specs.declared.fault.FileKind.TheVariants as kinds
use Rattle.pami_model.specs.declared.fault.BuildFault.{BuildFault}
use Rattle.pami_model.specs.Rules.{names_of_rows, name_limit}
use Rattle.pami_model.specs.Draft.{place_of, row_fault}
use Rattle.pami_model.specs.Judgement.{first_of, wrong_if}
use Rattle.pami_model.specs.Refusal.{judge_build, widened}
use Rattle.pami_model.proofs.Judging.{refused_by, followed}
use Rattle.pami_mps.specs.Seen.{Seen}
use Rattle.pami_mps.specs.Gather.{role_by, free_role}
use Rattle.pami_mps.specs.After.{role_for}
use Rattle.pami_mps.specs.Judge.{judge_free, judge_kept}

module _ (s : Seen) (name : List ℕ) (short : length name ≤ name_limit) where
  pub free_judged : (a b : Bool) → list_any (bytes_eq name) s.free ≡ a → list_any (bytes_eq name) (names_of_rows s.draft.rows) ≡ b
      → judge_free s name ≡ wrong_if (a || b) kinds.DuplicateRow
  free_judged a b e f =
      ap (λ (x : Bool). first_of (wrong_if x kinds.NameLong) (wrong_if
      (list_any (bytes_eq name) s.free || list_any (bytes_eq name) (names_of_rows s.draft.rows)) kinds.DuplicateRow)) (le-ltb name_limit
      (length name) short)
      ∙ ap (λ (x : Bool). wrong_if (x || list_any (bytes_eq name) (names_of_rows s.draft.rows)) kinds.DuplicateRow) e
      ∙ ap (λ (x : Bool). wrong_if (a || x) kinds.DuplicateRow) f

  pub kept_judged : (a : Bool) → list_any (bytes_eq name) s.free ≡ a
      → judge_kept s name ≡ first_of (wrong_if a kinds.DuplicateRow) (judge_build (row_fault s.draft name))
  kept_judged a e =
      ap (λ (x : Bool). first_of (wrong_if x kinds.NameLong) (first_of (wrong_if (list_any (bytes_eq name) s.free) kinds.DuplicateRow)
      (judge_build (row_fault s.draft name)))) (le-ltb name_limit (length name) short)
      ∙ ap (λ (x : Bool). first_of (wrong_if x kinds.DuplicateRow) (judge_build (row_fault s.draft name))) e

  pub kept_refused : (A : Type 0) (f : Fault BuildFault) (g : Fault FileKind) → list_any (bytes_eq name) s.free ≡ false → g ≡ widened f
      → Follows {A = A} (row_fault s.draft name) (Err f) → Follows {A = Unit {0}} (judge_kept s name) (Err g)
  kept_refused A f g e w h =
      (let r : Result (Unit {0}) (Fault FileKind) =
      Err g in followed r (kept_judged false e) (subst (λ (x : Fault FileKind). Follows {A = Unit {0}} (judge_build (row_fault s.draft name)) (Err x))
      (sym w) (refused_by A (Unit {0}) (row_fault s.draft name) f h)))

  pub kept_taken : list_any (bytes_eq name) s.free ≡ false → row_fault s.draft name ≡ None → judge_kept s name ≡ None
  kept_taken e h = kept_judged false e ∙ ap judge_build h

module _ (s : Seen) (name : List ℕ) where
  -- no row of the model has the name
  pub role_else : (o : Option ℕ) → None ≡ place_of name (names_of_rows s.draft.rows) → o ≡ place_of name s.free → free_role o ≡ role_for s name
  role_else o e f = ap free_role f ∙ ap (λ (x : Option ℕ). role_by x (place_of name s.free)) e
