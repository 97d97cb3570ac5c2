-- The model of the file, its form, its run and its text, by computation.
use Rattle.std.proofs.Common.{[], ◌∷◌, Some, refl, arith, ◌≡◌}
use Rattle.pami_algebra.specs.Fraction.{gcd}
use Rattle.pami_algebra.specs.Operations.{◌+ᶠ◌, ◌*ᶠ◌, neg_f, of_int, inv_f}
use Rattle.pami_algebra.specs.Size.{bits, size}
use Rattle.pami_linear.specs.Pivoting.{pivot}
use Rattle.pami_frac.specs.Arithmetic.{add_fits, mul_fits, add_outcome, mul_outcome, sub_outcome, div_outcome}
use Rattle.pami_factoring.specs.Factor.{elimination_script}
use Rattle.pami_factoring.specs.Solve.{forward_script, backward_script}
use Rattle.pami_theory.specs.Fresh.{IsFresh}
use Rattle.pami_theory.specs.Start.{starting_basis}
use Rattle.pami_method.specs.Batch.{IsBatch}
use Rattle.pami_method.specs.declared.words.Mode.TheVariants.{Full}
use Rattle.pami_method.specs.Factor.{elimination, unfit}
use Rattle.pami_method.specs.Walk.{State, IsMajor, IsDue, Optimal as WalkOptimal, IsWalk, state_after}
use Rattle.pami_method.specs.Phases.{starting_state, IsRun, in_phase_two}
use Rattle.pami_examples.proofs.FreshTests.{fresh_by_tests, dual_feasible_by_tests}
use Rattle.pami_examples.proofs.Facts.{not_empty}
use Rattle.std.specs.Fmt.{digits}
use Rattle.pami_frac.specs.Printed.{printed}
use Rattle.pami_lines.specs.Line.{text}
use Rattle.pami_text.specs.Record.{run_lines}
use Rattle.pami_frac.specs.BoundText.{bound_outcome}
use Rattle.pami_frac.specs.Decimal.{digits_within, zeros_within, decimal_outcome}
use Rattle.pami_script.specs.Dense.{dense}
use Rattle.pami_mps.specs.Mps.{Mps}
use Rattle.pami_model_form.specs.ModelForm.{model_form}
use Rattle.pami_examples.proofs.FileTests.{read_by_tests}
use Rattle.pami_examples.specs.Keeping.{keeping_file, keeping_contents, keeping, keeping_options, keeping_first_fresh, keeping_first}
use Rattle.pami_examples.specs.Keeping.{keeping_minor_1, keeping_second_basis, keeping_second_fresh, keeping_second_left, keeping_second}
use Rattle.pami_examples.specs.Keeping.{keeping_minor_2, keeping_third_basis, keeping_third_fresh, keeping_third_left, keeping_third}
use Rattle.pami_examples.specs.Keeping.{keeping_minor_3, keeping_fourth_basis, keeping_fourth_fresh, keeping_fourth_left}
use Rattle.pami_examples.specs.Keeping.{keeping_major_1, keeping_major_2, keeping_major_3, keeping_majors, keeping_record, keeping_end, keeping_answer}
use Rattle.pami_examples.specs.Keeping.{keeping_named, keeping_text, keeping_unfit}

-- ---- the file
pub keeping_read : Mps keeping_file keeping_contents
unfolding digits_within zeros_within decimal_outcome bound_outcome of_int neg_f gcd
keeping_read = read_by_tests _ _ refl refl refl refl

pub keeping_formed : model_form keeping_contents ≡ keeping
unfolding dense of_int neg_f gcd
keeping_formed = refl

-- ---- the run

keeping_fresh_first : IsFresh keeping (starting_basis keeping) keeping_first_fresh
unfolding ◌+ᶠ◌ ◌*ᶠ◌ neg_f of_int inv_f gcd
keeping_fresh_first = fresh_by_tests _ _ _ refl refl refl refl

keeping_fresh_second : IsFresh keeping keeping_second_basis keeping_second_fresh
unfolding ◌+ᶠ◌ ◌*ᶠ◌ neg_f of_int inv_f gcd
keeping_fresh_second = fresh_by_tests _ _ _ refl refl refl refl

keeping_fresh_third : IsFresh keeping keeping_third_basis keeping_third_fresh
unfolding ◌+ᶠ◌ ◌*ᶠ◌ neg_f of_int inv_f gcd
keeping_fresh_third = fresh_by_tests _ _ _ refl refl refl refl

keeping_fresh_fourth : IsFresh keeping keeping_fourth_basis keeping_fourth_fresh
unfolding ◌+ᶠ◌ ◌*ᶠ◌ neg_f of_int inv_f gcd
keeping_fresh_fourth = fresh_by_tests _ _ _ refl refl refl refl

-- the states behind the first major and behind the second
abbrev keeping_behind_1 : State
keeping_behind_1 = state_after keeping_options (starting_state keeping) keeping_major_1

abbrev keeping_behind_2 : State
keeping_behind_2 = state_after keeping_options keeping_behind_1 keeping_major_2

keeping_batch_1 : IsBatch keeping 100000 keeping_first (keeping_minor_1 ∷ []) keeping_second_left
unfolding ◌+ᶠ◌ ◌*ᶠ◌ neg_f of_int inv_f gcd bits size
keeping_batch_1 = (
  refl,
  refl,
  keeping_second_left,
  record { basis = refl; fresh = keeping_fresh_second; weights = refl; count = refl; rows = refl },
  (refl, tt),
)

keeping_major_1_is : IsMajor keeping keeping_options (starting_state keeping) keeping_major_1
unfolding ◌+ᶠ◌ ◌*ᶠ◌ neg_f of_int inv_f gcd bits size
keeping_major_1_is = record {
  basis = refl;
  fresh = keeping_fresh_first;
  weights = refl;
  count = refl;
  rows = refl;
  batch = keeping_batch_1;
}

keeping_batch_2 : IsBatch keeping 100000 keeping_second (keeping_minor_2 ∷ []) keeping_third_left
unfolding ◌+ᶠ◌ ◌*ᶠ◌ neg_f of_int inv_f gcd bits size
keeping_batch_2 = (
  refl,
  refl,
  keeping_third_left,
  record { basis = refl; fresh = keeping_fresh_third; weights = refl; count = refl; rows = refl },
  (refl, tt),
)

keeping_major_2_is : IsMajor keeping keeping_options keeping_behind_1 keeping_major_2
unfolding ◌+ᶠ◌ ◌*ᶠ◌ neg_f of_int inv_f gcd bits size
keeping_major_2_is = record {
  basis = refl;
  fresh = keeping_fresh_second;
  weights = refl;
  count = refl;
  rows = refl;
  batch = keeping_batch_2;
}

keeping_batch_3 : IsBatch keeping 100000 keeping_third (keeping_minor_3 ∷ []) keeping_fourth_left
unfolding ◌+ᶠ◌ ◌*ᶠ◌ neg_f of_int inv_f gcd bits size
keeping_batch_3 = (
  refl,
  refl,
  keeping_fourth_left,
  record { basis = refl; fresh = keeping_fresh_fourth; weights = refl; count = refl; rows = refl },
  (refl, tt),
)

keeping_major_3_is : IsMajor keeping keeping_options keeping_behind_2 keeping_major_3
unfolding ◌+ᶠ◌ ◌*ᶠ◌ neg_f of_int inv_f gcd bits size
keeping_major_3_is = record {
  basis = refl;
  fresh = keeping_fresh_third;
  weights = refl;
  count = refl;
  rows = refl;
  batch = keeping_batch_3;
}

-- each is due
keeping_due_1 : IsDue keeping keeping_options 1 Full (starting_state keeping) keeping_major_1
unfolding ◌+ᶠ◌ ◌*ᶠ◌ neg_f of_int inv_f gcd bits size
keeping_due_1 = record {
  numbered = refl;
  in_mode = refl;
  major = keeping_major_1_is;
  infeasible = not_empty _ _;
  below_limit = λ e. omega arith;
}

keeping_due_2 : IsDue keeping keeping_options 2 Full keeping_behind_1 keeping_major_2
unfolding ◌+ᶠ◌ ◌*ᶠ◌ neg_f of_int inv_f gcd bits size
keeping_due_2 = record {
  numbered = refl;
  in_mode = refl;
  major = keeping_major_2_is;
  infeasible = not_empty _ _;
  below_limit = λ e. omega arith;
}

keeping_due_3 : IsDue keeping keeping_options 3 Full keeping_behind_2 keeping_major_3
unfolding ◌+ᶠ◌ ◌*ᶠ◌ neg_f of_int inv_f gcd bits size
keeping_due_3 = record {
  numbered = refl;
  in_mode = refl;
  major = keeping_major_3_is;
  infeasible = not_empty _ _;
  below_limit = λ e. omega arith;
}

-- the walk from its end back, since each part is checked on its own
keeping_walk_4 : IsWalk keeping keeping_options 4 Full keeping_end [] (WalkOptimal keeping_end)
unfolding ◌+ᶠ◌ ◌*ᶠ◌ neg_f of_int inv_f gcd
keeping_walk_4 = (refl, (keeping_fourth_fresh, keeping_fresh_fourth, refl))

keeping_walk_3 : IsWalk keeping keeping_options 3 Full keeping_behind_2 (keeping_major_3 ∷ []) (WalkOptimal keeping_end)
unfolding ◌+ᶠ◌ ◌*ᶠ◌ neg_f of_int inv_f gcd bits size add_fits mul_fits add_outcome mul_outcome sub_outcome div_outcome elimination_script forward_script backward_script pivot
keeping_walk_3 = (keeping_due_3, keeping_walk_4)

keeping_walk_2 : IsWalk keeping keeping_options 2 Full keeping_behind_1 (keeping_major_2 ∷ keeping_major_3 ∷ []) (WalkOptimal keeping_end)
unfolding ◌+ᶠ◌ ◌*ᶠ◌ neg_f of_int inv_f gcd bits size add_fits mul_fits add_outcome mul_outcome sub_outcome div_outcome elimination_script forward_script backward_script pivot
keeping_walk_2 = (keeping_due_2, keeping_walk_3)

keeping_walk_1 : IsWalk keeping keeping_options 1 Full (starting_state keeping) keeping_majors (WalkOptimal keeping_end)
unfolding ◌+ᶠ◌ ◌*ᶠ◌ neg_f of_int inv_f gcd bits size add_fits mul_fits add_outcome mul_outcome sub_outcome div_outcome elimination_script forward_script backward_script pivot
keeping_walk_1 = (keeping_due_1, keeping_walk_2)

pub keeping_run : IsRun keeping keeping_options keeping_record keeping_answer
unfolding ◌+ᶠ◌ ◌*ᶠ◌ neg_f of_int inv_f gcd bits size add_fits mul_fits add_outcome mul_outcome sub_outcome div_outcome elimination_script forward_script backward_script pivot
keeping_run =
    in_phase_two keeping_first_fresh keeping_majors (WalkOptimal keeping_end) keeping_answer
    keeping_fresh_first refl (dual_feasible_by_tests keeping refl refl) keeping_walk_1 (keeping_fourth_fresh, keeping_fresh_fourth, refl)

-- a new elimination before the second major
pub keeping_anew : unfit (elimination keeping keeping_second_basis.head) ≡ Some keeping_unfit
unfolding ◌+ᶠ◌ ◌*ᶠ◌ neg_f of_int inv_f gcd add_fits mul_fits add_outcome mul_outcome sub_outcome div_outcome elimination_script pivot
keeping_anew = refl

-- ---- the text

pub keeping_written : text (run_lines keeping_named keeping_options keeping_record keeping_answer) ≡ keeping_text
unfolding ◌+ᶠ◌ ◌*ᶠ◌ neg_f of_int inv_f gcd bits size add_fits mul_fits add_outcome mul_outcome sub_outcome div_outcome elimination_script forward_script backward_script pivot printed digits
keeping_written = refl
