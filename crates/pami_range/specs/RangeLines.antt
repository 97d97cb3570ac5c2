-- The lines of ranges in the text of a run.
use Rattle.std.specs.Prelude.{ℕ, suc, List, [], ◌∷◌, ◌++◌, Option, None, Some, codes, slice_index_or}
use Rattle.pami_algebra.specs.Operations.{neg_f}
use Rattle.pami_frac.specs.Printed.{printed}
use Rattle.pami_model.specs.declared.model.Sense.{Sense}
use Rattle.pami_model.specs.declared.model.Sense.TheVariants.{Min, Max}
use Rattle.pami_model.specs.Contents.{Contents}
use Rattle.pami_model_form.specs.ModelForm.{model_form}
use Rattle.pami_model_form.specs.Named.{names_of}
use Rattle.pami_lines.specs.Names.{Names, variable_word}
use Rattle.pami_theory.specs.Basis.{Basis}
use Rattle.pami_theory.specs.Fresh.{Fresh}
use Rattle.pami_theory.specs.declared.words.Side.{Side}
use Rattle.pami_theory.specs.declared.words.Side.TheVariants.{Above, Below}
use Rattle.pami_range.specs.declared.span.End.{End}
use Rattle.pami_range.specs.declared.span.End.TheVariants.{Infinite, At, Wide}
use Rattle.pami_range.specs.declared.span.Span.{Span}
use Rattle.pami_range.specs.Scripts.{cost_spans, bound_spans}

-- ---- one line

-- the word of the low end, Below, or of the high one, Above
abbrev pub end_word : Side → End → List ℕ
end_word Below Infinite = codes "-inf"
end_word Above Infinite = codes "inf"
end_word side (At value) = printed value
end_word side (Wide refused) = codes "wide"

-- the kind of a range, what it is of, and its ends
abbrev pub range_line : List ℕ → List ℕ → Span → List (List ℕ)
range_line kind name span = codes "range" ∷ kind ∷ name ∷ end_word Below span.low ∷ end_word Above span.high ∷ []

-- ---- costs

abbrev pub negated_end : End → End
negated_end Infinite = Infinite
negated_end (At value) = At (neg_f value)
negated_end (Wide refused) = Wide refused

-- a cost's span in the file's own sense: of a maximum the negated costs are made small, so that the span is negated and its
-- ends change places
abbrev pub span_of_file : Sense → Span → Span
span_of_file Min span = span
span_of_file Max span = record { low = negated_end span.high; high = negated_end span.low }

-- the lines of these columns' costs, of column j and those behind it
abbrev pub cost_lines : Sense → List (List ℕ) → ℕ → List Span → List (List (List ℕ))
cost_lines sense names j [] = []
cost_lines sense names j (span ∷ spans) =
    range_line (codes "cost") (slice_index_or names j []) (span_of_file sense span) ∷ cost_lines sense names (suc j) spans

-- ---- bounds

-- a variable that stands at no bound has no line
abbrev pub bound_line : Names → ℕ → Option Span → List (List (List ℕ))
bound_line n v None = []
bound_line n v (Some span) = range_line (codes "bound") (variable_word n v) span ∷ []

-- the lines of the bounds of variable v and of those behind it
abbrev pub bound_lines : Names → ℕ → List (Option Span) → List (List (List ℕ))
bound_lines n v [] = []
bound_lines n v (span ∷ spans) = bound_line n v span ++ bound_lines n (suc v) spans

-- ---- all of them

-- the ranges of these costs, by column, and of these bounds, by variable
abbrev pub lines_of_spans : Contents → List Span → List (Option Span) → List (List (List ℕ))
lines_of_spans c costs bounds = cost_lines c.sense (names_of c).columns 0 costs ++ bound_lines (names_of c) 0 bounds

-- the ranges of a model's costs and bounds at a basis where s is solved
abbrev pub range_lines : Contents → Basis → Fresh → List (List (List ℕ))
range_lines c b s = lines_of_spans c (cost_spans (model_form c) b s) (bound_spans (model_form c) b s)
