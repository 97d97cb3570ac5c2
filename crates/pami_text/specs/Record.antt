-- The text of a run: its majors with their drops, flips and pivots, and its answer with what proves it.
use Rattle.std.specs.Prelude.{ℕ, suc, List, [], ◌∷◌, ◌++◌, map, Option, None, Some, codes, decimal}
use Rattle.std.specs.List.{flat_map}
use Rattle.pami_frac.specs.Printed.{printed}
use Rattle.pami_linear.specs.Lists.{get}
use Rattle.pami_theory.specs.Form.{Form}
use Rattle.pami_theory.specs.Basis.{Basis, head_at, stand_at}
use Rattle.pami_theory.specs.Step.{Step, flipped, stand_on}
use Rattle.pami_method.specs.declared.words.Place.{Place}
use Rattle.pami_method.specs.declared.words.Spot.{Spot}
use Rattle.pami_method.specs.declared.words.Spot.TheVariants.{Start, Choose, Factor, Backward, Row, Price, Ratio, Step as StepSpot, Reach, Shift, Column, Flips, Transform, Values, Switch}
use Rattle.pami_method.specs.Batch.{Reached, Minor, Turn, AtLimit, NoRow, Stuck, Pivots, turn, places}
use Rattle.pami_method.specs.declared.words.Mode.{Mode}
use Rattle.pami_method.specs.declared.words.Mode.TheVariants.{Full, Single}
use Rattle.pami_method.specs.declared.words.Options.{Options}
use Rattle.pami_method.specs.Walk.{State, Major, After, Ends, GoesOn, refused_in, after}
use Rattle.pami_method.specs.Phases.{Phase, Record, Answer, Optimal, Infeasible, DualInfeasible, Limit, Overflow}
use Rattle.pami_lines.specs.Words.{dashed, operation_word}
use Rattle.pami_lines.specs.Head.{head_lines, phase_line}
use Rattle.pami_lines.specs.Names.{Names, variable_word}
use Rattle.pami_lines.specs.Letters.{letter_word, basis_line}
use Rattle.pami_lines.specs.Certificate.{Named, answer_line, certificate_of, optimal_lines, infeasible_lines, dual_infeasible_lines}

-- ---- words

abbrev pub spot_word : Spot → List ℕ
spot_word Start = codes "start"
spot_word Choose = codes "choose"
spot_word Factor = codes "factor"
spot_word (Backward p) = dashed (codes "backward") (p ∷ [])
spot_word (Row k) = dashed (codes "row") (k ∷ [])
spot_word (Price k t) = dashed (codes "price") (k ∷ t ∷ [])
spot_word (Ratio k) = dashed (codes "ratio") (k ∷ [])
spot_word (StepSpot k) = dashed (codes "step") (k ∷ [])
spot_word (Reach k p) = dashed (codes "reach") (k ∷ p ∷ [])
spot_word (Shift k t) = dashed (codes "shift") (k ∷ t ∷ [])
spot_word (Column k) = dashed (codes "column") (k ∷ [])
spot_word Flips = codes "flips"
spot_word (Transform k) = dashed (codes "transform") (k ∷ [])
spot_word Values = codes "values"
spot_word Switch = codes "switch"

abbrev pub refused_words : Place → List (List ℕ)
refused_words r = spot_word r.task ∷ operation_word r.refused.op ∷ printed r.refused.left ∷ printed r.refused.right ∷ []

abbrev pub mode_word : Mode → List ℕ
mode_word Full = codes "full"
mode_word Single = codes "single"

-- ---- a major, each line as its words

abbrev pub drop_lines : List ℕ → List (List (List ℕ))
drop_lines dropped = map (λ p. codes "drop" ∷ decimal p ∷ []) dropped

-- each flip with the variable's new letter
abbrev pub flip_lines : Names → Basis → List ℕ → List (List (List ℕ))
flip_lines n b flips = map (λ v. codes "flip" ∷ variable_word n v ∷ letter_word (flipped (stand_at b v)) ∷ []) flips

-- the count of kept pivots, the place, the leaving variable with its letter, the entering one, the dual step length
abbrev pub pivot_line : Names → ℕ → Step → List (List ℕ)
pivot_line n count t =
    codes "pivot" ∷ decimal count ∷ decimal t.place ∷ variable_word n t.leaving ∷ letter_word (stand_on t.side) ∷ variable_word n t.entering ∷ printed t.tau ∷ []

abbrev pub minor_lines : Names → Minor → List (List (List ℕ))
minor_lines n m = drop_lines m.dropped ++ (flip_lines n m.reached.basis m.step.flips ++ pivot_line n (suc m.reached.count) m.step ∷ [])

-- the turn that ends a batch
abbrev pub last_lines : Names → Reached → Turn → List (List (List ℕ))
last_lines n r AtLimit = []
last_lines n r (NoRow dropped) = drop_lines dropped
last_lines n r (Stuck dropped row) = drop_lines dropped ++ (codes "none" ∷ decimal row.place ∷ variable_word n (head_at r.basis row.place) ∷ []) ∷ []
last_lines n r (Pivots dropped row step) = []

abbrev pub major_line : Major → List (List ℕ)
major_line g = codes "major" ∷ decimal g.number ∷ mode_word g.mode ∷ map decimal (places g.first.rows)

-- a Full major that was refused leaves a line, a Single one that was refused leaves none
abbrev pub refused_lines : ℕ → Mode → Place → List (List (List ℕ))
refused_lines number Full r = (codes "rollback" ∷ decimal number ∷ refused_words r) ∷ []
refused_lines number Single r = []

abbrev pub major_lines : Names → Form → ℕ → Major → Option Place → List (List (List ℕ))
major_lines n f limit g (Some r) = refused_lines g.number g.mode r
major_lines n f limit g None = major_line g ∷ (flat_map (minor_lines n) g.minors ++ last_lines n g.last (turn f limit g.last))

-- ---- a walk

abbrev pub lines_after : After → (State → List (List (List ℕ))) → List (List (List ℕ))
lines_after (Ends end) later = []
lines_after (GoesOn mode st) later = later st

abbrev pub walk_lines : Names → Form → Options → State → List Major → List (List (List ℕ))
walk_lines n f o st [] = []
walk_lines n f o st (g ∷ gs) = major_lines n f o.limit g (refused_in f o st g) ++ lines_after (after f o st g) (λ next. walk_lines n f o next gs)

abbrev pub phase_lines : Names → Options → ℕ → Option Phase → List (List (List ℕ))
phase_lines n o number None = []
phase_lines n o number (Some p) = phase_line number ∷ walk_lines n p.form o p.start p.majors

-- ---- the answer

abbrev pub answer_lines : Named → Answer → List (List (List ℕ))
answer_lines m (Optimal st s) =
    answer_line (codes "optimal" ∷ []) ∷ (optimal_lines (certificate_of m (get s.values) (get s.reduced)) ++ basis_line m.counts (stand_at st.basis) ∷ [])
answer_lines m (Infeasible y) = answer_line (codes "infeasible" ∷ []) ∷ infeasible_lines m y
answer_lines m (DualInfeasible st s) = answer_line (codes "dual-infeasible" ∷ []) ∷ dual_infeasible_lines m s.values
answer_lines m (Limit st) = answer_line (codes "limit" ∷ decimal st.count ∷ []) ∷ basis_line m.counts (stand_at st.basis) ∷ []
answer_lines m (Overflow r) = answer_line (codes "overflow" ∷ refused_words r) ∷ []

-- ---- the whole text

abbrev pub run_lines : Named → Options → Record → Answer → List (List (List ℕ))
run_lines m o r answer =
    head_lines m.counts ++ (phase_lines m.names o 1 r.phase_one ++ (phase_lines m.names o 2 r.phase_two ++ answer_lines m answer))
