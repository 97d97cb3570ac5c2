-- The texts that a run writes.
use Rattle.std.specs.Prelude.{ℕ, Bool, List, [], ◌∷◌, ◌++◌, Option, None, Some, codes, decimal, if◌then◌else◌}
use Rattle.std.specs.List.{flat_map}
use Rattle.pami_algebra.specs.Fraction.{Fraction}
use Rattle.pami_linear.specs.Lists.{get}
use Rattle.pami_frac.specs.Printed.{printed}
use Rattle.pami_model.specs.declared.fault.FileFault.{FileFault}
use Rattle.pami_model.specs.KindWords.{kind_word}
use Rattle.pami_model.specs.Contents.{Contents}
use Rattle.pami_theory.specs.Basis.{Basis, stand_at}
use Rattle.pami_method.specs.Phases.{Record, Answer, Optimal, Infeasible, DualInfeasible, Limit, Overflow}
use Rattle.pami_lines.specs.Line.{line, text}
use Rattle.pami_lines.specs.Words.{operation_word}
use Rattle.pami_lines.specs.Head.{head_lines}
use Rattle.pami_lines.specs.Names.{variable_word}
use Rattle.pami_lines.specs.Letters.{basis_line}
use Rattle.pami_lines.specs.Certificate.{optimal_lines, dual_infeasible_lines, answer_line, certificate_of}
use Rattle.pami_text.specs.Record.{run_lines}
use Rattle.pami_log.specs.declared.event.Event.{Event}
use Rattle.pami_model_form.specs.Named.{names_of, counts_of, named_of}
use Rattle.pami_log.specs.Events.{event_lines}
use Rattle.pami_cert.specs.declared.cert.CertFault.{CertFault}
use Rattle.pami_cert.specs.CertKinds.{cert_kind_word}
use Rattle.pami_check.specs.declared.verdict.Verdict.{Verdict}
use Rattle.pami_check.specs.declared.verdict.Verdict.TheVariants.{Valid, Invalid, Refused}
use Rattle.pami_check.specs.ConditionWords.{condition_word}
use Rattle.pami_range.specs.RangeLines.{range_lines}
use Rattle.pami_cli.specs.declared.wish.Wish.{Wish}

-- ---- solve

-- the lines of the ranges, which stand behind an optimal answer where they are wanted
abbrev pub ranges_behind : Contents → Bool → Answer → List (List (List ℕ))
ranges_behind c wanted (Optimal st s) = if wanted then range_lines c st.basis s else []
ranges_behind c wanted (Infeasible y) = []
ranges_behind c wanted (DualInfeasible st s) = []
ranges_behind c wanted (Limit st) = []
ranges_behind c wanted (Overflow refused) = []

-- the text of a run
abbrev pub run_text : Contents → Wish → Record → Answer → List ℕ
run_text c w told answer = text (run_lines (named_of c) w.options told answer ++ ranges_behind c w.ranging answer)

-- the first lines of a run, up to its answer, from the events that are told of it
abbrev pub begun_text : Contents → List Event → List ℕ
begun_text c events =
    text (head_lines (counts_of c)) ++ flat_map (λ (e : Event). text (event_lines (names_of c) (counts_of c) e)) events

-- the last lines of a run: values and reduced costs by variable with the basis that they are solved at
abbrev pub optimal_text : Contents → (values reduced : List Fraction) → Basis → List ℕ
optimal_text c values reduced b =
    text (answer_line (codes "optimal" ∷ []) ∷ (optimal_lines (certificate_of (named_of c) (get values) (get reduced)) ++ basis_line (counts_of c) (stand_at b) ∷ []))

-- the same at the limit: the count of pivots, and the basis
abbrev pub limit_text : Contents → ℕ → Basis → List ℕ
limit_text c count b = text (answer_line (codes "limit" ∷ decimal count ∷ []) ∷ basis_line (counts_of c) (stand_at b) ∷ [])

-- a direction, by variable, along which the cost falls without end
abbrev pub dual_infeasible_text : Contents → List Fraction → List ℕ
dual_infeasible_text c z = text (answer_line (codes "dual-infeasible" ∷ []) ∷ dual_infeasible_lines (named_of c) z)

-- ---- check

-- what a condition speaks of; a dash for the whole certificate
abbrev pub subject_word : Contents → Option ℕ → List ℕ
subject_word c None = codes "-"
subject_word c (Some v) = variable_word (names_of c) v

abbrev pub verdict_line : Contents → Verdict → List (List ℕ)
verdict_line c Valid = codes "valid" ∷ []
verdict_line c (Invalid condition v) = codes "invalid" ∷ condition_word condition ∷ subject_word c v ∷ []
verdict_line c (Refused condition v r) =
    codes "unchecked" ∷ condition_word condition ∷ subject_word c v ∷ operation_word r.op ∷ printed r.left ∷ printed r.right ∷ []

abbrev pub verdict_text : Contents → Verdict → List ℕ
verdict_text c v = line (verdict_line c v)

-- a text that is no certificate: the line and the kind of its first fault
abbrev pub malformed_text : CertFault → List ℕ
malformed_text fault = line (codes "malformed" ∷ decimal fault.line ∷ cert_kind_word fault.kind ∷ [])

-- ---- what may take the place of either

abbrev pub bad_words_text : List ℕ
bad_words_text = codes "bad words\n"

-- a file that is refused: the line and the kind of its first fault
abbrev pub refused_text : FileFault → List ℕ
refused_text fault = line (codes "refused" ∷ decimal fault.line ∷ kind_word fault.kind ∷ [])

-- a model with a width that doesn't fit: the variable, in no line of the file
abbrev pub wide_text : Contents → ℕ → List ℕ
wide_text c v = line (codes "refused" ∷ decimal 0 ∷ codes "width" ∷ variable_word (names_of c) v ∷ [])

abbrev pub read_fault_text : List ℕ
read_fault_text = codes "read fault\n"
