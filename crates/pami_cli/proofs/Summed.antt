-- The summary of a run's lines is told by its events and by its answer alone.
use Rattle.std.proofs.Common.{◌≡◌, ℕ, suc, ◌+◌, false, List, [], ◌∷◌, ◌++◌, length, map, codes, decimal, refl, sym, ap, ◌∙◌, arith, append_assoc}
use Rattle.std.specs.List.{flat_map}
use Rattle.std.specs.Str.{bytes_eq}
use Rattle.pami_algebra.specs.Fraction.{Fraction}
use Rattle.pami_linear.specs.Lists.{get}
use Rattle.pami_theory.specs.Basis.{stand_at}
use Rattle.pami_method.specs.declared.words.Options.{Options}
use Rattle.pami_method.specs.Phases.{Record, Answer, Optimal, Infeasible, DualInfeasible, Limit, Overflow}
use Rattle.pami_lines.specs.Line.{line, text}
use Rattle.pami_lines.specs.Head.{Counts, head_lines}
use Rattle.pami_lines.specs.Names.{Names}
use Rattle.pami_lines.specs.Letters.{basis_line}
use Rattle.pami_lines.specs.Certificate.{Named, Valued, valued_line, certificate_of, optimal_lines, named_lines, dual_infeasible_lines}
use Rattle.pami_lines.proofs.Texts.{text_one}
use Rattle.pami_text.specs.Record.{answer_lines, run_lines}
use Rattle.pami_log.specs.declared.event.Move.{Move}
use Rattle.pami_log.specs.declared.event.Move.TheVariants as moves
use Rattle.pami_log.specs.declared.event.Event.{Event}
use Rattle.pami_log.specs.declared.event.Event.TheVariants as events
use Rattle.pami_log.specs.Events.{move_line, event_lines}
use Rattle.pami_phase.specs.Runs.{record_events}
use Rattle.pami_model.specs.Contents.{Contents}
use Rattle.pami_model_form.specs.Named.{names_of, counts_of, named_of}
use Rattle.pami_cli.specs.Summary.{begins, count_lines, told_behind, outcome_line, counts_line}
use Rattle.pami_cli.proofs.FirstWords.{Lacks, lacks_more, lacks_map, lacks_flat, count_more, count_lacking, told_past, told_lacking}
use Rattle.pami_cli.proofs.Told.{run_lines_are}

-- ---- what stands before an answer

-- a word that no line before an answer begins with
pub record IsLate (w : List ℕ) : Type 0 where
  pub pami : bytes_eq (codes "pami") w ≡ false
  pub model : bytes_eq (codes "model") w ≡ false
  pub phase : bytes_eq (codes "phase") w ≡ false
  pub major : bytes_eq (codes "major") w ≡ false
  pub rollback : bytes_eq (codes "rollback") w ≡ false
  pub drop : bytes_eq (codes "drop") w ≡ false
  pub flip : bytes_eq (codes "flip") w ≡ false
  pub pivot : bytes_eq (codes "pivot") w ≡ false
  pub none : bytes_eq (codes "none") w ≡ false

answer_late : IsLate (codes "answer")
answer_late = record { pami = refl; model = refl; phase = refl; major = refl; rollback = refl; drop = refl; flip = refl; pivot = refl; none = refl }

objective_late : IsLate (codes "objective")
objective_late = record { pami = refl; model = refl; phase = refl; major = refl; rollback = refl; drop = refl; flip = refl; pivot = refl; none = refl }

module _ (w : List ℕ) (late : IsLate w) (n : Names) (counts : Counts) where
  move_lacks : (m : Move) → begins w (move_line n m) ≡ false
  move_lacks (moves.Dropped place) = late.drop
  move_lacks (moves.Flipped variable stand) = late.flip
  move_lacks (moves.Pivoted count place leaving side entering tau) = late.pivot
  move_lacks (moves.Stuck place leaving side) = late.none

  event_lacks : (e : Event) → Lacks w (event_lines n counts e)
  event_lacks events.Header = (late.pami, (late.model, tt))
  event_lacks (events.Phase phase) = (late.phase, tt)
  event_lacks (events.Major number mode chosen told) = (late.major, lacks_map w (move_line n) move_lacks told)
  event_lacks (events.Rollback number place) = (late.rollback, tt)

  events_lack : (es : List Event) → Lacks w (flat_map (event_lines n counts) es)
  events_lack es = lacks_flat w (event_lines n counts) event_lacks es

  heads_lack : Lacks w (head_lines counts)
  heads_lack = (late.pami, (late.model, tt))

-- ---- an answer and what stands behind it

-- a word that no line of an answer begins with, but for that of its objective
pub record IsEarly (w : List ℕ) : Type 0 where
  pub answer : bytes_eq (codes "answer") w ≡ false
  pub certificate : bytes_eq (codes "certificate") w ≡ false
  pub column : bytes_eq (codes "x") w ≡ false
  pub row : bytes_eq (codes "r") w ≡ false
  pub last : bytes_eq (codes "end") w ≡ false
  pub basis : bytes_eq (codes "basis") w ≡ false

-- a word that neither a line of an answer nor one of the head begins with
pub record IsCounted (w : List ℕ) : Type 0 where
  pub early : IsEarly w
  pub objective : bytes_eq (codes "objective") w ≡ false
  pub pami : bytes_eq (codes "pami") w ≡ false
  pub model : bytes_eq (codes "model") w ≡ false

objective_early : IsEarly (codes "objective")
objective_early = record { answer = refl; certificate = refl; column = refl; row = refl; last = refl; basis = refl }

pivot_counted : IsCounted (codes "pivot")
pivot_counted = record { early = record { answer = refl; certificate = refl; column = refl; row = refl; last = refl; basis = refl }; objective = refl; pami = refl; model = refl }

major_counted : IsCounted (codes "major")
major_counted = record { early = record { answer = refl; certificate = refl; column = refl; row = refl; last = refl; basis = refl }; objective = refl; pami = refl; model = refl }

flip_counted : IsCounted (codes "flip")
flip_counted = record { early = record { answer = refl; certificate = refl; column = refl; row = refl; last = refl; basis = refl }; objective = refl; pami = refl; model = refl }

rollback_counted : IsCounted (codes "rollback")
rollback_counted = record { early = record { answer = refl; certificate = refl; column = refl; row = refl; last = refl; basis = refl }; objective = refl; pami = refl; model = refl }

named_lack : (w tag : List ℕ) → bytes_eq tag w ≡ false → (v : ℕ) (names : List (List ℕ)) (x : ℕ → Fraction) → Lacks w (named_lines tag v names x)
named_lack w tag h v [] x = tt
named_lack w tag h v (name ∷ names) x = (h, named_lack w tag h (suc v) names x)

module _ (w : List ℕ) (early : IsEarly w) (m : Named) where
  infeasible_lack : (y : List Fraction) → Lacks w (answer_lines m (Infeasible y))
  infeasible_lack y = (
    early.answer,
    (
      early.certificate,
      lacks_more w (named_lines (codes "r") 0 m.names.rows (get y)) ((codes "end" ∷ []) ∷ []) (named_lack w (codes "r") early.row 0 m.names.rows (get y)) (early.last, tt),
    ),
  )

  direction_lack : (z : List Fraction) → Lacks w (dual_infeasible_lines m z)
  direction_lack z =
      let rows = named_lines (codes "r") (length m.names.columns) m.names.rows (get z) in (
        early.certificate,
        lacks_more w (named_lines (codes "x") 0 m.names.columns (get z)) (rows ++ (codes "end" ∷ []) ∷ [])
            (named_lack w (codes "x") early.column 0 m.names.columns (get z))
            (lacks_more w rows ((codes "end" ∷ []) ∷ []) (named_lack w (codes "r") early.row (length m.names.columns) m.names.rows (get z)) (early.last, tt)),
      )

  optimal_lack : bytes_eq (codes "objective") w ≡ false → (x d : ℕ → Fraction) → Lacks w (optimal_lines (certificate_of m x d))
  optimal_lack objective x d =
      let o = certificate_of m x d in
      let rows = map (valued_line (codes "r")) o.rows in (
        early.certificate,
        (
          objective,
          lacks_more w (map (valued_line (codes "x")) o.columns) (rows ++ (codes "end" ∷ []) ∷ [])
              (lacks_map w (valued_line (codes "x")) (λ (v : Valued). early.column) o.columns)
              (lacks_more w rows ((codes "end" ∷ []) ∷ []) (lacks_map w (valued_line (codes "r")) (λ (v : Valued). early.row) o.rows) (early.last, tt)),
        ),
      )

  -- the lines of any answer
  pub answers_lack : (a : Answer) → bytes_eq (codes "objective") w ≡ false → Lacks w (answer_lines m a)
  answers_lack (Optimal st s) objective = (
    early.answer,
    lacks_more w (optimal_lines (certificate_of m (get s.values) (get s.reduced))) (basis_line m.counts (stand_at st.basis) ∷ [])
        (optimal_lack objective (get s.values) (get s.reduced)) (early.basis, tt),
  )
  answers_lack (Infeasible y) objective = infeasible_lack y
  answers_lack (DualInfeasible st s) objective = (early.answer, direction_lack s.values)
  answers_lack (Limit st) objective = (early.answer, (early.basis, tt))
  answers_lack (Overflow r) objective = (early.answer, tt)

-- ---- objectives

-- an answer that isn't optimal tells none
pub infeasible_tells : (m : Named) (y : List Fraction) → told_behind (codes "objective") (answer_lines m (Infeasible y)) ≡ codes "-"
infeasible_tells m y = told_lacking (codes "objective") (answer_lines m (Infeasible y)) (infeasible_lack (codes "objective") objective_early m y)

pub direction_tells : (m : Named) (z : List Fraction) → told_behind (codes "objective") (dual_infeasible_lines m z) ≡ codes "-"
direction_tells m z = told_lacking (codes "objective") (dual_infeasible_lines m z) (direction_lack (codes "objective") objective_early m z)

-- ---- the lines of a run

module _ (c : Contents) (o : Options) (r : Record) (answer : Answer) (es : List Event) (whole : record_events o r ≡ es) where
  abbrev heads : List (List (List ℕ))
  heads = head_lines (counts_of c)

  abbrev told : List (List (List ℕ))
  told = flat_map (event_lines (names_of c) (counts_of c)) es

  abbrev last : List (List (List ℕ))
  last = answer_lines (named_of c) answer

  -- what an answer's lines tell is told by its answer
  answer_tells : (w : List ℕ) → IsLate w → told_behind w (run_lines (named_of c) o r answer) ≡ told_behind w last
  answer_tells w late =
      ap (told_behind w) (sym (run_lines_are c o r answer es whole))
      ∙ told_past w heads (told ++ last) (heads_lack w late (names_of c) (counts_of c))
      ∙ told_past w told last (events_lack w late (names_of c) (counts_of c) es)

  -- and the events have all lines that are counted
  events_count : (w : List ℕ) → IsCounted w → count_lines w (run_lines (named_of c) o r answer) ≡ count_lines w told
  events_count w k =
      let before : count_lines w heads ≡ 0 = count_lacking w heads (k.pami, (k.model, tt)) in
      let behind : count_lines w last ≡ 0 = count_lacking w last (answers_lack w k.early (named_of c) answer k.objective) in
      let one : count_lines w (heads ++ (told ++ last)) ≡ count_lines w heads + count_lines w (told ++ last) = count_more w heads (told ++ last) in
      let two : count_lines w (told ++ last) ≡ count_lines w told + count_lines w last = count_more w told last in
      let all : count_lines w (heads ++ (told ++ last)) ≡ count_lines w told = omega (arith, before, behind, one, two) in
      ap (count_lines w) (sym (run_lines_are c o r answer es whole)) ∙ all

  outcome_is : codes "answer" ∷ told_behind (codes "answer") last ∷ codes "objective" ∷ told_behind (codes "objective") last ∷ []
      ≡ outcome_line (run_lines (named_of c) o r answer)
  outcome_is =
      ap (λ (z : List ℕ). codes "answer" ∷ z ∷ codes "objective" ∷ told_behind (codes "objective") last ∷ []) (sym (answer_tells (codes "answer") answer_late))
      ∙ ap (λ (z : List ℕ). codes "answer" ∷ told_behind (codes "answer") (run_lines (named_of c) o r answer) ∷ codes "objective" ∷ z ∷ [])
      (sym (answer_tells (codes "objective") objective_late))

  abbrev counts_by : (pivots majors flips rollbacks : ℕ) → List (List ℕ)
  counts_by pivots majors flips rollbacks =
      codes "pivots" ∷ decimal pivots ∷ codes "majors" ∷ decimal majors ∷ codes "flips" ∷ decimal flips ∷ codes "rollbacks" ∷ decimal rollbacks ∷ []

  counts_are : counts_by (count_lines (codes "pivot") told) (count_lines (codes "major") told) (count_lines (codes "flip") told) (count_lines (codes "rollback") told)
      ≡ counts_line (run_lines (named_of c) o r answer)
  counts_are =
      let all = run_lines (named_of c) o r answer in
      ap (λ (z : ℕ). counts_by z (count_lines (codes "major") told) (count_lines (codes "flip") told) (count_lines (codes "rollback") told))
      (sym (events_count (codes "pivot") pivot_counted))
      ∙ ap (λ (z : ℕ). counts_by (count_lines (codes "pivot") all) z (count_lines (codes "flip") told) (count_lines (codes "rollback") told))
      (sym (events_count (codes "major") major_counted))
      ∙ ap (λ (z : ℕ). counts_by (count_lines (codes "pivot") all) (count_lines (codes "major") all) z (count_lines (codes "rollback") told))
      (sym (events_count (codes "flip") flip_counted))
      ∙ ap (λ (z : ℕ). counts_by (count_lines (codes "pivot") all) (count_lines (codes "major") all) (count_lines (codes "flip") all) z)
      (sym (events_count (codes "rollback") rollback_counted))

  -- the two lines, one behind the other
  pub summed_up : (before between after : List ℕ)
      → between ≡ before ++ line (codes "answer" ∷ told_behind (codes "answer") last ∷ codes "objective" ∷ told_behind (codes "objective") last ∷ [])
      → after ≡ between ++ line (counts_by (count_lines (codes "pivot") told) (count_lines (codes "major") told) (count_lines (codes "flip") told) (count_lines (codes "rollback") told))
      → after ≡ before ++ text (outcome_line (run_lines (named_of c) o r answer) ∷ counts_line (run_lines (named_of c) o r answer) ∷ [])
  summed_up before between after h k =
      let all = run_lines (named_of c) o r answer in
      k ∙ ap (λ (z : List (List ℕ)). between ++ line z) counts_are
      ∙ ap (λ (z : List ℕ). z ++ line (counts_line all)) (h ∙ ap (λ (z : List (List ℕ)). before ++ line z) outcome_is)
      ∙ append_assoc before (line (outcome_line all)) (line (counts_line all))
      ∙ ap (λ (z : List ℕ). before ++ (line (outcome_line all) ++ z)) (sym (text_one (counts_line all)))

-- ---- the words of a summary

pub outcome_joined : (o x1 x2 x3 x4 x5 word objective : List ℕ) → x1 ≡ o ++ codes "answer" → x2 ≡ x1 ++ 32 ∷ word → x3 ≡ x2 ++ 32 ∷ codes "objective"
    → x4 ≡ x3 ++ 32 ∷ objective → x5 ≡ x4 ++ 10 ∷ [] → x5 ≡ o ++ line (codes "answer" ∷ word ∷ codes "objective" ∷ objective ∷ [])
outcome_joined o x1 x2 x3 x4 x5 word objective h i j k l =
    let a : List ℕ = codes "answer" in
    let b : List ℕ = codes "objective" in
    let all : x5 ≡ o ++ (a ++ (32 ∷ (word ++ (32 ∷ (b ++ (32 ∷ (objective ++ (10 ∷ [])))))))) = simp (l, k, j, i, h, append_assoc) in all

eight_joined : (o x1 x2 x3 x4 x5 p a m b f c r d e : List ℕ) → x1 ≡ o ++ (p ++ a) → x2 ≡ x1 ++ (m ++ b) → x3 ≡ x2 ++ (f ++ c) → x4 ≡ x3 ++ (r ++ d) → x5 ≡ x4 ++ e
    → x5 ≡ o ++ (p ++ (a ++ (m ++ (b ++ (f ++ (c ++ (r ++ (d ++ e))))))))
eight_joined o x1 x2 x3 x4 x5 p a m b f c r d e h i j k l = simp (l, k, j, i, h, append_assoc)

pub counts_joined : (o x1 x2 x3 x4 x5 a b c d : List ℕ) → x1 ≡ o ++ (codes "pivots" ++ 32 ∷ a) → x2 ≡ x1 ++ (codes " majors" ++ 32 ∷ b)
    → x3 ≡ x2 ++ (codes " flips" ++ 32 ∷ c) → x4 ≡ x3 ++ (codes " rollbacks" ++ 32 ∷ d) → x5 ≡ x4 ++ 10 ∷ []
    → x5 ≡ o ++ line (codes "pivots" ∷ a ∷ codes "majors" ∷ b ∷ codes "flips" ∷ c ∷ codes "rollbacks" ∷ d ∷ [])
counts_joined o x1 x2 x3 x4 x5 a b c d h i j k l =
    eight_joined o x1 x2 x3 x4 x5 (codes "pivots") (32 ∷ a) (codes " majors") (32 ∷ b) (codes " flips") (32 ∷ c) (codes " rollbacks") (32 ∷ d) (10 ∷ []) h i j k l
