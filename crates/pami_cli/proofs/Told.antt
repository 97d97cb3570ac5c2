-- What a model is answered from the run on its form.
use Rattle.std.proofs.Common.{◌≡◌, ℕ, ◌<◌, inl, inr, List, [], ◌∷◌, ◌++◌, length, Option, None, Some, Result, Ok, Err, refl, sym, ap, ◌∙◌, subst, append_assoc}
use Rattle.std.specs.List.{flat_map}
use Rattle.std.specs.Result.{IfOk, OnOk}
use Rattle.std.proofs.lemmas.Grind.{flat_map-append}
use Rattle.pami_frac.specs.declared.fault.OutOfMemory.{OutOfMemory}
use Rattle.pami_linear.specs.Lists.{get}
use Rattle.pami_model.specs.Contents.{Contents}
use Rattle.pami_theory.specs.Form.{variables, limits, IsUncrossed}
use Rattle.pami_method.specs.declared.words.Options.{Options}
use Rattle.pami_method.specs.Phases.{Phase, Record, Answer, Optimal, Infeasible, DualInfeasible, Limit, Overflow, IsRun}
use Rattle.pami_method.proofs.Answers.{run_holds}
use Rattle.pami_method.proofs.Runs.{run_only}
use Rattle.pami_form.specs.declared.form.Form.{Form as ProgramForm}
use Rattle.pami_form.specs.declared.form.WideBox.{WideBox}
use Rattle.pami_form.specs.Widths.{first_wide}
use Rattle.pami_state.specs.Columns.{HasBounds}
use Rattle.pami_state.proofs.Formed.{has_bounds, variables_are}
use Rattle.pami_form.specs.FormOf.{form_of}
use Rattle.pami_lines.specs.Line.{text}
use Rattle.pami_lines.specs.Head.{Counts, head_lines, phase_line}
use Rattle.pami_lines.specs.Names.{Names}
use Rattle.pami_lines.proofs.Texts.{text_append}
use Rattle.pami_lines.proofs.Objectives.{objective_holds}
use Rattle.pami_text.specs.Record.{phase_lines, answer_lines, run_lines}
use Rattle.pami_log.specs.declared.event.Event.{Event}
use Rattle.pami_log.specs.Events.{event_lines}
use Rattle.pami_log.proofs.Lines.{walk_is}
use Rattle.pami_phase.specs.declared.answer.Answer.{Answer as Solved}
use Rattle.pami_phase.specs.Runs.{phase_events, record_events, IsRunBehind, EndsRun}
use Rattle.pami_model_form.specs.ModelForm.{model_form}
use Rattle.pami_model_form.specs.Named.{names_of, counts_of, named_of}
use Rattle.pami_cli.specs.declared.answer.Answer.{Answer as Answered}
use Rattle.pami_cli.specs.declared.status.Status.{Status}
use Rattle.pami_cli.specs.declared.status.Status.TheVariants as statuses
use Rattle.pami_cli.specs.Text.{begun_text, ranges_behind, run_text, wide_text}
use Rattle.pami_cli.specs.declared.wish.Wish.{Wish}
use Rattle.pami_cli.specs.Solved.{IsTold}
use Rattle.pami_cli.specs.Answer.{HasStatus, HoldsFor, IsCertified, RunsTruly, RunsSoundly, AnswersRun, AnswersModel}

-- ---- texts
-- the texts of events are the text of their lines
text_of_each : (g : Event → List (List (List ℕ))) (es : List Event) → flat_map (λ (e : Event). text (g e)) es ≡ text (flat_map g es)
text_of_each g [] = refl
text_of_each g (e ∷ es) = ap (λ z. text (g e) ++ z) (text_of_each g es) ∙ sym (text_append (g e) (flat_map g es))

-- the events of a phase have its lines
phase_is : (n : Names) (counts : Counts) (o : Options) (k : ℕ) (p : Option Phase) → flat_map (event_lines n counts) (phase_events o k p) ≡ phase_lines n o k p
phase_is n counts o k None = refl
phase_is n counts o k (Some p) = ap (λ z. phase_line k ∷ z) (walk_is n counts p.form o p.start p.majors)

record_is : (n : Names) (counts : Counts) (o : Options) (r : Record) → flat_map (event_lines n counts) (record_events o r) ≡ phase_lines n o 1 r.phase_one ++ phase_lines n o 2 r.phase_two
record_is n counts o r =
    flat_map-append (event_lines n counts) (phase_events o 1 r.phase_one) (phase_events o 2 r.phase_two)
    ∙ ap (λ z. z ++ flat_map (event_lines n counts) (phase_events o 2 r.phase_two)) (phase_is n counts o 1 r.phase_one)
    ∙ ap (λ z. phase_lines n o 1 r.phase_one ++ z) (phase_is n counts o 2 r.phase_two)

-- the lines of a run, by its events
pub run_lines_are : (c : Contents) (o : Options) (r : Record) (answer : Answer) (events : List Event) → record_events o r ≡ events
    → head_lines (counts_of c) ++ (flat_map (event_lines (names_of c) (counts_of c)) events ++ answer_lines (named_of c) answer) ≡ run_lines (named_of c) o r answer
run_lines_are c o r answer events e =
    let heads : List (List (List ℕ)) = head_lines (counts_of c) in
    let one : List (List (List ℕ)) = phase_lines (names_of c) o 1 r.phase_one in
    let two : List (List (List ℕ)) = phase_lines (names_of c) o 2 r.phase_two in
    let last : List (List (List ℕ)) = answer_lines (named_of c) answer in
    ap (λ (z : List (List (List ℕ))). heads ++ (z ++ last))
    (ap (flat_map (event_lines (names_of c) (counts_of c))) (sym e) ∙ record_is (names_of c) (counts_of c) o r)
    ∙ ap (λ (z : List (List (List ℕ))). heads ++ z) (append_assoc one two last)

-- the head, the lines of the events, those of the answer and those of the ranges are the text of the run
run_text_is : (c : Contents) (w : Wish) (r : Record) (answer : Answer) (events : List Event) → record_events w.options r ≡ events
    → (begun_text c events ++ text (answer_lines (named_of c) answer)) ++ text (ranges_behind c w.ranging answer) ≡ run_text c w r answer
run_text_is c w r answer events e =
    let heads : List (List (List ℕ)) = head_lines (counts_of c) in
    let told : List (List (List ℕ)) = flat_map (event_lines (names_of c) (counts_of c)) events in
    let last : List (List (List ℕ)) = answer_lines (named_of c) answer in
    let behind : List (List (List ℕ)) = ranges_behind c w.ranging answer in
    let lines : (text heads ++ text told) ++ text last ≡ text (run_lines (named_of c) w.options r answer) =
    append_assoc (text heads) (text told) (text last)
    ∙ ap (λ (z : List ℕ). text heads ++ z) (sym (text_append told last))
    ∙ sym (text_append heads (told ++ last))
    ∙ ap text (run_lines_are c w.options r answer events e) in
    ap (λ (z : List ℕ). ((text heads ++ z) ++ text last) ++ text behind) (text_of_each (event_lines (names_of c) (counts_of c)) events)
    ∙ ap (λ (z : List ℕ). z ++ text behind) lines
    ∙ sym (text_append (run_lines (named_of c) w.options r answer) behind)

-- ---- certificates
run_answer_holds : (c : Contents) (o : Options) (told : Record) (a : Answer) → ((v : ℕ) → v < variables (model_form c) → IsUncrossed (limits (model_form c) v)) → length (model_form c).bounds ≡ variables (model_form c)
    → IsRun (model_form c) o told a → HoldsFor c a
run_answer_holds c o told (Optimal st s) u l h = record { certificate = run_holds (model_form c) o told (Optimal st s) h u; objective = objective_holds (named_of c) (get s.values) }
run_answer_holds c o told (Infeasible y) u l h = run_holds (model_form c) o told (Infeasible y) h
run_answer_holds c o told (DualInfeasible st s) u l h = run_holds (model_form c) o told (DualInfeasible st s) h l
run_answer_holds c o told (Limit st) u l h = tt
run_answer_holds c o told (Overflow r) u l h = tt

-- ---- a form of the program that is the model's
module _ (c : Contents) (form : ProgramForm) (is : form_of form ≡ model_form c) where
  uncrossed : (v : ℕ) → v < variables (model_form c) → IsUncrossed (limits (model_form c) v)
  uncrossed =
      subst (λ f. (v : ℕ) → v < variables f → IsUncrossed (limits f v)) is
      (λ v l. form.kept.form.uncrossed v (subst (λ n. v < n) (variables_are form.columns form.bounds form.costs form.kept.form) l))

  pub model_bounds : HasBounds (model_form c) form.bounds
  model_bounds = subst (λ f. HasBounds f form.bounds) is (has_bounds form.columns form.bounds form.costs form.kept.form)

  whole : length (model_form c).bounds ≡ variables (model_form c)
  whole = ap length model_bounds.same ∙ model_bounds.by_variable

  pub told_run : (wish : Wish) (status : Status) (written : List ℕ) (answer : Solved) (events : List Event) (t : IsTold (model_form c) wish.options answer events) → HasStatus t.given status
      → written ≡ (begun_text c events ++ text (answer_lines (named_of c) t.given)) ++ text (ranges_behind c wish.ranging t.given) → AnswersRun c wish status written
  told_run wish status written answer events t k e = record {
    told = t.run.record_of;
    answer = t.given;
    run = t.run.run;
    has_status = k;
    written_is = e ∙ run_text_is c wish t.run.record_of t.given events t.run.whole;
  }

  -- the answer of each run of the form holds
  pub runs_truly : (options : Options) → RunsTruly c options
  runs_truly options = λ told a run. run_answer_holds c options told a uncrossed whole run

  -- the form has one run, so what is known of the answer that was told is known of its answer
  pub told_sound : (options : Options) (answer : Solved) (events : List Event) (t : IsTold (model_form c) options answer events) → IsCertified c t.given → RunsSoundly c options
  told_sound options answer events t certified = λ widths told a run.
      let same : t.given ≡ a = (run_only (model_form c) options t.run.record_of told t.given a t.run.run run).1 in
      record {
        holds = runs_truly options told a run;
        certified = subst (IsCertified c) same certified;
      }

  -- the answer of a run whose events were told to an empty list
  pub solved_told : (options : Options) (before told : List Event) (stopped : List Event → Type 0) (n m : ℕ) (answer : Solved) → before ≡ []
      → EndsRun (form_of form) options [] (λ es. before ≡ es) (λ es. told ≡ es) stopped n m (Ok answer) → IsTold (model_form c) options answer told
  solved_told options before told stopped n m answer e (events, a, run, given, goes, k) =
      subst (λ f. IsTold f options answer told) is
      (record { given = a; run = subst (λ es. IsRunBehind (form_of form) options [] es a) (sym (goes [] e)) run; is = given.is })

-- ---- widths
pub wide_model : (c : Contents) (wish : Wish) (box : WideBox) (r : Result Answered OutOfMemory) → first_wide (model_form c).bounds ≡ Some box → IfOk r (λ a. a.status ≡ statuses.File) → IfOk r (λ a. a.text.items ≡ wide_text c box.variable)
    → IfOk r (λ a. AnswersModel c wish a.status a.text.items)
wide_model c wish box (Ok a) first e w = inr (record { box = box; first = first; status_is = e; written_is = w })
wide_model c wish box (Err x) first e w = tt

-- and then the model has no run
pub wide_soundly : (c : Contents) (options : Options) (box : WideBox) (r : Result Answered OutOfMemory) → first_wide (model_form c).bounds ≡ Some box → OnOk r (RunsSoundly c options)
wide_soundly c options box (Ok a) first = λ widths told answer run. absurd (let e = sym widths ∙ first in cc)
wide_soundly c options box (Err x) first = tt

pub fitting_model : (c : Contents) (wish : Wish) (r : Result Answered OutOfMemory) → first_wide (model_form c).bounds ≡ None → IfOk r (λ a. AnswersRun c wish a.status a.text.items) → IfOk r (λ a. AnswersModel c wish a.status a.text.items)
fitting_model c wish (Ok a) fits h = inl (record { widths = fits; run = h })
fitting_model c wish (Err x) fits h = tt
