-- What a call has to write, and that it is one text.
use Rattle.std.proofs.Common.{◌≡◌, ℕ, ◌⊎◌, inl, inr, IsTrue, false, Bool, List, [], Option, None, Some, Result, Ok, Err, refl, sym, ap, ◌∙◌, subst}
use Rattle.pami_method.specs.declared.words.Options.{Options}
use Rattle.pami_method.specs.Walk.{IsOptions}
use Rattle.std.specs.Result.{IfOk, OnErr, OnOk}
use Rattle.pami_algebra.specs.Fraction.{Fraction}
use Rattle.pami_frac.specs.declared.fault.OutOfMemory.{OutOfMemory}
use Rattle.pami_edge.specs.Outside.{Files, HasFile, HasLongFile, Keeps}
use Rattle.pami_edge.specs.Calls.{ShelfCall, SinkCall, ShelfFailed, SinkFailed, Wrote, WroteNothing}
use Rattle.pami_words.specs.declared.command.BadWords.{BadWords}
use Rattle.pami_words.specs.declared.command.Command.{Command}
use Rattle.pami_words.specs.declared.command.Command.TheVariants.{Solve, Check, Trial}
use Rattle.pami_model.specs.Contents.{Contents}
use Rattle.pami_model.specs.declared.fault.FileFault.{FileFault}
use Rattle.pami_model.specs.Rules.{byte_limit}
use Rattle.pami_theory.specs.Certificate.{IsDualPoint}
use Rattle.pami_model_form.specs.ModelForm.{model_form}
use Rattle.pami_form.specs.Widths.{first_wide}
use Rattle.pami_cli.specs.declared.status.Status.{Status}
use Rattle.pami_cli.specs.declared.status.Status.TheVariants as statuses
use Rattle.pami_cli.specs.declared.answer.Answer.{Answer}
use Rattle.pami_cli.specs.Text.{refused_text}
use Rattle.pami_cli.specs.declared.wish.Wish.{Wish}
use Rattle.pami_cli.specs.Trial.{AnswersTrial, TrialHolds}
use Rattle.pami_cli.specs.Reading.{Format, format_by, IsTextOf, IsFirstFaultOf}
use Rattle.pami_method.specs.Phases.{Answer as RunAnswer, Optimal, Infeasible, DualInfeasible, Limit, Overflow}
use Rattle.pami_cli.specs.Status.{is_judgement}
use Rattle.pami_cli.specs.Answer.{HasStatus, AnswersModel, RunsSoundly}
use Rattle.pami_cli.specs.Run.{Answers, SolvesSoundly, IsModelAnswer, Refuses, Checks, ChecksText, CommandAnswers, ModelFile, file_of, HasBytes, wish_of, IsFileRefused, IsCertJudged, IsAnswered, IsDue, IsWrittenBy, EndsBy, IsComplete, Call, call, AskFor, AreBad, Ends, IsOrFault}
use Rattle.pami_cli.proofs.Trials.{one_trial}
use Rattle.pami_cli.proofs.Answers.{runs_refuse_nothing, one_model_answer, some_model_answer, refused_model_is_wide, dual_infeasible_model}
use Rattle.pami_cli.proofs.Readings.{has_text_or_fault, one_text, one_refusal, text_or_fault, long_fault, long_file}
use Rattle.pami_cli.proofs.Checks.{some_same, one_check, fitting_or_wide, check_refuses}

-- words ask for one command, and not as well for none
same_asked : {a b : Command} → ◌≡◌ {A = Result Command BadWords} (Ok a) (Ok b) → a ≡ b
same_asked e = cc

bad_asked : {bad : BadWords} {a : Command} → ◌≡◌ {A = Result Command BadWords} (Err bad) (Ok a) → ⊥
bad_asked e = cc

-- a model's answer is that of its text
pub answered_ok : (format : Format) (bytes : List ℕ) (wish : Wish) (c : Contents) (r : Result Answer OutOfMemory) → IsTextOf format bytes c → IfOk r (λ a. AnswersModel c wish a.status a.text.items)
    → IfOk r (λ a. Answers format bytes wish a.status a.text.items)
answered_ok format bytes wish c (Ok a) m h = inl (record { model = c; text_of = m; answer = h })
answered_ok format bytes wish c (Err e) m h = h

-- and so is that it is sound
pub sound_ok : (format : Format) (bytes : List ℕ) (options : Options) (c : Contents) (r : Result Answer OutOfMemory) → IsTextOf format bytes c → OnOk r (RunsSoundly c options) → OnOk r (SolvesSoundly format bytes options)
sound_ok format bytes options c (Ok a) m h = λ d text. subst (λ x. RunsSoundly x options) (one_text format bytes c d m text) h
sound_ok format bytes options c (Err e) m h = tt

-- a file with a first fault has no model, and so no run
pub refused_soundly : (format : Format) (bytes : List ℕ) (options : Options) (fault : FileFault) → IsFirstFaultOf format bytes fault → SolvesSoundly format bytes options
refused_soundly format bytes options fault first = λ c text. absurd (text_or_fault format bytes c fault text first)

pub any_soundly : {S : Type 0} (r : Result Answer OutOfMemory) → S → OnOk r S
any_soundly (Ok a) s = s
any_soundly (Err e) s = tt

-- a file is refused at its first fault
pub refused_ok : (format : Format) (bytes : List ℕ) (wish : Wish) (fault : FileFault) (r : Result Answer OutOfMemory) → IsFirstFaultOf format bytes fault
    → IfOk r (λ a. a.status ≡ statuses.File) → IfOk r (λ a. a.text.items ≡ refused_text fault) → IfOk r (λ a. Answers format bytes wish a.status a.text.items)
refused_ok format bytes wish fault (Ok a) first e w = inr (record { fault = fault; first = first; status_is = e; written_is = w })
refused_ok format bytes wish fault (Err x) first e w = tt

-- an answer that memory may have run out for was written as far as may be
pub answer_ends : {Due : Status → List ℕ → Type 0} (sink : SinkCall) (result : Status) (r : Result Answer OutOfMemory) → IfOk r (λ a. Due a.status a.text.items)
    → IfOk r (λ a. IsWrittenBy sink result a.status a.text.items) → OnErr r ((result ≡ statuses.OutOfMemory) × WroteNothing sink) → EndsBy Due sink result
answer_ends sink result (Ok a) d w n = inr (record { due = a.status; written = a.text.items; is_due = d; as_far = w })
answer_ends sink result (Err e) d w n = inl n

-- what is due by one rule is due by another
pub ends_too : {D E : Status → List ℕ → Type 0} (sink : SinkCall) (result : Status) → ((s : Status) (w : List ℕ) → D s w → E s w) → EndsBy D sink result → EndsBy E sink result
ends_too sink result h (inl o) = inl o
ends_too sink result h (inr w) = inr (record { due = w.due; written = w.written; is_due = h w.due w.written w.is_due; as_far = w.as_far })

-- what is due, with a fact of the file
with_fact : (S : Type 0) (Due : Status → List ℕ → Type 0) (r : Result Answer OutOfMemory) → IfOk r (λ a. Due a.status a.text.items) → OnOk r S → IfOk r (λ a. Due a.status a.text.items × S)
with_fact S Due (Ok a) d s = (d, s)
with_fact S Due (Err e) d s = d

-- what `solve` answers is due
module _ (k : Call) (result : Status) (file : List ℕ) (lp : Bool) (wish : Wish) (asks : AskFor k.words (Solve file lp wish.options wish.ranging)) where
  pub ends_answer : (bytes : List ℕ) (r : Result Answer OutOfMemory) → HasFile k.shelf.files file bytes → IfOk r (λ a. Answers (format_by lp) bytes wish a.status a.text.items)
      → OnOk r (SolvesSoundly (format_by lp) bytes wish.options)
      → IfOk r (λ a. IsWrittenBy k.sink result a.status a.text.items) → OnErr r ((result ≡ statuses.OutOfMemory) × WroteNothing k.sink) → Ends k result
  ends_answer bytes r h is sound w n =
      let S : Type 0 = SolvesSoundly (format_by lp) bytes wish.options in
      ends_too k.sink result
      (λ s t a. inr (inr (record { command = Solve file lp wish.options wish.ranging; bytes = bytes; asks = asks; under = h; answer = a.0; sound = a.1 })))
      (answer_ends {Due = λ s t. Answers (format_by lp) bytes wish s t × S} k.sink result r (with_fact S (Answers (format_by lp) bytes wish) r is sound) w n)

  -- and of a file that is too long
  pub ends_long : (r : Result Answer OutOfMemory) → HasLongFile k.shelf.files file byte_limit → IfOk r (λ a. a.status ≡ statuses.File) → IfOk r (λ a. a.text.items ≡ refused_text long_fault)
      → IfOk r (λ a. IsWrittenBy k.sink result a.status a.text.items) → OnErr r ((result ≡ statuses.OutOfMemory) × WroteNothing k.sink) → Ends k result
  ends_long r long e t w n =
      let l = long_file (format_by lp) k.shelf.files file long in
      ends_answer l.0 r l.1.0 (refused_ok (format_by lp) l.0 wish long_fault r l.1.1 e t) (any_soundly r (refused_soundly (format_by lp) l.0 wish.options long_fault l.1.1)) w n

-- where memory ran out before anything was due, nothing was written
nothing_told : (told : Option (List ℕ)) → Keeps told told
nothing_told None = tt
nothing_told (Some bytes) = refl

pub ends_nowhere : (words : List (List ℕ)) (shelf : ShelfCall) (told : Option (List ℕ)) (before after : ℕ)
    → Ends (call words shelf (record { told_before = told; told_after = told; faults_before = before; faults_after = after })) statuses.OutOfMemory
ends_nowhere words shelf told before after = inl (refl, nothing_told told)

-- what a trial is answered is due
pub ends_told : (seed sources sinks : ℕ) (sink : SinkCall) (result : Status) (r : Result Answer OutOfMemory) → IfOk r (λ a. AnswersTrial seed sources sinks a.status a.text.items)
    → OnOk r (TrialHolds seed sources sinks) → IfOk r (λ a. IsWrittenBy sink result a.status a.text.items) → OnErr r ((result ≡ statuses.OutOfMemory) × WroteNothing sink)
    → EndsBy (λ s t. AnswersTrial seed sources sinks s t × TrialHolds seed sources sinks) sink result
ends_told seed sources sinks sink result r is holds w n =
    answer_ends {Due = λ s t. AnswersTrial seed sources sinks s t × TrialHolds seed sources sinks} sink result r
    (with_fact (TrialHolds seed sources sinks) (AnswersTrial seed sources sinks) r is holds) w n

pub ends_trial : (k : Call) (result : Status) (seed sources sinks : ℕ) → AskFor k.words (Trial seed sources sinks)
    → EndsBy (λ s t. AnswersTrial seed sources sinks s t × TrialHolds seed sources sinks) k.sink result → Ends k result
ends_trial k result seed sources sinks asks ends =
    ends_too k.sink result
    (λ s t a. inr (inr (record { command = Trial seed sources sinks; bytes = []; asks = asks; under = tt; answer = a.0; sound = a.1 }))) ends

-- what the words and the bytes are answered is one status and one text
module _ (format : Format) (bytes : List ℕ) (wish : Wish) where
  same_model : (s t : Status) (w v : List ℕ) (a : IsModelAnswer format bytes wish s w) (b : IsModelAnswer format bytes wish t v) → AnswersModel a.model wish t v
  same_model s t w v a b = subst (λ c. AnswersModel c wish t v) (one_text format bytes b.model a.model b.text_of a.text_of) b.answer

  pub one_answer : (s t : Status) (w v : List ℕ) → Answers format bytes wish s w → Answers format bytes wish t v → (s ≡ t) × (w ≡ v)
  one_answer s t w v (inl a) (inl b) = one_model_answer a.model wish s t w v a.answer (same_model s t w v a b)
  one_answer s t w v (inl a) (inr b) = absurd (text_or_fault format bytes a.model b.fault a.text_of b.first)
  one_answer s t w v (inr a) (inl b) = absurd (text_or_fault format bytes b.model a.fault b.text_of a.first)
  one_answer s t w v (inr a) (inr b) = (
    a.status_is ∙ sym b.status_is,
    a.written_is ∙ ap refused_text (one_refusal format bytes a.fault b.fault a.first b.first) ∙ sym b.written_is,
  )

  -- and there is one
  pub some_answer : IsOptions wish.options → (s : Status) × (w : List ℕ) × Answers format bytes wish s w
  some_answer o = by (has_text_or_fault format bytes)
    where
      by : ((c : Contents) × IsTextOf format bytes c) ⊎ ((fault : FileFault) × IsFirstFaultOf format bytes fault) → (s : Status) × (w : List ℕ) × Answers format bytes wish s w
      by (inl (c, text)) = let a = some_model_answer c wish o in (a.0, a.1, inl (record { model = c; text_of = text; answer = a.2 }))
      by (inr (fault, first)) = (statuses.File, refused_text fault, inr (record { fault = fault; first = first; status_is = refl; written_is = refl }))

  -- status 3 is for a first fault or a width that doesn't fit
  pub refuses : (w : List ℕ) → Answers format bytes wish statuses.File w → Refuses format bytes w
  refuses w (inl a) = inr (a.model, a.text_of, refused_model_is_wide a.model wish w a.answer)
  refuses w (inr b) = inl b

  -- and status 11 for a model whose dual program has no point
  pub no_dual_point : (w : List ℕ) → Answers format bytes wish statuses.DualInfeasible w → (c : Contents) → IsTextOf format bytes c → (y d : ℕ → Fraction) → ¬ IsDualPoint (model_form c) y d
  no_dual_point w (inl a) c text = subst (λ m. (y d : ℕ → Fraction) → ¬ IsDualPoint (model_form m) y d) (one_text format bytes a.model c a.text_of text) (dual_infeasible_model a.model wish w a.answer)
  no_dual_point w (inr b) c text = let e = b.status_is in absurd cc

-- FILE, where it is refused, is answered so by `solve` too
refused_answer : (format : Format) (bytes : List ℕ) (wish : Wish) (w : List ℕ) → Refuses format bytes w → Answers format bytes wish statuses.File w
refused_answer format bytes wish w (inl r) = inr r
refused_answer format bytes wish w (inr (c, text, wide)) = inl (record { model = c; text_of = text; answer = inr wide })

-- whatever is wished for
any_wish : Wish
any_wish = wish_of (record { batch = 1; refactor = 0; limit = 0 }) false

one_refused : (format : Format) (bytes : List ℕ) (w v : List ℕ) → Refuses format bytes w → Refuses format bytes v → w ≡ v
one_refused format bytes w v a b =
    (one_answer format bytes any_wish statuses.File statuses.File w v (refused_answer format bytes any_wish w a) (refused_answer format bytes any_wish v b)).1

-- `check` has one answer, where CERT has one text
check_once : (format : Format) (bytes : List ℕ) (under : List ℕ → Type 0) → ((x y : List ℕ) → under x → under y → x ≡ y) → (s t : Status) (w v : List ℕ)
    → Checks format bytes under s w → Checks format bytes under t v → (s ≡ t) × (w ≡ v)
check_once format bytes under one s t w v a b = one_check format bytes under one (one_refused format bytes) s t w v a b

pub one_checked : (format : Format) (bytes text : List ℕ) (s t : Status) (w v : List ℕ) → ChecksText format bytes text s w → ChecksText format bytes text t v → (s ≡ t) × (w ≡ v)
one_checked format bytes text s t w v a b = check_once format bytes (λ (x : List ℕ). x ≡ text) (λ x y p q. p ∙ sym q) s t w v a b

-- and there is one
pub some_check : (format : Format) (bytes text : List ℕ) → (s : Status) × (w : List ℕ) × ChecksText format bytes text s w
some_check format bytes text = by (has_text_or_fault format bytes)
  where
    by : ((c : Contents) × IsTextOf format bytes c) ⊎ ((fault : FileFault) × IsFirstFaultOf format bytes fault) → (s : Status) × (w : List ℕ) × ChecksText format bytes text s w
    by (inl (c, is)) = fitting_or_wide format bytes text c is (first_wide (model_form c).bounds) refl
    by (inr (fault, first)) = (statuses.File, refused_text fault, inl (refl, inl (record { fault = fault; first = first; status_is = refl; written_is = refl })))

-- a command has one answer on its files
one_command_answer : (command : Command) (bytes : List ℕ) (files : Files) (s t : Status) (w v : List ℕ) → CommandAnswers command bytes (HasFile (Some files)) s w
    → CommandAnswers command bytes (HasFile (Some files)) t v → (s ≡ t) × (w ≡ v)
one_command_answer (Solve file lp options ranging) bytes files s t w v a b = one_answer (format_by lp) bytes (wish_of options ranging) s t w v a b
one_command_answer (Check file cert lp) bytes files s t w v a b =
    check_once (format_by lp) bytes (HasFile (Some files) cert) (λ x y p q. some_same (sym p ∙ q)) s t w v a b
one_command_answer (Trial seed sources sinks) bytes files s t w v a b = one_trial seed sources sinks s t w v a b

-- status 3 is for a FILE that is refused
command_refuses : (command : Command) (bytes : List ℕ) (files : Option Files) (w : List ℕ) → HasBytes files command bytes → CommandAnswers command bytes (HasFile files) statuses.File w
    → (file : ModelFile) × (file_of command ≡ Some file) × HasFile files file.name bytes × Refuses file.format bytes w
command_refuses (Solve file lp options ranging) bytes files w under a =
    (record { name = file; format = format_by lp }, refl, under, refuses (format_by lp) bytes (wish_of options ranging) w a)
command_refuses (Check file cert lp) bytes files w under a =
    (record { name = file; format = format_by lp }, refl, under, check_refuses (format_by lp) bytes (HasFile files cert) w a)
command_refuses (Trial seed sources sinks) bytes files w under a = absurd (runs_refuse_nothing a.answer a.has_status)

-- a file has one list of bytes under its name; a trial has no file
answer_on : (command : Command) (x y : List ℕ) (files : Files) (s : Status) (w : List ℕ) → HasBytes (Some files) command x → HasBytes (Some files) command y
    → CommandAnswers command x (HasFile (Some files)) s w → CommandAnswers command y (HasFile (Some files)) s w
answer_on (Solve file lp options ranging) x y files s w h k = subst (λ b. CommandAnswers (Solve file lp options ranging) b (HasFile (Some files)) s w) (some_same (sym h ∙ k))
answer_on (Check file cert lp) x y files s w h k = subst (λ b. CommandAnswers (Check file cert lp) b (HasFile (Some files)) s w) (some_same (sym h ∙ k))
answer_on (Trial seed sources sinks) x y files s w h k = λ a. a

-- exactly that answer, or a fault in its place
abbrev IsExactly : Call → Status → Status → List ℕ → Type 0
IsExactly k result s w = ((result ≡ s) × Wrote k.sink w) ⊎ IsOrFault result statuses.ReadFault

module _ (k : Call) (files : Files) (command : Command) (bytes written : List ℕ) (status : Status) (told : k.shelf.files ≡ Some files) (asks : AskFor k.words command)
    (stands : HasBytes (Some files) command bytes) (answer : CommandAnswers command bytes (HasFile (Some files)) status written) where
  same_answer : (s : Status) (w : List ℕ) (a : IsAnswered k s w) → CommandAnswers command bytes (HasFile (Some files)) s w
  same_answer s w a =
      let e : a.command ≡ command = same_asked (sym a.asks ∙ asks) in
      let h : HasBytes (Some files) command a.bytes = subst (λ x. HasBytes (Some files) x a.bytes) e (subst (λ f. HasBytes f a.command a.bytes) told a.under) in
      answer_on command a.bytes bytes files s w h stands
      (subst (λ x. CommandAnswers x a.bytes (HasFile (Some files)) s w) e
      (subst (λ f. CommandAnswers a.command a.bytes (HasFile f) s w) told a.answer))

  agreed : (result due : Status) (w : List ℕ) → IsAnswered k due w → (result ≡ due) × Wrote k.sink w → IsExactly k result status written
  agreed result due w d g =
      let o = one_command_answer command bytes files due status w written (same_answer due w d) answer in
      inl (g.0 ∙ o.0, subst (Wrote k.sink) o.1 g.1)

  exactly_due : (result due : Status) (w : List ℕ) → IsDue k due w → (result ≡ due) × Wrote k.sink w → IsExactly k result status written
  exactly_due result due w (inl bad) g = absurd (bad_asked (sym bad.bad ∙ asks))
  exactly_due result due w (inr (inl d)) g = inr (inl (g.0 ∙ d.fault.status_is))
  exactly_due result due w (inr (inr d)) g = agreed result due w d g

  pub ends_exactly : (result : Status) → Ends k result → IsExactly k result status written
  ends_exactly result (inl o) = inr (inr (inr (inr o.0)))
  ends_exactly result (inr w) = go w.as_far
    where
      go : IsWrittenBy k.sink result w.due w.written → IsExactly k result status written
      go (inl g) = exactly_due result w.due w.written w.is_due g
      go (inr f) = inr (inr (inr (inl f.0)))

-- where the words ask for a command and neither the shelf nor the sink failed, what is due is an answer, and it was written whole
module _ (k : Call) (command : Command) (asks : AskFor k.words command) (read : ShelfFailed k.shelf → ⊥) (wrote : SinkFailed k.sink → ⊥) where
  complete_due : (result due : Status) (w : List ℕ) → IsDue k due w → (result ≡ due) × Wrote k.sink w → IsComplete k result
  complete_due result due w (inl bad) g = absurd (bad_asked (sym bad.bad ∙ asks))
  complete_due result due w (inr (inl d)) g = absurd (read d.fault.failed)
  complete_due result due w (inr (inr d)) g = inr (w, subst (λ s. IsAnswered k s w) (sym g.0) d, g.1)

  pub ends_complete : (result : Status) → Ends k result → IsComplete k result
  ends_complete result (inl o) = inl o.0
  ends_complete result (inr w) = go w.as_far
    where
      go : IsWrittenBy k.sink result w.due w.written → IsComplete k result
      go (inl g) = complete_due result w.due w.written w.is_due g
      go (inr f) = absurd (wrote f.1)

-- bad words are answered as such, or writing or memory failed
pub ends_bad_words : (k : Call) → AreBad k.words → (result : Status) → Ends k result → (result ≡ statuses.Words) ⊎ ((result ≡ statuses.WriteFault) ⊎ (result ≡ statuses.OutOfMemory))
ends_bad_words k bad result (inl o) = inr (inr o.0)
ends_bad_words k bad result (inr w) = go w.as_far
  where
    due : (s : Status) (t : List ℕ) → IsDue k s t → s ≡ statuses.Words
    due s t (inl d) = d.status_is
    due s t (inr (inl d)) = absurd (bad_asked (sym bad ∙ d.asks))
    due s t (inr (inr d)) = absurd (bad_asked (sym bad ∙ d.asks))

    go : IsWrittenBy k.sink result w.due w.written → (result ≡ statuses.Words) ⊎ ((result ≡ statuses.WriteFault) ⊎ (result ≡ statuses.OutOfMemory))
    go (inl g) = inl (g.0 ∙ due w.due w.written w.is_due)
    go (inr f) = inr (inl f.0)

-- status 3 comes only where FILE is refused
pub ends_refused : (k : Call) → Ends k statuses.File → IsFileRefused k
ends_refused k (inl o) = let e = o.0 in absurd cc
ends_refused k (inr w) = go w.as_far
  where
    at_status : (s : Status) (t : List ℕ) → s ≡ statuses.File → IsDue k s t → Wrote k.sink t → IsFileRefused k
    at_status s t e (inl d) g = let f = sym e ∙ d.status_is in absurd cc
    at_status s t e (inr (inl d)) g = let f = sym e ∙ d.fault.status_is in absurd cc
    at_status s t e (inr (inr d)) g =
        let r = command_refuses d.command d.bytes k.shelf.files t d.under (subst (λ x. CommandAnswers d.command d.bytes (HasFile k.shelf.files) x t) e d.answer) in
        record { command = d.command; file = r.0; bytes = d.bytes; written = t; asks = d.asks; reads = r.1; under = r.2; refuses = r.3; wrote = g }

    go : IsWrittenBy k.sink statuses.File w.due w.written → IsFileRefused k
    go (inl g) = at_status w.due w.written (sym g.0) w.is_due g.1
    go (inr f) = let e = f.0 in absurd cc

-- ---- the statuses of `check` alone

untrue : IsTrue false → ⊥
untrue e = cc

no_run_judges : (a : RunAnswer) (s : Status) → HasStatus a s → IsTrue (is_judgement s) → ⊥
no_run_judges (Optimal st x) s h j = untrue (subst (λ z. IsTrue (is_judgement z)) h j)
no_run_judges (Infeasible y) s h j = untrue (subst (λ z. IsTrue (is_judgement z)) h j)
no_run_judges (DualInfeasible st x) s h j = untrue (subst (λ z. IsTrue (is_judgement z)) h j)
no_run_judges (Limit st) s h j = untrue (subst (λ z. IsTrue (is_judgement z)) h j)
no_run_judges (Overflow r) s h j = untrue (subst (λ z. IsTrue (is_judgement z)) h j)

no_model_judged : (c : Contents) (wish : Wish) (s : Status) (w : List ℕ) → AnswersModel c wish s w → IsTrue (is_judgement s) → ⊥
no_model_judged c wish s w (inl f) j = no_run_judges f.run.answer s f.run.has_status j
no_model_judged c wish s w (inr wide) j = untrue (subst (λ z. IsTrue (is_judgement z)) wide.status_is j)

solve_judges_none : (format : Format) (bytes : List ℕ) (wish : Wish) (s : Status) (w : List ℕ) → Answers format bytes wish s w → IsTrue (is_judgement s) → ⊥
solve_judges_none format bytes wish s w (inl a) j = no_model_judged a.model wish s w a.answer j
solve_judges_none format bytes wish s w (inr r) j = untrue (subst (λ z. IsTrue (is_judgement z)) r.status_is j)

module _ (k : Call) (result : Status) (judgement : IsTrue (is_judgement result)) where
  none : {A : Type 0} (s : Status) → result ≡ s → (IsTrue (is_judgement s) → ⊥) → A
  none s e free = absurd (free (subst (λ z. IsTrue (is_judgement z)) e judgement))

  judged_command : (command : Command) (bytes t : List ℕ) → AskFor k.words command → HasBytes k.shelf.files command bytes
      → CommandAnswers command bytes (HasFile k.shelf.files) result t → Wrote k.sink t → IsCertJudged k result
  judged_command (Solve file lp options ranging) bytes t asks under a g = absurd (solve_judges_none (format_by lp) bytes (wish_of options ranging) result t a judgement)
  judged_command (Trial seed sources sinks) bytes t asks under a g = absurd (no_run_judges a.answer result a.has_status judgement)
  judged_command (Check file cert lp) bytes t asks under (inl refused) g = none statuses.File refused.0 untrue
  judged_command (Check file cert lp) bytes t asks under (inr a) g =
      record { file = file; cert = cert; lp = lp; bytes = bytes; written = t; asks = asks; under = under; answer = a; wrote = g }

  judged_due : (s : Status) (t : List ℕ) → result ≡ s → IsDue k s t → Wrote k.sink t → IsCertJudged k result
  judged_due s t e (inl d) g = none statuses.Words (e ∙ d.status_is) untrue
  judged_due s t e (inr (inl d)) g = none statuses.ReadFault (e ∙ d.fault.status_is) untrue
  judged_due s t e (inr (inr d)) g =
      judged_command d.command d.bytes t d.asks d.under (subst (λ z. CommandAnswers d.command d.bytes (HasFile k.shelf.files) z t) (sym e) d.answer) g

  pub ends_judged : Ends k result → IsCertJudged k result
  ends_judged (inl o) = none statuses.OutOfMemory o.0 untrue
  ends_judged (inr w) = go w.as_far
    where
      go : IsWrittenBy k.sink result w.due w.written → IsCertJudged k result
      go (inl g) = judged_due w.due w.written g.0 w.is_due g.1
      go (inr f) = none statuses.WriteFault f.0 untrue
