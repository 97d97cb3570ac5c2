-- What is due in a call of `check`.
use Rattle.std.proofs.Common.{◌≡◌, ℕ, ◌⊎◌, inl, inr, Bool, List, [], ◌∷◌, ◌++◌, Option, Some, Result, Ok, Err, refl, sym, ap, ◌∙◌, subst}
use Rattle.std.specs.Result.{IfOk, OnErr}
use Rattle.std.proofs.lemmas.List.{append-nil}
use Rattle.pami_frac.specs.declared.fault.OutOfMemory.{OutOfMemory}
use Rattle.pami_edge.specs.Outside.{Files, HasFile, HasLongFile}
use Rattle.pami_edge.specs.Calls.{ShelfCall, SinkCall, WroteNothing}
use Rattle.pami_words.specs.declared.command.Command.{Command}
use Rattle.pami_method.specs.declared.words.Options.{Options}
use Rattle.pami_words.specs.declared.command.Command.TheVariants.{Solve, Check}
use Rattle.pami_model.specs.Contents.{Contents}
use Rattle.pami_model.specs.Rules.{byte_limit}
use Rattle.pami_model_form.specs.ModelForm.{model_form}
use Rattle.pami_form.specs.declared.form.WideBox.{WideBox}
use Rattle.pami_form.specs.Widths.{first_wide}
use Rattle.pami_cert.specs.declared.cert.CertFault.{CertFault}
use Rattle.pami_cert.specs.FirstFault.{FirstFault}
use Rattle.pami_cli.specs.declared.status.Status.{Status}
use Rattle.pami_cli.specs.declared.status.Status.TheVariants as statuses
use Rattle.pami_cli.specs.declared.answer.Answer.{Answer}
use Rattle.pami_cli.specs.declared.reading.Taken.{Taken}
use Rattle.pami_cli.specs.declared.reading.Taken.TheVariants.{Accepted, Refused}
use Rattle.pami_cli.specs.Text.{refused_text, wide_text, malformed_text}
use Rattle.pami_cli.specs.Reading.{Format, format_by, IsTextOf, IsFirstFaultOf}
use Rattle.pami_cli.specs.Taken.{IsTaken, IsFitting}
use Rattle.pami_cli.specs.Judged.{Judges}
use Rattle.pami_cli.specs.Run.{IsAccepted, IsCertDue, IsCheckDue, IsWrittenBy, EndsBy, Call, AskFor, Ends, IsDue, IsFront, ModelFile, Refuses, file_of}
use Rattle.pami_cli.proofs.Readings.{long_fault, long_file}
use Rattle.pami_cli.proofs.Checks.{long_cert_fault, long_cert_file}
use Rattle.pami_cli.proofs.Runs.{answer_ends, ends_too}

-- ---- CERT

malformed_ok : (c : Contents) (bytes : List ℕ) (fault : CertFault) (r : Result Answer OutOfMemory) → FirstFault c bytes fault
    → IfOk r (λ a. a.status ≡ statuses.Malformed) → IfOk r (λ a. a.text.items ≡ malformed_text fault) → IfOk r (λ a. Judges c bytes a.status a.text.items)
malformed_ok c bytes fault (Ok a) first e w = inr (record { fault = fault; first = first; status_is = e; written_is = w })
malformed_ok c bytes fault (Err x) first e w = tt

module _ (c : Contents) (cert : List ℕ) (shelf : ShelfCall) (sink : SinkCall) (result : Status) where
  -- what the bytes of CERT are answered is due
  pub ends_cert : (text : List ℕ) (r : Result Answer OutOfMemory) → HasFile shelf.files cert text → IfOk r (λ a. Judges c text a.status a.text.items)
      → IfOk r (λ a. IsWrittenBy sink result a.status a.text.items) → OnErr r ((result ≡ statuses.OutOfMemory) × WroteNothing sink) → EndsBy (IsCertDue c cert shelf) sink result
  ends_cert text r h is w n = ends_too sink result (λ s t j. inr (text, h, j)) (answer_ends {Due = Judges c text} sink result r is w n)

  -- and so is that they are too many
  pub ends_long_cert : (r : Result Answer OutOfMemory) → HasLongFile shelf.files cert byte_limit → IfOk r (λ a. a.status ≡ statuses.Malformed)
      → IfOk r (λ a. a.text.items ≡ malformed_text long_cert_fault) → IfOk r (λ a. IsWrittenBy sink result a.status a.text.items)
      → OnErr r ((result ≡ statuses.OutOfMemory) × WroteNothing sink) → EndsBy (IsCertDue c cert shelf) sink result
  ends_long_cert r long e t w n =
      let l = long_cert_file c shelf.files cert long in
      ends_cert l.0 r l.1.0 (malformed_ok c l.0 long_cert_fault r l.1.1 e t) w n

-- ---- FILE

pub ends_accepted : (format : Format) (bytes : List ℕ) (c : Contents) (cert : List ℕ) (shelf : ShelfCall) (sink : SinkCall) (result : Status) → IsAccepted format bytes c
    → EndsBy (IsCertDue c cert shelf) sink result → EndsBy (IsCheckDue format bytes cert shelf) sink result
ends_accepted format bytes c cert shelf sink result accepted = ends_too sink result due
  where
    due : (s : Status) (w : List ℕ) → IsCertDue c cert shelf s w → IsCheckDue format bytes cert shelf s w
    due s w (inl fault) = inl fault
    due s w (inr (text, h, j)) = inr (inr (record { model = c; accepted = accepted; text = text; stands = h; judged = j }))

-- the program takes the bytes of FILE as a model, or refuses them
pub wide_taken : (c : Contents) (box : WideBox) (a : Answer) → first_wide (model_form c).bounds ≡ Some box → a.status ≡ statuses.File → a.text.items ≡ wide_text c box.variable
    → IsFitting c (Refused a)
wide_taken c box a first e w = (e, record { box = box; first = first; status_is = refl; written_is = w })

pub taken_ok : (format : Format) (bytes : List ℕ) (c : Contents) (r : Result Taken OutOfMemory) → IsTextOf format bytes c → IfOk r (IsFitting c) → IfOk r (IsTaken format bytes)
taken_ok format bytes c (Ok (Accepted model)) t h = subst (IsAccepted format bytes) (sym h.0) (record { text_of = t; widths = h.1 })
taken_ok format bytes c (Ok (Refused a)) t h = (h.0, inr (c, t, h.1))
taken_ok format bytes c (Err e) t h = tt

pub ends_refused_file : (format : Format) (bytes : List ℕ) (cert : List ℕ) (shelf : ShelfCall) (sink : SinkCall) (result : Status) (a : Answer) (text : List ℕ) → IsTaken format bytes (Refused a)
    → text ≡ a.text.items → IsWrittenBy sink result a.status text → EndsBy (IsCheckDue format bytes cert shelf) sink result
ends_refused_file format bytes cert shelf sink result a text taken e w =
    inr (record { due = a.status; written = a.text.items; is_due = inr (inl taken); as_far = subst (λ (t : List ℕ). IsWrittenBy sink result a.status t) e w })

-- ---- the call

-- the names that were asked for: FILE, and CERT where it was read
pub asked_front : (old mid new : List (List ℕ)) (file cert : List ℕ) → old ≡ [] → mid ≡ old ++ file ∷ [] → (new ≡ mid) ⊎ (new ≡ mid ++ cert ∷ []) → IsFront new (file ∷ cert ∷ [])
asked_front old mid new file cert e f (inl g) = (cert ∷ [], ap (λ (z : List (List ℕ)). z ++ cert ∷ []) (g ∙ f ∙ ap (λ (z : List (List ℕ)). z ++ file ∷ []) e))
asked_front old mid new file cert e f (inr g) =
    ([], append-nil new ∙ g ∙ ap (λ (z : List (List ℕ)). z ++ cert ∷ []) (f ∙ ap (λ (z : List (List ℕ)). z ++ file ∷ []) e))

pub asked_one : (old mid : List (List ℕ)) (file cert : List ℕ) → old ≡ [] → mid ≡ old ++ file ∷ [] → IsFront mid (file ∷ cert ∷ [])
asked_one old mid file cert e f = asked_front old mid mid file cert e f (inl refl)

-- a shelf that has its files and its count of faults still
pub same_shelf : (files others : Option Files) (asked : List (List ℕ)) (before earlier after : ℕ) → files ≡ others → before ≡ earlier
    → ◌≡◌ {A = ShelfCall} (record { files = files; asked = asked; faults_before = before; faults_after = after })
    (record { files = others; asked = asked; faults_before = earlier; faults_after = after })
same_shelf files others asked before earlier after e f =
    ap (λ (x : Option Files). (record { files = x; asked = asked; faults_before = before; faults_after = after })) e
    ∙ ap (λ (n : ℕ). (record { files = others; asked = asked; faults_before = n; faults_after = after })) f

module _ (k : Call) (result : Status) (file cert : List ℕ) (lp : Bool) (asks : AskFor k.words (Check file cert lp)) where
  due : (bytes : List ℕ) → HasFile k.shelf.files file bytes → (s : Status) (w : List ℕ) → IsCheckDue (format_by lp) bytes cert k.shelf s w → IsDue k s w
  due bytes h s w (inl fault) = inr (inl (record { command = Check file cert lp; asks = asks; fault = fault }))
  due bytes h s w (inr a) = inr (inr (record { command = Check file cert lp; bytes = bytes; asks = asks; under = h; answer = a; sound = tt }))

  -- behind FILE the shelf was as before
  pub ends_check : (bytes : List ℕ) (shelf : ShelfCall) → shelf ≡ k.shelf → HasFile k.shelf.files file bytes
      → EndsBy (IsCheckDue (format_by lp) bytes cert shelf) k.sink result → Ends k result
  ends_check bytes shelf e h ends =
      ends_too k.sink result (due bytes h) (subst (λ (x : ShelfCall). EndsBy (IsCheckDue (format_by lp) bytes cert x) k.sink result) e ends)

  -- FILE is too long
  pub ends_long_file : (r : Result Answer OutOfMemory) → HasLongFile k.shelf.files file byte_limit → IfOk r (λ a. a.status ≡ statuses.File)
      → IfOk r (λ a. a.text.items ≡ refused_text long_fault) → IfOk r (λ a. IsWrittenBy k.sink result a.status a.text.items)
      → OnErr r ((result ≡ statuses.OutOfMemory) × WroteNothing k.sink) → Ends k result
  ends_long_file r long e t w n =
      let l = long_file (format_by lp) k.shelf.files file long in
      ends_too k.sink result (due l.0 l.1.0) (answer_ends {Due = IsCheckDue (format_by lp) l.0 cert k.shelf} k.sink result r (long_due r l.0 l.1.1 e t) w n)
    where
      long_due : (r : Result Answer OutOfMemory) (bytes : List ℕ) → IsFirstFaultOf (format_by lp) bytes long_fault → IfOk r (λ a. a.status ≡ statuses.File)
          → IfOk r (λ a. a.text.items ≡ refused_text long_fault) → IfOk r (λ a. IsCheckDue (format_by lp) bytes cert k.shelf a.status a.text.items)
      long_due (Ok a) bytes first e w = inr (inl (e, inl (record { fault = long_fault; first = first; status_is = refl; written_is = w })))
      long_due (Err x) bytes first e w = tt

-- where FILE is refused CERT isn't asked for: its bytes are those that were read
pub asked_file : (shelf : Option Files) (files : Files) (file read bytes : List ℕ) (format : Format) (written : List ℕ) (old mid new : List (List ℕ)) → shelf ≡ Some files
    → HasFile shelf file read → files file ≡ Some bytes → old ≡ [] → mid ≡ old ++ file ∷ []
    → ((w : List ℕ) → Refuses format read w → new ≡ mid) → Refuses format bytes written → new ≡ file ∷ []
asked_file shelf files file read bytes format written old mid new e h g o m same refuses =
    let under : files file ≡ Some read = subst (λ (x : Option Files). HasFile x file read) e h in
    let one : bytes ≡ read = some_same (sym g ∙ under) in
    same written (subst (λ (x : List ℕ). Refuses format x written) one refuses) ∙ m ∙ ap (λ (z : List (List ℕ)). z ++ file ∷ []) o
  where
    some_same : {x y : List ℕ} → ◌≡◌ {A = Option (List ℕ)} (Some x) (Some y) → x ≡ y
    some_same k = cc

-- the same of the command that the words ask for
pub asked_command : {E : Type 0} (outcome : Result Command E) (command : Command) (own : ModelFile) (file cert : List ℕ) (lp : Bool) (files : Files) (bytes written : List ℕ) (asked : List (List ℕ))
    → outcome ≡ Ok (Check file cert lp) → outcome ≡ Ok command → file_of command ≡ Some own → files own.name ≡ Some bytes → Refuses own.format bytes written
    → (files file ≡ Some bytes → Refuses (format_by lp) bytes written → asked ≡ file ∷ []) → IsFront asked (own.name ∷ [])
asked_command {E = E} outcome command own file cert lp files bytes written asked is asks reads stands refuses front =
    subst (λ (x : ModelFile). files x.name ≡ Some bytes → Refuses x.format bytes written → IsFront asked (x.name ∷ [])) same go stands refuses
  where
    ok_same : {x y : Command} → ◌≡◌ {A = Result Command E} (Ok x) (Ok y) → x ≡ y
    ok_same k = cc

    some_same : {x y : ModelFile} → Some x ≡ Some y → x ≡ y
    some_same k = cc

    same : record { name = file; format = format_by lp } ≡ own
    same = some_same (ap file_of (ok_same (sym is ∙ asks)) ∙ reads)

    go : files file ≡ Some bytes → Refuses (format_by lp) bytes written → IsFront asked (file ∷ [])
    go s r = ([], append-nil asked ∙ front s r)

-- and of `solve`, which asks for its FILE
pub asked_solve : {E : Type 0} (outcome : Result Command E) (command : Command) (own : ModelFile) (file : List ℕ) (lp : Bool) (options : Options) (ranging : Bool) (asked : List (List ℕ))
    → outcome ≡ Ok (Solve file lp options ranging) → outcome ≡ Ok command → file_of command ≡ Some own → asked ≡ file ∷ [] → IsFront asked (own.name ∷ [])
asked_solve {E = E} outcome command own file lp options ranging asked is asks reads e =
    subst (λ (x : ModelFile). IsFront asked (x.name ∷ [])) same ([], append-nil asked ∙ e)
  where
    ok_same : {x y : Command} → ◌≡◌ {A = Result Command E} (Ok x) (Ok y) → x ≡ y
    ok_same k = cc

    some_same : {x y : ModelFile} → Some x ≡ Some y → x ≡ y
    some_same k = cc

    same : record { name = file; format = format_by lp } ≡ own
    same = some_same (ap file_of (ok_same (sym is ∙ asks)) ∙ reads)

-- nothing was asked for
pub asked_nothing : (old : List (List ℕ)) (file : List ℕ) → old ≡ [] → IsFront old (file ∷ [])
asked_nothing old file none = (file ∷ [], ap (λ (z : List (List ℕ)). z ++ file ∷ []) none)
