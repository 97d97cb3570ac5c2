-- A text has a model exactly where the reader of its tokens gives one, and a first fault exactly where it gives that.
use Rattle.std.proofs.Common.{◌≡◌, ℕ, ◌<◌, ◌≤◌, Bool, true, false, true≢false, cond, nat_lt, length, List, [], ◌∷◌, ◌++◌, Option, None, Some, is_some, Result, Ok, Err, is_ok, inl, inr, refl, sym, ap, ◌∙◌, arith}
use Rattle.std.proofs.lemmas.Bool.{ltb-false, ltb-true}
use Rattle.pami_frac.specs.Answers.{then as chain}
use Rattle.pami_edge.specs.Lines.{lines_of}
use Rattle.pami_model.specs.declared.fault.Crossed.{Crossed as Pair}
use Rattle.pami_model.specs.declared.fault.FileFault.{FileFault}
use Rattle.pami_model.specs.declared.fault.FileKind.{FileKind}
use Rattle.pami_model.specs.declared.fault.FileKind.TheVariants as kinds
use Rattle.pami_model.specs.Contents.{Contents}
use Rattle.pami_model.specs.Draft.{Draft, first_crossed}
use Rattle.pami_model.specs.Rules.{byte_limit}
use Rattle.pami_lp_text.specs.Classes.{Symbol}
use Rattle.pami_lp_text.specs.declared.kind.Class.{Class}
use Rattle.pami_lp_text.specs.declared.kind.Class.TheVariants as classes
use Rattle.pami_lp.specs.declared.kind.Move.{Move}
use Rattle.pami_lp.specs.declared.kind.Section.{Section}
use Rattle.pami_lp.specs.Acts.{Seen}
use Rattle.pami_lp.specs.Grammar.{Item, file, items_of}
use Rattle.pami_lp.specs.Lp.{Begins, FirstFault, HasModelOrFault, TooLong, Refused, Faulty, Crossing, Missing, Lp, Stands, known, through, tokens_of}
use Rattle.pami_lp.specs.Moves.{move_of, section_at}
use Rattle.pami_lp.specs.Outcome.{closed, closed_by, fault_at, first_class, is_end, outcome, reads, taken}
use Rattle.pami_lp.specs.Run.{done, start, step}
use Rattle.pami_lp.specs.Sections.{refusal, section_of}
use Rattle.pami_lp.proofs.Bare.{bare, bare_reads}
use Rattle.pami_lp.proofs.Behinds.{closed_before, file_behind}
use Rattle.pami_lp.proofs.FileRuns.{file_run}
use Rattle.pami_lp.proofs.Items.{runs}
use Rattle.pami_lp.proofs.Stepped.{not_ok, ok_same, sectioned}
use Rattle.pami_lp.proofs.Traces.{Before, Trace, Stopped, Ended, Over, reads_before, known_one, reads_over, trace}
use Rattle.pami_lp.proofs.Wholes.{end_whole, items_append, open_is, open_of, refused_begins, taken_begins, whole_end}

abbrev fault_or : {A : Type 0} → FileFault → Result A FileFault → FileFault
fault_or d (Ok x) = d
fault_or d (Err f) = f

pub fault_same : {A : Type 0} {f g : FileFault} → ◌≡◌ {A = Result A FileFault} (Err f) (Err g) → f ≡ g
fault_same {f = f} e = ap (fault_or f) e

abbrev kind_or : {A : Type 0} → FileKind → Result A FileKind → FileKind
kind_or d (Ok x) = d
kind_or d (Err k) = k

kind_same : {A : Type 0} {k l : FileKind} → ◌≡◌ {A = Result A FileKind} (Err k) (Err l) → k ≡ l
kind_same {k = k} e = ap (kind_or k) e

pub no_fault : {A B : Type 0} {f : FileFault} {x : A} → ◌≡◌ {A = Result A FileFault} (Err f) (Ok x) → B
no_fault e = absurd (true≢false (sym (ap is_ok e)))

abbrev value_or : {A : Type 0} → A → Result A FileFault → A
value_or d (Ok x) = x
value_or d (Err f) = d

pub value_same : {A : Type 0} {x y : A} → ◌≡◌ {A = Result A FileFault} (Ok x) (Ok y) → x ≡ y
value_same {x = x} e = ap (value_or x) e

none_some : {A B : Type 0} {x : A} → ◌≡◌ {A = Option A} None (Some x) → B
none_some e = absurd (true≢false (sym (ap is_some e)))

append_one : (front : List Symbol) (token : Symbol) (back : List Symbol) → (front ++ token ∷ []) ++ back ≡ front ++ token ∷ back
append_one [] token back = refl
append_one (t ∷ front) token back = ap (λ (us : List Symbol). t ∷ us) (append_one front token back)

module _ (bytes : List ℕ) where
  abbrev ts : List Symbol
  ts = tokens_of bytes

  abbrev n : ℕ
  n = length (lines_of bytes)

  -- ---- what the outcome says, from the reading

  outcome_long : byte_limit < length bytes → outcome bytes ≡ Err (fault_at 0 kinds.TooLong)
  outcome_long lt = by (nat_lt byte_limit (length bytes)) refl
    where
      by : (b : Bool) → nat_lt byte_limit (length bytes) ≡ b → cond b (Err (fault_at 0 kinds.TooLong)) (chain (reads start n ts) closed) ≡ Err (fault_at 0 kinds.TooLong)
      by true e = refl
      by false e = let le : length bytes ≤ byte_limit = ltb-false byte_limit (length bytes) e in absurd (omega (arith, lt, le))

  outcome_read : length bytes ≤ byte_limit → outcome bytes ≡ chain (reads start n ts) closed
  outcome_read le = by (nat_lt byte_limit (length bytes)) refl
    where
      by : (b : Bool) → nat_lt byte_limit (length bytes) ≡ b → cond b (Err (fault_at 0 kinds.TooLong)) (chain (reads start n ts) closed) ≡ chain (reads start n ts) closed
      by true e = let lt : byte_limit < length bytes = ltb-true byte_limit (length bytes) e in absurd (omega (arith, lt, le))
      by false e = refl

  -- ---- models

  known_through : (front : List Symbol) (token : Symbol) (back : List Symbol) (x y : Seen) → Before start ts front token back x → step x token.class (first_class back) token.text ≡ Ok y → known start (front ++ token ∷ []) (first_class back) ≡ Ok y
  known_through front token back x y b f = known_one front start token x y (first_class back) b.good f

  -- the tokens as far as the end are a file, and give what the reader gives
  pub lp_of : length bytes ≤ byte_limit → (c : Contents) → chain (reads start n ts) closed ≡ Ok c → Lp bytes c
  lp_of fits c h = by_trace (reads start n ts) refl h (trace ts start n refl)
    where
      by_crossed : (front : List Symbol) (token : Symbol) (back : List Symbol) (x y : Seen) → Before start ts front token back x → step x token.class (first_class back) token.text ≡ Ok y → is_end y.place ≡ true
          → reads start n ts ≡ Ok (y.draft, token.line) → (o : Option Pair) → first_crossed y.draft ≡ o → closed_by o y.draft token.line ≡ Ok c → Lp bytes c
      by_crossed front token back x y b f e r None u g =
          let w = end_whole (front ++ token ∷ []) (first_class back) y (known_through front token back x y b f) e in
          let is : items_of ts ≡ file w.tree (items_of back) =
          ap items_of (b.is ∙ sym (append_one front token back)) ∙ items_append (front ++ token ∷ []) back ∙ ap (λ (is : List Item). is ++ items_of back) w.is ∙ file_behind (items_of back) w.tree in
          record {
            fits = fits;
            tree = w.tree;
            rest = items_of back;
            is = is;
            closed = closed_before w.tree [] (items_of back) w.closed;
            draft = y.draft;
            gives = sym (file_run w.tree (items_of back) (closed_before w.tree [] (items_of back) w.closed)) ∙ ap (λ (is : List Item). runs start is) (sym is) ∙ sym (bare_reads ts start n) ∙ ap bare r;
            uncrossed = u;
            contents = sym (value_same g);
          }
      by_crossed front token back x y b f e r (Some p) u g = no_fault g

      by_trace : (r : Result (Draft × ℕ) FileFault) → reads start n ts ≡ r → chain r closed ≡ Ok c → Trace start n ts (reads start n ts) → Lp bytes c
      by_trace r e g (Stopped front token back x kind b f k) = no_fault (ap (λ (q : Result (Draft × ℕ) FileFault). chain q closed) (sym k ∙ e) ∙ g)
      by_trace r e g (Over x k o l) = no_fault (ap (λ (q : Result (Draft × ℕ) FileFault). chain q closed) (sym l ∙ e) ∙ g)
      by_trace r e g (Ended front token back x y b f k l) =
          by_crossed front token back x y b f k l (first_crossed y.draft) refl (ap (λ (q : Result (Draft × ℕ) FileFault). chain q closed) (sym l ∙ e) ∙ g)

  pub lp_of_outcome : (c : Contents) → outcome bytes ≡ Ok c → Lp bytes c
  lp_of_outcome c h = by (nat_lt byte_limit (length bytes)) refl h
    where
      by : (b : Bool) → nat_lt byte_limit (length bytes) ≡ b → cond b (Err (fault_at 0 kinds.TooLong)) (chain (reads start n ts) closed) ≡ Ok c → Lp bytes c
      by true e g = no_fault g
      by false e g = lp_of (ltb-false byte_limit (length bytes) e) c g

  pub lp_outcome : (c : Contents) → Lp bytes c → outcome bytes ≡ Ok c
  lp_outcome c l = outcome_read l.fits ∙ by (reads start n ts) gives
    where
      gives : bare (reads start n ts) ≡ Ok l.draft
      gives = bare_reads ts start n ∙ ap (λ (is : List Item). runs start is) l.is ∙ file_run l.tree l.rest l.closed ∙ l.gives

      by : (r : Result (Draft × ℕ) FileFault) → bare r ≡ Ok l.draft → chain r closed ≡ Ok c
      by (Ok p) e =
          ap (λ (d : Draft). closed_by (first_crossed d) d p.1) (ok_same e) ∙ ap (λ (o : Option Pair). closed_by o l.draft p.1) l.uncrossed ∙ ap (λ (k : Contents). Ok k) (sym l.contents)
      by (Err f) e = not_ok e

  -- ---- first faults

  stands : (front : List Symbol) (token : Symbol) (back : List Symbol) (x : Seen) → length bytes ≤ byte_limit → Before start ts front token back x → Stands bytes front token back x
  stands front token back x fits b = record { fits = fits; is = b.is; good = b.good; unended = open_of front token.class x b.good b.unended }

  section_is : (front : List Symbol) (next : Class) (x : Seen) → known start front next ≡ Ok x → is_end x.place ≡ false → section_at x.place ≡ section_of front
  section_is front next x h o = sectioned front start x next h o

  stopped : (front : List Symbol) (token : Symbol) (back : List Symbol) (x : Seen) (kind : FileKind) (f : FileFault) → length bytes ≤ byte_limit → Before start ts front token back x
      → step x token.class (first_class back) token.text ≡ Err kind → f ≡ fault_at token.line kind → FirstFault bytes f
  stopped front token back x kind f fits b h e = by (move_of x.place token.class (first_class back)) refl h
    where
      by : (m : Option Move) → move_of x.place token.class (first_class back) ≡ m → done m x token.class token.text ≡ Err kind → FirstFault bytes f
      by None g k =
          Refused front token back x (stands front token back x fits b) (refused_begins front token x b.good (first_class back) g)
          (e ∙ ap (λ (l : FileKind). fault_at token.line l) (sym (kind_same k) ∙ ap (λ (z : Section). refusal z token.class) (section_is front token.class x b.good b.unended)))
      by (Some m) g k = Faulty front token back x kind (stands front token back x fits b) (taken_begins front token x b.good (first_class back) m g) h e

  pub fault_of : (f : FileFault) → outcome bytes ≡ Err f → FirstFault bytes f
  fault_of f h = by (nat_lt byte_limit (length bytes)) refl h
    where
      ended : (front : List Symbol) (token : Symbol) (back : List Symbol) (x y : Seen) → length bytes ≤ byte_limit → Before start ts front token back x → step x token.class (first_class back) token.text ≡ Ok y → is_end y.place ≡ true
          → (o : Option Pair) → first_crossed y.draft ≡ o → closed_by o y.draft token.line ≡ Err f → FirstFault bytes f
      ended front token back x y fits b g e None u k = no_fault (sym k)
      ended front token back x y fits b g e (Some p) u k =
          Crossing front token back x y p (stands front token back x fits b) (end_whole (front ++ token ∷ []) (first_class back) y (known_through front token back x y b g) e) g u (sym (fault_same k))

      by_trace : length bytes ≤ byte_limit → chain (reads start n ts) closed ≡ Err f → Trace start n ts (reads start n ts) → FirstFault bytes f
      by_trace fits g (Stopped front token back x kind b k l) = stopped front token back x kind f fits b k (sym (fault_same (sym (ap (λ (q : Result (Draft × ℕ) FileFault). chain q closed) l) ∙ g)))
      by_trace fits g (Ended front token back x y b k e l) = ended front token back x y fits b k e (first_crossed y.draft) refl (sym (ap (λ (q : Result (Draft × ℕ) FileFault). chain q closed) l) ∙ g)
      by_trace fits g (Over x k o l) = Missing x fits k (open_of ts classes.Bad x k o) (sym (fault_same (sym (ap (λ (q : Result (Draft × ℕ) FileFault). chain q closed) l) ∙ g)))

      by : (b : Bool) → nat_lt byte_limit (length bytes) ≡ b → cond b (Err (fault_at 0 kinds.TooLong)) (chain (reads start n ts) closed) ≡ Err f → FirstFault bytes f
      by true e g = TooLong (ltb-true byte_limit (length bytes) e) (sym (fault_same g))
      by false e g = by_trace (ltb-false byte_limit (length bytes) e) g (trace ts start n refl)

  -- a token behind those in front of it is read
  reads_stands : (front : List Symbol) (token : Symbol) (back : List Symbol) (x : Seen) → Stands bytes front token back x
      → reads start n ts ≡ taken (step x token.class (first_class back) token.text) token.line (λ s. reads s n back)
  reads_stands front token back x s = ap (λ (us : List Symbol). reads start n us) s.is ∙ reads_before front start n token back x s.good (open_is front token.class x s.good s.unended)

  -- what no file goes on with is refused
  step_refused : (front : List Symbol) (token : Symbol) (back : List Symbol) (x : Seen) → Stands bytes front token back x → ¬ Begins (through front token)
      → step x token.class (first_class back) token.text ≡ Err (refusal (section_of front) token.class)
  step_refused front token back x s none = by (move_of x.place token.class (first_class back)) refl
    where
      by : (m : Option Move) → move_of x.place token.class (first_class back) ≡ m → done m x token.class token.text ≡ Err (refusal (section_of front) token.class)
      by None e = ap (λ (z : Section). Err (refusal z token.class)) (section_is front token.class x s.good (open_is front token.class x s.good s.unended))
      by (Some m) e = absurd (none (taken_begins front token x s.good (first_class back) m e))

  outcome_faulty : (front : List Symbol) (token : Symbol) (back : List Symbol) (x : Seen) (kind : FileKind) → Stands bytes front token back x → step x token.class (first_class back) token.text ≡ Err kind → outcome bytes ≡ Err (fault_at token.line kind)
  outcome_faulty front token back x kind s h =
      outcome_read s.fits ∙ ap (λ (q : Result (Draft × ℕ) FileFault). chain q closed) (reads_stands front token back x s ∙ ap (λ (q : Result Seen FileKind). taken q token.line (λ s. reads s n back)) h)

  pub fault_outcome : (f : FileFault) → FirstFault bytes f → outcome bytes ≡ Err f
  fault_outcome f (TooLong lt e) = outcome_long lt ∙ ap (λ (g : FileFault). Err g) (sym e)
  fault_outcome f (Refused front token back x s none e) = outcome_faulty front token back x _ s (step_refused front token back x s none) ∙ ap (λ (g : FileFault). Err g) (sym e)
  fault_outcome f (Faulty front token back x kind s some h e) = outcome_faulty front token back x kind s h ∙ ap (λ (g : FileFault). Err g) (sym e)
  fault_outcome f (Crossing front token back x y p s w h u e) =
      outcome_read s.fits
      ∙ ap (λ (q : Result (Draft × ℕ) FileFault). chain q closed) (reads_stands front token back x s ∙ ap (λ (q : Result Seen FileKind). taken q token.line (λ s. reads s n back)) h
      ∙ ap (λ b. cond b (Ok (y.draft, token.line)) (reads y n back)) (whole_end (front ++ token ∷ []) (first_class back) y (known_one front start token x y (first_class back) s.good h) w))
      ∙ ap (λ (o : Option Pair). closed_by o y.draft token.line) u ∙ ap (λ (g : FileFault). Err g) (sym e)
  fault_outcome f (Missing x fits h o e) =
      outcome_read fits ∙ ap (λ (q : Result (Draft × ℕ) FileFault). chain q closed) (reads_over ts start n x h (open_is ts classes.Bad x h o)) ∙ ap (λ (g : FileFault). Err g) (sym e)

-- ---- laws

pub one_model : (bytes : List ℕ) (c d : Contents) → Lp bytes c → Lp bytes d → c ≡ d
one_model bytes c d a b = value_same (sym (lp_outcome bytes c a) ∙ lp_outcome bytes d b)

pub one_fault : (bytes : List ℕ) (f g : FileFault) → FirstFault bytes f → FirstFault bytes g → f ≡ g
one_fault bytes f g a b = fault_same (sym (fault_outcome bytes f a) ∙ fault_outcome bytes g b)

pub not_both : (bytes : List ℕ) (c : Contents) (f : FileFault) → Lp bytes c → FirstFault bytes f → ⊥
not_both bytes c f a b = no_fault (sym (fault_outcome bytes f b) ∙ lp_outcome bytes c a)

pub model_or_fault : (bytes : List ℕ) → HasModelOrFault bytes
model_or_fault bytes = by (outcome bytes) refl
  where
    by : (r : Result Contents FileFault) → outcome bytes ≡ r → HasModelOrFault bytes
    by (Ok c) e = inl (c, lp_of_outcome bytes c e)
    by (Err f) e = inr (f, fault_of bytes f e)
