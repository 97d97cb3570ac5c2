-- Where a reader of tokens stops: at a faulty one, at the end of the file, or behind the last token.
use Rattle.std.proofs.Common.{◌≡◌, ℕ, ◌+◌, Bool, true, false, cond, List, [], ◌∷◌, ◌++◌, Result, Ok, Err, refl, sym, ap, ◌∙◌}
use Rattle.pami_frac.specs.Answers.{then as chain}
use Rattle.pami_model.specs.declared.fault.FileFault.{FileFault}
use Rattle.pami_model.specs.declared.fault.FileKind.{FileKind}
use Rattle.pami_model.specs.declared.fault.FileKind.TheVariants as kinds
use Rattle.pami_model.specs.Draft.{Draft}
use Rattle.pami_lp_text.specs.Classes.{Symbol}
use Rattle.pami_lp_text.specs.declared.kind.Class.{Class}
use Rattle.pami_lp_text.specs.declared.kind.Class.TheVariants as classes
use Rattle.pami_lp.specs.Acts.{Seen}
use Rattle.pami_lp.specs.Lp.{class_or, known}
use Rattle.pami_lp.specs.Outcome.{fault_at, first_class, is_end, reads, taken}
use Rattle.pami_lp.specs.Run.{step}
use Rattle.pami_lp.proofs.Stepped.{ok_same, open_before, unfolded}

-- known tokens in front of a token, behind which the file isn't at its end
pub record Before (s : Seen) (ts front : List Symbol) (token : Symbol) (back : List Symbol) (x : Seen) : Type 0 where
  pub is : ts ≡ front ++ token ∷ back
  pub good : known s front token.class ≡ Ok x
  pub unended : is_end x.place ≡ false

pub data Trace (s : Seen) (n : ℕ) (ts : List Symbol) (r : Result (Draft × ℕ) FileFault) : Type 0 where
  Stopped : (front : List Symbol) → (token : Symbol) → (back : List Symbol) → (x : Seen) → (kind : FileKind) → Before s ts front token back x
      → step x token.class (first_class back) token.text ≡ Err kind → r ≡ Err (fault_at token.line kind) → Trace s n ts r
  Ended : (front : List Symbol) → (token : Symbol) → (back : List Symbol) → (x y : Seen) → Before s ts front token back x
      → step x token.class (first_class back) token.text ≡ Ok y → is_end y.place ≡ true → r ≡ Ok (y.draft, token.line) → Trace s n ts r
  Over : (x : Seen) → known s ts classes.Bad ≡ Ok x → is_end x.place ≡ false → r ≡ Err (fault_at (n + 1) kinds.EndMissing) → Trace s n ts r

-- ---- lookahead

first_or : (front : List Symbol) (token : Symbol) (back : List Symbol) → first_class (front ++ token ∷ back) ≡ class_or token.class front
first_or [] token back = refl
first_or (t ∷ front) token back = refl

first_bad : (ts : List Symbol) → first_class ts ≡ class_or classes.Bad ts
first_bad [] = refl
first_bad (t ∷ ts) = refl

step_known : (s x : Seen) (t : Symbol) (ts : List Symbol) (next : Class) (y : Seen) → step s t.class (class_or next ts) t.text ≡ Ok x → known x ts next ≡ Ok y → known s (t ∷ ts) next ≡ Ok y
step_known s x t ts next y e h = ap (λ (r : Result Seen FileKind). chain r (λ z. known z ts next)) e ∙ h

-- ---- one token more in front

before : (s x : Seen) (t : Symbol) (ts front : List Symbol) (token : Symbol) (back : List Symbol) (y : Seen) → step s t.class (first_class ts) t.text ≡ Ok x → Before x ts front token back y → Before s (t ∷ ts) (t ∷ front) token back y
before s x t ts front token back y e b = record {
  is = ap (λ (us : List Symbol). t ∷ us) b.is;
  good = step_known s x t front token.class y (ap (λ (a : Class). step s t.class a t.text) (sym (first_or front token back) ∙ sym (ap first_class b.is)) ∙ e) b.good;
  unended = b.unended;
}

extend : (s x : Seen) (n : ℕ) (t : Symbol) (ts : List Symbol) (r : Result (Draft × ℕ) FileFault) → step s t.class (first_class ts) t.text ≡ Ok x → Trace x n ts r → Trace s n (t ∷ ts) r
extend s x n t ts r e (Stopped front token back y kind b f h) = Stopped (t ∷ front) token back y kind (before s x t ts front token back y e b) f h
extend s x n t ts r e (Ended front token back y z b f g h) = Ended (t ∷ front) token back y z (before s x t ts front token back y e b) f g h
extend s x n t ts r e (Over y k o h) = Over y (step_known s x t ts classes.Bad y (ap (λ (a : Class). step s t.class a t.text) (sym (first_bad ts)) ∙ e) k) o h

pub trace : (ts : List Symbol) (s : Seen) (n : ℕ) → is_end s.place ≡ false → Trace s n ts (reads s n ts)
trace [] s n e = Over s refl e refl
trace (t ∷ ts) s n e = by (step s t.class (first_class ts) t.text) refl (λ x f. trace ts x n f)
  where
    at : (x : Seen) (b : Bool) → step s t.class (first_class ts) t.text ≡ Ok x → is_end x.place ≡ b → (is_end x.place ≡ false → Trace x n ts (reads x n ts)) → Trace s n (t ∷ ts) (cond b (Ok (x.draft, t.line)) (reads x n ts))
    at x true f g ih = Ended [] t ts s x (record { is = refl; good = refl; unended = e }) f g refl
    at x false f g ih = extend s x n t ts (reads x n ts) f (ih g)

    by : (r : Result Seen FileKind) → step s t.class (first_class ts) t.text ≡ r → ((x : Seen) → is_end x.place ≡ false → Trace x n ts (reads x n ts)) → Trace s n (t ∷ ts) (taken r t.line (λ x. reads x n ts))
    by (Err kind) f ih = Stopped [] t ts s kind (record { is = refl; good = refl; unended = e }) f refl
    by (Ok x) f ih = at x (is_end x.place) f refl (ih x)

-- ---- and back: known tokens are read

taken_on : (r : Result Seen FileKind) (x : Seen) (line : ℕ) (rest : Seen → Result (Draft × ℕ) FileFault) → r ≡ Ok x → is_end x.place ≡ false → taken r line rest ≡ rest x
taken_on r x line rest e f = ap (λ (q : Result Seen FileKind). taken q line rest) e ∙ ap (λ b. cond b (Ok (x.draft, line)) (rest x)) f

pub reads_before : (front : List Symbol) (s : Seen) (n : ℕ) (token : Symbol) (back : List Symbol) (x : Seen) → known s front token.class ≡ Ok x → is_end x.place ≡ false
    → reads s n (front ++ token ∷ back) ≡ reads x n (token ∷ back)
reads_before [] s n token back x h o = ap (λ (y : Seen). reads y n (token ∷ back)) (ok_same h)
reads_before (t ∷ front) s n token back x h o =
    let u = unfolded s x t front token.class h in
    taken_on (step s t.class (first_class (front ++ token ∷ back)) t.text) u.then t.line (λ y. reads y n (front ++ token ∷ back))
    (ap (λ (a : Class). step s t.class a t.text) (first_or front token back) ∙ u.first) (open_before front u.then x token.class u.rest o)
    ∙ reads_before front u.then n token back x u.rest o

pub reads_over : (ts : List Symbol) (s : Seen) (n : ℕ) (x : Seen) → known s ts classes.Bad ≡ Ok x → is_end x.place ≡ false → reads s n ts ≡ Err (fault_at (n + 1) kinds.EndMissing)
reads_over [] s n x h o = refl
reads_over (t ∷ ts) s n x h o =
    let u = unfolded s x t ts classes.Bad h in
    taken_on (step s t.class (first_class ts) t.text) u.then t.line (λ y. reads y n ts) (ap (λ (a : Class). step s t.class a t.text) (first_bad ts) ∙ u.first) (open_before ts u.then x classes.Bad u.rest o)
    ∙ reads_over ts u.then n x u.rest o

-- known tokens and one more
pub known_one : (front : List Symbol) (s : Seen) (token : Symbol) (x y : Seen) (next : Class) → known s front token.class ≡ Ok x → step x token.class next token.text ≡ Ok y → known s (front ++ token ∷ []) next ≡ Ok y
known_one [] s token x y next h e = ap (λ (z : Seen). known z (token ∷ []) next) (ok_same h) ∙ step_known x y token [] next y e refl
known_one (t ∷ front) s token x y next h e =
    let u = unfolded s x t front token.class h in
    step_known s u.then t (front ++ token ∷ []) next y (ap (λ (a : Class). step s t.class a t.text) (by front) ∙ u.first) (known_one front u.then token x y next u.rest e)
  where
    by : (us : List Symbol) → class_or next (us ++ token ∷ []) ≡ class_or token.class us
    by [] = refl
    by (u ∷ us) = refl
