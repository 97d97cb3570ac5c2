-- Whole texts: tokens one after another.
use Rattle.std.proofs.Common.{◌≡◌, ◌<◌, ◌≤◌, ◌+◌, ℕ, zero, suc, true, false, cond, List, [], ◌∷◌, length, get_or, drop, Result, Ok, Err, refl, sym, ap, ◌∙◌, arith, drop-cons}
use Rattle.std.proofs.lemmas.List.{get_or-map, length-map}
use Rattle.pami_frac.specs.declared.fault.Fault.{Fault}
use Rattle.pami_frac.specs.declared.fault.Fault.TheVariants as faults
use Rattle.pami_model.specs.declared.fault.FileKind.{FileKind}
use Rattle.pami_model.specs.declared.fault.FileKind.TheVariants as kinds
use Rattle.pami_model.specs.declared.fault.FileFault.{FileFault}
use Rattle.pami_lp_text.specs.declared.kind.Class.{Class}
use Rattle.pami_lp_text.specs.declared.token.Token.{Token}
use Rattle.pami_lp_text.specs.Lexeme.{Word}
use Rattle.pami_lp_text.specs.Classes.{symbols, first_text, class_by}
use Rattle.pami_lp_text.specs.Told.{told, all_told}
use Rattle.pami_frac.specs.Answers.{FollowsBy}
use Rattle.pami_model.specs.Draft.{Draft}
use Rattle.pami_lp.specs.Acts.{Seen}
use Rattle.pami_lp.specs.Run.{start, step}
use Rattle.pami_lp.specs.Outcome.{ended, first_class, reads, taken, fault_at, is_end, lined}

pub past : {A : Type 0} (i : ℕ) (xs : List A) → length xs ≤ i → drop i xs ≡ []
past zero [] le = refl
past (suc i) [] le = refl
past zero (x ∷ xs) le = absurd (omega arith)
past (suc i) (x ∷ xs) le = past i xs (omega arith)

symbols_drop : (i : ℕ) (ws : List Word) → drop i (symbols ws) ≡ symbols (drop i ws)
symbols_drop zero ws = refl
symbols_drop (suc i) [] = refl
symbols_drop (suc i) (w ∷ ws) = symbols_drop i ws

pub told_at : (ts : List Token) (i : ℕ) (d : Token) → i < length ts → drop i (all_told ts) ≡ told (get_or ts i d) ∷ drop (i + 1) (all_told ts)
told_at ts i d lt =
    let m : length (all_told ts) ≡ length ts = length-map ts told in
    let s : suc i ≡ i + 1 = omega arith in
    drop-cons (all_told ts) i (told d) (omega arith) ∙ ap (λ (w : Word). w ∷ drop (suc i) (all_told ts)) (get_or-map told ts i d (told d) lt)
    ∙ ap (λ (k : ℕ). told (get_or ts i d) ∷ drop k (all_told ts)) s

pub told_past : (ts : List Token) (i : ℕ) → length ts ≤ i → drop i (all_told ts) ≡ []
told_past ts i le = let m : length (all_told ts) ≡ length ts = length-map ts told in past i (all_told ts) (omega arith)

pub text_here : (ts : List Token) (i : ℕ) (d : Token) → i < length ts → (get_or ts i d).text.now ≡ first_text (drop i (all_told ts))
text_here ts i d lt = sym (ap first_text (told_at ts i d lt))

pub text_past : (ts : List Token) (i : ℕ) → length ts ≤ i → [] ≡ first_text (drop i (all_told ts))
text_past ts i le = sym (ap first_text (told_past ts i le))

pub class_past : (ts : List Token) (i : ℕ) → length ts ≤ i → first_class [] ≡ first_class (drop i (symbols (all_told ts)))
class_past ts i le = sym (ap first_class (symbols_drop i (all_told ts)) ∙ ap (λ (ws : List Word). first_class (symbols ws)) (told_past ts i le))

pub class_here : (ts : List Token) (i : ℕ) (d : Token) (after : List ℕ) → i < length ts → after ≡ first_text (drop (i + 1) (all_told ts)) → class_by (get_or ts i d).text.now (get_or ts i d).first after ≡ first_class (drop i (symbols (all_told ts)))
class_here ts i d after lt a = sym (
    ap first_class (symbols_drop i (all_told ts)) ∙ ap (λ (ws : List Word). first_class (symbols ws)) (told_at ts i d lt)
    ∙ ap (class_by (get_or ts i d).text.now (get_or ts i d).first) (sym a))

module _ (ts : List Token) (lines : ℕ) where
  -- the first i tokens were taken
  pub record At (i : ℕ) (s : Seen) : Type 0 where
    pub all : reads start lines (symbols (all_told ts)) ≡ reads s lines (symbols (drop i (all_told ts)))

  pub at_start : (s : Seen) → s ≡ start → At 0 s
  at_start s e = record { all = ap (λ (x : Seen). reads x lines (symbols (all_told ts))) (sym e) }

  pub one : (i : ℕ) (s : Seen) (d : Token) (class after : Class) → At i s → i < length ts → class ≡ first_class (drop i (symbols (all_told ts))) → after ≡ first_class (drop (i + 1) (symbols (all_told ts)))
      → reads start lines (symbols (all_told ts)) ≡ taken (step s class after (get_or ts i d).text.now) (get_or ts i d).line (λ (x : Seen). reads x lines (symbols (drop (i + 1) (all_told ts))))
  one i s d class after so lt c a =
      so.all ∙ ap (λ (ws : List Word). reads s lines (symbols ws)) (told_at ts i d lt)
      ∙ ap (λ (k : Class). taken (step s k (first_class (symbols (drop (i + 1) (all_told ts)))) (get_or ts i d).text.now) (get_or ts i d).line (λ (x : Seen). reads x lines (symbols (drop (i + 1) (all_told ts))))) (class_here ts i d (first_text (drop (i + 1) (all_told ts))) lt refl ∙ sym c)
      ∙ ap (λ (k : Class). taken (step s class k (get_or ts i d).text.now) (get_or ts i d).line (λ (x : Seen). reads x lines (symbols (drop (i + 1) (all_told ts))))) (ap first_class (sym (symbols_drop (i + 1) (all_told ts))) ∙ sym a)

  pub refused : (r : Result Seen FileKind) (line : ℕ) (rest : Seen → Result (Draft × ℕ) FileFault) (A : Type 0) (f : A → Seen) (fault : Fault FileKind) → reads start lines (symbols (all_told ts)) ≡ taken r line rest → FollowsBy f r (Err fault) → FollowsBy ended (reads start lines (symbols (all_told ts))) (Err (lined line fault))
  refused r line rest A f (faults.Named k) h g = h ∙ ap (λ (x : Result Seen FileKind). taken x line rest) g
  refused r line rest A f faults.OutOfMemory h g = tt

  pub reached : (t : Seen) (r : Result Seen FileKind) (line : ℕ) (rest : Seen → Result (Draft × ℕ) FileFault) → reads start lines (symbols (all_told ts)) ≡ taken r line rest → r ≡ Ok t → is_end t.place ≡ true → reads start lines (symbols (all_told ts)) ≡ Ok (t.draft, line)
  reached t r line rest h g e = h ∙ ap (λ (x : Result Seen FileKind). taken x line rest) g ∙ ap (λ b. cond b (Ok (t.draft, line)) (rest t)) e

  pub on : (i : ℕ) (t : Seen) (r : Result Seen FileKind) (line : ℕ) → reads start lines (symbols (all_told ts)) ≡ taken r line (λ (x : Seen). reads x lines (symbols (drop (i + 1) (all_told ts)))) → r ≡ Ok t → is_end t.place ≡ false → At (i + 1) t
  on i t r line h g e = record { all = h ∙ ap (λ (x : Result Seen FileKind). taken x line (λ (x : Seen). reads x lines (symbols (drop (i + 1) (all_told ts))))) g ∙ ap (λ b. cond b (Ok (t.draft, line)) (reads t lines (symbols (drop (i + 1) (all_told ts))))) e }

  pub unended : (i : ℕ) (s : Seen) → At i s → length ts ≤ i → reads start lines (symbols (all_told ts)) ≡ Err (fault_at (lines + 1) kinds.EndMissing)
  unended i s so le = so.all ∙ ap (λ (ws : List Word). reads s lines (symbols ws)) (told_past ts i le)

  -- the token at i, between its class and that of the next
  module _ (i : ℕ) (s : Seen) (d : Token) (class after : Class) (so : At i s) (lt : i < length ts) (c : class ≡ first_class (drop i (symbols (all_told ts)))) (a : after ≡ first_class (drop (i + 1) (symbols (all_told ts)))) where
    abbrev here : Result Seen FileKind
    here = step s class after (get_or ts i d).text.now

    abbrev onward : Seen → Result (Draft × ℕ) FileFault
    onward x = reads x lines (symbols (drop (i + 1) (all_told ts)))

    pub stopped : (A : Type 0) (f : A → Seen) (fault : Fault FileKind) → FollowsBy f here (Err fault) → FollowsBy ended (reads start lines (symbols (all_told ts))) (Err (lined (get_or ts i d).line fault))
    stopped A f fault g = refused here (get_or ts i d).line onward A f fault (one i s d class after so lt c a) g

    pub finished : (t : Seen) → here ≡ Ok t → is_end t.place ≡ true → reads start lines (symbols (all_told ts)) ≡ Ok (t.draft, (get_or ts i d).line)
    finished t g e = reached t here (get_or ts i d).line onward (one i s d class after so lt c a) g e

    pub goes : (t : Seen) → here ≡ Ok t → is_end t.place ≡ false → At (i + 1) t
    goes t g e = on i t here (get_or ts i d).line (one i s d class after so lt c a) g e
