-- The steps of the dense script are the stored ones with the numbers that the rows had at the places of earlier steps.
use Rattle.std.proofs.Common.{◌≡◌, ℕ, zero, suc, ◌<◌, ◌≤◌, List, [], ◌∷◌, length, set, replicate, refl, sym, ap, ◌∙◌, subst, arith, Bool, true, false, ⊎_elim, Option, Some, None, Result, Ok, Err}
use Rattle.std.proofs.lemmas.Bool.{true≢false, cases_eq, cases_lt}
use Rattle.std.proofs.lemmas.List.{get_or-set_same, get_or-set_other, get_or_default, get_or_past, get_or-replicate, length-set, length-replicate, same_lists}
use lib.IntN.{pos}
use lib.Dec.{T}
use Rattle.pami_algebra.specs.Fraction.{Fraction}
use Rattle.pami_algebra.specs.Operations.{of_int, ◌*ᶠ◌, ◌/ᶠ◌}
use Rattle.pami_algebra.proofs.Field.{div_mul_f}
use Rattle.pami_algebra.proofs.Tests.{not_zero_iff}
use Rattle.pami_linear.specs.Active.{first_from, but, count}
use Rattle.pami_linear.proofs.Parts.{count_but, count_same, count_none, count_all}
use Rattle.pami_linear.specs.Lists.{get}
use Rattle.pami_linear.specs.Pivoting.{Pivot, pivot, at_pivot}
use Rattle.pami_linear.proofs.Unique.{pivot_moved}
use Rattle.pami_frac.specs.declared.arithmetic.Refused.{Refused}
use Rattle.pami_factoring.specs.declared.kept.Kept.{Kept}
use Rattle.pami_factoring.specs.declared.kept.LuFault.{LuFault}
use Rattle.pami_factoring.specs.declared.kept.LuFault.TheVariants.{Singular, Refused as Unfit}
use Rattle.pami_factoring.specs.Factor.{flag, row_at, entry, reduce_rows, step_at, then_more, then_step, elimination_from, elimination_script}
use Rattle.pami_factoring.specs.Steps.{IsSquare}
use Rattle.pami_factoring.proofs.Programs.{step_count}
use Rattle.pami_factoring.proofs.Shapes.{Shape, Pivoted, at_pivoted, flag_but, flag_in, true_of}
use Rattle.pami_lu.specs.declared.step.SparseStep.{SparseStep}
use Rattle.pami_lu.specs.Clear.{clear_rows, clear_step, then_sparse, then_clear, clear_from, clear_script}
use Rattle.pami_lu.specs.Cleaned.{IsCleaned}
use Rattle.pami_lu.specs.Stored.{with_passed, full_step, full_steps, IsStored, AreStored, AreWhole}
use Rattle.pami_lu.proofs.Alike.{Both, both_then, both_each, AreRowsAlike, IsPair, AreLowAlike, low_alike}
use Rattle.pami_lu.proofs.Stepped.{all_cleaned}

-- ---- the places of earlier steps
-- none of them is active
abbrev pub ArePassed : List Bool → List SparseStep → Type 0
ArePassed cs [] = Unit {0}
ArePassed cs (s ∷ earlier) = (flag cs s.place ≡ false) × ArePassed cs earlier

pub passed_length : (earlier : List SparseStep) (i : ℕ) (row : List Fraction) → length (with_passed earlier i row) ≡ length row
passed_length [] i row = refl
passed_length (s ∷ earlier) i row = length-set (with_passed earlier i row) s.place (get s.multipliers i *ᶠ get s.kept s.place) ∙ passed_length earlier i row

-- an active place keeps its number
pub passed_active : (cs : List Bool) (earlier : List SparseStep) (i : ℕ) (row : List Fraction) (g : ℕ) → ArePassed cs earlier → flag cs g ≡ true → get (with_passed earlier i row) g ≡ get row g
passed_active cs [] i row g a e = refl
passed_active cs (s ∷ earlier) i row g a e =
    get_or-set_other (with_passed earlier i row) s.place g (get s.multipliers i *ᶠ get s.kept s.place) (of_int (pos 0)) (λ q. true≢false (sym e ∙ ap (flag cs) q ∙ a.0))
    ∙ passed_active cs earlier i row g a.1 e

-- what stands at a place depends on the number of the row there alone
pub passed_same : (earlier : List SparseStep) (i : ℕ) (xs ys : List Fraction) (g : ℕ) → length xs ≡ length ys → g < length xs → get xs g ≡ get ys g → get (with_passed earlier i xs) g ≡ get (with_passed earlier i ys) g
passed_same [] i xs ys g l k e = e
passed_same (s ∷ earlier) i xs ys g l k e =
    let v : Fraction = get s.multipliers i *ᶠ get s.kept s.place in
    let lx : length (with_passed earlier i xs) ≡ length xs = passed_length earlier i xs in
    let ly : length (with_passed earlier i ys) ≡ length ys = passed_length earlier i ys in
    ⊎_elim
    (λ (q : g ≡ s.place).
    ap (get (set (with_passed earlier i xs) s.place v)) q ∙ get_or-set_same (with_passed earlier i xs) s.place v (of_int (pos 0)) (omega arith)
    ∙ sym (ap (get (set (with_passed earlier i ys) s.place v)) q ∙ get_or-set_same (with_passed earlier i ys) s.place v (of_int (pos 0)) (omega arith)))
    (λ (q : ¬ (g ≡ s.place)).
    get_or-set_other (with_passed earlier i xs) s.place g v (of_int (pos 0)) q
    ∙ passed_same earlier i xs ys g l k e
    ∙ sym (get_or-set_other (with_passed earlier i ys) s.place g v (of_int (pos 0)) q))
    (cases_eq g s.place)

-- a flag that isn't set stays so
pub out_stays : (cs : List Bool) (p g : ℕ) → flag cs g ≡ false → flag (set cs p false) g ≡ false
out_stays [] p g e = e
out_stays (c ∷ cs) zero zero e = refl
out_stays (c ∷ cs) zero (suc g) e = e
out_stays (c ∷ cs) (suc p) zero e = e
out_stays (c ∷ cs) (suc p) (suc g) e = out_stays cs p g e

pub passed_after : (cs : List Bool) (p : ℕ) (earlier : List SparseStep) → ArePassed cs earlier → ArePassed (set cs p false) earlier
passed_after cs p [] a = tt
passed_after cs p (s ∷ earlier) a = (out_stays cs p s.place a.0, passed_after cs p earlier a.1)

-- ---- rows of the dense script, and what is kept of them
pub record IsFull (m : ℕ) (ts cs : List Bool) (earlier : List SparseStep) (full clear : List (List Fraction)) : Type 0 where
  pub shape : Shape m ts cs full
  pub clear_shape : Shape m ts cs clear
  pub clean : IsCleaned ts cs clear
  pub passed : ArePassed cs earlier
  pub rows : (h : ℕ) → h < m → flag ts h ≡ true → row_at full h ≡ with_passed earlier h (row_at clear h)

-- ---- one step
-- the flag that is taken out, and those that were there
flag_cases : (cs : List Bool) (p g : ℕ) → ¬ (g ≡ p) → flag (set cs p false) g ≡ false → flag cs g ≡ false
flag_cases cs p g n e = sym (get_or-set_other cs p g false false n) ∙ e

-- the rows after a step
row_after : (m i p h : ℕ) (ts cs : List Bool) (earlier : List SparseStep) (s : SparseStep) (full clear next next' : List Fraction) → s.place ≡ p → p < m → flag cs p ≡ true → ArePassed cs earlier →
    full ≡ with_passed earlier h clear → length full ≡ m → length clear ≡ m → ((g : ℕ) → flag cs g ≡ false → get clear g ≡ of_int (pos 0)) → ((g : ℕ) → flag (set cs p false) g ≡ false → get next' g ≡ of_int (pos 0)) →
    flag (set cs p false) p ≡ false → AreRowsAlike (set cs p false) full next next' → get s.multipliers h ≡ get full p /ᶠ get s.kept p → ¬ (get s.kept p ≡ of_int (pos 0)) → next ≡ with_passed (s ∷ earlier) h next'
row_after m i p h ts cs earlier s full clear next next' sp lp inp a e lf lc zc zn out r q n =
    let v : Fraction = get s.multipliers h *ᶠ get s.kept s.place in
    let base : List Fraction = with_passed earlier h next' in
    let ln : length next ≡ length full = r.long in
    let lm : length next' ≡ length full = r.clear_long in
    let lb : length base ≡ length next' = passed_length earlier h next' in
    let ls : length (set base s.place v) ≡ length base = length-set base s.place v in
    same_lists next (set base s.place v) (omega arith)
    (λ g d l. get_or_default next g d (of_int (pos 0)) (omega arith) ∙ at g (omega arith) (omega arith) ∙ sym (get_or_default (set base s.place v) g d (of_int (pos 0)) (omega arith)))
  where
    here : (g : ℕ) → g ≡ p → g < m → get next g ≡ get (set (with_passed earlier h next') s.place (get s.multipliers h *ᶠ get s.kept s.place)) g
    here g w l =
        let ln : length next' ≡ length full = r.clear_long in
        let lb : length (with_passed earlier h next') ≡ length next' = passed_length earlier h next' in
        r.passive g (ap (flag (set cs p false)) w ∙ out)
        ∙ ap (get full) w
        ∙ sym (div_mul_f (get full p) (get s.kept p) n)
        ∙ ap (λ z. z *ᶠ get s.kept p) (sym q)
        ∙ ap (λ j. get s.multipliers h *ᶠ get s.kept j) (sym sp)
        ∙ sym (ap (get (set (with_passed earlier h next') s.place (get s.multipliers h *ᶠ get s.kept s.place))) (w ∙ sym sp)
        ∙ get_or-set_same (with_passed earlier h next') s.place (get s.multipliers h *ᶠ get s.kept s.place) (of_int (pos 0)) (omega arith))

    there : (g : ℕ) → ¬ (g ≡ p) → g < m → (b : Bool) → flag (set cs p false) g ≡ b → get next g ≡ get (with_passed earlier h next') g
    there g w l true f = r.active g f ∙ sym (passed_active cs earlier h next' g a (sym (get_or-set_other cs p g false false w) ∙ f))
    there g w l false f =
        let ln : length next' ≡ length full = r.clear_long in
        r.passive g f ∙ ap (λ xs. get xs g) e
        ∙ passed_same earlier h clear next' g (omega arith) (omega arith) (zc g (flag_cases cs p g w f) ∙ sym (zn g f))

    at : (g : ℕ) → g < m → g < m → get next g ≡ get (set (with_passed earlier h next') s.place (get s.multipliers h *ᶠ get s.kept s.place)) g
    at g l k = ⊎_elim
        (λ (w : g ≡ p). here g w l)
        (λ (w : ¬ (g ≡ p)).
        there g w l (flag (set cs p false) g) refl
        ∙ sym (get_or-set_other (with_passed earlier h next') s.place g (get s.multipliers h *ᶠ get s.kept s.place) (of_int (pos 0)) (λ u. w (u ∙ sp))))
        (cases_eq g p)

-- a step of both
pub record AreStepsAlike (m : ℕ) (ts cs : List Bool) (earlier : List SparseStep) (i p : ℕ) (a : Kept × List (List Fraction)) (b : SparseStep × List (List Fraction)) : Type 0 where
  pub step : a.0 ≡ full_step earlier b.0
  pub row : b.0.row ≡ i
  pub place : b.0.place ≡ p
  pub stored : IsStored m ts cs b.0
  pub next : IsFull m (set ts i false) (set cs p false) (b.0 ∷ earlier) a.1 b.1

pair_of : (m i p h : ℕ) (ts cs : List Bool) (earlier : List SparseStep) (full clear : List (List Fraction)) → IsFull m ts cs earlier full clear → p < m → flag cs p ≡ true → h < m → flag ts h ≡ true →
    IsPair m (set cs p false) p (row_at full h) (row_at clear h)
pair_of m i p h ts cs earlier full clear f lp inp l e = record {
  long = f.shape.same h l e;
  clear_long = f.clear_shape.same h l e;
  active = λ g u. same g (active g u);
  at_pivot = same p inp;
}
  where
    same : (g : ℕ) → flag cs g ≡ true → get (row_at full h) g ≡ get (row_at clear h) g
    same g u = ap (λ xs. get xs g) (f.rows h l e) ∙ passed_active cs earlier h (row_at clear h) g f.passed u

    active : (g : ℕ) → flag (set cs p false) g ≡ true → flag cs g ≡ true
    active g u = let across : length cs ≡ m = f.clear_shape.across in flag_in cs p g (omega arith) u

pub steps_alike : (m i p : ℕ) (ts cs : List Bool) (earlier : List SparseStep) (full clear : List (List Fraction)) → IsFull m ts cs earlier full clear → Pivoted m (flag ts) (flag cs) (entry clear) i p →
    Both (AreStepsAlike m ts cs earlier i p) (step_at (set ts i false) (set cs p false) full i p) (clear_step (set ts i false) (set cs p false) clear i p)
steps_alike m i p ts cs earlier full clear f q =
    let tall : length full ≡ m = f.shape.tall in
    let clear_tall : length clear ≡ m = f.clear_shape.tall in
    let down : length ts ≡ m = f.shape.down in
    let across : length cs ≡ m = f.shape.across in
    let li : i < m = q.row_low in
    let lp : p < m = q.place_low in
    let dn : length (set ts i false) ≡ length ts = length-set ts i false in
    let ac : length (set cs p false) ≡ length cs = length-set cs p false in
    let kept = row_at full i in
    let kept' = row_at clear i in
    let lk : length kept' ≡ m = f.clear_shape.same i li q.row_in in
    let stays : (h : ℕ) → flag (set ts i false) h ≡ true → flag ts h ≡ true = λ h e. flag_in ts i h (omega arith) e in
    both_then (λ low low'. AreLowAlike (set ts i false) (set cs p false) p full kept low low' × IsCleaned (set ts i false) (set cs p false) low'.0)
    (AreStepsAlike m ts cs earlier i p) (reduce_rows (set ts i false) (set cs p false) p full kept) (clear_rows (set ts i false) (set cs p false) p clear kept')
    (λ low. Ok (record { row = i; place = p; kept = kept; multipliers = low.1 }, low.0)) (λ low. Ok (record { row = i; place = p; kept = kept'; multipliers = low.1 }, low.0))
    (both_each (AreLowAlike (set ts i false) (set cs p false) p full kept) (λ (low : List (List Fraction) × List Fraction). IsCleaned (set ts i false) (set cs p false) low.0)
    (reduce_rows (set ts i false) (set cs p false) p full kept) (clear_rows (set ts i false) (set cs p false) p clear kept')
    (low_alike (set ts i false) (set cs p false) p m full clear kept kept' (omega arith) (omega arith)
    (λ h l e. pair_of m i p h ts cs earlier full clear f lp q.place_in (omega arith) (stays h e)) (omega arith) (pair_of m i p i ts cs earlier full clear f lp q.place_in li q.row_in))
    (all_cleaned (set ts i false) (set cs p false) p m clear kept' (omega arith) (λ h l e. f.clear_shape.same h (omega arith) (stays h e)) (omega arith) lk))
    (λ low low' w. step_from low low' w.0 w.1)
  where
    step_from : (low low' : List (List Fraction) × List Fraction) → AreLowAlike (set ts i false) (set cs p false) p full (row_at full i) low low' → IsCleaned (set ts i false) (set cs p false) low'.0 →
        AreStepsAlike m ts cs earlier i p (record { row = i; place = p; kept = row_at full i; multipliers = low.1 }, low.0) (record { row = i; place = p; kept = row_at clear i; multipliers = low'.1 }, low'.0)
    step_from low low' w clean =
        let tall : length full ≡ m = f.shape.tall in
        let clear_tall : length clear ≡ m = f.clear_shape.tall in
        let down : length ts ≡ m = f.shape.down in
        let across : length cs ≡ m = f.shape.across in
        let li : i < m = q.row_low in
        let lp : p < m = q.place_low in
        let low_tall : length low.0 ≡ length full = w.tall in
        let low_clear : length low'.0 ≡ length full = w.clear_tall in
        let dn : length (set ts i false) ≡ length ts = length-set ts i false in
        let ac : length (set cs p false) ≡ length cs = length-set cs p false in
        let stays : (h : ℕ) → flag (set ts i false) h ≡ true → flag ts h ≡ true = λ h e. flag_in ts i h (omega arith) e in
        let s : SparseStep = record { row = i; place = p; kept = row_at clear i; multipliers = low'.1 } in
        let out : flag (set cs p false) p ≡ false = get_or-set_same cs p false false (omega arith) in
        let kept_same : get (row_at full i) p ≡ get (row_at clear i) p = (pair_of m i p i ts cs earlier full clear f lp q.place_in li q.row_in).at_pivot in
        record {
          step = ap (λ xs. record { row = i; place = p; kept = xs; multipliers = low.1 }) (f.rows i li q.row_in) ∙ ap (λ ls. record { row = i; place = p; kept = with_passed earlier i (row_at clear i); multipliers = ls }) w.multipliers;
          row = refl;
          place = refl;
          stored = record {
            row_low = li;
            place_low = lp;
            row_in = q.row_in;
            place_in = q.place_in;
            kept_length = f.clear_shape.same i li q.row_in;
            multipliers_length = w.as_many ∙ tall;
            nonzero = q.nonzero;
            kept_beside = λ g e. f.clean.zero i g e;
            multipliers_beside = λ h e. w.none h e;
          };
          next = record {
            shape = record { tall = low_tall ∙ tall; down = dn ∙ down; across = ac ∙ across; same = λ h l e. (w.rows_alike h (omega arith) e).long ∙ f.shape.same h l (stays h e) };
            clear_shape = record { tall = low_clear ∙ tall; down = dn ∙ down; across = ac ∙ across; same = λ h l e. (w.rows_alike h (omega arith) e).clear_long ∙ f.shape.same h l (stays h e) };
            clean = clean;
            passed = (out, passed_after cs p earlier f.passed);
            rows = λ h l e.
                row_after m i p h ts cs earlier s (row_at full h) (row_at clear h) (row_at low.0 h) (row_at low'.0 h) refl lp q.place_in f.passed (f.rows h l (stays h e)) (f.shape.same h l (stays h e)) (f.clear_shape.same h l (stays h e))
                (λ g u. f.clean.zero h g u) (λ g u. clean.zero h g u) out (w.rows_alike h (omega arith) e)
                (sym (ap (λ ls. get ls h) w.multipliers) ∙ w.quotients h (omega arith) e ∙ ap (λ z. get (row_at full h) p /ᶠ z) kept_same)
                ((not_zero_iff (get (row_at clear i) p)).0 q.nonzero);
          };
        }

ok_same : (u v : SparseStep × List (List Fraction)) → ◌≡◌ {A = Result (SparseStep × List (List Fraction)) Refused} (Ok u) (Ok v) → u ≡ v
ok_same u v e = cc

-- the shape of the rows after a step
pub clear_shape : (m i p : ℕ) (ts cs : List Bool) (rows next : List (List Fraction)) (s : SparseStep) → Shape m ts cs rows → IsCleaned ts cs rows → Pivoted m (flag ts) (flag cs) (entry rows) i p →
    clear_step (set ts i false) (set cs p false) rows i p ≡ Ok (s, next) → Shape m (set ts i false) (set cs p false) next
clear_shape m i p ts cs rows next s shape clean q e =
    go (step_at (set ts i false) (set cs p false) rows i p) (clear_step (set ts i false) (set cs p false) rows i p)
    (steps_alike m i p ts cs [] rows rows (record { shape = shape; clear_shape = shape; clean = clean; passed = tt; rows = λ h l f. refl }) q) e
  where
    go : (x : Result (Kept × List (List Fraction)) Refused) (y : Result (SparseStep × List (List Fraction)) Refused) → Both (AreStepsAlike m ts cs [] i p) x y → y ≡ Ok (s, next) → Shape m (set ts i false) (set cs p false) next
    go (Ok a) (Ok b) h f = subst (λ (u : SparseStep × List (List Fraction)). Shape m (set ts i false) (set cs p false) u.1) (ok_same b (s, next) f) h.next.clear_shape
    go (Err r) (Err t) h f = absurd (cc)
    go (Ok a) (Err t) h f = absurd h
    go (Err r) (Ok b) h f = absurd h

-- ---- all steps
abbrev pub AreAlike : ℕ → List Bool → List Bool → List SparseStep → Result (List Kept) LuFault → Result (List SparseStep) LuFault → Type 0
AreAlike m ts cs earlier (Ok ks) (Ok ss) = (ks ≡ full_steps earlier ss) × AreStored m ts cs ss
AreAlike m ts cs earlier (Err e) (Err f) = e ≡ f
AreAlike m ts cs earlier (Ok ks) (Err f) = ⊥
AreAlike m ts cs earlier (Err e) (Ok ss) = ⊥

alike_more : (m i p : ℕ) (ts cs : List Bool) (earlier : List SparseStep) (k : Kept) (s : SparseStep) (x : Result (List Kept) LuFault) (y : Result (List SparseStep) LuFault) → k ≡ full_step earlier s → s.row ≡ i → s.place ≡ p → IsStored m ts cs s →
    AreAlike m (set ts i false) (set cs p false) (s ∷ earlier) x y → AreAlike m ts cs earlier (then_more k x) (then_sparse s y)
alike_more m i p ts cs earlier k s (Ok ks) (Ok ss) e ei ep w h = (
  ap (λ z. z ∷ ks) e ∙ ap (λ zs. full_step earlier s ∷ zs) h.0,
  (w, subst (λ z. AreStored m z (set cs s.place false) ss) (ap (λ z. set ts z false) (sym ei)) (subst (λ z. AreStored m (set ts i false) z ss) (ap (λ z. set cs z false) (sym ep)) h.1)),
)
alike_more m i p ts cs earlier k s (Err e) (Err f) a ei ep w h = h
alike_more m i p ts cs earlier k s (Ok ks) (Err f) e ei ep w h = absurd h
alike_more m i p ts cs earlier k s (Err e) (Ok ss) a ei ep w h = absurd h

alike_next : (n m i p : ℕ) (ts cs : List Bool) (earlier : List SparseStep) (x : Result (Kept × List (List Fraction)) Refused) (y : Result (SparseStep × List (List Fraction)) Refused) → count m (flag (set ts i false)) ≡ n → Both (AreStepsAlike m ts cs earlier i p) x y →
    ((ts cs : List Bool) (earlier : List SparseStep) (full clear : List (List Fraction)) → IsFull m ts cs earlier full clear → count m (flag ts) ≡ n → AreAlike m ts cs earlier (elimination_from n ts cs full) (clear_from n ts cs clear)) →
    AreAlike m ts cs earlier (then_step x (λ (next : List (List Fraction)). elimination_from n (set ts i false) (set cs p false) next)) (then_clear y (λ (next : List (List Fraction)). clear_from n (set ts i false) (set cs p false) next))
alike_next n m i p ts cs earlier (Ok a) (Ok b) w h g =
    alike_more m i p ts cs earlier a.0 b.0 (elimination_from n (set ts i false) (set cs p false) a.1) (clear_from n (set ts i false) (set cs p false) b.1) h.step h.row h.place h.stored
    (g (set ts i false) (set cs p false) (b.0 ∷ earlier) a.1 b.1 h.next w)
alike_next n m i p ts cs earlier (Err r) (Err s) w h g = ap Unfit h
alike_next n m i p ts cs earlier (Ok a) (Err s) w h g = absurd h
alike_next n m i p ts cs earlier (Err r) (Ok b) w h g = absurd h

one_fewer : (n m i : ℕ) (ts : List Bool) → length ts ≡ m → i < m → flag ts i ≡ true → count m (flag ts) ≡ suc n → count m (flag (set ts i false)) ≡ n
one_fewer n m i ts d l e w =
    let dr : count m (flag ts) ≡ suc (count m (but i (flag ts))) = count_but m i (flag ts) l (subst T (sym e) tt) in
    let mr : count m (flag (set ts i false)) ≡ count m (but i (flag ts)) = count_same m (flag (set ts i false)) (but i (flag ts)) (λ h k. flag_but ts i h (omega arith)) in
    omega arith

none_active : (m : ℕ) (ts : List Bool) → length ts ≡ m → count m (flag ts) ≡ 0 → (h : ℕ) → flag ts h ≡ false
none_active m ts d w h = go (flag ts h) refl
  where
    go : (t : Bool) → flag ts h ≡ t → flag ts h ≡ false
    go false e = e
    go true e = ⊎_elim
        (λ (l : h < m). absurd (count_none m (flag ts) w h l (subst T (sym e) tt)))
        (λ (l : m ≤ h). get_or_past ts h false (omega arith))
        (cases_lt h m)

alike_by : (n m : ℕ) (ts cs : List Bool) (earlier : List SparseStep) (full clear : List (List Fraction)) (o : Option Pivot) → IsFull m ts cs earlier full clear → count m (flag ts) ≡ suc n → o ≡ pivot (length clear) (flag ts) (flag cs) (entry clear) →
    ((ts cs : List Bool) (earlier : List SparseStep) (full clear : List (List Fraction)) → IsFull m ts cs earlier full clear → count m (flag ts) ≡ n → AreAlike m ts cs earlier (elimination_from n ts cs full) (clear_from n ts cs clear)) →
    AreAlike m ts cs earlier
    (at_pivot o (Err (Singular (first_from (length cs) 0 (flag cs)))) (λ i p. then_step (step_at (set ts i false) (set cs p false) full i p) (λ (next : List (List Fraction)). elimination_from n (set ts i false) (set cs p false) next)))
    (at_pivot o (Err (Singular (first_from (length cs) 0 (flag cs)))) (λ i p. then_clear (clear_step (set ts i false) (set cs p false) clear i p) (λ (next : List (List Fraction)). clear_from n (set ts i false) (set cs p false) next)))
alike_by n m ts cs earlier full clear None f w e g = refl
alike_by n m ts cs earlier full clear (Some q) f w e g =
    let found : Pivoted m (flag ts) (flag cs) (entry clear) q.row q.place = at_pivoted m ts cs clear q f.clear_shape e in
    alike_next n m q.row q.place ts cs earlier (step_at (set ts q.row false) (set cs q.place false) full q.row q.place) (clear_step (set ts q.row false) (set cs q.place false) clear q.row q.place)
    (one_fewer n m q.row ts f.shape.down found.row_low found.row_in w) (steps_alike m q.row q.place ts cs earlier full clear f found) g

pub alike_from : (n m : ℕ) (ts cs : List Bool) (earlier : List SparseStep) (full clear : List (List Fraction)) → IsFull m ts cs earlier full clear → count m (flag ts) ≡ n → AreAlike m ts cs earlier (elimination_from n ts cs full) (clear_from n ts cs clear)
alike_from zero m ts cs earlier full clear f w = (refl, none_active m ts f.shape.down w)
alike_from (suc n) m ts cs earlier full clear f w =
    let o : Option Pivot = pivot (length clear) (flag ts) (flag cs) (entry clear) in
    let e : o ≡ pivot (length full) (flag ts) (flag cs) (entry full) =
    ap (λ k. pivot k (flag ts) (flag cs) (entry clear)) (f.clear_shape.tall ∙ sym f.shape.tall)
    ∙ pivot_moved (length full) (flag ts) (flag cs) (flag ts) (flag cs) (entry full) (entry clear) (λ h l. refl) (λ g l. refl)
    (λ h g lh lg th tg.
    let tall : length full ≡ m = f.shape.tall in
    sym (ap (λ xs. get xs g) (f.rows h (omega arith) (true_of (flag ts h) th)) ∙ passed_active cs earlier h (row_at clear h) g f.passed (true_of (flag cs g) tg))) in
    subst
    (λ u. AreAlike m ts cs earlier
    (at_pivot u (Err (Singular (first_from (length cs) 0 (flag cs)))) (λ i p. then_step (step_at (set ts i false) (set cs p false) full i p) (λ (next : List (List Fraction)). elimination_from n (set ts i false) (set cs p false) next)))
    (at_pivot o (Err (Singular (first_from (length cs) 0 (flag cs)))) (λ i p. then_clear (clear_step (set ts i false) (set cs p false) clear i p) (λ (next : List (List Fraction)). clear_from n (set ts i false) (set cs p false) next))))
    e (alike_by n m ts cs earlier full clear o f w refl (alike_from n m))

-- ---- the whole script
-- at the start all is active
by_flag : (m : ℕ) (fs : List Bool) (h : ℕ) → fs ≡ replicate m true → flag fs h ≡ false → m ≤ h
by_flag m fs h a b = ⊎_elim (λ (l : h < m). absurd (true≢false (sym (get_or-replicate m h true false l) ∙ ap (λ z. flag z h) (sym a) ∙ b))) (λ (l : m ≤ h). l) (cases_lt h m)

pub cleaned_start : (m : ℕ) (ts cs : List Bool) (rows : List (List Fraction)) → m ≡ length rows → ts ≡ replicate m true → cs ≡ replicate m true → IsSquare rows → IsCleaned ts cs rows
cleaned_start m ts cs rows e f g s = record {
  empty = λ h q. let l : m ≤ h = by_flag m ts h f q in get_or_past rows h [] (omega arith);
  zero = λ h k q.
      let lk : m ≤ k = by_flag m cs k g q in
      ⊎_elim
      (λ (l : h < length rows). let w : length (row_at rows h) ≡ length rows = s h l in get_or_past (row_at rows h) k (of_int (pos 0)) (omega arith))
      (λ (l : length rows ≤ h). ap (λ xs. get xs k) (get_or_past rows h [] l))
      (cases_lt h (length rows));
}

all_count : (m : ℕ) → count m (flag (replicate m true)) ≡ m
all_count m = count_same m (flag (replicate m true)) (λ k. true) (λ h l. get_or-replicate m h true false l) ∙ count_all m

alike_script : (rows : List (List Fraction)) → IsSquare rows → AreAlike (length rows) (replicate (length rows) true) (replicate (length rows) true) [] (elimination_script rows) (clear_script rows)
unfolding elimination_script clear_script
alike_script rows s =
    let all : List Bool = replicate (length rows) true in
    let shape : Shape (length rows) all all rows = record { tall = refl; down = length-replicate (length rows) true; across = length-replicate (length rows) true; same = λ h l k. s h l } in
    alike_from (length rows) (length rows) all all [] rows rows
    (record { shape = shape; clear_shape = shape; clean = cleaned_start (length rows) all all rows refl refl refl s; passed = tt; rows = λ h l f. refl })
    (all_count (length rows))

err_moved : (a e : LuFault) → ◌≡◌ {A = Result (List SparseStep) LuFault} (Err a) (Err e) → ◌≡◌ {A = Result (List Kept) LuFault} (Err a) (Err e)
err_moved a e f = cc

pub script_refused : (rows : List (List Fraction)) (e : LuFault) → IsSquare rows → clear_script rows ≡ Err e → elimination_script rows ≡ Err e
script_refused rows e s f = go (elimination_script rows) (clear_script rows) (alike_script rows s) f
  where
    go : (x : Result (List Kept) LuFault) (y : Result (List SparseStep) LuFault) → AreAlike (length rows) (replicate (length rows) true) (replicate (length rows) true) [] x y → y ≡ Err e → x ≡ Err e
    go (Ok ks) (Ok ss) h f = absurd (cc)
    go (Err a) (Err b) h f = ap Err h ∙ err_moved b e f
    go (Ok ks) (Err b) h f = absurd h
    go (Err a) (Ok ss) h f = absurd h

ok_steps : (us ss : List SparseStep) → ◌≡◌ {A = Result (List SparseStep) LuFault} (Ok us) (Ok ss) → us ≡ ss
ok_steps us ss f = cc

pub script_done : (rows : List (List Fraction)) (ss : List SparseStep) → IsSquare rows → clear_script rows ≡ Ok ss →
    (elimination_script rows ≡ Ok (full_steps [] ss)) × AreStored (length rows) (replicate (length rows) true) (replicate (length rows) true) ss
script_done rows ss s f = go (elimination_script rows) (clear_script rows) (alike_script rows s) f
  where
    go : (x : Result (List Kept) LuFault) (y : Result (List SparseStep) LuFault) → AreAlike (length rows) (replicate (length rows) true) (replicate (length rows) true) [] x y → y ≡ Ok ss →
        (x ≡ Ok (full_steps [] ss)) × AreStored (length rows) (replicate (length rows) true) (replicate (length rows) true) ss
    go (Ok ks) (Ok us) h f = (ap Ok (h.0 ∙ ap (full_steps []) (ok_steps us ss f)), subst (AreStored (length rows) (replicate (length rows) true) (replicate (length rows) true)) (ok_steps us ss f) h.1)
    go (Err a) (Err b) h f = absurd (cc)
    go (Ok ks) (Err b) h f = absurd h
    go (Err a) (Ok us) h f = absurd h

pub full_length : (earlier ss : List SparseStep) → length (full_steps earlier ss) ≡ length ss
full_length earlier [] = refl
full_length earlier (s ∷ ss) = ap suc (full_length (s ∷ earlier) ss)

pub script_restored : (rows : List (List Fraction)) (ss : List SparseStep) → IsSquare rows → clear_script rows ≡ Ok ss → elimination_script rows ≡ Ok (full_steps [] ss)
script_restored rows ss s f = (script_done rows ss s f).0

-- as many steps as rows
pub steps_whole : (rows : List (List Fraction)) (ss : List SparseStep) → IsSquare rows → clear_script rows ≡ Ok ss → AreWhole ss
steps_whole rows ss s f =
    let d = script_done rows ss s f in
    let n : length rows ≡ length ss = sym (step_count rows (full_steps [] ss) s d.0) ∙ full_length [] ss in
    subst (λ m. AreStored m (replicate m true) (replicate m true) ss) n d.1
