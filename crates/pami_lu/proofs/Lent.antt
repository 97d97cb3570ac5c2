-- The rows and multipliers that are lent are those of the elimination over unbounded fractions.
use Rattle.std.proofs.Common.{◌≡◌, ℕ, zero, suc, ◌<◌, List, [], ◌∷◌, length, take, get_or, set, replicate, refl, sym, ap, ◌∙◌, subst, arith, Bool, true, false, cond, ⊎_elim, Option, Some, None, Result, Ok, Err}
use Rattle.std.proofs.lemmas.Bool.{cases_eq}
use Rattle.std.proofs.lemmas.List.{get_or-set_same, get_or-set_other, get_or-replicate, length-set, length-replicate}
use lib.IntN.{pos}
use lib.Dec.{T, eqb}
use Rattle.pami_algebra.specs.Fraction.{Fraction}
use Rattle.pami_algebra.specs.Operations.{of_int, ◌-ᶠ◌, ◌*ᶠ◌}
use Rattle.pami_algebra.proofs.Field.{div_mul_f, mul_nil_f, sub_self_f}
use Rattle.pami_linear.specs.Active.{but, first_from}
use Rattle.pami_linear.specs.Elimination.{EliminationStep, multiplier_of, reduced, step_of, more, eliminate_from, eliminate}
use Rattle.pami_linear.specs.Lists.{get}
use Rattle.pami_linear.specs.Pivoting.{Pivot, pivot, at_pivot}
use Rattle.pami_linear.proofs.Parts.{but_from}
use Rattle.pami_linear.proofs.Pivots.{pivot_some}
use Rattle.pami_factoring.specs.declared.kept.Kept.{Kept}
use Rattle.pami_factoring.specs.Factor.{flag, entry, elimination_script}
use Rattle.pami_factoring.specs.Steps.{IsSquare, AreSame, steps_from, steps_of}
use Rattle.pami_factoring.proofs.Programs.{same_steps}
use Rattle.pami_factoring.proofs.Shapes.{flag_but}
use Rattle.pami_lu.specs.declared.step.SparseStep.{SparseStep}
use Rattle.pami_lu.specs.Stored.{full_steps, is_passed, IsStored, AreStored, AreWhole}
use Rattle.pami_lu.proofs.Restored.{ArePassed, passed_active, passed_after, out_stays}
use Rattle.pami_lu.proofs.Those.{eqb_yes, eqb_no}

-- ---- a place that isn't active has 0 in each later row
beside : (m : ℕ) (ts cs : List Bool) (ss : List SparseStep) (k g : ℕ) (s : SparseStep) → AreStored m ts cs ss → k < length ss → s ≡ get_or ss k s → flag cs g ≡ false → get s.kept g ≡ of_int (pos 0)
beside m ts cs [] k g s a l e f = absurd (omega arith)
beside m ts cs (t ∷ ss) zero g s a l e f = ap (λ (z : SparseStep). get z.kept g) e ∙ a.0.kept_beside g f
beside m ts cs (t ∷ ss) (suc k) g s a l e f = beside m (set ts t.row false) (set cs t.place false) ss k g s a.1 (omega arith) e (out_stays cs t.place g f)

-- a stored step in its place is as long as there are steps
record IsLong (m : ℕ) (s : SparseStep) : Type 0 where
  pub kept : length s.kept ≡ m
  pub multipliers : length s.multipliers ≡ m

long_at : (m : ℕ) (ts cs : List Bool) (ss : List SparseStep) (k : ℕ) (s : SparseStep) → AreStored m ts cs ss → k < length ss → s ≡ get_or ss k s → IsLong m s
long_at m ts cs [] k s a l e = absurd (omega arith)
long_at m ts cs (t ∷ ss) zero s a l e = subst (IsLong m) (sym e) (record { kept = a.0.kept_length; multipliers = a.0.multipliers_length })
long_at m ts cs (t ∷ ss) (suc k) s a l e = long_at m (set ts t.row false) (set cs t.place false) ss k s a.1 (omega arith) e

pub kept_long : (ss : List SparseStep) (k : ℕ) (s : SparseStep) → AreWhole ss → k < length ss → s ≡ get_or ss k s → length s.kept ≡ length ss
kept_long ss k s a l e = (long_at (length ss) (replicate (length ss) true) (replicate (length ss) true) ss k s a l e).kept

pub multipliers_long : (ss : List SparseStep) (k : ℕ) (s : SparseStep) → AreWhole ss → k < length ss → s ≡ get_or ss k s → length s.multipliers ≡ length ss
multipliers_long ss k s a l e = (long_at (length ss) (replicate (length ss) true) (replicate (length ss) true) ss k s a l e).multipliers

out_after : (m : ℕ) (ts cs : List Bool) (t : SparseStep) → length cs ≡ m → IsStored m ts cs t → flag (set cs t.place false) t.place ≡ false
out_after m ts cs t l a = let low = a.place_low in get_or-set_same cs t.place false false (omega arith)

-- ---- what is stored of a kept row
pub kept_stored : (m k g : ℕ) (earlier : List SparseStep) (ts cs : List Bool) (ss : List SparseStep) (d : Kept) (s : SparseStep) → AreStored m ts cs ss → ArePassed cs earlier → length cs ≡ m → k < length ss → s ≡ get_or ss k s → flag cs g ≡ true →
    get s.kept g ≡ cond (is_passed (take k (full_steps earlier ss)) g) (of_int (pos 0)) (get (get_or (full_steps earlier ss) k d).kept g)
kept_stored m k g earlier ts cs [] d s a p n l e f = absurd (omega arith)
kept_stored m zero g earlier ts cs (t ∷ ss) d s a p n l e f = ap (λ (z : SparseStep). get z.kept g) e ∙ sym (passed_active cs earlier t.row t.kept g p f)
kept_stored m (suc k) g earlier ts cs (t ∷ ss) d s a p n l e f = ⊎_elim
    (λ (q : t.place ≡ g).
    beside m (set ts t.row false) (set cs t.place false) ss k g s a.1 (omega arith) e (ap (flag (set cs t.place false)) (sym q) ∙ out_after m ts cs t n a.0)
    ∙ sym (ap (λ b. cond (cond b true (is_passed (take k (full_steps (t ∷ earlier) ss)) g)) (of_int (pos 0)) (get (get_or (full_steps (t ∷ earlier) ss) k d).kept g)) (eqb_yes t.place g q)))
    (λ (q : ¬ (t.place ≡ g)).
    kept_stored m k g (t ∷ earlier) (set ts t.row false) (set cs t.place false) ss d s a.1 (out_after m ts cs t n a.0, passed_after cs t.place earlier p) (length-set cs t.place false ∙ n) (omega arith) e
    (get_or-set_other cs t.place g false false (λ w. q (sym w)) ∙ f)
    ∙ sym (ap (λ b. cond (cond b true (is_passed (take k (full_steps (t ∷ earlier) ss)) g)) (of_int (pos 0)) (get (get_or (full_steps (t ∷ earlier) ss) k d).kept g)) (eqb_no t.place g q)))
    (cases_eq t.place g)

pub kept_lent : (ss : List SparseStep) (k g : ℕ) (d : Kept) (s : SparseStep) → AreWhole ss → k < length ss → s ≡ get_or ss k s → g < length ss →
    get s.kept g ≡ cond (is_passed (take k (full_steps [] ss)) g) (of_int (pos 0)) (get (get_or (full_steps [] ss) k d).kept g)
kept_lent ss k g d s a l e j =
    kept_stored (length ss) k g [] (replicate (length ss) true) (replicate (length ss) true) ss d s a tt (length-replicate (length ss) true) l e (get_or-replicate (length ss) g true false j)

-- ---- and of the multipliers
pub multipliers_stored : (k : ℕ) (earlier ss : List SparseStep) (d : Kept) (s : SparseStep) → k < length ss → s ≡ get_or ss k s → s.multipliers ≡ (get_or (full_steps earlier ss) k d).multipliers
multipliers_stored k earlier [] d s l e = absurd (omega arith)
multipliers_stored zero earlier (t ∷ ss) d s l e = ap (λ (z : SparseStep). z.multipliers) e
multipliers_stored (suc k) earlier (t ∷ ss) d s l e = multipliers_stored k (t ∷ earlier) ss d s (omega arith) e

-- ---- over unbounded fractions
-- a step, and those after it
more_parts : (x : EliminationStep) (r : Result (List EliminationStep) ℕ) (e : EliminationStep) (es : List EliminationStep) → more x r ≡ Ok (e ∷ es) → (x ≡ e) × (r ≡ Ok es)
more_parts x (Ok ss) e es h = (cc, cc)
more_parts x (Err p) e es h = absurd (cc)

-- the pivot of the first step
record IsBegun (n m : ℕ) (r c : ℕ → Bool) (w : ℕ → ℕ → Fraction) (e : EliminationStep) (es : List EliminationStep) : Type 0 where
  pub q : Pivot
  pub found : pivot m r c w ≡ Some q
  pub step : step_of r c w q.row q.place ≡ e
  pub rest : eliminate_from n m (but q.row r) (but q.place c) (reduced w q.row q.place) ≡ Ok es

begun : (n m : ℕ) (r c : ℕ → Bool) (w : ℕ → ℕ → Fraction) (e : EliminationStep) (es : List EliminationStep) (o : Option Pivot) → o ≡ pivot m r c w →
    at_pivot o (Err (first_from m 0 c)) (λ i p. more (step_of r c w i p) (eliminate_from n m (but i r) (but p c) (reduced w i p))) ≡ Ok (e ∷ es) → IsBegun n m r c w e es
begun n m r c w e es None f h = absurd (cc)
begun n m r c w e es (Some q) f h =
    let b = more_parts (step_of r c w q.row q.place) (eliminate_from n m (but q.row r) (but q.place c) (reduced w q.row q.place)) e es h in
    record { q = q; found = sym f; step = b.0; rest = b.1 }

sub_nil : (x : Fraction) → of_int (pos 0) -ᶠ x *ᶠ of_int (pos 0) ≡ of_int (pos 0)
sub_nil x = ap (λ z. of_int (pos 0) -ᶠ z) (mul_nil_f x) ∙ sub_self_f (of_int (pos 0))

-- a place with 0 in each row has 0 in each kept row
kept_none : (n m : ℕ) (r c : ℕ → Bool) (w : ℕ → ℕ → Fraction) (es : List EliminationStep) (k g : ℕ) (d : EliminationStep) → eliminate_from n m r c w ≡ Ok es → ((h : ℕ) → w h g ≡ of_int (pos 0)) → k < length es → (get_or es k d).kept g ≡ of_int (pos 0)
kept_none n m r c w [] k g d h z l = absurd (omega arith)
kept_none zero m r c w (e ∷ es) k g d h z l = absurd (cc)
kept_none (suc n) m r c w (e ∷ es) zero g d h z l =
    let u : IsBegun n m r c w e es = begun n m r c w e es (pivot m r c w) refl h in
    sym (ap (λ (x : EliminationStep). x.kept g) u.step) ∙ z u.q.row
kept_none (suc n) m r c w (e ∷ es) (suc k) g d h z l =
    let u : IsBegun n m r c w e es = begun n m r c w e es (pivot m r c w) refl h in
    kept_none n m (but u.q.row r) (but u.q.place c) (reduced w u.q.row u.q.place) es k g d u.rest
    (λ i. ap (λ x. x -ᶠ multiplier_of w u.q.row u.q.place i *ᶠ w u.q.row g) (z i) ∙ ap (λ x. of_int (pos 0) -ᶠ multiplier_of w u.q.row u.q.place i *ᶠ x) (z u.q.row) ∙ sub_nil (multiplier_of w u.q.row u.q.place i)) (omega arith)

pub kept_same : (n m : ℕ) (r c : ℕ → Bool) (w : ℕ → ℕ → Fraction) (es : List EliminationStep) (k g : ℕ) (d : EliminationStep) (earlier : List SparseStep) (ts cs : List Bool) (ss : List SparseStep) (s : SparseStep) →
    AreStored m ts cs ss → ArePassed cs earlier → length cs ≡ m → g < m → k < length ss → s ≡ get_or ss k s → flag cs g ≡ true → T (c g) → eliminate_from n m r c w ≡ Ok es →
    AreSame m r c (steps_from ts cs (full_steps earlier ss)) es → get s.kept g ≡ (get_or es k d).kept g
kept_same n m r c w es k g d earlier ts cs [] s a p ln j l e f t h q = absurd (omega arith)
kept_same n m r c w [] k g d earlier ts cs (x ∷ ss) s a p ln j l e f t h q = absurd q
kept_same n m r c w (y ∷ es) zero g d earlier ts cs (x ∷ ss) s a p ln j l e f t h q =
    ap (λ (z : SparseStep). get z.kept g) e ∙ sym (passed_active cs earlier x.row x.kept g p f) ∙ q.1 g j t
kept_same zero m r c w (y ∷ es) (suc k) g d earlier ts cs (x ∷ ss) s a p ln j l e f t h q = absurd (cc)
kept_same (suc n) m r c w (y ∷ es) (suc k) g d earlier ts cs (x ∷ ss) s a p ln j l e f t h q =
    let u : IsBegun n m r c w y es = begun n m r c w y es (pivot m r c w) refl h in
    let place : x.place ≡ u.q.place = q.0.1 ∙ sym (ap (λ (z : EliminationStep). z.place) u.step) in
    let row : y.row ≡ u.q.row = sym (ap (λ (z : EliminationStep). z.row) u.step) in
    let yp : y.place ≡ u.q.place = sym (ap (λ (z : EliminationStep). z.place) u.step) in
    let many : length (steps_from (set ts x.row false) (set cs x.place false) (full_steps (x ∷ earlier) ss)) ≡ length es = same_many m (but y.row r) (but y.place c) (steps_from (set ts x.row false) (set cs x.place false) (full_steps (x ∷ earlier) ss)) es q.3 in
    let same : length (steps_from (set ts x.row false) (set cs x.place false) (full_steps (x ∷ earlier) ss)) ≡ length ss = from_many (set ts x.row false) (set cs x.place false) (x ∷ earlier) ss in
    ⊎_elim
    (λ (v : x.place ≡ g).
    let pv = pivot_some m r c w u.q u.found in
    let at : (i : ℕ) → reduced w u.q.row u.q.place i g ≡ of_int (pos 0) = λ i.
    subst (λ z. reduced w u.q.row u.q.place i z ≡ of_int (pos 0)) (sym place ∙ v)
    (ap (λ z. w i u.q.place -ᶠ z) (div_mul_f (w i u.q.place) (w u.q.row u.q.place) pv.nonzero) ∙ sub_self_f (w i u.q.place)) in
    beside m (set ts x.row false) (set cs x.place false) ss k g s a.1 (omega arith) e (ap (flag (set cs x.place false)) (sym v) ∙ out_after m ts cs x ln a.0)
    ∙ sym (kept_none n m (but u.q.row r) (but u.q.place c) (reduced w u.q.row u.q.place) es k g d u.rest at (omega arith)))
    (λ (v : ¬ (x.place ≡ g)).
    kept_same n m (but u.q.row r) (but u.q.place c) (reduced w u.q.row u.q.place) es k g d (x ∷ earlier) (set ts x.row false) (set cs x.place false) ss s a.1 (out_after m ts cs x ln a.0, passed_after cs x.place earlier p)
    (length-set cs x.place false ∙ ln) j (omega arith) e (get_or-set_other cs x.place g false false (λ w. v (sym w)) ∙ f) (but_from u.q.place g c t (λ w. v (place ∙ w))) u.rest
    (subst (λ i. AreSame m (but i r) (but u.q.place c) (steps_from (set ts x.row false) (set cs x.place false) (full_steps (x ∷ earlier) ss)) es) row
    (subst (λ i. AreSame m (but y.row r) (but i c) (steps_from (set ts x.row false) (set cs x.place false) (full_steps (x ∷ earlier) ss)) es) yp q.3)))
    (cases_eq x.place g)
  where
    same_many : (m : ℕ) (r c : ℕ → Bool) (xs ys : List EliminationStep) → AreSame m r c xs ys → length xs ≡ length ys
    same_many m r c [] [] q = refl
    same_many m r c [] (y ∷ ys) q = absurd q
    same_many m r c (x ∷ xs) [] q = absurd q
    same_many m r c (x ∷ xs) (y ∷ ys) q = ap suc (same_many m (but y.row r) (but y.place c) xs ys q.3)

    from_many : (ts cs : List Bool) (earlier ss : List SparseStep) → length (steps_from ts cs (full_steps earlier ss)) ≡ length ss
    from_many ts cs earlier [] = refl
    from_many ts cs earlier (s ∷ ss) = ap suc (from_many (set ts s.row false) (set cs s.place false) (s ∷ earlier) ss)

-- the multipliers, where a row that isn't active after the step has none
cond_of : (b : Bool) (x y z : Fraction) → (T b → x ≡ y) → (b ≡ false → x ≡ z) → x ≡ cond b y z
cond_of true x y z f g = f tt
cond_of false x y z f g = g refl

pub multipliers_same : (n m : ℕ) (r c : ℕ → Bool) (w : ℕ → ℕ → Fraction) (es : List EliminationStep) (k h : ℕ) (d : EliminationStep) (earlier : List SparseStep) (ts cs : List Bool) (ss : List SparseStep) (s : SparseStep) →
    AreStored m ts cs ss → length ts ≡ m → h < m → k < length ss → s ≡ get_or ss k s → ((i : ℕ) → i < m → flag ts i ≡ r i) → eliminate_from n m r c w ≡ Ok es →
    AreSame m r c (steps_from ts cs (full_steps earlier ss)) es → get s.multipliers h ≡ cond ((get_or es k d).rows h) ((get_or es k d).multiplier h) (of_int (pos 0))
multipliers_same n m r c w es k h d earlier ts cs [] s a ln j l e f u q = absurd (omega arith)
multipliers_same n m r c w [] k h d earlier ts cs (x ∷ ss) s a ln j l e f u q = absurd q
multipliers_same zero m r c w (y ∷ es) k h d earlier ts cs (x ∷ ss) s a ln j l e f u q = absurd (cc)
multipliers_same (suc n) m r c w (y ∷ es) zero h d earlier ts cs (x ∷ ss) s a ln j l e f u q =
    let b : IsBegun n m r c w y es = begun n m r c w y es (pivot m r c w) refl u in
    let low = a.0.row_low in
    let rows : y.rows h ≡ but y.row r h = sym (ap (λ (z : EliminationStep). z.rows h) b.step) ∙ ap (λ i. but i r h) (ap (λ (z : EliminationStep). z.row) b.step) in
    let flags : flag (set ts x.row false) h ≡ but y.row r h = flag_but ts x.row h (omega arith) ∙ ap (λ i. cond (eqb i h) false (flag ts h)) q.0.0 ∙ ap (cond (eqb y.row h) false) (f h j) in
    ap (λ (z : SparseStep). get z.multipliers h) e
    ∙ cond_of (y.rows h) (get x.multipliers h) (y.multiplier h) (of_int (pos 0)) (λ t. q.2 h j (subst T rows t)) (λ v. a.0.multipliers_beside h (flags ∙ sym rows ∙ v))
multipliers_same (suc n) m r c w (y ∷ es) (suc k) h d earlier ts cs (x ∷ ss) s a ln j l e f u q =
    let b : IsBegun n m r c w y es = begun n m r c w y es (pivot m r c w) refl u in
    let low = a.0.row_low in
    let row : y.row ≡ b.q.row = sym (ap (λ (z : EliminationStep). z.row) b.step) in
    let place : y.place ≡ b.q.place = sym (ap (λ (z : EliminationStep). z.place) b.step) in
    multipliers_same n m (but b.q.row r) (but b.q.place c) (reduced w b.q.row b.q.place) es k h d (x ∷ earlier) (set ts x.row false) (set cs x.place false) ss s a.1 (length-set ts x.row false ∙ ln) j (omega arith) e
    (λ i l. flag_but ts x.row i (omega arith) ∙ ap (λ z. cond (eqb z i) false (flag ts i)) (q.0.0 ∙ row) ∙ ap (cond (eqb b.q.row i) false) (f i l)) b.rest
    (subst (λ i. AreSame m (but i r) (but b.q.place c) (steps_from (set ts x.row false) (set cs x.place false) (full_steps (x ∷ earlier) ss)) es) row
    (subst (λ i. AreSame m (but y.row r) (but i c) (steps_from (set ts x.row false) (set cs x.place false) (full_steps (x ∷ earlier) ss)) es) place q.3))

-- ---- from the start
ok_steps : (xs ys : List EliminationStep) → ◌≡◌ {A = Result (List EliminationStep) ℕ} (Ok xs) (Ok ys) → xs ≡ ys
ok_steps xs ys e = cc

start_same : (rows : List (List Fraction)) (ss : List SparseStep) (es : List EliminationStep) → IsSquare rows → elimination_script rows ≡ Ok (full_steps [] ss) → eliminate (length rows) (entry rows) ≡ Ok es →
    AreSame (length rows) (λ h. true) (λ g. true) (steps_of (length rows) (full_steps [] ss)) es
start_same rows ss es s e f =
    let u = same_steps rows (full_steps [] ss) s e in
    subst (λ zs. AreSame (length rows) (λ h. true) (λ g. true) (steps_of (length rows) (full_steps [] ss)) zs) (ok_steps u.0 es (sym u.1.0 ∙ f)) u.1.1

pub kept_of_elimination : (rows : List (List Fraction)) (ss : List SparseStep) (es : List EliminationStep) (k g : ℕ) (d : EliminationStep) (s : SparseStep) → AreWhole ss → length ss ≡ length rows → k < length ss → s ≡ get_or ss k s → IsSquare rows →
    elimination_script rows ≡ Ok (full_steps [] ss) → eliminate (length rows) (entry rows) ≡ Ok es → g < length rows → get s.kept g ≡ (get_or es k d).kept g
unfolding eliminate
kept_of_elimination rows ss es k g d s a n l e q h f j =
    let m : ℕ = length rows in
    kept_same m m (λ h. true) (λ g. true) (entry rows) es k g d [] (replicate m true) (replicate m true) ss s (subst (λ m. AreStored m (replicate m true) (replicate m true) ss) n a) tt (length-replicate m true) j l e
    (get_or-replicate m g true false j) tt f (start_same rows ss es q h f)

pub multipliers_of_elimination : (rows : List (List Fraction)) (ss : List SparseStep) (es : List EliminationStep) (k h : ℕ) (d : EliminationStep) (s : SparseStep) → AreWhole ss → length ss ≡ length rows → k < length ss → s ≡ get_or ss k s → IsSquare rows →
    elimination_script rows ≡ Ok (full_steps [] ss) → eliminate (length rows) (entry rows) ≡ Ok es → h < length rows → get s.multipliers h ≡ cond ((get_or es k d).rows h) ((get_or es k d).multiplier h) (of_int (pos 0))
unfolding eliminate
multipliers_of_elimination rows ss es k h d s a n l e q u f j =
    let m : ℕ = length rows in
    multipliers_same m m (λ h. true) (λ g. true) (entry rows) es k h d [] (replicate m true) (replicate m true) ss s (subst (λ m. AreStored m (replicate m true) (replicate m true) ss) n a) (length-replicate m true) j l e
    (λ i v. get_or-replicate m i true false v) f (start_same rows ss es q u f)
