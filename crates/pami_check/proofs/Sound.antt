-- A valid certificate holds, an invalid one doesn't, and what holds shows what it is a certificate of.
use Rattle.std.proofs.Common.{◌≡◌, ◌↔◌, ℕ, ◌<◌, [], ◌∷◌, ◌++◌, length, Bool, true, false, Option, None, Some, Result, Ok, Err, refl, sym, ap, ◌∙◌, subst, arith, IsTrue, true≢false}
use Rattle.pami_algebra.specs.Fraction.{Fraction}
use Rattle.pami_algebra.specs.Operations.{◌≤ᶠ◌, ◌<ᶠ◌, is_below}
use Rattle.pami_algebra.specs.Ring.{var, t0, ◌⊕◌}
use Rattle.pami_algebra.proofs.Laws.{by_ring_f}
use Rattle.pami_algebra.proofs.Tests.{is_below_iff}
use Rattle.pami_frac.specs.declared.list.Bounds.{Bounds}
use Rattle.pami_linear.specs.Lists.{get}
use Rattle.pami_linear.specs.Sums.{sum_to, dot}
use Rattle.pami_script.specs.Script.{add_dot}
use Rattle.pami_script.proofs.Values.{add_dot_value}
use Rattle.pami_theory.specs.Form.{Form, limits, cost, variables, row_variable, zero_f, IsWithin}
use Rattle.pami_theory.specs.Start.{is_same}
use Rattle.pami_theory.specs.Certificate.{HoldsInfeasible, HoldsDualInfeasible, HoldsObjective, objective_of}
use Rattle.pami_theory.proofs.Signs.{is_same_iff}
use Rattle.pami_theory.proofs.Duality.{weak_duality}
use Rattle.pami_theory.proofs.Farkas.{no_feasible_point, no_dual_point}
use Rattle.pami_model.specs.Contents.{Contents}
use Rattle.pami_model_form.specs.ModelForm.{file_cost, model_form}
use Rattle.pami_cert.specs.declared.cert.Cert.{Cert}
use Rattle.pami_cert.specs.declared.cert.Cert.TheVariants as certs
use Rattle.pami_check.specs.declared.verdict.Condition.{Condition}
use Rattle.pami_check.specs.declared.verdict.Condition.TheVariants as conditions
use Rattle.pami_check.specs.declared.verdict.Verdict.{Verdict}
use Rattle.pami_check.specs.declared.verdict.Verdict.TheVariants as verdicts
use Rattle.pami_check.specs.Tests.{tested, verdict_by}
use Rattle.pami_check.specs.Verdict.{cone, zero_at, point_tests, reduced_tests, sign_tests, objective_tests, objective_script, optimal_tests, finite_rows, finite_columns, positive_test, infeasible_tests, cost_test, dual_infeasible_tests, verdict}
use Rattle.pami_check.specs.Holds.{HoldsBest, Holds}
use Rattle.pami_check.specs.Shows.{Shows}
use Rattle.pami_check.proofs.Tested.{onto, tested_append}
use Rattle.pami_check.proofs.Parts.{LastFound, infeasible_parts}
use Rattle.pami_check.proofs.Decides.{Plain, Totalled, Decides, decides_by, decides_both, decides_none, decides_script, valid_passed, invalid_failed}
use Rattle.pami_check.proofs.Points.{points_decided, reduced_decided, signs_decided, sum_is}
use Rattle.pami_check.proofs.Least.{parts_add, holds_by, holds_finite, holds_positive, least_of}

-- ---- optimal
objective_decided : (constant : Fraction) (n : ℕ) (k x : ℕ → Fraction) (o : Option Fraction) →
    Decides (objective_tests o (add_dot n k x constant)) (HoldsObjective constant n k x o)
objective_decided constant n k x None = decides_none (Unit {0}) tt
objective_decided constant n k x (Some told) =
    decides_script conditions.Objective None (add_dot n k x constant) (λ t. is_same t told) (told ≡ objective_of constant n k x)
    (λ t e. let i = is_same_iff t told in
    let v = add_dot_value n k x constant t e in
    (λ h. sym (i.0 h) ∙ v, λ h. i.1 (v ∙ sym h)))

optimal_decided : (c : Contents) (o : Option Fraction) (x d : ℕ → Fraction) → Decides (optimal_tests c o x d) (HoldsBest c o x d)
optimal_decided c o x d =
    let f = model_form c in
    let point = point_tests f (λ l. l) x in
    let reduced = reduced_tests f d in
    let signs = sign_tests f x d in
    let objective = objective_tests o (objective_script c x) in
    let last = decides_both signs objective _ _ (signs_decided f x d) (objective_decided c.constant (length c.columns) (file_cost c) x o) in
    let middle = decides_both reduced (signs ++ objective) _ _ (reduced_decided f d) last in
    let all = decides_both point (reduced ++ (signs ++ objective)) _ _ (points_decided f (λ l. l) x) middle in
    decides_by (optimal_tests c o x d) _ (HoldsBest c o x d) all
    (λ h. record {
      certificate = record { feasible = record { point = h.0.point; within = h.0.within }; reduced = h.1.0; complementary = h.1.1.0 };
      objective_is = h.1.1.1;
    })
    (λ h. let p = h.certificate.feasible in
    (record { point = p.point; within = p.within }, (h.certificate.reduced, (h.certificate.complementary, h.objective_is))))

-- ---- dual infeasible
zero_some : (b : Option Fraction) (x : Fraction) → zero_at b ≡ Some x → (zero_f ≡ x) × ((y : Fraction) × (b ≡ Some y))
zero_some None x e = absurd cc
zero_some (Some b) x e = (cc, (b, refl))

cone_within : (l : Bounds) (z : Fraction) → ((b : Fraction) → l.low ≡ Some b → zero_f ≤ᶠ z) → ((b : Fraction) → l.high ≡ Some b → z ≤ᶠ zero_f) →
    IsWithin (cone l) z
cone_within l z low high = record {
  above_low = λ b e. let k = zero_some l.low b e in subst (λ w. w ≤ᶠ z) k.0 (low k.1.0 k.1.1);
  below_high = λ b e. let k = zero_some l.high b e in subst (λ w. z ≤ᶠ w) k.0 (high k.1.0 k.1.1);
}

falls_iff : (f : Form) (z : ℕ → Fraction) (t : Fraction) → add_dot f.columns (cost f) z zero_f ≡ Ok t →
    IsTrue (is_below t zero_f) ↔ (dot f.columns (cost f) z <ᶠ zero_f)
falls_iff f z t e =
    let total = dot f.columns (cost f) z in
    subst (λ q. IsTrue (is_below q zero_f) ↔ (total <ᶠ zero_f)) (sym (sum_is f.columns (cost f) z t e)) (is_below_iff total zero_f)

dual_infeasible_decided : (f : Form) (z : ℕ → Fraction) → Decides (dual_infeasible_tests f z) (HoldsDualInfeasible f z)
dual_infeasible_decided f z =
    let Falls = dot f.columns (cost f) z <ᶠ zero_f in
    let falls = decides_script conditions.Cost None (add_dot f.columns (cost f) z zero_f) (λ t. is_below t zero_f) Falls (falls_iff f z) in
    decides_by (dual_infeasible_tests f z) _ (HoldsDualInfeasible f z)
    (decides_both (point_tests f cone z) (cost_test f z ∷ []) _ Falls (points_decided f cone z) falls)
    (λ h. record {
      point = h.0.point;
      low = λ v b l e. (h.0.within v l).above_low zero_f (ap zero_at e);
      high = λ v b l e. (h.0.within v l).below_high zero_f (ap zero_at e);
      falls = h.1;
    })
    (λ h. let within : (v : ℕ) → v < variables f → IsWithin (cone (limits f v)) (z v) =
    λ v l. cone_within (limits f v) (z v) (λ b e. h.low v b l e) (λ b e. h.high v b l e) in
    (record { point = h.point; within = within }, h.falls))

-- ---- infeasible
abbrev Finite : Form → (ℕ → Fraction) → Totalled
Finite f y = finite_rows f y ++ finite_columns f y

last_passed : (b : Bool) (s r : Fraction) → LastFound b s ≡ Ok r → b ≡ true
last_passed true s r e = refl
last_passed false s r e = absurd cc

last_failed : (b : Bool) (s : Fraction) (c : Condition) (v : Option ℕ) → LastFound b s ≡ Err (verdicts.Invalid c v) → b ≡ false
last_failed true s c v e = absurd cc
last_failed false s c v e = refl

-- what is passed has carried the sum of all least products
carried : (f : Form) (y : ℕ → Fraction) (s : Fraction) → tested (Finite f y) zero_f ≡ Ok s → s ≡ sum_to (variables f) (least_of f y)
carried f y s h =
    let total = sum_to (variables f) (least_of f y) in
    ((parts_add f y).passed zero_f s h).1 ∙ by_ring_f (total ∷ []) (t0 ⊕ var 0) (var 0) refl

holds_of : (f : Form) (y : ℕ → Fraction) (o : Result Fraction Verdict) (r : Fraction) →
    tested (Finite f y) zero_f ≡ o → onto o (tested (positive_test ∷ [])) ≡ Ok r → HoldsInfeasible f y
holds_of f y (Ok s) r h k =
    let a = (parts_add f y).passed zero_f s h in
    let above = (is_below_iff zero_f s).0 (last_passed (is_below zero_f s) s r k) in
    holds_by f y a.0.0 a.0.1 (subst (λ z. zero_f <ᶠ z) (carried f y s h) above)
holds_of f y (Err v) r h k = absurd cc

holds_not : (f : Form) (y : ℕ → Fraction) (o : Result Fraction Verdict) (c : Condition) (v : Option ℕ) →
    tested (Finite f y) zero_f ≡ o → onto o (tested (positive_test ∷ [])) ≡ Err (verdicts.Invalid c v) → ¬ HoldsInfeasible f y
holds_not f y (Ok s) c v h k = λ g.
    let p : zero_f <ᶠ s = subst (λ z. zero_f <ᶠ z) (sym (carried f y s h)) (holds_positive f y g) in
    true≢false (sym ((is_below_iff zero_f s).1 p) ∙ last_failed (is_below zero_f s) s c v k)
holds_not f y (Err w) c v h k = λ g.
    (parts_add f y).failed zero_f c v (h ∙ k) (λ i l. holds_finite f y g (row_variable f i) (omega arith), λ j l. holds_finite f y g j (omega arith))

joined : (f : Form) (y : ℕ → Fraction) → onto (tested (Finite f y) zero_f) (tested (positive_test ∷ [])) ≡ tested (infeasible_tests f y) zero_f
joined f y = sym (tested_append (Finite f y) (positive_test ∷ []) zero_f) ∙ infeasible_parts f y zero_f

-- ---- verdicts
decided_valid : (ts : Plain) (P : Type 0) → Decides ts P → verdict_by (tested ts tt) ≡ verdicts.Valid → P
decided_valid ts P d e = d.passed (valid_passed ts tt e).1

pub valid_holds : (c : Contents) (cert : Cert) → verdict c cert ≡ verdicts.Valid → Holds c cert
valid_holds c (certs.Optimal o x d r y) e =
    let xs = get (x ++ r) in
    let ds = get (d ++ y) in
    decided_valid (optimal_tests c o xs ds) (HoldsBest c o xs ds) (optimal_decided c o xs ds) e
valid_holds c (certs.Infeasible y) e =
    let f = model_form c in
    let p = valid_passed (infeasible_tests f (get y)) zero_f e in
    holds_of f (get y) (tested (Finite f (get y)) zero_f) p.0 refl (joined f (get y) ∙ p.1)
valid_holds c (certs.DualInfeasible x r) e =
    let f = model_form c in
    let z = get (x ++ r) in
    decided_valid (dual_infeasible_tests f z) (HoldsDualInfeasible f z) (dual_infeasible_decided f z) e

pub invalid_fails : (c : Contents) (cert : Cert) (k : Condition) (v : Option ℕ) → verdict c cert ≡ verdicts.Invalid k v → ¬ Holds c cert
invalid_fails c (certs.Optimal o x d r y) k v e =
    let xs = get (x ++ r) in
    let ds = get (d ++ y) in
    (optimal_decided c o xs ds).failed k v (invalid_failed (optimal_tests c o xs ds) tt k v e)
invalid_fails c (certs.Infeasible y) k v e =
    let f = model_form c in
    holds_not f (get y) (tested (Finite f (get y)) zero_f) k v refl (joined f (get y) ∙ invalid_failed (infeasible_tests f (get y)) zero_f k v e)
invalid_fails c (certs.DualInfeasible x r) k v e =
    let f = model_form c in
    let z = get (x ++ r) in
    (dual_infeasible_decided f z).failed k v (invalid_failed (dual_infeasible_tests f z) tt k v e)

pub holds_shows : (c : Contents) (cert : Cert) → Holds c cert → Shows c cert
holds_shows c (certs.Optimal o x d r y) h = record {
  feasible = h.certificate.feasible;
  no_less = λ z k. weak_duality (model_form c) (get (x ++ r)) (get (d ++ y)) z h.certificate k;
}
holds_shows c (certs.Infeasible y) h = λ z k. no_feasible_point (model_form c) (get y) z h k
holds_shows c (certs.DualInfeasible x r) h = λ y d k. no_dual_point (model_form c) (get (x ++ r)) y d h k
