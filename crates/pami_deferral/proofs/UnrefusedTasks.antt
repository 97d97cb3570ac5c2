-- Where nothing of a collective update is refused, each of its scripts has a value, and it is the exact one.
use Rattle.std.proofs.Common.{◌≡◌, ℕ, suc, ◌<◌, List, [], ◌∷◌, ◌++◌, map, Option, None, Some, Result, Ok, Err, refl, sym, ap, ◌∙◌}
use Rattle.std.specs.List.{range_with_len}
use Rattle.std.proofs.lemmas.Option.{none-some}
use Rattle.pami_algebra.specs.Fraction.{Fraction}
use Rattle.pami_frac.specs.declared.arithmetic.Refused.{Refused}
use Rattle.pami_linear.specs.Lists.{get}
use Rattle.pami_script.specs.Script.{then}
use Rattle.pami_script.proofs.Scripts.{then_ok}
use Rattle.pami_factoring.specs.declared.kept.Kept.{Kept}
use Rattle.pami_factoring.specs.Solve.{ColumnPivot, forward_script, backward_script, transform_script}
use Rattle.pami_theory.specs.Form.{Form}
use Rattle.pami_theory.specs.Basis.{IsBasis}
use Rattle.pami_theory.specs.Fresh.{IsFresh, row_at, column_at, value_at_place}
use Rattle.pami_method.specs.Task.{Task, task, refusal}
use Rattle.pami_method.specs.declared.words.Place.{Place}
use Rattle.pami_method.specs.declared.words.Spot.{Spot}
use Rattle.pami_method.specs.declared.words.Spot.TheVariants.{Backward, Column, Flips, Transform, Values}
use Rattle.pami_method.specs.Factor.{History, elimination, refusal_by, solve_task}
use Rattle.pami_method.specs.Batch.{Reached, Minor, IsBatch}
use Rattle.pami_method.specs.Scripts.{zeros}
use Rattle.pami_method.specs.Work.{pivot_of, unit_at, column_of, backward_task, column_tasks, all_flips_script, flips_task, all_flips_at, transform_tasks, values_script, collect_tasks, refused_or, first_refused}
use Rattle.pami_method.proofs.Batches.{batch_ends_fresh}
use Rattle.pami_deferral.specs.Factored.{IsHistoryOf}
use Rattle.pami_deferral.proofs.Chains.{batch_chain, exchange_of}
use Rattle.pami_deferral.proofs.CollectScripts.{transformed_in, values_value}
use Rattle.pami_deferral.proofs.Histories.{column_solved, row_solved, flips_solved}
use Rattle.pami_deferral.proofs.Minors.{batch_parts}

-- ---- a script that isn't refused has a value
pub value_there : {A : Type 0} (s : Result A Refused) → refusal s ≡ None → (x : A) × (s ≡ Ok x)
value_there (Ok x) e = (x, refl)
value_there (Err r) e = absurd (none-some r (sym e))

-- ---- lists of scripts
head_by : (o : Option Refused) (spot : Spot) (later : Option Place) → refused_or o spot later ≡ None → (o ≡ None) × (later ≡ None)
head_by None spot later e = (refl, e)
head_by (Some r) spot later e = absurd (none-some (record { task = spot; refused = r }) (sym e))

none_head : (t : Task) (ts : List Task) → first_refused (t ∷ ts) ≡ None → (t.refusal ≡ None) × (first_refused ts ≡ None)
none_head t ts e = head_by t.refusal t.spot (first_refused ts) e

none_front : (o : Option Refused) (spot : Spot) (x : Option Place) → o ≡ None → x ≡ None → refused_or o spot x ≡ None
none_front o spot x e f = ap (λ z. refused_or z spot x) e ∙ f

none_parts : (ts us : List Task) → first_refused (ts ++ us) ≡ None → (first_refused ts ≡ None) × (first_refused us ≡ None)
none_parts [] us e = (refl, e)
none_parts (t ∷ ts) us e =
    let h = none_head t (ts ++ us) e in
    let k = none_parts ts us h.1 in
    (none_front t.refusal t.spot (first_refused ts) h.0 k.0, k.1)

-- a solve by the steps of the elimination
solve_by : {A : Type 0} (spot : Spot) (f : Form) (h : History) (script : List Kept → Result A Refused) (steps : List Kept)
    → elimination f h.head ≡ Ok steps → (solve_task spot f h script).refusal ≡ None → refusal (script steps) ≡ None
solve_by spot f h script steps e k = sym (ap (λ r. refusal_by r script) e) ∙ k

-- ---- the collective update's
record Unrefused (f : Form) (h : History) (first : Reached) (ms : List Minor) : Type 0 where
  columns : first_refused (column_tasks f h 1 ms) ≡ None
  flips : (flips_task f h ms).refusal ≡ None
  transforms : first_refused (transform_tasks first 1 [] ms) ≡ None
  values : refusal (values_script f first ms) ≡ None

unrefused : (f : Form) (h : History) (first : Reached) (ms : List Minor) → first_refused (collect_tasks f h first ms) ≡ None
    → Unrefused f h first ms
unrefused f h first ms e =
    let a = none_parts (column_tasks f h 1 ms)
    (flips_task f h ms ∷ (transform_tasks first 1 [] ms ++ task Values (values_script f first ms) ∷ [])) e in
    let b = none_head (flips_task f h ms) (transform_tasks first 1 [] ms ++ task Values (values_script f first ms) ∷ []) a.1 in
    let c = none_parts (transform_tasks first 1 [] ms) (task Values (values_script f first ms) ∷ []) b.1 in
    record { columns = a.0; flips = b.0; transforms = c.0; values = (none_head (task Values (values_script f first ms)) [] c.1).0 }

-- the one of a minor
column_of_minor : (f : Form) (h : History) (minor : ℕ) (es : List Minor) (m : Minor) (ms : List Minor) (steps : List Kept)
    → elimination f h.head ≡ Ok steps → first_refused (column_tasks f h minor (es ++ m ∷ ms)) ≡ None →
    refusal (forward_script steps h.pivots (column_of f m.step.entering)) ≡ None
column_of_minor f h minor [] m ms steps e k =
    solve_by (Column minor) f h (λ steps. forward_script steps h.pivots (column_of f m.step.entering)) steps e
    (none_head (solve_task (Column minor) f h (λ steps. forward_script steps h.pivots (column_of f m.step.entering)))
    (column_tasks f h (suc minor) ms) k).0
column_of_minor f h minor (n ∷ es) m ms steps e k =
    column_of_minor f h (suc minor) es m ms steps e
    (none_head (solve_task (Column minor) f h (λ steps. forward_script steps h.pivots (column_of f n.step.entering)))
    (column_tasks f h (suc minor) (es ++ m ∷ ms)) k).1

more_more : (earlier : List ColumnPivot) (n : Minor) (es : List Minor)
    → (earlier ++ pivot_of n ∷ []) ++ map pivot_of es ≡ earlier ++ pivot_of n ∷ map pivot_of es
more_more [] n es = refl
more_more (q ∷ earlier) n es = ap (λ ps. q ∷ ps) (more_more earlier n es)

nothing_more : (earlier : List ColumnPivot) → earlier ++ [] ≡ earlier
nothing_more [] = refl
nothing_more (q ∷ earlier) = ap (λ ps. q ∷ ps) (nothing_more earlier)

transform_of_minor : (first : Reached) (minor : ℕ) (earlier : List ColumnPivot) (es : List Minor) (m : Minor) (ms : List Minor)
    → first_refused (transform_tasks first minor earlier (es ++ m ∷ ms)) ≡ None →
    refusal (transform_script (earlier ++ map pivot_of es) (column_at first.fresh m.step.entering)) ≡ None
transform_of_minor first minor earlier [] m ms k =
    ap (λ ps. refusal (transform_script ps (column_at first.fresh m.step.entering))) (nothing_more earlier)
    ∙ (none_head (task (Transform minor) (transform_script earlier (column_at first.fresh m.step.entering)))
    (transform_tasks first (suc minor) (earlier ++ pivot_of m ∷ []) ms) k).0
transform_of_minor first minor earlier (n ∷ es) m ms k =
    ap (λ ps. refusal (transform_script ps (column_at first.fresh m.step.entering))) (sym (more_more earlier n es))
    ∙ transform_of_minor first (suc minor) (earlier ++ pivot_of n ∷ []) es m ms
    (none_head (task (Transform minor) (transform_script earlier (column_at first.fresh n.step.entering)))
    (transform_tasks first (suc minor) (earlier ++ pivot_of n ∷ []) (es ++ m ∷ ms)) k).1

-- ---- their values
pub unrefused_row : (f : Form) (h : History) (first : Reached) (steps : List Kept) (p : ℕ) → IsFresh f first.basis first.fresh
    → IsHistoryOf f h first.basis → elimination f h.head ≡ Ok steps → p < f.rows
    → (backward_task f h p).refusal ≡ None → backward_script steps h.pivots (unit_at f p) ≡ Ok (row_at first.fresh p)
unrefused_row f h first steps p s i e l k =
    let x = value_there (backward_script steps h.pivots (unit_at f p))
    (solve_by (Backward p) f h (λ steps. backward_script steps h.pivots (unit_at f p)) steps e k) in
    x.1 ∙ ap Ok (row_solved f h first.basis first.fresh steps p x.0 i s e l x.1)

pub unrefused_column : (f : Form) (limit : ℕ) (h : History) (first : Reached) (es : List Minor) (m : Minor) (ms : List Minor)
    (last : Reached) (steps : List Kept) → IsBasis f first.basis → IsFresh f first.basis first.fresh
    → IsBatch f limit first (es ++ m ∷ ms) last → IsHistoryOf f h first.basis → elimination f h.head ≡ Ok steps
    → first_refused (collect_tasks f h first (es ++ m ∷ ms)) ≡ None
    → forward_script steps h.pivots (column_of f m.step.entering) ≡ Ok (column_at first.fresh m.step.entering)
unrefused_column f limit h first es m ms last steps b s k i e n =
    let p = batch_parts f limit first es m ms last b s k in
    let x = value_there (forward_script steps h.pivots (column_of f m.step.entering))
    (column_of_minor f h 1 es m ms steps e (unrefused f h first (es ++ m ∷ ms) n).columns) in
    x.1 ∙ ap Ok (column_solved f h first.basis first.fresh steps m.step.entering x.0 i s e (exchange_of f m p.next p.link).within x.1)

pub unrefused_flips : (f : Form) (h : History) (first : Reached) (ms : List Minor) (steps : List Kept) → IsFresh f first.basis first.fresh
    → IsHistoryOf f h first.basis → elimination f h.head ≡ Ok steps
    → first_refused (collect_tasks f h first ms) ≡ None
    → (total : List Fraction) × (z : List Fraction) × (all_flips_script f ms (zeros f.rows) ≡ Ok total)
    × (forward_script steps h.pivots total ≡ Ok z) × ((p : ℕ) → p < f.rows → get z p ≡ all_flips_at f first ms p)
unrefused_flips f h first ms steps s i e n =
    let script = λ (steps : List Kept). then (all_flips_script f ms (zeros f.rows)) (λ rows. forward_script steps h.pivots rows) in
    let x = value_there (script steps) (solve_by Flips f h script steps e (unrefused f h first ms n).flips) in
    let t = then_ok (all_flips_script f ms (zeros f.rows)) (λ rows. forward_script steps h.pivots rows) x.0 x.1 in
    (t.0, x.0, t.1.0, t.1.1, λ p l. flips_solved f h first ms steps t.0 x.0 p i s e t.1.0 t.1.1 l)

pub unrefused_transform : (f : Form) (limit : ℕ) (h : History) (first : Reached) (es : List Minor) (m : Minor) (ms : List Minor)
    (last : Reached) → IsBasis f first.basis → IsFresh f first.basis first.fresh
    → IsBatch f limit first (es ++ m ∷ ms) last → first_refused (collect_tasks f h first (es ++ m ∷ ms)) ≡ None
    → transform_script (map pivot_of es) (column_at first.fresh m.step.entering) ≡ Ok (column_at m.reached.fresh m.step.entering)
unrefused_transform f limit h first es m ms last b s k n =
    let x = value_there (transform_script (map pivot_of es) (column_at first.fresh m.step.entering))
    (transform_of_minor first 1 [] es m ms (unrefused f h first (es ++ m ∷ ms) n).transforms) in
    x.1 ∙ ap Ok (transformed_in f limit first es m ms last x.0 b s k x.1)

pub unrefused_values : (f : Form) (limit : ℕ) (h : History) (first : Reached) (ms : List Minor) (last : Reached) → IsBasis f first.basis
    → IsFresh f first.basis first.fresh
    → IsBatch f limit first ms last → first_refused (collect_tasks f h first ms) ≡ None
    → values_script f first ms ≡ Ok (map (value_at_place last.basis last.fresh) (range_with_len 0 f.rows))
unrefused_values f limit h first ms last b s k n =
    let x = value_there (values_script f first ms) (unrefused f h first ms n).values in
    x.1 ∙ ap Ok (values_value f first ms last x.0 s (batch_ends_fresh f limit first ms last b s k).1
    (batch_chain f limit first ms last b s k) x.1)
