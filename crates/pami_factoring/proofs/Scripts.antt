-- The script, where nothing is refused, is a chain of steps; where no pivot is left, a right side has no solution.
use Rattle.std.proofs.Common.{◌≡◌, ℕ, zero, suc, ◌<◌, List, [], ◌∷◌, length, set, replicate, refl, sym, ap, ◌∙◌, subst, arith, Bool, true, false, Option, Some, None, Result, Ok, Err, slice_index_or}
use Rattle.std.proofs.lemmas.Bool.{true≢false}
use Rattle.std.proofs.lemmas.List.{length-set, length-replicate, get_or-replicate}
use lib.Dec.{T}
use Rattle.pami_algebra.specs.Fraction.{Fraction}
use Rattle.pami_algebra.specs.Operations.{◌-ᶠ◌, ◌*ᶠ◌, ◌/ᶠ◌}
use Rattle.pami_frac.specs.Arithmetic.{mul_outcome, sub_outcome, div_outcome}
use Rattle.pami_frac.specs.declared.arithmetic.Refused.{Refused}
use Rattle.pami_linear.specs.Lists.{get}
use Rattle.pami_script.specs.Script.{then}
use Rattle.pami_frac.proofs.Outcomes.{sub_value, mul_value, div_value}
use Rattle.pami_linear.specs.Pivoting.{Pivot, pivot, at_pivot, allowed_in, cost_in, IsFound, IsInside}
use Rattle.pami_factoring.specs.declared.kept.Kept.{Kept}
use Rattle.pami_factoring.specs.declared.kept.LuFault.{LuFault}
use Rattle.pami_factoring.specs.declared.kept.LuFault.TheVariants.{Singular, Refused as Unfit}
use Rattle.pami_linear.specs.Active.{but, count, first_from}
use Rattle.pami_linear.specs.Elimination.{reduced}
use Rattle.pami_linear.specs.Chains.{IsPivot, Agree, Chain, ended, goes_on, Unsolved}
use Rattle.pami_factoring.specs.Factor.{sub_if, sub_row, reduce_row, reduce_rows, flag, entry, step_at, then_more, then_step, elimination_from, elimination_script}
use Rattle.pami_factoring.specs.Steps.{steps_from, IsSquare}
use Rattle.pami_linear.proofs.Parts.{count_but, count_none, count_all, count_same}
use Rattle.pami_linear.proofs.Pivots.{pivot_is_first, pivot_from}
use Rattle.pami_linear.proofs.Chains.{unsolved_moved}
use Rattle.pami_linear.proofs.Ends.{stuck, unsolved_above}
use Rattle.pami_factoring.proofs.Shapes.{Each, each_then, Shape, Rowed, flag_but, flag_in, rows_rowed, true_of}

-- what an answer says of the rows: a chain of steps, or a right side with no solution
abbrev pub ScriptOutcome : ℕ → List Bool → List Bool → List (List Fraction) → Result (List Kept) LuFault → Type 0
ScriptOutcome m ts cs rows (Ok ks) = Chain m (flag ts) (flag cs) (entry rows) (steps_from ts cs ks)
ScriptOutcome m ts cs rows (Err (Singular p)) = Unsolved m (flag ts) (flag cs) (entry rows)
ScriptOutcome m ts cs rows (Err (Unfit r)) = Unit {0}

-- ---- the values of the operations
each_from : {A : Type 0} (P : A → Type 0) (r : Result A Refused) → ((x : A) → r ≡ Ok x → P x) → Each P r
each_from P (Ok x) h = h x refl
each_from P (Err e) h = tt

pub mul_each : (x y : Fraction) → Each (λ z. z ≡ x *ᶠ y) (mul_outcome x y)
mul_each x y = each_from (λ z. z ≡ x *ᶠ y) (mul_outcome x y) (mul_value x y)

pub sub_each : (x y : Fraction) → Each (λ z. z ≡ x -ᶠ y) (sub_outcome x y)
sub_each x y = each_from (λ z. z ≡ x -ᶠ y) (sub_outcome x y) (sub_value x y)

pub div_each : (x y : Fraction) → Each (λ z. z ≡ x /ᶠ y) (div_outcome x y)
div_each x y = each_from (λ z. z ≡ x /ᶠ y) (div_outcome x y) (div_value x y)

one_each : (t : Bool) (x l y : Fraction) → Each (λ z. t ≡ true → z ≡ x -ᶠ l *ᶠ y) (sub_if t x l y)
one_each true x l y = each_then (λ z. z ≡ l *ᶠ y) (λ z. true ≡ true → z ≡ x -ᶠ l *ᶠ y) (mul_outcome l y) (λ p. sub_outcome x p) (mul_each l y)
    (λ p e. each_later (sub_outcome x p) (λ z. z ≡ x -ᶠ p) (λ z. true ≡ true → z ≡ x -ᶠ l *ᶠ y) (sub_each x p) (λ z f u. f ∙ ap (λ k. x -ᶠ k) e))
  where
    each_later : (r : Result Fraction Refused) (P Q : Fraction → Type 0) → Each P r → ((z : Fraction) → P z → Q z) → Each Q r
    each_later (Ok z) P Q h g = g z h
    each_later (Err e) P Q h g = tt
one_each false x l y = λ h. absurd (true≢false (sym h))

-- ---- the values of a row, of the rows
abbrev pub RowIs : List Bool → List Fraction → Fraction → List Fraction → List Fraction → Type 0
RowIs ts xs l ys zs = (g : ℕ) → g < length xs → flag ts g ≡ true → get zs g ≡ get xs g -ᶠ l *ᶠ get ys g

row_more : (t : Bool) (ts : List Bool) (x : Fraction) (xs : List Fraction) (l y : Fraction) (ys : List Fraction) (z : Fraction) (zs : List Fraction) →
    (t ≡ true → z ≡ x -ᶠ l *ᶠ y) → RowIs ts xs l ys zs → RowIs (t ∷ ts) (x ∷ xs) l (y ∷ ys) (z ∷ zs)
row_more t ts x xs l y ys z zs e r zero j f = e f
row_more t ts x xs l y ys z zs e r (suc g) j f = r g (omega arith) f

row_each : (ts : List Bool) (xs : List Fraction) (l : Fraction) (ys : List Fraction) → length ts ≡ length xs → length xs ≡ length ys → Each (RowIs ts xs l ys) (sub_row ts xs l ys)
row_each [] [] l ys e f = λ g j k. absurd (omega arith)
row_each [] (x ∷ xs) l ys e f = absurd (omega arith)
row_each (t ∷ ts) [] l ys e f = λ g j k. absurd (omega arith)
row_each (t ∷ ts) (x ∷ xs) l [] e f = absurd (omega arith)
row_each (t ∷ ts) (x ∷ xs) l (y ∷ ys) e f =
    each_then (λ z. t ≡ true → z ≡ x -ᶠ l *ᶠ y) (RowIs (t ∷ ts) (x ∷ xs) l (y ∷ ys)) (sub_if t x l y) (λ z. then (sub_row ts xs l ys) (λ zs. Ok (z ∷ zs))) (one_each t x l y)
    (λ z h. each_then (RowIs ts xs l ys) (RowIs (t ∷ ts) (x ∷ xs) l (y ∷ ys)) (sub_row ts xs l ys) (λ zs. Ok (z ∷ zs)) (row_each ts xs l ys (omega arith) (omega arith))
    (λ zs r. row_more t ts x xs l y ys z zs h r))

pub record LineIs (cs : List Bool) (p n : ℕ) (row kept after : List Fraction) (l : Fraction) : Type 0 where
  pub multiplier : l ≡ get row p /ᶠ get kept p
  pub line : (g : ℕ) → g < n → flag cs g ≡ true → get after g ≡ get row g -ᶠ l *ᶠ get kept g

line_each : (t : Bool) (cs : List Bool) (p n : ℕ) (row kept : List Fraction) → (t ≡ true → length row ≡ n) → length cs ≡ n → length kept ≡ n →
    Each (λ (one : List Fraction × Fraction). t ≡ true → LineIs cs p n row kept one.0 one.1) (reduce_row t cs p row kept)
line_each false cs p n row kept e f k = λ h. absurd (true≢false (sym h))
line_each true cs p n row kept e f k =
    let d : length row ≡ n = e refl in
    each_then (λ l. l ≡ get row p /ᶠ get kept p) (λ (one : List Fraction × Fraction). true ≡ true → LineIs cs p n row kept one.0 one.1) (div_outcome (get row p) (get kept p)) (λ l. then (sub_row cs row l kept) (λ zs. Ok (zs, l))) (div_each (get row p) (get kept p))
    (λ l h. each_then (RowIs cs row l kept) (λ (one : List Fraction × Fraction). true ≡ true → LineIs cs p n row kept one.0 one.1) (sub_row cs row l kept) (λ zs. Ok (zs, l)) (row_each cs row l kept (omega arith) (omega arith))
    (λ zs r u. record { multiplier = h; line = λ g j q. r g (omega arith) q }))

pub record LinesAre (ts cs : List Bool) (p n m : ℕ) (rows : List (List Fraction)) (kept : List Fraction) (rest : List (List Fraction) × List Fraction) : Type 0 where
  pub lines : (h : ℕ) → h < m → flag ts h ≡ true → LineIs cs p n (slice_index_or rows h []) kept (slice_index_or rest.0 h []) (get rest.1 h)

lines_more : (t : Bool) (ts cs : List Bool) (p n m : ℕ) (row : List Fraction) (rows : List (List Fraction)) (kept : List Fraction) (one : List Fraction × Fraction) (rest : List (List Fraction) × List Fraction) →
    (t ≡ true → LineIs cs p n row kept one.0 one.1) → LinesAre ts cs p n m rows kept rest → LinesAre (t ∷ ts) cs p n (suc m) (row ∷ rows) kept (one.0 ∷ rest.0, one.1 ∷ rest.1)
lines_more t ts cs p n m row rows kept one rest e r = record { lines = at }
  where
    at : (h : ℕ) → h < suc m → flag (t ∷ ts) h ≡ true → LineIs cs p n (slice_index_or (row ∷ rows) h []) kept (slice_index_or (one.0 ∷ rest.0) h []) (get (one.1 ∷ rest.1) h)
    at zero l f = e f
    at (suc h) l f = r.lines h (omega arith) f

pub lines_each : (ts cs : List Bool) (p n : ℕ) (rows : List (List Fraction)) (kept : List Fraction) → length ts ≡ length rows →
    ((h : ℕ) → h < length rows → flag ts h ≡ true → length (slice_index_or rows h []) ≡ n) → length cs ≡ n → length kept ≡ n →
    Each (LinesAre ts cs p n (length rows) rows kept) (reduce_rows ts cs p rows kept)
lines_each [] cs p n [] kept e s f g = record { lines = λ h l k. absurd (omega arith) }
lines_each [] cs p n (row ∷ rows) kept e s f g = absurd (omega arith)
lines_each (t ∷ ts) cs p n [] kept e s f g = absurd (omega arith)
lines_each (t ∷ ts) cs p n (row ∷ rows) kept e s f g =
    each_then (λ (one : List Fraction × Fraction). t ≡ true → LineIs cs p n row kept one.0 one.1) (LinesAre (t ∷ ts) cs p n (suc (length rows)) (row ∷ rows) kept) (reduce_row t cs p row kept)
    (λ one. then (reduce_rows ts cs p rows kept) (λ rest. Ok (one.0 ∷ rest.0, one.1 ∷ rest.1)))
    (line_each t cs p n row kept (λ h. s zero (omega arith) h) f g)
    (λ one a. each_then (LinesAre ts cs p n (length rows) rows kept) (LinesAre (t ∷ ts) cs p n (suc (length rows)) (row ∷ rows) kept) (reduce_rows ts cs p rows kept) (λ rest. Ok (one.0 ∷ rest.0, one.1 ∷ rest.1))
    (lines_each ts cs p n rows kept (omega arith) (λ h l k. s (suc h) (omega arith) k) f g)
    (λ rest r. lines_more t ts cs p n (length rows) row rows kept one rest a r))

-- ---- a step of the script
from_true : (t : Bool) → t ≡ true → T t
from_true t e = subst T (sym e) tt

low_outcome : (m i p : ℕ) (ts cs : List Bool) (rows : List (List Fraction)) (low : List (List Fraction) × List Fraction) (o : Result (List Kept) LuFault) → Shape m ts cs rows → IsPivot m (flag ts) (flag cs) (entry rows) i p →
    LinesAre (set ts i false) (set cs p false) p m (length rows) rows (slice_index_or rows i []) low → ScriptOutcome m (set ts i false) (set cs p false) low.0 o →
    ScriptOutcome m ts cs rows (then_more (record { row = i; place = p; kept = slice_index_or rows i []; multipliers = low.1 }) o)
low_outcome m i p ts cs rows low o s q v u =
    let tall : length rows ≡ m = s.tall in
    let down : length ts ≡ m = s.down in
    let across : length cs ≡ m = s.across in
    let li : i < m = q.row_low in
    let lp : p < m = q.place_low in
    let fr : (h : ℕ) → flag (set ts i false) h ≡ but i (flag ts) h = λ h. flag_but ts i h (omega arith) in
    let fc : (g : ℕ) → flag (set cs p false) g ≡ but p (flag cs) g = λ g. flag_but cs p g (omega arith) in
    let at : (h : ℕ) → h < m → T (flag (set ts i false) h) → LineIs (set cs p false) p m (slice_index_or rows h []) (slice_index_or rows i []) (slice_index_or low.0 h []) (get low.1 h) =
    λ h l t. v.lines h (omega arith) (true_of (flag (set ts i false) h) t) in
    let agree : Agree m (flag (set ts i false)) (flag (set cs p false)) (entry low.0) (reduced (entry rows) i p) =
    λ h g lh lg th tg. (at h lh th).line g lg (true_of (flag (set cs p false) g) tg) ∙ ap (λ z. entry rows h g -ᶠ z *ᶠ entry rows i g) (at h lh th).multiplier in
    go o u fr fc at agree
  where
    go : (o : Result (List Kept) LuFault) → ScriptOutcome m (set ts i false) (set cs p false) low.0 o →
        ((h : ℕ) → flag (set ts i false) h ≡ but i (flag ts) h) → ((g : ℕ) → flag (set cs p false) g ≡ but p (flag cs) g) →
        ((h : ℕ) → h < m → T (flag (set ts i false) h) → LineIs (set cs p false) p m (slice_index_or rows h []) (slice_index_or rows i []) (slice_index_or low.0 h []) (get low.1 h)) →
        Agree m (flag (set ts i false)) (flag (set cs p false)) (entry low.0) (reduced (entry rows) i p) →
        ScriptOutcome m ts cs rows (then_more (record { row = i; place = p; kept = slice_index_or rows i []; multipliers = low.1 }) o)
    go (Ok ks) u fr fc at agree =
        goes_on (flag ts) (flag cs) (entry rows) (entry low.0) (record { row = i; place = p; kept = get (slice_index_or rows i []); multiplier = get low.1; rows = flag (set ts i false); places = flag (set cs p false) }) (steps_from (set ts i false) (set cs p false) ks) q
        (record { rows = λ h l. fr h; places = λ g l. fc g; kept = λ g l t. refl; multiplier = λ h l t. (at h l (subst T (sym (fr h)) t)).multiplier })
        agree u
    go (Err (Singular k)) u fr fc at agree =
        unsolved_above m (flag ts) (flag cs) (entry rows) i p q
        (unsolved_moved m (but i (flag ts)) (but p (flag cs)) (flag (set ts i false)) (flag (set cs p false)) (reduced (entry rows) i p) (entry low.0) (λ h l. fr h) (λ g l. fc g) agree u)
    go (Err (Unfit r)) u fr fc at agree = tt

next_outcome : (m i p : ℕ) (ts cs : List Bool) (rows : List (List Fraction)) (r : Result (List (List Fraction) × List Fraction) Refused) (f : List (List Fraction) → Result (List Kept) LuFault) → Shape m ts cs rows → IsPivot m (flag ts) (flag cs) (entry rows) i p →
    Each (LinesAre (set ts i false) (set cs p false) p m (length rows) rows (slice_index_or rows i [])) r → Each (Rowed (set ts i false) m (length rows)) r →
    ((next : List (List Fraction)) → Shape m (set ts i false) (set cs p false) next → ScriptOutcome m (set ts i false) (set cs p false) next (f next)) →
    ScriptOutcome m ts cs rows (then_step (then r (λ low. Ok (record { row = i; place = p; kept = slice_index_or rows i []; multipliers = low.1 }, low.0))) f)
next_outcome m i p ts cs rows (Ok low) f s q v w g =
    let tall : length rows ≡ m = s.tall in
    low_outcome m i p ts cs rows low (f low.0) s q v
    (g low.0 (record { tall = w.tall ∙ tall; down = length-set ts i false ∙ s.down; across = length-set cs p false ∙ s.across; same = λ h l k. w.same h (omega arith) k }))
next_outcome m i p ts cs rows (Err e) f s q v w g = tt

script_by : (n m : ℕ) (ts cs : List Bool) (rows : List (List Fraction)) (o : Option Pivot) → Shape m ts cs rows → count m (flag ts) ≡ suc n → count m (flag cs) ≡ suc n →
    IsFound (allowed_in (flag ts) (flag cs) (entry rows)) (cost_in m (flag ts) (flag cs) (entry rows)) (IsInside m) o →
    ((ts cs : List Bool) (rows : List (List Fraction)) → Shape m ts cs rows → count m (flag ts) ≡ n → count m (flag cs) ≡ n → ScriptOutcome m ts cs rows (elimination_from n ts cs rows)) →
    ScriptOutcome m ts cs rows (at_pivot o (Err (Singular (first_from (length cs) 0 (flag cs)))) (λ i p. then_step (step_at (set ts i false) (set cs p false) rows i p) (λ (next : List (List Fraction)). elimination_from n (set ts i false) (set cs p false) next)))
script_by n m ts cs rows None s er ec f g = stuck m n (flag ts) (flag cs) (entry rows) er f
script_by n m ts cs rows (Some q) s er ec f g =
    let k : IsPivot m (flag ts) (flag cs) (entry rows) q.row q.place = pivot_from m (flag ts) (flag cs) (entry rows) q f in
    let tall : length rows ≡ m = s.tall in
    let down : length ts ≡ m = s.down in
    let across : length cs ≡ m = s.across in
    let li : q.row < m = k.row_low in
    let lp : q.place < m = k.place_low in
    let dr : count m (flag ts) ≡ suc (count m (but q.row (flag ts))) = count_but m q.row (flag ts) k.row_low k.row_in in
    let dc : count m (flag cs) ≡ suc (count m (but q.place (flag cs))) = count_but m q.place (flag cs) k.place_low k.place_in in
    let mr : count m (flag (set ts q.row false)) ≡ count m (but q.row (flag ts)) = count_same m (flag (set ts q.row false)) (but q.row (flag ts)) (λ h l. flag_but ts q.row h (omega arith)) in
    let mc : count m (flag (set cs q.place false)) ≡ count m (but q.place (flag cs)) = count_same m (flag (set cs q.place false)) (but q.place (flag cs)) (λ h l. flag_but cs q.place h (omega arith)) in
    let same : (h : ℕ) → h < length rows → flag (set ts q.row false) h ≡ true → length (slice_index_or rows h []) ≡ m = λ h l e. s.same h (omega arith) (flag_in ts q.row h (omega arith) e) in
    let kept : length (slice_index_or rows q.row []) ≡ m = s.same q.row k.row_low (true_of (flag ts q.row) k.row_in) in
    next_outcome m q.row q.place ts cs rows (reduce_rows (set ts q.row false) (set cs q.place false) q.place rows (slice_index_or rows q.row [])) (λ next. elimination_from n (set ts q.row false) (set cs q.place false) next) s k
    (lines_each (set ts q.row false) (set cs q.place false) q.place m rows (slice_index_or rows q.row []) (length-set ts q.row false ∙ down ∙ sym tall) same (length-set cs q.place false ∙ across) kept)
    (rows_rowed (set ts q.row false) (set cs q.place false) q.place m rows (slice_index_or rows q.row []) (length-set ts q.row false ∙ down ∙ sym tall) same (length-set cs q.place false ∙ across) kept)
    (λ next d. g (set ts q.row false) (set cs q.place false) next d (omega arith) (omega arith))

pub script_outcome : (n m : ℕ) (ts cs : List Bool) (rows : List (List Fraction)) → Shape m ts cs rows → count m (flag ts) ≡ n → count m (flag cs) ≡ n → ScriptOutcome m ts cs rows (elimination_from n ts cs rows)
script_outcome zero m ts cs rows s er ec = ended (flag ts) (flag cs) (entry rows) (count_none m (flag ts) er) (count_none m (flag cs) ec)
script_outcome (suc n) m ts cs rows s er ec =
    script_by n m ts cs rows (pivot (length rows) (flag ts) (flag cs) (entry rows)) s er ec
    (subst (λ k. IsFound (allowed_in (flag ts) (flag cs) (entry rows)) (cost_in k (flag ts) (flag cs) (entry rows)) (IsInside k) (pivot (length rows) (flag ts) (flag cs) (entry rows))) s.tall (pivot_is_first (length rows) (flag ts) (flag cs) (entry rows)))
    (script_outcome n m)

pub all_flags : (m : ℕ) (h : ℕ) → h < m → flag (replicate m true) h ≡ true
all_flags m h l = get_or-replicate m h true false l

all_count : (m : ℕ) → count m (flag (replicate m true)) ≡ m
all_count m = count_same m (flag (replicate m true)) (λ k. true) (λ k l. all_flags m k l) ∙ count_all m

pub elimination_outcome : (rows : List (List Fraction)) → IsSquare rows → ScriptOutcome (length rows) (replicate (length rows) true) (replicate (length rows) true) rows (elimination_script rows)
unfolding elimination_script
elimination_outcome rows s =
    script_outcome (length rows) (length rows) (replicate (length rows) true) (replicate (length rows) true) rows
    (record { tall = refl; down = length-replicate (length rows) true; across = length-replicate (length rows) true; same = λ h l k. s h l }) (all_count (length rows)) (all_count (length rows))
