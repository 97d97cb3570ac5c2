-- A step at a pivot: what the code takes out, hands on and leaves.
use Rattle.std.proofs.Common.{◌≡◌, ℕ, zero, suc, ◌+◌, ◌<◌, ◌≤◌, List, [], ◌∷◌, length, set, replicate, refl, sym, ap, ◌∙◌, subst, arith, Bool, true, false, cond, not, ⊎_elim, Result, Ok, Err}
use Rattle.std.specs.Prelude.{All}
use Rattle.std.proofs.lemmas.Bool.{cases_eq, true≢false}
use Rattle.std.proofs.lemmas.List.{get_or-set_same, get_or-set_other, length-set}
use lib.IntN.{pos}
use Rattle.pami_algebra.specs.Fraction.{Fraction}
use Rattle.pami_algebra.specs.Operations.{of_int}
use Rattle.pami_algebra.proofs.Tests.{is_zero_iff}
use Rattle.pami_frac.specs.Arithmetic.{div_outcome}
use Rattle.pami_frac.specs.declared.arithmetic.Refused.{Refused}
use Rattle.pami_frac.specs.declared.list.Entry.{Entry}
use Rattle.pami_linear.specs.Lists.{get}
use Rattle.pami_script.specs.Script.{then, sub_product}
use Rattle.pami_vec.specs.Entries.{AreEntriesOf}
use Rattle.pami_vec.proofs.Scripted.{get_at}
use Rattle.pami_lu.specs.declared.step.SparseStep.{SparseStep}
use Rattle.pami_factoring.specs.Factor.{flag, row_at, entry}
use Rattle.pami_lu.specs.Clear.{sub_or_zero, clear_row, clear_reduce, clear_rows, clear_step}
use Rattle.pami_factoring.proofs.Shapes.{Each, each_ok, each_then}
use Rattle.pami_lu.specs.Members.{those, stands_at, without_row, Ascends, AreOthers, AreAll}
use Rattle.pami_lu.specs.Plain.{set_of, plain_rows, change_all, left_by}
use Rattle.pami_lu.specs.Cleaned.{IsCleaned, IsStepOf}
use Rattle.pami_frac.specs.Answers.{FollowsBy}
use Rattle.pami_frac.specs.declared.fault.Fault.{Fault}
use Rattle.pami_frac.specs.declared.fault.Fault.TheVariants as faults
use Rattle.pami_lu.proofs.Those.{those_without, those_same, those_none, those_yes, those_no}
use Rattle.pami_lu.proofs.Turns.{has, has_not, change_at, stands_other, stands_here}
use Rattle.pami_lu.proofs.Rows.{reduce_without}
use Rattle.pami_lu.proofs.Entrywise.{Fits, skips_are, whole_turn}

-- ---- the script of a step
empty_fits : (ts cs : List Bool) (rows : List (List Fraction)) (i p h : ℕ) → IsStepOf ts cs rows i p → i < length rows → h < length rows → Fits (length rows) p (flag ts h) cs (row_at (set rows i []) h)
empty_fits ts cs rows i p h s li lh = ⊎_elim
    (λ (q : h ≡ i).
    let e : row_at (set rows i []) h ≡ [] = ap (row_at (set rows i [])) q ∙ get_or-set_same rows i [] [] li in
    record { none = λ f. e; long = λ f. absurd (true≢false (sym f ∙ ap (flag ts) q ∙ s.row_out)); zeros = λ g n f. ap (λ xs. get xs g) e })
    (λ (q : ¬ (h ≡ i)).
    let e : row_at (set rows i []) h ≡ row_at rows h = get_or-set_other rows i h [] [] q in
    record { none = λ f. e ∙ s.empty h q f; long = λ f. ap length e ∙ s.same h lh f; zeros = λ g n f. ap (λ xs. get xs g) e ∙ s.zero h g n f })
    (cases_eq h i)

pub step_is : (ts cs : List Bool) (rows : List (List Fraction)) (i p : ℕ) (r : Result (List (List Fraction) × List Fraction) Refused) → IsStepOf ts cs rows i p → i < length rows → p < length rows →
    plain_rows (those (length rows) 0 (λ h. stands_at (set rows i []) h p)) p (get (row_at rows i) p) (set (row_at rows i) p (of_int (pos 0))) (set rows i []) (replicate (length rows) (of_int (pos 0))) ≡ r →
    clear_step ts cs rows i p ≡ then r (λ low. Ok (record { row = i; place = p; kept = row_at rows i; multipliers = low.1 }, low.0))
step_is ts cs rows i p r s li lp e =
    let n = length-set rows i [] in
    ap (λ z. then z (λ low. Ok (record { row = i; place = p; kept = row_at rows i; multipliers = low.1 }, low.0)))
    (sym (reduce_without i ts cs p rows [] (row_at rows i) s.row_out)
    ∙ skips_are (length rows) p ts cs (set rows i []) (row_at rows i) (s.down ∙ sym n) (λ h l. empty_fits ts cs rows i p h s li (subst (λ k. h < k) n l)) s.across s.kept lp s.place_out (λ g w f. s.zero i g w f)
    ∙ sym (whole_turn p (get (row_at rows i) p) (set (row_at rows i) p (of_int (pos 0))) (set rows i []))
    ∙ ap (λ k. plain_rows (those k 0 (λ h. stands_at (set rows i []) h p)) p (get (row_at rows i) p) (set (row_at rows i) p (of_int (pos 0))) (set rows i []) (replicate k (of_int (pos 0)))) n
    ∙ e)

-- ---- a row leaves
nil_stands : (rows : List (List Fraction)) (i g : ℕ) → i < length rows → stands_at (set rows i []) i g ≡ false
nil_stands rows i g l = stands_here rows i g [] l ∙ ap not ((is_zero_iff (of_int (pos 0))).1 refl)

pub left_keeps : (i m : ℕ) (rows : List (List Fraction)) (members : List (List ℕ)) (es : List Entry) → i < length rows → length rows ≡ m → length members ≡ m → length (row_at rows i) ≡ m → AreEntriesOf (row_at rows i) es →
    AreAll rows members → (g : ℕ) → g < m → set_of (change_all es (left_by i) members) g ≡ those (length rows) 0 (λ h. stands_at (set rows i []) h g)
left_keeps i m rows members es l a b k e o g lg =
    change_at es (left_by i) members 0 (length (row_at rows i)) g e.rising (omega arith) ∙ go (has es g) refl (omega arith) (omega arith)
  where
    go : (t : Bool) → has es g ≡ t → g < length members → g < length (row_at rows i) → cond t (without_row i (set_of members g)) (set_of members g) ≡ those (length rows) 0 (λ h. stands_at (set rows i []) h g)
    go true q gm gr = ap (without_row i) (o g gm)
        ∙ those_without (length rows) 0 i (λ h. stands_at rows h g) (λ h. stands_at (set rows i []) h g) (omega arith) (omega arith) (nil_stands rows i g l) (λ j w. stands_other rows i j g [] w)
    go false q gm gr = o g gm
        ∙ those_same (length rows) 0 (λ h. stands_at rows h g) (λ h. stands_at (set rows i []) h g)
        (λ j u v. ⊎_elim
        (λ (w : j ≡ i). ap (λ h. stands_at rows h g) w ∙ ap not ((is_zero_iff (get (row_at rows i) g)).1 (get_at (row_at rows i) es g e gr ∙ has_not es g q)) ∙ sym (nil_stands rows i g l) ∙ ap (λ h. stands_at (set rows i []) h g) (sym w))
        (λ (w : ¬ (j ≡ i)). sym (stands_other rows i j g [] w))
        (cases_eq j i))

pub left_others : (i p m : ℕ) (rows : List (List Fraction)) (members now : List (List ℕ)) (none : List ℕ) → length rows ≡ m → ((g : ℕ) → g < m → set_of members g ≡ those (length rows) 0 (λ h. stands_at (set rows i []) h g)) → length members ≡ m →
    now ≡ set members p none → AreOthers p (set rows i []) now
left_others i p m rows members now none a o b e = λ g l n.
    let k : length now ≡ length members = ap length e ∙ length-set members p none in
    ap (λ ms. set_of ms g) e ∙ get_or-set_other members p g none [] n ∙ o g (omega arith)
    ∙ ap (λ k. those k 0 (λ h. stands_at (set rows i []) h g)) (sym (length-set rows i []))

-- ---- the rows below
weaker : (ks : List ℕ) (low lower high : ℕ) → lower ≤ low → Ascends low high ks → Ascends lower high ks
weaker [] low lower high l a = omega arith
weaker (k ∷ ks) low lower high l a = let x = a.0 in (omega arith, a.1, a.2)

pub those_ascend : (n k high : ℕ) (b : ℕ → Bool) → k + n ≤ high → Ascends k high (those n k b)
those_ascend zero k high b l = omega arith
those_ascend (suc n) k high b l = go (b k) refl (those_ascend n (suc k) high b (omega arith))
  where
    go : (t : Bool) → b k ≡ t → Ascends (suc k) high (those n (suc k) b) → Ascends k high (those (suc n) k b)
    go true e a = subst (Ascends k high) (sym (those_yes n k b e)) (omega arith, omega arith, a)
    go false e a = subst (Ascends k high) (sym (those_no n k b e)) (weaker (those n (suc k) b) (suc k) k high (omega arith) a)

pub those_all : (P : ℕ → Type 0) (n k : ℕ) (b : ℕ → Bool) → ((h : ℕ) → b h ≡ true → P h) → All P (those n k b)
those_all P zero k b f = λ i d l. absurd (omega arith)
those_all P (suc n) k b f = go (b k) refl (those_all P n (suc k) b f)
  where
    more : (ks : List ℕ) → P k → All P ks → All P (k ∷ ks)
    more ks p a zero d l = p
    more ks p a (suc i) d l = a i d (omega arith)

    go : (t : Bool) → b k ≡ t → All P (those n (suc k) b) → All P (those (suc n) k b)
    go true e a = subst (All P) (sym (those_yes n k b e)) (more (those n (suc k) b) (f k e) a)
    go false e a = subst (All P) (sym (those_no n k b e)) a

pub below_long : (rows : List (List Fraction)) (i p m : ℕ) (below : List ℕ) → i < length rows → below ≡ those (length rows) 0 (λ h. stands_at (set rows i []) h p) → ((h : ℕ) → stands_at rows h p ≡ true → length (row_at rows h) ≡ m) →
    All (λ h. length (row_at (set rows i []) h) ≡ m) below
below_long rows i p m below l e f = subst (All (λ h. length (row_at (set rows i []) h) ≡ m)) (sym e)
    (those_all (λ h. length (row_at (set rows i []) h) ≡ m) (length rows) 0 (λ h. stands_at (set rows i []) h p)
    (λ h t. ⊎_elim
    (λ (q : h ≡ i). absurd (true≢false (sym t ∙ ap (λ j. stands_at (set rows i []) j p) q ∙ nil_stands rows i p l)))
    (λ (q : ¬ (h ≡ i)). ap length (get_or-set_other rows i h [] [] q) ∙ f h (sym (stands_other rows i h p [] q) ∙ t))
    (cases_eq h i)))

-- ---- what a step leaves beside the active part
each_any : {A : Type 0} (P : A → Type 0) (r : Result A Refused) → ((x : A) → P x) → Each P r
each_any P (Ok x) h = h x
each_any P (Err e) h = tt

row_cleaned : (cs : List Bool) (xs : List Fraction) (l : Fraction) (ys : List Fraction) → length cs ≡ length xs → length ys ≡ length xs → Each (λ (zs : List Fraction). (g : ℕ) → flag cs g ≡ false → get zs g ≡ of_int (pos 0)) (clear_row cs xs l ys)
row_cleaned [] [] l ys a b = λ g e. refl
row_cleaned [] (x ∷ xs) l ys a b = absurd (omega arith)
row_cleaned (t ∷ cs) [] l ys a b = absurd (omega arith)
row_cleaned (t ∷ cs) (x ∷ xs) l [] a b = absurd (omega arith)
row_cleaned (t ∷ cs) (x ∷ xs) l (y ∷ ys) a b =
    each_then (λ (z : Fraction). t ≡ false → z ≡ of_int (pos 0)) (λ (zs : List Fraction). (g : ℕ) → flag (t ∷ cs) g ≡ false → get zs g ≡ of_int (pos 0)) (sub_or_zero t x l y) (λ z. then (clear_row cs xs l ys) (λ zs. Ok (z ∷ zs))) (one t)
    (λ z h. each_then (λ (zs : List Fraction). (g : ℕ) → flag cs g ≡ false → get zs g ≡ of_int (pos 0)) (λ (zs : List Fraction). (g : ℕ) → flag (t ∷ cs) g ≡ false → get zs g ≡ of_int (pos 0)) (clear_row cs xs l ys) (λ zs. Ok (z ∷ zs))
    (row_cleaned cs xs l ys (omega arith) (omega arith)) (λ zs k. more z zs h k))
  where
    one : (t : Bool) → Each (λ (z : Fraction). t ≡ false → z ≡ of_int (pos 0)) (sub_or_zero t x l y)
    one true = each_any (λ (z : Fraction). true ≡ false → z ≡ of_int (pos 0)) (sub_product x l y) (λ z e. absurd (true≢false e))
    one false = λ e. refl

    more : (z : Fraction) (zs : List Fraction) → (t ≡ false → z ≡ of_int (pos 0)) → ((g : ℕ) → flag cs g ≡ false → get zs g ≡ of_int (pos 0)) → (g : ℕ) → flag (t ∷ cs) g ≡ false → get (z ∷ zs) g ≡ of_int (pos 0)
    more z zs h k zero e = h e
    more z zs h k (suc g) e = k g e

abbrev pub OneCleaned : Bool → List Bool → List Fraction × Fraction → Type 0
OneCleaned t cs one = (t ≡ false → one.0 ≡ []) × ((g : ℕ) → flag cs g ≡ false → get one.0 g ≡ of_int (pos 0))

one_cleaned : (t : Bool) (cs : List Bool) (p n : ℕ) (row kept : List Fraction) → (t ≡ true → length row ≡ n) → length cs ≡ n → length kept ≡ n → Each (OneCleaned t cs) (clear_reduce t cs p row kept)
one_cleaned false cs p n row kept e f k = (λ h. refl, λ g h. refl)
one_cleaned true cs p n row kept e f k =
    let d : length row ≡ n = e refl in
    each_then (λ (z : Fraction). Unit {0}) (OneCleaned true cs) (div_outcome (get row p) (get kept p)) (λ l. then (clear_row cs row l kept) (λ zs. Ok (zs, l))) (each_any (λ (z : Fraction). Unit {0}) (div_outcome (get row p) (get kept p)) (λ z. tt))
    (λ l u. each_then (λ (zs : List Fraction). (g : ℕ) → flag cs g ≡ false → get zs g ≡ of_int (pos 0)) (OneCleaned true cs) (clear_row cs row l kept) (λ zs. Ok (zs, l)) (row_cleaned cs row l kept (omega arith) (omega arith))
    (λ zs h. (λ w. absurd (true≢false w), h)))

cleaned_more : (t : Bool) (ts cs : List Bool) (row : List Fraction) (rows : List (List Fraction)) → (t ≡ false → row ≡ []) × ((g : ℕ) → flag cs g ≡ false → get row g ≡ of_int (pos 0)) → IsCleaned ts cs rows → IsCleaned (t ∷ ts) cs (row ∷ rows)
cleaned_more t ts cs row rows o c = record { empty = none; zero = nought }
  where
    none : (h : ℕ) → flag (t ∷ ts) h ≡ false → row_at (row ∷ rows) h ≡ []
    none zero e = o.0 e
    none (suc h) e = c.empty h e

    nought : (h g : ℕ) → flag cs g ≡ false → entry (row ∷ rows) h g ≡ of_int (pos 0)
    nought zero g e = o.1 g e
    nought (suc h) g e = c.zero h g e

pub all_cleaned : (ts cs : List Bool) (p n : ℕ) (rows : List (List Fraction)) (kept : List Fraction) → length ts ≡ length rows → ((h : ℕ) → h < length rows → flag ts h ≡ true → length (row_at rows h) ≡ n) → length cs ≡ n → length kept ≡ n →
    Each (λ (rest : List (List Fraction) × List Fraction). IsCleaned ts cs rest.0) (clear_rows ts cs p rows kept)
all_cleaned [] cs p n [] kept e s f k = record { empty = λ h l. refl; zero = λ h g l. refl }
all_cleaned [] cs p n (row ∷ rows) kept e s f k = absurd (omega arith)
all_cleaned (t ∷ ts) cs p n [] kept e s f k = absurd (omega arith)
all_cleaned (t ∷ ts) cs p n (row ∷ rows) kept e s f k =
    each_then (OneCleaned t cs) (λ (rest : List (List Fraction) × List Fraction). IsCleaned (t ∷ ts) cs rest.0) (clear_reduce t cs p row kept)
    (λ one. then (clear_rows ts cs p rows kept) (λ rest. Ok (one.0 ∷ rest.0, one.1 ∷ rest.1)))
    (one_cleaned t cs p n row kept (λ h. s zero (omega arith) h) f k)
    (λ one a. each_then (λ (rest : List (List Fraction) × List Fraction). IsCleaned ts cs rest.0) (λ (rest : List (List Fraction) × List Fraction). IsCleaned (t ∷ ts) cs rest.0) (clear_rows ts cs p rows kept) (λ rest. Ok (one.0 ∷ rest.0, one.1 ∷ rest.1))
    (all_cleaned ts cs p n rows kept (omega arith) (λ h l q. s (suc h) (omega arith) q) f k)
    (λ rest r. cleaned_more t ts cs one.0 rest.0 a r))

pub step_cleaned : (ts cs : List Bool) (rows next : List (List Fraction)) (i p : ℕ) (k : SparseStep) → IsStepOf ts cs rows i p → clear_step ts cs rows i p ≡ Ok (k, next) → IsCleaned ts cs next
step_cleaned ts cs rows next i p k s e =
    each_ok (λ (u : SparseStep × List (List Fraction)). IsCleaned ts cs u.1) (clear_step ts cs rows i p) (k, next)
    (each_then (λ (rest : List (List Fraction) × List Fraction). IsCleaned ts cs rest.0) (λ (u : SparseStep × List (List Fraction)). IsCleaned ts cs u.1) (clear_rows ts cs p rows (row_at rows i)) (λ low. Ok (record { row = i; place = p; kept = row_at rows i; multipliers = low.1 }, low.0))
    (all_cleaned ts cs p (length rows) rows (row_at rows i) s.down s.same s.across s.kept) (λ low q. q)) e

-- the sets after a step
pub all_again : (ts cs : List Bool) (rows : List (List Fraction)) (members : List (List ℕ)) (p : ℕ) → IsCleaned ts cs rows → flag cs p ≡ false → AreOthers p rows members → set_of members p ≡ [] → AreAll rows members
all_again ts cs rows members p c f o e = λ g l. ⊎_elim
    (λ (q : g ≡ p). ap (set_of members) q ∙ e ∙ sym (those_none (length rows) 0 (λ h. stands_at rows h g) (λ h u v. ap not ((is_zero_iff (entry rows h g)).1 (c.zero h g (ap (flag cs) q ∙ f))))))
    (λ (q : ¬ (g ≡ p)). o g l q)
    (cases_eq g p)

-- ---- in the code's words: the row K that was taken out, the rows R that are left, and the rows below
pub step_follows : (ts cs : List Bool) (rows : List (List Fraction)) (i p : ℕ) (kept : List Fraction) (below : List ℕ) (left : List (List Fraction)) (r : Result (List (List Fraction) × List Fraction) Refused) → IsStepOf ts cs rows i p → i < length rows → p < length rows →
    kept ≡ row_at rows i → below ≡ those (length rows) 0 (λ h. stands_at (set rows i []) h p) → left ≡ set rows i [] → length kept ≡ length rows →
    plain_rows below p (get kept p) (set kept p (of_int (pos 0))) left (replicate (length kept) (of_int (pos 0))) ≡ r →
    clear_step ts cs rows i p ≡ then r (λ low. Ok (record { row = i; place = p; kept = kept; multipliers = low.1 }, low.0))
step_follows ts cs rows i p kept below left r s li lp k b l n e =
    step_is ts cs rows i p r s li lp
    (ap (λ xs. plain_rows (those (length rows) 0 (λ h. stands_at (set rows i []) h p)) p (get xs p) (set xs p (of_int (pos 0))) (set rows i []) (replicate (length rows) (of_int (pos 0)))) (sym k)
    ∙ ap (λ hs. plain_rows hs p (get kept p) (set kept p (of_int (pos 0))) (set rows i []) (replicate (length rows) (of_int (pos 0)))) (sym b)
    ∙ ap (λ rs. plain_rows below p (get kept p) (set kept p (of_int (pos 0))) rs (replicate (length rows) (of_int (pos 0)))) (sym l)
    ∙ ap (λ j. plain_rows below p (get kept p) (set kept p (of_int (pos 0))) left (replicate j (of_int (pos 0)))) (sym n)
    ∙ e)
    ∙ ap (λ xs. then r (λ low. Ok (record { row = i; place = p; kept = xs; multipliers = low.1 }, low.0))) (sym k)

pub step_fails : (ts cs : List Bool) (rows next : List (List Fraction)) (i p : ℕ) (kept : List Fraction) (below : List ℕ) (left : List (List Fraction)) (d : Fault Refused) → IsStepOf ts cs rows i p → i < length rows → p < length rows →
    kept ≡ row_at rows i → below ≡ those (length rows) 0 (λ h. stands_at (set rows i []) h p) → left ≡ set rows i [] → length kept ≡ length rows →
    FollowsBy (λ (ls : List Fraction). (next, ls)) (plain_rows below p (get kept p) (set kept p (of_int (pos 0))) left (replicate (length kept) (of_int (pos 0)))) (Err d) →
    FollowsBy (λ (s : SparseStep). (s, next)) (clear_step ts cs rows i p) (Err d)
step_fails ts cs rows next i p kept below left (faults.Named r) s li lp k b l n e = step_follows ts cs rows i p kept below left (Err r) s li lp k b l n e
step_fails ts cs rows next i p kept below left faults.OutOfMemory s li lp k b l n e = tt

pub others_again : (p : ℕ) (rows : List (List Fraction)) (members : List (List ℕ)) (none : List ℕ) → p < length members → none ≡ [] → AreOthers p rows members → AreOthers p rows (set members p none) × (set_of (set members p none) p ≡ [])
others_again p rows members none l e o = (
  (λ g k n. get_or-set_other members p g none [] n ∙ o g (subst (λ j. g < j) (length-set members p none) k) n),
  get_or-set_same members p none [] l ∙ e,
)
