-- The search for a pivot: how many entries there are, and which pairs may be passed over.
use Rattle.std.proofs.Common.{◌≡◌, ℕ, zero, suc, ◌+◌, ◌-◌, ◌*◌, ◌<◌, ◌≤◌, List, [], ◌∷◌, length, drop, get_or, refl, sym, ap, ◌∙◌, subst, arith, Bool, true, false, cond, not, Option, Some, None, ⊎_elim}
use Rattle.std.proofs.lemmas.Bool.{cases_lt, cases_eq}
use Rattle.std.proofs.lemmas.List.{drop_more, drop_all}
use lib.IntN.{pos}
use lib.Dec.{T}
use Rattle.pami_algebra.specs.Fraction.{Fraction}
use Rattle.pami_algebra.specs.Operations.{of_int, is_zero}
use Rattle.pami_algebra.proofs.Tests.{is_zero_iff}
use Rattle.pami_frac.specs.declared.list.Entry.{Entry}
use Rattle.pami_linear.specs.Active.{one_if, but, count}
use Rattle.pami_linear.specs.Pivoting.{Pivot, better, in_column}
use Rattle.pami_linear.proofs.Parts.{count_but, count_same, count_none}
use Rattle.pami_linear.specs.Lists.{get}
use Rattle.pami_script.specs.Dense.{at, Rising}
use Rattle.pami_script.proofs.Skipped.{at_here, at_other, at_below}
use Rattle.pami_factoring.specs.Factor.{row_at}
use Rattle.pami_vec.specs.Entries.{NoZeros, AreEntriesOf}
use Rattle.pami_vec.proofs.Scripted.{get_at}
use Rattle.pami_lu.specs.declared.search.Found.{Found}
use Rattle.pami_lu.specs.Members.{those, stands_at, AreAll}
use Rattle.pami_lu.specs.Search.{Cached, CostsNoLess, filled, cost_at, pivot_of}
use Rattle.pami_lu.proofs.Those.{eqb_yes, eqb_no, ltb_no, those_head, those_nil, those_count, Heads}

-- ---- the entries of a row
count_false : (m : ℕ) (a : ℕ → Bool) → ((k : ℕ) → k < m → a k ≡ false) → count m a ≡ 0
count_false zero a h = refl
count_false (suc n) a h = let e : count n a ≡ 0 = count_false n a (λ k l. h k (omega arith)) in let z : 0 + count n a ≡ 0 = omega arith in ap (λ t. one_if t + count n a) (h n (omega arith)) ∙ z

t_from : (b : Bool) → b ≡ true → T b
t_from b e = subst T (sym e) tt

nonzero_test : (x : Fraction) → is_zero x ≡ false → not (is_zero x) ≡ true
nonzero_test x e = ap not e

zero_test : (x : Fraction) → x ≡ of_int (pos 0) → not (is_zero x) ≡ false
zero_test x e = ap not ((is_zero_iff x).1 e)

entries_count : (es : List Entry) (low high m : ℕ) → Rising low high es → NoZeros es → high ≤ m → length es ≡ count m (λ g. not (is_zero (at es g)))
entries_count [] low high m r z l = sym (count_false m (λ g. not (is_zero (of_int (pos 0)))) (λ k j. zero_test (of_int (pos 0)) refl))
entries_count (e ∷ es) low high m r z l =
    let lm : e.place < m = (let a = r.1 in omega arith) in
    ap suc (entries_count es (suc e.place) high m r.2 z.1 l)
    ∙ ap suc (sym (count_same m (but e.place (λ g. not (is_zero (at (e ∷ es) g)))) (λ g. not (is_zero (at es g)))
    (λ k j. ⊎_elim
    (λ (q : e.place ≡ k). ap (λ t. cond t false (not (is_zero (at (e ∷ es) k)))) (eqb_yes e.place k q) ∙ sym (zero_test (at es k) (at_below es (suc e.place) high k r.2 (omega arith))))
    (λ (q : ¬ (e.place ≡ k)). ap (λ t. cond t false (not (is_zero (at (e ∷ es) k)))) (eqb_no e.place k q) ∙ ap (λ x. not (is_zero x)) (at_other e es k q))
    (cases_eq e.place k))))
    ∙ sym (count_but m e.place (λ g. not (is_zero (at (e ∷ es) g))) lm (t_from (not (is_zero (at (e ∷ es) e.place))) (ap (λ x. not (is_zero x)) (at_here e es e.place refl) ∙ nonzero_test e.value z.0)))

at_past : (es : List Entry) (low high p : ℕ) → Rising low high es → high ≤ p → at es p ≡ of_int (pos 0)
at_past [] low high p r h = refl
at_past (e ∷ es) low high p r h = at_other e es p (λ k. let a = r.1 in omega arith) ∙ at_past es (suc e.place) high p r.2 h

get_past : (xs : List Fraction) (h : ℕ) → length xs ≤ h → get xs h ≡ of_int (pos 0)
get_past [] h l = refl
get_past (x ∷ xs) zero l = absurd (omega arith)
get_past (x ∷ xs) (suc h) l = get_past xs h (omega arith)

pub size_is : (xs : List Fraction) (es : List Entry) (m : ℕ) → AreEntriesOf xs es → length xs ≤ m → length es ≡ filled m xs
size_is xs es m a l =
    entries_count es 0 (length xs) m a.rising a.nonzero l
    ∙ count_same m (λ g. not (is_zero (at es g))) (λ g. not (is_zero (get xs g)))
    (λ k j. ap (λ x. not (is_zero x)) (⊎_elim
    (λ (q : k < length xs). sym (get_at xs es k a q))
    (λ (q : length xs ≤ k). at_past es 0 (length xs) k a.rising q ∙ sym (get_past xs k q))
    (cases_lt k (length xs))))

-- ---- one row more
pub fewest_next : (m k now size was : ℕ) (rows : List (List Fraction)) → now ≤ was → (¬ (size ≡ 0) → now ≤ size) → size ≡ filled m (row_at rows k) →
    ((h : ℕ) → h < k → ¬ (filled m (row_at rows h) ≡ 0) → was ≤ filled m (row_at rows h)) → (h : ℕ) → h < k + 1 → ¬ (filled m (row_at rows h) ≡ 0) → now ≤ filled m (row_at rows h)
fewest_next m k now size was rows l s e f h lh n = ⊎_elim
    (λ (q : h ≡ k). subst (λ j. now ≤ filled m (row_at rows j)) (sym q) (subst (λ j. now ≤ j) e (s (λ z. n (ap (λ j. filled m (row_at rows j)) q ∙ sym e ∙ z)))))
    (λ (q : ¬ (h ≡ k)). let w = f h (omega arith) n in omega arith)
    (cases_eq h k)

-- ---- along a place
pub skip_to : (may : ℕ → ℕ → Bool) (f : ℕ → ℕ → ℕ) (d k p : ℕ) (o : Option Pivot) → ((j : ℕ) → k ≤ j → j < d + k → may j p ≡ false) → in_column may f (d + k) p o ≡ in_column may f k p o
skip_to may f zero k p o h = let z : 0 + k ≡ k = omega arith in ap (λ n. in_column may f n p o) z
skip_to may f (suc d) k p o h =
    let z : suc d + k ≡ suc (d + k) = omega arith in
    ap (λ n. in_column may f n p o) z
    ∙ ap (λ t. better t f (in_column may f (d + k) p o) (d + k) p) (h (d + k) (omega arith) (omega arith))
    ∙ skip_to may f d k p o (λ j l u. h j l (omega arith))

pub record Walked (m p : ℕ) (may : ℕ → ℕ → Bool) (f : ℕ → ℕ → ℕ) (left : List ℕ) (first best : Option Found) : Type 0 where
  pub k : ℕ
  pub low : k ≤ m
  pub rest : left ≡ those (m - k) k (λ h. may h p)
  pub cached : (o : Option Pivot) → Cached f first o → Cached f best (in_column may f k p o)

pub walk_start : (m p : ℕ) (may : ℕ → ℕ → Bool) (f : ℕ → ℕ → ℕ) (set : List ℕ) (first : Option Found) → set ≡ those m 0 (λ h. may h p) → Walked m p may f set first first
walk_start m p may f set first e = let z : m ≡ m - 0 = omega arith in record { k = 0; low = omega arith; rest = e ∙ ap (λ n. those n 0 (λ h. may h p)) z; cached = λ o c. c }

pub walk_heads : (m p h : ℕ) (may : ℕ → ℕ → Bool) (f : ℕ → ℕ → ℕ) (hs : List ℕ) (first best : Option Found) (w : Walked m p may f (h ∷ hs) first best) → Heads (m - w.k) w.k h (λ h. may h p) hs
walk_heads m p h may f hs first best w = those_head (m - w.k) w.k h (λ h. may h p) hs (sym w.rest)

pub walk_next : (m p h : ℕ) (may : ℕ → ℕ → Bool) (f : ℕ → ℕ → ℕ) (hs : List ℕ) (first best next : Option Found) → Walked m p may f (h ∷ hs) first best →
    ((o : Option Pivot) → Cached f best o → Cached f next (better true f o h p)) → Walked m p may f hs first next
walk_next m p h may f hs first best next w g =
    let heads = walk_heads m p h may f hs first best w in
    let kl : w.k ≤ m = w.low in
    let lo : w.k ≤ h = heads.low in
    let hi : h < w.k + (m - w.k) = heads.high in
    let z : w.k + (m - w.k) - suc h ≡ m - suc h = omega arith in
    record {
      k = suc h;
      low = omega arith;
      rest = heads.rest ∙ ap (λ n. those n (suc h) (λ h. may h p)) z;
      cached = λ o c.
          let d : (h - w.k) + w.k ≡ h = omega arith in
          let skip : in_column may f h p o ≡ in_column may f w.k p o = ap (λ n. in_column may f n p o) (sym d) ∙ skip_to may f (h - w.k) w.k p o (λ j l u. heads.none j l (omega arith)) in
          subst (λ t. Cached f next (better t f (in_column may f h p o) h p)) (sym heads.holds)
          (g (in_column may f h p o) (subst (Cached f best) (sym skip) (w.cached o c)));
    }

pub walk_end : (m p : ℕ) (may : ℕ → ℕ → Bool) (f : ℕ → ℕ → ℕ) (first best : Option Found) → Walked m p may f [] first best → (o : Option Pivot) → Cached f first o → Cached f best (in_column may f m p o)
walk_end m p may f first best w o c =
    let kl : w.k ≤ m = w.low in
    let d : (m - w.k) + w.k ≡ m = omega arith in
    let skip : in_column may f m p o ≡ in_column may f w.k p o = ap (λ n. in_column may f n p o) (sym d) ∙ skip_to may f (m - w.k) w.k p o (λ j l u. those_nil (m - w.k) w.k (λ h. may h p) (sym w.rest) j l (omega arith)) in
    subst (Cached f best) (sym skip) (w.cached o c)

-- ---- a place that is passed over
behind_by : (t : Bool) (f : ℕ → ℕ → ℕ) (b : Found) (q : Pivot) (i p : ℕ) → f q.row q.place ≤ f i p → better t f (Some q) i p ≡ Some q
behind_by false f b q i p l = refl
behind_by true f b q i p l = ap (λ t. cond t (Some (record { row = i; place = p })) (Some q)) (ltb_no (f i p) (f q.row q.place) l)

passed : (may : ℕ → ℕ → Bool) (f : ℕ → ℕ → ℕ) (n p : ℕ) (b : Found) (q : Pivot) → ((i : ℕ) → i < n → may i p ≡ true → f q.row q.place ≤ f i p) → in_column may f n p (Some q) ≡ Some q
passed may f zero p b q h = refl
passed may f (suc i) p b q h = ap (λ o. better (may i p) f o i p) (passed may f i p b q (λ j l e. h j (omega arith) e)) ∙ by (may i p) refl
  where
    by : (t : Bool) → may i p ≡ t → better (may i p) f (Some q) i p ≡ Some q
    by true e = behind_by (may i p) f b q i p (h i (omega arith) e)
    by false e = ap (λ t. better t f (Some q) i p) e

pub pass_over : (may : ℕ → ℕ → Bool) (f : ℕ → ℕ → ℕ) (n p c : ℕ) (best : Option Found) (o : Option Pivot) → CostsNoLess best c → ((i : ℕ) → i < n → may i p ≡ true → c ≤ f i p) → Cached f best o → Cached f best (in_column may f n p o)
pass_over may f n p c None o l h k = absurd l
pass_over may f n p c (Some b) None l h k = absurd k
pass_over may f n p c (Some b) (Some q) l h k = subst (Cached f (Some b)) (sym (passed may f n p b q (λ i j e. let u : c ≤ f i p = h i j e in let v : b.cost ≡ f q.row q.place = k.2 in omega arith))) k

mul_le : (a b d : ℕ) → a ≤ b → a * d ≤ b * d
mul_le a b d l =
    let e : b ≡ a + (b - a) = omega arith in
    subst (λ z. a * d ≤ z * d) (sym e) (let f : (a + (b - a)) * d ≡ a * d + (b - a) * d = omega arith in omega arith)

pub cost_bound : (rows : List (List Fraction)) (fewest down p : ℕ) → p < length rows → down ≡ count (length rows) (λ h. stands_at rows h p) →
    ((h : ℕ) → h < length rows → ¬ (filled (length rows) (row_at rows h) ≡ 0) → fewest ≤ filled (length rows) (row_at rows h)) → (i : ℕ) → i < length rows → stands_at rows i p ≡ true → (fewest - 1) * (down - 1) ≤ cost_at rows i p
cost_bound rows fewest down p l d f i li e =
    let some : ¬ (filled (length rows) (row_at rows i) ≡ 0) = λ z. count_none (length rows) (λ g. not (is_zero (get (row_at rows i) g))) z p l (t_from (stands_at rows i p) e) in
    let low : fewest ≤ filled (length rows) (row_at rows i) = f i li some in
    subst (λ n. (fewest - 1) * (down - 1) ≤ (filled (length rows) (row_at rows i) - 1) * (n - 1)) d (mul_le (fewest - 1) (filled (length rows) (row_at rows i) - 1) (down - 1) (omega arith))

-- ---- what was found
pub found_pivot : (f : ℕ → ℕ → ℕ) (best : Option Found) (o : Option Pivot) → Cached f best o → pivot_of best ≡ o
found_pivot f None None c = refl
found_pivot f None (Some q) c = absurd c
found_pivot f (Some b) None c = absurd c
found_pivot f (Some b) (Some q) c = ap Some (ap (λ r. record { row = r; place = b.place }) c.0 ∙ ap (λ p. record { row = q.row; place = p }) c.1)

pub down_is : (rows : List (List Fraction)) (members : List (List ℕ)) (p : ℕ) (set : List ℕ) → AreAll rows members → length members ≡ length rows → p < length rows → set ≡ get_or members p [] → length set ≡ count (length rows) (λ h. stands_at rows h p)
down_is rows members p set a e l s = ap length (s ∙ a p (omega arith)) ∙ those_count (length rows) (λ h. stands_at rows h p)

-- ---- in the code's words
pub walk_left : (set : List ℕ) (i : ℕ) (m p : ℕ) (may : ℕ → ℕ → Bool) (f : ℕ → ℕ → ℕ) (first best : Option Found) → i < length set → Walked m p may f (drop i set) first best → Walked m p may f (get_or set i 0 ∷ drop (i + 1) set) first best
walk_left set i m p may f first best l w = subst (λ hs. Walked m p may f hs first best) (drop_more set i 0 l) w

pub walk_low : (m p h : ℕ) (may : ℕ → ℕ → Bool) (f : ℕ → ℕ → ℕ) (hs : List ℕ) (first best : Option Found) → Walked m p may f (h ∷ hs) first best → h < m
walk_low m p h may f hs first best w =
    let heads = walk_heads m p h may f hs first best w in
    let kl : w.k ≤ m = w.low in
    let hi : h < w.k + (m - w.k) = heads.high in
    omega arith

pub walk_done : (set : List ℕ) (i m p : ℕ) (may : ℕ → ℕ → Bool) (f : ℕ → ℕ → ℕ) (first best : Option Found) → length set ≤ i → Walked m p may f (drop i set) first best → (o : Option Pivot) → Cached f first o → Cached f best (in_column may f m p o)
walk_done set i m p may f first best l w = walk_end m p may f first best (subst (λ hs. Walked m p may f hs first best) (drop_all i set l) w)

count_most : (m : ℕ) (a : ℕ → Bool) → count m a ≤ m
count_most zero a = omega arith
count_most (suc n) a = let k : count n a ≤ n = count_most n a in go (a n) k
  where
    go : (t : Bool) → count n a ≤ n → one_if t + count n a ≤ suc n
    go true k = omega arith
    go false k = omega arith

pub filled_most : (m : ℕ) (row : List Fraction) → filled m row ≤ m
filled_most m row = count_most m (λ g. not (is_zero (get row g)))

pub down_most : (rows : List (List Fraction)) (members : List (List ℕ)) (p : ℕ) (set : List ℕ) → AreAll rows members → length members ≡ length rows → p < length rows → set ≡ get_or members p [] → length set ≤ length rows
down_most rows members p set a e l s = subst (λ n. n ≤ length rows) (sym (down_is rows members p set a e l s)) (count_most (length rows) (λ h. stands_at rows h p))
