-- The row of a place, priced by slices, is refused where the definition's one list of products is.
use Rattle.std.proofs.Common.{◌≡◌, ⊎_elim, ◌⊎◌, ℕ, zero, suc, ◌+◌, ◌*◌, ◌-◌, ◌≤◌, List, [], ◌∷◌, ◌++◌, length, Option, None, Some, Result, Ok, Err, refl, sym, ap, ◌∙◌, subst, arith}
use Rattle.std.specs.List.{filter, range_with_len}
use Rattle.std.proofs.lemmas.List.{append-nil}
use Rattle.std.proofs.lemmas.List.Elements.{filter-append}
use Rattle.pami_algebra.specs.Fraction.{Fraction}
use Rattle.pami_linear.specs.Lists.{get}
use Rattle.pami_frac.specs.declared.arithmetic.Refused.{Refused}
use Rattle.pami_frac.specs.declared.list.Entry.{Entry}
use Rattle.pami_script.specs.Script.{then, each_member, add_dot}
use Rattle.pami_theory.specs.declared.words.Stand.{Stand}
use Rattle.pami_theory.specs.Form.{Form, variables, coefficient, zero_f}
use Rattle.pami_theory.specs.Basis.{Basis, stand_at}
use Rattle.pami_theory.specs.Weights.{lesser}
use Rattle.pami_method.specs.Scripts.{is_nonbasic, nonbasic_in, price_script}
use Rattle.pami_method.specs.Task.{refusal}
use Rattle.pami_price.specs.Slices.{slice_size, slices, then_slice, then_more, slices_script, row_script}
use Rattle.pami_price.specs.Agreement.{AreListed, entries_at}
use Rattle.pami_price.specs.declared.price.SliceRefused.{SliceRefused}
use Rattle.pami_price.proofs.Priced.{slice_is}
use Rattle.pami_range.specs.Scripts.{first_of, prices_script}

-- ---- a script over two lists, one behind the other
abbrev over : (ℕ → Result Fraction Refused) → ℕ → List ℕ → Result (List Fraction) Refused
over step k vs = each_member (λ i v. step v) k vs

refusal_then : (y : Fraction) (r : Result (List Fraction) Refused) → refusal (then r (λ ys. Ok (y ∷ ys))) ≡ refusal r
refusal_then y (Ok ys) = refl
refusal_then y (Err e) = refl

one_member : (r : Result Fraction Refused) (s t : Result (List Fraction) Refused) (o : Option Refused) → refusal s ≡ first_of (refusal t) o
    → refusal (then r (λ y. then s (λ ys. Ok (y ∷ ys)))) ≡ first_of (refusal (then r (λ y. then t (λ ys. Ok (y ∷ ys))))) o
one_member (Ok y) s t o h = refusal_then y s ∙ h ∙ ap (λ z. first_of z o) (sym (refusal_then y t))
one_member (Err e) s t o h = refl

-- the number of a member doesn't count
numbered : (step : ℕ → Result Fraction Refused) (k i : ℕ) (vs : List ℕ) → over step k vs ≡ over step i vs
numbered step k i [] = refl
numbered step k i (v ∷ vs) = ap (λ (z : Result (List Fraction) Refused). then (step v) (λ y. then z (λ ys. Ok (y ∷ ys)))) (numbered step (suc k) (suc i) vs)

two_lists : (step : ℕ → Result Fraction Refused) (k i : ℕ) (us vs : List ℕ) → refusal (over step k (us ++ vs)) ≡ first_of (refusal (over step k us)) (refusal (over step i vs))
two_lists step k i [] vs = ap refusal (numbered step k i vs)
two_lists step k i (u ∷ us) vs = one_member (step u) (over step (suc k) (us ++ vs)) (over step (suc k) us) (refusal (over step i vs)) (two_lists step (suc k) i us vs)

-- ---- slices
abbrev pub refused_of : Result (List Entry) SliceRefused → Option Refused
refused_of (Ok es) = None
refused_of (Err e) = Some e.refused

more_alike : (es : List Entry) (r : Result (List Entry) SliceRefused) → refused_of (then_more es r) ≡ refused_of r
more_alike es (Ok fs) = refl
more_alike es (Err e) = refl

one_slice : (slice : ℕ) (x : Result (List Fraction) Refused) (vs : List ℕ) (rest : Result (List Entry) SliceRefused)
    → refused_of (then_slice slice (then x (λ alphas. Ok (entries_at vs alphas))) (λ es. then_more es rest)) ≡ first_of (refusal x) (refused_of rest)
one_slice slice (Ok xs) vs rest = more_alike (entries_at vs xs) rest
one_slice slice (Err e) vs rest = refl

range_append : (a m n : ℕ) → range_with_len a (m + n) ≡ range_with_len a m ++ range_with_len (a + m) n
range_append a zero n = let e : a ≡ a + 0 = omega arith in let z : 0 + n ≡ n = omega arith in ap (range_with_len a) z ∙ ap (λ k. range_with_len k n) e
range_append a (suc m) n = let e : (a + 1) + m ≡ a + suc m = omega arith in let z : suc m + n ≡ suc (m + n) = omega arith in ap (range_with_len a) z ∙ ap (λ xs. a ∷ xs) (range_append (a + 1) m n ∙ ap (λ k. range_with_len (a + 1) m ++ range_with_len k n) e)

lesser_cases : (n : ℕ) → (lesser 64 n ≡ 64) × (64 ≤ n) ⊎ (lesser 64 n ≡ n) × (n ≤ 64)
lesser_cases n = grind arith

slice_first : (count slice : ℕ) → range_with_len (64 * slice) (count - 64 * slice) ≡ range_with_len (64 * slice) (slice_size count slice) ++ range_with_len (64 * (slice + 1)) (count - 64 * (slice + 1))
slice_first count slice = ⊎_elim
    (λ (h : (slice_size count slice ≡ 64) × (64 ≤ count - 64 * slice)).
    let a : count - 64 * slice ≡ 64 + (count - 64 * (slice + 1)) = (let k = h.1 in omega arith) in
    let b : 64 * slice + 64 ≡ 64 * (slice + 1) = omega arith in
    ap (range_with_len (64 * slice)) a ∙ range_append (64 * slice) 64 (count - 64 * (slice + 1))
    ∙ ap (λ k. range_with_len (64 * slice) 64 ++ range_with_len k (count - 64 * (slice + 1))) b
    ∙ ap (λ k. range_with_len (64 * slice) k ++ range_with_len (64 * (slice + 1)) (count - 64 * (slice + 1))) (sym h.0))
    (λ (h : (slice_size count slice ≡ count - 64 * slice) × (count - 64 * slice ≤ 64)).
    let a : count - 64 * (slice + 1) ≡ 0 = (let k = h.1 in omega arith) in
    sym (ap (λ k. range_with_len (64 * slice) (slice_size count slice) ++ range_with_len (64 * (slice + 1)) k) a
    ∙ append-nil (range_with_len (64 * slice) (slice_size count slice)) ∙ ap (range_with_len (64 * slice)) h.0))
    (lesser_cases (count - 64 * slice))

-- ---- the row
abbrev product : Form → List Fraction → ℕ → Result Fraction Refused
product f rho v = add_dot f.rows (get rho) (coefficient f v) zero_f

abbrev nonbasic : Basis → List ℕ → List ℕ
nonbasic b vs = filter (λ v. is_nonbasic (stand_at b v)) vs

prices_from : (f : Form) (b : Basis) (columns : List (List Fraction)) (stands : List Stand) (rho : List Fraction) (n slice : ℕ) → AreListed f b columns stands → length rho ≡ f.rows → variables f ≤ 64 * (slice + n)
    → refused_of (slices_script columns stands rho n slice) ≡ refusal (over (product f rho) 0 (nonbasic b (range_with_len (64 * slice) (variables f - 64 * slice))))
prices_from f b columns stands rho zero slice l r h =
    let none : 0 ≡ variables f - 64 * slice = omega arith in
    ap (λ n. refusal (over (product f rho) 0 (nonbasic b (range_with_len (64 * slice) n)))) none
prices_from f b columns stands rho (suc n) slice l r h =
    let rest = slices_script columns stands rho n (slice + 1) in
    let more : List ℕ = range_with_len (64 * (slice + 1)) (variables f - 64 * (slice + 1)) in
    ap (λ z. refused_of (then_slice slice z (λ es. then_more es (slices_script columns stands rho n (slice + 1))))) (slice_is f b columns stands rho slice l r)
    ∙ one_slice slice (price_script f b rho slice) (nonbasic_in f b slice) (slices_script columns stands rho n (slice + 1))
    ∙ ap (first_of (refusal (price_script f b rho slice))) (prices_from f b columns stands rho n (slice + 1) l r (omega arith))
    ∙ sym (two_lists (product f rho) 0 0 (nonbasic_in f b slice) (nonbasic b (range_with_len (64 * (slice + 1)) (variables f - 64 * (slice + 1)))))
    ∙ ap (λ vs. refusal (over (product f rho) 0 vs))
    (sym (ap (nonbasic b) (slice_first (variables f) slice)
    ∙ filter-append (λ v. is_nonbasic (stand_at b v)) (range_with_len (64 * slice) (slice_size (variables f) slice)) (range_with_len (64 * (slice + 1)) (variables f - 64 * (slice + 1)))))

slices_enough : (count : ℕ) → count ≤ 64 * (0 + slices count)
slices_enough count = omega arith

pub prices_refused : (f : Form) (b : Basis) (columns : List (List Fraction)) (stands : List Stand) (rho : List Fraction) → AreListed f b columns stands → length rho ≡ f.rows
    → refused_of (row_script columns stands rho) ≡ refusal (prices_script f b rho)
prices_refused f b columns stands rho l r =
    let all : variables f - 64 * 0 ≡ variables f = omega arith in
    prices_from f b columns stands rho (slices (length columns)) 0 l r (subst (λ n. n ≤ 64 * (0 + slices (length columns))) l.count (slices_enough (length columns)))
    ∙ ap (λ n. refusal (over (product f rho) 0 (nonbasic b (range_with_len 0 n)))) all
