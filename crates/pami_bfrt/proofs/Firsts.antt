-- Taking the first candidate of the walk out of a list.
use Rattle.std.proofs.Common.{◌≡◌, ℕ, zero, suc, ◌+◌, ◌<◌, ◌≤◌, inl, ⊎_elim, Bool, true, false, cond, nat_lt, List, [], ◌∷◌, length, get_or, refl, sym, ap, ◌∙◌, subst, arith}
use Rattle.std.specs.List.{remove}
use Rattle.std.specs.Cmp.{IsStrictWeakOrder}
use Rattle.std.proofs.lemmas.Bool.{cases_lt, cases_eq}
use Rattle.std.proofs.lemmas.List.{get_or_default}
use Rattle.std.proofs.lemmas.List.Sorted.{IsStrictWeakOrder-flip}
use Rattle.pami_algebra.specs.Operations.{is_below}
use Rattle.pami_theory.specs.Order.{put_in, ordered}
use Rattle.pami_theory.proofs.Members.{Has, contains_from}
use Rattle.pami_theory.proofs.Orders.{ordered_has}
use Rattle.pami_theory.proofs.Comparisons.{then_by, then_by_order, by_fraction, by_number}
use Rattle.pami_bfrt.specs.Candidates.{comes_before}
use Rattle.pami_bfrt.specs.Firsts.{IsFirst}
use Rattle.pami_bfrt.specs.declared.candidate.Candidate.{Candidate}

-- ---- the order
abbrev more_size : Candidate → Candidate → Bool
more_size c d = is_below d.size c.size

pub comes_is_order : IsStrictWeakOrder comes_before
comes_is_order =
    then_by_order (λ (c d : Candidate). is_below c.ratio d.ratio) (then_by more_size (λ c d. nat_lt c.variable d.variable))
    (by_fraction (λ c. c.ratio))
    (then_by_order more_size (λ c d. nat_lt c.variable d.variable)
    (IsStrictWeakOrder-flip (λ (c d : Candidate). is_below c.size d.size) (by_fraction (λ c. c.size)))
    (by_number (λ c. c.variable)))

-- ---- the search
-- one candidate more, which doesn't come first
pub first_stays : (cs : List Candidate) (i n : ℕ) (x y : Candidate) → IsFirst cs i n → i < length cs → n < length cs → x ≡ get_or cs i x → y ≡ get_or cs n y → comes_before x y ≡ true → IsFirst cs i (n + 1)
first_stays cs i n x y f h k e g b = record { within = (let w = f.within in omega arith); earlier = f.earlier; later = behind }
  where
    here : (d : Candidate) (k : ℕ) → n ≡ k → comes_before (get_or cs i d) (get_or cs k d) ≡ true
    here d j q = ap (λ c. comes_before c (get_or cs j d)) (sym (e ∙ get_or_default cs i x d h)) ∙ ap (comes_before x) (ap (λ m. get_or cs m d) (sym q) ∙ sym (g ∙ get_or_default cs n y d k)) ∙ b

    behind : (d : Candidate) (k : ℕ) → i < k → k < n + 1 → comes_before (get_or cs i d) (get_or cs k d) ≡ true
    behind d k l m = ⊎_elim (λ (a : k < n). f.later d k l a) (λ (a : n ≤ k). here d k (omega arith)) (cases_lt k n)

-- one candidate more, which comes first
pub first_moves : (cs : List Candidate) (i n : ℕ) (x y : Candidate) → IsFirst cs i n → i < length cs → n < length cs → x ≡ get_or cs i x → y ≡ get_or cs n y → comes_before x y ≡ false → IsFirst cs n (n + 1)
first_moves cs i n x y f h k e g b = record { within = omega arith; earlier = before; later = λ d k l m. absurd (omega arith) }
  where
    here : (d : Candidate) → comes_before (get_or cs i d) (get_or cs n d) ≡ false
    here d = ap (λ c. comes_before c (get_or cs n d)) (sym (e ∙ get_or_default cs i x d h)) ∙ ap (comes_before x) (sym (g ∙ get_or_default cs n y d k)) ∙ b

    before : (d : Candidate) (k : ℕ) → k < n → comes_before (get_or cs k d) (get_or cs n d) ≡ false
    before d k l = ⊎_elim
        (λ (a : k < i). comes_is_order.chain (get_or cs k d) (get_or cs i d) (get_or cs n d) (f.earlier d k a) (here d))
        (λ (a : i ≤ k). ⊎_elim
        (λ (q : i ≡ k). subst (λ j. comes_before (get_or cs j d) (get_or cs n d) ≡ false) q (here d))
        (λ (q : ¬ (i ≡ k)). comes_is_order.chain (get_or cs k d) (get_or cs i d) (get_or cs n d) (comes_is_order.one_way (get_or cs i d) (get_or cs k d) (f.later d k (omega arith) l)) (here d))
        (cases_eq i k))
        (cases_lt k i)

-- ---- the rest
put_first : (x : Candidate) (zs : List Candidate) → ((z : Candidate) → Has zs z → comes_before x z ≡ true) → put_in comes_before x zs ≡ x ∷ zs
put_first x [] h = refl
put_first x (y ∷ ys) h = ap (λ t. cond t (x ∷ y ∷ ys) (y ∷ put_in comes_before x ys)) (h y (inl refl))

put_later : (x c : Candidate) (zs : List Candidate) → comes_before x c ≡ false → put_in comes_before x (c ∷ zs) ≡ c ∷ put_in comes_before x zs
put_later x c zs h = ap (λ t. cond t (x ∷ c ∷ zs) (c ∷ put_in comes_before x zs)) h

taken : (cs : List Candidate) (i : ℕ) (d : Candidate) → ((d : Candidate) (k : ℕ) → k < i → comes_before (get_or cs k d) (get_or cs i d) ≡ false) → ((d : Candidate) (k : ℕ) → i < k → k < length cs → comes_before (get_or cs i d) (get_or cs k d) ≡ true) →
    i < length cs → ordered comes_before cs ≡ get_or cs i d ∷ ordered comes_before (remove cs i)
taken [] i d e l h = absurd (omega arith)
taken (x ∷ xs) zero d e l h = put_first x (ordered comes_before xs)
    (λ z k. let c = contains_from xs z (ordered_has comes_before xs z k) in subst (λ w. comes_before x w ≡ true) c.2 (l z (suc c.0) (omega arith) (let m = c.1 in omega arith)))
taken (x ∷ xs) (suc i) d e l h =
    ap (put_in comes_before x) (taken xs i d (λ d k q. e d (suc k) (omega arith)) (λ d k q r. l d (suc k) (omega arith) (omega arith)) (omega arith))
    ∙ put_later x (get_or xs i d) (ordered comes_before (remove xs i)) (e d 0 (omega arith))

pub first_taken : (cs : List Candidate) (i : ℕ) (c : Candidate) → IsFirst cs i (length cs) → c ≡ get_or cs i c → ordered comes_before cs ≡ c ∷ ordered comes_before (remove cs i)
first_taken cs i c f e = taken cs i c f.earlier f.later f.within ∙ ap (λ d. d ∷ ordered comes_before (remove cs i)) (sym e)
