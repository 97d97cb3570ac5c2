-- A step in its place among those that are stored: which rows and places are active before it, and the steps of the dense
-- script from it on.
use Rattle.std.proofs.Common.{◌≡◌, ℕ, zero, suc, ◌+◌, ◌<◌, List, [], ◌∷◌, length, drop, set, get_or, replicate, refl, sym, ap, ◌∙◌, subst, arith, Bool, true, false, ⊎_elim}
use Rattle.std.proofs.lemmas.Bool.{true≢false, cases_eq, cases_lt}
use Rattle.std.proofs.lemmas.List.{get_or-set_same, get_or-set_other, get_or-replicate, get_or_past, length-set, length-replicate}
use lib.IntN.{pos}
use Rattle.pami_algebra.specs.Fraction.{Fraction}
use Rattle.pami_algebra.specs.Operations.{of_int}
use Rattle.pami_linear.specs.Lists.{get}
use Rattle.pami_factoring.specs.declared.kept.Kept.{Kept}
use Rattle.pami_factoring.specs.Factor.{flag}
use Rattle.pami_factoring.specs.Solve.{places_of, rows_of}
use Rattle.pami_factoring.proofs.Lefts.{places_length, rows_length}
use Rattle.pami_factoring.proofs.Shapes.{flag_in}
use Rattle.pami_lu.specs.declared.step.SparseStep.{SparseStep}
use Rattle.pami_lu.specs.Stored.{with_passed, full_step, full_steps, AreStored, AreWhole}
use Rattle.pami_lu.proofs.Restored.{ArePassed, passed_active, passed_after}
use Rattle.pami_factor.specs.Reads.{IsRead}

-- the steps that are left, and one more
pub at_step : {A : Type 0} (k : ℕ) (ks : List A) (s : A) → k < length ks → s ≡ get_or ks k s → drop k ks ≡ s ∷ drop (k + 1) ks
at_step k [] s l e = absurd (omega arith)
at_step zero (t ∷ ks) s l e = ap (λ z. z ∷ ks) (sym e)
at_step (suc k) (t ∷ ks) s l e = let f : suc (k + 1) ≡ suc k + 1 = omega arith in at_step k ks s (omega arith) e ∙ ap (λ z. s ∷ drop z (t ∷ ks)) f

-- what is known before one of the steps `ss`, where `start` came before all of them
pub record IsBefore (m : ℕ) (ss : List SparseStep) (ts cs : List Bool) (earlier : List SparseStep) : Type 0 where
  pub down : length ts ≡ m
  pub across : length cs ≡ m
  pub stored : AreStored m ts cs ss
  pub passed : ArePassed cs earlier

pub at_start : (ss : List SparseStep) → AreWhole ss → IsBefore (length ss) ss (replicate (length ss) true) (replicate (length ss) true) []
at_start ss w = record { down = length-replicate (length ss) true; across = length-replicate (length ss) true; stored = w; passed = tt }

pub one_further : (m : ℕ) (s : SparseStep) (ss : List SparseStep) (ts cs : List Bool) (earlier : List SparseStep) → IsBefore m (s ∷ ss) ts cs earlier → IsBefore m ss (set ts s.row false) (set cs s.place false) (s ∷ earlier)
one_further m s ss ts cs earlier b =
    let low = b.stored.0.place_low in
    let across : length cs ≡ m = b.across in
    record {
      down = length-set ts s.row false ∙ b.down;
      across = length-set cs s.place false ∙ b.across;
      stored = b.stored.1;
      passed = (get_or-set_same cs s.place false false (omega arith), passed_after cs s.place earlier b.passed);
    }

-- before the step at index k
pub record IsFrom (m k : ℕ) (start ss : List SparseStep) : Type 0 where
  pub rows : List Bool
  pub places : List Bool
  pub earlier : List SparseStep
  pub before : IsBefore m (drop k ss) rows places earlier
  pub full : drop k (full_steps start ss) ≡ full_steps earlier (drop k ss)

from_before : (m k : ℕ) (ts cs : List Bool) (earlier ss : List SparseStep) → IsBefore m ss ts cs earlier → IsFrom m k earlier ss
from_before m zero ts cs earlier ss b = record { rows = ts; places = cs; earlier = earlier; before = b; full = refl }
from_before m (suc k) ts cs earlier [] b = record { rows = ts; places = cs; earlier = earlier; before = b; full = refl }
from_before m (suc k) ts cs earlier (s ∷ ss) b =
    let r : IsFrom m k (s ∷ earlier) ss = from_before m k (set ts s.row false) (set cs s.place false) (s ∷ earlier) ss (one_further m s ss ts cs earlier b) in
    record { rows = r.rows; places = r.places; earlier = r.earlier; before = r.before; full = r.full }

pub drop_tail : {A : Type 0} (k : ℕ) (xs : List A) (x : A) (rest : List A) → drop k xs ≡ x ∷ rest → drop (k + 1) xs ≡ rest
drop_tail zero [] x rest e = absurd (cc)
drop_tail zero (y ∷ xs) x rest e = cc
drop_tail (suc k) [] x rest e = absurd (cc)
drop_tail (suc k) (y ∷ xs) x rest e = let f : suc k + 1 ≡ suc (k + 1) = omega arith in ap (λ n. drop n (y ∷ xs)) f ∙ drop_tail k xs x rest e

-- the step at index k
pub record IsPlaced (m k : ℕ) (ss : List SparseStep) (s : SparseStep) : Type 0 where
  pub rows : List Bool
  pub places : List Bool
  pub earlier : List SparseStep
  pub before : IsBefore m (s ∷ drop (k + 1) ss) rows places earlier
  pub head : drop k (full_steps [] ss) ≡ full_step earlier s ∷ drop (k + 1) (full_steps [] ss)
  pub later : drop (k + 1) (full_steps [] ss) ≡ full_steps (s ∷ earlier) (drop (k + 1) ss)

pub placed : (k : ℕ) (ss : List SparseStep) (s : SparseStep) → AreWhole ss → k < length ss → s ≡ get_or ss k s → IsPlaced (length ss) k ss s
placed k ss s w l e =
    let here : drop k ss ≡ s ∷ drop (k + 1) ss = at_step k ss s l e in
    let f : IsFrom (length ss) k [] ss = from_before (length ss) k (replicate (length ss) true) (replicate (length ss) true) [] ss (at_start ss w) in
    let full : drop k (full_steps [] ss) ≡ full_step f.earlier s ∷ full_steps (s ∷ f.earlier) (drop (k + 1) ss) = f.full ∙ ap (full_steps f.earlier) here in
    let later : drop (k + 1) (full_steps [] ss) ≡ full_steps (s ∷ f.earlier) (drop (k + 1) ss) = drop_tail k (full_steps [] ss) (full_step f.earlier s) (full_steps (s ∷ f.earlier) (drop (k + 1) ss)) full in
    record {
      rows = f.rows;
      places = f.places;
      earlier = f.earlier;
      before = subst (λ zs. IsBefore (length ss) zs f.rows f.places f.earlier) here f.before;
      head = full ∙ ap (λ zs. full_step f.earlier s ∷ zs) (sym later);
      later = later;
    }

-- ---- what is read of a step
pub own_number : (m : ℕ) (s : SparseStep) (ss : List SparseStep) (ts cs : List Bool) (earlier : List SparseStep) → IsBefore m (s ∷ ss) ts cs earlier → get (with_passed earlier s.row s.kept) s.place ≡ get s.kept s.place
own_number m s ss ts cs earlier b = passed_active cs earlier s.row s.kept s.place b.passed b.stored.0.place_in

-- the places of later steps are active
later_active : (m : ℕ) (ts cs : List Bool) (earlier ss : List SparseStep) (g : ℕ) → length cs ≡ m → AreStored m ts cs ss → flag (places_of m (full_steps earlier ss)) g ≡ true → flag cs g ≡ true
later_active m ts cs earlier [] g a s e = absurd (true≢false (sym e ∙ none g))
  where
    none : (g : ℕ) → flag (replicate m false) g ≡ false
    none g = ⊎_elim
        (λ (l : g < m). get_or-replicate m g false false l)
        (λ l. get_or_past (replicate m false) g false (let n : length (replicate m false) ≡ m = length-replicate m false in omega arith))
        (cases_lt g m)
later_active m ts cs earlier (s ∷ ss) g a st e =
    let n : length (places_of m (full_steps (s ∷ earlier) ss)) ≡ m = places_length m (full_steps (s ∷ earlier) ss) in
    ⊎_elim
    (λ (q : g ≡ s.place). ap (flag cs) q ∙ st.0.place_in)
    (λ (q : ¬ (g ≡ s.place)).
    let low = st.0.place_low in
    flag_in cs s.place g (omega arith)
    (later_active m (set ts s.row false) (set cs s.place false) (s ∷ earlier) ss g (length-set cs s.place false ∙ a) st.1
    (sym (get_or-set_other (places_of m (full_steps (s ∷ earlier) ss)) s.place g true false q) ∙ e)))
    (cases_eq g s.place)

-- rows that no later step pivots aren't active
pub none_later : (m : ℕ) (ts cs : List Bool) (earlier ss : List SparseStep) (h : ℕ) → length ts ≡ m → AreStored m ts cs ss → flag (rows_of m (full_steps earlier ss)) h ≡ false → flag ts h ≡ false
none_later m ts cs earlier [] h a s e = s h
none_later m ts cs earlier (s ∷ ss) h a st e =
    let n : length (rows_of m (full_steps (s ∷ earlier) ss)) ≡ m = rows_length m (full_steps (s ∷ earlier) ss) in
    ⊎_elim
    (λ (q : h ≡ s.row).
    let low = st.0.row_low in
    absurd (true≢false (sym (ap (flag (set (rows_of m (full_steps (s ∷ earlier) ss)) s.row true)) q ∙ get_or-set_same (rows_of m (full_steps (s ∷ earlier) ss)) s.row true false (omega arith)) ∙ e)))
    (λ (q : ¬ (h ≡ s.row)).
    sym (get_or-set_other ts s.row h false false q)
    ∙ none_later m (set ts s.row false) (set cs s.place false) (s ∷ earlier) ss h (length-set ts s.row false ∙ a) st.1
    (sym (get_or-set_other (rows_of m (full_steps (s ∷ earlier) ss)) s.row h true false q) ∙ e))
    (cases_eq h s.row)

-- the values that stand when a step is reached from the last one
pub is_read : (m : ℕ) (s : SparseStep) (ss : List SparseStep) (ts cs : List Bool) (earlier : List SparseStep) (ks : List Kept) (x : List Fraction) → IsBefore m (s ∷ ss) ts cs earlier → ks ≡ full_steps (s ∷ earlier) ss → length x ≡ m →
    ((g : ℕ) → flag (places_of m ks) g ≡ false → get x g ≡ of_int (pos 0)) → IsRead (places_of m ks) earlier s x
is_read m s ss ts cs earlier ks x b e l z = record {
  as_many = places_length m ks ∙ sym l;
  own = own_number m s ss ts cs earlier b;
  later = λ g f.
      let low = b.stored.0.place_low in
      let across : length cs ≡ m = b.across in
      let after : flag (set cs s.place false) g ≡ true =
      later_active m (set ts s.row false) (set cs s.place false) (s ∷ earlier) ss g (length-set cs s.place false ∙ b.across) b.stored.1 (ap (λ zs. flag (places_of m zs) g) (sym e) ∙ f) in
      passed_active cs earlier s.row s.kept g b.passed (flag_in cs s.place g (omega arith) after);
  elsewhere = z;
}
