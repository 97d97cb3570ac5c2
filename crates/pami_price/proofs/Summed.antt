-- The sums of a slice's variables, row after row.
use Rattle.std.proofs.Common.{◌≡◌, ℕ, zero, suc, ◌+◌, ◌-◌, ◌<◌, ◌≤◌, Bool, true, false, cond, List, [], ◌∷◌, ◌++◌, length, drop, take, set, get_or, replicate, refl, sym, ap, ◌∙◌, subst, arith, append-nil, Result, Ok, Err, Option, Some, None, ⊎_elim}
use Rattle.std.proofs.lemmas.Bool.{cases_eq, cases_lt}
use Rattle.std.proofs.lemmas.List.{get_or-set_same, get_or-set_other, get_or-replicate, get_or_default, drop_more, drop_all, take_all, length-set}
use lib.IntN.{pos}
use Rattle.pami_algebra.specs.Fraction.{Fraction}
use Rattle.pami_algebra.specs.Operations.{of_int}
use Rattle.pami_frac.specs.declared.arithmetic.Refused.{Refused}
use Rattle.pami_frac.specs.declared.list.Entry.{Entry}
use Rattle.pami_linear.specs.Lists.{get}
use Rattle.pami_script.specs.Dense.{at, Rising}
use Rattle.pami_script.specs.Script.{then, each_entry, add_product, add_dot, add_entries}
use Rattle.pami_script.proofs.Scripts.{then_go, then_stop, then_same, each_same}
use Rattle.pami_script.proofs.Loops.{entry_one}
use Rattle.pami_script.proofs.Skipped.{at_here, at_other, at_below, add_zero_right, add_dot_sparse}
use Rattle.pami_theory.specs.declared.words.Stand.{Stand}
use Rattle.pami_vec.specs.declared.change.Stop.{Stop}
use Rattle.pami_vec.specs.Entries.{AreEntriesOf}
use Rattle.pami_vec.specs.Scripts.{dot_script}
use Rattle.pami_vec.specs.Turned.{AreRowOf}
use Rattle.pami_vec.proofs.Built.{from_index}
use Rattle.pami_vec.proofs.Scripted.{get_at}
use Rattle.pami_price.specs.Slices.{column_at, is_nonbasic_at, with_first, entries_script}
use Rattle.pami_price.specs.Sums.{limit_of, IsStop, AreSums, with_row, AreFrom}

-- ---- the rest of the work said otherwise
pub sums_same : (stands : List Stand) (first last : ℕ) (old new : ℕ → Fraction → Result Fraction Refused) (outcome : ℕ → Result Fraction Refused) (sums : List Fraction) (stop : Option Stop) → limit_of stop last ≤ last →
    ((v : ℕ) (t : Fraction) → first ≤ v → v < limit_of stop last → old v t ≡ new v t) → AreSums stands first last old outcome sums stop → AreSums stands first last new outcome sums stop
sums_same stands first last old new outcome sums stop l h a = record {
  sum = λ v low high n. a.sum v low high n ∙ h v (get sums (v - first)) low high;
  stopped = a.stopped;
}

-- a variable without an entry in the row
none_there : (factor : Fraction) (es : List Entry) (rest : ℕ → Fraction → Result Fraction Refused) (v : ℕ) (t : Fraction) → at es v ≡ of_int (pos 0) → with_row factor es rest v t ≡ rest v t
none_there factor es rest v t z = then_go (add_product t factor (at es v)) (rest v) t (ap (add_product t factor) z ∙ add_zero_right t factor)

same_there : (factor : Fraction) (es fs : List Entry) (rest : ℕ → Fraction → Result Fraction Refused) (v : ℕ) (t : Fraction) → at es v ≡ at fs v → with_row factor es rest v t ≡ with_row factor fs rest v t
same_there factor es fs rest v t e = ap (λ x. then (add_product t factor x) (rest v)) e

-- ---- where a slice begins in a row
from_front : (es : List Entry) (low high k v : ℕ) (x : Entry) → Rising low high es → k < length es → x ≡ get_or es k x → x.place < v → at (drop (k + 1) es) v ≡ at es v
from_front [] low high k v x r l q h = absurd (omega arith)
from_front (e ∷ es) low high zero v x r l q h = let same : x ≡ e = q in sym (at_other e es v (λ d. let p : x.place ≡ e.place = ap (λ y. y.place) same in omega arith))
from_front (e ∷ es) low high (suc k) v x r l q h =
    let below = places_below es (suc e.place) high k x r.2 (omega arith) q in
    let z : suc k + 1 ≡ suc (k + 1) = omega arith in
    ap (λ n. at (drop n (e ∷ es)) v) z ∙ from_front es (suc e.place) high k v x r.2 (omega arith) q h ∙ sym (at_other e es v (λ d. omega arith))
  where
    places_below : (es : List Entry) (low high k : ℕ) (x : Entry) → Rising low high es → k < length es → x ≡ get_or es k x → low ≤ x.place
    places_below [] low high k x r l q = absurd (omega arith)
    places_below (e ∷ es) low high zero x r l q = let p : x.place ≡ e.place = ap (λ (y : Entry). y.place) q in let a = r.0 in omega arith
    places_below (e ∷ es) low high (suc k) x r l q = let a = places_below es (suc e.place) high k x r.2 (omega arith) q in let b = r.0 in omega arith

rising_at : (es : List Entry) (low high k first : ℕ) (x : Entry) → Rising low high es → k < length es → x ≡ get_or es k x → first ≤ x.place → Rising first high (drop k es)
rising_at [] low high k first x r l q h = absurd (omega arith)
rising_at (e ∷ es) low high zero first x r l q h = let p : x.place ≡ e.place = ap (λ (y : Entry). y.place) q in (omega arith, r.1, r.2)
rising_at (e ∷ es) low high (suc k) first x r l q h = rising_at es (suc e.place) high k first x r.2 (omega arith) q h

rising_end : (es : List Entry) (k first high : ℕ) → length es ≤ k → first ≤ high → Rising first high (drop k es)
rising_end es k first high l h = subst (λ (fs : List Entry). Rising first high fs) (sym (drop_all k es l)) h

-- the halving: entries before `low` are before the slice, those from `high` on aren't
pub record Halves (first : ℕ) (es : List Entry) (low high : ℕ) : Type 0 where
  pub front : (top : ℕ) → Rising 0 top es → (v : ℕ) → first ≤ v → at (drop low es) v ≡ at es v
  pub back : (top : ℕ) → first ≤ top → Rising 0 top es → Rising first top (drop high es)

pub halves_start : (first : ℕ) (es : List Entry) (high : ℕ) → length es ≤ high → Halves first es 0 high
halves_start first es high l = record {
  front = λ top r v h. refl;
  back = λ top h r. rising_end es high first top l h;
}

pub halves_right : (first : ℕ) (es : List Entry) (low high middle : ℕ) (x : Entry) → Halves first es low high → middle < length es → x ≡ get_or es middle x → x.place < first → Halves first es (middle + 1) high
halves_right first es low high middle x a l q h = record {
  front = λ top r v k. from_front es 0 top middle v x r l q (omega arith);
  back = a.back;
}

pub halves_left : (first : ℕ) (es : List Entry) (low high middle : ℕ) (x : Entry) → Halves first es low high → middle < length es → x ≡ get_or es middle x → first ≤ x.place → Halves first es low middle
halves_left first es low high middle x a l q h = record {
  front = a.front;
  back = λ top k r. rising_at es 0 top middle first x r l q h;
}

pub halves_end : (first : ℕ) (es : List Entry) (low high top : ℕ) → low ≡ high → first ≤ top → Rising 0 top es → Halves first es low high → AreFrom first top es (drop low es)
halves_end first es low high top e h r a = record {
  rising = subst (λ k. Rising first top (drop k es)) (sym e) (a.back top h r);
  same = a.front top r;
}

-- ---- an entry of the row
-- the entries from index k on, the first of which is x
at_next : (es : List Entry) (k v high : ℕ) (x : Entry) → k < length es → x ≡ get_or es k x → ¬ (x.place ≡ v) → at (drop k es) v ≡ at (drop (k + 1) es) v
at_next es k v high x l q h = ap (λ (fs : List Entry). at fs v) (from_index es k x l q) ∙ at_other x (drop (k + 1) es) v h

at_this : (es : List Entry) (k : ℕ) (x : Entry) → k < length es → x ≡ get_or es k x → at (drop k es) x.place ≡ x.value
at_this es k x l q = ap (λ (fs : List Entry). at fs x.place) (from_index es k x l q) ∙ at_here x (drop (k + 1) es) x.place refl

pub rising_next : (es : List Entry) (k low high : ℕ) (x : Entry) → k < length es → x ≡ get_or es k x → Rising low high (drop k es) → (low ≤ x.place) × (x.place < high) × Rising (suc x.place) high (drop (k + 1) es)
rising_next es k low high x l q r = subst (λ (fs : List Entry). Rising low high fs) (from_index es k x l q) r

past_this : (es : List Entry) (k low high : ℕ) (x : Entry) → k < length es → x ≡ get_or es k x → Rising low high (drop k es) → at (drop (k + 1) es) x.place ≡ of_int (pos 0)
past_this es k low high x l q r = at_below (drop (k + 1) es) (suc x.place) high x.place (rising_next es k low high x l q r).2 (omega arith)

-- it belongs to a basic variable
pub basic_passed : (stands : List Stand) (first last k : ℕ) (x : Entry) (factor : Fraction) (es : List Entry) (rest : ℕ → Fraction → Result Fraction Refused) (outcome : ℕ → Result Fraction Refused) (sums : List Fraction) (stop : Option Stop) →
    k < length es → x ≡ get_or es k x → is_nonbasic_at stands x.place ≡ false → AreSums stands first last (with_row factor (drop k es) rest) outcome sums stop → AreSums stands first last (with_row factor (drop (k + 1) es) rest) outcome sums stop
basic_passed stands first last k x factor es rest outcome sums stop l q b a = record {
  sum = λ v low high n. a.sum v low high n
      ∙ same_there factor (drop k es) (drop (k + 1) es) rest v (get sums (v - first))
      (at_next es k v last x l q (λ (e : x.place ≡ v). let c = sym b ∙ ap (is_nonbasic_at stands) e ∙ n in absurd (cc c)));
  stopped = a.stopped;
}

-- its sum is worked out
pub entry_added : (stands : List Stand) (first last k low top : ℕ) (x : Entry) (factor t : Fraction) (es : List Entry) (rest : ℕ → Fraction → Result Fraction Refused) (outcome : ℕ → Result Fraction Refused) (sums : List Fraction) (stop : Option Stop) →
    k < length es → x ≡ get_or es k x → Rising low top (drop k es) → first ≤ x.place → x.place - first < length sums → x.place < limit_of stop last → is_nonbasic_at stands x.place ≡ true →
    add_product (get sums (x.place - first)) factor x.value ≡ Ok t →
    AreSums stands first last (with_row factor (drop k es) rest) outcome sums stop → AreSums stands first last (with_row factor (drop (k + 1) es) rest) outcome (set sums (x.place - first) t) stop
entry_added stands first last k low top x factor t es rest outcome sums stop l q r f s h b p a = record {
  sum = λ v lo hi n. ⊎_elim
      (λ (e : x.place ≡ v). subst (λ w. outcome w ≡ with_row factor (drop (k + 1) es) rest w (get (set sums (x.place - first) t) (w - first))) e here)
      (λ (e : ¬ (x.place ≡ v)).
      a.sum v lo hi n ∙ same_there factor (drop k es) (drop (k + 1) es) rest v (get sums (v - first)) (at_next es k v top x l q e)
      ∙ ap (with_row factor (drop (k + 1) es) rest v) (sym (get_or-set_other sums (x.place - first) (v - first) t (of_int (pos 0)) (λ d. e (omega arith)))))
      (cases_eq x.place v);
  stopped = a.stopped;
}
  where
    here : outcome x.place ≡ with_row factor (drop (k + 1) es) rest x.place (get (set sums (x.place - first) t) (x.place - first))
    here =
        a.sum x.place f h b
        ∙ then_go (add_product (get sums (x.place - first)) factor (at (drop k es) x.place)) (rest x.place) t (ap (add_product (get sums (x.place - first)) factor) (at_this es k x l q) ∙ p)
        ∙ sym (none_there factor (drop (k + 1) es) rest x.place t (past_this es k low top x l q r))
        ∙ ap (with_row factor (drop (k + 1) es) rest x.place) (sym (get_or-set_same sums (x.place - first) t (of_int (pos 0)) s))

-- its sum is refused
pub entry_refused : (stands : List Stand) (first last k : ℕ) (x : Entry) (factor : Fraction) (e : Refused) (es : List Entry) (rest : ℕ → Fraction → Result Fraction Refused) (outcome : ℕ → Result Fraction Refused) (sums : List Fraction) (stop : Option Stop) →
    k < length es → x ≡ get_or es k x → first ≤ x.place → x.place < last → x.place < limit_of stop last → is_nonbasic_at stands x.place ≡ true → add_product (get sums (x.place - first)) factor x.value ≡ Err e →
    AreSums stands first last (with_row factor (drop k es) rest) outcome sums stop → AreSums stands first last (with_row factor (drop (k + 1) es) rest) outcome sums (Some (record { place = x.place; refused = e }))
entry_refused stands first last k x factor e es rest outcome sums stop l q f g h b p a = record {
  sum = λ v lo hi n. a.sum v lo (omega arith) n ∙ same_there factor (drop k es) (drop (k + 1) es) rest v (get sums (v - first)) (at_next es k v last x l q (λ d. omega arith));
  stopped = (
    f,
    g,
    b,
    a.sum x.place f h b
        ∙ then_stop (add_product (get sums (x.place - first)) factor (at (drop k es) x.place)) (rest x.place) e (ap (add_product (get sums (x.place - first)) factor) (at_this es k x l q) ∙ p),
  );
}

-- no entry is left below the limit
pub row_ended : (stands : List Stand) (first last k low top : ℕ) (factor : Fraction) (es : List Entry) (rest : ℕ → Fraction → Result Fraction Refused) (outcome : ℕ → Result Fraction Refused) (sums : List Fraction) (stop : Option Stop) →
    limit_of stop last ≤ last → ((v : ℕ) → v < limit_of stop last → at (drop k es) v ≡ of_int (pos 0)) → AreSums stands first last (with_row factor (drop k es) rest) outcome sums stop → AreSums stands first last rest outcome sums stop
row_ended stands first last k low top factor es rest outcome sums stop l z a =
    sums_same stands first last (with_row factor (drop k es) rest) rest outcome sums stop l (λ v t lo hi. none_there factor (drop k es) rest v t (z v hi)) a

pub none_left : (es : List Entry) (k v : ℕ) → length es ≤ k → at (drop k es) v ≡ of_int (pos 0)
none_left es k v l = ap (λ (fs : List Entry). at fs v) (drop_all k es l)

pub none_below : (es : List Entry) (k low high v : ℕ) (x : Entry) → k < length es → x ≡ get_or es k x → Rising low high (drop k es) → v < x.place → at (drop k es) v ≡ of_int (pos 0)
none_below es k low high v x l q r h =
    let n = rising_next es k low high x l q r in
    at_below (drop k es) x.place high v (subst (λ (fs : List Entry). Rising x.place high fs) (sym (from_index es k x l q)) (omega arith, n.1, n.2)) h

-- ---- the rows of nonzero rho in turn
abbrev pub row_step : List (List Fraction) → ℕ → Entry → Fraction → Result Fraction Refused
row_step columns v e t = add_product t e.value (get (column_at columns v) e.place)

abbrev pub rest_of : List (List Fraction) → List Entry → ℕ → Fraction → Result Fraction Refused
rest_of columns es v t = each_entry es (row_step columns v) t

pub dot_is : (rho column : List Fraction) (es : List Entry) → AreEntriesOf rho es → dot_script rho column ≡ each_entry es (λ e t. add_product t e.value (get column e.place)) (of_int (pos 0))
unfolding dot_script
dot_is rho column es a =
    each_same (length rho) 0 (λ i t. add_product t (get rho i) (get column i)) (λ i t. add_product t (at es i) (get column i)) (of_int (pos 0))
    (λ p l m t. ap (λ x. add_product t x (get column p)) (get_at rho es p a (omega arith)))
    ∙ add_dot_sparse (length rho) es (get column) (of_int (pos 0)) a.rising

pub sums_start : (columns : List (List Fraction)) (stands : List Stand) (rho : List Fraction) (es : List Entry) (first last n : ℕ) (sums : List Fraction) → AreEntriesOf rho es → n ≡ last - first → sums ≡ replicate n (of_int (pos 0)) →
    AreSums stands first last (rest_of columns es) (λ v. dot_script rho (column_at columns v)) sums None
sums_start columns stands rho es first last n sums a c e = record {
  sum = λ v lo hi b.
      dot_is rho (column_at columns v) es a
      ∙ ap (rest_of columns es v) (sym (ap (λ (xs : List Fraction). get xs (v - first)) e ∙ get_or-replicate n (v - first) (of_int (pos 0)) (of_int (pos 0)) (omega arith)));
  stopped = tt;
}

pub next_row : (columns : List (List Fraction)) (stands : List Stand) (first last i : ℕ) (x : Entry) (es row : List Entry) (outcome : ℕ → Result Fraction Refused) (sums : List Fraction) (stop : Option Stop) → i < length es → x ≡ get_or es i x →
    AreRowOf columns x.place row → limit_of stop last ≤ last → last ≤ length columns → AreSums stands first last (rest_of columns (drop i es)) outcome sums stop →
    AreSums stands first last (with_row x.value row (rest_of columns (drop (i + 1) es))) outcome sums stop
next_row columns stands first last i x es row outcome sums stop l q r m n a =
    sums_same stands first last (rest_of columns (drop i es)) (with_row x.value row (rest_of columns (drop (i + 1) es))) outcome sums stop m
    (λ v t lo hi.
    entry_one es i x (row_step columns v) t l q
    ∙ ap (λ z. then (add_product t x.value z) (λ b. each_entry (drop (i + 1) es) (row_step columns v) b)) (sym (r.value v (omega arith))))
    a

pub rows_ended : (columns : List (List Fraction)) (stands : List Stand) (first last i : ℕ) (es : List Entry) (outcome : ℕ → Result Fraction Refused) (sums : List Fraction) (stop : Option Stop) → length es ≤ i → limit_of stop last ≤ last →
    AreSums stands first last (rest_of columns (drop i es)) outcome sums stop → AreSums stands first last (λ v t. Ok t) outcome sums stop
rows_ended columns stands first last i es outcome sums stop l m a =
    sums_same stands first last (rest_of columns (drop i es)) (λ v t. Ok t) outcome sums stop m (λ v t lo hi. ap (λ (fs : List Entry). rest_of columns fs v t) (drop_all i es l)) a

-- a list that was written through a loan of all its members
pub written : (n : ℕ) (new old : List Fraction) → length new ≡ length old → n ≡ length old → take n (new ++ drop (length new) old) ≡ new
written n new old l e = ap (λ (zs : List Fraction). take n (new ++ zs)) (drop_all (length new) old (omega arith)) ∙ ap (take n) (append-nil new) ∙ take_all n new (omega arith)

-- an entry that was read, at whatever would stand in for one past the end
pub read_place : (es : List Entry) (k : ℕ) (x y : Entry) → k < length es → x ≡ get_or es k x → (get_or es k y).place ≡ x.place
read_place es k x y l q = ap (λ (e : Entry). e.place) (sym (q ∙ get_or_default es k x y l))

-- the row's entries from the slice's first variable on say the same of the slice
pub from_first : (stands : List Stand) (first last high : ℕ) (factor : Fraction) (all es : List Entry) (rest : ℕ → Fraction → Result Fraction Refused) (outcome : ℕ → Result Fraction Refused) (sums : List Fraction) (stop : Option Stop) → limit_of stop last ≤ last →
    AreFrom first high all es → AreSums stands first last (with_row factor all rest) outcome sums stop → AreSums stands first last (with_row factor es rest) outcome sums stop
from_first stands first last high factor all es rest outcome sums stop l f a =
    sums_same stands first last (with_row factor all rest) (with_row factor es rest) outcome sums stop l (λ v t lo hi. same_there factor all es rest v t (sym (f.same v lo))) a

-- ---- a slice of which a sum was refused
then_first : (stands : List Stand) (columns : List (List Fraction)) (rho : List Fraction) (n v : ℕ) (e : Refused) → entries_script columns stands rho n (v + 1) ≡ Err e →
    (is_nonbasic_at stands v ≡ true → (alpha : Fraction) × (dot_script rho (column_at columns v) ≡ Ok alpha)) → entries_script columns stands rho (suc n) v ≡ Err e
then_first stands columns rho n v e r h = go (is_nonbasic_at stands v) refl
  where
    later : Fraction → Result (List Entry) Refused
    later alpha = then (entries_script columns stands rho n (v + 1)) (λ es. Ok (with_first v alpha es))

    go : (t : Bool) → is_nonbasic_at stands v ≡ t → cond t (then (dot_script rho (column_at columns v)) later) (entries_script columns stands rho n (v + 1)) ≡ Err e
    go true b = let d = h b in then_go (dot_script rho (column_at columns v)) later d.0 d.1 ∙ then_stop (entries_script columns stands rho n (v + 1)) (λ es. Ok (with_first v d.0 es)) e r
    go false b = r

refused_here : (stands : List Stand) (columns : List (List Fraction)) (rho : List Fraction) (n v : ℕ) (e : Refused) → is_nonbasic_at stands v ≡ true → dot_script rho (column_at columns v) ≡ Err e → entries_script columns stands rho (suc n) v ≡ Err e
refused_here stands columns rho n v e b d =
    ap (λ t. cond t (then (dot_script rho (column_at columns v)) (λ alpha. then (entries_script columns stands rho n (v + 1)) (λ es. Ok (with_first v alpha es)))) (entries_script columns stands rho n (v + 1))) b
    ∙ then_stop (dot_script rho (column_at columns v)) (λ alpha. then (entries_script columns stands rho n (v + 1)) (λ es. Ok (with_first v alpha es))) e d

-- before the variable of the refusal nothing is refused
refused_at : (stands : List Stand) (columns : List (List Fraction)) (rho : List Fraction) (n v p : ℕ) (e : Refused) → v ≤ p → p < v + n → ((u : ℕ) → v ≤ u → u < p → is_nonbasic_at stands u ≡ true → (alpha : Fraction) × (dot_script rho (column_at columns u) ≡ Ok alpha)) →
    is_nonbasic_at stands p ≡ true → dot_script rho (column_at columns p) ≡ Err e → entries_script columns stands rho n v ≡ Err e
refused_at stands columns rho zero v p e l m h b d = absurd (omega arith)
refused_at stands columns rho (suc n) v p e l m h b d = ⊎_elim
    (λ (q : v ≡ p). refused_here stands columns rho n v e (ap (is_nonbasic_at stands) q ∙ b) (ap (λ u. dot_script rho (column_at columns u)) q ∙ d))
    (λ (q : ¬ (v ≡ p)).
    then_first stands columns rho n v e (refused_at stands columns rho n (v + 1) p e (omega arith) (omega arith) (λ u lo hi. h u (omega arith) hi) b d) (h v (omega arith) (omega arith)))
    (cases_eq v p)

pub slice_refused : (stands : List Stand) (columns : List (List Fraction)) (rho sums : List Fraction) (first size : ℕ) (stop : Stop) → AreSums stands first (first + size) (λ v t. Ok t) (λ v. dot_script rho (column_at columns v)) sums (Some stop) →
    entries_script columns stands rho size first ≡ Err stop.refused
slice_refused stands columns rho sums first size stop a =
    refused_at stands columns rho size first stop.place stop.refused a.stopped.0 a.stopped.1 (λ u lo hi b. (get sums (u - first), a.sum u lo hi b)) a.stopped.2 a.stopped.3
