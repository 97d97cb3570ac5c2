-- A step: its pivot isn't 0, and the basis behind it is a regular basis.
use Rattle.std.proofs.Common.{◌≡◌, ℕ, ◌<◌, ◌⊎◌, inl, inr, ⊎_elim, Bool, true, false, not, ◌||◌, if◌then◌else◌, List, [], ◌∷◌, length, Option, None, Some, refl, sym, ap, ◌∙◌, subst, arith, true≢false, nat_eq}
use Rattle.std.specs.List.{list_any}
use Rattle.std.specs.Option.{option_map}
use Rattle.std.proofs.lemmas.Bool.{cases_eq, cond-true, cond-false, eq-eqb, ne_eqb, eqb-true}
use Rattle.std.proofs.lemmas.Option.{none-some, same_Some}
use Rattle.std.proofs.lemmas.List.{length-set, get_or-set_same, get_or-set_other}
use Rattle.pami_algebra.specs.Fraction.{Fraction}
use Rattle.pami_algebra.specs.Operations.{◌<ᶠ◌, neg_f, is_zero}
use Rattle.pami_algebra.proofs.Field.{neg_nil_f}
use Rattle.pami_algebra.proofs.Strict.{lt_irrefl_f}
use Rattle.pami_algebra.proofs.Tests.{is_below_iff, is_zero_iff}
use Rattle.pami_linear.specs.Lists.{get}
use Rattle.pami_linear.specs.Systems.{replaced}
use Rattle.pami_linear.proofs.Systems.{regular_same}
use Rattle.pami_linear.proofs.Pivoted.{replaced_same, replaced_other}
use Rattle.pami_linear.proofs.Regular.{regular_after_pivot}
use Rattle.pami_frac.specs.declared.list.Bounds.{Bounds}
use Rattle.pami_theory.specs.Form.{Form, variables, limits, coefficient, zero_f}
use Rattle.pami_theory.specs.declared.words.Stand.{Stand}
use Rattle.pami_theory.specs.declared.words.Stand.TheVariants.{Basic, Lower, Upper, Zero}
use Rattle.pami_theory.specs.Basis.{Basis, head_at, stand_at, StandsAt, IsBasis, basis_column, IsRegularBasis}
use Rattle.pami_theory.specs.Fresh.{Fresh, row_at, column_at, value_at_place, IsFresh}
use Rattle.pami_theory.specs.declared.words.Side.{Side}
use Rattle.pami_theory.specs.declared.words.Side.TheVariants.{Above, Below}
use Rattle.pami_theory.specs.declared.words.Violation.{Violation}
use Rattle.pami_theory.specs.Violation.{violation, IsPast, width, is_fixed}
use Rattle.pami_theory.specs.Ratio.{Leaving, row_entry, toward, turned_entry, may_enter, is_candidate, IsEntering, Entering, entering_at, ratio_walk}
use Rattle.pami_theory.specs.Step.{Step, leaving_at, step_by, step_at, TakesStep, flipped, stand_on, is_among, stand_after, basis_after}
use Rattle.pami_theory.proofs.Tables.{tabled_length, tabled_at}
use Rattle.pami_theory.proofs.Members.{Has, contains_from}
use Rattle.pami_theory.proofs.Solved.{fresh_regular, row_entry_is}
use Rattle.pami_theory.proofs.Candidates.{entered_by_walk, walk_enters, flips_at, flips_boxed}
use Rattle.pami_theory.proofs.Violations.{IsWidth, width_is, violation_past}

-- ---- candidates
guarded : (a c : Bool) → (if a then false else c) ≡ true → (a ≡ false) × (c ≡ true)
guarded true c e = absurd (true≢false (sym e))
guarded false c e = (refl, e)

pub candidate_parts : (f : Form) (b : Basis) (l : Leaving) (v : ℕ) → is_candidate f b l v ≡ true → (is_fixed (limits f v) ≡ false) × (may_enter (stand_at b v) (turned_entry f l v) ≡ true)
candidate_parts f b l v e = guarded (is_fixed (limits f v)) (may_enter (stand_at b v) (turned_entry f l v)) e

enters_not_basic : (s : Stand) (a : Fraction) → may_enter s a ≡ true → ¬ (s ≡ Basic)
enters_not_basic s a e k = true≢false (sym e ∙ ap (λ z. may_enter z a) k)

not_true : (c : Bool) → not c ≡ true → c ≡ false
not_true true e = sym e
not_true false e = refl

pub enters_not_zero : (s : Stand) (a : Fraction) → may_enter s a ≡ true → ¬ (a ≡ zero_f)
enters_not_zero Basic a e k = true≢false (sym e)
enters_not_zero Lower a e k = lt_irrefl_f zero_f (subst (λ z. zero_f <ᶠ z) k ((is_below_iff zero_f a).0 e))
enters_not_zero Upper a e k = lt_irrefl_f zero_f (subst (λ z. z <ᶠ zero_f) k ((is_below_iff a zero_f).0 e))
enters_not_zero Zero a e k = true≢false (sym ((is_zero_iff a).1 k) ∙ not_true (is_zero a) e)

toward_zero : (s : Side) (a : Fraction) → a ≡ zero_f → toward s a ≡ zero_f
toward_zero Above a e = e
toward_zero Below a e = ap neg_f e ∙ neg_nil_f

pub candidate_not_basic : (f : Form) (b : Basis) (l : Leaving) (v : ℕ) → is_candidate f b l v ≡ true → ¬ (stand_at b v ≡ Basic)
candidate_not_basic f b l v e = enters_not_basic (stand_at b v) (turned_entry f l v) (candidate_parts f b l v e).1

pub turned_not_zero : (f : Form) (b : Basis) (l : Leaving) (v : ℕ) → is_candidate f b l v ≡ true → ¬ (turned_entry f l v ≡ zero_f)
turned_not_zero f b l v e = enters_not_zero (stand_at b v) (turned_entry f l v) (candidate_parts f b l v e).1

pub entry_not_zero : (f : Form) (b : Basis) (l : Leaving) (v : ℕ) → is_candidate f b l v ≡ true → ¬ (row_entry f l.row v ≡ zero_f)
entry_not_zero f b l v e k = turned_not_zero f b l v e (toward_zero l.violation.side (row_entry f l.row v) k)

-- ---- the step by its entering variable
abbrev pub step_of : Form → Basis → Fresh → ℕ → Violation → ℕ → Step
step_of f b s p v q = step_by b p v.side (entering_at f b (leaving_at s p v) q)

pub record Taken (f : Form) (b : Basis) (s : Fresh) (p : ℕ) (v : Violation) (t : Step) : Type 0 where
  pub entering : IsEntering f b (leaving_at s p v) t.entering
  pub is : t ≡ step_of f b s p v t.entering

pub step_taken : (f : Form) (b : Basis) (s : Fresh) (p : ℕ) (v : Violation) (t : Step) → step_at f b s p v ≡ Some t → Taken f b s p v t
step_taken f b s p v t h = go (ratio_walk f b (leaving_at s p v)) refl h
  where
    go : (o : Option Entering) → ratio_walk f b (leaving_at s p v) ≡ o → option_map (step_by b p v.side) o ≡ Some t → Taken f b s p v t
    go None e k = absurd (none-some t k)
    go (Some w) e k =
        let m = entered_by_walk f b (leaving_at s p v) w e in
        let same : step_by b p v.side w ≡ t = same_Some (step_by b p v.side w) t k in
        let at : w.variable ≡ t.entering = ap (λ (z : Step). z.entering) same in
        record {
          entering = subst (IsEntering f b (leaving_at s p v)) at m.0;
          is = sym same ∙ ap (step_by b p v.side) m.1 ∙ ap (step_of f b s p v) at;
        }

-- ---- the pivot
pub pivot_entry : (f : Form) (b : Basis) (s : Fresh) (p : ℕ) (v : Violation) (q : ℕ) → IsFresh f b s → p < f.rows → IsEntering f b (leaving_at s p v) q → ¬ (get (column_at s q) p ≡ zero_f)
pivot_entry f b s p v q h l e k = entry_not_zero f b (leaving_at s p v) q e.candidate (row_entry_is f b s p q h l e.within ∙ k)

-- ---- the head behind it
pub head_there : (f : Form) (b : Basis) (t : Step) → IsBasis f b → t.place < f.rows → head_at (basis_after b t) t.place ≡ t.entering
head_there f b t is l = get_or-set_same b.head t.place t.entering 0 (omega (arith, l, is.places))

pub head_elsewhere : (b : Basis) (t : Step) (k : ℕ) → ¬ (k ≡ t.place) → head_at (basis_after b t) k ≡ head_at b k
head_elsewhere b t k n = get_or-set_other b.head t.place k t.entering 0 n

pub columns_after : (f : Form) (b : Basis) (t : Step) (k i : ℕ) → IsBasis f b → t.place < f.rows → basis_column f (basis_after b t) k i ≡ replaced (basis_column f b) t.place (coefficient f t.entering) k i
columns_after f b t k i is l = ⊎_elim
    (λ (e : k ≡ t.place). subst (λ n. coefficient f (head_at (basis_after b t) n) i ≡ replaced (basis_column f b) t.place (coefficient f t.entering) n i) (sym e)
    (ap (λ v. coefficient f v i) (head_there f b t is l) ∙ sym (ap (λ c. c i) (replaced_same (basis_column f b) t.place (coefficient f t.entering)))))
    (λ (n : ¬ (k ≡ t.place)). ap (λ v. coefficient f v i) (head_elsewhere b t k n) ∙ sym (ap (λ c. c i) (replaced_other (basis_column f b) t.place k (coefficient f t.entering) (λ e. n (sym e)))))
    (cases_eq k t.place)

-- any exchange at a place where the entering column isn't 0
pub regular_behind : (f : Form) (b : Basis) (s : Fresh) (t : Step) → IsBasis f b → IsFresh f b s → t.place < f.rows → t.entering < variables f → ¬ (get (column_at s t.entering) t.place ≡ zero_f) → IsRegularBasis f (basis_after b t)
regular_behind f b s t is h l m n =
    regular_same f.rows (replaced (basis_column f b) t.place (coefficient f t.entering)) (basis_column f (basis_after b t))
    (λ k i a c. sym (columns_after f b t k i is l))
    (regular_after_pivot f.rows t.place (basis_column f b) (coefficient f t.entering) (get (column_at s t.entering)) l (h.column t.entering m) n (fresh_regular f b s h))

-- ---- the stands behind it
pub among_has : (v : ℕ) (vs : List ℕ) → is_among v vs ≡ true → Has vs v
among_has v [] e = absurd (true≢false (sym e))
among_has v (w ∷ vs) e = go (nat_eq v w) refl e (among_has v vs)
  where
    go : (c : Bool) → nat_eq v w ≡ c → (c || list_any (nat_eq v) vs) ≡ true → (is_among v vs ≡ true → Has vs v) → (w ≡ v) ⊎ Has vs v
    go true i k rest = inl (sym (eqb-true v w i))
    go false i k rest = inr (rest k)

pub has_among : (v : ℕ) (vs : List ℕ) → Has vs v → is_among v vs ≡ true
has_among v [] h = absurd h
has_among v (w ∷ vs) (inl e) = ap (λ c. (c || list_any (nat_eq v) vs)) (eq-eqb v w (sym e))
has_among v (w ∷ vs) (inr h) = go (nat_eq v w) (has_among v vs h)
  where
    go : (c : Bool) → is_among v vs ≡ true → (c || list_any (nat_eq v) vs) ≡ true
    go true k = refl
    go false k = k

true_or_false : (c : Bool) → (c ≡ true) ⊎ (c ≡ false)
true_or_false true = inl refl
true_or_false false = inr refl

-- a variable enters, leaves, is flipped, or stays
pub by_role : (b : Basis) (t : Step) (v : ℕ) (P : Stand → Type 0) →
    (v ≡ t.entering → P Basic) →
    (¬ (v ≡ t.entering) → v ≡ t.leaving → P (stand_on t.side)) →
    (¬ (v ≡ t.entering) → ¬ (v ≡ t.leaving) → Has t.flips v → P (flipped (stand_at b v))) →
    (¬ (v ≡ t.entering) → ¬ (v ≡ t.leaving) → ¬ Has t.flips v → P (stand_at b v)) →
    P (stand_after b t v)
by_role b t v P enters leaves flips stays = ⊎_elim
    (λ (e : v ≡ t.entering). subst P (sym (cond-true (nat_eq v t.entering) Basic _ (eq-eqb v t.entering e))) (enters e))
    (λ (n : ¬ (v ≡ t.entering)). subst P (sym (cond-false (nat_eq v t.entering) Basic _ (ne_eqb v t.entering n)))
    (⊎_elim
    (λ (e : v ≡ t.leaving). subst P (sym (cond-true (nat_eq v t.leaving) (stand_on t.side) _ (eq-eqb v t.leaving e))) (leaves n e))
    (λ (m : ¬ (v ≡ t.leaving)). subst P (sym (cond-false (nat_eq v t.leaving) (stand_on t.side) _ (ne_eqb v t.leaving m)))
    (⊎_elim
    (λ (e : is_among v t.flips ≡ true). subst P (sym (cond-true (is_among v t.flips) (flipped (stand_at b v)) (stand_at b v) e)) (flips n m (among_has v t.flips e)))
    (λ (e : is_among v t.flips ≡ false). subst P (sym (cond-false (is_among v t.flips) (flipped (stand_at b v)) (stand_at b v) e)) (stays n m (λ h. true≢false (sym (has_among v t.flips h) ∙ e))))
    (true_or_false (is_among v t.flips))))
    (cases_eq v t.leaving)))
    (cases_eq v t.entering)

pub stand_there : (f : Form) (b : Basis) (t : Step) (v : ℕ) → IsBasis f b → v < variables f → stand_at (basis_after b t) v ≡ stand_after b t v
stand_there f b t v is l = tabled_at (length b.stands) (stand_after b t) v Zero (omega (arith, l, is.variables_stand))

-- ---- a basis
abbrev AtStand : Bounds → Stand → Type 0
AtStand l s = (value : Fraction) × StandsAt l s value

leaves_at_bound : (side : Side) (l : Bounds) (value amount : Fraction) → IsPast side l value amount → AtStand l (stand_on side)
leaves_at_bound Above l value amount h = (h.0, h.1)
leaves_at_bound Below l value amount h = (h.0, h.1)

flips_at_bound : (l : Bounds) (s : Stand) (w : Fraction) → AtStand l s → IsWidth l w → AtStand l (flipped s)
flips_at_bound l Basic w a h = (zero_f, tt)
flips_at_bound l Lower w a h = (h.1, h.3)
flips_at_bound l Upper w a h = (h.0, h.2)
flips_at_bound l Zero w a h = a

stand_on_not_basic : (side : Side) → ¬ (stand_on side ≡ Basic)
stand_on_not_basic Above e = cc
stand_on_not_basic Below e = cc

flipped_basic : (s : Stand) → flipped s ≡ Basic → s ≡ Basic
flipped_basic Basic e = refl
flipped_basic Lower e = absurd (cc)
flipped_basic Upper e = absurd (cc)
flipped_basic Zero e = absurd (cc)

-- an exchange at a place: its variable leaves to a bound that it has, a nonbasic one enters, boxed ones are flipped
pub record IsExchange (f : Form) (b : Basis) (t : Step) : Type 0 where
  pub place : t.place < f.rows
  pub leaves : t.leaving ≡ head_at b t.place
  pub bound : AtStand (limits f t.leaving) (stand_on t.side)
  pub within : t.entering < variables f
  pub enters : ¬ (stand_at b t.entering ≡ Basic)
  pub boxed : (v : ℕ) → Has t.flips v → (w : Fraction) × (width (limits f v) ≡ Some w)

at_place : (f : Form) (b : Basis) (t : Step) (k : ℕ) (P : ℕ → Type 0) → IsBasis f b → t.place < f.rows → (k ≡ t.place → P t.entering) → (¬ (k ≡ t.place) → P (head_at b k)) → P (head_at (basis_after b t) k)
at_place f b t k P is l there elsewhere = ⊎_elim
    (λ (e : k ≡ t.place). subst P (sym (ap (head_at (basis_after b t)) e ∙ head_there f b t is l)) (there e))
    (λ (n : ¬ (k ≡ t.place)). subst P (sym (head_elsewhere b t k n)) (elsewhere n))
    (cases_eq k t.place)

head_enters : (f : Form) (b : Basis) (t : Step) (k : ℕ) → IsBasis f b → IsExchange f b t → k < f.rows → ¬ (head_at b k ≡ t.entering)
head_enters f b t k is x l e = x.enters (ap (stand_at b) (sym e) ∙ is.basic k l)

heads_differ : (f : Form) (b : Basis) (t : Step) → IsBasis f b → IsExchange f b t → (k j : ℕ) → k < f.rows → j < f.rows → head_at (basis_after b t) k ≡ head_at (basis_after b t) j → k ≡ j
heads_differ f b t is x k j l m e = ⊎_elim
    (λ (i : k ≡ t.place). ⊎_elim
    (λ (h : j ≡ t.place). i ∙ sym h)
    (λ (n : ¬ (j ≡ t.place)). absurd (head_enters f b t j is x m (sym (head_elsewhere b t j n) ∙ sym e ∙ ap (head_at (basis_after b t)) i ∙ head_there f b t is x.place)))
    (cases_eq j t.place))
    (λ (n : ¬ (k ≡ t.place)). ⊎_elim
    (λ (h : j ≡ t.place). absurd (head_enters f b t k is x l (sym (head_elsewhere b t k n) ∙ e ∙ ap (head_at (basis_after b t)) h ∙ head_there f b t is x.place)))
    (λ (h : ¬ (j ≡ t.place)). is.distinct k j l m (sym (head_elsewhere b t k n) ∙ e ∙ head_elsewhere b t j h))
    (cases_eq j t.place))
    (cases_eq k t.place)

entering_basic : (b : Basis) (t : Step) → stand_after b t t.entering ≡ Basic
entering_basic b t = cond-true (nat_eq t.entering t.entering) Basic _ (eq-eqb t.entering t.entering refl)

-- a basic variable that doesn't leave stays basic
head_stays : (f : Form) (b : Basis) (t : Step) (k : ℕ) → IsBasis f b → IsExchange f b t → k < f.rows → ¬ (k ≡ t.place) → stand_after b t (head_at b k) ≡ Basic
head_stays f b t k is x l n = by_role b t (head_at b k) (λ s. s ≡ Basic)
    (λ e. refl)
    (λ i e. absurd (n (is.distinct k t.place l x.place (e ∙ x.leaves))))
    (λ i j h. ap flipped (is.basic k l))
    (λ i j h. is.basic k l)

abbrev Placed : Form → Basis → ℕ → Type 0
Placed f b v = (p : ℕ) × (p < f.rows) × (head_at b p ≡ v)

stays_placed : (f : Form) (b : Basis) (t : Step) (v : ℕ) → IsBasis f b → IsExchange f b t → v < variables f → ¬ (v ≡ t.leaving) → stand_at b v ≡ Basic → Placed f (basis_after b t) v
stays_placed f b t v is x l n e =
    let p = is.placed v l e in
    (p.0, p.1, head_elsewhere b t p.0 (λ k. n (sym p.2 ∙ ap (head_at b) k ∙ sym x.leaves)) ∙ p.2)

pub exchange_is_basis : (f : Form) (b : Basis) (t : Step) → IsBasis f b → IsExchange f b t → IsBasis f (basis_after b t)
exchange_is_basis f b t is x = record {
  places = length-set b.head t.place t.entering ∙ is.places;
  variables_stand = tabled_length (length b.stands) (stand_after b t) ∙ is.variables_stand;
  within = within;
  distinct = heads_differ f b t is x;
  basic = λ k l. stand_there f b t (head_at (basis_after b t) k) is (within k l) ∙ at_place f b t k (λ w. stand_after b t w ≡ Basic) is x.place (λ e. entering_basic b t) (head_stays f b t k is x l);
  placed = λ v l e. by_role b t v (λ s. s ≡ Basic → Placed f (basis_after b t) v)
      (λ i k. (t.place, x.place, head_there f b t is x.place ∙ sym i))
      (λ i j k. absurd (stand_on_not_basic t.side k))
      (λ i j h k. stays_placed f b t v is x l j (flipped_basic (stand_at b v) k))
      (λ i j h k. stays_placed f b t v is x l j k)
      (sym (stand_there f b t v is l) ∙ e);
  stands = λ v l. subst (AtStand (limits f v)) (sym (stand_there f b t v is l)) (by_role b t v (AtStand (limits f v))
      (λ i. (zero_f, tt))
      (λ i j. subst (λ w. AtStand (limits f w) (stand_on t.side)) (sym j) x.bound)
      (λ i j h. let w = x.boxed v h in flips_at_bound (limits f v) (stand_at b v) w.0 (is.stands v l) (width_is (limits f v) w.0 w.1))
      (λ i j h. is.stands v l));
}
  where
    within : (k : ℕ) → k < f.rows → head_at (basis_after b t) k < variables f
    within k l = at_place f b t k (λ w. w < variables f) is x.place (λ e. x.within) (λ n. is.within k l)

-- ---- the step of the walk
pub exchanges : (f : Form) (b : Basis) (s : Fresh) (p : ℕ) (v : Violation) (q : ℕ) → p < f.rows → violation (limits f (head_at b p)) (value_at_place b s p) ≡ Some v → IsEntering f b (leaving_at s p v) q → IsExchange f b (step_of f b s p v q)
exchanges f b s p v q l o e = record {
  place = l;
  leaves = refl;
  bound = leaves_at_bound v.side (limits f (head_at b p)) (value_at_place b s p) v.amount (violation_past (limits f (head_at b p)) (value_at_place b s p) v o);
  within = e.within;
  enters = candidate_not_basic f b (leaving_at s p v) q e.candidate;
  boxed = λ w h. flips_boxed f b (leaving_at s p v) q w e (contains_from (flips_at f b (leaving_at s p v) q) w h);
}

-- what is shown of the step by its entering variable is shown of the step
pub of_step : (f : Form) (b : Basis) (s : Fresh) (p : ℕ) (v : Violation) (t : Step) (P : Step → Type 0) → TakesStep f b s p v t → ((q : ℕ) → IsEntering f b (leaving_at s p v) q → P (step_of f b s p v q)) → P t
of_step f b s p v t P h go = let k = step_taken f b s p v t h.taken in subst P (sym k.is) (go t.entering k.entering)

pub step_exchanges : (f : Form) (b : Basis) (s : Fresh) (p : ℕ) (v : Violation) (t : Step) → TakesStep f b s p v t → IsExchange f b t
step_exchanges f b s p v t h = of_step f b s p v t (IsExchange f b) h (λ q e. exchanges f b s p v q h.place h.outside e)

pub step_is_basis : (f : Form) (b : Basis) (s : Fresh) (p : ℕ) (v : Violation) (t : Step) → TakesStep f b s p v t → IsBasis f (basis_after b t)
step_is_basis f b s p v t h = exchange_is_basis f b t h.basis (step_exchanges f b s p v t h)

pub step_pivot : (f : Form) (b : Basis) (s : Fresh) (p : ℕ) (v : Violation) (t : Step) → TakesStep f b s p v t → ¬ (get (column_at s t.entering) t.place ≡ zero_f)
step_pivot f b s p v t h = of_step f b s p v t (λ (z : Step). ¬ (get (column_at s z.entering) z.place ≡ zero_f)) h (λ q e. pivot_entry f b s p v q h.fresh h.place e)

pub step_regular : (f : Form) (b : Basis) (s : Fresh) (p : ℕ) (v : Violation) (t : Step) → TakesStep f b s p v t → IsRegularBasis f (basis_after b t)
step_regular f b s p v t h =
    let x = step_exchanges f b s p v t h in
    regular_behind f b s t h.basis h.fresh x.place x.within (step_pivot f b s p v t h)

pub step_enters : (f : Form) (b : Basis) (s : Fresh) (p : ℕ) (v : Violation) (t : Step) → TakesStep f b s p v t → IsEntering f b (leaving_at s p v) t.entering
step_enters f b s p v t h = (step_taken f b s p v t h.taken).entering

pub step_is : (f : Form) (b : Basis) (s : Fresh) (p : ℕ) (v : Violation) (t : Step) → TakesStep f b s p v t → t ≡ step_of f b s p v t.entering
step_is f b s p v t h = (step_taken f b s p v t h.taken).is

pub step_pivot_entry : (f : Form) (b : Basis) (s : Fresh) (p : ℕ) (v : Violation) (t : Step) → TakesStep f b s p v t → ¬ (row_entry f (row_at s t.place) t.entering ≡ zero_f)
step_pivot_entry f b s p v t h k =
    let x = step_exchanges f b s p v t h in
    step_pivot f b s p v t h (sym (row_entry_is f b s t.place t.entering h.fresh x.place x.within) ∙ k)

-- the step of the entering variable is taken
pub takes_again : (f : Form) (b : Basis) (s : Fresh) (p : ℕ) (v : Violation) (q : ℕ) → IsEntering f b (leaving_at s p v) q → step_at f b s p v ≡ Some (step_of f b s p v q)
takes_again f b s p v q e = ap (option_map (step_by b p v.side)) (walk_enters f b (leaving_at s p v) q e)
