-- The factor of a major: when it is kept, and what a new elimination of the head gives.
use Rattle.std.proofs.Common.{◌≡◌, ℕ, ◌≤◌, Bool, true, false, cond, nat_lt, List, [], length, Option, None, Some, Result, Ok, Err, refl, sym, ap, ◌∙◌, subst}
use Rattle.std.proofs.lemmas.Bool.{ltb-false}
use Rattle.std.proofs.lemmas.Option.{none-some}
use Rattle.pami_algebra.specs.Fraction.{Fraction}
use Rattle.pami_linear.specs.Systems.{IsRegular}
use Rattle.pami_frac.specs.declared.arithmetic.Refused.{Refused}
use Rattle.pami_frac.specs.declared.fault.Fault.{Fault}
use Rattle.pami_frac.specs.declared.fault.Fault.TheVariants as faults
use Rattle.pami_frac.specs.Answers.{FollowsBy}
use Rattle.pami_factoring.specs.declared.kept.Kept.{Kept as KeptStep}
use Rattle.pami_factoring.specs.declared.kept.LuFault.{LuFault}
use Rattle.pami_factoring.specs.declared.kept.LuFault.TheVariants.{Singular, Refused as Unfit}
use Rattle.pami_factoring.specs.Factor.{basis_columns, matrix_of, elimination_script}
use Rattle.pami_theory.specs.Form as theory
use Rattle.pami_method.specs.declared.words.Mode.{Mode}
use Rattle.pami_method.specs.declared.words.Mode.TheVariants.{Full, Single}
use Rattle.pami_method.specs.declared.words.Options.{Options}
use Rattle.pami_method.specs.declared.words.Place.{Place}
use Rattle.pami_method.specs.declared.words.Spot.TheVariants.{Factor}
use Rattle.pami_method.specs.Factor.{History, elimination, unfit}
use Rattle.pami_method.specs.Work.{factor_tasks, refused_or, first_refused}
use Rattle.pami_method.specs.Walk.{eliminates_anew, history_by}
use Rattle.pami_deferral.proofs.Histories.{history_new}
use Rattle.pami_form.specs.declared.form.Form.{Form}
use Rattle.pami_form.specs.FormOf.{form_of}
use Rattle.pami_state.specs.State.{basis_of}
use Rattle.pami_state.specs.declared.state.State.{State}
use Rattle.pami_factor.specs.Value.{Product}
use Rattle.pami_batch.specs.Factors.{IsFactorOf, HasFactor}
use Rattle.pami_lu.specs.Follow.{IfSingular}
use Rattle.pami_lu.specs.declared.lu.Lu.{Lu}
use Rattle.pami_minor.proofs.WalkedRow.{Kept}
use Rattle.pami_major.specs.EndsMajor.{IsKnownFor}
use Rattle.pami_major.specs.Beginnings.{anew_refusal, factor_refusal, IsUsed, kept_for}
use Rattle.pami_major.specs.Ready.{IsReady}
use Rattle.pami_major.proofs.Laid.{matrix_is, regular_columns}

-- ---- a factor that is kept
-- what is kept is the factor that there was, with few pivots
record IsSame (o : Options) (factor used : Product) : Type 0 where
  same : factor ≡ used
  few : nat_lt o.refactor (length used.pivots) ≡ false

kept_by : (o : Options) (factor used : Product) (b : Bool) → nat_lt o.refactor (length factor.pivots) ≡ b → cond b None (Some factor) ≡ Some used
    → IsSame o factor used
kept_by o factor used true e h = absurd (none-some used h)
kept_by o factor used false e h =
    let same : factor ≡ used = cc in
    record { same = same; few = ap (λ (x : Product). nat_lt o.refactor (length x.pivots)) (sym same) ∙ e }

used_as : (f : theory.Form) (o : Options) (mode : Mode) (h : Option History) (st : State) (used : Product) (b : Bool) → eliminates_anew o mode h ≡ b
    → IsFactorOf f (history_by b (basis_of st) h) (basis_of st) used → first_refused (factor_tasks f (history_by b (basis_of st) h) b) ≡ None
    → IsUsed f o mode h st used
used_as f o mode h st used b e of fits = record {
  factor = subst (λ t. IsFactorOf f (history_by t (basis_of st) h) (basis_of st) used) (sym e) of;
  fits = ap (λ t. first_refused (factor_tasks f (history_by t (basis_of st) h) t)) e ∙ fits;
}

kept_used : (f : theory.Form) (o : Options) (h : History) (st : State) (factor used : Product) → IsFactorOf f h (basis_of st) factor → IsSame o factor used
    → IsUsed f o Full (Some h) st used
kept_used f o h st factor used of s =
    let of_used = subst (IsFactorOf f h (basis_of st)) s.same of in
    used_as f o Full (Some h) st used false (ap (λ ps. nat_lt o.refactor (length ps)) (sym of_used.pivots) ∙ s.few) of_used refl

pub known_used : (f : theory.Form) (o : Options) (mode : Mode) (h : Option History) (st : State) (factor : Option Product) (used : Product)
    → IsKnownFor f mode h st factor
    → kept_for o mode factor ≡ Some used → IsUsed f o mode h st used
known_used f o Single h st factor used k e = absurd (none-some used e)
known_used f o Full h st None used k e = absurd (none-some used e)
known_used f o Full None st (Some x) used k e = absurd k
known_used f o Full (Some h) st (Some x) used k e = kept_used f o h st x used k (kept_by o x used (nat_lt o.refactor (length x.pivots)) refl e)

pub kept_known : (f : theory.Form) (o : Options) (mode : Mode) (h : Option History) (st : State) (factor : Option Product) (used : Product)
    → HasFactor f h (basis_of st) factor
    → kept_for o mode factor ≡ Some used → (g : History) × IsFactorOf f g (basis_of st) used
kept_known f o Single h st factor used k e = absurd (none-some used e)
kept_known f o Full h st None used k e = absurd (none-some used e)
kept_known f o Full None st (Some x) used k e = absurd k
kept_known f o Full (Some h) st (Some x) used k e = (
  h,
  subst (IsFactorOf f h (basis_of st))
      (kept_by o x used (nat_lt o.refactor (length x.pivots)) refl e).same k,
)

few_by : (o : Options) (used : Product) → nat_lt o.refactor (length used.pivots) ≡ false → length used.pivots ≤ o.refactor
few_by o used e = ltb-false o.refactor (length used.pivots) e

pub kept_few : (o : Options) (mode : Mode) (factor : Option Product) (used : Product) → kept_for o mode factor ≡ Some used → length used.pivots ≤ o.refactor
kept_few o Single factor used e = absurd (none-some used e)
kept_few o Full None used e = absurd (none-some used e)
kept_few o Full (Some x) used e = few_by o used (kept_by o x used (nat_lt o.refactor (length x.pivots)) refl e).few

-- ---- where none is kept, the major eliminates anew
worn_by : {A : Type 0} (b : Bool) (x : A) → cond b None (Some x) ≡ None → b ≡ true
worn_by true x e = refl
worn_by false x e = absurd (none-some x (sym e))

pub known_anew : (f : theory.Form) (o : Options) (mode : Mode) (h : Option History) (st : State) (factor : Option Product) → IsKnownFor f mode h st factor
    → kept_for o mode factor ≡ None → eliminates_anew o mode h ≡ true
known_anew f o Single h st factor k e = refl
known_anew f o Full None st None k e = refl
known_anew f o Full (Some h) st None k e = absurd k
known_anew f o Full None st (Some x) k e = refl
known_anew f o Full (Some h) st (Some x) k e =
    ap (λ ps. nat_lt o.refactor (length ps)) (sym k.pivots) ∙ worn_by (nat_lt o.refactor (length x.pivots)) x e

pub anew_used : (f : theory.Form) (o : Options) (mode : Mode) (h : Option History) (st : State) (factor : Option Product) (made : Product)
    → IsKnownFor f mode h st factor
    → kept_for o mode factor ≡ None → IsFactorOf f (record { head = st.head; pivots = [] }) (basis_of st) made → anew_refusal f st.head ≡ None
    → IsUsed f o mode h st made
anew_used f o mode h st factor made k e of fits = used_as f o mode h st made true (known_anew f o mode h st factor k e) of fits

pub anew_refused : (f : theory.Form) (o : Options) (mode : Mode) (h : Option History) (st : State) (factor : Option Product) (place : Place)
    → IsKnownFor f mode h st factor
    → kept_for o mode factor ≡ None → anew_refusal f st.head ≡ Some place → factor_refusal f o mode h st ≡ Some place
anew_refused f o mode h st factor place k e r =
    ap (λ t. first_refused (factor_tasks f (history_by t (basis_of st) h) t)) (known_anew f o mode h st factor k e) ∙ r

-- ---- a new elimination
pub same_elimination : (form : Form) (limit : ℕ) (st : State) → Kept form → IsReady form limit st
    → elimination (form_of form) st.head ≡ elimination_script (matrix_of form.columns st.head)
same_elimination form limit st k r = ap elimination_script (matrix_is form.columns form.bounds form.costs (basis_of st) k.form r.basis)

pub regular_of : (form : Form) (limit : ℕ) (st : State) → Kept form → IsReady form limit st → IsRegular (length st.head) (basis_columns form.columns st.head)
regular_of form limit st k r = regular_columns form.columns form.bounds form.costs (basis_of st) r.solved.fresh k.form r.basis r.solved.solved

-- over the lists that were lent
pub regular_lent : (form : Form) (limit : ℕ) (st : State) (columns : List (List Fraction)) (head : List ℕ) → Kept form → IsReady form limit st
    → columns ≡ form.columns → head ≡ st.head → IsRegular (length head) (basis_columns columns head)
regular_lent form limit st columns head k r e h =
    subst (λ cs. IsRegular (length head) (basis_columns cs head)) (sym e)
    (subst (λ vs. IsRegular (length vs) (basis_columns form.columns vs)) (sym h) (regular_of form limit st k r))

lent_elimination : (form : Form) (limit : ℕ) (st : State) (columns : List (List Fraction)) (head : List ℕ) → Kept form → IsReady form limit st
    → columns ≡ form.columns → head ≡ st.head → elimination (form_of form) st.head ≡ elimination_script (matrix_of columns head)
lent_elimination form limit st columns head k r e h =
    same_elimination form limit st k r ∙ ap (λ cs. elimination_script (matrix_of cs st.head)) (sym e)
    ∙ ap (λ vs. elimination_script (matrix_of columns vs)) (sym h)

pub made_of : (form : Form) (limit : ℕ) (st : State) (columns : List (List Fraction)) (head : List ℕ) (made : Product) (ks : List KeptStep) → Kept form
    → IsReady form limit st
    → columns ≡ form.columns → head ≡ st.head → elimination_script (matrix_of columns head) ≡ Ok ks → made.steps ≡ ks → made.pivots ≡ []
    → IsFactorOf (form_of form) (record { head = st.head; pivots = [] }) (basis_of st) made
made_of form limit st columns head made ks k r e h is s p = record {
  stands = history_new (form_of form) (basis_of st) r.basis;
  steps = lent_elimination form limit st columns head k r e h ∙ is ∙ ap Ok (sym s);
  pivots = p;
}

pub anew_fits : (form : Form) (limit : ℕ) (st : State) (columns : List (List Fraction)) (head : List ℕ) (ks : List KeptStep) → Kept form
    → IsReady form limit st
    → columns ≡ form.columns → head ≡ st.head → elimination_script (matrix_of columns head) ≡ Ok ks → anew_refusal (form_of form) st.head ≡ None
anew_fits form limit st columns head ks k r e h is =
    ap (λ x. refused_or (unfit x) Factor None) (lent_elimination form limit st columns head k r e h ∙ is)

-- a fault that is a refused operation
unfit_script : (r : Result (List KeptStep) LuFault) (fault : Fault LuFault) (c : LuFault) (d : Refused) → FollowsBy (λ (ks : List KeptStep). ks) r (Err fault)
    → fault ≡ faults.Named c → c ≡ Unfit d → r ≡ Err (Unfit d)
unfit_script r fault c d h e i = subst (λ x. FollowsBy (λ (ks : List KeptStep). ks) r (Err x)) e h ∙ ap Err i

pub anew_unfit : (form : Form) (limit : ℕ) (st : State) (columns : List (List Fraction)) (head : List ℕ) (fault : Fault LuFault) (c : LuFault) (d : Refused)
    → Kept form → IsReady form limit st
    → columns ≡ form.columns → head ≡ st.head → FollowsBy (λ (ks : List KeptStep). ks) (elimination_script (matrix_of columns head)) (Err fault)
    → fault ≡ faults.Named c → c ≡ Unfit d → anew_refusal (form_of form) st.head ≡ Some (record { task = Factor; refused = d })
anew_unfit form limit st columns head fault c d k r e h is i j =
    ap (λ x. refused_or (unfit x) Factor None)
    (lent_elimination form limit st columns head k r e h ∙ unfit_script (elimination_script (matrix_of columns head)) fault c d is i j)

-- what is said of a singular matrix
pub singular_has : (fault : Fault LuFault) (c : LuFault) (p : ℕ) (P : Type 0) → IfSingular {A = Lu} (Err fault) P → fault ≡ faults.Named c → c ≡ Singular p
    → P
singular_has fault c p P h e i = subst (λ x. IfSingular {A = Lu} (Err (faults.Named x)) P) i (subst (λ x. IfSingular {A = Lu} (Err x) P) e h)

-- the place of a fault
pub same_place : {A : Type 0} (p q : Place) → ◌≡◌ {A = Result A (Fault Place)} (Err (faults.Named p)) (Err (faults.Named q)) → p ≡ q
same_place p q e = cc
