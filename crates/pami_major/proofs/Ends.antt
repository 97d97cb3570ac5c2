-- The ends of a major: where none is due, and behind one that was tried.
use Rattle.std.proofs.Common.{◌≡◌, ℕ, ◌<◌, ◌≤◌, List, length, Option, None, Some, Ok, Err, refl, sym, ap, ◌∙◌, subst, arith}
use Rattle.std.specs.List.{All}
use Rattle.pami_algebra.specs.Fraction.{Fraction}
use Rattle.pami_frac.specs.declared.list.Bounds.{Bounds}
use Rattle.pami_frac.specs.declared.fault.Fault.{Fault}
use Rattle.pami_frac.specs.declared.fault.Fault.TheVariants as faults
use Rattle.pami_theory.specs.Form as theory
use Rattle.pami_method.specs.declared.words.Mode.{Mode}
use Rattle.pami_method.specs.declared.words.Mode.TheVariants.{Full, Single}
use Rattle.pami_method.specs.declared.words.Options.{Options}
use Rattle.pami_method.specs.declared.words.Place.{Place}
use Rattle.pami_method.specs.Factor.{History}
use Rattle.pami_method.specs.Walk as method
use Rattle.pami_method.specs.Walk.{IsOptions}
use Rattle.pami_log.specs.declared.event.Move.{Move}
use Rattle.pami_log.specs.declared.event.Event.{Event}
use Rattle.pami_log.specs.declared.event.Event.TheVariants as told
use Rattle.pami_form.specs.declared.form.Form.{Form}
use Rattle.pami_form.specs.FormOf.{form_of}
use Rattle.pami_state.specs.State.{basis_of}
use Rattle.pami_state.specs.declared.state.State.{State}
use Rattle.pami_factor.specs.Value.{Product}
use Rattle.pami_batch.specs.Factors.{HasFactor}
use Rattle.pami_minor.proofs.WalkedRow.{Kept}
use Rattle.pami_major.specs.Ready.{IsReady, IsDueAt}
use Rattle.pami_major.specs.Within.{AreWithin, IsSomeOutside}
use Rattle.pami_major.specs.EndsMajor.{walk_state, IsKnownFor, IsKept, EndsMajor}
use Rattle.pami_major.specs.Tried.{IsStuckSo, FollowsTried}
use Rattle.pami_major.specs.declared.majors.MajorEnd.TheVariants as majors
use Rattle.pami_major.specs.declared.majors.Tried.{Tried}
use Rattle.pami_major.specs.declared.majors.Tried.TheVariants as tried
use Rattle.pami_major.proofs.Places.{values_at_places, known_at_places, none_outside, some_outside, within_of, outside_of}

-- ---- the lists that were lent
pub values_lent : (form : Form) (limit : ℕ) (st : State) (head : List ℕ) (values : List Fraction) → IsReady form limit st → head ≡ st.head
    → values ≡ st.values
    → length values ≡ length head
values_lent form limit st head values r h v = ap length v ∙ values_at_places form limit st r ∙ sym (ap length h)

pub known_lent : (form : Form) (limit : ℕ) (st : State) (head : List ℕ) (bounds : List Bounds) → Kept form → IsReady form limit st → head ≡ st.head
    → bounds ≡ form.bounds → All (λ v. v < length bounds) head
known_lent form limit st head bounds k r h b =
    subst (λ xs. All (λ v. v < length bounds) xs) (sym h)
    (subst (λ (bs : List Bounds). All (λ v. v < length bs) st.head) (sym b) (known_at_places form limit st k r))

pub due_lent : (form : Form) (o : Options) (st : State) (head : List ℕ) (bounds : List Bounds) (values : List Fraction) → IsOptions o
    → IsReady form o.limit st
    → head ≡ st.head → bounds ≡ form.bounds → values ≡ st.values → IsSomeOutside head bounds values → ¬ (st.pivots ≡ o.limit) → IsDueAt form o st
due_lent form o st head bounds values i r h b v out n =
    let w : st.pivots ≤ o.limit = r.within in
    record {
      options = i;
      ready = r;
      below = omega (arith, w, n);
      outside = outside_of head st.head bounds form.bounds values st.values h b v out;
    }

-- ---- none is due
pub optimal_end : (form : Form) (o : Options) (number : ℕ) (mode : Mode) (h : Option History) (st : State) (factor : Option Product) (head : List ℕ)
    (bounds : List Bounds) (values : List Fraction)
    → IsReady form o.limit st → head ≡ st.head → bounds ≡ form.bounds → values ≡ st.values → AreWithin (length head) head bounds values
    → EndsMajor form o number mode h st st factor majors.Optimal
optimal_end form o number mode h st factor head bounds values r e b v w =
    let s = r.solved.fresh in (
      refl,
      (
        refl,
        (
          s,
          r.solved.solved,
          none_outside form o.limit st s r r.solved.solved
              (within_of head st.head bounds form.bounds values st.values e b v w),
        ),
      ),
    )

pub limit_end : (form : Form) (o : Options) (number : ℕ) (mode : Mode) (h : Option History) (st : State) (factor : Option Product) (head : List ℕ)
    (bounds : List Bounds) (values : List Fraction)
    → IsReady form o.limit st → head ≡ st.head → bounds ≡ form.bounds → values ≡ st.values → IsSomeOutside head bounds values → st.pivots ≡ o.limit
    → EndsMajor form o number mode h st st factor majors.Limit
limit_end form o number mode h st factor head bounds values r e b v out l =
    let s = r.solved.fresh in (
      refl,
      (
        refl,
        l,
        (
          s,
          r.solved.solved,
          some_outside form o.limit st s r r.solved.solved
              (outside_of head st.head bounds form.bounds values st.values e b v out),
        ),
      ),
    )

-- ---- one was tried
pub known_of : (f : theory.Form) (mode : Mode) (h : Option History) (st : State) (factor : Option Product) → HasFactor f h (basis_of st) factor
    → IsKnownFor f mode h st factor
known_of f Full h st factor k = k
known_of f Single h st factor k = tt

pub stuck_end : (form : Form) (o : Options) (number : ℕ) (mode : Mode) (h : Option History) (st : State) (factor : Option Product) (chosen : List ℕ)
    (rho : List Fraction) (moves : List Move)
    → IsStuckSo form o number mode h st chosen rho moves → EndsMajor form o number mode h st st factor (majors.NoEntering chosen rho moves)
stuck_end form o number mode h st factor chosen rho moves (place, side, ends, stuck) = (refl, place, side, ends, stuck)

-- the factor behind a kept one is one of its head
pub kept_factor_is : (form : Form) (o : Options) (number : ℕ) (mode : Mode) (st : method.State) (new : State) (behind : Option Product) (event : Event)
    → IsKept form o number mode st new behind event → (h : Option History) × HasFactor (form_of form) h (basis_of new) behind
kept_factor_is form o number mode st new behind event k = (Some k.history, k.factor)

-- its fault is a refusal
pub fault_named : (form : Form) (o : Options) (number : ℕ) (mode : Mode) (h : Option History) (st : State) (factor : Option Product) (fault : Fault Place)
    (place : Place)
    → FollowsTried form o number mode h st (Err fault) → fault ≡ faults.Named place → EndsMajor form o number mode h st st factor (majors.Refused place)
fault_named form o number mode h st factor fault place f e = (refl, subst (λ x. FollowsTried form o number mode h st (Err x)) e f)

-- what it says of what was tried
pub kept_end : (form : Form) (o : Options) (number : ℕ) (mode : Mode) (h : Option History) (st new : State) (made : Product) (chosen : List ℕ)
    (moves : List Move) (t : Tried)
    → FollowsTried form o number mode h st (Ok t) → t ≡ tried.Kept new made chosen moves
    → IsKept form o number mode (walk_state st h) new (Some made) (told.Major number mode chosen moves)
kept_end form o number mode h st new made chosen moves t f e = subst (λ x. FollowsTried form o number mode h st (Ok x)) e f

pub stuck_of : (form : Form) (o : Options) (number : ℕ) (mode : Mode) (h : Option History) (st : State) (chosen : List ℕ) (rho : List Fraction)
    (moves : List Move) (t : Tried)
    → FollowsTried form o number mode h st (Ok t) → t ≡ tried.Stuck chosen rho moves → IsStuckSo form o number mode h st chosen rho moves
stuck_of form o number mode h st chosen rho moves t f e = subst (λ x. FollowsTried form o number mode h st (Ok x)) e f

-- the factor that was handed in
pub known_taken : (f : theory.Form) (mode : Mode) (h : Option History) (st : State) (factor taken : Option Product) → IsKnownFor f mode h st factor
    → taken ≡ factor
    → IsKnownFor f mode h st taken
known_taken f mode h st factor taken k e = subst (IsKnownFor f mode h st) (sym e) k

-- without a factor there is no history
pub no_factor : (f : theory.Form) (st : State) (factor : Option Product) → factor ≡ None → (h : Option History) × HasFactor f h (basis_of st) factor
no_factor f st factor e = (None, subst (HasFactor f None (basis_of st)) (sym e) tt)
