-- Whether a major is due, by the values and bounds of the places; and the lists of a state that is ready, by place.
use Rattle.std.proofs.Common.{◌≡◌, ℕ, ◌<◌, List, [], length, None, sym, ap, ◌∙◌, subst, slice_index_or, get_or, arith}
use Rattle.std.specs.List.{All}
use Rattle.std.proofs.lemmas.List.{get_or_default, get_or-map}
use Rattle.std.proofs.lemmas.List.Elements.{All-get_or}
use Rattle.pami_algebra.specs.Fraction.{Fraction}
use Rattle.pami_linear.specs.Lists.{get}
use Rattle.pami_frac.specs.declared.list.Bounds.{Bounds}
use Rattle.pami_theory.specs.Form.{limits, IsWithin, variables, zero_f}
use Rattle.pami_theory.specs.Basis.{head_at}
use Rattle.pami_theory.specs.Fresh.{Fresh, IsFresh, value_at_place}
use Rattle.pami_theory.specs.Choice.{infeasible_rows}
use Rattle.pami_theory.proofs.Certificates.{within_by_not_outside, within_not_outside}
use Rattle.pami_theory.proofs.Chosen.{no_rows}
use Rattle.pami_theory.proofs.Solved.{only_fresh}
use Rattle.pami_theory.proofs.Tables.{tabled_length, tabled_at}
use Rattle.pami_theory.proofs.Violations.{violation_none}
use Rattle.pami_form.specs.declared.form.Form.{Form}
use Rattle.pami_form.specs.FormOf.{form_of}
use Rattle.pami_state.specs.Columns.{rows_of}
use Rattle.pami_state.specs.State.{basis_of}
use Rattle.pami_state.specs.declared.state.State.{State}
use Rattle.pami_state.proofs.Formed.{variables_are}
use Rattle.pami_chuzr.specs.Choice.{AreOfPlaces}
use Rattle.pami_minor.proofs.WalkedRow.{Kept}
use Rattle.pami_major.specs.Beginnings.{bounds_at_places}
use Rattle.pami_major.specs.Ready.{IsReady}
use Rattle.pami_major.specs.Within.{IsWithinAt, AreWithin, IsSomeOutside}
use Rattle.pami_major.proofs.Laid.{head_known}

-- what is read at a place, whatever stands past the end
pub outside_at : (head : List ℕ) (bounds : List Bounds) (values : List Fraction) (p : ℕ) (b : Bounds) (x : Fraction) → p < length head
    → length values ≡ length head → All (λ v. v < length bounds) head
    → x ≡ slice_index_or values p x → b ≡ slice_index_or bounds (slice_index_or head p 0) b → ¬ IsWithin b x → IsSomeOutside head bounds values
outside_at head bounds values p b x l e known vx bx n = record {
  place = p;
  within = l;
  outside = λ h. n
      (subst (λ z. IsWithin z x) (sym (bx ∙ get_or_default bounds (slice_index_or head p 0) b (record { low = None; high = None })
      (All-get_or (λ v. v < length bounds) head p 0 l known)))
      (subst (IsWithin (slice_index_or bounds (slice_index_or head p 0) (record { low = None; high = None })))
      (sym (vx ∙ get_or_default values p x zero_f (subst (λ m. p < m) (sym e) l))) h));
}

-- a state that is ready has a value at each place, and a variable of the form
pub values_at_places : (form : Form) (limit : ℕ) (st : State) → IsReady form limit st → length st.values ≡ length st.head
values_at_places form limit st r = ap length r.solved.values ∙ tabled_length (rows_of form.columns) (value_at_place (basis_of st) r.solved.fresh)
    ∙ sym r.basis.places

pub known_at_places : (form : Form) (limit : ℕ) (st : State) → Kept form → IsReady form limit st → All (λ v. v < length form.bounds) st.head
known_at_places form limit st k r =
    subst (λ n. All (λ v. v < n) st.head) (sym k.form.as_many_bounds) (head_known form.columns form.bounds form.costs (basis_of st) k.form r.basis)

-- within at a place is within what is solved there
within_is : (form : Form) (limit : ℕ) (st : State) (s : Fresh) (p : ℕ) → IsReady form limit st → IsFresh (form_of form) (basis_of st) s
    → p < rows_of form.columns
    → IsWithinAt st.head form.bounds st.values p ≡ IsWithin (limits (form_of form) (head_at (basis_of st) p)) (value_at_place (basis_of st) s p)
within_is form limit st s p r fresh l =
    let f = form_of form in
    let b = basis_of st in
    let same : r.solved.fresh ≡ s = only_fresh f b r.solved.fresh s r.basis r.solved.solved fresh in
    let value : get st.values p ≡ value_at_place b s p =
    ap (λ (xs : List Fraction). get xs p) r.solved.values ∙ tabled_at (rows_of form.columns) (value_at_place b r.solved.fresh) p zero_f l
    ∙ ap (λ (x : Fresh). value_at_place b x p) same in
    ap (λ v. IsWithin (slice_index_or form.bounds (head_at b p) (record { low = None; high = None })) v) value

-- no place is outside exactly where no row is infeasible at the fresh values
pub none_outside : (form : Form) (limit : ℕ) (st : State) (s : Fresh) → IsReady form limit st → IsFresh (form_of form) (basis_of st) s
    → AreWithin (length st.head) st.head form.bounds st.values → infeasible_rows (form_of form) (basis_of st) s st.weights ≡ []
none_outside form limit st s r fresh w =
    let f = form_of form in
    let b = basis_of st in
    (no_rows f b s st.weights).1
    (λ p l. (violation_none (limits f (head_at b p)) (value_at_place b s p)).1
    (within_not_outside (limits f (head_at b p)) (value_at_place b s p)
    (subst (λ t. t) (within_is form limit st s p r fresh l) (w.at p (subst (λ n. p < n) (sym r.basis.places) l)))))

pub some_outside : (form : Form) (limit : ℕ) (st : State) (s : Fresh) → IsReady form limit st → IsFresh (form_of form) (basis_of st) s
    → IsSomeOutside st.head form.bounds st.values → ¬ (infeasible_rows (form_of form) (basis_of st) s st.weights ≡ [])
some_outside form limit st s r fresh o e =
    let f = form_of form in
    let b = basis_of st in
    let l : o.place < rows_of form.columns = subst (λ n. o.place < n) r.basis.places o.within in
    o.outside
    (subst (λ t. t) (sym (within_is form limit st s o.place r fresh l))
    (within_by_not_outside (limits f (head_at b o.place)) (value_at_place b s o.place)
    ((violation_none (limits f (head_at b o.place)) (value_at_place b s o.place)).0 ((no_rows f b s st.weights).0 e o.place l))))

-- the same of the lists that were lent
pub within_of : (head other : List ℕ) (bounds others : List Bounds) (values more : List Fraction) → head ≡ other → bounds ≡ others → values ≡ more
    → AreWithin (length head) head bounds values → AreWithin (length other) other others more
within_of head other bounds others values more h b v w =
    subst (λ xs. AreWithin (length xs) xs others more) h (subst (λ (bs : List Bounds). AreWithin (length head) head bs more) b
    (subst (λ (vs : List Fraction). AreWithin (length head) head bounds vs) v w))

pub outside_of : (head other : List ℕ) (bounds others : List Bounds) (values more : List Fraction) → head ≡ other → bounds ≡ others → values ≡ more
    → IsSomeOutside head bounds values → IsSomeOutside other others more
outside_of head other bounds others values more h b v w =
    subst (λ xs. IsSomeOutside xs others more) h (subst (λ (bs : List Bounds). IsSomeOutside head bs more) b
    (subst (λ (vs : List Fraction). IsSomeOutside head bounds vs) v w))

-- ---- the places
pub places_of : (form : Form) (limit : ℕ) (st : State) (s : Fresh) → Kept form → IsReady form limit st → IsFresh (form_of form) (basis_of st) s
    → AreOfPlaces (form_of form) (basis_of st) s (bounds_at_places form.bounds st.head) st.values
places_of form limit st s k r fresh =
    let f = form_of form in
    let b = basis_of st in
    let same : r.solved.fresh ≡ s = only_fresh f b r.solved.fresh s r.basis r.solved.solved fresh in
    let n : variables f ≡ length form.columns = variables_are form.columns form.bounds form.costs k.form in
    let p : length st.head ≡ rows_of form.columns = r.basis.places in
    let many = k.form.as_many_bounds in
    record {
      places = ap length r.solved.values ∙ tabled_length (rows_of form.columns) (value_at_place b r.solved.fresh);
      value = λ i l. ap (λ (xs : List Fraction). get xs i) r.solved.values ∙ tabled_at (rows_of form.columns) (value_at_place b r.solved.fresh) i zero_f l
          ∙ ap (λ (x : Fresh). value_at_place b x i) same;
      bound = λ i l.
          let w = r.basis.within i l in
          (get_or-map (λ v. get_or form.bounds v (record { low = None; high = None })) st.head i 0 (record { low = None; high = None }) (omega arith));
    }
