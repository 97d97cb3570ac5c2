-- Where the variables stand on the form's own bounds, as they are listed.
use Rattle.std.proofs.Common.{◌≡◌, ℕ, ◌+◌, ◌<◌, List, [], ◌∷◌, ◌++◌, length, map, get_or, None, sym, ap, ◌∙◌, arith}
use Rattle.std.specs.List.{range_with_len}
use Rattle.pami_algebra.specs.Fraction.{Fraction}
use Rattle.pami_script.proofs.Loops.{get_is}
use Rattle.pami_frac.specs.declared.list.Bounds.{Bounds}
use Rattle.pami_theory.specs.declared.words.Stand.{Stand}
use Rattle.pami_theory.specs.declared.words.Stand.TheVariants.{Zero}
use Rattle.pami_theory.specs.Form.{limits}
use Rattle.pami_theory.specs.Boxes.{switched_by, unless_basic, switched_stand, switched_basis}
use Rattle.pami_state.specs.Columns.{bounds_form, form_by}
use Rattle.pami_state.specs.State.{basis_of}
use Rattle.pami_state.specs.declared.state.State.{State}
use Rattle.std.proofs.lemmas.List.{get_or_default}
use Rattle.pami_state.proofs.Signed.{stand_read}
use Rattle.pami_state.proofs.Listed.{table_more}
use Rattle.pami_phase.specs.Switches.{switched_at}

pub switched_more : (bounds : List Bounds) (ss : List Stand) (ds : List Fraction) (v : ℕ) (found : List Stand) (b : Bounds) (old new : Stand) (d : Fraction) → found ≡ map (switched_at bounds ss ds) (range_with_len 0 v)
    → v < length bounds → length ss ≡ length bounds → length ds ≡ length bounds → b ≡ get_or bounds v b → d ≡ get_or ds v d → new ≡ unless_basic (get_or ss v old) (switched_by b.low b.high d)
    → found ++ new ∷ [] ≡ map (switched_at bounds ss ds) (range_with_len 0 (v + 1))
switched_more bounds ss ds v found b old new d e l m n p r h =
    table_more (switched_at bounds ss ds) v found new e
    (h
    ∙ ap (λ s. unless_basic s (switched_by b.low b.high d)) (sym (stand_read ss v old (omega arith)))
    ∙ ap (λ (k : Bounds). unless_basic (get_or ss v Zero) (switched_by k.low k.high d)) (p ∙ get_or_default bounds v b (record { low = None; high = None }) l)
    ∙ ap (λ z. unless_basic (get_or ss v Zero) (switched_by (limits (bounds_form 0 bounds) v).low (limits (bounds_form 0 bounds) v).high z)) (get_is ds v d (omega arith) r))

pub restood : (columns : List (List Fraction)) (bounds lent : List Bounds) (costs : List Fraction) (st new : State) (ss : List Stand) (ds : List Fraction) → lent ≡ bounds → ss ≡ st.stands → ds ≡ st.reduced → new.head ≡ st.head → length st.stands ≡ length bounds
    → new.stands ≡ map (switched_at lent ss ds) (range_with_len 0 (length lent)) → basis_of new ≡ switched_basis (form_by columns bounds costs) (basis_of st) st.reduced
restood columns bounds lent costs st new ss ds b s d h n e =
    let f = form_by columns bounds costs in
    let made : new.stands ≡ map (switched_stand f (basis_of st) st.reduced) (range_with_len 0 (length st.stands)) =
    e
    ∙ ap (λ (bs : List Bounds). map (switched_at bs ss ds) (range_with_len 0 (length bs))) b
    ∙ ap (λ (xs : List Stand). map (switched_at bounds xs ds) (range_with_len 0 (length bounds))) s
    ∙ ap (λ (xs : List Fraction). map (switched_at bounds st.stands xs) (range_with_len 0 (length bounds))) d
    ∙ ap (λ k. map (switched_at bounds st.stands st.reduced) (range_with_len 0 k)) (sym n) in
    ap (λ (vs : List ℕ). record { head = vs; stands = new.stands }) h ∙ ap (λ (xs : List Stand). record { head = st.head; stands = xs }) made
