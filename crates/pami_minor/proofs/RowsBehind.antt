-- One row more of a Minor is brought behind the step.
use Rattle.std.proofs.Common.{◌≡◌, ℕ, zero, suc, ◌+◌, ◌<◌, List, [], ◌∷◌, length, get_or, set, take, drop, sym, ap, ◌∙◌, subst, arith, vec_len, vec_capacity}
use Rattle.pami_linear.specs.Lists.{get}
use Rattle.pami_theory.specs.Form.{Form, limits}
use Rattle.pami_theory.specs.Basis.{Basis, head_at}
use Rattle.pami_theory.specs.Fresh.{row_at, value_at_place}
use Rattle.pami_theory.specs.Weights.{weight_at}
use Rattle.pami_theory.specs.Choice.{InfeasibleRow}
use Rattle.pami_theory.proofs.Members.{has_from}
use Rattle.pami_theory.proofs.Steps.{head_elsewhere}
use Rattle.pami_method.specs.Batch as batch
use Rattle.pami_method.specs.Batch.{Reached}
use Rattle.pami_price.specs.Slices.{slices}
use Rattle.pami_deferral.proofs.Chains.{pivot_links}
use Rattle.pami_minor.specs.declared.kept.Kept.{Kept}
use Rattle.pami_minor.specs.declared.minor.Minor.{Minor}
use Rattle.pami_minor.specs.declared.row.Reached as program
use Rattle.pami_minor.specs.Fresh.{IsFreshRow, AreFreshRows, IsStepping}
use Rattle.pami_minor.specs.Behind.{IsRowOf, IsReachedRow, IsFirstAt}
use Rattle.pami_minor.proofs.NextRow.{KeepsRest}
use Rattle.pami_minor.proofs.Nth.{kept_at, first_is}
use Rattle.pami_minor.proofs.Reaching.{left_out}

set_fresh : (f : Form) (n r : Reached) (ks : List Kept) (xs : List InfeasibleRow) (i : ℕ) (x : InfeasibleRow) (k : Kept)
    → AreFreshRows f n (take i ks) (take i xs) → AreFreshRows f r (drop i ks) (drop i xs) → i < length xs → get_or xs i x ≡ x → IsFreshRow f n k x
    → AreFreshRows f n (take (suc i) (set ks i k)) (take (suc i) xs) × AreFreshRows f r (drop (suc i) (set ks i k)) (drop (suc i) xs)
set_fresh f n r ks [] i x k h a l e w = absurd (omega arith)
set_fresh f n r [] (y ∷ ys) zero x k h a l e w = absurd a
set_fresh f n r (j ∷ ks) (y ∷ ys) zero x k h a l e w = ((subst (IsFreshRow f n k) (sym e) w, tt), a.1)
set_fresh f n r [] (y ∷ ys) (suc i) x k h a l e w = absurd h
set_fresh f n r (j ∷ ks) (y ∷ ys) (suc i) x k h a l e w =
    let s = set_fresh f n r ks ys i x k h.1 a (omega arith) e w in
    ((h.0, s.0), s.1)

-- the row that is put in
put_fresh : (f : Form) (limit : ℕ) (m : batch.Minor) (next : Reached) (i j : ℕ) (minor : Minor) (old : Kept) (reached : program.Reached)
    → IsStepping f limit m next i j minor → (o : IsRowOf next i reached.place) → IsFreshRow f m.reached old o.0 → IsReachedRow next reached.place reached
    → IsFreshRow f next (record { merit = old.merit; bounds = old.bounds; at = reached }) o.0
put_fresh f limit m next i j minor old reached h o k w =
    let links = pivot_links f limit m next h.pivot in
    let apart = left_out f limit m next o.0 links (has_from next.rows o.0 (i, o.1, o.2)) in
    let same = sym o.3 in
    record {
      known = record {
        place = same;
        merit = k.known.merit;
        bounds = k.known.bounds ∙ ap (limits f) (sym (ap (λ (b : Basis). head_at b o.0.place) h.pivot.behind.basis ∙ head_elsewhere m.reached.basis m.step o.0.place apart));
        value = w.value ∙ ap (value_at_place next.basis next.fresh) same;
        weight = w.weight ∙ ap (weight_at next.weights) same;
      };
      rho = w.rho ∙ ap (row_at next.fresh) same;
    }

pub reached_more : (f : Form) (limit : ℕ) (m : batch.Minor) (next : Reached) (i j : ℕ) (minor new : Minor) (rows : List Kept) (first : ℕ) (old : Kept)
    (reached : program.Reached) → IsStepping f limit m next i j minor → (o : IsRowOf next i reached.place) → IsReachedRow next reached.place reached
    → rows ≡ minor.rows.items → IsFirstAt reached.place rows first → old ≡ get_or minor.rows.items first old → KeepsRest minor new → new.picked ≡ minor.picked
    → new.remaining ≡ minor.remaining
    → new.rows.items ≡ set minor.rows.items first (record { merit = old.merit; bounds = old.bounds; at = reached })
    → IsStepping f limit m next (i + 1) j new
reached_more f limit m next i j minor new rows first old reached h o w e a read k p g s =
    let z : suc i ≡ i + 1 = omega arith in
    let here : first ≡ i = first_is f limit m next i j reached.place first minor h o (subst (λ ks. IsFirstAt reached.place ks first) e a) in
    let row = put_fresh f limit m next i j minor old reached h o
    (kept_at f limit m next i j reached.place minor rows first old h o e a read) w in
    let put : Kept = record { merit = old.merit; bounds = old.bounds; at = reached } in
    let t = set_fresh f next m.reached minor.rows.items next.rows i o.0 put h.reached_rows h.other_rows o.1 o.2 row in
    let items : set minor.rows.items i put ≡ new.rows.items = ap (λ q. set minor.rows.items q put) (sym here) ∙ sym s in
    let low = o.1 in
    let nows = h.room.nows in let dropped = h.room.dropped in let remaining = h.room.remaining in let steps = h.room.steps in
    let kn = k.nows in let kd = k.dropped in let kr = k.remaining in
    let sl : vec_len new.steps ≡ vec_len minor.steps = ap vec_len k.steps in
    let sc : vec_capacity new.steps ≡ vec_capacity minor.steps = ap vec_capacity k.steps in
    record {
      reached = h.reached;
      pivot = h.pivot;
      head = ap (λ v. v.items) k.head ∙ h.head;
      stands = ap (λ v. v.items) k.stands ∙ h.stands;
      limited = record {
        count_is = k.count ∙ h.limited.count_is;
        limit_is = k.limit ∙ h.limited.limit_is;
        most = h.limited.most;
        few = h.limited.few;
      };
      within = omega (arith, low);
      reached_rows = subst (λ ks. AreFreshRows f next (take (i + 1) ks) (take (i + 1) next.rows)) items
          (subst (λ n. AreFreshRows f next (take n (set minor.rows.items i put)) (take n next.rows)) z t.0);
      other_rows = subst (λ ks. AreFreshRows f m.reached (drop (i + 1) ks) (drop (i + 1) next.rows)) items
          (subst (λ n. AreFreshRows f m.reached (drop n (set minor.rows.items i put)) (drop n next.rows)) z t.1);
      remaining = ap (λ v. v.items) g ∙ h.remaining;
      shifted = record {
        by_variable = ap (λ v. length v.items) k.reduced ∙ h.shifted.by_variable;
        at = λ v l. ap (λ x. get x.items v) k.reduced ∙ h.shifted.at v l;
      };
      picked = (h.picked.0, p ∙ h.picked.1, h.picked.2);
      priced = record { at = λ slice l. ap (λ x. get_or x.items slice []) k.alpha ∙ h.priced.at slice l };
      step = (h.step.0, h.step.1, ap (λ v. v.items) k.steps ∙ h.step.2, h.step.3);
      room = record {
        nows = omega (arith, nows, kn);
        dropped = omega (arith, dropped, kd);
        remaining = omega (arith, remaining, kr);
        steps = omega (arith, steps, sl, sc);
        slices = ap (λ v. length v.items) k.alpha ∙ h.room.slices ∙ sym (ap (λ v. slices (length v.items)) k.stands);
      };
    }
