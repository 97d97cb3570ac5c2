use Rattle.std.proofs.Common.{◌≡◌, ◌<◌, ◌≤◌, pos, map, length, get_or, Err, refl, sym, ap, ◌∙◌, subst, arith}
use Rattle.std.proofs.lemmas.Result.{err_from_is_err_and}
use Rattle.pami_theory.specs.Fresh.{row_at}
use Rattle.pami_theory.specs.declared.words.Side.TheVariants.{Above}
use Rattle.pami_method.specs.Batch.{places}
use Rattle.pami_method.specs.Work.{backward_task}
use Rattle.pami_chuzr.specs.declared.row.ChosenRow.{ChosenRow}
use Rattle.pami_minor.specs.Opening.{IsOpening}
use Rattle.pami_batch.specs.Told.{Tells}
use Rattle.pami_batch.proofs.Refusals.{rest_begins, rest_goes, rest_ends}
use Rattle.pami_batch.proofs.Told.{rest_stops}
use Rattle.pami_batch.proofs.Scripts.{factor_steps}
use Rattle.pami_batch.proofs.PlaceRows.{places_long, row_place, place_low, chosen_at, chosen_long}
use Rattle.pami_batch.proofs.minors_parts.solve_rows.Goals as goal

-- what a chosen row of no index reads as
abbrev no_row : ChosenRow
no_row = record { place = 0; side = Above; merit = pos 0 }

pub loop-row-init : goal.loop-row-init
loop-row-init g c = (λ f limit r h o is e. (o, rest_begins (backward_task f h) (places r.rows)), refl, omega arith)

pub solve_row-requires-clause-few : goal.solve_row-requires-clause-few
solve_row-requires-clause-few g c =
    let t = c.requires.turn in
    let n = factor_steps t.0 t.3 t.2.basis c.args.factor.now t.5 in
    let few = t.7 in
    omega (arith, n, few)

pub solve_row-requires-clause-low : goal.solve_row-requires-clause-low
solve_row-requires-clause-low g c =
    let t = c.requires.turn in
    let n = factor_steps t.0 t.3 t.2.basis c.args.factor.now t.5 in
    let i = c.loop-row.row-index in
    let place = (get_or c.args.chosen.now i no_row).place in
    subst (λ m. place < m) (sym n) (place_low t.0 t.2 i place t.4.reached.placed (chosen_at t.2 c.args.chosen.now i no_row t.6 c.loop-row-test.true))

pub returns-in_err-rho-clause-rows : goal.returns-in_err-rho-clause-rows
returns-in_err-rho-clause-rows g c = λ f limit r h o is e.
    let i = c.loop-row.row-index in
    let place = (get_or c.args.chosen.now i no_row).place in
    let k = c.loop-row.invariant.0 f limit r h o is e in
    let w = chosen_at r c.args.chosen.now i no_row e c.loop-row-test.true in
    let l = row_place r i place w in
    let p = err_from_is_err_and c.from_residual.result c.from_residual.ensures.1 in
    subst (Tells (λ x. IsOpening f limit r (length r.rows) c.loop-row.minor) (map (backward_task f h) (places r.rows))) (sym (p.1 ∙ ap Err p.2))
    (rest_stops {C = Unit {0}} (λ rho. rho ≡ row_at r.fresh place) (λ x. IsOpening f limit r (length r.rows) c.loop-row.minor) (backward_task f h) (places r.rows)
    i place c.in_err-rho.field-0.0 k.1 l.0 l.1
    (c.in_err-rho.ensures.row f h r.basis r.fresh is k.0.reached.fresh (place_low f r i place k.0.reached.placed w)))

pub commit_backward-requires : goal.commit_backward-requires
commit_backward-requires g c =
    let t = c.requires.turn in
    let i = c.loop-row.row-index in
    let k = c.loop-row.invariant.0 t.0 t.1 t.2 t.3 t.4 t.5 t.6 in
    record { turn = (t.0, t.1, t.2, i, k.0, chosen_at t.2 c.args.chosen.now i no_row t.6 c.loop-row-test.true) }

pub loop-row-preserved : goal.loop-row-preserved
loop-row-preserved g c = (
  λ f limit r h o is e.
      let i = c.loop-row.row-index in
      let place = (get_or c.args.chosen.now i no_row).place in
      let k = c.loop-row.invariant.0 f limit r h o is e in
      let w = chosen_at r c.args.chosen.now i no_row e c.loop-row-test.true in
      let l = row_place r i place w in
      let a = c.in_ok-rho.ensures.row f h r.basis r.fresh is k.0.reached.fresh (place_low f r i place k.0.reached.placed w) in (
        c.commit_backward.ensures.opening f limit r i k.0 w a.1,
        rest_goes (backward_task f h) (places r.rows) i place k.1 l.0 l.1 a.0,
      ),
  ap (λ v. v.items) c.commit_backward.ensures.steps ∙ c.loop-row.invariant.1,
  (let n = c.in_ok-rho.ensures.counted in let m = c.loop-row.invariant.2 in omega (arith, n, m)),
)

pub returns-clause-rows : goal.returns-clause-rows
returns-clause-rows g c = λ f limit r h o is e.
    let i = c.loop-row.row-index in
    let k = c.loop-row.invariant.0 f limit r h o is e in
    let many = chosen_long r.rows c.args.chosen.now e in
    let past = c.loop-row-test.false in
    let low = c.loop-row.auto.row-index-end in
    let end : i ≡ length r.rows = omega (arith, many, past, low) in
    let n = places_long r.rows in
    let past_all : length (places r.rows) ≤ i = omega (arith, end, n) in (
      rest_ends (backward_task f h) (places r.rows) i k.1 past_all,
      subst (λ q. IsOpening f limit r q c.loop-row.minor) end k.0,
    )
