use Rattle.std.proofs.Common.{length, sum, ap, ◌∙◌, arith}
use Rattle.pami_model.specs.declared.model.Sense.TheVariants.{Min}
use Rattle.pami_trial.specs.Transport.{demand, rows_from, columns_from}
use Rattle.pami_trial.proofs.Below.{below_length}
use Rattle.pami_trial.proofs.Sequences.{demands_most}
use Rattle.pami_trial.proofs.Whole.{made_rows, made_columns, made_kept}
use Rattle.pami_trial.proofs.trial.trial_model.Goals as goal

pub total_of-requires : goal.total_of-requires
total_of-requires c =
    let e = ap sum (c.as_slice.ensures.value ∙ c.in_ok-demands.ensures.demands) in
    omega (arith, e, demands_most c.new-draws.result.state c.args.sinks, c.requires.sinks.most)

pub rows_of-requires-clause-sinks : goal.rows_of-requires-clause-sinks
rows_of-requires-clause-sinks c =
    let e = ap length (c.as_slice-2.ensures.value ∙ c.in_ok-demands.ensures.demands) in
    omega (arith, e, below_length (demand c.new-draws.result.state) c.args.sinks, c.requires.sinks.most)

pub invariant_of-result : goal.invariant_of-result
invariant_of-result c =
    let kept =
    made_kept c.new-draws.result.state c.args.sources c.args.sinks c.total_of.result c.div_ceil-supply.result c.drawn_demands.new.draws.state c.as_slice.result.now
    c.as_slice-2.result.now c.from_vec.result c.from_vec-2.result (c.as_slice.ensures.value ∙ c.in_ok-demands.ensures.demands)
    (c.as_slice-2.ensures.value ∙ c.in_ok-demands.ensures.demands) c.total_of.ensures c.div_ceil-supply.ensures c.in_ok-demands.ensures.state
    (c.from_vec.ensures ∙ c.in_ok-rows.ensures) (c.from_vec-2.ensures ∙ c.in_ok-columns.ensures) c.requires.sources c.requires.sinks in
    record { rows_kept = kept.0; columns_kept = kept.1 }

pub returns : goal.returns
returns c =
    let rows =
    made_rows c.new-draws.result.state c.args.sources c.args.sinks c.total_of.result c.div_ceil-supply.result c.drawn_demands.new.draws.state c.as_slice.result.now
    c.as_slice-2.result.now c.from_vec.result c.from_vec-2.result (c.as_slice.ensures.value ∙ c.in_ok-demands.ensures.demands)
    (c.as_slice-2.ensures.value ∙ c.in_ok-demands.ensures.demands) c.total_of.ensures c.div_ceil-supply.ensures c.in_ok-demands.ensures.state
    (c.from_vec.ensures ∙ c.in_ok-rows.ensures) (c.from_vec-2.ensures ∙ c.in_ok-columns.ensures) in
    let columns =
    made_columns c.new-draws.result.state c.args.sources c.args.sinks c.total_of.result c.div_ceil-supply.result c.drawn_demands.new.draws.state c.as_slice.result.now
    c.as_slice-2.result.now c.from_vec.result c.from_vec-2.result (c.as_slice.ensures.value ∙ c.in_ok-demands.ensures.demands)
    (c.as_slice-2.ensures.value ∙ c.in_ok-demands.ensures.demands) c.total_of.ensures c.div_ceil-supply.ensures c.in_ok-demands.ensures.state
    (c.from_vec.ensures ∙ c.in_ok-rows.ensures) (c.from_vec-2.ensures ∙ c.in_ok-columns.ensures) in
    let seeded = c.new-draws.ensures in
    λ i. record {
      sense = Min;
      constant = c.whole.ensures i;
      rows = (rows ∙ ap (λ s. rows_from s c.args.sources c.args.sinks) seeded) i;
      columns = (columns ∙ ap (λ s. columns_from s c.args.sources c.args.sinks) seeded) i;
    }
