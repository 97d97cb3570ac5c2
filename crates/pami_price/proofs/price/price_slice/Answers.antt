use Rattle.std.proofs.Common.{◌≡◌, List}
use Rattle.std.specs.Global.{Vec}
use Rattle.pami_frac.specs.declared.list.Entry.{Entry}
use Rattle.pami_frac.proofs.Answers.{value_so}
use Rattle.pami_theory.specs.Ratio.{row_entry}
use Rattle.pami_method.specs.Scripts.{nonbasic_in}
use Rattle.pami_price.specs.Slices.{slice_script}
use Rattle.pami_price.specs.Agreement.{nonzero_entries}
use Rattle.pami_price.proofs.Priced.{slice_value}
use Rattle.pami_price.proofs.price.price_slice.Goals as goal

pub returns-clause-entries : goal.returns-clause-entries
returns-clause-entries c = λ f b listed rows.
    value_so (λ (es : Vec Entry). es.items) (slice_script c.args.by_row.now c.args.stands.now c.args.rho.now c.args.slice) c.slice_entries.result
    (λ (es : List Entry). es ≡ nonzero_entries (row_entry f c.args.rho.now) (nonbasic_in f b c.args.slice)) c.slice_entries.ensures
    (λ es e. slice_value f b c.args.by_row.now c.args.stands.now c.args.rho.now c.args.slice es listed rows e)
