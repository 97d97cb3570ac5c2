use Rattle.std.proofs.Common.{◌≡◌, List, length, sym, ◌∙◌, subst}
use Rattle.pami_frac.specs.declared.list.Entry.{Entry}
use Rattle.pami_script.specs.Dense.{Rising}
use Rattle.pami_factoring.proofs.Solves.{backward_script_length}
use Rattle.pami_factor.specs.Units.{unit_list}
use Rattle.pami_factor.proofs.Answered.{unit_length}
use Rattle.pami_range.proofs.spans.row_span.Goals as goal

pub price_all-requires-clause-rows : goal.price_all-requires-clause-rows
price_all-requires-clause-rows g c = λ v l.
    let ks = c.args.factor.now.steps in
    let n : length c.in-Ok.rho ≡ length ks = backward_script_length ks c.args.factor.now.pivots (unit_list (length ks) c.args.place) c.in-Ok.rho c.in-Ok.ensures.script ∙ unit_length (length ks) c.args.place in
    c.requires.tall v l ∙ sym n

pub entries_span-requires-clause-entries : goal.entries_span-requires-clause-entries
entries_span-requires-clause-entries g c =
    let ks = c.args.factor.now.steps in
    let n : length c.in-Ok.rho ≡ length ks = backward_script_length ks c.args.factor.now.pivots (unit_list (length ks) c.args.place) c.in-Ok.rho c.in-Ok.ensures.script ∙ unit_length (length ks) c.args.place in
    subst (λ (es : List Entry). Rising 0 (length c.args.bounds.now) es) (sym c.as_slice.ensures.value)
    (c.requires.rising c.in-Ok.rho c.in-Ok-price_all.alpha.items n c.in-Ok-price_all.ensures.script)
