use Rattle.std.proofs.Common.{◌≢◌, sym, ap, ◌∙◌, Some, None, cond}
use Rattle.std.proofs.lemmas.Bool.{ne_eqb}
use Rattle.pami_mps.specs.Gather.{Objective, Dropped}
use Rattle.pami_mps.specs.Reader.{seen_by_reader}
use Rattle.pami_mps.proofs.Keys.{place_of-names}
use Rattle.pami_mps.proofs.RowLines.{role_else}
use Rattle.pami_mps.proofs.reader.Reader.role_of.Goals as goal

pub returns-in-Some-eq0 : goal.returns-in-Some-eq0
returns-in-Some-eq0 c =
    role_else (seen_by_reader c.args.self.now) c.args.name.now (Some 0) c.in_default.ensures
    (ap Some (sym c.in-Some-eq0.field-0-test) ∙ c.in-Some-eq0.ensures.index ∙ sym (place_of-names c.args.name.now c.args.self.now.free.keys))

pub returns-in-Some-get_index_of : goal.returns-in-Some-get_index_of
returns-in-Some-get_index_of c =
    let ne : c.in-Some-get_index_of.field-0 ≢ 0 = c.in-Some-get_index_of.field-0-test.1 in
    ap (λ b. Some (cond b Objective Dropped)) (sym (ne_eqb c.in-Some-get_index_of.field-0 0 ne))
    ∙ role_else (seen_by_reader c.args.self.now) c.args.name.now (Some c.in-Some-get_index_of.field-0) c.in_default.ensures
    (c.in-Some-get_index_of.ensures.index ∙ sym (place_of-names c.args.name.now c.args.self.now.free.keys))

pub returns-in-None : goal.returns-in-None
returns-in-None c =
    role_else (seen_by_reader c.args.self.now) c.args.name.now None c.in_default.ensures
    (c.in-None.ensures.index ∙ sym (place_of-names c.args.name.now c.args.self.now.free.keys))
