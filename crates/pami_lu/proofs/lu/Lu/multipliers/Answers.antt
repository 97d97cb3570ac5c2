use Rattle.std.proofs.Common.{◌≡◌, ◌<◌, [], length, get_or, sym, ap, ◌∙◌, subst, arith, Ok}
use Rattle.pami_factoring.proofs.Programs.{step_count}
use Rattle.pami_vec.specs.Entries.{AreEntriesOf}
use Rattle.pami_vec.proofs.Scripted.{get_at}
use Rattle.pami_lu.specs.Stored.{full_steps}
use Rattle.pami_lu.proofs.Restored.{full_length}
use Rattle.pami_lu.proofs.Lent.{multipliers_long, multipliers_stored, multipliers_of_elimination}
use Rattle.pami_lu.proofs.lu.Lu.multipliers.Goals as goal

pub index-stored-requires : goal.index-stored-requires
index-stored-requires c =
    let ss = c.self.inside.steps.items in
    let view : full_steps [] ss ≡ c.args.self.now = c.self.view_is in
    let count : length ss ≡ length c.args.self.now = sym (full_length [] ss) ∙ ap length view in
    let low : c.args.step < length c.args.self.now = c.requires in
    let o = c.self.inside.steps.ok in
    omega arith

pub returns-clause-entries : goal.returns-clause-entries
returns-clause-entries c = λ d.
    let ss = c.self.inside.steps.items in
    let s = c.index-stored.result.now in
    let es = c.entries.result.now in
    let view : full_steps [] ss ≡ c.args.self.now = c.self.view_is in
    let count : length ss ≡ length c.args.self.now = sym (full_length [] ss) ∙ ap length view in
    let low : c.args.step < length ss = subst (λ n. c.args.step < n) (sym count) c.requires in
    let is : s ≡ get_or ss c.args.step s = c.index-stored.ensures in
    subst (λ ls. AreEntriesOf ls es) (multipliers_stored c.args.step [] ss d s low is ∙ ap (λ ks. (get_or ks c.args.step d).multipliers) view) c.entries.ensures

pub returns-clause-elimination : goal.returns-clause-elimination
returns-clause-elimination c = λ rows steps e g l q h f.
    let ss = c.self.inside.steps.items in
    let s = c.index-stored.result.now in
    let es = c.entries.result.now in
    let view : full_steps [] ss ≡ c.args.self.now = c.self.view_is in
    let count : length ss ≡ length c.args.self.now = sym (full_length [] ss) ∙ ap length view in
    let low : c.args.step < length ss = subst (λ n. c.args.step < n) (sym count) c.requires in
    let is : s ≡ get_or ss c.args.step s = c.index-stored.ensures in
    let n : length ss ≡ length rows = count ∙ step_count rows c.args.self.now q h in
    let long : length s.multipliers ≡ length ss = multipliers_long ss c.args.step s c.self.invariant low is in
    sym (get_at s.multipliers es g c.entries.ensures (subst (λ m. g < m) (sym (long ∙ n)) l))
    ∙ multipliers_of_elimination rows ss steps c.args.step g e s c.self.invariant n low is q (h ∙ ap Ok (sym view)) f l
