use Rattle.std.proofs.Common.{◌≡◌, ◌<◌, [], length, get_or, sym, ap, ◌∙◌, subst, arith, Ok}
use Rattle.pami_script.specs.Dense.{Rising}
use Rattle.pami_factoring.proofs.Programs.{step_count}
use Rattle.pami_vec.proofs.Scripted.{get_at}
use Rattle.pami_lu.specs.Stored.{full_steps, kept_at}
use Rattle.pami_lu.proofs.Restored.{full_length}
use Rattle.pami_lu.proofs.Lent.{kept_long, kept_lent, kept_of_elimination}
use Rattle.pami_lu.proofs.lu.Lu.kept_row.Goals as goal

pub index-stored-requires : goal.index-stored-requires
index-stored-requires c =
    let ss = c.self.inside.steps.items in
    let view : full_steps [] ss ≡ c.args.self.now = c.self.view_is in
    let count : length ss ≡ length c.args.self.now = sym (full_length [] ss) ∙ ap length view in
    let low : c.args.step < length c.args.self.now = c.requires in
    let o = c.self.inside.steps.ok in
    omega arith

pub returns-clause-rising : goal.returns-clause-rising
returns-clause-rising c =
    let ss = c.self.inside.steps.items in
    let s = c.index-stored.result.now in
    let es = c.entries.result.now in
    let view : full_steps [] ss ≡ c.args.self.now = c.self.view_is in
    let count : length ss ≡ length c.args.self.now = sym (full_length [] ss) ∙ ap length view in
    let low : c.args.step < length ss = subst (λ n. c.args.step < n) (sym count) c.requires in
    let is : s ≡ get_or ss c.args.step s = c.index-stored.ensures in
    subst (λ n. Rising 0 n es) (kept_long ss c.args.step s c.self.invariant low is ∙ count) c.entries.ensures.rising

pub returns-clause-kept : goal.returns-clause-kept
returns-clause-kept c = λ d g l.
    let ss = c.self.inside.steps.items in
    let s = c.index-stored.result.now in
    let es = c.entries.result.now in
    let view : full_steps [] ss ≡ c.args.self.now = c.self.view_is in
    let count : length ss ≡ length c.args.self.now = sym (full_length [] ss) ∙ ap length view in
    let low : c.args.step < length ss = subst (λ n. c.args.step < n) (sym count) c.requires in
    let is : s ≡ get_or ss c.args.step s = c.index-stored.ensures in
    let long : length s.kept ≡ length ss = kept_long ss c.args.step s c.self.invariant low is in
    let l2 : g < length ss = subst (λ n. g < n) (sym count) l in
    sym (get_at s.kept es g c.entries.ensures (subst (λ n. g < n) (sym long) l2)) ∙ kept_lent ss c.args.step g d s c.self.invariant low is l2 ∙ ap (λ ks. kept_at ks c.args.step d g) view

pub returns-clause-elimination : goal.returns-clause-elimination
returns-clause-elimination c = λ rows steps e g l q h f.
    let ss = c.self.inside.steps.items in
    let s = c.index-stored.result.now in
    let es = c.entries.result.now in
    let view : full_steps [] ss ≡ c.args.self.now = c.self.view_is in
    let count : length ss ≡ length c.args.self.now = sym (full_length [] ss) ∙ ap length view in
    let low : c.args.step < length ss = subst (λ n. c.args.step < n) (sym count) c.requires in
    let is : s ≡ get_or ss c.args.step s = c.index-stored.ensures in
    let n : length ss ≡ length rows = count ∙ step_count rows c.args.self.now q h in
    let long : length s.kept ≡ length ss = kept_long ss c.args.step s c.self.invariant low is in
    sym (get_at s.kept es g c.entries.ensures (subst (λ m. g < m) (sym (long ∙ n)) l))
    ∙ kept_of_elimination rows ss steps c.args.step g e s c.self.invariant n low is q (h ∙ ap Ok (sym view)) f l
