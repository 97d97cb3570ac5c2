use Rattle.std.proofs.Common.{◌≡◌, ℕ, List, ◌∷◌, set, Option, None, Some, Result, Ok, sym, ap, ◌∙◌}
use Rattle.pami_algebra.specs.Fraction.{Fraction}
use Rattle.pami_frac.specs.declared.list.Entry.{Entry}
use Rattle.pami_frac.specs.Answers.{then as chain}
use Rattle.pami_model.specs.declared.fault.FileKind.{FileKind}
use Rattle.pami_lp.specs.Values.{sum_of}
use Rattle.pami_lp.specs.Rules.{add_term, entry}
use Rattle.pami_lp.specs.Sums.{place_in}
use Rattle.pami_lp.proofs.Places.{add_term-new, add_term-old, placed-set}
use Rattle.pami_lp.proofs.sums.Sums.add.Goals as goal

-- a sum of a column that has one, from what the program read
old : (now items found : List Entry) (column i : ℕ) (value : Fraction) (x : Entry) (s : Result Fraction FileKind)
    → items ≡ now → found ≡ items → Some i ≡ place_in found column → x ≡ Rattle.std.proofs.Common.get_or items i x → s ≡ sum_of x.value value
    → add_term now column value ≡ chain s (λ t. Ok (set items i (entry column t)))
old now items found column i value x s v f h e g =
    ap (λ (es : List Entry). add_term es column value) (sym v)
    ∙ add_term-old items column i value x (ap (λ (es : List Entry). place_in es column) (sym f) ∙ sym h)
    ∙ ap (λ (y : Entry). chain (sum_of y.value value) (λ t. Ok (set items i (entry column t)))) (sym e)
    ∙ ap (λ (r : Result Fraction FileKind). chain r (λ t. Ok (set items i (entry column t)))) (sym g)

pub returns-in-Err-clause-added : goal.returns-in-Err-clause-added
returns-in-Err-clause-added c =
    old c.args.self.now c.self.inside.entries.items c.as_slice.result.now c.args.column c.in-Some.place c.args.value c.index.result.now c.sum_of.result c.self.view_is c.as_slice.ensures.value c.in-Some.ensures.found c.index.ensures c.sum_of.ensures
    ∙ ap (λ (r : Result Fraction FileKind). chain r (λ t. Ok (set c.self.inside.entries.items c.in-Some.place (entry c.args.column t)))) c.in-Err.is

pub invariant_of-self : goal.invariant_of-self
invariant_of-self c =
    placed-set c.self.inside.entries.items c.self.inside.places.items c.args.column c.in-Some.place c.in-Ok.total c.self.invariant
    (ap (λ (es : List Entry). place_in es c.args.column) (sym c.as_slice.ensures.value) ∙ sym c.in-Some.ensures.found)

pub returns-in-Ok-clause-added : goal.returns-in-Ok-clause-added
returns-in-Ok-clause-added c =
    old c.args.self.now c.self.inside.entries.items c.as_slice.result.now c.args.column c.in-Some.place c.args.value c.index.result.now c.sum_of.result c.self.view_is c.as_slice.ensures.value c.in-Some.ensures.found c.index.ensures c.sum_of.ensures
    ∙ ap (λ (r : Result Fraction FileKind). chain r (λ t. Ok (set c.self.inside.entries.items c.in-Some.place (entry c.args.column t)))) c.in-Ok.is

pub returns-in_ok-begin-in-None-clause-added : goal.returns-in_ok-begin-in-None-clause-added
returns-in_ok-begin-in-None-clause-added c =
    ap (λ (es : List Entry). add_term es c.args.column c.args.value) (sym c.self.view_is)
    ∙ add_term-new c.self.inside.entries.items c.args.column c.args.value (ap (λ (es : List Entry). place_in es c.args.column) (sym c.as_slice.ensures.value) ∙ sym c.in-None.ensures.found)
    ∙ ap (λ (es : List Entry). Ok es) (sym c.in_ok-begin-in-None.ensures.begun)
