use Rattle.std.proofs.Common.{◌≡◌, ◌&&◌, Bool, not, sym, ◌∙◌, true, false, refl, codes}
use Rattle.pami_lp_text.specs.Classes.{is_word}
use Rattle.pami_lp_text.proofs.Classing.{class-number, class-signs, class-head, class-plain}
use Rattle.pami_lp_text.proofs.class.class_of.Goals as goal
use Rattle.pami_lp_text.proofs.class.class_of.Goals.{else-first-via-then-first+else-not-labelled, else-first-via-else-first}

pub returns-then-is_number : goal.returns-then-is_number
returns-then-is_number c = class-number c.args.text.now c.args.first c.args.after.now (sym c.is_number.ensures ∙ c.if-is_number.true)

pub returns-then-not-is_name : goal.returns-then-not-is_name
returns-then-not-is_name c =
    c.mark_class.ensures ∙ class-signs c.args.text.now c.args.first c.args.after.now (sym c.is_number.ensures ∙ c.if-is_number.false)
    (sym c.is_name.ensures ∙ c.if-not-is_name.true)

head : (first labelled word : Bool) → first ≡ true → labelled ≡ false → labelled ≡ word → (first && not word) ≡ true
head first labelled word f l e = rw (f, sym e, l) refl

pub returns-then-not-labelled : goal.returns-then-not-labelled
returns-then-not-labelled c =
    c.head_class.ensures ∙ class-head c.args.text.now c.args.first c.args.after.now (sym c.is_number.ensures ∙ c.if-is_number.false)
    (sym c.is_name.ensures ∙ c.if-not-is_name.false)
    (head c.args.first c.is_word-labelled.result (is_word c.args.after.now (codes ":")) c.if-first.true c.if-not-labelled.true c.is_word-labelled.ensures)

first_no : (first word : Bool) → first ≡ false → (first && not word) ≡ false
first_no first word f = rw f refl

labelled_yes : (first labelled word : Bool) → first ≡ true → labelled ≡ true → labelled ≡ word → (first && not word) ≡ false
labelled_yes first labelled word f l e = rw (f, sym e, l) refl

pub returns : goal.returns
returns c =
    c.plain_class.ensures ∙ class-plain c.args.text.now c.args.first c.args.after.now (sym c.is_number.ensures ∙ c.if-is_number.false)
    (sym c.is_name.ensures ∙ c.if-not-is_name.false)
    (elim c.else-first.branch [
      | else-first-via-then-first+else-not-labelled w ↦ labelled_yes c.args.first c.is_word-labelled.result (is_word c.args.after.now (codes ":"))
          w.if-first.true w.if-not-labelled.false c.is_word-labelled.ensures
      | else-first-via-else-first w ↦ first_no c.args.first (is_word c.args.after.now (codes ":")) w.if-first.false
    ])
