-- The form of the theory that a program's form stands for.
use Rattle.pami_theory.specs.Form as theory
use Rattle.pami_state.specs.Columns.{form_by}
use Rattle.pami_form.specs.declared.form.Form.{Form}

abbrev pub form_of : Form → theory.Form
form_of form = form_by form.columns form.bounds form.costs
