-- What a model says, without the facts that its type keeps; and the contents that a builder finishes.
use Rattle.std.specs.Prelude.{List, map}
use Rattle.pami_algebra.specs.Fraction.{Fraction}
use Rattle.pami_model.specs.declared.list.Row.{Row}
use Rattle.pami_model.specs.declared.list.Column.{Column}
use Rattle.pami_model.specs.declared.model.Sense.{Sense}
use Rattle.pami_model.specs.declared.model.Model.{Model}
use Rattle.pami_model.specs.Draft.{Draft, finished}

pub record Contents : Type 0 where
  pub sense : Sense
  pub constant : Fraction
  pub rows : List Row
  pub columns : List Column

abbrev pub contents : Model → Contents
contents m = record { sense = m.sense; constant = m.constant; rows = m.rows; columns = m.columns }

-- a builder's rows and columns, with each column's entries by row
abbrev pub contents_of : Draft → Contents
contents_of d = record { sense = d.sense; constant = d.constant; rows = d.rows; columns = map finished d.columns }
