-- The sections of a file in their order, and what is wrong with a token that no file of the grammar goes on with.
use Rattle.std.specs.Prelude.{Bool, true, false, List, fold, if◌then◌else◌}
use Rattle.pami_model.specs.declared.fault.FileKind.{FileKind}
use Rattle.pami_model.specs.declared.fault.FileKind.TheVariants as kinds
use Rattle.pami_lp_text.specs.declared.kind.Class.{Class}
use Rattle.pami_lp_text.specs.declared.kind.Class.TheVariants as classes
use Rattle.pami_lp_text.specs.Classes.{Symbol}
use Rattle.pami_lp.specs.declared.kind.Section.{Section}
use Rattle.pami_lp.specs.declared.kind.Section.TheVariants as sections

-- the section behind a token
abbrev pub section_behind : Section → Class → Section
section_behind s (classes.Goal sense) = sections.Objective
section_behind s classes.Rows = sections.Rows
section_behind s classes.RowsPair = sections.Rows
section_behind s classes.Bounds = sections.Bounds
section_behind s c = s

-- the section behind tokens: that of the last section word
abbrev pub section_of : List Symbol → Section
section_of ts = fold (λ s (t : Symbol). section_behind s t.class) sections.Start ts

-- a section word that isn't next in the sequence of sections
abbrev pub is_out_of_order : Section → Class → Bool
is_out_of_order sections.Start (classes.Goal sense) = false
is_out_of_order sections.Objective classes.Rows = false
is_out_of_order sections.Objective classes.RowsPair = false
is_out_of_order sections.Rows classes.Bounds = false
is_out_of_order sections.Rows classes.End = false
is_out_of_order sections.Bounds classes.End = false
is_out_of_order s (classes.Goal sense) = true
is_out_of_order s classes.Rows = true
is_out_of_order s classes.RowsPair = true
is_out_of_order s classes.Bounds = true
is_out_of_order s classes.End = true
is_out_of_order s c = false

-- what is wrong with a token that can't be taken, by its class and its section
abbrev pub refusal : Section → Class → FileKind
refusal s classes.Bad = kinds.Byte
refusal s classes.Whole = kinds.Integer
refusal s c = if is_out_of_order s c then kinds.Order else kinds.Syntax
