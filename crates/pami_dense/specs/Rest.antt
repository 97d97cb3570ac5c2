-- What is left of a matrix, and of its script.
use Rattle.std.specs.Prelude.{◌≡◌, ℕ, ◌<◌, List, length, true, Result}
use Rattle.pami_factoring.specs.declared.kept.Kept.{Kept}
use Rattle.pami_factoring.specs.declared.kept.LuFault.{LuFault}
use Rattle.pami_factoring.specs.Factor.{flag, row_at, elimination_from}
use Rattle.pami_dense.specs.declared.rest.Rest.{Rest}

-- a flag for each row and for each place, and in each active row as many places as there are rows
pub record IsWhole (r : Rest) : Type 0 where
  pub down : length r.active.items ≡ length r.rows.items
  pub across : length r.places.items ≡ length r.rows.items
  pub same : (h : ℕ) → h < length r.rows.items → flag r.active.items h ≡ true → length (row_at r.rows.items h) ≡ length r.rows.items

-- n steps more of the script
abbrev pub left_script : ℕ → Rest → Result (List Kept) LuFault
left_script n r = elimination_from n r.active.items r.places.items r.rows.items
