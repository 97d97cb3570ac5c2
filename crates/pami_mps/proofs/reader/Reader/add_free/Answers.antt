use Rattle.std.proofs.Common.{◌≡◌, ◌++◌, ◌∷◌, [], refl, true, false, sym, ap, ◌∙◌, is_some, List, ℕ}
use Rattle.std.specs.List.{list_any}
use Rattle.std.specs.Str.{bytes_eq}
use Rattle.pami_model.specs.Rules.{names_of_rows}
use Rattle.pami_mps.specs.Seen.{Seen}
use Rattle.pami_mps.specs.Reader.{seen_by_reader}
use Rattle.pami_mps.proofs.Keys.{list_any-names, insert_key-new, names_in}
use Rattle.pami_mps.proofs.Places.{any_is_place}
use Rattle.pami_mps.proofs.RowLines.{free_judged}
use Rattle.pami_mps.proofs.reader.Reader.add_free.Goals as goal

pub returns-then-contains-clause-judged : goal.returns-then-contains-clause-judged
returns-then-contains-clause-judged c =
    free_judged (seen_by_reader c.args.self.now) c.args.name.now c.if-name-gt-NAME_LIMIT.false true _
    (list_any-names c.args.name.now c.args.self.now.free.keys ∙ sym c.contains.ensures ∙ c.if-contains.true) refl

pub returns-then-is_some-clause-judged : goal.returns-then-is_some-clause-judged
returns-then-is_some-clause-judged c =
    free_judged (seen_by_reader c.args.self.now) c.args.name.now c.if-name-gt-NAME_LIMIT.false false true
    (list_any-names c.args.name.now c.args.self.now.free.keys ∙ sym c.contains.ensures ∙ c.if-contains.false)
    (any_is_place c.args.name.now (names_of_rows c.args.self.now.builder.rows) ∙ ap is_some (sym c.find_row.ensures) ∙ sym c.is_some.ensures
    ∙ c.if-is_some.true)

pub returns-clause-judged : goal.returns-clause-judged
returns-clause-judged c =
    free_judged (seen_by_reader c.args.self.now) c.args.name.now c.if-name-gt-NAME_LIMIT.false false false
    (list_any-names c.args.name.now c.args.self.now.free.keys ∙ sym c.contains.ensures ∙ c.if-contains.false)
    (any_is_place c.args.name.now (names_of_rows c.args.self.now.builder.rows) ∙ ap is_some (sym c.find_row.ensures) ∙ sym c.is_some.ensures
    ∙ c.if-is_some.false)

pub returns-clause-grown : goal.returns-clause-grown
returns-clause-grown c =
    let f : c.in_ok-from_slice.field-0.items ≡ c.args.name.now = c.in_ok-from_slice.ensures.items in
    let absent : list_any (bytes_eq c.in_ok-from_slice.field-0.items) (names_in c.args.self.now.free.keys) ≡ false =
    rw f (list_any-names c.args.name.now c.args.self.now.free.keys ∙ sym c.contains.ensures ∙ c.if-contains.false) in
    let n : names_in c.insert.new.self.keys ≡ names_in c.args.self.now.free.keys ++ c.args.name.now ∷ [] =
    rw c.in_ok-insert.ensures.keys (insert_key-new c.args.self.now.free.keys c.in_ok-from_slice.field-0 absent
    ∙ ap (λ (name : List ℕ). names_in c.args.self.now.free.keys ++ name ∷ []) f) in
    ap (λ (names : List (List ℕ)). let s : Seen = record (seen_by_reader c.args.self.now) { free = names } in s) n
