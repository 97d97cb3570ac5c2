use Rattle.std.proofs.Common.{◌≡◌, eqb, false, true, None, nat_lt, is_some, length, sym, ap, ◌∙◌, arith}
use Rattle.std.proofs.lemmas.List.{length-map}
use borrow.Author.Tests.{lt-ltb, le-ltb}
use Rattle.std.specs.Map.{lookup}
use Rattle.std.specs.Cmp.Lexicographic.{pointwise}
use Rattle.pami_model.specs.Rules.{name_limit}
use Rattle.pami_model.specs.Draft.{place_of}
use Rattle.pami_model.specs.Build.{limit_on, named, names_of}
use Rattle.pami_model.proofs.Tables.{place_of-names, named-insert, name_fault-there, name_fault-full, name_fault-none}
use Rattle.pami_model.proofs.builder.add_name.Goals as goal

pub returns-in-Some-clause-judged : goal.returns-in-Some-clause-judged
returns-in-Some-clause-judged g c =
    let short : nat_lt name_limit (length c.args.name.now) ≡ false = le-ltb _ _ (omega arith) in
    rw c.duplicate_of.ensures (name_fault-there c.args.side _ _ c.in-Some.earlier short (place_of-names c.args.name.now c.args.table.now.entries ∙ sym c.in-Some.ensures.index))

pub returns-then-place-limit_of-clause-judged : goal.returns-then-place-limit_of-clause-judged
returns-then-place-limit_of-clause-judged g c =
    let short : nat_lt name_limit (length c.args.name.now) ≡ false = le-ltb _ _ (omega arith) in
    let none : place_of c.args.name.now (names_of c.args.table.now.entries) ≡ None = place_of-names c.args.name.now c.args.table.now.entries ∙ sym c.in_default.ensures.index in
    let full : nat_lt (length (names_of c.args.table.now.entries)) (limit_on c.args.side) ≡ false = le-ltb _ _ (omega (arith, c.if-place-limit_of.true, c.limit_of.ensures, c.len-place.ensures.len, length-map c.args.table.now.entries (λ e. e.0.items))) in
    rw c.too_many_of.ensures (name_fault-full c.args.side _ _ short none full)

pub returns-clause-judged : goal.returns-clause-judged
returns-clause-judged g c =
    let short : nat_lt name_limit (length c.args.name.now) ≡ false = le-ltb _ _ (omega arith) in
    let none : place_of c.args.name.now (names_of c.args.table.now.entries) ≡ None = place_of-names c.args.name.now c.args.table.now.entries ∙ sym c.in_default.ensures.index in
    let room : nat_lt (length (names_of c.args.table.now.entries)) (limit_on c.args.side) ≡ true = lt-ltb _ _ (omega (arith, c.if-place-limit_of.false, c.limit_of.ensures, c.len-place.ensures.len, length-map c.args.table.now.entries (λ e. e.0.items))) in
    name_fault-none c.args.side _ _ short none room

pub returns-clause-added : goal.returns-clause-added
returns-clause-added g c =
    let new : is_some (lookup (λ y. pointwise eqb c.in_ok-key.key.items y.items) c.args.table.now.entries) ≡ false = rw c.in_ok-key.ensures.items (sym c.in_default.ensures.found) in
    let e = named-insert c.in_ok-key.key c.args.value c.args.table.now.entries new in
    ap named c.in_ok-insert.ensures.entries ∙ rw (← c.in_ok-key.ensures.items) e
