use Rattle.std.proofs.Common.{◌≡◌, ℕ, ◌+◌, ◌<◌, List, [], ◌∷◌, length, set, drop, get_or, replicate, sym, ap, ◌∙◌, subst, arith, Ok}
use Rattle.std.proofs.lemmas.List.{length-set, drop_more, get_or_default}
use lib.IntN.{pos}
use Rattle.pami_algebra.specs.Operations.{of_int}
use Rattle.pami_frac.specs.declared.list.Entry.{Entry}
use Rattle.pami_linear.specs.Lists.{get}
use Rattle.pami_script.specs.Dense.{dense, Rising}
use Rattle.pami_factoring.specs.Factor.{row_at}
use Rattle.pami_lu.specs.Members.{AreOthers}
use Rattle.pami_lu.specs.Plain.{plain_row, plain_rows, noted}
use Rattle.pami_lu.proofs.Turns.{InTurn, noted_keeps, change_length}
use Rattle.pami_lu.proofs.Below.{rows_step, row_long, row_unchanged, dense_snoc, dense_none, turn_next, turn_head, turn_rising, entries_low}
use Rattle.pami_lu.proofs.reduce.reduce_rows.Goals as goal

pub loop-h-init : goal.loop-h-init
loop-h-init c =
    let m = length c.args.kept.now in
    let items = c.new-multipliers.ensures.items in (
      ap (plain_rows c.args.below.now c.args.place (get c.args.kept.now c.args.place) (set c.args.kept.now c.args.place (of_int (pos 0))) c.args.rows.now.items) (sym (ap (dense m) items ∙ dense_none m)),
      c.requires.square,
      c.requires.sets,
      record { low = 0; rising = subst (λ (es : List Entry). Rising 0 0 es) (sym items) (omega arith); ascends = c.requires.ascends; same = c.requires.same },
      c.requires.others,
    )

pub loop-h-preserved : goal.loop-h-preserved
loop-h-preserved c =
    let m = length c.args.kept.now in
    let p = c.args.place in
    let below = c.args.below.now in
    let i = c.loop-h.h-index in
    let h = get_or below i 0 in
    let rows = c.loop-h.rows.items in
    let es = c.loop-h.multipliers.items in
    let row = c.in_ok-next.next.row in
    let l = c.in_ok-next.next.multiplier in
    let pv = get c.args.kept.now p in
    let rest = set c.args.kept.now p (of_int (pos 0)) in
    let left = drop_more below i 0 c.loop-h-test.true in
    let t : InTurn m rows es (h ∷ drop (i + 1) below) = subst (λ hs. InTurn m rows es hs) left c.loop-h.invariant.3 in
    let hm : h < m = t.ascends.1 in
    let lh : h < length rows = subst (λ n. h < n) (sym c.loop-h.invariant.1) hm in
    let idx = c.index.ensures ∙ get_or_default rows h c.index.result.now [] lh in
    let e : plain_row p c.at-pivot.result c.in_ok-rest.rest (row_at rows h) ≡ Ok (row, l) = ap (plain_row p c.at-pivot.result c.in_ok-rest.rest) (sym idx) ∙ c.in_ok-next.ensures in
    let f : plain_row p pv rest (row_at rows h) ≡ Ok (row, l) = ap (λ x. plain_row p x rest (row_at rows h)) (sym c.at-pivot.ensures) ∙ ap (λ x. plain_row p c.at-pivot.result x (row_at rows h)) (sym c.in_ok-rest.ensures) ∙ e in
    let x : Entry = record { place = h; value = l } in
    let start = plain_rows below p pv rest c.args.rows.now.items (replicate m (of_int (pos 0))) in (
      rows_step start below i h p pv rest rows (dense m es) row l c.loop-h.invariant.0 left f
          ∙ ap (plain_rows (drop (i + 1) below) p pv rest (set rows h row)) (sym (ap (dense m) c.in_ok-push.ensures.items ∙ dense_snoc m t.low es x t.rising t.ascends.0 hm)),
      length-set rows h row ∙ c.loop-h.invariant.1,
      ap length c.in_ok-note.ensures ∙ change_length c.entries.result.now (noted h row) c.loop-h.members.items ∙ c.loop-h.invariant.2,
      subst (λ (ys : List Entry). InTurn m (set rows h row) ys (drop (i + 1) below)) (sym c.in_ok-push.ensures.items) (turn_next m rows es h (drop (i + 1) below) row l t),
      subst (λ (ms : List (List ℕ)). AreOthers p (set rows h row) ms) (sym c.in_ok-note.ensures)
          (noted_keeps p h m rows c.loop-h.members.items c.entries.result.now c.in_ok-rest.rest row lh c.loop-h.invariant.2 (ap length c.in_ok-rest.ensures ∙ length-set c.args.kept.now p (of_int (pos 0))) c.entries.ensures
          (row_unchanged m p c.at-pivot.result c.in_ok-rest.rest (row_at rows h) row l (turn_head m rows es h (drop (i + 1) below) t) e) c.loop-h.invariant.4),
    )

pub reduce_row-requires-clause-same : goal.reduce_row-requires-clause-same
reduce_row-requires-clause-same c =
    let m = length c.args.kept.now in
    let below = c.args.below.now in
    let i = c.loop-h.h-index in
    let h = get_or below i 0 in
    let rows = c.loop-h.rows.items in
    let es = c.loop-h.multipliers.items in
    let t : InTurn m rows es (h ∷ drop (i + 1) below) = subst (λ hs. InTurn m rows es hs) (drop_more below i 0 c.loop-h-test.true) c.loop-h.invariant.3 in
    let hm : h < m = t.ascends.1 in
    let lh : h < length rows = subst (λ n. h < n) (sym c.loop-h.invariant.1) hm in
    ap length (c.index.ensures ∙ get_or_default rows h c.index.result.now [] lh) ∙ turn_head m rows es h (drop (i + 1) below) t
    ∙ sym (ap length c.in_ok-rest.ensures ∙ length-set c.args.kept.now c.args.place (of_int (pos 0)))

pub reduce_row-requires-clause-low : goal.reduce_row-requires-clause-low
reduce_row-requires-clause-low c =
    let m = length c.args.kept.now in
    let below = c.args.below.now in
    let i = c.loop-h.h-index in
    let h = get_or below i 0 in
    let rows = c.loop-h.rows.items in
    let es = c.loop-h.multipliers.items in
    let t : InTurn m rows es (h ∷ drop (i + 1) below) = subst (λ hs. InTurn m rows es hs) (drop_more below i 0 c.loop-h-test.true) c.loop-h.invariant.3 in
    let hm : h < m = t.ascends.1 in
    let lh : h < length rows = subst (λ n. h < n) (sym c.loop-h.invariant.1) hm in
    subst (λ n. c.args.place < n) (sym (ap length (c.index.ensures ∙ get_or_default rows h c.index.result.now [] lh) ∙ turn_head m rows es h (drop (i + 1) below) t)) c.requires.low

pub note-requires-clause-known : goal.note-requires-clause-known
note-requires-clause-known c =
    let n : length c.in_ok-rest.rest ≡ length c.loop-h.members.items = ap length c.in_ok-rest.ensures ∙ length-set c.args.kept.now c.args.place (of_int (pos 0)) ∙ sym c.loop-h.invariant.2 in
    entries_low c.entries.result.now 0 (length c.loop-h.members.items) (subst (λ k. Rising 0 k c.entries.result.now) n c.entries.ensures.rising)

pub note-requires-clause-rising : goal.note-requires-clause-rising
note-requires-clause-rising c =
    let m = length c.args.kept.now in
    let below = c.args.below.now in
    let i = c.loop-h.h-index in
    let h = get_or below i 0 in
    let rows = c.loop-h.rows.items in
    let es = c.loop-h.multipliers.items in
    let t : InTurn m rows es (h ∷ drop (i + 1) below) = subst (λ hs. InTurn m rows es hs) (drop_more below i 0 c.loop-h-test.true) c.loop-h.invariant.3 in
    let hm : h < m = t.ascends.1 in
    let lh : h < length rows = subst (λ n. h < n) (sym c.loop-h.invariant.1) hm in
    let long : length c.in_ok-next.next.row ≡ m =
    row_long c.args.place c.at-pivot.result c.in_ok-rest.rest c.index.result.now c.in_ok-next.next.row c.in_ok-next.next.multiplier c.in_ok-next.ensures
    ∙ ap length (c.index.ensures ∙ get_or_default rows h c.index.result.now [] lh) ∙ turn_head m rows es h (drop (i + 1) below) t in
    let n : length c.in_ok-rest.rest ≡ length c.in_ok-next.next.row = ap length c.in_ok-rest.ensures ∙ length-set c.args.kept.now c.args.place (of_int (pos 0)) ∙ sym long in
    subst (λ k. Rising 0 k c.entries.result.now) n c.entries.ensures.rising

pub from_entries-requires : goal.from_entries-requires
from_entries-requires c =
    subst (λ n. Rising 0 n c.deref.result.now) (sym c.len.ensures)
    (subst (λ (es : List Entry). Rising 0 (length c.args.kept.now) es) (sym c.deref.ensures.value) (turn_rising (length c.args.kept.now) c.loop-h.rows.items c.loop-h.multipliers.items (drop c.loop-h.h-index c.args.below.now) c.loop-h.invariant.3))
