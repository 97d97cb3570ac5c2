use Rattle.std.proofs.Common.{◌≡◌, ◌<◌, ◌≤◌, ◌+◌, ◌-◌, ◌++◌, ◌∷◌, [], ℕ, List, length, get_or, set, take, replicate, vec_len, sym, ap, subst, ◌∙◌, arith}
use Rattle.std.specs.Global.{Vec}
use Rattle.pami_frac.specs.declared.list.Entry.{Entry}
use Rattle.pami_lp.specs.Placed.{ArePlaced}
use Rattle.pami_lp.specs.Rules.{entry}
use Rattle.pami_lp.proofs.Places.{length-resized, placed-begun, resized}
use Rattle.pami_lp.proofs.sums.begin.Goals as goal
use Rattle.pami_lp.proofs.sums.begin.Goals.{then-index-as_slice+in_ok-resize, else-index-as_slice}

-- what is kept of the places behind those of the sums
record Grown (old places : List ℕ) (column : ℕ) : Type 0 where
  room : column < length places
  kept : (k d : ℕ) → k < length old → get_or places k d ≡ get_or old k d

grown-filled : (old slice new places : List ℕ) (column m : ℕ) → slice ≡ old → length slice ≡ m → length slice ≤ column → new ≡ take (column + 1) old ++ replicate (column + 1 - m) 0 → places ≡ new → Grown old places column
grown-filled old slice new places column m e f le h g =
    let n : length slice ≡ length old = ap length e in
    let k : length places ≡ column + 1 = ap length g ∙ length-resized old new (column + 1) m h (omega (arith, n, le)) (omega (arith, n, f)) in
    record { room = omega (arith, k); kept = λ k d lt. ap (λ (xs : List ℕ). get_or xs k d) g ∙ resized old new (column + 1) m h (omega (arith, n, le)) k d lt }

grown-same : (old slice places : List ℕ) (column : ℕ) → slice ≡ old → column < length slice → places ≡ old → Grown old places column
grown-same old slice places column e lt g =
    let n : length slice ≡ length old = ap length e in
    let k : length places ≡ length old = ap length g in
    record { room = omega (arith, n, k, lt); kept = λ k d lt. ap (λ (xs : List ℕ). get_or xs k d) g }

pub returns-clause-placed : goal.returns-clause-placed
returns-clause-placed c =
    let grown : Grown c.args.places.now.items c.if-index-as_slice.places.items c.args.column =
    elim c.if-index-as_slice.branch [
      | then-index-as_slice+in_ok-resize w ↦
          grown-filled c.args.places.now.items c.as_slice.result.now w.resize.new.self.items c.if-index-as_slice.places.items c.args.column (vec_len c.args.places.now) c.as_slice.ensures.value c.as_slice.ensures.len w.if-index-as_slice.true w.in_ok-resize.ensures.items (ap (λ (v : Vec ℕ). v.items) w.places-is)
      | else-index-as_slice w ↦ grown-same c.args.places.now.items c.as_slice.result.now c.if-index-as_slice.places.items c.args.column c.as_slice.ensures.value w.if-index-as_slice.false (ap (λ (v : Vec ℕ). v.items) w.places-is)
    ] in
    subst (λ (es : List Entry). ArePlaced es (set c.if-index-as_slice.places.items c.args.column (length c.as_slice-place.result.now))) (sym c.in_ok-push.ensures.items)
    (subst (λ (xs : List Entry). ArePlaced (c.args.entries.now.items ++ entry c.args.column c.args.value ∷ []) (set c.if-index-as_slice.places.items c.args.column (length xs))) (sym c.as_slice-place.ensures.value)
    (placed-begun c.args.entries.now.items c.args.places.now.items c.if-index-as_slice.places.items c.args.column c.args.value c.requires.placed c.requires.new grown.room grown.kept))
