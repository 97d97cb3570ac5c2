-- A walk that ends optimal or at the limit ends in the state behind its last kept major.
use Rattle.std.proofs.Common.{◌≡◌, ◌+◌, ℕ, suc, List, [], ◌∷◌, Option, None, Some, sym, ap, ◌∙◌, subst}
use Rattle.pami_theory.specs.Form as theory
use Rattle.pami_method.specs.declared.words.Mode.{Mode}
use Rattle.pami_method.specs.declared.words.Mode.TheVariants.{Full, Single}
use Rattle.pami_method.specs.declared.words.Options.{Options}
use Rattle.pami_method.specs.declared.words.Place.{Place}
use Rattle.pami_method.specs.Batch.{Turn, AtLimit, NoRow, Stuck, Pivots, turn}
use Rattle.pami_method.specs.Factor.{History}
use Rattle.pami_method.specs.Walk as method
use Rattle.pami_state.specs.declared.state.State.{State}
use Rattle.pami_log.specs.declared.event.Event.{Event}
use Rattle.pami_major.specs.declared.walk.WalkEnd.TheVariants as ends
use Rattle.pami_major.specs.EndsMajor.{walk_state}
use Rattle.pami_major.specs.Walks.{IsTold, IsWalked, state_by, last_state}

-- an end that has a state has this one
abbrev EndsIn : method.WalkEnd → method.State → Type 0
EndsIn (method.Optimal st) last = last ≡ st
EndsIn (method.Limit st) last = last ≡ st
EndsIn (method.NoEntering place side row) last = Unit {0}
EndsIn (method.Overflow refused) last = Unit {0}

-- where a major ends the walk, the end has no state
abbrev EndsStateless : method.After → Type 0
EndsStateless (method.Ends end) = (last : method.State) → EndsIn end last
EndsStateless (method.GoesOn mode next) = Unit {0}

refused_stateless : (mode : Mode) (st : method.State) (refused : Place) → EndsStateless (method.refused_after mode st refused)
refused_stateless Full st refused = tt
refused_stateless Single st refused = λ last. tt

turn_stateless : (o : Options) (st : method.State) (g : method.Major) (t : Turn) → EndsStateless (method.turn_after o st g t)
turn_stateless o st g AtLimit = tt
turn_stateless o st g (NoRow dropped) = tt
turn_stateless o st g (Stuck dropped row) = λ last. tt
turn_stateless o st g (Pivots dropped row step) = tt

after_stateless : (f : theory.Form) (o : Options) (st : method.State) (g : method.Major) (x : Option Place) → EndsStateless (method.after_by f o st g x)
after_stateless f o st g (Some refused) = refused_stateless g.mode st refused
after_stateless f o st g None = turn_stateless o st g (turn f o.limit g.last)

goes_after : (gs : List method.Major) (end : method.WalkEnd) (st : method.State) (a : method.After) (P : Mode → method.State → Type 0) (later : method.State → method.State)
    → EndsStateless a → ((mode : Mode) (next : method.State) → P mode next → EndsIn end (later next)) → method.GoesAfter gs end a P → EndsIn end (state_by a st later)
goes_after gs end st (method.Ends found) P later free on w = subst (λ (x : method.WalkEnd). EndsIn x st) (sym w.1) (free st)
goes_after gs end st (method.GoesOn mode next) P later free on w = on mode next w

at_once : (f : theory.Form) (o : Options) (st : method.State) (end : method.WalkEnd) → method.EndsAt f o st end → EndsIn end st
at_once f o st (method.Optimal last) w = sym w.0
at_once f o st (method.Limit last) w = sym w.0
at_once f o st (method.NoEntering place side row) w = tt
at_once f o st (method.Overflow refused) w = tt

walk_ends : (f : theory.Form) (o : Options) (number : ℕ) (mode : Mode) (st : method.State) (gs : List method.Major) (end : method.WalkEnd)
    → method.IsWalk f o number mode st gs end → EndsIn end (last_state f o st gs)
walk_ends f o number mode st [] end w = at_once f o st end w
walk_ends f o number mode st (g ∷ gs) end w =
    goes_after gs end st (method.after f o st g) (λ mode next. method.IsWalk f o (suc number) mode next gs end) (λ next. last_state f o next gs)
    (after_stateless f o st g (method.refused_in f o st g)) (λ mode next. walk_ends f o (suc number) mode next gs end) w.1

optimal_by : (last : State) (reached now : method.State) (end : method.WalkEnd) → IsTold ends.Optimal last end → EndsIn end reached → reached ≡ now → end ≡ method.Optimal now
optimal_by last reached now (method.Optimal st) told h e = ap method.Optimal (sym h ∙ e)
optimal_by last reached now (method.Limit st) told h e = absurd told
optimal_by last reached now (method.NoEntering place side row) told h e = absurd told
optimal_by last reached now (method.Overflow refused) told h e = absurd told

limit_by : (last : State) (reached now : method.State) (end : method.WalkEnd) → IsTold ends.Limit last end → EndsIn end reached → reached ≡ now → end ≡ method.Limit now
limit_by last reached now (method.Limit st) told h e = ap method.Limit (sym h ∙ e)
limit_by last reached now (method.Optimal st) told h e = absurd told
limit_by last reached now (method.NoEntering place side row) told h e = absurd told
limit_by last reached now (method.Overflow refused) told h e = absurd told

-- so the program's last state is all of the walk's
module _ (f : theory.Form) (o : Options) (tried : ℕ) (first : method.State) (last : State) (now : ℕ) (events : List Event) where
  pub optimal_end : (w : IsWalked f o tried first ends.Optimal last now events) → (h : Option History) × (w.end ≡ method.Optimal (walk_state last h))
  optimal_end w = (
    w.told_state.0,
    optimal_by last (last_state f o first w.majors) (walk_state last w.told_state.0) w.end w.told_end (walk_ends f o (tried + 1) Full first w.majors w.end w.walk) w.told_state.1,
  )

  pub limit_end : (w : IsWalked f o tried first ends.Limit last now events) → (h : Option History) × (w.end ≡ method.Limit (walk_state last h))
  limit_end w = (
    w.told_state.0,
    limit_by last (last_state f o first w.majors) (walk_state last w.told_state.0) w.end w.told_end (walk_ends f o (tried + 1) Full first w.majors w.end w.walk) w.told_state.1,
  )
