-- The basis of phase one on the form's own bounds.
use Rattle.std.proofs.Common.{◌≡◌, ℕ, ◌<◌, Bool, true, false, if◌then◌else◌, List, length, Option, None, Some, refl, sym, ap, ◌∙◌, subst}
use Rattle.pami_algebra.specs.Fraction.{Fraction}
use Rattle.pami_algebra.specs.Operations.{is_below}
use Rattle.pami_linear.specs.Lists.{get}
use Rattle.pami_frac.specs.declared.list.Bounds.{Bounds}
use Rattle.pami_theory.specs.Form.{Form, variables, limits, zero_f}
use Rattle.pami_theory.specs.declared.words.Stand.{Stand}
use Rattle.pami_theory.specs.declared.words.Stand.TheVariants.{Basic, Lower, Upper, Zero}
use Rattle.pami_theory.specs.Basis.{Basis, head_at, stand_at, StandsAt, IsBasis, IsRegularBasis}
use Rattle.pami_theory.specs.Fresh.{AreReducedCosts}
use Rattle.pami_theory.specs.Start.{is_same}
use Rattle.pami_theory.specs.Boxes.{boxes_of, boxed_by, switched_by, unless_basic, switched_stand, switched_basis}
use Rattle.pami_theory.proofs.Tables.{tabled_length, tabled_at}

abbrev AtStand : Bounds → Stand → Type 0
AtStand l s = (value : Fraction) × StandsAt l s value

boxed_stands : (low high d : Fraction) (fixed : Bool) → AtStand (record { low = Some low; high = Some high }) (boxed_by fixed d)
boxed_stands low high d true = (low, refl)
boxed_stands low high d false = go (is_below d zero_f)
  where
    go : (b : Bool) → AtStand (record { low = Some low; high = Some high }) (if b then Upper else Lower)
    go true = (high, refl)
    go false = (low, refl)

switched_stands : (low high : Option Fraction) (d : Fraction) → AtStand (record { low = low; high = high }) (switched_by low high d)
switched_stands None None d = (zero_f, (refl, refl, refl))
switched_stands (Some low) None d = (low, refl)
switched_stands None (Some high) d = (high, refl)
switched_stands (Some low) (Some high) d = boxed_stands low high d (is_same low high)

boxed_not_basic : (fixed : Bool) (d : Fraction) → ¬ (boxed_by fixed d ≡ Basic)
boxed_not_basic true d e = cc
boxed_not_basic false d e = go (is_below d zero_f) e
  where
    go : (b : Bool) → ¬ ((if b then Upper else Lower) ≡ Basic)
    go true h = cc
    go false h = cc

pub switched_not_basic : (low high : Option Fraction) (d : Fraction) → ¬ (switched_by low high d ≡ Basic)
switched_not_basic None None d e = cc
switched_not_basic (Some low) None d e = cc
switched_not_basic None (Some high) d e = cc
switched_not_basic (Some low) (Some high) d e = boxed_not_basic (is_same low high) d e

unless_stands : (l : Bounds) (s t : Stand) → AtStand l t → AtStand l (unless_basic s t)
unless_stands l Basic t h = (zero_f, tt)
unless_stands l Lower t h = h
unless_stands l Upper t h = h
unless_stands l Zero t h = h

unless_was_basic : (s t : Stand) → ¬ (t ≡ Basic) → unless_basic s t ≡ Basic → s ≡ Basic
unless_was_basic Basic t n e = refl
unless_was_basic Lower t n e = absurd (n e)
unless_was_basic Upper t n e = absurd (n e)
unless_was_basic Zero t n e = absurd (n e)

pub switched_there : (f : Form) (b : Basis) (d : List Fraction) (v : ℕ) → IsBasis (boxes_of f) b → v < variables f → stand_at (switched_basis f b d) v ≡ switched_stand f b d v
switched_there f b d v is l = tabled_at (length b.stands) (switched_stand f b d) v Zero (subst (λ n. v < n) (sym is.variables_stand) l)

pub switch_is_basis : (f : Form) (b : Basis) (d : List Fraction) → IsBasis (boxes_of f) b → IsBasis f (switched_basis f b d)
switch_is_basis f b d is = record {
  places = is.places;
  variables_stand = tabled_length (length b.stands) (switched_stand f b d) ∙ is.variables_stand;
  within = is.within;
  distinct = is.distinct;
  basic = λ p l. switched_there f b d (head_at b p) is (is.within p l) ∙ ap (λ s. unless_basic s (switched_by (limits f (head_at b p)).low (limits f (head_at b p)).high (get d (head_at b p)))) (is.basic p l);
  placed = λ v l e. is.placed v l (unless_was_basic (stand_at b v) (switched_by (limits f v).low (limits f v).high (get d v)) (switched_not_basic (limits f v).low (limits f v).high (get d v)) (sym (switched_there f b d v is l) ∙ e));
  stands = λ v l. subst (AtStand (limits f v)) (sym (switched_there f b d v is l))
      (unless_stands (limits f v) (stand_at b v) (switched_by (limits f v).low (limits f v).high (get d v)) (switched_stands (limits f v).low (limits f v).high (get d v)));
}

pub switch_regular : (f : Form) (b : Basis) (d : List Fraction) → IsRegularBasis (boxes_of f) b → IsRegularBasis f (switched_basis f b d)
switch_regular f b d r = r

pub switch_reduced : (f : Form) (b : Basis) (d : List Fraction) (y e : ℕ → Fraction) → AreReducedCosts (boxes_of f) b y e → AreReducedCosts f (switched_basis f b d) y e
switch_reduced f b d y e h = record { basic = h.basic; reduced = h.reduced }
