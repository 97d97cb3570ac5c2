-- A file run over its items, without lines: chains of what its tokens do.
use Rattle.std.proofs.Common.{◌≡◌, ℕ, Bool, true, false, cond, List, [], ◌∷◌, Option, None, Some, Result, Ok, Err, refl, ◌∙◌}
use Rattle.pami_algebra.specs.Fraction.{Fraction}
use Rattle.pami_frac.specs.declared.list.Bounds.{Bounds}
use Rattle.pami_frac.specs.declared.list.Entry.{Entry}
use Rattle.pami_frac.specs.Answers.{then as chain}
use Rattle.pami_model.specs.declared.fault.FileKind.{FileKind}
use Rattle.pami_model.specs.declared.fault.FileKind.TheVariants as kinds
use Rattle.pami_model.specs.Draft.{Draft}
use Rattle.pami_lp.specs.declared.kind.Place.{Place}
use Rattle.pami_lp.specs.Values.{unbounded}
use Rattle.pami_lp.specs.Rules.{Bounded}
use Rattle.pami_lp.specs.Acts.{Seen}
use Rattle.pami_lp.specs.Run.{step}
use Rattle.pami_lp.specs.Outcome.{is_end}
use Rattle.pami_lp.specs.Grammar.{Item, Turn, Plus, Minus, head, mark, signs, turn}
use Rattle.pami_lp.specs.Meaning.{Opened, negated}

-- a token was taken, or it wasn't
abbrev pub go : Result Seen FileKind → (Seen → Result Draft FileKind) → Result Draft FileKind
go (Err kind) rest = Err kind
go (Ok s) rest = cond (is_end s.place) (Ok s.draft) (rest s)

abbrev pub runs : Seen → List Item → Result Draft FileKind
runs s [] = Err kinds.EndMissing
runs s (i ∷ is) = go (step s i.class (head is) i.text) (λ s. runs s is)

-- ---- chains

pub go_then : {A : Type 0} (r : Result A FileKind) (f : A → Result Seen FileKind) (rest : Seen → Result Draft FileKind) → go (chain r f) rest ≡ chain r (λ a. go (f a) rest)
go_then (Ok x) f rest = refl
go_then (Err k) f rest = refl

pub chain_then : {A B C : Type 0} (r : Result A FileKind) (f : A → Result B FileKind) (g : B → Result C FileKind) → chain (chain r f) g ≡ chain r (λ a. chain (f a) g)
chain_then (Ok x) f g = refl
chain_then (Err k) f g = refl

pub chain_same : {A B : Type 0} (r : Result A FileKind) (f g : A → Result B FileKind) → ((a : A) → f a ≡ g a) → chain r f ≡ chain r g
chain_same (Ok x) f g h = h x
chain_same (Err k) f g h = refl

-- what is done in one step, in two and in three, and then a place
pub one : {B : Type 0} (r : Result B FileKind) (g : B → Seen) (place : Seen → Result Seen FileKind) (rest : Seen → Result Draft FileKind)
    → go (chain (chain r (λ b. Ok (g b))) place) rest ≡ chain r (λ b. go (place (g b)) rest)
one (Ok x) g place rest = refl
one (Err k) g place rest = refl

pub two : {A B : Type 0} (r : Result A FileKind) (f : A → Result B FileKind) (g : A → B → Seen) (place : Seen → Result Seen FileKind) (rest : Seen → Result Draft FileKind)
    → go (chain (chain r (λ a. chain (f a) (λ b. Ok (g a b)))) place) rest ≡ chain r (λ a. chain (f a) (λ b. go (place (g a b)) rest))
two (Ok x) f g place rest = one (f x) (g x) place rest
two (Err k) f g place rest = refl

pub three_by : {B : Type 0} (r : Result B FileKind) (g : B → Seen) (h : Seen → Result Seen FileKind) (place : Seen → Result Seen FileKind) (rest : Seen → Result Draft FileKind)
    → go (chain (chain (chain r (λ b. Ok (g b))) h) place) rest ≡ chain r (λ b. go (chain (h (g b)) place) rest)
three_by (Ok x) g h place rest = refl
three_by (Err k) g h place rest = refl

pub three : {A B : Type 0} (r : Result A FileKind) (f : A → Result B FileKind) (g : A → B → Seen) (h : Seen → Result Seen FileKind) (place : Seen → Result Seen FileKind) (rest : Seen → Result Draft FileKind)
    → go (chain (chain (chain r (λ a. chain (f a) (λ b. Ok (g a b)))) h) place) rest ≡ chain r (λ a. chain (f a) (λ b. go (chain (h (g a b)) place) rest))
three (Ok x) f g h place rest = three_by (f x) (g x) h place rest
three (Err k) f g h place rest = refl

-- ---- states

-- what a reader knows but for its place, the signs and the number before a name
pub record Kept : Type 0 where
  pub draft : Draft
  pub lowered : List ℕ
  pub label : Option (List ℕ)
  pub sides : Bounds
  pub sums : List Entry
  pub column : Option ℕ

abbrev pub state : Place → Bool → Option Fraction → Kept → Seen
state p negative k c = record { place = p; draft = c.draft; lowered = c.lowered; negative = negative; coefficient = k; label = c.label; sides = c.sides; sums = c.sums; column = c.column }

-- behind a token that leaves nothing before the next name or number
abbrev pub onward : Place → Kept → List Item → Result Draft FileKind
onward p c is = runs (state p false None c) is

-- between rows
abbrev pub resting : Draft → Kept
resting d = record { draft = d; lowered = []; label = None; sides = unbounded; sums = []; column = None }

-- between bounds, where this column's was the last
abbrev pub bounding : Bounded → Option ℕ → Kept
bounding s column = record { draft = s.draft; lowered = s.lowered; label = None; sides = unbounded; sums = []; column = column }

abbrev pub with_draft : Draft → Kept → Kept
with_draft d c = record c { draft = d }

abbrev pub with_opened : Opened → Kept → Kept
with_opened s c = record c { draft = s.draft; sums = s.sums }

abbrev pub with_sides : Bounds → Kept → Kept
with_sides sides c = record c { sides = sides }

-- ---- signs

-- a place where signs change nothing but what follows them
abbrev pub Stays : Place → Type 0
Stays p = (t : Turn) (n : Bool) (k : Option Fraction) (c : Kept) (rest : List Item) → runs (state p n k c) (mark (turn t) ∷ rest) ≡ runs (state p (negated n (t ∷ [])) k c) rest

pub signs_run : (p : Place) → Stays p → (ts : List Turn) (n : Bool) (k : Option Fraction) (c : Kept) (rest : List Item) → runs (state p n k c) (signs ts rest) ≡ runs (state p (negated n ts) k c) rest
signs_run p stays [] n k c rest = refl
signs_run p stays (Plus ∷ ts) n k c rest = stays Plus n k c (signs ts rest) ∙ signs_run p stays ts n k c rest
signs_run p stays (Minus ∷ ts) n k c rest = stays Minus n k c (signs ts rest) ∙ signs_run p stays ts (Rattle.std.proofs.Common.not n) k c rest
