-- What stands behind a file of the grammar: the file in front of nothing, and then that.
use Rattle.std.proofs.Common.{◌≡◌, ℕ, List, [], ◌∷◌, ◌++◌, Option, None, Some, refl, sym, ap, ◌∙◌}
use Rattle.pami_lp_text.specs.declared.kind.Class.{Class}
use Rattle.pami_lp_text.specs.declared.kind.Class.TheVariants as classes
use Rattle.pami_lp.specs.Grammar.{Item, item, head, Turn, signs, number_before, Term, term, Further, further, Terms, terms, Size, Number, Infinity, size, Value, value, label, Side, Right, Left, Both, side, Row, rows, Part, Named, Alone, part, Later, later, Goal, Nothing, Parts, goal, rows_word, Bound, Set, From, Between, Freed, bound, bounds, section, ending, File, file, goes_on, IsClosed, AreClosed, IsClosedFile}

module _ (m : List Item) where
  on : (c : Item) {cs ds : List Item} → cs ≡ ds → c ∷ cs ≡ c ∷ ds
  on c e = ap (λ (xs : List Item). c ∷ xs) e

  signs_are : (ts : List Turn) (rest cs : List Item) → rest ++ m ≡ cs → (signs ts rest) ++ m ≡ signs ts cs
  signs_are [] rest cs e = e
  signs_are (t ∷ ts) rest cs e = on _ (signs_are ts rest cs e)

  number_is : (number : Option (List ℕ)) (rest cs : List Item) → rest ++ m ≡ cs → (number_before number rest) ++ m ≡ number_before number cs
  number_is (Some text) rest cs e = on _ e
  number_is None rest cs e = e

  term_is : (t : Term) (rest cs : List Item) → rest ++ m ≡ cs → (term t rest) ++ m ≡ term t cs
  term_is t rest cs e = signs_are t.turns _ _ (number_is t.number _ _ (on _ e))

  further_is : (fs : List Further) (rest cs : List Item) → rest ++ m ≡ cs → (further fs rest) ++ m ≡ further fs cs
  further_is [] rest cs e = e
  further_is (f ∷ fs) rest cs e = on _ (term_is f.term _ _ (further_is fs rest cs e))

  terms_is : (t : Terms) (rest cs : List Item) → rest ++ m ≡ cs → (terms t rest) ++ m ≡ terms t cs
  terms_is t rest cs e = term_is t.first _ _ (further_is t.more rest cs e)

  size_is : (z : Size) (rest cs : List Item) → rest ++ m ≡ cs → (size z ∷ rest) ++ m ≡ size z ∷ cs
  size_is (Number text) rest cs e = on _ e
  size_is (Infinity text) rest cs e = on _ e

  value_is : (v : Value) (rest cs : List Item) → rest ++ m ≡ cs → (value v rest) ++ m ≡ value v cs
  value_is v rest cs e = signs_are v.turns _ _ (size_is v.size rest cs e)

  label_is : (l : Option (List ℕ)) (rest cs : List Item) → rest ++ m ≡ cs → (label l rest) ++ m ≡ label l cs
  label_is (Some name) rest cs e = on _ (on _ e)
  label_is None rest cs e = e

  side_is : (s : Side) (rest cs : List Item) → rest ++ m ≡ cs → (side s rest) ++ m ≡ side s cs
  side_is (Right ts r v) rest cs e = terms_is ts _ _ (on _ (value_is v rest cs e))
  side_is (Left v r ts) rest cs e = value_is v _ _ (on _ (terms_is ts rest cs e))
  side_is (Both v w ts u) rest cs e = value_is v _ _ (on _ (terms_is ts _ _ (on _ (value_is u rest cs e))))

  rows_are : (rs : List Row) (rest cs : List Item) → rest ++ m ≡ cs → (rows rs rest) ++ m ≡ rows rs cs
  rows_are [] rest cs e = e
  rows_are (r ∷ rs) rest cs e = label_is r.label _ _ (side_is r.side _ _ (rows_are rs rest cs e))

  part_is : (p : Part) (rest cs : List Item) → rest ++ m ≡ cs → (part p rest) ++ m ≡ part p cs
  part_is (Named t) rest cs e = term_is t rest cs e
  part_is (Alone ts text) rest cs e = signs_are ts _ _ (on _ e)

  later_is : (ls : List Later) (rest cs : List Item) → rest ++ m ≡ cs → (later ls rest) ++ m ≡ later ls cs
  later_is [] rest cs e = e
  later_is (l ∷ ls) rest cs e = on _ (part_is l.part _ _ (later_is ls rest cs e))

  goal_is : (g : Goal) (rest cs : List Item) → rest ++ m ≡ cs → (goal g rest) ++ m ≡ goal g cs
  goal_is Nothing rest cs e = e
  goal_is (Parts p ls) rest cs e = part_is p _ _ (later_is ls rest cs e)

  word_is : (w : Option (List ℕ)) (rest cs : List Item) → rest ++ m ≡ cs → (rows_word w rest) ++ m ≡ rows_word w cs
  word_is (Some second) rest cs e = on _ (on _ e)
  word_is None rest cs e = on _ e

  bound_is : (b : Bound) (rest cs : List Item) → rest ++ m ≡ cs → (bound b rest) ++ m ≡ bound b cs
  bound_is (Set name r v) rest cs e = on _ (on _ (value_is v rest cs e))
  bound_is (From v r name) rest cs e = value_is v _ _ (on _ (on _ e))
  bound_is (Between v w name u) rest cs e = value_is v _ _ (on _ (on _ (on _ (value_is u rest cs e))))
  bound_is (Freed name) rest cs e = on _ (on _ e)

  bounds_are : (bs : List Bound) (rest cs : List Item) → rest ++ m ≡ cs → (bounds bs rest) ++ m ≡ bounds bs cs
  bounds_are [] rest cs e = e
  bounds_are (b ∷ bs) rest cs e = bound_is b _ _ (bounds_are bs rest cs e)

  section_is : (bs : Option (List Bound)) (rest cs : List Item) → rest ++ m ≡ cs → (section bs rest) ++ m ≡ section bs cs
  section_is None rest cs e = e
  section_is (Some bs) rest cs e = on _ (bounds_are bs rest cs e)

  ending_is : (bs : Option (List Bound)) → (ending bs []) ++ m ≡ ending bs m
  ending_is bs = section_is bs _ _ (on _ refl)

  pub file_behind : (f : File) → file f [] ++ m ≡ file f m
  file_behind f = on _ (label_is f.label _ _ (goal_is f.goal _ _ (word_is f.second _ _ (rows_are f.rows _ _ (ending_is f.bounds)))))

-- ---- what a row's end can see doesn't depend on what stands behind the end

signs_head : (ts : List Turn) (x y : List Item) → head x ≡ head y → head (signs ts x) ≡ head (signs ts y)
signs_head [] x y e = e
signs_head (t ∷ ts) x y e = refl

term_head : (t : Term) (x y : List Item) → head (term t x) ≡ head (term t y)
term_head t x y = signs_head t.turns _ _ (by t.number)
  where
    by : (n : Option (List ℕ)) → head (number_before n (item classes.Name t.name ∷ x)) ≡ head (number_before n (item classes.Name t.name ∷ y))
    by (Some text) = refl
    by None = refl

value_head : (v : Value) (x y : List Item) → head (value v x) ≡ head (value v y)
value_head v x y = signs_head v.turns _ _ refl

side_head : (s : Side) (x y : List Item) → head (side s x) ≡ head (side s y)
side_head (Right ts r v) x y = term_head ts.first _ _
side_head (Left v r ts) x y = value_head v _ _
side_head (Both v w ts u) x y = value_head v _ _

rows_head : (rs : List Row) (x y : List Item) → head x ≡ head y → head (rows rs x) ≡ head (rows rs y)
rows_head [] x y e = e
rows_head (r ∷ rs) x y e = by r.label
  where
    by : (l : Option (List ℕ)) → head (label l (side r.side (rows rs x))) ≡ head (label l (side r.side (rows rs y)))
    by (Some name) = refl
    by None = side_head r.side (rows rs x) (rows rs y)

ending_head : (bs : Option (List Bound)) (x y : List Item) → head (ending bs x) ≡ head (ending bs y)
ending_head None x y = refl
ending_head (Some bs) x y = refl

rows_closed : (rs : List Row) (x y : List Item) → head x ≡ head y → AreClosed rs x → AreClosed rs y
rows_closed [] x y e h = h
rows_closed (r ∷ rs) x y e h = (by r.side h.0, rows_closed rs x y e h.1)
  where
    by : (s : Side) → IsClosed s (rows rs x) → IsClosed s (rows rs y)
    by (Right ts r v) c = c
    by (Left v r ts) c = ap (λ (k : Class). goes_on r k) (sym (rows_head rs x y e)) ∙ c
    by (Both v w ts u) c = c

pub closed_before : (f : File) (x y : List Item) → IsClosedFile f x → IsClosedFile f y
closed_before f x y h = rows_closed f.rows (ending f.bounds x) (ending f.bounds y) (ending_head f.bounds x y) h
