-- What is seen behind one more good line.
use Rattle.std.proofs.Common.{◌≡◌, ◌<◌, ◌≤◌, ℕ, Bool, true, false, true≢false, cond, nat_lt, ◌&&◌, List, [], ◌∷◌, ◌++◌, filter, fold, Option, None, Some, refl, sym, ap, subst, ◌∙◌, arith}
use Rattle.std.specs.List.{flat_map, IsDistinct}
use Rattle.std.proofs.lemmas.Bool.{ltb-true}
use Rattle.std.proofs.lemmas.List.{append-nil}
use Rattle.std.proofs.lemmas.List.Concat.{flat_map-append}
use Rattle.std.proofs.lemmas.List.Elements.{filter-append}
use Rattle.std.proofs.lemmas.List.Sums.{fold-append}
use Rattle.pami_model.specs.declared.fault.FileKind.TheVariants as kinds
use Rattle.pami_model.specs.declared.model.Sense.{Sense}
use Rattle.pami_model.specs.Judgement.{wrong_if}
use Rattle.pami_model.proofs.Judging.{some≢none, both_none}
use Rattle.pami_mps.specs.declared.kind.Section.{Section}
use Rattle.pami_mps.specs.declared.kind.Section.TheVariants.{Start, Name, SenseDue, SenseGiven, Rows, Columns, Rhs, Ranges, Limits, End}
use Rattle.pami_mps.specs.Line.{Line, placed, next, named, settled, begun, rank, section_of, section_at, follows, is_in, given_by}
use Rattle.pami_mps.specs.Gather.{Declared, is_sense_line, goal_words, behind_word, sense_words, sense_in, sense_as, sense_of, kept_in, free_in, pairs_in, values_in, without_set, names_of}
use Rattle.pami_mps.specs.Limits.{limits_in}
use Rattle.pami_mps.specs.Seen.{Given, Seen, given, seen_by, seen}
use Rattle.pami_mps.specs.After.{after, after_words, after_row, after_sense, after_head, after_section, after_goal}
use Rattle.pami_mps.specs.Judge.{judge, judge_read, judge_head, judge_section, judge_others, judge_goal, judge_sense, judge_data}
use Rattle.pami_mps.proofs.Columns.{paired, column_line}
use Rattle.pami_mps.proofs.Limited.{limited, limit_line}
use Rattle.pami_mps.proofs.Rows.{AreNames, rowed, row_line, names_line}
use Rattle.pami_mps.proofs.Values.{valued, value_line, range_line}

-- filters over one more line

more : {P A : Type 0} (f : P → Bool) (g : P → List A) (ps : List P) (p : P)
    → flat_map g (filter f (ps ++ p ∷ [])) ≡ flat_map g (filter f ps) ++ cond (f p) (g p) []
more f g ps p = ap (flat_map g) (filter-append f ps (p ∷ [])) ∙ flat_map-append g (filter f ps) (filter f (p ∷ []))
    ∙ ap (λ zs. flat_map g (filter f ps) ++ zs) (by (f p))
  where
    by : (b : Bool) → flat_map g (cond b (p ∷ []) []) ≡ cond b (g p) []
    by true = append-nil (g p)
    by false = refl

placed_more : (s : Section) (ls : List Line) (l : Line) → placed s (ls ++ l ∷ []) ≡ placed s ls ++ (fold next s ls, l) ∷ []
placed_more s [] l = refl
placed_more s (x ∷ ls) l = ap (λ (ps : List (Section × Line)). (s, x) ∷ ps) (placed_more (next s x) ls l)

line_more : {A : Type 0} (ls : List Line) (l : Line) (f : Section × Line → Bool) (g : Line → List A)
    → given_by f g (ls ++ l ∷ []) ≡ given_by f g ls ++ cond (f (section_at ls, l)) (g l) []
line_more ls l f g = ap (λ (ps : List (Section × Line)). flat_map (λ p. g p.1) (filter f ps)) (placed_more Start ls l)
    ∙ more f (λ p. g p.1) (placed Start ls) (section_at ls, l)

pub section_more : (ls : List Line) (l : Line) → section_at (ls ++ l ∷ []) ≡ next (section_at ls) l
section_more ls l = fold-append next Start ls (l ∷ [])

-- what one line gives, and what lines give together

abbrev pub gives : Section → Line → Given
gives s l = record {
  senses = cond (is_sense_line (s, l)) (sense_in (sense_words l)) [];
  rows = cond (is_in Rows (s, l)) (kept_in l.words) [];
  free = cond (is_in Rows (s, l)) (free_in l.words) [];
  pairs = cond (is_in Columns (s, l)) (pairs_in l.words) [];
  values = cond (is_in Rhs (s, l)) (values_in (without_set l.words)) [];
  ranges = cond (is_in Ranges (s, l)) (values_in (without_set l.words)) [];
  limits = cond (is_in Limits (s, l)) (limits_in l.words) [];
}

abbrev pub joined : Given → Given → Given
joined g h = record {
  senses = g.senses ++ h.senses;
  rows = g.rows ++ h.rows;
  free = g.free ++ h.free;
  pairs = g.pairs ++ h.pairs;
  values = g.values ++ h.values;
  ranges = g.ranges ++ h.ranges;
  limits = g.limits ++ h.limits;
}

pub given_more : (ls : List Line) (l : Line) → given (ls ++ l ∷ []) ≡ joined (given ls) (gives (section_at ls) l)
given_more ls l =
    let senses = line_more ls l is_sense_line (λ x. sense_in (sense_words x)) in
    let rows = line_more ls l (is_in Rows) (λ x. kept_in x.words) in
    let free = line_more ls l (is_in Rows) (λ x. free_in x.words) in
    let pairs = line_more ls l (is_in Columns) (λ x. pairs_in x.words) in
    let values = line_more ls l (is_in Rhs) (λ x. values_in (without_set x.words)) in
    let ranges = line_more ls l (is_in Ranges) (λ x. values_in (without_set x.words)) in
    let limits = line_more ls l (is_in Limits) (λ x. limits_in x.words) in
    (λ i. record { senses = senses i; rows = rows i; free = free i; pairs = pairs i; values = values i; ranges = ranges i; limits = limits i })

abbrev nothing : Given
nothing = record { senses = []; rows = []; free = []; pairs = []; values = []; ranges = []; limits = [] }

-- each list of what is given, as it is with nothing more, or with what a line of its section gives
module _ (g : Given) where
  senses_more : (xs : List Sense) → joined g (record nothing { senses = xs }) ≡ record g { senses = g.senses ++ xs }
  senses_more xs = (λ i. record {
    senses = g.senses ++ xs;
    rows = append-nil g.rows i;
    free = append-nil g.free i;
    pairs = append-nil g.pairs i;
    values =
        append-nil g.values i;
    ranges = append-nil g.ranges i;
    limits = append-nil g.limits i;
  })

  pub nothing_more : joined g nothing ≡ g
  nothing_more = senses_more [] ∙ (λ i. record g { senses = append-nil g.senses i })

-- the line as a section line or a data line
abbrev as_head : Bool → Line → Line
as_head b l = record { head = b; words = l.words; control = l.control }

-- what good lines keep: nothing stands before its section, and the names of rows are distinct
pub record Orderly (section : Section) (g : Given) : Type 0 where
  pub early_senses : rank section < 3 → g.senses ≡ []
  pub early_pairs : rank section < 5 → g.pairs ≡ []
  pub early_values : rank section < 6 → g.values ≡ []
  pub early_ranges : rank section < 7 → g.ranges ≡ []
  pub early_limits : rank section < 8 → g.limits ≡ []
  pub names : AreNames (names_of g.rows) g.free

abbrev pub Ready : List Line → Type 0
Ready ls = Orderly (section_at ls) (given ls)

pub ready_start : Ready []
unfolding IsDistinct
ready_start = record {
  early_senses = λ lt. refl;
  early_pairs = λ lt. refl;
  early_values = λ lt. refl;
  early_ranges = λ lt. refl;
  early_limits = λ lt. refl;
  names = record { distinct = tt; apart = λ n here. absurd (true≢false (sym here)) };
}

-- sections go on

first_true : (a b : Bool) → (a && b) ≡ true → a ≡ true
first_true true b h = refl
first_true false b h = h

settled_on : (t : Section) (others : List (List ℕ)) → rank t ≤ rank (settled t others)
settled_on Start others = omega arith
settled_on Name others = omega arith
settled_on SenseDue [] = omega arith
settled_on SenseDue (w ∷ ws) = omega arith
settled_on SenseGiven others = omega arith
settled_on Rows others = omega arith
settled_on Columns others = omega arith
settled_on Rhs others = omega arith
settled_on Ranges others = omega arith
settled_on Limits others = omega arith
settled_on End others = omega arith

-- a good section line begins a later section
pub record Begins (s : Section) (words : List (List ℕ)) : Type 0 where
  pub word : List ℕ
  pub others : List (List ℕ)
  pub to : Section
  pub split : words ≡ word ∷ others
  pub known : section_of word ≡ Some to
  pub later : rank s < rank to
  pub good : judge_others to others ≡ None

begins : (s : Section) (words : List (List ℕ)) → judge_head s words ≡ None → Begins s words
begins s [] h = absurd (some≢none h)
begins s (w ∷ ws) h = by (section_of w) refl h
  where
    by : (o : Option Section) → section_of w ≡ o → judge_section s o ws ≡ None → Begins s (w ∷ ws)
    by None e h = absurd (some≢none h)
    by (Some t) e h = go (follows s t) refl h
      where
        go : (b : Bool) → follows s t ≡ b → cond b (judge_others t ws) (Some kinds.Order) ≡ None → Begins s (w ∷ ws)
        go true f g = record {
          word = w;
          others = ws;
          to = t;
          split = refl;
          known = e;
          later =
              ltb-true (rank s) (rank t) (first_true (nat_lt (rank s) (rank t)) _ f);
          good = g;
        }
        go false f g = absurd (some≢none g)

pub not_back : (s : Section) (words : List (List ℕ)) → judge_head s words ≡ None → rank s ≤ rank (named s words)
not_back s words h =
    let b = begins s words h in
    let lt : rank s < rank b.to = b.later in
    let le : rank b.to ≤ rank (settled b.to b.others) = settled_on b.to b.others in
    let e : named s words ≡ settled b.to b.others = ap (named s) b.split ∙ ap (λ (o : Option Section). begun s o b.others) b.known in
    subst (λ (t : Section). rank s ≤ rank t) (sym e) (omega arith)

-- one more line, over what the lines gave

module _ (g : Given) where
  -- OBJSENSE

  one_sense : (s : Section) (o : Option Sense) → judge_sense o ≡ None → g.senses ≡ []
      → seen_by SenseGiven (record g { senses = g.senses ++ sense_as o }) ≡ Rattle.pami_mps.specs.After.with_sense o (seen_by s g)
  one_sense s None j e = absurd (some≢none j)
  one_sense s (Some sense) j e = ap (λ (xs : List Sense). seen_by SenseGiven (record g { senses = xs ++ sense ∷ [] })) e

  goal_line : (s : Section) (others : List (List ℕ)) → judge_goal others ≡ None → g.senses ≡ []
      → seen_by (settled SenseDue others) (joined g (record nothing { senses = sense_in others })) ≡ after_goal (seen_by s g) others
  goal_line s [] j e = ap (seen_by SenseDue) (nothing_more g)
  goal_line s (word ∷ []) j e = ap (seen_by SenseGiven) (senses_more g (sense_as (sense_of word))) ∙ one_sense s (sense_of word) j e
  goal_line s (word ∷ other ∷ others) j e = absurd (some≢none j)

  sense_line : (words : List (List ℕ)) → judge_data (seen_by SenseDue g) words ≡ None → g.senses ≡ []
      → seen_by (settled SenseDue words) (joined g (record nothing { senses = sense_in words })) ≡ after_sense (seen_by SenseDue g) words
  sense_line [] j e = ap (seen_by SenseDue) (nothing_more g)
  sense_line (word ∷ words) j e = goal_line SenseDue (word ∷ words) j e

  -- section lines
  begins_section : (s t : Section) (others : List (List ℕ)) → rank s < rank t → judge_others t others ≡ None → (rank s < 3 → g.senses ≡ [])
      → seen_by (settled t others) (joined g (record nothing { senses = sense_in (goal_words (Some t) others) })) ≡ after_section (seen_by s g) (Some t) others
  begins_section s Start others lt j early = ap (seen_by Start) (nothing_more g)
  begins_section s Name others lt j early = ap (seen_by Name) (nothing_more g)
  begins_section s SenseDue others lt j early = goal_line s others j (early (omega arith))
  begins_section s SenseGiven others lt j early = ap (seen_by SenseGiven) (nothing_more g)
  begins_section s Rows others lt j early = ap (seen_by Rows) (nothing_more g)
  begins_section s Columns others lt j early = ap (seen_by Columns) (nothing_more g)
  begins_section s Rhs others lt j early = ap (seen_by Rhs) (nothing_more g)
  begins_section s Ranges others lt j early = ap (seen_by Ranges) (nothing_more g)
  begins_section s Limits others lt j early = ap (seen_by Limits) (nothing_more g)
  begins_section s End others lt j early = ap (seen_by End) (nothing_more g)

  head_line : (s : Section) (words : List (List ℕ)) → (rank s < 3 → g.senses ≡ []) → judge_head s words ≡ None
      → seen_by (named s words) (joined g (record nothing { senses = sense_in (behind_word words) })) ≡ after_head (seen_by s g) words
  head_line s words early j =
      let b = begins s words j in
      subst (λ (ws : List (List ℕ)). seen_by (named s ws) (joined g (record nothing { senses = sense_in (behind_word ws) })) ≡ after_head (seen_by s g) ws)
      (sym b.split)
      (subst (λ (o : Option Section). seen_by (begun s o b.others) (joined g (record nothing { senses = sense_in (goal_words o b.others) })) ≡ after_section
      (seen_by s g) o b.others) (sym b.known)
      (begins_section s b.to b.others b.later b.good early))

  -- data lines

  in_rows : (words : List (List ℕ)) → Orderly Rows g
      → seen_by Rows (joined g (record nothing { rows = kept_in words; free = free_in words })) ≡ after_row (seen_by Rows g) words
  in_rows words so =
      let pairs = so.early_pairs (omega arith) in
      let values = so.early_values (omega arith) in
      let ranges = so.early_ranges (omega arith) in
      let limits = so.early_limits (omega arith) in
      let grown : joined g (record nothing { rows = kept_in words; free = free_in words }) ≡ rowed g (g.rows ++ kept_in words) (g.free ++ free_in words) =
      (λ i. record {
        senses = append-nil g.senses i;
        rows = g.rows ++ kept_in words;
        free = g.free ++ free_in words;
        pairs = (append-nil g.pairs ∙ pairs) i;
        values = (append-nil g.values ∙ values) i;
        ranges = (append-nil g.ranges ∙ ranges) i;
        limits = (append-nil g.limits ∙ limits) i;
      }) in
      let bare : rowed g g.rows g.free ≡ g =
      (λ i. record {
        senses = g.senses;
        rows = g.rows;
        free = g.free;
        pairs = sym pairs i;
        values = sym values i;
        ranges = sym ranges i;
        limits =
            sym limits i;
      }) in
      ap (seen_by Rows) grown ∙ row_line Rows g g.rows g.free words ∙ ap (λ (x : Given). after_row (seen_by Rows x) words) bare

  in_columns : (words : List (List ℕ)) → Orderly Columns g → judge_data (seen_by Columns g) words ≡ None
      → seen_by Columns (joined g (record nothing { pairs = pairs_in words })) ≡ after_words Columns (seen_by Columns g) words
  in_columns [] so j = ap (seen_by Columns) (nothing_more g)
  in_columns (w ∷ ws) so j =
      let limits = so.early_limits (omega arith) in
      let grown : joined g (record nothing { pairs = pairs_in (w ∷ ws) }) ≡ paired g (g.pairs ++ pairs_in (w ∷ ws)) =
      (λ i. record {
        senses = append-nil g.senses i;
        rows = append-nil g.rows i;
        free = append-nil g.free i;
        pairs = g.pairs ++ pairs_in (w ∷ ws);
        values = append-nil g.values i;
        ranges = append-nil g.ranges i;
        limits = (append-nil g.limits ∙ limits) i;
      }) in
      let bare : paired g g.pairs ≡ g =
      (λ i. record { senses = g.senses; rows = g.rows; free = g.free; pairs = g.pairs; values = g.values; ranges = g.ranges; limits = sym limits i }) in
      ap (seen_by Columns) grown ∙ column_line Columns g g.pairs (w ∷ ws) (subst (λ (x : Given). judge_data (seen_by Columns x) (w ∷ ws) ≡ None) (sym bare) j)
      ∙ ap (λ (x : Given). after_words Columns (seen_by Columns x) (w ∷ ws)) bare

  in_values : (words : List (List ℕ)) → Orderly Rhs g → judge_data (seen_by Rhs g) words ≡ None
      → seen_by Rhs (joined g (record nothing { values = values_in (without_set words) })) ≡ after_words Rhs (seen_by Rhs g) words
  in_values [] so j = ap (seen_by Rhs) (nothing_more g)
  in_values (w ∷ ws) so j =
      let none = so.early_ranges (omega arith) in
      let grown : joined g (record nothing { values = values_in (without_set (w ∷ ws)) }) ≡ valued g (g.values ++ values_in (without_set (w ∷ ws))) [] =
      (λ i. record {
        senses = append-nil g.senses i;
        rows = append-nil g.rows i;
        free = append-nil g.free i;
        pairs = append-nil g.pairs i;
        values = g.values ++ values_in (without_set (w ∷ ws));
        ranges = (append-nil g.ranges ∙ none) i;
        limits = append-nil g.limits i;
      }) in
      let bare : valued g g.values [] ≡ g =
      (λ i. record { senses = g.senses; rows = g.rows; free = g.free; pairs = g.pairs; values = g.values; ranges = sym none i; limits = g.limits }) in
      ap (seen_by Rhs) grown ∙ value_line Rhs g so.names.distinct so.names.apart g.values (without_set (w ∷ ws))
      (subst (λ (x : Given). judge_data (seen_by Rhs x) (w ∷ ws) ≡ None) (sym bare) j)
      ∙ ap (λ (x : Given). after_words Rhs (seen_by Rhs x) (w ∷ ws)) bare

  in_ranges : (words : List (List ℕ)) → Orderly Ranges g → judge_data (seen_by Ranges g) words ≡ None
      → seen_by Ranges (joined g (record nothing { ranges = values_in (without_set words) })) ≡ after_words Ranges (seen_by Ranges g) words
  in_ranges [] so j = ap (seen_by Ranges) (nothing_more g)
  in_ranges (w ∷ ws) so j =
      let grown : joined g (record nothing { ranges = values_in (without_set (w ∷ ws)) }) ≡ valued g g.values (g.ranges ++ values_in (without_set (w ∷ ws))) =
      (λ i. record {
        senses = append-nil g.senses i;
        rows = append-nil g.rows i;
        free = append-nil g.free i;
        pairs = append-nil g.pairs i;
        values = append-nil g.values i;
        ranges = g.ranges ++ values_in (without_set (w ∷ ws));
        limits = append-nil g.limits i;
      }) in
      ap (seen_by Ranges) grown ∙ range_line Ranges g so.names.distinct so.names.apart g.ranges (without_set (w ∷ ws)) j

  in_limits : (words : List (List ℕ)) → judge_data (seen_by Limits g) words ≡ None
      → seen_by Limits (joined g (record nothing { limits = limits_in words })) ≡ after_words Limits (seen_by Limits g) words
  in_limits [] j = ap (seen_by Limits) (nothing_more g)
  in_limits (w ∷ ws) j =
      let grown : joined g (record nothing { limits = limits_in (w ∷ ws) }) ≡ limited g (g.limits ++ limits_in (w ∷ ws)) =
      (λ i. record {
        senses = append-nil g.senses i;
        rows = append-nil g.rows i;
        free = append-nil g.free i;
        pairs = append-nil g.pairs i;
        values = append-nil g.values i;
        ranges = append-nil g.ranges i;
        limits = g.limits ++ limits_in (w ∷ ws);
      }) in
      ap (seen_by Limits) grown ∙ limit_line Limits g g.limits (w ∷ ws) j

  abbrev behind : Section → Line → Seen
  behind s l = seen_by (next s l) (joined g (gives s l))

  read_good : (s : Seen) (l : Line) → judge_read s l ≡ None → cond l.head (judge_head s.section l.words) (judge_data s l.words) ≡ None
  read_good s l j = (both_none (wrong_if l.control kinds.Byte) _ j).1

  pub one_line : (s : Section) (l : Line) → Orderly s g → judge (seen_by s g) l ≡ None → behind s l ≡ after (seen_by s g) l
  one_line s l so j = by s l.head so j
    where
      headed : (t : Section) → Orderly t g → judge_read (seen_by t g) (as_head true l) ≡ None
          → seen_by (named t l.words) (joined g (record nothing { senses = sense_in (behind_word l.words) })) ≡ after_head (seen_by t g) l.words
      headed t so j = head_line t l.words so.early_senses (read_good (seen_by t g) (as_head true l) j)

      by : (t : Section) (b : Bool) → Orderly t g → judge (seen_by t g) (as_head b l) ≡ None → behind t (as_head b l) ≡ after (seen_by t g) (as_head b l)
      by Start true so j = headed Start so j
      by Name true so j = headed Name so j
      by SenseDue true so j = headed SenseDue so j
      by SenseGiven true so j = headed SenseGiven so j
      by Rows true so j = headed Rows so j
      by Columns true so j = headed Columns so j
      by Rhs true so j = headed Rhs so j
      by Ranges true so j = headed Ranges so j
      by Limits true so j = headed Limits so j
      by End true so j = ap (seen_by End) (nothing_more g)
      by Start false so j = ap (seen_by Start) (nothing_more g)
      by Name false so j = ap (seen_by Name) (nothing_more g)
      by SenseDue false so j = sense_line l.words (read_good (seen_by SenseDue g) (as_head false l) j) (so.early_senses (omega arith))
      by SenseGiven false so j = ap (seen_by SenseGiven) (nothing_more g)
      by Rows false so j = in_rows l.words so
      by Columns false so j = in_columns l.words so (read_good (seen_by Columns g) (as_head false l) j)
      by Rhs false so j = in_values l.words so (read_good (seen_by Rhs g) (as_head false l) j)
      by Ranges false so j = in_ranges l.words so (read_good (seen_by Ranges g) (as_head false l) j)
      by Limits false so j = in_limits l.words (read_good (seen_by Limits g) (as_head false l) j)
      by End false so j = ap (seen_by End) (nothing_more g)

  -- what good lines keep stays

  abbrev Behind : Section → Line → Type 0
  Behind s l = Orderly (next s l) (joined g (gives s l))

  same_names : AreNames (names_of g.rows) g.free → AreNames (names_of (g.rows ++ [])) (g.free ++ [])
  same_names h = subst (λ (x : List Declared). AreNames (names_of x) (g.free ++ [])) (sym (append-nil g.rows))
      (subst (AreNames (names_of g.rows)) (sym (append-nil g.free)) h)

  -- nothing but a sense is given
  onward : (s t : Section) (xs : List Sense) → rank s ≤ rank t → (rank t < 3 → xs ≡ []) → Orderly s g → Orderly t (joined g (record nothing { senses = xs }))
  onward s t xs le none so = record {
    early_senses = λ lt. ap (λ (ys : List Sense). g.senses ++ ys) (none lt) ∙ append-nil g.senses ∙ so.early_senses (omega arith);
    early_pairs = λ lt. append-nil g.pairs ∙ so.early_pairs (omega arith);
    early_values = λ lt. append-nil g.values ∙ so.early_values (omega arith);
    early_ranges = λ lt. append-nil g.ranges ∙ so.early_ranges (omega arith);
    early_limits = λ lt. append-nil g.limits ∙ so.early_limits (omega arith);
    names = same_names so.names;
  }

  row_names : (words : List (List ℕ)) → AreNames (names_of g.rows) g.free → judge_data (seen_by Rows g) words ≡ None
      → AreNames (names_of (g.rows ++ kept_in words)) (g.free ++ free_in words)
  row_names [] are j = same_names are
  row_names (w ∷ ws) are j = names_line Rows g are (w ∷ ws) j

  -- no sense is given before the section that has it
  no_sense : (t : Section) (others : List (List ℕ)) → rank (settled t others) < 3 → sense_in (goal_words (Some t) others) ≡ []
  no_sense Start others lt = refl
  no_sense Name others lt = refl
  no_sense SenseDue [] lt = refl
  no_sense SenseDue (w ∷ ws) lt = absurd (omega arith)
  no_sense SenseGiven others lt = refl
  no_sense Rows others lt = refl
  no_sense Columns others lt = refl
  no_sense Rhs others lt = refl
  no_sense Ranges others lt = refl
  no_sense Limits others lt = refl
  no_sense End others lt = refl

  head_senses : (s : Section) (words : List (List ℕ)) → rank (named s words) < 3 → sense_in (behind_word words) ≡ []
  head_senses s [] lt = refl
  head_senses s (w ∷ ws) lt = by (section_of w) lt
    where
      by : (o : Option Section) → rank (begun s o ws) < 3 → sense_in (goal_words o ws) ≡ []
      by None lt = refl
      by (Some t) lt = no_sense t ws lt

  data_senses : (words : List (List ℕ)) → rank (settled SenseDue words) < 3 → sense_in words ≡ []
  data_senses [] lt = refl
  data_senses (w ∷ ws) lt = absurd (omega arith)

  pub kept_orderly : (s : Section) (l : Line) → Orderly s g → judge (seen_by s g) l ≡ None → Behind s l
  kept_orderly s l so j = by s l.head so j
    where
      headed : (t : Section) → Orderly t g → judge_read (seen_by t g) (as_head true l) ≡ None
          → Orderly (named t l.words) (joined g (record nothing { senses = sense_in (behind_word l.words) }))
      headed t so j = onward t (named t l.words) (sense_in (behind_word l.words)) (not_back t l.words (read_good (seen_by t g) (as_head true l) j))
          (head_senses t l.words) so

      by : (t : Section) (b : Bool) → Orderly t g → judge (seen_by t g) (as_head b l) ≡ None → Behind t (as_head b l)
      by Start true so j = headed Start so j
      by Name true so j = headed Name so j
      by SenseDue true so j = headed SenseDue so j
      by SenseGiven true so j = headed SenseGiven so j
      by Rows true so j = headed Rows so j
      by Columns true so j = headed Columns so j
      by Rhs true so j = headed Rhs so j
      by Ranges true so j = headed Ranges so j
      by Limits true so j = headed Limits so j
      by End true so j = onward End End [] (omega arith) (λ lt. refl) so
      by Start false so j = onward Start Start [] (omega arith) (λ lt. refl) so
      by Name false so j = onward Name Name [] (omega arith) (λ lt. refl) so
      by SenseDue false so j = onward SenseDue (settled SenseDue l.words) (sense_in l.words) (settled_on SenseDue l.words) (data_senses l.words) so
      by SenseGiven false so j = onward SenseGiven SenseGiven [] (omega arith) (λ lt. refl) so
      by Rows false so j = record {
        early_senses = λ lt. absurd (omega arith);
        early_pairs = λ lt. append-nil g.pairs ∙ so.early_pairs lt;
        early_values = λ lt. append-nil g.values ∙ so.early_values lt;
        early_ranges = λ lt. append-nil g.ranges ∙ so.early_ranges lt;
        early_limits = λ lt. append-nil g.limits ∙ so.early_limits lt;
        names = row_names l.words so.names (read_good (seen_by Rows g) (as_head false l) j);
      }
      by Columns false so j = record {
        early_senses = λ lt. absurd (omega arith);
        early_pairs = λ lt. absurd (omega arith);
        early_values = λ lt. append-nil g.values ∙ so.early_values lt;
        early_ranges = λ lt. append-nil g.ranges ∙ so.early_ranges lt;
        early_limits = λ lt. append-nil g.limits ∙ so.early_limits lt;
        names = same_names so.names;
      }
      by Rhs false so j = record {
        early_senses = λ lt. absurd (omega arith);
        early_pairs = λ lt. absurd (omega arith);
        early_values = λ lt. absurd (omega arith);
        early_ranges = λ lt. append-nil g.ranges ∙ so.early_ranges lt;
        early_limits = λ lt. append-nil g.limits ∙ so.early_limits lt;
        names = same_names so.names;
      }
      by Ranges false so j = record {
        early_senses = λ lt. absurd (omega arith);
        early_pairs = λ lt. absurd (omega arith);
        early_values = λ lt. absurd (omega arith);
        early_ranges = λ lt. absurd (omega arith);
        early_limits = λ lt. append-nil g.limits ∙ so.early_limits lt;
        names = same_names so.names;
      }
      by Limits false so j = record {
        early_senses = λ lt. absurd (omega arith);
        early_pairs = λ lt. absurd (omega arith);
        early_values = λ lt. absurd (omega arith);
        early_ranges = λ lt. absurd (omega arith);
        early_limits = λ lt. absurd (omega arith);
        names = same_names so.names;
      }
      by End false so j = onward End End [] (omega arith) (λ lt. refl) so

-- one more line

pub seen_more : (ls : List Line) (l : Line) → Ready ls → judge (seen ls) l ≡ None → seen (ls ++ l ∷ []) ≡ after (seen ls) l
seen_more ls l so j =
    let sections = section_more ls l in
    let all = given_more ls l in
    (λ i. seen_by (sections i) (all i)) ∙ one_line (given ls) (section_at ls) l so j

pub ready_more : (ls : List Line) (l : Line) → Ready ls → judge (seen ls) l ≡ None → Ready (ls ++ l ∷ [])
ready_more ls l so j =
    let sections = section_more ls l in
    let all = given_more ls l in
    let same : Ready (ls ++ l ∷ []) ≡ Behind (given ls) (section_at ls) l = (λ i. Orderly (sections i) (all i)) in
    subst (λ (T : Type 0). T) (sym same) (kept_orderly (given ls) (section_at ls) l so j)
