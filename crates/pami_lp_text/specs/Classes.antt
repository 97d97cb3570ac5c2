-- What a token is, by itself and the token after it.
use Rattle.std.specs.Prelude.{ℕ, ◌&&◌, ◌||◌, Bool, not, List, [], ◌∷◌, map, if◌then◌else◌, codes}
use Rattle.std.specs.Str.{bytes_eq}
use Rattle.std.specs.Char.{to_ascii_lowercase}
use Rattle.pami_model.specs.declared.model.Sense.TheVariants as senses
use Rattle.pami_lp_text.specs.declared.kind.Relation.TheVariants as relations
use Rattle.pami_lp_text.specs.declared.kind.Class.{Class}
use Rattle.pami_lp_text.specs.declared.kind.Class.TheVariants as classes
use Rattle.pami_lp_text.specs.Lexeme.{Word, is_number, is_name}

-- the text is this word, which is in small letters, without regard to case
abbrev pub is_word : List ℕ → List ℕ → Bool
is_word text w = bytes_eq (map to_ascii_lowercase text) w

abbrev pub is_least : List ℕ → Bool
is_least text = is_word text (codes "min") || is_word text (codes "minimum") || is_word text (codes "minimize") || is_word text (codes "minimise")

abbrev pub is_greatest : List ℕ → Bool
is_greatest text = is_word text (codes "max") || is_word text (codes "maximum") || is_word text (codes "maximize") || is_word text (codes "maximise")

abbrev pub is_rows_word : List ℕ → Bool
is_rows_word text = is_word text (codes "st") || is_word text (codes "s.t.") || is_word text (codes "st.")

-- two words for the rows
abbrev pub are_rows_words : List ℕ → List ℕ → Bool
are_rows_words text after =
    (is_word text (codes "subject") && is_word after (codes "to")) || (is_word text (codes "such") && is_word after (codes "that"))

abbrev pub is_bounds_word : List ℕ → Bool
is_bounds_word text = is_word text (codes "bounds") || is_word text (codes "bound")

abbrev pub is_whole_word : List ℕ → Bool
is_whole_word text =
    is_word text (codes "general") || is_word text (codes "generals") || is_word text (codes "gen")
    || is_word text (codes "integer") || is_word text (codes "integers") || is_word text (codes "int")
    || is_word text (codes "binary") || is_word text (codes "binaries") || is_word text (codes "bin")
    || is_word text (codes "semi") || is_word text (codes "semis")
    || is_word text (codes "sos") || is_word text (codes "sos1") || is_word text (codes "sos2")

-- a name where no section word may stand
abbrev pub plain_class : List ℕ → Class
plain_class text =
    if is_word text (codes "free") then classes.Free else
    if is_word text (codes "inf") || is_word text (codes "infinity") then classes.Infinity else classes.Name

-- a name that is the first token of its line and isn't followed by `:`
abbrev pub head_class : List ℕ → List ℕ → Class
head_class text after =
    if is_least text then classes.Goal senses.Min else
    if is_greatest text then classes.Goal senses.Max else
    if is_rows_word text then classes.Rows else
    if are_rows_words text after then classes.RowsPair else
    if is_bounds_word text then classes.Bounds else
    if is_word text (codes "end") then classes.End else
    if is_whole_word text then classes.Whole else plain_class text

-- relations, signs and the colon; any other text is a byte of no token
abbrev pub sign_class : List ℕ → Class
sign_class text =
    if is_word text (codes "<") || is_word text (codes "<=") || is_word text (codes "=<") then classes.Relation relations.AtMost else
    if is_word text (codes ">") || is_word text (codes ">=") || is_word text (codes "=>") then classes.Relation relations.AtLeast else
    if is_word text (codes "=") then classes.Relation relations.Equal else
    if is_word text (codes "+") then classes.Plus else
    if is_word text (codes "-") then classes.Minus else
    if is_word text (codes ":") then classes.Colon else classes.Bad

-- the class of a token before another of this text; no text stands behind the last
abbrev pub class_by : List ℕ → Bool → List ℕ → Class
class_by text first after =
    if is_number text then classes.Number else
    if is_name text then (if first && not (is_word after (codes ":")) then head_class text after else plain_class text) else
    sign_class text

abbrev pub first_text : List Word → List ℕ
first_text [] = []
first_text (w ∷ ws) = w.text

-- a token with its class
pub record Symbol : Type 0 where
  pub class : Class
  pub text : List ℕ
  pub line : ℕ

abbrev pub symbol_of : Word → List ℕ → Symbol
symbol_of w after = record { class = class_by w.text w.first after; text = w.text; line = w.line }

abbrev pub symbols : List Word → List Symbol
symbols [] = []
symbols (w ∷ ws) = symbol_of w (first_text ws) ∷ symbols ws
