-- What a reader's tokens say, without where they lie.
use Rattle.std.specs.Prelude.{List, map}
use Rattle.pami_lp_text.specs.declared.token.Token.{Token}
use Rattle.pami_lp_text.specs.Lexeme.{Word, word}

abbrev pub told : Token → Word
told t = word t.text.now t.line t.first

abbrev pub all_told : List Token → List Word
all_told ts = map told ts
