-- Words that are put together, and the words of operations.
use Rattle.std.specs.Prelude.{ℕ, List, ◌++◌, codes, decimal}
use Rattle.std.specs.List.{flat_map}
use Rattle.pami_frac.specs.declared.arithmetic.Op.{Op}
use Rattle.pami_frac.specs.declared.arithmetic.Op.TheVariants.{Add, Sub, Mul, Div}

-- numbers behind a word, each with a dash before it
abbrev pub dashed : List ℕ → List ℕ → List ℕ
dashed word numbers = word ++ flat_map (λ n. codes "-" ++ decimal n) numbers

abbrev pub operation_word : Op → List ℕ
operation_word Add = codes "add"
operation_word Sub = codes "sub"
operation_word Mul = codes "mul"
operation_word Div = codes "div"
