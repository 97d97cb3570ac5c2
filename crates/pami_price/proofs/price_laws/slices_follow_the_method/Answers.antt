use Rattle.pami_price.proofs.Priced.{slice_is}
use Rattle.pami_price.proofs.price_laws.slices_follow_the_method.Goals as goal

pub returns : goal.returns
returns c = record { script = slice_is }
