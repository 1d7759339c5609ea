use Rattle.fields.proofs.Base.{refl}
use Rattle.numbers.specs.Numbers.{record_in}
use Rattle.numbers.proofs.record_in.Goals as goal

pub returns : goal.returns
unfolding record_in
returns c = refl
