use Rattle.fields.proofs.Base.{◌≡◌, ap, ℕ, ◌+◌, arith, length, sets}
use Rattle.fields.specs.Part.{part}
use Rattle.put.proofs.Put.{sets_then}
use Rattle.encint.specs.Encint.{encoded}
use Rattle.compose.proofs.Words.{written}
use Rattle.compose.proofs.put_name.Goals.{After-write}
use Rattle.compose.proofs.put_name.Goals as goal

-- the name's length, as it is written
number_at : (c : After-write) → (c.write.result ≡ length (encoded c.args.n)) × (c.write.new.out ≡ sets c.args.out.now c.args.at (encoded c.args.n))
number_at c = written c.args.out.now c.args.at c.args.n _ _ (omega (arith, c.requires.0)) c.write.ensures.count c.write.ensures.bytes

pub returns : goal.returns
returns c =
    let a = c.args in
    let x = number_at (goal.at.returns c).After-write in (
      omega (arith, x.0),
      sets_then a.at (a.at + c.write.result) (encoded a.n) (part a.input.now a.start a.n) a.out.now _ _ x.1 (ap (λ (m : ℕ). a.at + m) x.0) c.put_run.ensures,
    )
