use Rattle.fields.proofs.Base.{◌≡◌, ap, ℕ, ◌+◌, arith, length, sets}
use Rattle.encint.specs.Encint.{encoded}
use Rattle.compose.proofs.Words.{written, three}
use Rattle.compose.proofs.put_numbers.Goals.{After-write, After-write-2}
use Rattle.compose.proofs.put_numbers.Goals as goal

-- the first two numbers, as they are written
first_number : (c : After-write) → (c.write.result ≡ length (encoded c.args.section)) × (c.write.new.out ≡ sets c.args.out.now c.args.at (encoded c.args.section))
first_number c = written c.args.out.now c.args.at c.args.section _ _ (omega arith) c.write.ensures.count c.write.ensures.bytes

second_number : (c : After-write-2) → (c.write-2.result ≡ length (encoded c.args.offset)) × (c.write-2.new.out ≡ sets c.write.new.out (c.args.at + c.write.result) (encoded c.args.offset))
second_number c =
    let x = written c.args.out.now c.args.at c.args.section _ _ (omega arith) c.write.ensures.count c.write.ensures.bytes in
    written c.write.new.out (c.args.at + c.write.result) c.args.offset _ _ (omega (arith, x.0, c.write.auto.out)) c.write-2.ensures.count c.write-2.ensures.bytes

pub returns : goal.returns
returns c =
    let a = c.args in
    let x = first_number (goal.at.returns c).After-write in
    let y = second_number (goal.at.returns c).After-write-2 in
    let z =
    written c.write-2.new.out (a.at + c.write.result + c.write-2.result) a.size _ _
    (omega (arith, x.0, y.0, c.write.auto.out, c.write-2.auto.out)) c.write-3.ensures.count c.write-3.ensures.bytes in
    three a.out.now _ _ _ a.at _ _ (encoded a.section) (encoded a.offset) (encoded a.size) x.1 (ap (λ (m : ℕ). a.at + m) x.0) y.1
    (ap (λ (m : ℕ). a.at + c.write.result + m) y.0) z.1
