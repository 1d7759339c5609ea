use Rattle.fields.proofs.Base.{sym, ◌∙◌, arith}
use Rattle.fields.specs.Le.{bytes}
use Rattle.fields.proofs.Le.{length_bytes}
use Rattle.put.proofs.Put.{put_refused, put_done}
use Rattle.put.proofs.put_number.Goals as goal

pub returns-then-out-at : goal.returns-then-out-at
returns-then-out-at c = let a = c.args in
    let p = put_refused a.out.now a.at a.k (bytes a.k a.v) (length_bytes a.k a.v) (omega arith) in
    record { answer = sym p.0; written = sym p.1 }

pub returns-then-out-at-2 : goal.returns-then-out-at-2
returns-then-out-at-2 c = let a = c.args in
    let p = put_refused a.out.now a.at a.k (bytes a.k a.v) (length_bytes a.k a.v) (omega arith) in
    record { answer = sym p.0; written = sym p.1 }

pub returns : goal.returns
returns c = let a = c.args in
    let p = put_done a.out.now a.at a.k (bytes a.k a.v) (length_bytes a.k a.v) (omega arith) in
    record { answer = sym p.0; written = c.write_number.ensures ∙ sym p.1 }
