use Rattle.fields.proofs.Base.{sym, ◌∙◌, arith}
use Rattle.content.proofs.Contents.{content_zero, content_other, content_outside}
use Rattle.content.proofs.content_part.Goals as goal

pub returns-then-x-ne0 : goal.returns-then-x-ne0
returns-then-x-ne0 c = let a = c.args in
    sym (content_other a.file.now a.book a.x (omega arith))

pub returns-then-file-start : goal.returns-then-file-start
returns-then-file-start c = let a = c.args in
    sym (content_outside a.file.now a.book a.x (omega arith) (omega arith))

pub returns-then-file-start-2 : goal.returns-then-file-start-2
returns-then-file-start-2 c = let a = c.args in
    sym (content_outside a.file.now a.book a.x (omega arith) (omega arith))

pub returns : goal.returns
returns c = let a = c.args in
    c.part.ensures ∙ sym (content_zero a.file.now a.book a.x (omega arith))
