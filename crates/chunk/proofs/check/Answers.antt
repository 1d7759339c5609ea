use Rattle.fields.proofs.Base.{eq-eqb, ne_eqb, ◌≡◌, sym, ap, ◌∙◌}
use Rattle.entries.specs.declared.Kind.TheVariants.{Listing, Index}
use Rattle.chunk_fields.specs.ChunkFields.{spacing_of}
use Rattle.chunk.specs.Chunk.{parsed_as, parsed}
use Rattle.chunk.specs.Answer.{chunk_of}
use Rattle.chunk.proofs.check.Goals as goal

pub returns-then-c-ne4096 : goal.returns-then-c-ne4096
unfolding parsed
returns-then-c-ne4096 c = simp (ne_eqb _ _ c.if-c-ne4096.true)

pub returns-then-has_tag : goal.returns-then-has_tag
unfolding parsed
returns-then-has_tag c =
    let as_listing : let a = c.args in
    parsed a.limits a.c.now ≡ parsed_as (spacing_of a.limits.density) a.limits Listing a.c.now =
    simp (eq-eqb _ _ c.if-c-ne4096.false, sym c.has_tag.ensures ∙ c.if-has_tag.true) in
    c.check_kind.ensures ∙ ap chunk_of (sym (as_listing))

pub returns-then-has_tag-2 : goal.returns-then-has_tag-2
unfolding parsed
returns-then-has_tag-2 c =
    let as_index : let a = c.args in
    parsed a.limits a.c.now ≡ parsed_as (spacing_of a.limits.density) a.limits Index a.c.now =
    simp (eq-eqb _ _ c.if-c-ne4096.false, sym c.has_tag.ensures ∙ c.if-has_tag.false, sym c.has_tag-2.ensures ∙ c.if-has_tag-2.true) in
    c.check_kind-then-has_tag-2.ensures ∙ ap chunk_of (sym (as_index))

pub returns : goal.returns
unfolding parsed
returns c = simp (eq-eqb _ _ c.if-c-ne4096.false, sym c.has_tag.ensures ∙ c.if-has_tag.false, sym c.has_tag-2.ensures ∙ c.if-has_tag-2.false)
