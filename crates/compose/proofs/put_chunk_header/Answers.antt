use Rattle.fields.proofs.Base.{sym, ap, ◌∙◌, [], ◌∷◌, arith, sets}
use Rattle.put.proofs.Put.{put_inside}
use Rattle.entries.specs.declared.Kind.{Kind}
use Rattle.compose.specs.NewChunk.{chunk_header}
use Rattle.compose.proofs.Words.{length_words}
use Rattle.compose.proofs.Entries.{words_listing, words_index}
use Rattle.compose.proofs.put_chunk_header.Goals as goal

pub returns-in-Listing : goal.returns-in-Listing
returns-in-Listing c = let a = c.args in
    c.put_words.ensures.written
    ∙ put_inside a.out.now 0 _ (omega (arith, c.requires, length_words (0x4C47_4D50 ∷ a.tail ∷ 0 ∷ a.prev ∷ a.next ∷ [])))
    ∙ ap (sets a.out.now 0) (words_listing a.tail a.prev a.next ∙ ap (λ (k : Kind). chunk_header k a.tail a.prev a.next) (sym c.in-Listing.is))

pub returns-in-Index : goal.returns-in-Index
returns-in-Index c = let a = c.args in
    c.put_words-in-Index.ensures.written
    ∙ put_inside a.out.now 0 _ (omega (arith, c.requires, length_words (0x4947_4D50 ∷ a.tail ∷ [])))
    ∙ ap (sets a.out.now 0) (words_index a.tail a.prev a.next ∙ ap (λ (k : Kind). chunk_header k a.tail a.prev a.next) (sym c.in-Index.is))
