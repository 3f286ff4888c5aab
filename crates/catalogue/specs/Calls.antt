-- The calls on a segment and on a text by themselves, behind no other: what is answered, and the lent buffers afterwards.
use Rattle.std.specs.Prelude.{List, ℕ}
use Rattle.catalogue.specs.declared.CatalogueAnswer.{CatalogueAnswer}
use Rattle.catalogue.specs.declared.BackAnswer.{BackAnswer}
use Rattle.catalogue.specs.Answer.{Catalogued, cataloguing, none_before, Backed, reading_back}

pub record CataloguedAlone : Type 0 where
  pub answer : CatalogueAnswer
  pub text : List ℕ

abbrev pub without_before : Catalogued → CataloguedAlone
without_before o = record { answer = o.answer; text = o.text }

unfoldable pub cataloguing_alone : List ℕ → List ℕ → List ℕ → List ℕ → List ℕ → CataloguedAlone
cataloguing_alone store starts lengths frames text = without_before (cataloguing store starts lengths frames none_before text)

pub record BackedAlone : Type 0 where
  pub answer : BackAnswer
  pub lines : List ℕ
  pub records : List ℕ

abbrev pub back_without_before : Backed → BackedAlone
back_without_before o = record { answer = o.answer; lines = o.lines; records = o.records }

unfoldable pub reading_back_alone : List ℕ → List ℕ → List ℕ → BackedAlone
reading_back_alone text lines records = back_without_before (reading_back text none_before lines records)
