-- What the whole call answers: by whether there is room for every entry. Assumes nothing.
use mathlib.Core.Path.{◌≡◌, refl, ◌∙◌}
use mathlib.Core.Bool.{Bool, true, false, false≢true}
use mathlib.Core.List.{List}
use Prim.Native.Nat.{ℕ, ◌*◌}
use lib.Dec.{leb, eqb}
use lib.ListN.{length}
use borrow.Author.Tests.{leb-true, eqb-true}
use Rattle.bits.specs.declared.Refusal.TheVariants.{Lists}
use Rattle.bits.specs.Refusals.{number_of}
use Rattle.bits.specs.Language.{both}
use Rattle.oamd.specs.Tables.{answer_bytes}
use Rattle.oamd.specs.declared.BatchAnswer.{BatchAnswer}
use Rattle.oamd.specs.Batch.{Shelf, shelved, roomy, Batched, batched_with, batching}
use Rattle.batch.specs.Parts.{Roomy}

halves : (a b : Bool) → both a b ≡ true → (a ≡ true) × (b ≡ true)
halves true b h = (refl, h)
halves false b h = absurd (false≢true h)

pub room_for : (starts lengths frames recordslot trimslot : ℕ) (records trims answers : List ℕ)
    → roomy starts lengths frames recordslot trimslot (length records) (length trims) (length answers) ≡ true
    → Roomy starts lengths frames recordslot trimslot records trims answers
unfolding roomy
room_for starts lengths frames recordslot trimslot records trims answers h =
    let a = halves (both (eqb lengths starts) (eqb frames starts)) _ h in
    let lists = halves (eqb lengths starts) _ a.0 in
    let b = halves (leb (starts * recordslot) (length records)) _ a.1 in
    let c = halves (leb (starts * trimslot) (length trims)) _ b.1 in
    record {
      lists = eqb-true lengths starts lists.0;
      numbered = eqb-true frames starts lists.1;
      record-slots = leb-true (starts * recordslot) (length records) b.0;
      trim-slots = leb-true (starts * trimslot) (length trims) c.0;
      places = leb-true (starts * answer_bytes) (length answers) c.1;
    }

abbrev called : BatchAnswer → Shelf → Batched
called answer x = record { answer = answer; shelf = x }

module _ (store starts lengths frames : List ℕ) (recordslot trimslot : ℕ) (x : Shelf) where
  abbrev rooms : Bool
  rooms = roomy (length starts) (length lengths) (length frames) recordslot trimslot (length x.records) (length x.trims) (length x.answers)

  pub no_room : {r : BatchAnswer} {number : ℕ} → r ≡ batched_with number (length starts) → number ≡ number_of Lists → rooms ≡ false
      → called r x ≡ batching store starts lengths frames recordslot trimslot x
  unfolding batching
  no_room e f h = rw h ((λ i. called (e i) x) ∙ (λ i. called (batched_with (f i) (length starts)) x))

  pub shelf-read : {r : BatchAnswer} {y : Shelf} → r ≡ batched_with 0 0 → rooms ≡ true → y ≡ shelved store starts lengths frames recordslot trimslot x
      → called r y ≡ batching store starts lengths frames recordslot trimslot x
  unfolding batching
  shelf-read e h f = rw h (λ i. called (e i) (f i))
