-- What the end of a chain amounts to is the byte that was asked for.
use Rattle.std.specs.Prelude.{◌≡◌, refl, List, map, ℕ, ◌≤◌, ◌<◌, get_or}
use Rattle.std.proofs.Common.{ap, ◌∙◌}
use Rattle.std.proofs.lemmas.List.{length-map}
use Rattle.bits.specs.Language.{ok}
use Rattle.oamd.specs.Tables.{record_bytes}
use Rattle.oamd.specs.Payload.{Payload}
use Rattle.demands.specs.Terms.{parsed}
use Rattle.sources.specs.declared.WhyAnswer.{WhyAnswer}
use Rattle.sources.specs.declared.Source.TheVariants.{ByNothing}
use Rattle.sources.specs.Chain.{objects_in, blocks_in, source_at, Step, steps_from}
use Rattle.sources.specs.Explaining.{most_steps, value_at, told, no_step, steps_told, explaining}
use Rattle.sources.specs.Given.{last_of, amount, amount_told, steps_in}
use Rattle.sources.specs.Lemmas.Answering.{told-amount, first-map, last-map, end-number, explained_of, steps-in}
use Rattle.sources.specs.Ends.{led-from, ends}

-- The byte at the last step, brought back through the steps, each of which hands it on as it is or moved and held to its range, is the record's byte at the first.
pub amounts : (s : List ℕ) {q : Payload} {to : ℕ} → parsed s ≡ ok q to → (byte j b : ℕ) → byte < record_bytes → j < objects_in q → b < blocks_in q → (none : Step)
    → let steps = steps_from (source_at s q byte) j b in
    amount byte steps (value_at q byte (last_of none steps).object (last_of none steps).block) ≡ value_at q byte j b
amounts s h byte j b n l m none = (led-from s h byte j b n l m).amounts none

-- The same of an answer that refuses nothing, by its numbers alone: it has room for its steps, they begin with the record's byte and end with a source below 6, and the last value amounts
-- to that byte.
pub record Amounts (s : List ℕ) (object block byte : ℕ) (a : WhyAnswer) : Type 0 where
  pub payload : Payload
  pub to : ℕ
  pub ran : parsed s ≡ ok payload to
  pub some : 1 ≤ a.count
  pub fits : a.count ≤ most_steps
  pub first : (get_or (steps_in a) 0 no_step).value ≡ value_at payload byte object block
  pub end : (last_of no_step (steps_in a)).source < 6
  pub is : amount_told byte (steps_in a) (last_of no_step (steps_in a)).value ≡ value_at payload byte object block

pub answer-amounts : (s : List ℕ) (object block byte : ℕ) → (explaining s object block byte).refusal ≡ 0 → Amounts s object block byte (explaining s object block byte)
unfolding steps_told told
answer-amounts s object block byte h =
    let x = explained_of s object block byte h in
    let q = x.payload in
    let steps = steps_from (source_at s q byte) object block in
    let r = led-from s x.ran byte object block x.byte_there x.object_there x.block_there in
    let none : Step = record { object = 0; block = 0; source = ByNothing } in
    let told = told s q byte in
    let same : steps_in (explaining s object block byte) ≡ map told steps = ap steps_in x.is ∙ steps-in (map told steps) in
    let count = ap (λ (a : WhyAnswer). a.count) x.is in
    let last = last-map told no_step none steps r.some in
    record {
      payload = q;
      to = x.to;
      ran = x.ran;
      some = rw (count, length-map steps told) r.some;
      fits = rw (count, length-map steps told) (ends s x.ran byte object block x.byte_there x.object_there x.block_there).fits;
      first = rw (same, first-map told no_step none steps r.some, (r.first none).0, (r.first none).1) refl;
      end = rw (same, last) (end-number (last_of none steps).source (r.last none).1);
      is = rw (same, last) (told-amount s q byte steps _ ∙ r.amounts none);
    }
