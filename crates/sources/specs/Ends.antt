-- Every chain ends: the fuel of `steps_from` suffices.
use Rattle.std.specs.Prelude.{◌≡◌, false, List, ℕ, ◌+◌, ◌-◌, ◌≤◌, ◌<◌, length}
use Rattle.std.proofs.Common.{arith}
use Rattle.bits.specs.Language.{ok}
use Rattle.oamd.specs.Tables.{record_bytes, most_blocks}
use Rattle.oamd.specs.Payload.{Payload}
use Rattle.demands.specs.Terms.{parsed}
use Rattle.demands.specs.Lemmas.Limits.{limits}
use Rattle.sources.specs.Chain.{objects_in, blocks_in, source_at, Step, steps_from}
use Rattle.sources.specs.Explaining.{most_steps, value_at}
use Rattle.sources.specs.Given.{gain_byte, is_link, last_of, own_at}
use Rattle.sources.specs.Lemmas.Blocks.{few-blocks}
use Rattle.sources.specs.Lemmas.Chains.{Led, led}
use Rattle.sources.specs.Follows.{follows}

-- The steps from block b of object j back: there is one, and at most one more for each block and each object before; the last has none of the sources that go on, and stands no further than
-- object j and block b; an answer has room for them. Only the gain goes to another object.
pub record Ends (byte j b : ℕ) (steps : List Step) : Type 0 where
  pub some : 1 ≤ length steps
  pub few : length steps ≤ j + b + 1
  pub last : (none : Step) → is_link (last_of none steps).source ≡ false
  pub near : (none : Step) → ((last_of none steps).object ≤ j) × ((last_of none steps).block ≤ b)
  pub fits : length steps ≤ most_steps
  pub straight : (byte ≡ gain_byte → ⊥) → (length steps ≤ b + 1) × (length steps ≤ most_blocks)

module _ (s : List ℕ) {q : Payload} {to : ℕ} (h : parsed s ≡ ok q to) (byte j b : ℕ) (n : byte < record_bytes) (l : j < objects_in q) (m : b < blocks_in q) where
  abbrev steps : List Step
  steps = steps_from (source_at s q byte) j b

  back : (side : ℕ → ℕ) → ((j : ℕ) → 0 < j → byte ≡ gain_byte → side (j - 1) < side j) → side j ≤ j → Led byte (source_at s q byte) (value_at q byte) (side j) j b steps
  back side nearer few =
      led byte (source_at s q byte) (value_at q byte) (own_at q byte) (objects_in q) (blocks_in q) (λ j b l m. follows s h byte j b n l m) side nearer (j + b + 1) j b l m (omega arith)

  pub led-from : Led byte (source_at s q byte) (value_at q byte) j j b steps
  led-from = back (λ j. j) (λ j k g. omega arith) (omega arith)

  pub ends : Ends byte j b steps
  ends =
      let few = led-from.few in
      let objects = (limits s h).few in
      let blocks = few-blocks s h b m in
      record {
        some = led-from.some;
        few = few;
        last = λ none. (led-from.last none).1;
        near = led-from.near;
        fits = omega arith;
        straight = λ other. let alone = (back (λ j. 0) (λ j k g. absurd (other g)) (omega arith)).few in (omega arith, omega arith);
      }
