-- The numbers of docs/DECISIONS.md: how many objects, blocks and unknown elements there can be, and the room that holds the tables of every payload. They
-- hold of every payload that is accepted, with the reserved content flag or without it.
use Rattle.std.specs.Prelude.{◌≡◌, refl, List, ℕ, ◌*◌, ◌≤◌, length}
use Rattle.std.proofs.Common.{ap, true≢false, arith, mul-le-mul}
use Rattle.std.proofs.lemmas.Bool.{false≢true}
use Rattle.std.proofs.Math.Option.{Option, none, some}
use Rattle.bits.specs.declared.Refusal.TheVariants.{Room}
use Rattle.bits.specs.Refusals.{number_of}
use Rattle.bits.specs.Language.{ok}
use Rattle.oamd.specs.Tables.{room_bytes, most_trim}
use Rattle.oamd.specs.Trim.{trim_needed}
use Rattle.oamd.specs.Timing.{timing_of}
use Rattle.oamd.specs.ObjectElement.{ObjectElement}
use Rattle.oamd.specs.Element.{there}
use Rattle.oamd.specs.Payload.{Payload, timing, tables}
use Rattle.oamd.specs.Answer.{Outcome, needed, reading}
use Rattle.demands.specs.Terms.{parsed, tables_of}
use Rattle.demands.specs.Conditions.{Short, records-short, trim-short}
use Rattle.demands.specs.Lemmas.Reading.{Case, long, stopped, full, read, case, read_of, refusal-of}
use Rattle.demands.specs.Lemmas.Limits.{Blocked, limits}
use Rattle.demands.specs.Promises.{BlocksBy, Numbers}

-- ---- objects, blocks, unknown elements

blocks_by : (o : Option ObjectElement) → Blocked o → BlocksBy (there o) (timing o).blocks
unfolding timing timing_of
blocks_by none h = record { with = λ q. absurd (false≢true q); without = λ q. refl }
blocks_by (some e) h =
    let least = h.some in
    let most = h.few in
    record { with = λ q. omega arith; without = λ q. absurd (true≢false q) }

blocks_most : (o : Option ObjectElement) → Blocked o → (timing o).blocks ≤ 8
unfolding timing timing_of
blocks_most none h = omega arith
blocks_most (some e) h = h.few

-- of a payload as read
pub blocks-read : (s : List ℕ) {q : Payload} {to : ℕ} → parsed s ≡ ok q to → BlocksBy (there q.known.object) (tables_of q).timing.blocks
unfolding tables
blocks-read s {q} h = blocks_by q.known.object (limits s h).object

pub numbers : (frame : ℕ) (s buffer trim : List ℕ) → (reading frame s buffer trim).answer.refusal ≡ 0
    → (q : Payload) × (to : ℕ) × (parsed s ≡ ok q to) × Numbers q (reading frame s buffer trim)
unfolding tables
numbers frame s buffer trim accepted =
    let r = read_of frame s buffer trim accepted in
    let l = limits s r.ran in
    let some = l.some in
    let few = l.few in
    let unknown = l.unknown in
    (r.payload, r.to, r.ran, rw r.is (record { objects = omega arith; blocks = blocks-read s r.ran; unknown = omega arith }))

-- ---- the room

-- the records of no payload need more than 40,704 bytes, and its trim table no more than 253
pub room_most : (s : List ℕ) {q : Payload} {to : ℕ} → parsed s ≡ ok q to → (needed (tables_of q) ≤ 40704) × (trim_needed q.programme.objects ≤ 253)
unfolding tables
room_most s {q} h =
    let l = limits s h in
    let few = l.few in
    let objects : ℕ = q.programme.objects in
    let blocks : ℕ = (timing q.known.object).blocks in
    let m : objects * blocks ≤ 159 * 8 = mul-le-mul few (blocks_most q.known.object l.object) in
    (omega arith, omega arith)

-- A buffer of 40,960 bytes for the records and one of 253 for the trim table are never too short.
pub roomy : (frame : ℕ) (s buffer trim : List ℕ) → room_bytes ≤ length buffer → most_trim ≤ length trim → (reading frame s buffer trim).answer.refusal ≡ number_of Room → ⊥
unfolding tables
roomy frame s buffer trim room trim-room nine = go (case frame s buffer trim)
  where
    lacks : (q : Payload) (to pl : ℕ) → parsed s ≡ ok q to → Short buffer trim (needed (tables_of q)) (trim_needed q.programme.objects) pl → ⊥
    lacks q to pl h (records-short l e) = let m = room_most s h in omega arith
    lacks q to pl h (trim-short f l e) = let m = room_most s h in omega arith

    go : Case frame s buffer trim → ⊥
    go (long l e) = omega (arith, refusal-of e)
    go (stopped r pl m l h two eight e) = omega (arith, refusal-of e)
    go (full q to pl l h x e) = lacks q to pl h x
    go (read q to l h f g e) = omega (arith, ap (λ (o : Outcome). o.answer.refusal) e)
