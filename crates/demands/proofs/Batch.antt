-- A shelf read all at once: when the call is refused, what it leaves of each entry, what it leaves alone, and demand 3 for each payload.
use Rattle.std.specs.Prelude.{◌≡◌, refl, Bool, true, false, List, ◌↔◌, ℕ, ◌+◌, ◌*◌, ◌<◌, length, take, drop}
use Rattle.std.proofs.Common.{sym, ap, ◌∙◌, subst, ⊎_elim, arith, leb-true, eqb-true, le-leb, eq-eqb}
use Rattle.std.proofs.lemmas.Bool.{false≢true}
use Rattle.bits.specs.declared.Refusal.TheVariants.{Outside, Lists}
use Rattle.bits.specs.Refusals.{number_of}
use Rattle.bits.specs.Language.{both}
use Rattle.bits.specs.Steps.{by_order}
use Rattle.oamd.specs.Tables.{answer_bytes}
use Rattle.oamd.specs.Answer.{Outcome, refused, reading}
use Rattle.oamd.specs.Batch.{answer_at, entry, shelved, roomy, Batched, batched_with, batching}
use Rattle.demands.specs.Promises.{Accepts, Refuses, Change, After, Call, batched, Roomy, slot, start_of, length_of, frame_of, payload_at, entry_of, Holds, Beyond, Stored, InTypes}
use Rattle.demands.specs.Answers.{answers}
use Rattle.demands.proofs.Demand3.{demand_3}
use Rattle.demands.specs.Lemmas.AnswerBytes.{answer_back}
use Rattle.demands.proofs.Lemmas.Shelves.{inside_is, outside_is, Room, entry-stands, rest-stays}

-- ---- the call

halves : (a b : Bool) → both a b ≡ true → (a ≡ true) × (b ≡ true)
halves true b h = (refl, h)
halves false b h = absurd (false≢true h)

together : (a b : Bool) → a ≡ true → b ≡ true → both a b ≡ true
together true b f g = g
together false b f g = absurd (false≢true f)

abbrev rooms : Call → Bool
rooms c =
    roomy (length c.starts) (length c.lengths) (length c.frames) c.recordslot c.trimslot (length c.shelf.records) (length c.shelf.trims) (length c.shelf.answers)

to-rooms : (c : Call) → Roomy c → rooms c ≡ true
unfolding roomy
to-rooms c r =
    together _ _ (together _ _ (eq-eqb _ _ r.lists) (eq-eqb _ _ r.frames))
    (together _ _ (le-leb _ _ r.records) (together _ _ (le-leb _ _ r.trims) (le-leb _ _ r.places)))

from-rooms : (c : Call) → rooms c ≡ true → Roomy c
unfolding roomy
from-rooms c h =
    let a = halves _ _ h in
    let e = halves _ _ a.0 in
    let b = halves _ _ a.1 in
    let d = halves _ _ b.1 in
    record { lists = eqb-true _ _ e.0; frames = eqb-true _ _ e.1; records = leb-true _ _ b.0; trims = leb-true _ _ d.0; places = leb-true _ _ d.1 }

-- with room for all, every entry is read
pub batch-read : (c : Call) → Roomy c
    → batched c ≡ record { answer = batched_with 0 0; shelf = shelved c.store c.starts c.lengths c.frames c.recordslot c.trimslot c.shelf }
unfolding batching
batch-read c r = rw (to-rooms c r) refl

-- The whole call is refused with 13 exactly when lists are of unequal length, or slots or places lack room: at the number of starts, with every buffer as it came.
pub batch_when : (c : Call) → (batched c ≡ record { answer = batched_with (number_of Lists) (length c.starts); shelf = c.shelf }) ↔ (Roomy c → ⊥)
unfolding batching
batch_when c = (
  λ e r. absurd (let z = ap (λ b. b.answer.refusal) (sym (batch-read c r) ∙ e) in omega arith),
  λ lacks. go (rooms c) refl lacks,
)
  where
    go : (t : Bool) → rooms c ≡ t → (Roomy c → ⊥) → batched c ≡ record { answer = batched_with (number_of Lists) (length c.starts); shelf = c.shelf }
    go true e lacks = absurd (lacks (from-rooms c e))
    go false e lacks = rw e refl

-- else it is not refused, whatever its entries are
pub batch-accepted : (c : Call) → ((batched c).answer.refusal ≡ 0) ↔ Roomy c
unfolding batching
batch-accepted c = (λ e. go (rooms c) refl e, λ r. rw (to-rooms c r) refl)
  where
    go : (t : Bool) → rooms c ≡ t → (batched c).answer.refusal ≡ 0 → Roomy c
    go true e z = from-rooms c e
    go false e z = absurd (let y : 13 ≡ 0 = rw e at z in omega arith)

-- ---- its entries

room_of : (c : Call) → Roomy c → Room c.store c.recordslot c.trimslot (length c.starts) c.shelf
room_of c r = record { records = r.records; trims = r.trims; places = r.places }

-- Entry i leaves in its place and its slots what it comes to by itself, whatever the others are.
pub batch-entry : (c : Call) (i : ℕ) → Roomy c → i < length c.starts → Holds c i (entry_of c i)
batch-entry c i r h =
    let x = entry-stands c.store c.recordslot c.trimslot c.starts c.lengths c.frames c.shelf i r.lists r.frames (room_of c r) h in
    let is = batch-read c r in
    record {
      place = ap (λ (b : Batched). slot answer_bytes i b.shelf.answers) is ∙ x.place;
      records = ap (λ (b : Batched). slot c.recordslot i b.shelf.records) is ∙ x.records;
      trim = ap (λ (b : Batched). slot c.trimslot i b.shelf.trims) is ∙ x.trim;
    }

-- and that is what a read of its payload alone gives, with its frame
pub stored-entry : (c : Call) (i : ℕ) → Stored c i
    → Holds c i (reading (frame_of c i) (payload_at c i) (slot c.recordslot i c.shelf.records) (slot c.trimslot i c.shelf.trims))
stored-entry c i s =
    subst (Holds c i) (inside_is (frame_of c i) c.store (start_of c i) (length_of c i) _ _ s.inside) (batch-entry c i s.roomy s.listed)

-- A place says all that the answer of a single read says: taken apart again, it is that answer.
pub place-says : (c : Call) (i : ℕ) → Roomy c → i < length c.starts → InTypes (entry_of c i).answer
    → answer_at (slot answer_bytes i (batched c).shelf.answers) 0 ≡ (entry_of c i).answer
place-says c i r h t = ap (λ (s : List ℕ). answer_at s 0) (batch-entry c i r h).place ∙ answer_back (entry_of c i).answer t

-- What lies behind the last slots and the last place stays.
pub batch-rest : (c : Call) → Roomy c → Beyond c
batch-rest c r =
    let x = rest-stays c.store c.recordslot c.trimslot c.starts c.lengths c.frames c.shelf r.lists r.frames (room_of c r) in
    let is = batch-read c r in
    record {
      records = ap (λ (b : Batched). drop (length c.starts * c.recordslot) b.shelf.records) is ∙ x.records;
      trims = ap (λ (b : Batched). drop (length c.starts * c.trimslot) b.shelf.trims) is ∙ x.trims;
      answers = ap (λ (b : Batched). drop (length c.starts * answer_bytes) b.shelf.answers) is ∙ x.answers;
    }

-- An entry is refused with 12 exactly when it leaves the store: at its start, with both slots as they came.
pub outside_when : (frame : ℕ) (store : List ℕ) (start len : ℕ) (records trim : List ℕ) (place : ℕ)
    → (entry frame store start len records trim ≡ refused records trim (number_of Outside) place 0) ↔ ((length store < start + len) × (place ≡ start))
outside_when frame store start len records trim place = (
  λ e. by_order (start + len) (length store)
      (λ h. absurd (inside_less (sym (inside_is frame store start len records trim h) ∙ e)))
      (λ h. (h, sym (ap (λ (o : Outcome). o.answer.place) (sym (outside_is frame store start len records trim h) ∙ e)))),
  λ h. outside_is frame store start len records trim h.0 ∙ ap (λ (p : ℕ). refused records trim (number_of Outside) p 0) (sym h.1),
)
  where
    inside_less : reading frame (take len (drop start store)) records trim ≡ refused records trim (number_of Outside) place 0 → ⊥
    inside_less e = ⊎_elim
        (λ (x : Accepts frame records trim (reading frame (take len (drop start store)) records trim)).
        let z = sym x.refusal ∙ ap (λ (o : Outcome). o.answer.refusal) e in omega arith)
        (λ (x : Refuses records trim (reading frame (take len (drop start store)) records trim)).
        let z = sym (ap (λ (o : Outcome). o.answer.refusal) x.outcome) ∙ ap (λ (o : Outcome). o.answer.refusal) e in omega (arith, x.high))
        (answers frame (take len (drop start store)) records trim)

-- ---- demand 3, for each payload

-- Let entry i of one call be accepted, and let entry j of another come with the same frame and with equal slots, its payload that of i with bytes appended or cut, or with an
-- unknown element added, removed or altered. Then what the second call leaves of j, beside what the first leaves of i, is what demand 3 says of single reads.
pub batch_demand_3 : (c d : Call) (i j : ℕ) → Stored c i → Stored d j → (frame : ℕ) (records trim : List ℕ) → frame_of c i ≡ frame → frame_of d j ≡ frame
    → slot c.recordslot i c.shelf.records ≡ records → slot c.trimslot i c.shelf.trims ≡ trim
    → slot d.recordslot j d.shelf.records ≡ records → slot d.trimslot j d.shelf.trims ≡ trim
    → (reading frame (payload_at c i) records trim).answer.refusal ≡ 0 → Change (payload_at c i) (payload_at d j)
    → Holds c i (reading frame (payload_at c i) records trim) × Holds d j (reading frame (payload_at d j) records trim)
    × After frame (payload_at c i) (payload_at d j) records trim
batch_demand_3 c d i j s t frame records trim cf df cr ct dr dt accepted change = (
  subst (Holds c i) (λ k. reading (cf k) (payload_at c i) (cr k) (ct k)) (stored-entry c i s),
  subst (Holds d j) (λ k. reading (df k) (payload_at d j) (dr k) (dt k)) (stored-entry d j t),
  demand_3 frame (payload_at c i) (payload_at d j) records trim accepted change,
)
