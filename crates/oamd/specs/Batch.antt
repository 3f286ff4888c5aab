-- A shelf of payloads, read all at once: each entry as a part of one store, into a slot of its own for the records and one for the trim table, its answer into a place
-- of its own.
use Rattle.std.specs.Prelude.{Bool, List, [], ◌∷◌, ◌++◌, ℕ, zero, suc, ◌+◌, ◌*◌, leb, eqb, length, get_or, take, drop}
use Rattle.bits.specs.declared.Refusal.TheVariants.{Outside, Lists}
use Rattle.bits.specs.Refusals.{number_of}
use Rattle.bits.specs.Language.{pick, both}
use Rattle.oamd.specs.declared.Bed.{Bed}
use Rattle.oamd.specs.declared.Programme.{Programme}
use Rattle.oamd.specs.declared.Update.{Update}
use Rattle.oamd.specs.declared.Timing.{Timing}
use Rattle.oamd.specs.declared.ReadAnswer.{ReadAnswer}
use Rattle.oamd.specs.declared.BatchAnswer.{BatchAnswer}
use Rattle.oamd.specs.Tables.{most_beds, most_blocks, answer_bytes}
use Rattle.oamd.specs.LeastFirst.{least_first, least_at}
use Rattle.oamd.specs.Answer.{Outcome, refused, reading}

-- ---- an answer in bytes: those of the C struct, numbers least byte first, padding 0

unfoldable pub each_bytes : {A : Type 0} → (A → List ℕ) → List A → List ℕ
each_bytes f [] = []
each_bytes f (a ∷ rest) = f a ++ each_bytes f rest

unfoldable pub bed_bytes_of : Bed → List ℕ
bed_bytes_of b = least_first 4 b.assignment ++ (b.lfeonly ∷ b.standard ∷ 0 ∷ 0 ∷ [])

unfoldable pub programme_bytes_of : Programme → List ℕ
programme_bytes_of p =
    (p.objects ∷ p.dynonly ∷ p.lfe ∷ p.content ∷ p.distribute ∷ p.multiple ∷ p.instances ∷ p.bedcount ∷ p.isf ∷ p.dynamics ∷ 0 ∷ 0 ∷ [])
    ++ each_bytes bed_bytes_of p.beds

unfoldable pub update_bytes_of : Update → List ℕ
update_bytes_of u = least_first 2 u.start.0 ++ least_first 2 u.ramp.0

unfoldable pub timing_bytes_of : Timing → List ℕ
timing_bytes_of t = (t.blocks ∷ 0 ∷ []) ++ (each_bytes update_bytes_of t.updates ++ (0 ∷ 0 ∷ []))

unfoldable pub answer_bytes_of : ReadAnswer → List ℕ
answer_bytes_of a =
    least_first 8 a.place
    ++ ((a.refusal ∷ a.unknown ∷ 0 ∷ 0 ∷ [])
    ++ (programme_bytes_of a.programme ++ (timing_bytes_of a.timing ++ least_first 4 a.missing)))

-- ---- and back, from a byte on

-- n entries of so many bytes each
unfoldable pub entries_at : {A : Type 0} → (List ℕ → ℕ → A) → ℕ → ℕ → List ℕ → ℕ → List A
entries_at f zero width s at = []
entries_at f (suc n) width s at = f s at ∷ entries_at f n width s (at + width)

unfoldable pub bed_at : List ℕ → ℕ → Bed
bed_at s at = record { assignment = least_at 4 s at; lfeonly = get_or s (at + 4) 0; standard = get_or s (at + 5) 0 }

unfoldable pub programme_at : List ℕ → ℕ → Programme
programme_at s at = record {
  objects = get_or s at 0;
  dynonly = get_or s (at + 1) 0;
  lfe = get_or s (at + 2) 0;
  content = get_or s (at + 3) 0;
  distribute = get_or s (at + 4) 0;
  multiple = get_or s (at + 5) 0;
  instances = get_or s (at + 6) 0;
  bedcount = get_or s (at + 7) 0;
  isf = get_or s (at + 8) 0;
  dynamics = get_or s (at + 9) 0;
  beds = entries_at bed_at most_beds 8 s (at + 12);
}

unfoldable pub update_at : List ℕ → ℕ → Update
update_at s at = record { start = record { 0 = least_at 2 s at }; ramp = record { 0 = least_at 2 s (at + 2) } }

unfoldable pub timing_at : List ℕ → ℕ → Timing
timing_at s at = record { blocks = get_or s at 0; updates = entries_at update_at most_blocks 4 s (at + 2) }

unfoldable pub answer_at : List ℕ → ℕ → ReadAnswer
answer_at s at = record {
  place = least_at 8 s at;
  refusal = get_or s (at + 8) 0;
  unknown = get_or s (at + 9) 0;
  programme = programme_at s (at + 12);
  timing = timing_at s (at + 96);
  missing = least_at 4 s (at + 132);
}

-- ---- an entry

-- a part of the store, read as a payload by itself; one that leaves the store is refused before it is looked at
unfoldable pub entry : ℕ → List ℕ → ℕ → ℕ → List ℕ → List ℕ → Outcome
entry frame store start len records trim =
    pick (leb (start + len) (length store)) (reading frame (take len (drop start store)) records trim) (refused records trim (number_of Outside) start 0)

-- ---- the shelf

-- what the three lent buffers hold
pub record Shelf : Type 0 where
  pub records : List ℕ
  pub trims : List ℕ
  pub answers : List ℕ

-- one entry's slots and its place, in front of those behind
abbrev pub in_front : Outcome → Shelf → Shelf
in_front o rest = record {
  records = o.buffer ++ rest.records;
  trims = o.trim ++ rest.trims;
  answers = answer_bytes_of o.answer ++ rest.answers;
}

-- the entries in list order, each with its frame, the next slot of so many bytes of records, the next of the trims and the next place
unfoldable pub shelved : List ℕ → List ℕ → List ℕ → List ℕ → ℕ → ℕ → Shelf → Shelf
shelved store [] lengths frames recordslot trimslot x = x
shelved store (start ∷ starts) [] frames recordslot trimslot x = x
shelved store (start ∷ starts) (len ∷ lengths) [] recordslot trimslot x = x
shelved store (start ∷ starts) (len ∷ lengths) (frame ∷ frames) recordslot trimslot x =
    in_front (entry frame store start len (take recordslot x.records) (take trimslot x.trims))
    (shelved store starts lengths frames recordslot trimslot
    (record { records = drop recordslot x.records; trims = drop trimslot x.trims; answers = drop answer_bytes x.answers }))

-- ---- the call

-- a length and a frame for each start, and room for the slots and places of all of them
unfoldable pub roomy : ℕ → ℕ → ℕ → ℕ → ℕ → ℕ → ℕ → ℕ → Bool
roomy starts lengths frames recordslot trimslot records trims answers =
    both (both (eqb lengths starts) (eqb frames starts))
    (both (leb (starts * recordslot) records) (both (leb (starts * trimslot) trims) (leb (starts * answer_bytes) answers)))

-- the answer of the whole call, and the three lent buffers afterwards
pub record Batched : Type 0 where
  pub answer : BatchAnswer
  pub shelf : Shelf

abbrev pub batched_with : ℕ → ℕ → BatchAnswer
batched_with number place = record { place = place; refusal = number }

unfoldable pub batching : List ℕ → List ℕ → List ℕ → List ℕ → ℕ → ℕ → Shelf → Batched
batching store starts lengths frames recordslot trimslot x =
    pick (roomy (length starts) (length lengths) (length frames) recordslot trimslot (length x.records) (length x.trims) (length x.answers))
    (record { answer = batched_with 0 0; shelf = shelved store starts lengths frames recordslot trimslot x })
    (record { answer = batched_with (number_of Lists) (length starts); shelf = x })
