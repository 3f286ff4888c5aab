-- The summary of a shelf of payloads, given as to a batch: what each count counts, over what single reads of the entries give.
use Rattle.std.specs.Prelude.{List, [], ◌∷◌, ◌++◌, map, ℕ, ◌+◌, ◌*◌, eqb, leb, length, get_or, take, replicate}
use Rattle.bits.specs.declared.Refusal.TheVariants.{Lists, Many}
use Rattle.bits.specs.Refusals.{number_of}
use Rattle.bits.specs.Language.{pick, from, as_flag}
use Rattle.oamd.specs.declared.Timing.{Timing}
use Rattle.oamd.specs.declared.Update.{Update}
use Rattle.oamd.specs.declared.ReadAnswer.{ReadAnswer}
use Rattle.oamd.specs.Tables.{record_stride, room_bytes, most_trim, frame_samples}
use Rattle.oamd.specs.Answer.{Outcome}
use Rattle.oamd.specs.Batch.{entry}
use Rattle.summary.specs.declared.Summary.{Summary}

-- the most entries of one call
abbrev pub most_entries : ℕ
most_entries = 65536

-- ---- how a list is counted

-- how often k stands in it
unfoldable pub tally : ℕ → List ℕ → ℕ
tally k [] = 0
tally k (x ∷ xs) = as_flag (eqb x k) + tally k xs

-- how often each number below n does
unfoldable pub tallies : ℕ → List ℕ → List ℕ
tallies n xs = map (λ k. tally k xs) (from 0 n)

-- the sum of f over it
unfoldable pub total : {A : Type 0} → (A → ℕ) → List A → ℕ
total f [] = 0
total f (x ∷ xs) = f x + total f xs

-- what f gives of each entry, one after the other
unfoldable pub joined : {A B : Type 0} → (A → List B) → List A → List B
joined f [] = []
joined f (x ∷ xs) = f x ++ joined f xs

-- ---- what is counted

unfoldable pub zeros : ℕ → List ℕ
zeros n = replicate n 0

-- what an entry comes to by itself, with room for the records and the trim table of every payload; nothing that is counted goes by the frame, and it is 0
abbrev pub alone : List ℕ → ℕ → ℕ → Outcome
alone store start len = entry 0 store start len (zeros room_bytes) (zeros most_trim)

-- and each of them
unfoldable pub outcomes : List ℕ → List ℕ → List ℕ → List Outcome
outcomes store [] lengths = []
outcomes store (start ∷ starts) [] = []
outcomes store (start ∷ starts) (len ∷ lengths) = alone store start len ∷ outcomes store starts lengths

abbrev pub refusal_of : Outcome → ℕ
refusal_of o = o.answer.refusal

-- those that are accepted
unfoldable pub accepted_of : List Outcome → List Outcome
accepted_of [] = []
accepted_of (o ∷ os) = pick (eqb (refusal_of o) 0) (o ∷ accepted_of os) (accepted_of os)

-- the records of one: one for each object and block
abbrev pub records_in : ReadAnswer → ℕ
records_in a = a.programme.objects * a.timing.blocks

abbrev pub records_of : Outcome → ℕ
records_of o = records_in o.answer

-- byte k of each of the first n records of a buffer
abbrev pub bytes_of_records : ℕ → ℕ → List ℕ → List ℕ
bytes_of_records k n s = map (λ i. get_or s (record_stride * i + k) 0) (from 0 n)

-- byte k of each of them
abbrev pub column : ℕ → Outcome → List ℕ
column k o = bytes_of_records k (records_of o) o.buffer

-- the updates of a timing that are used, one for each block
abbrev pub used_updates : Timing → List Update
used_updates t = take t.blocks t.updates

abbrev pub updates_of : Outcome → List Update
updates_of o = used_updates o.answer.timing

-- a block that starts past sample 1,535
abbrev pub is_late : Update → ℕ
is_late u = as_flag (leb frame_samples u.start.0)

abbrev pub ramp_length : Update → ℕ
ramp_length u = u.ramp.0

-- ---- the summary

-- Of accepted payloads: the records, by byte 2 (gain), 11 (zone), 1 (class) and 0 (active), the late blocks and the sum of the ramps. Of all: the payloads by refusal.
unfoldable pub summary_of : List Outcome → Summary
summary_of os = record {
  place = 0;
  refusal = 0;
  records = total records_of (accepted_of os);
  gains = tallies 66 (joined (column 2) (accepted_of os));
  zones = tallies 6 (joined (column 11) (accepted_of os));
  classes = tallies 3 (joined (column 1) (accepted_of os));
  activity = tallies 2 (joined (column 0) (accepted_of os));
  late = total is_late (joined updates_of (accepted_of os));
  ramps = total ramp_length (joined updates_of (accepted_of os));
  payloads = tallies 13 (map refusal_of os);
}

-- refused, nothing is counted
unfoldable pub refused_summary : ℕ → ℕ → Summary
refused_summary number place = record {
  place = place;
  refusal = number;
  records = 0;
  gains = replicate 66 0;
  zones = replicate 6 0;
  classes = replicate 3 0;
  activity = replicate 2 0;
  late = 0;
  ramps = 0;
  payloads = replicate 13 0;
}

-- a length for each start, and not too many of them
unfoldable pub summing : List ℕ → List ℕ → List ℕ → Summary
summing store starts lengths =
    pick (eqb (length lengths) (length starts))
    (pick (leb (length starts) most_entries) (summary_of (outcomes store starts lengths)) (refused_summary (number_of Many) (length starts)))
    (refused_summary (number_of Lists) (length starts))
