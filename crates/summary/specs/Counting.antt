-- Counting as a loop does it: what the functions that count promise. Laws.antt has that this is how often each number stands in the list.
use Rattle.std.specs.Prelude.{◌≡◌, List, [], ◌∷◌, ℕ, ◌+◌, ◌*◌, ◌≤◌, ltb, length, get_or, set}
use Rattle.bits.specs.Language.{pick}
use Rattle.oamd.specs.declared.ReadAnswer.{ReadAnswer}
use Rattle.oamd.specs.Tables.{most_blocks, record_stride, room_bytes}
use Rattle.summary.specs.declared.Summary.{Summary}
use Rattle.summary.specs.Summary.{bytes_of_records, records_in, total, used_updates, is_late, ramp_length}

-- one more of v, where v has a count
unfoldable pub bumped : ℕ → List ℕ → List ℕ
bumped v counts = pick (ltb v (length counts)) (set counts v (get_or counts v 0 + 1)) counts

-- one more of each
unfoldable pub all_bumped : List ℕ → List ℕ → List ℕ
all_bumped [] counts = counts
all_bumped (v ∷ vs) counts = all_bumped vs (bumped v counts)

-- byte k of each of n records has been counted
abbrev pub Counted : ℕ → ℕ → List ℕ → List ℕ → List ℕ → Type 0
Counted k n room before after = after ≡ all_bumped (bytes_of_records k n room) before

-- every count has room for n more
pub record Low (n : ℕ) (counts : List ℕ) : Type 0 where
  pub room : (v : ℕ) → get_or counts v 0 + n ≤ 4294967295

-- ---- an entry

-- the bytes of n records that are counted, each by its own array of counts
abbrev pub columns_counted : ℕ → List ℕ → Summary → Summary
columns_counted n room s = record s {
  gains = all_bumped (bytes_of_records 2 n room) s.gains;
  zones = all_bumped (bytes_of_records 11 n room) s.zones;
  classes = all_bumped (bytes_of_records 1 n room) s.classes;
  activity = all_bumped (bytes_of_records 0 n room) s.activity;
}

-- all that is counted of an entry
abbrev pub counted : Summary → ReadAnswer → List ℕ → Summary
counted s a room = record (columns_counted (records_in a) room s) {
  payloads = bumped a.refusal s.payloads;
  records = s.records + records_in a;
  late = s.late + total is_late (used_updates a.timing);
  ramps = s.ramps + total ramp_length (used_updates a.timing);
}

-- what an entry has is in range, and every count has room for it
pub record Fits (s : Summary) (a : ReadAnswer) (room : List ℕ) : Type 0 where
  pub blocks : a.timing.blocks ≤ most_blocks
  pub eight : length a.timing.updates ≡ most_blocks
  pub bytes : record_stride * records_in a ≤ room_bytes
  pub long : length room ≡ room_bytes
  pub low : Low (records_in a) s.gains × Low (records_in a) s.zones × Low (records_in a) s.classes × Low (records_in a) s.activity
  pub payloads : Low 1 s.payloads
  pub records : s.records ≤ 4000000000
  pub late : s.late ≤ 4000000000
  pub ramps : s.ramps + total ramp_length (used_updates a.timing) ≤ 4294967295
