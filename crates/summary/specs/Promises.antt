-- What the theorems promise, as records.
use Rattle.std.specs.Prelude.{◌≡◌, List, ◌↔◌, ℕ, ◌≤◌, ◌<◌, length, get_or}
use Rattle.bits.specs.declared.Refusal.TheVariants.{Lists, Many}
use Rattle.bits.specs.Refusals.{number_of}
use Rattle.summary.specs.declared.Summary.{Summary}
use Rattle.summary.specs.Summary.{most_entries, total, refused_summary, summing}

-- Refused with 13 exactly when there is not a length for each start, and with 16 exactly when there is and they are more than 65,536: at their number, with every count 0.
-- Else with nothing, at 0.
pub record When (store starts lengths : List ℕ) : Type 0 where
  pub lists : (summing store starts lengths ≡ refused_summary (number_of Lists) (length starts)) ↔ (length lengths ≡ length starts → ⊥)
  pub many : (summing store starts lengths ≡ refused_summary (number_of Many) (length starts)) ↔ ((length lengths ≡ length starts) × (most_entries < length starts))
  pub neither : length lengths ≡ length starts → length starts ≤ most_entries
      → ((summing store starts lengths).refusal ≡ 0) × ((summing store starts lengths).place ≡ 0)

-- the counts of an array, put together
abbrev pub sum : List ℕ → ℕ
sum counts = total (λ n. n) counts

-- Each record has one gain, one zone, one class, and is active or not; each entry is accepted or has one refusal, and none lacked room or had a list of another length.
pub record AddsUp (entries : ℕ) (s : Summary) : Type 0 where
  pub gains : sum s.gains ≡ s.records
  pub zones : sum s.zones ≡ s.records
  pub classes : sum s.classes ≡ s.records
  pub activity : sum s.activity ≡ s.records
  pub payloads : sum s.payloads ≡ entries
  pub no_9 : get_or s.payloads 9 0 ≡ 0
  pub no_10 : get_or s.payloads 10 0 ≡ 0
  pub no_11 : get_or s.payloads 11 0 ≡ 0

-- 65,536 entries with 159 objects of 8 blocks each, with 8 blocks, and with 8 ramps of 2,048: every count is below 2 ^ 32.
pub record Bounds (s : Summary) : Type 0 where
  pub records : s.records ≤ 83361792
  pub late : s.late ≤ 524288
  pub ramps : s.ramps ≤ 1073741824
  pub gains : (k : ℕ) → get_or s.gains k 0 ≤ s.records
  pub zones : (k : ℕ) → get_or s.zones k 0 ≤ s.records
  pub classes : (k : ℕ) → get_or s.classes k 0 ≤ s.records
  pub activity : (k : ℕ) → get_or s.activity k 0 ≤ s.records
  pub payloads : (k : ℕ) → get_or s.payloads k 0 ≤ most_entries
