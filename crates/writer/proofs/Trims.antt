-- The trim element's fields, from the bytes of the trim table. Assumes nothing.
use mathlib.Core.Path.{◌≡◌, refl, sym, ap, ◌∙◌}
use mathlib.Core.Bool.{Bool, true, false}
use mathlib.Core.List.{List}
use Prim.Native.Nat.{ℕ, zero, suc, ◌+◌, ◌*◌, ◌≤◌, ◌<◌}
use native.Mathlib.Omega.{arith}
use lib.Dec.{eqb}
use lib.ListN.{length, get_or}
use Rattle.bits.specs.Language.{pick}
use Rattle.bits.specs.Writes.{to_bits, only, each_bits}
use Rattle.coding.specs.declared.Packed.{Packed}
use Rattle.coding.specs.Packing.{PacksIn}
use Rattle.oamd.specs.Tables.{trim_configs, trim_head, trim_fixed, config_bytes}
use Rattle.oamd.specs.Trim.{no_config}
use Rattle.form.specs.Form.{config_bits, has_trim}
use Rattle.record.specs.Bytes.{bytes_at}
use Rattle.form.specs.Answer.{config_at, configs_at, trim_at}
use Rattle.laying.specs.declared.Pen.{Pen}
use Rattle.laying.specs.Laying.{Laid}
use Rattle.valid.proofs.Sent.{configs-length, config-entry, bytes-length, byte-entry}
use Rattle.writer.specs.Most.{most_config}
use Rattle.writer.specs.Parts.{Wide, bits_below, PacksEach}
use Rattle.writer.proofs.Entries.{numbered, packs-each, all-laid, all-wide}

-- one bit for each byte
pub bits-count : (s : List ℕ) (n i k : ℕ) → length (each_bits (λ obj x. to_bits 1 x) i (bytes_at s n k)) ≡ n
unfolding each_bits bytes_at to_bits
bits-count s zero i k = refl
bits-count s (suc n) i k = ap suc (bits-count s n (suc i) (k + 1))

pub flags-count : (on : Bool) (s : List ℕ) (n : ℕ) {k : ℕ} → k ≡ pick on n 0 → Wide n k (only on (each_bits (λ obj x. to_bits 1 x) 0 (bytes_at s n trim_fixed)))
flags-count true s n e = record { same = e ∙ sym (bits-count s n 0 trim_fixed); most = omega (arith, e) }
flags-count false s n e = record { same = e; most = omega (arith, e) }

pub trim_there : (objects : ℕ) (s : List ℕ) → eqb (get_or s 0 0) 1 ≡ has_trim (trim_at objects s)
unfolding trim_at
trim_there objects s = refl

-- ---- configs

module _ (s : List ℕ) where
  abbrev pub numbered-configs : ℕ → List ℕ
  numbered-configs = numbered (λ c. config_bits c) (configs_at s trim_configs trim_head) no_config (λ i. config_at s (trim_head + config_bytes * i)) (λ i h. config-entry s trim_configs trim_head i no_config h)

  pub packs-configs : {post : ℕ → Packed → Type 0} {j : ℕ} → j ≤ trim_configs → ((i : ℕ) (r : Packed) → i < trim_configs → post i r → PacksIn 0 most_config r (config_bits (config_at s (trim_head + config_bytes * i))))
      → PacksEach post most_config numbered-configs j
  packs-configs = packs-each (λ c. config_bits c) (configs_at s trim_configs trim_head) no_config (λ i. config_at s (trim_head + config_bytes * i)) (λ i h. config-entry s trim_configs trim_head i no_config h)

  pub configs-laid : (on : Bool) {j : ℕ} {t u : List ℕ} {p r : Pen} → j ≡ pick on trim_configs 0 → Laid (most_config * j) t u p r (bits_below numbered-configs j)
      → Laid (most_config * trim_configs) t u p r (only on (each_bits (λ i c. config_bits c) 0 (configs_at s trim_configs trim_head)))
  configs-laid on = all-laid (λ c. config_bits c) (configs_at s trim_configs trim_head) no_config (λ i. config_at s (trim_head + config_bytes * i)) (λ i h. config-entry s trim_configs trim_head i no_config h) (configs-length s trim_configs trim_head) on most_config

  pub configs-wide : (on : Bool) {j k : ℕ} → j ≡ pick on trim_configs 0 → Wide (most_config * j) k (bits_below numbered-configs j)
      → Wide (most_config * trim_configs) k (only on (each_bits (λ i c. config_bits c) 0 (configs_at s trim_configs trim_head)))
  configs-wide on = all-wide (λ c. config_bits c) (configs_at s trim_configs trim_head) no_config (λ i. config_at s (trim_head + config_bytes * i)) (λ i h. config-entry s trim_configs trim_head i no_config h) (configs-length s trim_configs trim_head) on most_config

-- ---- flags

module _ (s : List ℕ) (n : ℕ) where
  abbrev pub numbered-flags : ℕ → List ℕ
  numbered-flags = numbered (λ x. to_bits 1 x) (bytes_at s n trim_fixed) 0 (λ i. get_or s (trim_fixed + i) 0) (λ i h. byte-entry s n trim_fixed i h)

  pub packs-flags : {post : ℕ → Packed → Type 0} {j : ℕ} → j ≤ n → ((i : ℕ) (r : Packed) → i < n → post i r → PacksIn 0 1 r (to_bits 1 (get_or s (trim_fixed + i) 0)))
      → PacksEach post 1 numbered-flags j
  packs-flags = packs-each (λ x. to_bits 1 x) (bytes_at s n trim_fixed) 0 (λ i. get_or s (trim_fixed + i) 0) (λ i h. byte-entry s n trim_fixed i h)

  pub flags-laid : (on : Bool) {j : ℕ} {t u : List ℕ} {p r : Pen} → j ≡ pick on n 0 → Laid (1 * j) t u p r (bits_below numbered-flags j)
      → Laid (1 * n) t u p r (only on (each_bits (λ i x. to_bits 1 x) 0 (bytes_at s n trim_fixed)))
  flags-laid on = all-laid (λ x. to_bits 1 x) (bytes_at s n trim_fixed) 0 (λ i. get_or s (trim_fixed + i) 0) (λ i h. byte-entry s n trim_fixed i h) (bytes-length s n trim_fixed) on 1
