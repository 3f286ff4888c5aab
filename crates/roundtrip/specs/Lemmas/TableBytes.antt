-- The trim table: its bytes, and the table again from these.
use Rattle.std.specs.Prelude.{◌≡◌, refl, take}
use Rattle.std.proofs.Math.Path.{sym, ap}
use Rattle.std.proofs.Common.{◌∙◌, arith, add_assoc, drop-drop, get_or-drop, drop_at}
use mathlib.Core.List.{List, ◌∷◌, ◌++◌, append_assoc}
use Prim.Native.Nat.{ℕ, suc, ◌+◌, ◌*◌, ◌≤◌}
use Rattle.std.proofs.Math.ListN.{length, get_or, drop, length-append}
use Rattle.std.proofs.Math.Seq.{take_at, get_or_at}
use Rattle.oamd.specs.declared.TrimConfig.{TrimConfig}
use Rattle.oamd.specs.Tables.{trim_configs, config_bytes, trim_head, per_object_byte, trim_fixed}
use Rattle.oamd.specs.Trim.{TrimTable, config_bytes_of, configs_bytes_of, trim_bytes_of, trim_needed}
use Rattle.oamd.specs.Lengths.{length-configs}
use Rattle.record.specs.Bytes.{bytes_at}
use Rattle.record.specs.Entries.{from_first, bytes-are, joined, shifted, entries-bytes, entries-again}
use Rattle.form.specs.Answer.{config_at, configs_at, trim_at}

config-bytes : (s : List ℕ) (at : ℕ) → at + config_bytes ≤ length s → config_bytes_of (config_at s at) ≡ take config_bytes (drop at s)
unfolding config_at bytes_at
config-bytes s at h = simp add_assoc at (bytes-are s config_bytes at h)

config-shifted : (s : List ℕ) (a at : ℕ) → config_at s (a + at) ≡ config_at (drop a s) at
unfolding config_at
config-shifted s a at = simp (get_or-drop, add_assoc)

config-again : (c : TrimConfig) (tail : List ℕ) → config_at (config_bytes_of c ++ tail) 0 ≡ c
unfolding config_at
config-again c tail = refl

configs-bytes : (s : List ℕ) (n at : ℕ) → at + config_bytes * n ≤ length s
    → configs_bytes_of (configs_at s n at) ≡ take (config_bytes * n) (drop at s)
unfolding configs_bytes_of configs_at
configs-bytes s n at =
    entries-bytes config_bytes config_at configs_at (λ s at. refl) (λ s n at. refl) (λ i. config_bytes_of) (λ i. configs_bytes_of) (λ i. refl) (λ i x xs. refl) s n at 0
    (λ k l. config-bytes s (at + config_bytes * k))

configs-shifted : (s : List ℕ) (n a at : ℕ) → configs_at s n (a + at) ≡ configs_at (drop a s) n at
unfolding configs_at
configs-shifted = shifted config_bytes config_at configs_at (λ s at. refl) (λ s n at. refl) config-shifted

configs-again : (cs : List TrimConfig) (tail : List ℕ) → configs_at (configs_bytes_of cs ++ tail) (length cs) 0 ≡ cs
unfolding configs_bytes_of configs_at
configs-again =
    entries-again config_bytes config_at configs_at (λ s at. refl) (λ s n at. refl) (λ i. config_bytes_of) (λ i. configs_bytes_of) (λ i. refl) (λ i x xs. refl) config-shifted
    (λ i. config-again) (λ i c tail. from_first tail) 0

pub trim-bytes : (objects : ℕ) (s : List ℕ) → trim_needed objects ≤ length s → trim_bytes_of (trim_at objects s) ≡ take (trim_needed objects) s
unfolding trim_bytes_of trim_at bytes_at
trim-bytes objects s h =
    let e : trim_needed objects ≡ trim_head + (config_bytes * trim_configs + suc objects) = omega arith in
    rw (e, ← from_first s)
    (joined s 0 trim_head (config_bytes * trim_configs + suc objects) _ _ (bytes-are s trim_head 0 (omega arith))
    (joined s trim_head (config_bytes * trim_configs) (suc objects) _ _ (configs-bytes s trim_configs trim_head (omega arith))
    (bytes-are s (suc objects) per_object_byte (omega arith))))

-- a trim table of nine configurations and so many objects
module _ (objects : ℕ) (t : TrimTable) (nine : length t.configs ≡ trim_configs) (flags : length t.disabled ≡ objects) where
  pub trim-again : (tail : List ℕ) → trim_at objects (trim_bytes_of t ++ tail) ≡ t
  unfolding trim_at trim_bytes_of
  trim-again tail =
      let fields : List ℕ = configs_bytes_of t.configs in
      let rest : List ℕ = t.per-object ∷ (t.disabled ++ tail) in
      let front : List ℕ = t.present ∷ t.warp ∷ t.mode ∷ fields in
      let long : length front ≡ per_object_byte = (let e = length-configs t.configs in omega arith) in
      let configs : configs_at (front ++ rest) trim_configs trim_head ≡ t.configs =
      configs-shifted (front ++ rest) trim_configs trim_head 0 ∙ ap (λ (l : List ℕ). configs_at l trim_configs 0) (from_first (fields ++ rest))
      ∙ ap (λ (n : ℕ). configs_at (fields ++ rest) n 0) (sym nine) ∙ configs-again t.configs rest in
      let per-object : get_or (front ++ rest) per_object_byte 0 ≡ t.per-object =
      get_or_at front t.per-object (t.disabled ++ tail) 0 per_object_byte long in
      let behind : drop trim_fixed (front ++ rest) ≡ t.disabled ++ tail =
      sym (drop-drop 1 per_object_byte (front ++ rest)) ∙ ap (drop 1) (drop_at front rest per_object_byte long) ∙ from_first (t.disabled ++ tail) in
      let disabled : bytes_at (front ++ rest) objects trim_fixed ≡ t.disabled =
      bytes-are (front ++ rest) objects trim_fixed (omega (arith, length-append front rest, length-append t.disabled tail))
      ∙ ap (take objects) behind ∙ take_at t.disabled tail objects flags in
      rw (append_assoc fields (t.per-object ∷ t.disabled) tail) (λ i. record {
        present = t.present;
        warp = t.warp;
        mode = t.mode;
        configs = configs i;
        per-object = per-object i;
        disabled = disabled i;
      })
