-- The entries of the trim table, as a loop tests them: all are sent or none, and each stands at its own bytes. Assumes nothing.
use mathlib.Core.Path.{◌≡◌, refl, ap, ◌∙◌}
use mathlib.Core.Bool.{Bool, true, false}
use mathlib.Core.List.{List}
use Prim.Native.Nat.{ℕ, ◌+◌, ◌*◌, ◌<◌}
use native.Mathlib.Omega.{arith}
use lib.Dec.{ltb}
use lib.ListN.{length, get_or}
use borrow.Author.Tests.{lt-ltb, le-ltb}
use Rattle.bits.specs.Language.{pick}
use Rattle.oamd.specs.declared.TrimConfig.{TrimConfig}
use Rattle.oamd.specs.Tables.{config_bytes}
use Rattle.record.specs.Entries.{count, entry}
use Rattle.record.specs.Bytes.{bytes_at}
use Rattle.form.specs.Answer.{config_at, configs_at}

pub configs-length : (s : List ℕ) (n at : ℕ) → length (configs_at s n at) ≡ n
unfolding configs_at
configs-length = count config_bytes config_at configs_at (λ s at. refl) (λ s n at. refl)

pub bytes-length : (s : List ℕ) (n at : ℕ) → length (bytes_at s n at) ≡ n
unfolding bytes_at
bytes-length = count 1 (λ s at. get_or s at 0) bytes_at (λ s at. refl) (λ s n at. refl)

pub config-entry : (s : List ℕ) (n at i : ℕ) (d : TrimConfig) → i < n → get_or (configs_at s n at) i d ≡ config_at s (at + config_bytes * i)
unfolding configs_at
config-entry = entry config_bytes config_at configs_at (λ s at. refl) (λ s n at. refl)

pub byte-entry : (s : List ℕ) (n at i : ℕ) → i < n → get_or (bytes_at s n at) i 0 ≡ get_or s (at + i) 0
unfolding bytes_at
byte-entry s n at i h =
    entry 1 (λ s at. get_or s at 0) bytes_at (λ s at. refl) (λ s n at. refl) s n at i 0 h
    ∙ ap (λ (k : ℕ). get_or s k 0) (let e : at + 1 * i ≡ at + i = omega arith in e)

-- entry i of n
pub sent : (on : Bool) (i n : ℕ) → i < n → ltb i (pick on n 0) ≡ on
sent true i n h = lt-ltb i n h
sent false i n h = le-ltb i 0 (omega arith)
