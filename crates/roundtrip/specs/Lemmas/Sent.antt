-- Fields that are sent only where a test holds, written by what valid tables say of their values.
use Rattle.std.specs.Prelude.{◌≡◌, refl, Bool, true, false, ℕ, ◌^◌, ◌<◌}
use Rattle.std.proofs.Common.{sym, arith}
use Rattle.bits.specs.Language.{pick, bits_if}
use Rattle.bits.specs.Writes.{to_bits, only}
use Rattle.bits.specs.Back.{w-give, w-bits, w_if}
use Rattle.bits.specs.Terms.{Writes}
use Rattle.form.specs.Lemmas.Tests.{Ranged}

-- a field that is carried if the test holds
pub w-ranged : {carried : Bool} {low high v : ℕ} (w : ℕ) → Ranged carried low high 0 v → high < 2 ^ w
    → Writes (bits_if carried w) (only carried (to_bits w v)) v
w-ranged {carried} {low} {high} {v} w h l = w_if carried w v (λ q. let x = h.on q in omega arith) (λ q. sym (h.off q))

-- and one whose value is otherwise not the field's
pub w-picked : (t : Bool) (w v : ℕ) → (t ≡ true → v < 2 ^ w) → Writes (bits_if t w) (only t (to_bits w v)) (pick t v 0)
w-picked true w v h = w-bits w v (h refl)
w-picked false w v h = w-give 0
