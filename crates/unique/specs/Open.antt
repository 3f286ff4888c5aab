-- The theorems of this crate can fail. A contract of `read` that fixed the answer alone would leave the buffers open; and that of `take` leaves open what value is
-- handed on behind a refusal.
use Rattle.std.specs.Prelude.{◌≡◌, refl, false, List, [], ◌∷◌, ℕ, ◌<◌, length}
use Rattle.std.proofs.Common.{ap, arith}
use base.Logic.{emp}
use contract.Lifetimes.{Lfts}
use contract.Monad.{fact}
use Rattle.std.specs.Borrow.{Bor, MutBor}
use denote.Triple.Clauses.{Lasts, closing}
use denote.Triple.Entry.{Args}
use borrow.Fn.World.{w₀}
use Rattle.bits.specs.contracts.take as take
use Rattle.bits.specs.declared.Cur.{Cur}
use Rattle.oamd.specs.Answer.{Outcome, reading}
use Rattle.reader.specs.contracts.read as read
use Rattle.unique.specs.Callers.{OneReading}
use Rattle.unique.specs.OneAnswer.{ClausesOf, OneAnswer, Ensured, ◌beside◌}

none_is_one : ◌≡◌ {A = ℕ} 0 1 → ⊥
none_is_one h = omega arith

-- No bytes, lent; and lent to be changed.
abbrev empty : Bor (List ℕ)
empty = record { ref_ptr = (0, 0); now = [] }

abbrev room : MutBor (List ℕ)
room = record { ref_ptr = (0, 0); ghost_name = 0; now = [] }

-- The clause of `read`, for the answer alone.
abbrev answer_alone : ClausesOf read.ended
answer_alone M 𝓤 𝓛 mem run κs a = record {
  ghost = Unit {0};
  requires = λ g. emp 𝓤;
  ensures = λ g r e. fact 𝓤 (r ≡ (reading a.1.0 a.0.now a.1.1.0.now a.1.1.1.0.now).answer);
}

pub buffers-open : OneReading answer_alone (λ M 𝓤 𝓛 mem run. closing 𝓛 read.ended (answer_alone M 𝓤 𝓛 mem run)) → ⊥
buffers-open one =
    let κs : Lfts 3 = ([], ([], ([], tt))) in
    let a : Args read.signature κs = (empty, (0, (room, (room, tt)))) in
    let left : List ℕ → Lasts read.ended κs a = λ l. (tt, (tt, (l, ([], tt)))) in
    let free : (l : List ℕ) → Ensured read.ended answer_alone w₀ κs a (reading 0 [] [] []).answer (left l) =
    λ l. record { ghost = tt; owned = w₀.𝓤.one; holds = ∣ (refl, tt) ∣₁ } in
    let same = one.once w₀ w₀ κs κs a a (reading 0 [] [] []).answer (reading 0 [] [] []).answer (left []) (left (0 ∷ [])) refl (free []) (free (0 ∷ [])) in
    none_is_one (ap (λ (o : Outcome). length o.buffer) same)

-- A cursor that carries refusal 1, with the value v.
abbrev refused : ℕ → Cur
refused v = record { missing = 0; v = v; at = record { 0 = 0 }; no = 1 }

pub value-open : OneAnswer take.ended (λ M 𝓤 𝓛. take.clauses 𝓛) (λ M 𝓤 𝓛. take.spec 𝓛) (λ κs a. a.0.now beside a.1) (λ κs a r z. r.v) → ⊥
value-open one =
    let κs : Lfts 1 = ([], tt) in
    let a : Args take.signature κs = (empty, (record { end = record { 0 = 0 }; inner = false }, (refused 0, (1, tt)))) in
    let z : Lasts take.ended κs a = (tt, (tt, (tt, (tt, tt)))) in
    let free : (v : ℕ) → v < 2 → Ensured take.ended (λ M 𝓤 𝓛. take.clauses 𝓛) w₀ κs a (refused v) z =
    λ v l. record { ghost = tt; owned = w₀.𝓤.one; holds = ∣ (record { reads = record { same = refl; handed = λ z. refl }; small = l }, tt) ∣₁ } in
    none_is_one (one.once w₀ w₀ κs κs a a (refused 0) (refused 1) z z refl (free 0 (omega arith)) (free 1 (omega arith)))
