-- Loops that read on and keep nothing; and the way from the header to the elements. Assumes nothing.
use mathlib.Core.Path.{◌≡◌, refl, sym, subst}
use mathlib.Core.Bool.{Bool}
use mathlib.Core.List.{List, [], ◌∷◌, ◌++◌}
use Prim.Native.Nat.{ℕ, ◌+◌, ◌*◌, ◌≤◌, ◌<◌}
use native.Mathlib.Omega.{arith}
use lib.ListN.{length}
use borrow.Author.Tests.{eq-eqb, ne_eqb}
use Rattle.bits.specs.declared.Cur.{Cur}
use Rattle.bits.specs.declared.Limit.{Limit}
use Rattle.bits.specs.declared.Step.{Step}
use Rattle.bits.specs.Language.{Bits, P, give, run, ok, bit, when, for, past_payload}
use Rattle.bits.specs.Steps.{bind_ok}
use Rattle.bits.specs.View.{Reads, Took}
use Rattle.bits.proofs.Sticky.{Left, turns, for_step, for-stop, done, plain}
use Rattle.oamd.specs.ObjectElement.{object_data}
use Rattle.oamd.specs.Payload.{oa_element_count, object_audio_metadata_payload}
use Rattle.oamd.specs.Programme.{set?}
use Rattle.reader.specs.declared.Header.{Header}
use Rattle.reader.specs.Steps.{whole_of, Headed}
use Rattle.reader.proofs.ObjectLoop.{begun}
use Rattle.sources.specs.Asked.{payload_in, Accepted}
use Rattle.sources.specs.Lemmas.Walking.{one_place, stepped}
use Rattle.sources.specs.Lemmas.Seeking.{seek_start}
use Rattle.sources.specs.Walks.{Went, Begun}

-- ---- a loop

-- before turn i of n
pub record Passing {A : Type 0} (n : ℕ) (f : ℕ → P A) (b : Bits) (c : Cur) (l : Limit) (i : ℕ) (cur : Cur) : Type 0 where
  pub within : i ≤ n
  pub vs : List A
  pub left : Left (for n f) b c l (turns n f (λ vs. give vs) i vs) cur

module _ {A : Type 0} {n : ℕ} {f : ℕ → P A} {b : Bits} {c : Cur} {l : Limit} where
  pub passing_start : Passing n f b c l 0 c
  passing_start = record { within = omega arith; vs = []; left = begun n f }

  pub passing_step : {i : ℕ} {cur d : Cur} {v : A} → Passing n f b c l i cur → i < n → Reads (f i) b cur l v d → Passing n f b c l (i + 1) d
  passing_step {i} {v = v} x h r = record { within = omega arith; vs = x.vs ++ (v ∷ []); left = for_step n f (λ vs. give vs) i x.vs h x.left r }

  pub passing-stop : {i : ℕ} {cur : Cur} → Passing n f b c l i cur → n ≤ i → Went (for n f) b c l cur
  passing-stop {i} x h = record { value = x.vs; reads = done (for-stop n f (λ vs. give vs) i x.vs h x.left) }

-- what is read only if a flag says so
pub passed_if : {A : Type 0} (v : ℕ) (p : P A) (blank : A) {b : Bits} {c d : Cur} {l : Limit} → v ≡ 1 → Went p b c l d → Went (when (set? v) p blank) b c l d
passed_if v p blank h w = rw (eq-eqb v 1 h) w

pub passed_not : {A : Type 0} (v : ℕ) (p : P A) (blank : A) {b : Bits} {c : Cur} {l : Limit} → (v ≡ 1 → ⊥) → Went (when (set? v) p blank) b c l c
passed_not v p blank h = rw (ne_eqb v 1 h) (record { value = blank; reads = plain })

-- blocks of a class that a call found
pub reclassed : (n : ℕ) {class class' : ℕ} {b : Bits} {c d : Cur} {l : Limit} → class ≡ class' → Went (object_data n class) b c l d → Went (object_data n class') b c l d
reclassed n {b = b} {c} {d} {l} h w = subst (λ (class : ℕ). Went (object_data n class) b c l d) h w

-- ---- the header, and the count of elements

module _ {s : List ℕ} (a : Accepted s) {h : Step Header} (headed : Headed s h) {l : Limit} (whole : l ≡ whole_of s) {count : Cur} (counted : Took oa_element_count 47 (bit s) h.cur l count) where
  pub record Opened (extended : Bool) : Type 0 where
    pub programme : h.value.programme ≡ (payload_in s).programme
    pub begun : Begun extended s h.value.alternate count.v count l

  pub opened : (extended : Bool) → Opened extended
  unfolding object_audio_metadata_payload
  opened extended =
      bind_ok _ _ (bit s) 0 (8 * length s) past_payload a.ran λ hd p1 h1 r1.
      bind_ok _ _ (bit s) p1 (8 * length s) past_payload r1 λ n p2 h2 r2.
      let x = stepped refl h1 headed.head.reads in
      let same : h.cur.at.0 ≡ p1 = one_place x.ran h1 in
      let y = stepped x.good (subst (λ (at : ℕ). run oa_element_count (bit s) at (8 * length s) past_payload ≡ ok n p2) (sym same) h2) (rw whole at counted.reads) in
      let z = seek_start extended s a.ran _ _ x.ran _ _ y.ran in
      record { programme = z.0; begun = record { short = a.short; good = y.good; whole = whole; seeking = z.1 } }
