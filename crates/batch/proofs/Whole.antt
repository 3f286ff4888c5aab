-- The parts of an answer, stored one after the other, are its bytes. Assumes nothing.
use mathlib.Core.Path.{◌≡◌, refl, sym, ap, ap₂, ◌∙◌}
use mathlib.Core.List.{List, [], ◌∷◌, ◌++◌, append_assoc, append-nil}
use Prim.Native.Nat.{ℕ, ◌+◌, ◌*◌, ◌≤◌}
use native.Mathlib.Omega.{arith}
use lib.ListN.{length, take, drop, replicate, length-append, length-replicate, drop_of_length-le}
use lib.Seq.{take_all}
use Rattle.std.specs.Int.{bytes_low_first}
use Rattle.oamd.specs.declared.ReadAnswer.{ReadAnswer}
use Rattle.oamd.specs.Tables.{most_beds, most_blocks, answer_bytes}
use Rattle.oamd.specs.LeastFirst.{least_first}
use Rattle.oamd.specs.Record.{onto}
use Rattle.oamd.specs.Batch.{each_bytes, bed_bytes_of, update_bytes_of, programme_bytes_of, timing_bytes_of, answer_bytes_of}
use Rattle.record.specs.Bytes.{set_from}
use Rattle.record.specs.Stored.{seam}
use Rattle.batch.specs.Parts.{StoredEach}
use Rattle.batch.proofs.Numbers.{low-first}
use Rattle.oamd.specs.Lengths.{length-each, length-bed, length-update, length-answer}

-- bytes as long as the room are all of it
filled : (l room : List ℕ) → length l ≡ length room → onto l room ≡ l
unfolding onto
filled l room e = ap (λ (t : List ℕ). l ++ t) (drop_of_length-le room {i = length l} (omega arith)) ∙ append-nil l

-- what is stored behind the front
behind : (at : ℕ) (xs front room s t : List ℕ) → length front ≡ at → at + length xs ≤ length room → s ≡ onto front room → t ≡ set_from at 0 xs s
    → t ≡ onto (front ++ xs) room
behind at xs front room s t e h is store = store ∙ ap (set_from at 0 xs) is ∙ seam xs front room at 0 (omega arith) (omega arith)

module _ (a : ReadAnswer) where
  abbrev place : List ℕ
  place = least_first 8 a.place

  abbrev marks : List ℕ
  marks = a.refusal ∷ a.unknown ∷ 0 ∷ 0 ∷ []

  abbrev fields₁ : List ℕ
  fields₁ = let p = a.programme in p.objects ∷ p.dynonly ∷ p.lfe ∷ p.content ∷ p.distribute ∷ p.multiple ∷ []

  abbrev fields₂ : List ℕ
  fields₂ = let p = a.programme in p.instances ∷ p.bedcount ∷ p.isf ∷ p.dynamics ∷ 0 ∷ 0 ∷ []

  abbrev front : List ℕ
  front = ((place ++ marks) ++ fields₁) ++ fields₂

  abbrev beds : List ℕ
  beds = each_bytes bed_bytes_of a.programme.beds

  abbrev blocks : List ℕ
  blocks = a.timing.blocks ∷ 0 ∷ []

  abbrev updates : List ℕ
  updates = each_bytes update_bytes_of a.timing.updates

  abbrev zeros : List ℕ
  zeros = 0 ∷ 0 ∷ []

  abbrev missing : List ℕ
  missing = least_first 4 a.missing

  -- in the order of the definition
  in_order : ((((front ++ beds) ++ blocks) ++ updates) ++ zeros) ++ missing ≡ answer_bytes_of a
  unfolding answer_bytes_of programme_bytes_of timing_bytes_of least_first
  in_order =
      append_assoc (((front ++ beds) ++ blocks) ++ updates) zeros missing
      ∙ ap (λ (t : List ℕ). front ++ t)
      (append_assoc (beds ++ blocks) updates (zeros ++ missing)
      ∙ append_assoc beds blocks (updates ++ (zeros ++ missing))
      ∙ ap (λ (t : List ℕ). beds ++ (blocks ++ t)) (sym (append_assoc updates zeros missing)))

  to_beds : length front ≡ 24
  unfolding least_first
  to_beds = refl

  to_marks : length place ≡ 8
  unfolding least_first
  to_marks = refl

  module _ (nine : length a.programme.beds ≡ most_beds) (eight : length a.timing.updates ≡ most_blocks) where
    beds_long : length beds ≡ 72
    beds_long = length-each bed_bytes_of 8 length-bed a.programme.beds ∙ ap (λ (n : ℕ). n * 8) nine

    updates_long : length updates ≡ 32
    updates_long = length-each update_bytes_of 4 length-update a.timing.updates ∙ ap (λ (n : ℕ). n * 4) eight

    to_blocks : length (front ++ beds) ≡ 96
    to_blocks = omega (arith, length-append front beds, to_beds, beds_long)

    to-updates : length ((front ++ beds) ++ blocks) ≡ 98
    to-updates = omega (arith, length-append (front ++ beds) blocks, to_blocks)

    to_zeros : length (((front ++ beds) ++ blocks) ++ updates) ≡ 130
    to_zeros = omega (arith, length-append ((front ++ beds) ++ blocks) updates, to-updates, updates_long)

    to_missing : length ((((front ++ beds) ++ blocks) ++ updates) ++ zeros) ≡ 132
    to_missing = omega (arith, length-append (((front ++ beds) ++ blocks) ++ updates) zeros, to_zeros)

    to_end : length (((((front ++ beds) ++ blocks) ++ updates) ++ zeros) ++ missing) ≡ answer_bytes
    unfolding least_first
    to_end = omega (arith, length-append ((((front ++ beds) ++ blocks) ++ updates) ++ zeros) missing, to_missing)

  pub whole : {p m s₀ s₁ s₂ s₃ s₄ s₅ s₆ s₇ s₈ s₉ : List ℕ} → p ≡ bytes_low_first 0 8 a.place → m ≡ bytes_low_first 0 4 a.missing
      → s₀ ≡ replicate answer_bytes 0 → s₁ ≡ set_from 0 0 p s₀
      → s₂ ≡ set_from 8 0 marks s₁ → s₃ ≡ set_from 12 0 fields₁ s₂ → s₄ ≡ set_from 18 0 fields₂ s₃
      → StoredEach bed_bytes_of 24 most_beds a.programme.beds s₄ s₅ → s₆ ≡ set_from 96 0 blocks s₅
      → StoredEach update_bytes_of 98 most_blocks a.timing.updates s₆ s₇ → s₈ ≡ set_from 130 0 zeros s₇ → s₉ ≡ set_from 132 0 m s₈
      → (s₉ ≡ answer_bytes_of a) × (length s₉ ≡ answer_bytes)
  unfolding least_first onto
  whole {s₀ = s₀} {s₁} {s₂} {s₃} {s₄} {s₅} {s₆} {s₇} {s₈} {s₉} p-is m-is e₀ e₁ e₂ e₃ e₄ b e₆ u e₈ e₉ =
      let room : List ℕ = replicate answer_bytes 0 in
      let long : length room ≡ answer_bytes = length-replicate {A = ℕ} answer_bytes 0 in
      let nine = b.long in
      let eight = u.long in
      let d₁ : s₁ ≡ onto place room = behind 0 place [] room s₀ s₁ refl (omega (arith, to_marks)) e₀ (e₁ ∙ ap (λ (l : List ℕ). set_from 0 0 l s₀) (p-is ∙ low-first 8 a.place)) in
      let d₂ : s₂ ≡ onto (place ++ marks) room = behind 8 marks place room s₁ s₂ refl (omega arith) d₁ e₂ in
      let d₃ : s₃ ≡ onto ((place ++ marks) ++ fields₁) room = behind 12 fields₁ (place ++ marks) room s₂ s₃ refl (omega arith) d₂ e₃ in
      let d₄ : s₄ ≡ onto front room = behind 18 fields₂ ((place ++ marks) ++ fields₁) room s₃ s₄ refl (omega arith) d₃ e₄ in
      let d₅ : s₅ ≡ onto (front ++ beds) room = b.stands front room to_beds long d₄ in
      let d₆ : s₆ ≡ onto ((front ++ beds) ++ blocks) room = behind 96 blocks (front ++ beds) room s₅ s₆ (to_blocks nine eight) (omega arith) d₅ e₆ in
      let d₇ : s₇ ≡ onto (((front ++ beds) ++ blocks) ++ updates) room = u.stands ((front ++ beds) ++ blocks) room (to-updates nine eight) long d₆ in
      let d₈ : s₈ ≡ onto ((((front ++ beds) ++ blocks) ++ updates) ++ zeros) room =
      behind 130 zeros (((front ++ beds) ++ blocks) ++ updates) room s₇ s₈ (to_zeros nine eight) (omega arith) d₇ e₈ in
      let d₉ : s₉ ≡ onto (((((front ++ beds) ++ blocks) ++ updates) ++ zeros) ++ missing) room =
      behind 132 missing ((((front ++ beds) ++ blocks) ++ updates) ++ zeros) room s₈ s₉ (to_missing nine eight) (omega arith) d₈
      (e₉ ∙ ap (λ (l : List ℕ). set_from 132 0 l s₈) (m-is ∙ low-first 4 a.missing)) in
      let all : s₉ ≡ answer_bytes_of a = d₉ ∙ filled _ room (to_end nine eight ∙ sym long) ∙ in_order in
      (all, ap length all ∙ length-answer a nine eight)

-- bytes that are copied over as many are all that stands there afterwards
pub copied-whole : (n : ℕ) (page part : List ℕ) → n ≡ length page → length part ≡ length page → take n page ++ drop n part ≡ page
copied-whole n page part e h = ap₂ (λ (x y : List ℕ). x ++ y) (take_all n page (omega arith)) (drop_of_length-le part {i = n} (omega arith)) ∙ append-nil page
