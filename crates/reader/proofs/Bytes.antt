-- Records as bytes: their lengths, one more behind them, and the gain of one read back. Assumes nothing.
use mathlib.Core.Path.{◌≡◌, refl, sym, ap, ◌∙◌}
use mathlib.Core.List.{List, [], ◌∷◌, ◌++◌, append_assoc, append-nil}
use Prim.Native.Nat.{ℕ, zero, suc, ◌+◌, ◌-◌, ◌*◌, ◌≤◌}
use native.Mathlib.Omega.{arith}
use lib.ListN.{length, get_or, drop, length-append}
use lib.Dec.{leb}
use borrow.Author.Tests.{le-leb, lt-leb}
use Rattle.bits.specs.Language.{pick}
use Rattle.bits.specs.Steps.{by_order}
use Rattle.oamd.specs.declared.Scene.{Scene}
use Rattle.oamd.specs.Tables.{record_bytes}
use Rattle.oamd.specs.Meaning.{idle, zero_db}
use Rattle.oamd.specs.Record.{Record, record_of, plain_records, record_bytes_of, bytes_of, onto}
use Rattle.oamd.specs.Lengths.{length_record, length-bytes}
use Rattle.oamd.specs.Extended.{no_divergence, no_precise}
use Rattle.record.specs.Bytes.{set_from, scene_at}
use Rattle.record.specs.Laws.{record_of_lem}
pub use Rattle.record.specs.Stored.{seam}
use Rattle.reader.specs.Running.{gain_of_object_before}

pub bytes-append : (xs ys : List Record) → bytes_of (xs ++ ys) ≡ bytes_of xs ++ bytes_of ys
unfolding bytes_of
bytes-append [] ys = refl
bytes-append (x ∷ xs) ys = ap (λ (t : List ℕ). record_bytes_of x ++ t) (bytes-append xs ys) ∙ sym (append_assoc (record_bytes_of x) (bytes_of xs) (bytes_of ys))

-- the bytes around one record
pub around : (front rest : List Record) (r : Record) (t : List ℕ)
    → onto (bytes_of (front ++ (r ∷ rest))) t ≡ bytes_of front ++ (record_bytes_of r ++ (bytes_of rest ++ drop (record_bytes * (length front + suc (length rest))) t))
unfolding onto bytes_of
around front rest r t =
    let n : length (bytes_of (front ++ (r ∷ rest))) ≡ record_bytes * (length front + suc (length rest)) =
    length-bytes (front ++ (r ∷ rest)) ∙ ap (λ (k : ℕ). record_bytes * k) (length-append front (r ∷ rest)) in
    ap (λ (k : ℕ). bytes_of (front ++ (r ∷ rest)) ++ drop k t) n
    ∙ rw (bytes-append front (r ∷ rest), append_assoc (bytes_of front), append_assoc (record_bytes_of r))

pub length-plain : (ss : List Scene) → length (plain_records ss) ≡ length ss
unfolding plain_records
length-plain [] = refl
length-plain (s ∷ ss) = ap suc (length-plain ss)

pub plain-append : (ss us : List Scene) → plain_records (ss ++ us) ≡ plain_records ss ++ plain_records us
unfolding plain_records
plain-append [] us = refl
plain-append (s ∷ ss) us = ap (λ (rs : List Record). record_of s no_divergence no_precise ∷ rs) (plain-append ss us)

-- one more record is stored behind those that stand
pub stored : (ss : List Scene) (s : Scene) (t : List ℕ) (at : ℕ) → at ≡ record_bytes * length ss → at + record_bytes ≤ length t
    → set_from at 0 (record_bytes_of (record_of s no_divergence no_precise)) (onto (bytes_of (plain_records ss)) t) ≡ onto (bytes_of (plain_records (ss ++ (s ∷ [])))) t
unfolding plain_records bytes_of
stored ss s t at e h =
    let r : Record = record_of s no_divergence no_precise in
    seam (record_bytes_of r) (bytes_of (plain_records ss)) t at 0 (omega (arith, length-bytes (plain_records ss), length-plain ss)) (omega (arith, length_record r))
    ∙ ap (λ (f : List ℕ). onto f t)
    (ap (λ (f : List ℕ). bytes_of (plain_records ss) ++ f) (sym (append-nil (record_bytes_of r))) ∙ sym (bytes-append (plain_records ss) (r ∷ [])) ∙ ap bytes_of (sym (plain-append ss (s ∷ []))))

scene_of-plain : (ss : List Scene) (m : ℕ) → (get_or (plain_records ss) m (record_of (idle 0) no_divergence no_precise)).scene ≡ get_or ss m (idle 0)
unfolding plain_records
scene_of-plain [] m = refl
scene_of-plain (s ∷ ss) zero = refl
scene_of-plain (s ∷ ss) (suc m) = scene_of-plain ss m

-- the gain that the code reads back is that of the object before
pub gain-before : (ss : List Scene) (t : List ℕ) (k at : ℕ) → 1 ≤ k → at ≡ record_bytes * length ss
    → pick (leb (record_bytes * k) at) (scene_at (onto (bytes_of (plain_records ss)) t) (at - record_bytes * k)).gain zero_db ≡ gain_of_object_before k ss
unfolding gain_of_object_before onto
gain-before ss t k at p e = by_order k (length ss)
    (λ h.
    let m : ℕ = length ss - k in
    let place : at - record_bytes * k ≡ record_bytes * m = omega arith in
    let there = record_of_lem (plain_records ss) (drop (length (bytes_of (plain_records ss))) t) m (record_of (idle 0) no_divergence no_precise) (omega (arith, length-plain ss)) in
    rw (le-leb k (length ss) h, le-leb (record_bytes * k) at (omega arith), place)
    (ap (λ (r : Record). r.scene.gain) there ∙ ap (λ (s : Scene). s.gain) (scene_of-plain ss m)))
    (λ h. rw (lt-leb k (length ss) h, lt-leb (record_bytes * k) at (omega arith)))
