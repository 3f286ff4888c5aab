-- What an entry comes to: outside the store a refusal, inside it what a read of the part gives. Assumes nothing.
use mathlib.Core.Path.{◌≡◌, refl}
use mathlib.Core.List.{List}
use Prim.Native.Nat.{ℕ, ◌+◌, ◌≤◌, ◌<◌}
use lib.ListN.{length, take, drop}
use borrow.Author.Tests.{le-leb, lt-leb}
use Rattle.bits.specs.declared.Refusal.TheVariants.{Outside}
use Rattle.bits.specs.Refusals.{number_of}
use Rattle.oamd.specs.declared.ReadAnswer.{ReadAnswer}
use Rattle.oamd.specs.Answer.{Outcome, refused, reading}
use Rattle.oamd.specs.Batch.{entry}

abbrev pub outcome : ReadAnswer → List ℕ → List ℕ → Outcome
outcome answer records trim = record { answer = answer; buffer = records; trim = trim }

module _ (frame : ℕ) (store : List ℕ) (start len : ℕ) (records trim : List ℕ) where
  pub leaves : length store < start + len → entry frame store start len records trim ≡ refused records trim (number_of Outside) start 0
  unfolding entry
  leaves h = rw (lt-leb (start + len) (length store) h) refl

  pub inside : (n : ℕ) → n ≡ len → start + len ≤ length store → entry frame store start len records trim ≡ reading frame (take n (drop start store)) records trim
  unfolding entry
  inside n e h = rw (e, le-leb (start + len) (length store) h) refl
