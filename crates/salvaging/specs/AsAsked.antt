-- Salvage is reading, dropping the element that is refused, and reading again: each reading but the last is refused as the next that is dropped, and the last answers as the
-- pass does.
use Rattle.std.proofs.Common.{subst, arith}
use Rattle.std.specs.Prelude.{List, [], ◌∷◌, ℕ, zero, suc, ◌*◌, ◌<◌, length, get_or, take}
use Rattle.bits.specs.Language.{Res, no}
use Rattle.oamd.specs.declared.Gone.{Gone}
use Rattle.oamd.specs.Element.{State}
use Rattle.oamd.specs.Sift.{Sieve}
use Rattle.reader.specs.Sifts.{no_gone}
use Rattle.salvaging.specs.Promises.{Sieved, gone_of, left_of, RefusedAs, AsAsked}
use Rattle.salvaging.specs.Lemmas.Order.{in_order}
use Rattle.salvaging.specs.Lemmas.Keeping.{left-fewer, left-whole}
use Rattle.salvaging.specs.Lemmas.Readings.{order-take, Like, Next, Reread, reread}

-- before the last is out, the next is refused
next-each : (e e' : ℕ) (gs : List Gone) (last : Res State) (i : ℕ) (x : Res State) → i < length gs → Next e e' gs last i x
    → (m : ℕ) × Like e e' (no (get_or gs i no_gone).refusal (get_or gs i no_gone).place.0 m) x
next-each e e' [] last i x h n = absurd (omega arith)
next-each e e' (g ∷ gs) last zero x h n = n
next-each e e' (g ∷ gs) last (suc i) x h n = next-each e e' gs last i x (omega arith) n

-- behind all of them stands the last of the pass
next_last : (e e' : ℕ) (gs : List Gone) (last x : Res State) → Next e e' gs last (length gs) x → Like e e' last x
next_last e e' [] last x n = n
next_last e e' (g ∷ gs) last x n = next_last e e' gs last x n

-- what is left is no longer than what came, and a refusal of its elements is one of all
refused_as : (s : List ℕ) (x : Sieve) → Sieved s x → (i : ℕ) {r pl m : ℕ} (y : Reread s x i)
    → Like (8 * length s) (length (left_of s x i)) (no r pl m) y.answer → RefusedAs s (left_of s x i) r pl m
refused_as s x h i y z = record {
  place = z.0;
  refused = y.refused _ _ _ z.1;
  shorter = left-fewer s x h (take i (gone_of x)) (order-take i (in_order s x h));
  was = z.2;
}

pub as-asked : (s : List ℕ) (x : Sieve) → Sieved s x → AsAsked s x
as-asked s x h =
    let e : ℕ = 8 * length s in
    let n : ℕ = length (gone_of x) in
    let all = reread s x h n (omega arith) in
    let end = next_last e (length (left_of s x n)) (gone_of x) x.sifting.last all.answer all.next in
    record {
      first = left-whole s x h;
      each = λ i l.
          let y = reread s x h i (omega arith) in
          let z = next-each e (length (left_of s x i)) (gone_of x) x.sifting.last i y.answer l y.next in
          (z.0, refused_as s x h i y z.1);
      accepted = λ st to q.
          let z = subst (λ (r : Res State). Like e (length (left_of s x n)) r all.answer) q end in
          (z.0, all.accepted st z.0 z.1);
      refused = λ r pl m q. refused_as s x h n all (subst (λ (r : Res State). Like e (length (left_of s x n)) r all.answer) q end);
    }
