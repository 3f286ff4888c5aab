-- What is answered, by what the pass has found. Assumes nothing.
use mathlib.Core.Path.{◌≡◌, refl, sym, ap, ap₂, ◌∙◌, subst}
use mathlib.Core.Bool.{Bool, true, false}
use mathlib.Core.List.{List, ◌++◌}
use Prim.Native.Nat.{ℕ, ◌-◌, ◌*◌, ◌≤◌, ◌<◌}
use native.Mathlib.Omega.{arith}
use borrow.Author.Tests.{leb-true, le-leb, lt-leb}
use lib.Dec.{leb}
use lib.ListN.{length, take, drop, replicate, length-append, length-drop, length-replicate}
use lib.Seq.{take-append_seam}
use Rattle.std.specs.Prelude.{Result, Ok, Err}
use Rattle.bits.specs.declared.Refusal.TheVariants.{TooLong, NoFit}
use Rattle.bits.specs.Refusals.{number_of}
use Rattle.bits.specs.Language.{Res, ok, no, pick, slice, bit}
use Rattle.bits.specs.Writes.{to_bytes}
use Rattle.oamd.specs.declared.Gone.{Gone}
use Rattle.oamd.specs.Tables.{most_bytes, most_elements}
use Rattle.oamd.specs.Record.{onto}
use Rattle.oamd.specs.Element.{State}
use Rattle.oamd.specs.Sift.{Sieve, sieve}
use Rattle.demands.specs.Assembly.{count_bits}
use Rattle.reader.specs.declared.Refused.{Refused}
use Rattle.reader.specs.declared.Sifted.{Sifted}
use Rattle.reader.specs.Sifts.{no_gone, unsifted, sifted_by, sifted_from, sifted}
use Rattle.salvaging.specs.declared.SalvageAnswer.{SalvageAnswer}
use Rattle.salvaging.specs.Salvage.{Salvaged, without, left, accepted_with, not_salvaged, roomed, remaining, finished, concluded, salvaging}
use Rattle.salvaging.specs.Promises.{Sieved, gone_of, InOrder}
use Rattle.salvaging.specs.Parts.{gone_by, left_by, Fair}
use Rattle.salvaging.specs.When.{sieved_of}
use Rattle.salvaging.specs.Lemmas.Order.{opened, in_order, few}

-- ---- the answer, by what was found

-- what is left is told by what was found, and the room decides
pub record ByRoom (s : List ℕ) (d : Sifted) (answer : List ℕ → Salvaged) : Type 0 where
  pub fair : Fair s d
  pub same : (out : List ℕ) → roomed out (gone_by d) (to_bytes (left_by s d)) ≡ answer out

-- only the room is to be looked at, or it is refused
abbrev Verdict : List ℕ → (List ℕ → Salvaged) → Result Sifted Refused → Type 0
Verdict s answer (Ok d) = ByRoom s d answer
Verdict s answer (Err e) = (out : List ℕ) → not_salvaged out e.refusal e.place e.missing ≡ answer out

-- by how the pass ends, and by the header and the count before it
module _ (s : List ℕ) (short : length s ≤ most_bytes) where
  judged_last : (x : Sieve) → Sieved s x → (y : Res State) → Verdict s (λ out. finished s out x y) (sifted_by x y)
  unfolding left_by left remaining
  judged_last x h (no r pl m) = λ out. refl
  judged_last x h (ok st to) =
      let gone : List Gone = gone_of x in
      let zeros : List Gone = replicate (most_elements - length gone) no_gone in
      let same : take (length gone) (gone ++ zeros) ≡ gone = take-append_seam gone zeros in
      let e : ℕ = 8 * length s in
      let o = opened s x h in
      record {
        fair = record {
          short = short;
          headed = o.further;
          order = subst (λ (gs : List Gone). InOrder x.body gs e) (sym same) (in_order s x h);
          few = few s x h;
          most = o.most;
          array = length-append gone zeros ∙ omega (arith, length-replicate {A = Gone} (most_elements - length gone) no_gone, few s x h, o.most);
        };
        same = λ out.
            ap (λ (gs : List Gone). roomed out gs (to_bytes (slice (bit s) 0 x.head ++ (count_bits (x.count - length gone) ++ without (bit s) x.body gs e)))) same;
      }

  judged_first : (x : Res Sieve) → sieve (bit s) (8 * length s) ≡ x → Verdict s (λ out. concluded s out x) (sifted_from x)
  judged_first (ok x to) q = judged_last x (sieved_of s q) x.sifting.last
  judged_first (no r pl m) q = λ out. refl

verdict : (s : List ℕ) → Verdict s (salvaging s) (sifted s)
unfolding sifted salvaging
verdict s = go (leb (length s) most_bytes) refl
  where
    go : (t : Bool) → leb (length s) most_bytes ≡ t
        → Verdict s (λ out. pick t (concluded s out (sieve (bit s) (8 * length s))) (not_salvaged out (number_of TooLong) (length s) 0))
        (pick t (sifted_from (sieve (bit s) (8 * length s))) (Err (unsifted (number_of TooLong) (length s) 0)))
    go true q = judged_first s (leb-true (length s) most_bytes q) (sieve (bit s) (8 * length s)) refl
    go false q = λ out. refl

pub refuses : (s : List ℕ) (e : Refused) → Err e ≡ sifted s → (out : List ℕ) → not_salvaged out e.refusal e.place e.missing ≡ salvaging s out
refuses s e h = subst (Verdict s (salvaging s)) (sym h) (verdict s)

pub by-room : (s : List ℕ) (d : Sifted) → Ok d ≡ sifted s → ByRoom s d (salvaging s)
by-room s d h = subst (Verdict s (salvaging s)) (sym h) (verdict s)

-- ---- the answer, by the room

abbrev pub gives : SalvageAnswer → List ℕ → Salvaged
gives a out = record { answer = a; out = out }

module _ (out : List ℕ) (gone : List Gone) (payload : List ℕ) (bytes : ℕ) (e : bytes ≡ length payload) where
  pub no_room : length out < bytes → not_salvaged out (number_of NoFit) bytes 0 ≡ roomed out gone payload
  unfolding roomed
  no_room h = ap (λ (n : ℕ). not_salvaged out (number_of NoFit) n 0) e ∙ sym (rw (lt-leb (length payload) (length out) (omega arith)) refl)

  pub same_size : (u : List ℕ) → bytes ≤ length out → u ≡ payload ++ drop bytes out → length u ≡ length out
  same_size u g l = ap length l ∙ length-append payload (drop bytes out) ∙ omega (arith, length-drop bytes out)

  pub fits : (u : List ℕ) (n : ℕ) → n ≡ bytes → bytes ≤ length out → u ≡ payload ++ drop bytes out → gives (accepted_with n gone) u ≡ roomed out gone payload
  unfolding roomed onto
  fits u n q g l =
      ap₂ (λ (k : ℕ) (x : List ℕ). gives (accepted_with k gone) x) (q ∙ e) (l ∙ ap (λ (k : ℕ). payload ++ drop k out) e)
      ∙ sym (rw (le-leb (length payload) (length out) (omega arith)) refl)
