-- The elements that are dropped stand one behind the other, and are no more than there are elements.
use Rattle.std.specs.Prelude.{◌≡◌, refl, List, ℕ, zero, suc, ◌*◌, ◌≤◌, ◌<◌, length}
use Rattle.std.proofs.Common.{sym, subst, arith}
use Rattle.bits.specs.Language.{ok, Bits, run, number, bit, past_payload}
use Rattle.bits.specs.Steps.{value, and_then_ok, bind_ok, field_ok}
use Rattle.bits.specs.Laws.{local}
use Rattle.bits.specs.Spells.{spelled}
use Rattle.bits.specs.Bytes.{bit_lt}
use Rattle.oamd.specs.declared.Frame.{Frame}
use Rattle.oamd.specs.declared.Gone.{Gone}
use Rattle.oamd.specs.declared.Programme.{Programme}
use Rattle.oamd.specs.Tables.{most_elements}
use Rattle.oamd.specs.Element.{framed, frame, State, nothing, oa_element_md}
use Rattle.oamd.specs.Payload.{header, oa_element_count}
use Rattle.oamd.specs.Sift.{Sifting, gone_at, sift, Sieve, sieve}
use Rattle.demands.specs.Lemmas.Assembled.{count-spells}
use Rattle.salvaging.specs.Promises.{Sieved, gone_of, InOrder, none, one}
use Rattle.salvaging.specs.Lemmas.Turns.{sift_next}

-- they stand so from an earlier bit on, too
pub earlier : {at to e : ℕ} {gs : List Gone} → at ≤ to → InOrder to gs e → InOrder at gs e
earlier {at} {to} {e} h (none l) = let sum : at ≤ e = omega arith in none sum
earlier {at} h (one g gs l m x) = let sum : at ≤ g.from.0 = omega arith in one g gs sum m x

-- a frame takes some bits, and ends no later than all
pub frame-goes : (alternate : ℕ) (b : Bits) (at e o : ℕ) {f : Frame} {to : ℕ} → run (frame alternate) b at e o ≡ ok f to → at ≤ e → (at < to) × (to ≤ e)
unfolding framed
frame-goes alternate b at e o h le =
    bind_ok _ _ b at e o h λ id mid h1 h2.
    let first = field_ok 4 number b at e o h1 in
    let rest = local _ b mid e o h2 (omega arith) in
    (omega (arith, rest.ends), rest.fits)

-- what is told of a pass over n elements from at on
pub record Orderly (at n e : ℕ) (x : Sifting) : Type 0 where
  pub order : InOrder at x.gone e
  pub few : length x.gone ≤ n

pub sift_orderly : (p : Programme) (alternate n : ℕ) (st : State) (b : Bits) (at e : ℕ) → at ≤ e → Orderly at n e (sift p alternate n st b at e)
unfolding sift
sift_orderly p alternate zero st b at e le = record { order = none le; few = omega arith }
sift_orderly p alternate (suc n) st b at e le =
    sift_next p alternate n st b at e (Orderly at (suc n) e)
    (λ st' to h.
    let goes = local (oa_element_md p alternate st) b at e past_payload h le in
    let y = sift_orderly p alternate n st' b to e goes.fits in
    record { order = earlier (omega (arith, goes.ends)) y.order; few = omega (arith, y.few) })
    (λ r pl m h i. record { order = none le; few = omega arith })
    (λ r pl m f to h w.
    let goes = frame-goes alternate b at e past_payload w le in
    let y = sift_orderly p alternate n st b to e goes.1 in
    let here : at ≤ at = omega arith in
    record { order = one (gone_at b at to r pl) (sift p alternate n st b to e).gone here goes.0 y.order; few = omega (arith, y.few) })

-- ---- the payload

-- what is read before the elements
pub record Opened (s : List ℕ) (x : Sieve) : Type 0 where
  pub header_read : run header (bit s) 0 (8 * length s) past_payload ≡ ok x.header x.head
  pub count-read : run oa_element_count (bit s) x.head (8 * length s) past_payload ≡ ok x.count x.body
  pub sifted : x.sifting ≡ sift x.header.programme x.header.alternate x.count (record { known = nothing; unknown = 0 }) (bit s) x.body (8 * length s)
  pub headed : x.head ≤ 8 * length s
  pub further : x.head ≤ x.body
  pub bodied : x.body ≤ 8 * length s
  pub most : x.count ≤ most_elements

pub opened : (s : List ℕ) (x : Sieve) → Sieved s x → Opened s x
unfolding sieve
opened s x h =
    let b = bit s in
    let e : ℕ = 8 * length s in
    let start : 0 ≤ e = omega arith in
    let (hd, p1, h1, k1) = and_then_ok (run header b 0 e past_payload) _ h in
    let (n, p2, h2, k2) = and_then_ok (run oa_element_count b p1 e past_payload) _ k1 in
    let is = value k2 in
    let l1 = local header b 0 e past_payload h1 start in
    let l2 = local oa_element_count b p1 e past_payload h2 l1.fits in
    let count = spelled oa_element_count _ count-spells b (bit_lt s) p1 e past_payload l1.fits h2 in
    subst (λ (x : Sieve). Opened s x) is (record {
      header_read = h1;
      count-read = h2;
      sifted = refl;
      headed = l1.fits;
      further = omega (arith, l2.ends);
      bodied = l2.fits;
      most = count.1;
    })

pub in_order : (s : List ℕ) (x : Sieve) → Sieved s x → InOrder x.body (gone_of x) (8 * length s)
in_order s x h =
    let o = opened s x h in
    subst (λ (y : Sifting). InOrder x.body y.gone (8 * length s)) (sym o.sifted) (sift_orderly _ _ _ _ (bit s) x.body (8 * length s) o.bodied).order

pub few : (s : List ℕ) (x : Sieve) → Sieved s x → length (gone_of x) ≤ x.count
few s x h =
    let o = opened s x h in
    subst (λ (y : Sifting). length y.gone ≤ x.count) (sym o.sifted) (sift_orderly _ _ _ _ (bit s) x.body (8 * length s) o.bodied).few
