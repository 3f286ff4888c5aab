-- The bits that are missing where a reader is refused for passing an end: laws over every reader, and what they say of the payload's.
use Rattle.std.specs.Prelude.{◌≡◌, refl, List, ◌++◌, ℕ, ◌+◌, ◌-◌, ◌*◌, ◌≤◌, ◌<◌, length}
use Rattle.std.proofs.Common.{sym, ap, ap₂, ◌∙◌, arith, length-append, le-leb, ne_eqb}
use Rattle.bits.specs.Language.{no, Bits, P, give, refuse, field, within, ◌>>=◌, run, bit, past_payload, past_declared}
use Rattle.bits.specs.Steps.{give_no, refuse_no, bind_no, bind_is, bind_stops}
use Rattle.bits.specs.Laws.{local, still, numbered}
use Rattle.bits.specs.Reached.{field-passes, size-passes}
use Rattle.bits.specs.ReachedLaws.{stop-refuses, field_past, element-past}
use Rattle.bits.specs.Terms.{Same, Says}
use Rattle.oamd.specs.Answer.{missing_of}
use Rattle.oamd.specs.Payload.{object_audio_metadata_payload}
use Rattle.demands.specs.Terms.{parsed}
use Rattle.demands.specs.Lemmas.Numbers.{payload-says}
use Rattle.demands.specs.Lemmas.Reading.{bit-append}

-- a refusal that is none of the reader's own lacks one bit or more
lacks : {A : Type 0} (p : P A) (b : Bits) (at e o : ℕ) {r pl m : ℕ} → Says p (λ n. n ≡ r → ⊥) → run p b at e o ≡ no r pl m → 1 ≤ m
unfolding Says
lacks (give a) b at e o s h = absurd (give_no a b at e o h)
lacks (refuse i back) b at e o s h = absurd (s (sym (refuse_no i back b at e o h).0))
lacks (field w f) b at e o s h = let x = field_past w f b at e o h in omega arith
lacks (within n back p) b at e o s h =
    element-past n back p b at e o h (λ l x. lacks p b at (at + n) past_declared s x) (λ x. omega arith)
lacks (p >>= k) b at e o s h = bind_no p k b at e o h (λ x. lacks p b at e o s.0 x) (λ a mid x y. lacks (k a) b mid e o (s.1 a) y)

-- refused for passing the end, and with more bits, but too few, it is refused at the same place, and lacks so many fewer
fewer : {A : Type 0} (p : P A) (b : Bits) (at e o : ℕ) {pl m : ℕ} → Says p (λ n. n ≡ o → ⊥) → (past_declared ≡ o → ⊥) → run p b at e o ≡ no o pl m
    → at ≤ e → (c : Bits) (more : ℕ) → Same b c e → more < m → run p c at (e + more) o ≡ no o pl (m - more)
unfolding Says
fewer (give a) b at e o s d h le c more ag few = absurd (give_no a b at e o h)
fewer (refuse i back) b at e o s d h le c more ag few = absurd (s (sym (refuse_no i back b at e o h).0))
fewer (field w f) b at e o s d h le c more ag few =
    let x = field_past w f b at e o h in
    stop-refuses c (field-passes {f = f} (omega arith)) ∙ ap₂ (λ (i j : ℕ). no o i j) x.2 (omega arith)
fewer (within n back p) b at e o s d h le c more ag few =
    element-past n back p b at e o h
    (λ l x. absurd (numbered p (λ n. n ≡ o → ⊥) b at (at + n) past_declared s d d x refl))
    (λ x. stop-refuses c (size-passes {p = p} (omega arith)) ∙ ap₂ (λ (i j : ℕ). no o i j) x.2 (omega arith))
fewer (p >>= k) b at e o s d h le c more ag few =
    bind_no p k b at e o h
    (λ x. bind_stops p k c at (e + more) o (fewer p b at e o s.0 d x le c more ag few))
    (λ a mid x y.
    let f = (local p b at e o x le).fits in
    bind_is p k c at (e + more) o (still p b at e o x le c (e + more) o (λ i j. ag i (omega arith)) (omega arith))
    ∙ fewer (k a) b mid e o (s.1 a) d y f c more ag few)

-- ---- the payload's reader

pub own : Says object_audio_metadata_payload (λ n. n ≡ past_payload → ⊥)
own = payload-says (λ n. n ≡ past_payload → ⊥) (λ z. omega arith) (λ z. omega arith) (λ z. omega arith) (λ z. omega arith) (λ z. omega arith)

pub parsed-lacks : (s : List ℕ) {place m : ℕ} → parsed s ≡ no past_payload place m → 1 ≤ m
parsed-lacks s h = lacks object_audio_metadata_payload (bit s) 0 (8 * length s) past_payload own h

pub parsed-fewer : (s t : List ℕ) {place m : ℕ} → parsed s ≡ no past_payload place m → 8 * length t < m
    → parsed (s ++ t) ≡ no past_payload place (m - 8 * length t)
parsed-fewer s t h few =
    let p = object_audio_metadata_payload in
    let end : 8 * length s + 8 * length t ≡ 8 * length (s ++ t) = omega (arith, length-append s t) in
    ap (λ (e : ℕ). run p (bit (s ++ t)) 0 e past_payload) (sym end)
    ∙ fewer p (bit s) 0 (8 * length s) past_payload own (λ z. omega arith) h (omega arith) (bit (s ++ t)) (8 * length t) (bit-append s t) few

-- ---- what is answered of them

pub missing_none : (r m : ℕ) → (r ≡ past_payload → ⊥) → missing_of r m ≡ 0
unfolding missing_of
missing_none r m h = rw (ne_eqb r past_payload h)

pub missing_is : (m : ℕ) → m ≤ 4294967295 → missing_of past_payload m ≡ m
unfolding missing_of
missing_is m h = rw (le-leb m 4294967295 h)
