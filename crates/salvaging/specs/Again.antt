-- A payload that is accepted comes back from salvage as the same bytes, and so does what salvage leaves.
use Rattle.std.specs.Prelude.{◌≡◌, refl, List, [], ℕ, zero, suc, ◌+◌, ◌*◌, ◌/◌, ◌≤◌, length}
use Rattle.std.proofs.Common.{sym, ap, ap₂, ◌∙◌, arith, le-leb}
use Rattle.std.proofs.Math.ListN.{get_or-eq_default}
use Rattle.bits.specs.Language.{ok, Bits, slice, run, bit, past_payload}
use Rattle.bits.specs.Steps.{no_ok, value, by_order, bind_ok, bind_is, give_ok, give_is, length-slice}
use Rattle.bits.specs.Writes.{Binary, listed, pack, to_bytes}
use Rattle.bits.specs.Lists.{binary-slice, number_lt}
use Rattle.bits.specs.Bytes.{length-pack, get_or-pack, to_bytes-bit}
use Rattle.oamd.specs.declared.Gone.{Gone}
use Rattle.oamd.specs.declared.Programme.{Programme}
use Rattle.oamd.specs.Tables.{most_bytes}
use Rattle.oamd.specs.Element.{nothing, State, elements}
use Rattle.oamd.specs.Payload.{Payload, object_audio_metadata_payload}
use Rattle.oamd.specs.Sift.{Sifting, passed, sift, Sieve, sieve}
use Rattle.oamd.specs.Answer.{reading}
use Rattle.demands.specs.Terms.{parsed}
use Rattle.demands.specs.Lemmas.Reading.{read_of}
use Rattle.salvaging.specs.Salvage.{left, roomed, remaining, salvaged_to, finished, salvaging}
use Rattle.salvaging.specs.Promises.{Sieved, gone_of, Salvages, Bytes, SameBack}
use Rattle.salvaging.specs.Lemmas.Turns.{sift_next}
use Rattle.salvaging.specs.Lemmas.Order.{opened}
use Rattle.salvaging.specs.Lemmas.Keeping.{left-binary, left-whole}

-- ---- nothing is dropped exactly when every element is read

sift-reads : (p : Programme) (alternate n : ℕ) (st : State) (b : Bits) (at e : ℕ) {st' : State} {to : ℕ} → run (elements p alternate n st) b at e past_payload ≡ ok st' to
    → sift p alternate n st b at e ≡ passed st' to
unfolding sift elements
sift-reads p alternate zero st b at e h =
    let g = give_ok st b at e past_payload h in
    λ i. passed (g.0 i) (sym g.1 i)
sift-reads p alternate (suc n) st b at e h =
    bind_ok _ _ b at e past_payload h λ mid to h1 h.
    rw h1 (sift-reads p alternate n mid b to e h)

reads-sift : (p : Programme) (alternate n : ℕ) (st : State) (b : Bits) (at e : ℕ) {st' : State} {to : ℕ} → sift p alternate n st b at e ≡ passed st' to
    → run (elements p alternate n st) b at e past_payload ≡ ok st' to
unfolding sift elements
reads-sift p alternate zero st b at e = λ h. give_is st b at e past_payload ∙ ap (λ (y : Sifting). y.last) h
reads-sift p alternate (suc n) st b at e {st'} {to} =
    sift_next p alternate n st b at e (λ y. y ≡ passed st' to → run (elements p alternate (suc n) st) b at e past_payload ≡ ok st' to)
    (λ mid at' k h. bind_is _ _ b at e past_payload k ∙ reads-sift p alternate n mid b at' e h)
    (λ r pl m k i h. absurd (no_ok (ap (λ (y : Sifting). y.last) h)))
    (λ r pl m f at' k w h. absurd (omega (arith, ap (λ (y : Sifting). length y.gone) h)))

-- what is made of an accepted payload: every element of it is read
record Whole (s : List ℕ) : Type 0 where
  sieve : Sieve
  sieved : Sieved s sieve
  state : State
  to : ℕ
  all : sieve.sifting ≡ passed state to

whole : (s : List ℕ) {q : Payload} {to : ℕ} → parsed s ≡ ok q to → Whole s
unfolding object_audio_metadata_payload sieve
whole s h =
    let b = bit s in
    let e : ℕ = 8 * length s in
    bind_ok _ _ b 0 e past_payload h λ hd p1 h1 h.
    bind_ok _ _ b p1 e past_payload h λ n p2 h2 h.
    bind_ok _ _ b p2 e past_payload h λ st p3 h3 h.
    record {
      sieve = record { header = hd; head = p1; count = n; body = p2; sifting = passed st p3 };
      sieved = rw (h1, h2, sift-reads hd.programme hd.alternate n (record { known = nothing; unknown = 0 }) b p2 e h3);
      state = st;
      to = p3;
      all = refl;
    }

-- Nothing is dropped of a payload that is accepted.
pub accepted-whole : (s : List ℕ) (x : Sieve) → Sieved s x → (q : Payload) (to : ℕ) → parsed s ≡ ok q to → gone_of x ≡ []
accepted-whole s x h q to r =
    let y = whole s r in
    ap gone_of (value (sym h ∙ y.sieved)) ∙ ap (λ (z : Sifting). z.gone) y.all

-- what is left where nothing is dropped is all that there was
all_left : (s : List ℕ) (x : Sieve) → Sieved s x → Bytes s → gone_of x ≡ [] → remaining s x ≡ s
unfolding remaining
all_left s x h bytes none =
    ap (λ (gs : List Gone). to_bytes (left (bit s) (8 * length s) x gs)) none ∙ ap to_bytes (left-whole s x h) ∙ to_bytes-bit s bytes

-- And a payload of which nothing is dropped, and that is not refused, stays as it is and is accepted.
pub nothing-dropped : (s : List ℕ) (x : Sieve) → Sieved s x → Bytes s → (st : State) (to : ℕ) → x.sifting.last ≡ ok st to → gone_of x ≡ []
    → (remaining s x ≡ s) × (parsed s ≡ ok (record { programme = x.header.programme; known = st.known; unknown = st.unknown }) to)
unfolding object_audio_metadata_payload
nothing-dropped s x h bytes st to last none =
    let o = opened s x h in
    let b = bit s in
    let e : ℕ = 8 * length s in
    let all : x.sifting ≡ passed st to = λ i. record { gone = none i; last = last i } in (
      all_left s x h bytes none,
      bind_is _ _ b 0 e past_payload o.header_read ∙ bind_is _ _ b x.head e past_payload o.count-read
          ∙ bind_is _ _ b x.body e past_payload (reads-sift _ _ _ _ b x.body e (sym o.sifted ∙ all)) ∙ give_is _ b to e past_payload,
    )

-- ---- the same bytes

-- what an accepted salvage answers
salvaging_is : (s out : List ℕ) (x : Sieve) → Sieved s x → length s ≤ most_bytes → {st : State} {to : ℕ} → x.sifting.last ≡ ok st to
    → length (remaining s x) ≤ length out → salvaging s out ≡ salvaged_to out (gone_of x) (remaining s x)
unfolding salvaging roomed
salvaging_is s out x h short last room =
    rw (le-leb (length s) most_bytes short, h) (ap (finished s out x) last ∙ rw (le-leb (length (remaining s x)) (length out) room))

-- An accepted payload comes back as the same bytes.
pub same_back : (s : List ℕ) → Bytes s → length s ≤ most_bytes → (q : Payload) (to : ℕ) → parsed s ≡ ok q to → SameBack s
same_back s bytes short q to h out room =
    let y = whole s h in
    let none = ap (λ (z : Sifting). z.gone) y.all in
    let same = all_left s y.sieve y.sieved bytes none in
    salvaging_is s out y.sieve y.sieved short (ap (λ (z : Sifting). z.last) y.all) (omega (arith, ap length same)) ∙ ap₂ (salvaged_to out) none same

pub same_read : (frame : ℕ) (s buffer trim : List ℕ) → Bytes s → (reading frame s buffer trim).answer.refusal ≡ 0 → SameBack s
same_read frame s buffer trim bytes accepted =
    let r = read_of frame s buffer trim accepted in
    same_back s bytes r.short r.payload r.to r.ran

-- ---- what is left is bytes

to_bytes-bytes : (l : List ℕ) → Binary l → Bytes (to_bytes l)
unfolding to_bytes
to_bytes-bytes l bin i =
    let n : ℕ = (length l + 7) / 8 in
    let m = length-pack (listed l) 0 n in
    by_order n i (λ h. rw (get_or-eq_default (pack (listed l) 0 n) 0 {n = i} (omega arith)) (omega arith))
    (λ h.
    let byte : List ℕ = slice (listed l) (0 + 8 * i) 8 in
    rw (get_or-pack (listed l) 0 n i h) (rw (length-slice (listed l) (0 + 8 * i) 8) at (number_lt byte (binary-slice (listed l) (0 + 8 * i) 8 bin))))

-- Salvage of what salvage leaves is the same bytes.
pub again : (s out : List ℕ) (y : Salvages s out) → SameBack (remaining s y.sieve)
unfolding remaining
again s out y =
    let x = y.sieve in
    let r = y.remains in
    same_back (remaining s x) (to_bytes-bytes _ (left-binary s x r.sieved (gone_of x))) (omega (arith, y.fewer, y.short)) _ r.to r.read
