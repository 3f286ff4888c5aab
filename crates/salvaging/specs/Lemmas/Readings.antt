-- Reading what is left when some of the elements that are dropped are out: it goes as the pass over the payload as it came.
use Rattle.std.specs.Prelude.{◌≡◌, List, [], ◌∷◌, ◌++◌, ℕ, zero, suc, ◌+◌, ◌-◌, ◌*◌, ◌≤◌, ◌<◌, length, take}
use Rattle.std.proofs.Common.{sym, ap, ◌∙◌, subst, arith, length-append, length-take-le}
use Rattle.bits.specs.Language.{Res, ok, no, Bits, slice, P, run, bit, past_payload}
use Rattle.bits.specs.Steps.{ok_at, bind_is, bind_stops, give_is, length-slice, slice_get}
use Rattle.bits.specs.Laws.{local}
use Rattle.bits.specs.Lists.{holds_left, holds_right}
use Rattle.bits.specs.Bytes.{bit_lt}
use Rattle.bits.specs.Writes.{listed}
use Rattle.bits.specs.Terms.{Holds, taken}
use Rattle.bits.specs.Moves.{moves}
use Rattle.oamd.specs.declared.Gone.{Gone}
use Rattle.oamd.specs.declared.Programme.{Programme}
use Rattle.oamd.specs.Element.{State, nothing, frame, oa_element_md, elements}
use Rattle.oamd.specs.Payload.{header, object_audio_metadata_payload}
use Rattle.oamd.specs.Sift.{Sifting, gone_at, sift, Sieve}
use Rattle.demands.specs.Assembly.{count_bits}
use Rattle.demands.specs.Lemmas.Assembled.{count-writes}
use Rattle.salvaging.specs.Salvage.{without, left}
use Rattle.salvaging.specs.Promises.{Sieved, gone_of, InOrder, none, one, reads, left_of}
use Rattle.salvaging.specs.Lemmas.Turns.{sift_next}
use Rattle.salvaging.specs.Lemmas.Order.{sift_orderly, opened}
use Rattle.salvaging.specs.Lemmas.Keeping.{without_from}
use Rattle.salvaging.specs.Lemmas.Backs.{backs-md}

-- ---- the bits that are left

order_fits : {at e : ℕ} {gs : List Gone} → InOrder at gs e → at ≤ e
order_fits (none l) = l
order_fits (one g gs l m x) = omega (arith, order_fits x)

-- the first of those that stand in order do
pub order-take : {at e : ℕ} {gs : List Gone} (i : ℕ) → InOrder at gs e → InOrder at (take i gs) e
order-take zero h = none (order_fits h)
order-take (suc i) (none l) = none l
order-take (suc i) (one g gs l m x) = one g (take i gs) l m (order-take i x)

-- one that begins here is left out
without_first : (b : Bits) (at to e r pl : ℕ) (gs : List Gone) → without b at (gone_at b at to r pl ∷ gs) e ≡ without b to gs e
unfolding without slice
without_first b at to e r pl gs = let z : at - at ≡ 0 = omega arith in rw z

-- ---- the reading of what is left

-- the bits l stand in c from at on, up to before e
record Fills (c : Bits) (at e : ℕ) (l : List ℕ) : Type 0 where
  holds : Holds c at l
  ends : at + length l ≡ e

fills-list : (l : List ℕ) → Fills (listed l) 0 (length l) l
fills-list l = record { holds = λ i j. ap (listed l) (omega arith); ends = omega arith }

fills-behind : {c : Bits} {at e : ℕ} (l m : List ℕ) → Fills c at e (l ++ m) → Fills c (at + length l) e m
fills-behind {c} {at} l m x = record { holds = holds_right c at l m x.holds; ends = omega (arith, x.ends, length-append l m) }

-- what was read is read again where its w bits stand
read_again : {A : Type 0} (p : P A) (b : Bits) (at e w : ℕ) {v : A} {to : ℕ} → run p b at e past_payload ≡ ok v to → at ≤ e → to ≡ at + w → (c : Bits) (at' e' : ℕ) (rest : List ℕ)
    → Fills c at' e' (slice b at w ++ rest) → run p c at' e' past_payload ≡ ok v (at' + length (slice b at w))
read_again p b at e w h le goes c at' e' rest x =
    let lo = local p b at e past_payload h le in
    let long = length-slice b at w in
    let used : at' + length (slice b at w) ≡ at' + lo.used = omega (arith, lo.ends) in
    ok_at
    (lo.moved c at' e' past_payload
    (λ i j. slice_get b at w i (omega (arith, lo.ends)) ∙ sym (holds_left c at' (slice b at w) rest x.holds i (omega (arith, lo.ends))))
    (omega (arith, lo.ends, x.ends, length-append (slice b at w) rest))) used

-- an answer on bits that end at e, and one on what is left of them, which ends at e': the same state, or the same refusal, as far from the end
abbrev pub Like : ℕ → ℕ → Res State → Res State → Type 0
Like e e' (ok st to) x = (end : ℕ) × (x ≡ ok st end)
Like e e' (no r pl m) x = (place : ℕ) × (x ≡ no r place m) × (place + e ≡ pl + e')

-- the answer x when the first i of those that are dropped are out: refused as the next one is, or like the last of the pass
abbrev pub Next : ℕ → ℕ → List Gone → Res State → ℕ → Res State → Type 0
Next e e' [] last i x = Like e e' last x
Next e e' (g ∷ gs) last zero x = (m : ℕ) × Like e e' (no g.refusal g.place.0 m) x
Next e e' (g ∷ gs) last (suc i) x = Next e e' gs last i x

-- the pass y over n elements of b from at on, and their reading in c from at' on, when the first i of those that are dropped are out
abbrev Again : Programme → ℕ → ℕ → State → Bits → ℕ → ℕ → ℕ → Bits → ℕ → ℕ → Sifting → Type 0
Again p alternate n st b at e i c at' e' y = i ≤ length y.gone → Fills c at' e' (without b at (take i y.gone) e)
    → Next e e' y.gone y.last i (run (elements p alternate (n - i) st) c at' e' past_payload)

-- it begins with an element that is read
again_kept : (p : Programme) (alternate n : ℕ) (st : State) (b : Bits) (at e : ℕ) → at ≤ e → (i : ℕ) (c : Bits) (at' e' : ℕ) {st' : State} {to : ℕ}
    → run (oa_element_md p alternate st) b at e past_payload ≡ ok st' to
    → (to ≤ e → (mid : ℕ) → Again p alternate n st' b to e i c mid e' (sift p alternate n st' b to e))
    → Again p alternate (suc n) st b at e i c at' e' (sift p alternate n st' b to e)
unfolding elements
again_kept p alternate n st b at e le i c at' e' {st'} {to} h rest few x =
    let lo = local (oa_element_md p alternate st) b at e past_payload h le in
    let y = sift p alternate n st' b to e in
    let o = sift_orderly p alternate n st' b to e lo.fits in
    let later = without b to (take i y.gone) e in
    let whole : Fills c at' e' (taken b at to ++ later) = subst (Fills c at' e') (sym (without_from b (omega (arith, lo.ends)) (order-take i o.order))) x in
    let element = read_again (oa_element_md p alternate st) b at e (to - at) h le (omega (arith, lo.ends)) c at' e' later whole in
    let less : suc n - i ≡ suc (n - i) = omega (arith, few, o.few) in
    rw less (subst (Next e e' y.gone y.last i) (sym (bind_is _ _ c at' e' past_payload element))
    (rest lo.fits (at' + length (taken b at to)) few (fills-behind (taken b at to) later whole)))

-- it begins with one that is refused, and all from that on is left
again-refused : (p : Programme) (alternate n : ℕ) (st : State) (b : Bits) → ((i : ℕ) → b i < 2) → (at e : ℕ) → at ≤ e → (c : Bits) (at' e' : ℕ) {r pl m : ℕ}
    → run (oa_element_md p alternate st) b at e past_payload ≡ no r pl m → Fills c at' e' (taken b at e)
    → Like e e' (no r pl m) (run (elements p alternate (suc n - 0) st) c at' e' past_payload)
unfolding elements
again-refused p alternate n st b bin at e le c at' e' h x =
    let long = length-slice b at (e - at) in
    let y = moves 0 (oa_element_md p alternate st) (backs-md p alternate st) b c bin at e at' e' past_payload h le (omega arith) (omega arith)
    (λ i j. slice_get b at (e - at) i j ∙ sym (x.holds i (omega arith))) (omega (arith, x.ends)) in
    let all : suc n - 0 ≡ suc n = omega arith in
    (y.place, rw all (bind_stops _ _ c at' e' past_payload y.again), omega (arith, y.moved, x.ends))

-- every pass
again : (p : Programme) (alternate n : ℕ) (st : State) (b : Bits) → ((i : ℕ) → b i < 2) → (at e : ℕ) → at ≤ e → (i : ℕ) (c : Bits) (at' e' : ℕ)
    → Again p alternate n st b at e i c at' e' (sift p alternate n st b at e)
unfolding sift elements without
again p alternate zero st b bin at e le zero c at' e' = λ few x. (at', give_is st c at' e' past_payload)
again p alternate zero st b bin at e le (suc i) c at' e' = λ few x. absurd (omega arith)
again p alternate (suc n) st b bin at e le zero c at' e' =
    sift_next p alternate n st b at e (Again p alternate (suc n) st b at e zero c at' e')
    (λ st' to h. again_kept p alternate n st b at e le zero c at' e' h (λ fits mid. again p alternate n st' b bin to e fits zero c mid e'))
    (λ r pl m h over few x. again-refused p alternate n st b bin at e le c at' e' h x)
    (λ r pl m f to h w few x. (m, again-refused p alternate n st b bin at e le c at' e' h x))
again p alternate (suc n) st b bin at e le (suc i) c at' e' =
    sift_next p alternate n st b at e (Again p alternate (suc n) st b at e (suc i) c at' e')
    (λ st' to h. again_kept p alternate n st b at e le (suc i) c at' e' h (λ fits mid. again p alternate n st' b bin to e fits (suc i) c mid e'))
    (λ r pl m h over few x. absurd (omega arith))
    (λ r pl m f to h w few x.
    let fits = (local (frame alternate) b at e past_payload w le).fits in
    let less : suc n - suc i ≡ n - i = omega arith in
    rw less (again p alternate n st b bin to e fits i c at' e' (omega (arith, few))
    (subst (Fills c at' e') (without_first b at to e r pl (take i (sift p alternate n st b to e).gone)) x)))

-- ---- the payload

-- The reading of what is left of a payload when the first i are out: what its elements answer, and with that all of it.
pub record Reread (s : List ℕ) (x : Sieve) (i : ℕ) : Type 0 where
  pub answer : Res State
  pub next : Next (8 * length s) (length (left_of s x i)) (gone_of x) x.sifting.last i answer
  pub accepted : (st : State) (to : ℕ) → answer ≡ ok st to
      → reads (left_of s x i) ≡ ok (record { programme = x.header.programme; known = st.known; unknown = st.unknown }) to
  pub refused : (r pl m : ℕ) → answer ≡ no r pl m → reads (left_of s x i) ≡ no r pl m

-- header and count stand before the elements
pub reread : (s : List ℕ) (x : Sieve) → Sieved s x → (i : ℕ) → i ≤ length (gone_of x) → Reread s x i
unfolding left object_audio_metadata_payload
reread s x sieved i le =
    let b = bit s in
    let e : ℕ = 8 * length s in
    let o = opened s x sieved in
    let start : State = record { known = nothing; unknown = 0 } in
    let n : ℕ = x.count - length (take i (gone_of x)) in
    let out : x.count - i ≡ n = ap (λ (k : ℕ). x.count - k) (sym (length-take-le i (gone_of x) le)) in
    let head : List ℕ = slice b 0 x.head in
    let rest : List ℕ = without b x.body (take i (gone_of x)) e in
    let c = listed (left_of s x i) in
    let e' : ℕ = length (left_of s x i) in
    let all : Fills c 0 e' (head ++ (count_bits n ++ rest)) = fills-list (left_of s x i) in
    let count = fills-behind head (count_bits n ++ rest) all in
    let body = fills-behind (count_bits n) rest count in
    let at' : ℕ = 0 + length head + length (count_bits n) in
    let first = read_again header b 0 e x.head o.header_read (omega arith) (omega arith) c 0 e' (count_bits n ++ rest) all in
    let second = (count-writes n (omega (arith, o.most))).reads c (0 + length head) e' past_payload
    (holds_left c (0 + length head) (count_bits n) rest count.holds) (omega (arith, body.ends)) in
    let next = subst (Again x.header.programme x.header.alternate x.count start b x.body e i c at' e') (sym o.sifted)
    (again x.header.programme x.header.alternate x.count start b (bit_lt s) x.body e o.bodied i c at' e') le body in
    record {
      answer = run (elements x.header.programme x.header.alternate n start) c at' e' past_payload;
      next = subst (λ (k : ℕ). Next e e' (gone_of x) x.sifting.last i (run (elements x.header.programme x.header.alternate k start) c at' e' past_payload))
          out next;
      accepted = λ st to h.
          bind_is _ _ c 0 e' past_payload first ∙ bind_is _ _ c (0 + length head) e' past_payload second
          ∙ bind_is _ _ c at' e' past_payload h ∙ give_is _ c to e' past_payload;
      refused = λ r pl m h.
          bind_is _ _ c 0 e' past_payload first ∙ bind_is _ _ c (0 + length head) e' past_payload second ∙ bind_stops _ _ c at' e' past_payload h;
    }
